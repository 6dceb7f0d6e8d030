-- What a tree opens in which the journal of changes stands, that are done in part or behind which some of what was staged is
-- gone.
use Rattle.std.proofs.Common.{◌≡◌, ◌⊎◌, Bool, true, false, cond, ◌&&◌, ◌||◌, not, List, [], ◌∷◌, ◌++◌, take, Option, Some, None, refl, sym, ap, ◌∙◌, subst, inl, inr, append-nil}
use Rattle.std.specs.Prelude.{codes}
use Rattle.std.specs.List.{list_any, AllByRecursion}
use Rattle.kb_world.specs.Area.{IsLeft}
use Rattle.kb_world.specs.Path.{Path, is_under, child}
use Rattle.kb_world.specs.Public.{intent_path, is_private, is_loose, is_public, public_tree}
use Rattle.kb_world.specs.Roots.{AreApart}
use Rattle.kb_world.specs.Script.{Script}
use Rattle.kb_world.specs.State.{State}
use Rattle.kb_world.specs.Crash.{LeftOf}
use Rattle.kb_world.specs.StorePath.{store_path, is_in_scratch}
use Rattle.kb_world.specs.Tree.{Tree, node_at, without, is_dir, IsFormed}
use Rattle.kb_world.specs.TreeLaws.{same_tree, same_path, same_path-true, node_at-remove, remove-here}
use Rattle.kb_world.specs.declared.child.Area.{Area}
use Rattle.kb_world.specs.declared.roots.Roots.{Roots}
use Rattle.kb_world.specs.declared.tree.Node.{Node}
use Rattle.kb_world.proofs.PathLaws.{under-self}
use Rattle.kb_world.proofs.PublicLaws.{node_at-public_tree}
use Rattle.kb_changes.specs.Change.{done}
use Rattle.kb_changes.specs.Valid.{is_valid, is_kept_out, new_intent_path}
use Rattle.kb_changes.specs.declared.change.Change.{Change}
use Rattle.kb_changes.specs.declared.change.Intent.{Intent}
use Rattle.kb_again.specs.Sparing.{IsSparing, AreSparing, areas_of}
use Rattle.kb_again.specs.Within.{IsWithinNext, IsBetween, IsUnstaged, IsDoneAlike, staging_paths}
use Rattle.kb_again.proofs.Laws.{between_done_alike, unstaged_done_alike, own_sparing, journal_kept}
use Rattle.kb_machine.specs.Aside.{IsOneArea}
use Rattle.kb_machine.specs.Commits.{cleaned}
use Rattle.kb_machine.specs.Opens.{IsReady, recovers, Opens, own_areas}
use Rattle.kb_machine.specs.Stands.{Stands}
use Rattle.kb_machine.proofs.AsideThenLaws.{all_append, all_wider, left_by_members, all_members, member_right}
use Rattle.kb_walk.proofs.WipeLaws.{cleared_at, bare_gone}
use Rattle.kb_intent.specs.Clearing.{without_trees}
use Rattle.kb_intent.specs.Doing.{IsCutOffNow}
use Rattle.kb_intent.specs.Finish.{HasJournal, store_after}
use Rattle.kb_intent.proofs.ClearingLaws.{member_has, any_front, any_behind, without_trees-at}

-- ---- what is private isn't in the public tree

abbrev pub IsHiddenFrom : Roots → Tree → Tree → Type 0
IsHiddenFrom roots before after = (q : Path) → (node_at after q ≡ node_at before q) ⊎ (is_private roots q ≡ true)

hidden_public : (roots : Roots) (before after : Tree) → IsHiddenFrom roots before after → public_tree roots after ≡ public_tree roots before
hidden_public roots before after hidden = same_tree _ _ (λ q. node_at-public_tree roots after q ∙ at_path q (hidden q) ∙ sym (node_at-public_tree roots before q))
  where
    not_public : (a b c : Bool) → b ≡ true → (a && not b && not c) ≡ false
    not_public true b c h = ap (λ x. not x && not c) h
    not_public false b c h = refl

    none : (q : Path) (at : Option Node) → is_private roots q ≡ true → cond (is_public roots q at) at None ≡ None
    none q at own = ap (λ b. cond b at None) (not_public _ (is_private roots q) (is_loose roots q at) own)

    at_path : (q : Path) → (node_at after q ≡ node_at before q) ⊎ (is_private roots q ≡ true)
        → cond (is_public roots q (node_at after q)) (node_at after q) None ≡ cond (is_public roots q (node_at before q)) (node_at before q) None
    at_path q (inl same) = ap (λ at. cond (is_public roots q at) at None) same
    at_path q (inr own) = none q (node_at after q) own ∙ sym (none q (node_at before q) own)

or_left : (a b : Bool) → a ≡ true → (a || b) ≡ true
or_left a b h = ap (λ x. x || b) h

pub staged_private : (roots : Roots) (q : Path) → list_any (is_under q) (staging_paths roots) ≡ true → is_private roots q ≡ true
staged_private roots q staged =
    or_left _ (is_in_scratch (store_path roots q))
    (any_behind (is_under q) (intent_path roots ∷ new_intent_path roots ∷ []) (staging_paths roots ++ child roots.boot (codes ".kb-plugins") ∷ [])
    (any_front (is_under q) (staging_paths roots) (child roots.boot (codes ".kb-plugins") ∷ []) staged))

pub journal_private : (roots : Roots) → is_private roots (intent_path roots) ≡ true
journal_private roots = or_left _ (is_in_scratch (store_path roots (intent_path roots))) (or_left _ _ (under-self (intent_path roots)))

pub begun_private : (roots : Roots) (q : Path) → is_under q (new_intent_path roots) ≡ true → is_private roots q ≡ true
begun_private roots q begun =
    or_left _ (is_in_scratch (store_path roots q))
    (any_behind (is_under q) (intent_path roots ∷ []) (new_intent_path roots ∷ staging_paths roots ++ child roots.boot (codes ".kb-plugins") ∷ []) (or_left (is_under q (new_intent_path roots)) _ begun))

-- the tree without its journal
module _ (roots : Roots) (tree : Tree) where
  pub bare_journal : node_at (without (intent_path roots) tree) (intent_path roots) ≡ None
  bare_journal = remove-here tree (intent_path roots)

  pub bare_hidden : IsHiddenFrom roots tree (without (intent_path roots) tree)
  bare_hidden q = by (same_path q (intent_path roots)) refl
    where
      by : (b : Bool) → same_path q (intent_path roots) ≡ b → (node_at (without (intent_path roots) tree) q ≡ node_at tree q) ⊎ (is_private roots q ≡ true)
      by true e = inr (ap (is_private roots) (same_path-true q (intent_path roots) e) ∙ journal_private roots)
      by false e = inl (node_at-remove tree (intent_path roots) q ∙ ap (λ b. cond b None (node_at tree q)) e)

pub unstaged_hidden : (roots : Roots) (before now : Tree) → IsUnstaged roots before now → IsHiddenFrom roots before now
unstaged_hidden roots before now gone q = elim (gone q) [ inl same ↦ inl same | inr staged ↦ inr (staged_private roots q staged.0) ]

pub unstaged_public : (roots : Roots) (before now : Tree) → IsUnstaged roots before now → public_tree roots now ≡ public_tree roots before
unstaged_public roots before now gone = hidden_public roots before now (unstaged_hidden roots before now gone)

pub bare_public : (roots : Roots) (tree : Tree) → public_tree roots (without (intent_path roots) tree) ≡ public_tree roots tree
bare_public roots tree = hidden_public roots tree (without (intent_path roots) tree) (bare_hidden roots tree)

-- what is left without what is staged and without the journal, at whose path no directory stood
pub cleaned_is : (roots : Roots) (tree : Tree) → IsFormed tree → is_dir (node_at tree (intent_path roots)) ≡ false → without (intent_path roots) (without_trees (staging_paths roots) tree) ≡ cleaned roots tree
cleaned_is roots tree formed file = same_tree _ _ (λ q.
    node_at-remove (without_trees (staging_paths roots) tree) journal q ∙ ap (cond (same_path q journal) None) (without_trees-at (staging_paths roots) tree q)
    ∙ by (same_path q journal) (is_under q journal) (list_any (is_under q) (staging_paths roots)) (node_at tree q) (journal_alone q) ∙ sym (cleared_at (is_kept_out roots) tree q))
  where
    journal : Path
    journal = intent_path roots

    journal_alone : (q : Path) → cond (same_path q journal) None (node_at tree q) ≡ cond (is_under q journal) None (node_at tree q)
    journal_alone q = sym (node_at-remove tree journal q) ∙ ap (λ t. node_at t q) (bare_gone tree formed journal file) ∙ cleared_at (λ other. is_under other journal) tree q

    by : (same under staged : Bool) (at : Option Node) → cond same None at ≡ cond under None at → cond same None (cond staged None at) ≡ cond (under || staged) None at
    by true true staged at e = refl
    by true false true at e = refl
    by true false false at e = e
    by false true true at e = refl
    by false true false at e = e
    by false false staged at e = refl

-- ---- sparing areas

pub sparing_now : (roots : Roots) (changes : List Change) (soft now : List Area) → AreApart roots → is_valid roots changes ≡ true → AreSparing roots (areas_of changes) soft
    → AllByRecursion (λ area. IsOneArea area (areas_of changes ++ soft)) now → AreSparing roots (areas_of changes) now
sparing_now roots changes soft now apart valid spares all =
    all_wider (λ area. IsOneArea area whole) (IsSparing roots (areas_of changes)) now
    (λ area one. member_has (IsSparing roots (areas_of changes)) whole area (all_append (IsSparing roots (areas_of changes)) (areas_of changes) soft (own_sparing roots changes apart valid) spares) one) all
  where
    whole : List Area
    whole = areas_of changes ++ soft

-- ---- the journal of changes stands

left_itself : (tree : Tree) → IsFormed tree → (soft : List Area) → IsLeft soft tree tree
left_itself tree formed soft = record { each = λ q. inl refl; formed = formed }

module _ (roots : Roots) (script : Script) (changes : List Change) (tree : Tree) (apart : AreApart roots) (valid : is_valid roots changes ≡ true) (formed : IsFormed tree) where
  -- a tree at which they were cut off does so too
  pub cut_between : (new : Option Tree) (now image : Tree) (soft : List Area) → new ≡ Some now → IsCutOffNow roots script changes new tree → IsLeft soft now image → IsBetween roots script changes soft tree image
  cut_between new now image soft told cut left = record {
    front = cut.front;
    back = cut.back;
    split = cut.split;
    mid = now;
    within = subst (IsWithinNext roots script cut.back (done roots script cut.front tree)) same cut.within;
    left = left_by_members soft (areas_of (cut.front ++ take 1 cut.back) ++ soft) now image
        (all_members soft (areas_of (cut.front ++ take 1 cut.back) ++ soft) (λ area one. member_right area (areas_of (cut.front ++ take 1 cut.back)) soft one)) left;
  }
    where
      same : cut.now ≡ now
      same = let both : Some cut.now ≡ Some now = sym cut.told ∙ told in cc

  pub cut_alike : (new : Option Tree) (now image : Tree) (soft : List Area) → new ≡ Some now → IsCutOffNow roots script changes new tree → AreSparing roots (areas_of changes) soft → IsLeft soft now image
      → IsDoneAlike roots script changes tree image
  cut_alike new now image soft told cut spares left = between_done_alike roots script changes soft tree image apart valid formed spares (cut_between new now image soft told cut left)

  -- behind them some of what was staged is gone
  pub unstaged_alike : (now image : Tree) (soft : List Area) → IsUnstaged roots (done roots script changes tree) now → AreSparing roots (areas_of changes) soft → IsLeft soft now image → IsDoneAlike roots script changes tree image
  unstaged_alike now image soft gone spares left = unstaged_done_alike roots script changes soft tree now image apart valid formed spares gone left

  pub unstaged_journal : (now : Tree) → IsFormed now → IsUnstaged roots (done roots script changes tree) now → node_at now (intent_path roots) ≡ node_at tree (intent_path roots)
  unstaged_journal now formed_now gone = (unstaged_alike now now [] gone tt (left_itself now formed_now [])).journal

  pub done_journal : node_at (done roots script changes tree) (intent_path roots) ≡ node_at tree (intent_path roots)
  done_journal = journal_kept roots script changes changes [] tree apart valid (append-nil changes)

  module _ (intent : Intent) (journal : HasJournal roots intent tree) (same : intent.changes ≡ changes) where
    ready_alike : (image : Tree) → IsDoneAlike roots script changes tree image → IsReady roots script image (done roots script intent.changes image) (Some intent)
    ready_alike image alike = recovers journal.bytes journal.exec intent (alike.journal ∙ journal.stands) journal.journal refl refl

    pub opens_alike : (image : Tree) → IsDoneAlike roots script changes tree image → Opens roots script image (store_after roots script changes tree)
    opens_alike image alike = (done roots script intent.changes image, Some intent, ready_alike image alike, ap (λ cs. public_tree roots (done roots script cs image)) same ∙ alike.public)

    -- it stands where whatever a crash leaves is such a tree
    pub stands_alike : (state : State) (now : Tree) → state.tree ≡ Some now → state.script ≡ script → IsFormed now → AreSparing roots (areas_of changes) state.history.soft
        → ((image : Tree) (soft : List Area) → AreSparing roots (areas_of changes) soft → IsLeft soft now image → IsDoneAlike roots script changes tree image)
        → Stands roots (store_after roots script changes tree) state
    stands_alike state now told scripted formed_now spares each = record {
      opens = λ image left. subst (λ f. Opens roots f image (store_after roots script changes tree)) (sym scripted)
          (opens_alike image (each image state.history.soft spares (subst (λ o. LeftOf state.history.soft o image) told left)));
      spares = λ t is.
          let found : now ≡ t = some_same now t (sym told ∙ is) in
          subst (λ x. (ready : Tree) × (found : Option Intent) × IsReady roots state.script x ready found × AreSparing roots (own_areas found) state.history.soft) found (
            done roots script intent.changes now,
            Some intent,
            subst (λ f. IsReady roots f now (done roots script intent.changes now) (Some intent)) (sym scripted) (ready_alike now (each now [] tt (left_itself now formed_now []))),
            subst (λ cs. AreSparing roots (areas_of cs) state.history.soft) (sym same) spares,
          );
    }
      where
        some_same : (a b : Tree) → Some a ≡ Some b → a ≡ b
        some_same a b e = cc
