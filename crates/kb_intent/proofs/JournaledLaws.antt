-- The tree with a journal opens what the transaction makes of the tree without it.
use Rattle.std.proofs.Common.{◌≡◌, ℕ, Bool, true, false, cond, ◌&&◌, ◌||◌, not, List, [], ◌∷◌, Option, Some, None, codes, refl, sym, ap, ◌∙◌, subst, inl}
use Rattle.std.specs.List.{list_any}
use Rattle.std.proofs.lemmas.Bool.{true≢false, or_left}
use Rattle.kb_world.specs.Area.{IsLeft}
use Rattle.kb_world.specs.Path.{Path, is_under}
use Rattle.kb_world.specs.Public.{intent_path, is_private, is_public, is_loose, public_tree}
use Rattle.kb_world.specs.Roots.{AreApart}
use Rattle.kb_world.specs.Script.{Script}
use Rattle.kb_world.specs.State.{State}
use Rattle.kb_world.specs.Tree.{Tree, node_at, is_dir, IsFormed}
use Rattle.kb_world.specs.TreeLaws.{same_tree, node_at-retain}
use Rattle.kb_world.specs.declared.child.Area.{Area}
use Rattle.kb_world.specs.declared.roots.Roots.{Roots}
use Rattle.kb_world.specs.declared.tree.Node.{Node}
use Rattle.kb_world.proofs.PathLaws.{under-self}
use Rattle.kb_world.proofs.PublicLaws.{node_at-public_tree}
use Rattle.kb_changes.specs.Change.{done}
use Rattle.kb_changes.specs.Text.{IsJournal}
use Rattle.kb_changes.specs.Valid.{written_roots, new_intent_path, is_kept_out, is_valid}
use Rattle.kb_changes.specs.declared.change.Change.{Change}
use Rattle.kb_changes.specs.declared.change.Change.TheVariants as changes
use Rattle.kb_changes.specs.declared.change.Intent.{Intent}
use Rattle.kb_again.specs.Sparing.{IsSparing, AreSparing, areas_of}
use Rattle.kb_again.specs.Unseen.{is_shown, AreAlike, HaveStaged, AreDoneAlike}
use Rattle.kb_again.specs.Within.{IsWithinNext, IsDoneAlike}
use Rattle.kb_again.proofs.AlikeLaws.{alike_parts}
use Rattle.kb_again.proofs.FactLaws.{untouched_is}
use Rattle.kb_again.proofs.Laws.{unseen_done_alike}
use Rattle.kb_again.proofs.RootLaws.{untouched_private}
use Rattle.kb_machine.specs.Aside.{is_aside, IsSameBut}
use Rattle.kb_machine.specs.Commits.{IsBareOf, cleaned, transacted}
use Rattle.kb_machine.specs.Opens.{Opens}
use Rattle.kb_machine.specs.Stands.{Stands}
use Rattle.kb_machine.proofs.AsideLaws.{aside_public, aside_journal}
use Rattle.kb_machine.proofs.AsideThenLaws.{all_wider}
use Rattle.kb_machine.proofs.RestLaws.{spared_public, spared_journal, rests_from}
use Rattle.kb_intent.specs.Finish.{HasJournal, store_after}
use Rattle.kb_intent.specs.Journaling.{with_journal, is_begun_at}
use Rattle.kb_intent.specs.Staging.{LeftBut}
use Rattle.kb_intent.proofs.ButLaws.{same_wider}
use Rattle.kb_intent.proofs.PlaceLaws.{apart_one, left_aside}
use Rattle.kb_intent.proofs.PutJournalLaws.{journal_here, journal_apart, journal_dirs, journal_formed}
use Rattle.kb_intent.proofs.StandingLaws.{cut_alike, opens_alike, stands_alike}
use Rattle.kb_intent.proofs.UnreachedLaws.{not_staged, unreached}

-- ---- sparing areas

pub sparing_more : (roots : Roots) (own soft : List Area) → AreSparing roots [] soft → AreSparing roots own soft
sparing_more roots own soft spares =
    all_wider (IsSparing roots []) (IsSparing roots own) soft (λ area s. record { kept_out = s.kept_out; public = λ q reached counted. absurd (true≢false (sym (s.public q reached counted))) }) spares

-- ---- what is kept out isn't public

kept_private : (roots : Roots) (q : Path) → is_kept_out roots q ≡ true → is_private roots q ≡ true
kept_private roots q kept = or_left _ _ (untouched_private roots q (untouched_is roots q ∙ or_left _ _ kept))

cleaned_public : (roots : Roots) (tree : Tree) → public_tree roots (cleaned roots tree) ≡ public_tree roots tree
cleaned_public roots tree = same_tree _ _ (λ q. node_at-public_tree roots (cleaned roots tree) q ∙ by q (is_kept_out roots q) refl ∙ sym (node_at-public_tree roots tree q))
  where
    not_public : (a b c : Bool) → b ≡ true → (a && not b && not c) ≡ false
    not_public true b c h = ap (λ x. not x && not c) h
    not_public false b c h = refl

    none : (q : Path) (at : Option Node) → is_kept_out roots q ≡ true → cond (is_public roots q at) at None ≡ None
    none q at kept = ap (λ b. cond b at None) (not_public (list_any (is_under q) (written_roots roots)) (is_private roots q) (is_loose roots q at) (kept_private roots q kept))

    by : (q : Path) (b : Bool) → is_kept_out roots q ≡ b
        → cond (is_public roots q (node_at (cleaned roots tree) q)) (node_at (cleaned roots tree) q) None ≡ cond (is_public roots q (node_at tree q)) (node_at tree q) None
    by q true e = none q (node_at (cleaned roots tree) q) e ∙ sym (none q (node_at tree q) e)
    by q false e = ap (λ at. cond (is_public roots q at) at None) (node_at-retain tree (λ path. not (is_kept_out roots path)) q ∙ ap (λ b. cond (not b) (node_at tree q) None) e)

-- nothing is cut off at the tree itself
within_itself : (roots : Roots) (script : Script) (cs : List Change) (tree : Tree) → IsFormed tree → IsWithinNext roots script cs tree tree
within_itself roots script [] tree formed = refl
within_itself roots script (changes.Dir path ∷ cs) tree formed = inl refl
within_itself roots script (changes.Put base number target ∷ cs) tree formed = inl refl
within_itself roots script (changes.Drop path ∷ cs) tree formed = inl refl
within_itself roots script (changes.DropDir path ∷ cs) tree formed = inl refl
within_itself roots script (changes.Wipe path ∷ cs) tree formed = (formed, λ q. inl refl)
within_itself roots script (changes.Run request ∷ cs) tree formed = record { each = λ q. inl refl; formed = formed }

module _ (roots : Roots) (script : Script) (intent : Intent) (text : List ℕ) (apart : AreApart roots) (valid : is_valid roots intent.changes ≡ true) (journal : IsJournal roots text intent)
    (tree : Tree) (formed : IsFormed tree) (home : is_dir (node_at tree roots.dkms) ≡ true) (bare : node_at tree (intent_path roots) ≡ None) (free : node_at tree (new_intent_path roots) ≡ None) where
  abbrev journaled : Tree
  journaled = with_journal roots text tree

  abbrev first : Tree
  first = public_tree roots tree

  abbrev second : Tree
  second = public_tree roots (transacted roots script intent.changes tree).tree

  formed_journaled : IsFormed journaled
  formed_journaled = journal_formed roots tree home bare free text formed

  pub has_journal : HasJournal roots intent journaled
  has_journal = record { bytes = text; exec = false; stands = journal_here roots tree home bare free text; journal = journal }

  -- ---- before and behind it the same is done

  journal_kept_out : is_kept_out roots (intent_path roots) ≡ true
  journal_kept_out = or_left (is_under (intent_path roots) (intent_path roots)) _ (under-self (intent_path roots))

  journal_hidden : is_shown roots (intent_path roots) ≡ true → ⊥
  journal_hidden shown = true≢false (sym shown ∙ ap (λ b. not (b || is_under (intent_path roots) (new_intent_path roots))) journal_kept_out)

  alike : AreAlike roots journaled tree
  alike = record {
    shown = λ q shown. journal_apart roots tree home bare free text q (λ same. journal_hidden (ap (is_shown roots) (sym same) ∙ shown));
    directories = journal_dirs roots tree home bare free text;
  }

  staged : HaveStaged roots intent.changes journaled tree
  staged q listed = journal_apart roots tree home bare free text q
      (λ same. not_staged roots apart intent.changes q (codes ".intent") (apart_one roots.dkms (codes ".kb-staged") (codes ".intent") refl refl) same listed)

  pub same_done : AreDoneAlike roots script intent.changes journaled tree
  same_done = unseen_done_alike roots script intent.changes journaled tree apart valid formed_journaled formed alike staged

  pub same_cleaned : cleaned roots (done roots script intent.changes journaled) ≡ cleaned roots (done roots script intent.changes tree)
  same_cleaned = same_tree _ _ (λ q.
      node_at-retain (done roots script intent.changes journaled) keeps q ∙ by q (is_kept_out roots q) refl ∙ sym (node_at-retain (done roots script intent.changes tree) keeps q))
    where
      keeps : Path → Bool
      keeps path = not (is_kept_out roots path)

      shown : (q : Path) → is_kept_out roots q ≡ false → (b : Bool) → is_under q (new_intent_path roots) ≡ b → node_at (done roots script intent.changes journaled) q ≡ node_at (done roots script intent.changes tree) q
      shown q out true under =
          unreached roots apart script intent.changes journaled q valid under
          ∙ journal_apart roots tree home bare free text q (λ same. true≢false (sym (ap (is_kept_out roots) same ∙ journal_kept_out) ∙ out))
          ∙ sym (unreached roots apart script intent.changes tree q valid under)
      shown q out false apart_too = same_done.trees.shown q (λ i. not (out i || apart_too i))

      by : (q : Path) (b : Bool) → is_kept_out roots q ≡ b
          → cond (not (is_kept_out roots q)) (node_at (done roots script intent.changes journaled) q) None ≡ cond (not (is_kept_out roots q)) (node_at (done roots script intent.changes tree) q) None
      by q true e =
          ap (λ b. cond (not b) (node_at (done roots script intent.changes journaled) q) None) e ∙ sym (ap (λ b. cond (not b) (node_at (done roots script intent.changes tree) q) None) e)
      by q false e = ap (λ at. cond (not (is_kept_out roots q)) at None) (shown q e (is_under q (new_intent_path roots)) refl)

  pub second_is : store_after roots script intent.changes journaled ≡ second
  second_is =
      (alike_parts roots (done roots script intent.changes journaled) (done roots script intent.changes tree) same_done.trees).0 ∙ sym (cleaned_public roots (done roots script intent.changes tree))

  -- ---- what a crash leaves

  module _ (soft : List Area) (spares : AreSparing roots [] soft) where
    aside : (mid : Tree) → IsSameBut (is_begun_at roots) tree mid → IsSameBut (is_aside roots) tree mid
    aside mid same = same_wider (is_begun_at roots) (is_aside roots) (λ q under. left_aside roots apart q (or_left _ _ under)) tree mid same

    -- before it the old store, and no journal
    pub early_bare : (image : Tree) → LeftBut (is_begun_at roots) soft tree image → IsBareOf roots first image
    early_bare image left = record {
      public = spared_public roots soft left.mid image spares left.left ∙ aside_public roots tree left.mid (aside left.mid left.same);
      bare = spared_journal roots [] soft left.mid image spares left.left ∙ aside_journal roots tree left.mid (aside left.mid left.same) ∙ bare;
    }

    pub early_stands : (state : State) (now : Tree) → state.tree ≡ Some now → state.history.soft ≡ soft → IsSameBut (is_begun_at roots) tree now → Stands roots first state
    early_stands state now told is same = subst (λ s. Stands roots s state) (aside_public roots tree now (aside now same))
        (rests_from roots state now told (aside_journal roots tree now (aside now same) ∙ bare) (subst (AreSparing roots []) (sym is) spares)).stands

  image_alike : (image : Tree) (soft : List Area) → AreSparing roots (areas_of intent.changes) soft → IsLeft soft journaled image → IsDoneAlike roots script intent.changes journaled image
  image_alike image soft spares left =
      cut_alike roots script intent.changes journaled apart valid formed_journaled (Some journaled) journaled image soft refl
      (record { front = []; back = intent.changes; split = refl; now = journaled; told = refl; within = within_itself roots script intent.changes journaled formed_journaled }) spares left

  -- behind it what opens the new one
  pub late_opens : (soft : List Area) → AreSparing roots [] soft → (image : Tree) → IsLeft soft journaled image → Opens roots script image second
  late_opens soft spares image left = subst (Opens roots script image) second_is
      (opens_alike roots script intent.changes journaled apart valid formed_journaled intent has_journal refl image (image_alike image soft (sparing_more roots (areas_of intent.changes) soft spares) left))

  pub late_stands : (state : State) → state.tree ≡ Some journaled → state.script ≡ script → AreSparing roots [] state.history.soft → Stands roots second state
  late_stands state told scripted spares = subst (λ s. Stands roots s state) second_is
      (stands_alike roots script intent.changes journaled apart valid formed_journaled intent has_journal refl state journaled told scripted formed_journaled
      (sparing_more roots (areas_of intent.changes) state.history.soft spares) image_alike)
