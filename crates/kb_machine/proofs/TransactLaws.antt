-- A transaction, with a child behind it that may change nothing, is what an action says.
use Rattle.std.proofs.Common.{◌≡◌, ℕ, Bool, true, false, cond, ◌&&◌, ◌||◌, not, List, [], ◌∷◌, ◌++◌, map, flat_map, Option, None, refl, sym, ap, ◌∙◌}
use Rattle.std.proofs.lemmas.List.{append-nil}
use Rattle.std.proofs.lemmas.List.Folds.{list_any-append}
use Rattle.kb_world.specs.Path.{Path, is_under}
use Rattle.kb_world.specs.Tree.{Tree, node_at, is_dir}
use Rattle.kb_world.specs.TreeLaws.{same_tree, node_at-retain}
use Rattle.kb_world.specs.Public.{IsNeverForeign, intent_path, staging_path, is_foreign, is_private, is_public, public_tree, foreign_tree}
use Rattle.kb_world.specs.Script.{Script, answer, answer_in, tree_after}
use Rattle.kb_world.specs.View.{is_own}
use Rattle.kb_world.specs.Layout.{united}
use Rattle.kb_machine.specs.Outcome.{Outcome, transaction, warn, asks, ◌then◌}
use Rattle.kb_world.specs.declared.roots.Roots.{Roots}
use Rattle.kb_world.specs.declared.child.Area.TheVariants as areas
use Rattle.kb_world.specs.declared.child.Reply.{Reply}
use Rattle.kb_world.specs.declared.child.Request.{Request}
use Rattle.kb_world.specs.declared.tree.Node.{Node}
use Rattle.kb_world.proofs.LayoutLaws.{view-whole}
use Rattle.kb_world.proofs.PublicLaws.{node_at-public_tree, node_at-foreign_tree}
use Rattle.kb_machine.proofs.OutcomeLaws.{nothing_after}
use Rattle.kb_again.specs.Sparing.{reaches}
use Rattle.kb_changes.specs.Change.{do_change, done, request_at, requests_of, replies_of}
use Rattle.kb_changes.specs.Groups.{runs_in}
use Rattle.kb_changes.specs.Valid.{is_kept_out}
use Rattle.kb_changes.specs.declared.change.Change.{Change}
use Rattle.kb_changes.specs.declared.change.Change.TheVariants.{Dir, Put, Drop, DropDir, Wipe, Run}
use Rattle.kb_machine.specs.Across.{SaysSo}
use Rattle.kb_machine.specs.Behind.{may_touch, touched_by}
use Rattle.kb_machine.specs.Commits.{cleaned, transacted}

-- ---- what is kept out is private

pub kept_private : (roots : Roots) (q : Path) → is_kept_out roots q ≡ true → is_private roots q ≡ true
kept_private roots q h = by (is_under q (intent_path roots)) _ (is_under q (staging_path roots.dkms)) (is_under q (staging_path roots.src)) (is_under q (staging_path roots.modules)) (is_under q (staging_path roots.boot)) _ _ h
  where
    by : (i n d s m b p scratch : Bool) → (i || (d || (s || (m || (b || false))))) ≡ true → ((i || (n || (d || (s || (m || (b || (p || false))))))) || scratch) ≡ true
    by true n d s m b p scratch h = refl
    by false true d s m b p scratch h = refl
    by false false true s m b p scratch h = refl
    by false false false true m b p scratch h = refl
    by false false false false true b p scratch h = refl
    by false false false false false true p scratch h = refl
    by false false false false false false p scratch h = let impossible : false ≡ true = h in cc

private_hidden : (roots : Roots) (q : Path) (at : Option Node) → is_private roots q ≡ true → is_public roots q at ≡ false
private_hidden roots q at own = by _ (is_private roots q) _ own
  where
    by : (a b c : Bool) → b ≡ true → (a && not b && not c) ≡ false
    by true b c h = ap (λ x. not x && not c) h
    by false b c h = refl

pub private_unforeign : (roots : Roots) (q : Path) (at : Option Node) → is_private roots q ≡ true → is_foreign roots q at ≡ false
private_unforeign roots q at own = by (is_public roots q at) (is_private roots q) own
  where
    by : (a b : Bool) → b ≡ true → (not a && not b) ≡ false
    by true b h = refl
    by false b h = ap not h

-- ---- the public and the foreign tree of a tree that was cleaned

node_at-cleaned : (roots : Roots) (tree : Tree) (q : Path) → node_at (cleaned roots tree) q ≡ cond (not (is_kept_out roots q)) (node_at tree q) None
node_at-cleaned roots tree q = node_at-retain tree (λ path. not (is_kept_out roots path)) q

abbrev shown_of : (Path → Option Node → Bool) → Path → Option Node → Option Node
shown_of test q at = cond (test q at) at None

cleaned_shown : (roots : Roots) (test : Path → Option Node → Bool) → ((q : Path) (at : Option Node) → is_private roots q ≡ true → test q at ≡ false) → (tree : Tree) (q : Path)
    → shown_of test q (node_at (cleaned roots tree) q) ≡ shown_of test q (node_at tree q)
cleaned_shown roots test hides tree q = by (is_kept_out roots q) refl
  where
    by : (kept : Bool) → is_kept_out roots q ≡ kept → shown_of test q (node_at (cleaned roots tree) q) ≡ shown_of test q (node_at tree q)
    by true e =
        let own = kept_private roots q e in
        ap (λ b. cond b (node_at (cleaned roots tree) q) None) (hides q (node_at (cleaned roots tree) q) own) ∙ sym (ap (λ b. cond b (node_at tree q) None) (hides q (node_at tree q) own))
    by false e = ap (shown_of test q) (node_at-cleaned roots tree q ∙ ap (λ b. cond (not b) (node_at tree q) None) e)

pub cleaned_public : (roots : Roots) (tree : Tree) → public_tree roots (cleaned roots tree) ≡ public_tree roots tree
cleaned_public roots tree = same_tree _ _ (λ q.
    node_at-public_tree roots (cleaned roots tree) q ∙ cleaned_shown roots (is_public roots) (private_hidden roots) tree q ∙ sym (node_at-public_tree roots tree q))

pub cleaned_foreign : (roots : Roots) (tree : Tree) → foreign_tree roots (cleaned roots tree) ≡ foreign_tree roots tree
cleaned_foreign roots tree = same_tree _ _ (λ q.
    node_at-foreign_tree roots (cleaned roots tree) q ∙ cleaned_shown roots (is_foreign roots) (private_unforeign roots) tree q ∙ sym (node_at-foreign_tree roots tree q))

-- ---- changes without a child, and one behind them

no_head : {A : Type 0} (a : A) (rest : List A) → a ∷ rest ≡ [] → ⊥
no_head {A = A} a rest e = let impossible : ◌≡◌ {A = List A} (a ∷ rest) [] = e in cc

pub none_asked : (roots : Roots) (script : Script) (changes : List Change) (tree : Tree) → runs_in changes ≡ [] → requests_of roots script changes tree ≡ []
none_asked roots script [] tree none = refl
none_asked roots script (Dir path ∷ changes) tree none = none_asked roots script changes (do_change roots script (Dir path) tree) none
none_asked roots script (Put root number target ∷ changes) tree none = none_asked roots script changes (do_change roots script (Put root number target) tree) none
none_asked roots script (Drop path ∷ changes) tree none = none_asked roots script changes (do_change roots script (Drop path) tree) none
none_asked roots script (DropDir path ∷ changes) tree none = none_asked roots script changes (do_change roots script (DropDir path) tree) none
none_asked roots script (Wipe path ∷ changes) tree none = none_asked roots script changes (do_change roots script (Wipe path) tree) none
none_asked roots script (Run request ∷ changes) tree none = absurd (no_head request (runs_in changes) none)

pub none_said : (roots : Roots) (script : Script) (changes : List Change) (tree : Tree) → runs_in changes ≡ [] → replies_of roots script changes tree ≡ []
none_said roots script [] tree none = refl
none_said roots script (Dir path ∷ changes) tree none = none_said roots script changes (do_change roots script (Dir path) tree) none
none_said roots script (Put root number target ∷ changes) tree none = none_said roots script changes (do_change roots script (Put root number target) tree) none
none_said roots script (Drop path ∷ changes) tree none = none_said roots script changes (do_change roots script (Drop path) tree) none
none_said roots script (DropDir path ∷ changes) tree none = none_said roots script changes (do_change roots script (DropDir path) tree) none
none_said roots script (Wipe path ∷ changes) tree none = none_said roots script changes (do_change roots script (Wipe path) tree) none
none_said roots script (Run request ∷ changes) tree none = absurd (no_head request (runs_in changes) none)

-- what is done behind a front of the changes
done_behind : (roots : Roots) (script : Script) (front back : List Change) (tree : Tree) → done roots script (front ++ back) tree ≡ done roots script back (done roots script front tree)
done_behind roots script [] back tree = refl
done_behind roots script (change ∷ front) back tree = done_behind roots script front back (do_change roots script change tree)

asked_behind : (roots : Roots) (script : Script) (front back : List Change) (tree : Tree) → requests_of roots script front tree ≡ [] → requests_of roots script (front ++ back) tree ≡ requests_of roots script back (done roots script front tree)
asked_behind roots script [] back tree none = refl
asked_behind roots script (change ∷ front) back tree none =
    let parts = both_none (request_at change tree) (requests_of roots script front (do_change roots script change tree)) none in
    ap (λ first. first ++ requests_of roots script (front ++ back) (do_change roots script change tree)) parts.0
    ∙ asked_behind roots script front back (do_change roots script change tree) parts.1
  where
    both_none : {A : Type 0} (a b : List A) → a ++ b ≡ [] → (a ≡ []) × (b ≡ [])
    both_none [] b e = (refl, e)
    both_none (x ∷ a) b e = absurd (no_head x (a ++ b) e)

said_behind : (roots : Roots) (script : Script) (front back : List Change) (tree : Tree) → replies_of roots script front tree ≡ [] → replies_of roots script (front ++ back) tree ≡ replies_of roots script back (done roots script front tree)
said_behind roots script [] back tree none = refl
said_behind roots script (change ∷ front) back tree none =
    let said = map (λ request. (answer_in roots script request tree).reply) (request_at change tree) in
    let parts = both_none said (replies_of roots script front (do_change roots script change tree)) none in
    ap (λ first. first ++ replies_of roots script (front ++ back) (do_change roots script change tree)) parts.0
    ∙ said_behind roots script front back (do_change roots script change tree) parts.1
  where
    both_none : {A : Type 0} (a b : List A) → a ++ b ≡ [] → (a ≡ []) × (b ≡ [])
    both_none [] b e = (refl, e)
    both_none (x ∷ a) b e = absurd (no_head x (a ++ b) e)

-- ---- what the action says

module _ (roots : Roots) (script : Script) (changes : List Change) (step : Tree → Tree) (line : List ℕ) (text : Reply → List ℕ) (tree : Tree)
    (none : runs_in changes ≡ []) (public : public_tree roots (done roots script changes tree) ≡ step (public_tree roots tree))
    (foreign : foreign_tree roots (done roots script changes tree) ≡ foreign_tree roots tree)
    (spares : (path : Path) → touched_by changes path ≡ true → IsNeverForeign roots path) where
  abbrev store : Tree
  store = public_tree roots tree

  abbrev after_tree : Tree
  after_tree = done roots script changes tree

  abbrev outcome_with : Tree → List Request → List ℕ → Tree → Outcome
  outcome_with now requests said kept = record { after = now ∷ []; requests = requests; out = line; err = said; end = None; foreign = kept }

  -- no child is run
  pub says_alone : SaysSo roots (transaction step line then warn []) (transacted roots script changes) line (flat_map text) tree
  says_alone = record {
    says =
        let now = sym (cleaned_public roots after_tree ∙ public) in
        let kept = sym (cleaned_foreign roots after_tree ∙ foreign) in
        ap (λ out. record { after = step store ∷ []; requests = []; out = out; err = []; end = None; foreign = foreign_tree roots tree }) (append-nil line)
        ∙ ap (λ t. outcome_with t [] [] (foreign_tree roots tree)) now
        ∙ ap (λ t. outcome_with (public_tree roots (cleaned roots after_tree)) [] [] t) kept
        ∙ ap (λ requests. outcome_with (public_tree roots (cleaned roots after_tree)) requests [] (foreign_tree roots (cleaned roots after_tree))) (sym (none_asked roots script changes tree none))
        ∙ ap (λ replies. outcome_with (public_tree roots (cleaned roots after_tree)) (requests_of roots script changes tree) (flat_map text replies) (foreign_tree roots (cleaned roots after_tree))) (sym (none_said roots script changes tree none));
    spares = λ path touched out. spares path touched;
  }

  module _ (request : Request) (idle : request.area ≡ areas.Nothing) (there : is_dir (node_at (done roots script changes tree) request.dir) ≡ true) where
    abbrev all : List Change
    all = changes ++ Run request ∷ []

    all_done : done roots script all tree ≡ after_tree
    all_done =
        done_behind roots script changes (Run request ∷ []) tree
        ∙ ap (λ b. cond b (tree_after roots script request after_tree) after_tree) there ∙ nothing_after roots script request after_tree idle

    asked : requests_of roots script all tree ≡ request ∷ []
    asked =
        asked_behind roots script changes (Run request ∷ []) tree (none_asked roots script changes tree none)
        ∙ ap (λ b. cond b (request ∷ []) [] ++ []) there

    abbrev reply : Reply
    reply = (answer_in roots script request after_tree).reply

    replied : replies_of roots script all tree ≡ reply ∷ []
    replied =
        said_behind roots script changes (Run request ∷ []) tree (none_said roots script changes tree none)
        ∙ ap (λ b. map (λ r. (answer_in roots script r after_tree).reply) (cond b (request ∷ []) []) ++ []) there

    own_none : (q : Path) → is_own request.area q ≡ false
    own_none q = ap (λ area. is_own area q) idle

    -- the child touches nothing
    touched_before : (path : Path) → touched_by all path ≡ true → touched_by changes path ≡ true
    touched_before path touched = by (touched_by changes path)
        (ap (λ b. touched_by changes path || (b || false)) (sym (ap (λ area. reaches area path) idle)) ∙ sym (list_any-append (may_touch path) changes (Run request ∷ [])) ∙ touched)
      where
        by : (b : Bool) → (b || (false || false)) ≡ true → b ≡ true
        by true h = refl
        by false h = h

    -- the child sees of the store and the foreign tree what it sees of the tree
    heard : (answer_in roots script request (united (step store) (foreign_tree roots tree))).reply ≡ reply
    heard =
        ap (λ t. (answer_in roots script request (united t (foreign_tree roots tree))).reply) (sym public)
        ∙ ap (λ t. (answer_in roots script request (united (public_tree roots after_tree) t)).reply) (sym foreign)
        ∙ ap (λ view. (answer script request view).reply) (view-whole roots request after_tree own_none)

    -- a child is run
    pub says_asked : SaysSo roots (transaction step line then asks roots script request (λ reply. warn (text reply))) (transacted roots script (changes ++ Run request ∷ [])) line (flat_map text) tree
    says_asked = record {
      says =
          let now = sym (cleaned_public roots (done roots script all tree) ∙ ap (public_tree roots) all_done ∙ public) in
          let kept = sym (cleaned_foreign roots (done roots script all tree) ∙ ap (foreign_tree roots) all_done ∙ foreign) in
          let store_after = public_tree roots (cleaned roots (done roots script all tree)) in
          let foreign_after = foreign_tree roots (cleaned roots (done roots script all tree)) in
          let first = (answer_in roots script request (united (step store) (foreign_tree roots tree))).reply in
          ap (λ out. record { after = step store ∷ []; requests = request ∷ []; out = out; err = text first; end = None; foreign = foreign_tree roots tree }) (append-nil line)
          ∙ ap (λ r. outcome_with (step store) (request ∷ []) (text r) (foreign_tree roots tree)) heard
          ∙ ap (λ said. outcome_with (step store) (request ∷ []) said (foreign_tree roots tree)) (sym (append-nil (text reply)))
          ∙ ap (λ t. outcome_with t (request ∷ []) (flat_map text (reply ∷ [])) (foreign_tree roots tree)) now
          ∙ ap (λ t. outcome_with store_after (request ∷ []) (flat_map text (reply ∷ [])) t) kept
          ∙ ap (λ requests. outcome_with store_after requests (flat_map text (reply ∷ [])) foreign_after) (sym asked)
          ∙ ap (λ replies. outcome_with store_after (requests_of roots script all tree) (flat_map text replies) foreign_after) (sym replied);
      spares = λ path touched out. spares path (touched_before path touched);
    }
