-- A patch is committed with its script behind it: what stands before the commit, and how the whole ends.
use Rattle.std.proofs.Common.{◌≡◌, ℕ, Bool, true, false, cond, List, [], ◌∷◌, ◌++◌, Option, Some, None, refl, sym, ap, ◌∙◌, subst}
use Rattle.std.proofs.lemmas.List.{append-nil}
use Rattle.std.specs.Prelude.{Result, Ok, Err}
use Rattle.std.specs.Option.{ForSome, IfSome}
use Rattle.kb_machine.specs.Outcome.{Action, transaction, warn, ◌then◌}
use Rattle.kb_world.specs.Patch.{Patch, patched}
use Rattle.kb_world.specs.Path.{Path}
use Rattle.kb_world.specs.Public.{IsNeverForeign, intent_path, is_public, public_tree, foreign_tree}
use Rattle.kb_world.specs.Roots.{AreApart}
use Rattle.kb_world.specs.Script.{Script}
use Rattle.kb_world.specs.State.{State}
use Rattle.kb_world.specs.Tree.{Tree, node_at, is_dir, IsFormed}
use Rattle.kb_world.specs.declared.child.Area.TheVariants as areas
use Rattle.kb_world.specs.declared.child.Reply.{Reply}
use Rattle.kb_world.specs.declared.child.Request.{Request}
use Rattle.kb_world.specs.declared.job.Report.{Report}
use Rattle.kb_world.specs.declared.roots.Roots.{Roots}
use Rattle.kb_world.specs.declared.stop.Stop.{Stop}
use Rattle.kb_world.specs.declared.stop.Stop.TheVariants.{Refused, Fault, NoMemory}
use Rattle.kb_world.proofs.PublicLaws.{node_at-public_tree}
use Rattle.kb_changes.specs.Change.{done}
use Rattle.kb_changes.specs.Changes.{changes_of, nodes_of, HasStaged}
use Rattle.kb_changes.specs.Fit.{IsFit, MayStand, idle}
use Rattle.kb_changes.specs.Valid.{is_valid, new_intent_path}
use Rattle.kb_changes.proofs.PatchDone.{patch_done, foreign_done}
use Rattle.kb_changes.proofs.PatchGroups.{no_runs}
use Rattle.kb_changes.proofs.PatchValid.{patch_is_valid}
use Rattle.kb_again.proofs.RootLaws.{at_0}
use Rattle.kb_machine.specs.Across.{SaysSo, DoesAcrossCrashes}
use Rattle.kb_machine.specs.Behind.{touched_by}
use Rattle.kb_machine.specs.Commits.{Commits, Transacted, transacted}
use Rattle.kb_machine.proofs.AsideLaws.{aside_public, aside_foreign, aside_journal, does_aside, aside_stops, IsUnrefused}
use Rattle.kb_machine.proofs.CommitLaws.{does_commit, does_uncommitted, does_untold}
use Rattle.kb_machine.proofs.FitLaws.{fit_aside, root_aside}
use Rattle.kb_machine.proofs.SparesLaws.{patch_spares}
use Rattle.kb_machine.proofs.TransactLaws.{says_alone, says_asked}
use Rattle.kb_intent.specs.declared.txn.Txn.{Txn}
use Rattle.kb_dkms.specs.Commit.{changes_with, endings, IsPrepared, Prepares}
use Rattle.kb_dkms.specs.Scripts.{ended_line, run_warned}
use Rattle.kb_dkms.proofs.PrepareLaws.{ToldBefore, before_aside}

-- the child is run where one is asked for
abbrev pub run_asked : Roots → Script → List ℕ → Option Request → Action
run_asked roots script which None = warn []
run_asked roots script which (Some request) = run_warned roots script which request

-- a child that may change nothing, and whose directory is there once the patch is done
pub record CanRunBehind (roots : Roots) (patch : Patch) (tree : Tree) (request : Request) : Type 0 where
  pub idle : request.area ≡ areas.Nothing
  pub there : is_dir (node_at (patched roots patch (public_tree roots tree)) request.dir) ≡ true

-- the patch can be committed there, with this child behind it
pub record CanCommit (roots : Roots) (patch : Patch) (request : Option Request) (tree : Tree) : Type 0 where
  pub fits : IsFit roots patch tree
  pub stands : MayStand roots patch
  pub root : is_dir (node_at tree roots.dkms) ≡ true
  pub bare : node_at tree (intent_path roots) ≡ None
  pub behind : IfSome request (CanRunBehind roots patch tree)

-- over a told tree the action is the transaction of a patch that can be committed, with this line, and the child behind it
pub record CommitsPatch (roots : Roots) (patch : Tree → Patch) (line which : List ℕ) (request : Option Request) (action : Action) (old : State) : Type 0 where
  pub can : ForSome old.tree (λ tree. CanCommit roots (patch tree) request tree)
  pub acts : ForSome old.tree (λ tree. action (public_tree roots tree) (foreign_tree roots tree)
      ≡ (transaction (patched roots (patch tree)) line then run_asked roots old.script which request) (public_tree roots tree) (foreign_tree roots tree))

-- ---- what is committed is the action

module _ (roots : Roots) (apart : AreApart roots) (script : Script) (patch : Patch) (tree : Tree) (fits : IsFit roots patch tree) (staged : HasStaged roots (nodes_of roots patch) tree) where
  public_done : public_tree roots (done roots script (changes_of roots patch) tree) ≡ patched roots patch (public_tree roots tree)
  public_done = patch_done roots apart script patch tree fits staged

  -- where a directory is there once the patch is done, it is there once its changes are
  dir_done : (dir : Path) → is_dir (node_at (patched roots patch (public_tree roots tree)) dir) ≡ true → is_dir (node_at (done roots script (changes_of roots patch) tree) dir) ≡ true
  dir_done dir there = by (is_public roots dir (node_at after_tree dir)) (sym (ap is_dir (node_at-public_tree roots after_tree dir)) ∙ ap (λ t. is_dir (node_at t dir)) public_done ∙ there)
    where
      after_tree : Tree
      after_tree = done roots script (changes_of roots patch) tree

      by : (b : Bool) → is_dir (cond b (node_at after_tree dir) None) ≡ true → is_dir (node_at after_tree dir) ≡ true
      by true h = h
      by false h = let impossible : false ≡ true = h in cc

  -- what its changes touch is never foreign
  spares : (path : Path) → touched_by (changes_of roots patch) path ≡ true → IsNeverForeign roots path
  spares = patch_spares roots apart patch tree fits

  patch_says : (line which : List ℕ) (request : Option Request) → IfSome request (CanRunBehind roots patch tree)
      → SaysSo roots (transaction (patched roots patch) line then run_asked roots script which request) (transacted roots script (changes_with roots patch request)) line (endings which) tree
  patch_says line which None behind =
      subst (λ changes. SaysSo roots (transaction (patched roots patch) line then warn []) (transacted roots script changes) line (endings which) tree) (sym (append-nil (changes_of roots patch)))
      (says_alone roots script (changes_of roots patch) (patched roots patch) line (λ reply. ended_line which reply.code) tree (no_runs roots patch) public_done (foreign_done roots apart script patch tree fits staged) spares)
  patch_says line which (Some request) behind =
      says_asked roots script (changes_of roots patch) (patched roots patch) line (λ reply. ended_line which reply.code) tree (no_runs roots patch) public_done (foreign_done roots apart script patch tree fits staged) spares
      request behind.idle (dir_done request.dir behind.there)

with_is_valid : (roots : Roots) → AreApart roots → (patch : Patch) → MayStand roots patch → (tree : Tree) (request : Option Request) → IfSome request (CanRunBehind roots patch tree)
    → is_valid roots (changes_with roots patch request) ≡ true
with_is_valid roots apart patch stands tree None behind = patch_is_valid roots apart patch stands [] tt
with_is_valid roots apart patch stands tree (Some request) behind = patch_is_valid roots apart patch stands (request ∷ []) (idle behind.idle, tt)

-- ---- it stopped before its commit

pub unprepared : {roots : Roots} {patch : Tree → Patch} {request : Option Request} {old mid : State} (action : Action) → ForSome old.tree IsFormed → (before after : Report) {stop : Stop}
    → Prepares roots patch request old mid (Err stop) → DoesAcrossCrashes roots action {T = Unit {0}} old mid before after (Err stop)
unprepared {roots = roots} {old = old} {mid = mid} action formed before after {stop = stop} p =
    aside_stops {T = Txn} roots action old mid before after stop (unrefused stop (λ why is. p.aside.unrefused why (ap (λ s. stopped s) is))) formed p.aside.aside p.aside.ran_none.ran p.aside.ran_none.lasts p.aside.cause
  where
    stopped : Stop → Result Txn Stop
    stopped s = Err s

    unrefused : (s : Stop) → ((why : _) → s ≡ Refused why → ⊥) → IsUnrefused s
    unrefused (Refused why) never = never why refl
    unrefused Fault never = tt
    unrefused NoMemory never = tt

-- ---- before the commit, and how it ends

module _ {roots : Roots} (apart : AreApart roots) {patch : Tree → Patch} {line which : List ℕ} {request : Option Request} {action : Action} {old mid : State}
    (is : CommitsPatch roots patch line which request action old) {txn : Txn} (p : Prepares roots patch request old mid (Ok txn)) (formed : ForSome mid.tree IsFormed) where
  some_same : (a b : Tree) → Some a ≡ Some b → a ≡ b
  some_same a b e = cc

  module _ (now : Tree) (told : mid.tree ≡ Some now) where
    was : ToldBefore roots old now
    was = before_aside roots old mid now told p.aside.ran_none.lasts.told p.aside.aside

    abbrev first : Patch
    first = patch was.tree

    could : CanCommit roots first request was.tree
    could = is.can was.tree was.told

    ready : IsPrepared roots first request txn mid.tree
    ready = p.prepared was.tree was.told

    is_now : ready.now ≡ now
    is_now = some_same ready.now now (sym ready.told ∙ told)

    behind : IfSome request (CanRunBehind roots first now)
    behind = by request could.behind
      where
        by : (r : Option Request) → IfSome r (CanRunBehind roots first was.tree) → IfSome r (CanRunBehind roots first now)
        by None b = tt
        by (Some r) b = record { idle = b.idle; there = ap (λ store. is_dir (node_at (patched roots first store) r.dir)) (aside_public roots was.tree now was.same) ∙ b.there }

    -- of the store and the foreign tree as they stand now
    patch_said : SaysSo roots (transaction (patched roots first) line then run_asked roots old.script which request) (transacted roots old.script txn.intent.changes) line (endings which) now
    patch_said =
        subst (λ changes. SaysSo roots (transaction (patched roots first) line then run_asked roots old.script which request) (transacted roots old.script changes) line (endings which) now) (sym ready.changes)
        (patch_says roots apart old.script first now (fit_aside roots apart first was.tree now was.same (formed now told) could.fits) (subst (HasStaged roots (nodes_of roots first)) is_now ready.staged) line which request behind)

    says : SaysSo roots action (transacted roots old.script txn.intent.changes) line (endings which) now
    says = record {
      says =
          (λ i. action (aside_public roots was.tree now was.same i) (aside_foreign roots was.tree now was.same i)) ∙ is.acts was.tree was.told
          ∙ (λ i. (transaction (patched roots first) line then run_asked roots old.script which request) (sym (aside_public roots was.tree now was.same) i) (sym (aside_foreign roots was.tree now was.same) i))
          ∙ patch_said.says;
      spares = patch_said.spares;
    }

  pub valid_there : ForSome mid.tree (λ tree. is_valid txn.roots txn.intent.changes ≡ true)
  valid_there now told =
      (λ i. is_valid (p.roots_are i) ((ready now told).changes i)) ∙ with_is_valid roots apart (first now told) (could now told).stands (was now told).tree request (could now told).behind

  pub root_there : ForSome mid.tree (λ tree. is_dir (node_at tree txn.roots.dkms) ≡ true)
  root_there now told =
      ap (λ (r : Roots). is_dir (node_at now r.dkms)) p.roots_are
      ∙ ap is_dir ((was now told).same roots.dkms (root_aside roots apart roots.dkms (at_0 roots.dkms (roots.src ∷ roots.modules ∷ roots.boot ∷ [])))) ∙ (could now told).root

  pub bare_there : ForSome mid.tree (λ tree. (node_at tree (intent_path txn.roots) ≡ None) × (node_at tree (new_intent_path txn.roots) ≡ None))
  bare_there now told = (
    ap (λ (r : Roots). node_at now (intent_path r)) p.roots_are ∙ aside_journal roots (was now told).tree now (was now told).same ∙ (could now told).bare,
    ap (λ (r : Roots). node_at now (new_intent_path r)) p.roots_are ∙ ap (λ t. node_at t (new_intent_path roots)) (sym (is_now now told)) ∙ (ready now told).unbegun,
  )

  abbrev made : Tree → Transacted
  made = transacted roots old.script txn.intent.changes

  committed : (new : State) (result : Result (List Reply) Stop) → Commits txn.roots (transacted txn.roots mid.script txn.intent.changes) mid new result → Commits roots made mid new result
  committed new result c =
      subst (λ script. Commits roots (transacted roots script txn.intent.changes) mid new result) p.aside.ran_none.lasts.script
      (subst (λ r. Commits r (transacted r mid.script txn.intent.changes) mid new result) p.roots_are c)

  since : (new : State) (before after : Report) (result : Result (Unit {0}) Stop) → DoesAcrossCrashes roots action mid new before after result → DoesAcrossCrashes roots action old new before after result
  since new before after result d =
      does_aside {T = Txn} roots action old mid new before after txn result (λ tree told. (is.can tree told).fits.formed) p.aside.aside p.aside.ran_none.ran p.aside.ran_none.lasts p.aside.cause d

  -- it came about
  pub did : (new : State) (before after : Report) (replies : List Reply) → Commits txn.roots (transacted txn.roots mid.script txn.intent.changes) mid new (Ok replies)
      → after.out ≡ before.out ++ line → after.err ≡ before.err ++ endings which replies → DoesAcrossCrashes roots action {T = Unit {0}} old new before after (Ok tt)
  did new before after replies c out err =
      since new before after (Ok tt) (does_commit roots action made line (endings which) mid new before after replies (λ tree told rooted. says tree told) (committed new (Ok replies) c) out err)

  -- it was stopped
  pub was_stopped : (new : State) (before after : Report) (stop : Stop) → Commits txn.roots (transacted txn.roots mid.script txn.intent.changes) mid new (Err stop)
      → DoesAcrossCrashes roots action {T = Unit {0}} old new before after (Err stop)
  was_stopped new before after stop c =
      since new before after (Err stop) (does_uncommitted roots action made line (endings which) mid new before after stop (λ tree told rooted. says tree told) (committed new (Err stop) c))

  -- it came about, and memory was wanting to tell of it
  pub was_untold : (new : State) (before after : Report) (replies : List Reply) → Commits txn.roots (transacted txn.roots mid.script txn.intent.changes) mid new (Ok replies)
      → DoesAcrossCrashes roots action {T = Unit {0}} old new before after (Err NoMemory)
  was_untold new before after replies c =
      since new before after (Err NoMemory) (does_untold roots action made line (endings which) mid new before after replies (λ tree told rooted. says tree told) (committed new (Ok replies) c))
