-- `dkms add` of a directory commits the patch of its copy and its link, with the script of its conf behind it.
use Rattle.std.proofs.Common.{◌≡◌, ℕ, true, List, Option, Some, None, refl, sym, ap, ◌∙◌, subst}
use Rattle.std.specs.Prelude.{codes}
use Rattle.std.specs.Option.{ForSome, IfSome}
use Rattle.kb_world.specs.Layout.{whole_tree}
use Rattle.kb_machine.specs.Outcome.{Action, transaction, ◌then◌}
use Rattle.kb_world.specs.Patch.{Patch, patched}
use Rattle.kb_world.specs.Path.{Path}
use Rattle.kb_world.specs.Public.{public_tree, foreign_tree}
use Rattle.kb_world.specs.Roots.{AreApart}
use Rattle.kb_world.specs.State.{State}
use Rattle.kb_world.specs.Steps.{add_tree_patch, add_tree_step}
use Rattle.kb_world.specs.Store.{is_key}
use Rattle.kb_world.specs.Tree.{Tree, IsFormed}
use Rattle.kb_world.specs.declared.child.Request.{Request}
use Rattle.kb_world.specs.declared.job.Host.{Host}
use Rattle.kb_world.specs.declared.job.Key.{Key}
use Rattle.kb_world.specs.declared.roots.Roots.{Roots}
use Rattle.kb_walk.specs.declared.walking.Met.{Met}
use Rattle.kb_changes.specs.Fit.{IsFit}
use Rattle.kb_changes.proofs.TreeFits.{HasRoomForCopy, source_made}
use Rattle.kb_conf.specs.declared.conf.Conf.{Conf}
use Rattle.kb_dkms.specs.Add.{added_line}
use Rattle.kb_dkms.specs.AddTree.{copy_and_run}
use Rattle.kb_dkms.specs.Commit.{script_asked}
use Rattle.kb_dkms.specs.Copying.{CanCopy, IsAllMet}
use Rattle.kb_dkms.specs.Scripts.{host_given, run_script}
use Rattle.kb_dkms.proofs.AddRun.{script_is_asked}
use Rattle.kb_dkms.proofs.CommitPatch.{CanCommit, CanRunBehind, CommitsPatch, run_asked}
use Rattle.kb_dkms.proofs.PrepareCopy.{walk_all_met}
use Rattle.kb_dkms.proofs.TreeLaws.{tree_fits, tree_stands}

module _ (host : Host) (apart : AreApart host.roots) (key : Key) (good : is_key key ≡ true) (from : Path) where
  abbrev roots : Roots
  roots = host.roots

  abbrev patch : Tree → Patch
  patch tree = add_tree_patch roots key from (whole_tree roots tree)

  has_room : (tree : Tree) → IsFormed tree → CanCopy roots key tree → HasRoomForCopy roots key tree
  has_room tree formed can = record { formed = formed; dkms = can.root; src = can.src; unblocked = can.unblocked; no_link = can.no_link; no_source = can.no_source }

  -- the script's directory is the copy
  can_run : (tree : Tree) → IsFit roots (patch tree) tree → (words : Option (List ℕ)) → IfSome (script_asked host key words) (CanRunBehind roots (patch tree) tree)
  can_run tree fits None = tt
  can_run tree fits (Some words) = record { idle = refl; there = source_made roots apart key good from (whole_tree roots tree) tree fits }

  can_commit : (tree : Tree) → IsFormed tree → CanCopy roots key tree → (met : List Met) → IsAllMet from (whole_tree roots tree) met → (words : Option (List ℕ)) → CanCommit roots (patch tree) (script_asked host key words) tree
  can_commit tree formed can met all words =
      let ended = walk_all_met roots from tree met all in
      let fits = tree_fits roots tree from ended key apart good formed tree (has_room tree formed can) in
      record {
        fits = fits;
        stands = tree_stands roots tree from ended key apart good;
        root = can.root;
        bare = can.bare;
        behind = can_run tree fits words;
      }

  pub copy_commits : (conf : Conf) → key ≡ conf.key → (met : List Met) (asked : Option (List ℕ)) → asked ≡ conf.scripts.post_add → (request : Option Request) → request ≡ script_asked host key asked → (old : State)
      → ForSome old.tree (CanCopy roots key) → ForSome old.tree (λ tree. IsAllMet from (whole_tree roots tree) met) → ForSome old.tree IsFormed
      → CommitsPatch roots patch (added_line key) (codes "POST_ADD") request (copy_and_run host old.script from conf) old
  unfolding add_tree_step
  copy_commits conf same met asked is_asked request made old can all formed = record {
    can = λ tree told. subst (λ r. CanCommit roots (patch tree) r tree) (sym made) (can_commit tree (formed tree told) (can tree told) met (all tree told) asked);
    acts = λ tree told.
        ap (λ (k : Key). copied_as k conf.scripts.post_add (whole_tree roots tree) (public_tree roots tree) (foreign_tree roots tree)) (sym same)
        ∙ ap (λ (behind : Action). (transaction (patched roots (patch tree)) (added_line key) then behind) (public_tree roots tree) (foreign_tree roots tree))
        (script_is_asked host old.script key conf.scripts.post_add ∙ ap (λ words. run_asked roots old.script (codes "POST_ADD") (script_asked host key words)) (sym is_asked)
        ∙ ap (run_asked roots old.script (codes "POST_ADD")) (sym made));
  }
    where
      copied_as : Key → Option (List ℕ) → Tree → Action
      copied_as k words whole = transaction (add_tree_step roots k from whole) (added_line k) then run_script roots old.script (host_given host) k (codes "POST_ADD") words
