-- `dkms add` commits the patch of its link, with the script of its conf behind it.
use Rattle.std.proofs.Common.{◌≡◌, ℕ, true, List, Option, Some, None, refl, sym, ap, ◌∙◌, subst}
use Rattle.std.specs.Prelude.{codes}
use Rattle.std.specs.Option.{ForSome, IfSome}
use Rattle.kb_machine.specs.Outcome.{Action, transaction, ◌then◌}
use Rattle.kb_world.specs.Patch.{patched}
use Rattle.kb_world.specs.Public.{public_tree, foreign_tree}
use Rattle.kb_world.specs.Roots.{AreApart}
use Rattle.kb_world.specs.Script.{Script}
use Rattle.kb_world.specs.State.{State}
use Rattle.kb_world.specs.Steps.{add_patch, add_step}
use Rattle.kb_world.specs.Store.{is_key, source_path}
use Rattle.kb_world.specs.Tree.{Tree, node_at, is_dir, IsFormed}
use Rattle.kb_world.specs.declared.child.Request.{Request}
use Rattle.kb_world.specs.declared.job.Host.{Host}
use Rattle.kb_world.specs.declared.job.Key.{Key}
use Rattle.kb_world.specs.declared.roots.Roots.{Roots}
use Rattle.kb_world.proofs.PublicLaws.{shown}
use Rattle.kb_changes.proofs.PatchMet.{add_fits, add_stands}
use Rattle.kb_conf.specs.declared.conf.Conf.{Conf}
use Rattle.kb_dkms.specs.Add.{add_and_run, added_line}
use Rattle.kb_dkms.specs.Commit.{CanAdd, script_asked}
use Rattle.kb_dkms.specs.Scripts.{host_given, run_script}
use Rattle.kb_dkms.proofs.AddLaws.{are_public, add_keeps_source}
use Rattle.kb_dkms.proofs.CommitPatch.{CanCommit, CanRunBehind, CommitsPatch, run_asked}

-- a script is run where there is one
pub script_is_asked : (host : Host) (script : Script) (key : Key) (words : Option (List ℕ)) → run_script host.roots script (host_given host) key (codes "POST_ADD") words ≡ run_asked host.roots script (codes "POST_ADD") (script_asked host key words)
script_is_asked host script key None = refl
script_is_asked host script key (Some words) = refl

module _ (host : Host) (apart : AreApart host.roots) (key : Key) (good : is_key key ≡ true) where
  abbrev roots : Roots
  roots = host.roots

  -- the script's directory is the package's source, which the link leaves as it was
  can_run : (tree : Tree) → is_dir (node_at tree (source_path roots key)) ≡ true → (words : Option (List ℕ)) → IfSome (script_asked host key words) (CanRunBehind roots (add_patch roots key) tree)
  unfolding add_step
  can_run tree source None = tt
  can_run tree source (Some words) = record {
    idle = refl;
    there = ap is_dir (add_keeps_source roots apart key (public_tree roots tree) ∙ shown roots tree (source_path roots key) (are_public roots apart key good).source) ∙ source;
  }

  can_commit : (tree : Tree) → IsFormed tree → CanAdd roots key tree → (words : Option (List ℕ)) → CanCommit roots (add_patch roots key) (script_asked host key words) tree
  can_commit tree formed can words = record {
    fits = add_fits roots apart key good tree formed can.unadded.root can.unblocked (ap is_dir can.unadded.free);
    stands = add_stands roots apart key good;
    root = can.unadded.root;
    bare = can.unadded.bare;
    behind = can_run tree can.unadded.source words;
  }

  pub add_commits : (conf : Conf) (asked : Option (List ℕ)) → asked ≡ conf.scripts.post_add → (request : Option Request) → request ≡ script_asked host key asked → (old : State)
      → ForSome old.tree (CanAdd roots key) → ForSome old.tree IsFormed
      → CommitsPatch roots (λ tree. add_patch roots key) (added_line key) (codes "POST_ADD") request (add_and_run host old.script key conf) old
  unfolding add_step
  add_commits conf asked is_asked request made old can formed = record {
    can = λ tree told. subst (λ r. CanCommit roots (add_patch roots key) r tree) (sym made) (can_commit tree (formed tree told) (can tree told) asked);
    acts = λ tree told.
        ap (λ (behind : Action). (transaction (patched roots (add_patch roots key)) (added_line key) then behind) (public_tree roots tree) (foreign_tree roots tree))
        (script_is_asked host old.script key conf.scripts.post_add ∙ ap (λ words. run_asked roots old.script (codes "POST_ADD") (script_asked host key words)) (sym is_asked)
        ∙ ap (run_asked roots old.script (codes "POST_ADD")) (sym made));
  }
