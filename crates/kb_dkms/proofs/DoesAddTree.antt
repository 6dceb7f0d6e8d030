-- `dkms add` of a directory does what its definition says, part by part.
use Rattle.std.proofs.Common.{◌≡◌, ℕ, Bool, true, false, cond, List, ◌++◌, Option, Some, None, is_some, refl, sym, ap, ◌∙◌, subst}
use Rattle.std.specs.Prelude.{Result, Ok, Err}
use Rattle.std.specs.Option.{ForSome}
use Rattle.kb_world.specs.Damage.{hurt}
use Rattle.kb_world.specs.Read.{Decides, Gives}
use Rattle.kb_world.specs.Layout.{whole_tree}
use Rattle.kb_machine.specs.Outcome.{unless, warn, ◌then◌}
use Rattle.kb_world.specs.Path.{Path}
use Rattle.kb_world.specs.Public.{intent_path, is_private, public_tree}
use Rattle.kb_world.specs.Roots.{AreApart}
use Rattle.kb_world.specs.Script.{Script}
use Rattle.kb_world.specs.State.{State}
use Rattle.kb_world.specs.Store.{is_key, link_path, source_path}
use Rattle.kb_world.specs.Tree.{Tree, node_at, is_dir}
use Rattle.kb_world.specs.TreeLaws.{same_path}
use Rattle.kb_world.specs.declared.job.Host.{Host}
use Rattle.kb_world.specs.declared.job.Key.{Key}
use Rattle.kb_world.specs.declared.job.Report.{Report}
use Rattle.kb_world.specs.declared.refusal.Refusal.{Refusal}
use Rattle.kb_world.specs.declared.refusal.Refusal.TheVariants as refusal
use Rattle.kb_world.specs.declared.roots.Roots.{Roots}
use Rattle.kb_world.specs.declared.sequence.Sequence.{Sequence}
use Rattle.kb_world.specs.declared.stop.Stop.{Stop}
use Rattle.kb_world.specs.declared.tree.Node.{Node}
use Rattle.kb_world.proofs.LayoutLaws.{whole_at, whole_shown}
use Rattle.kb_walk.specs.declared.walking.Met.{Met}
use Rattle.kb_machine.specs.Across.{DoesAcrossCrashes}
use Rattle.kb_machine.proofs.LookLaws.{refused, passed, unread, read_on, warned}
use Rattle.kb_machine.proofs.ThenLaws.{does_then}
use Rattle.kb_conf.specs.declared.conf.Conf.{Conf}
use Rattle.kb_conf.specs.Load.{loaded_conf}
use Rattle.kb_dkms.specs.Add.{add, already_added, blocked, unused_lines}
use Rattle.kb_dkms.specs.AddTree.{holds_root, tree_conf, source_there, met_below, too_many, too_large, package_there, too_much, no_copy, copy_and_run, add_copy, add_tree_with, add_tree}
use Rattle.kb_dkms.specs.Copying.{CanCopy, IsAllMet}
use Rattle.kb_dkms.specs.Scripts.{host_given}
use Rattle.kb_dkms.proofs.AddLaws.{are_public, standing_shown, blocked_shown}
use Rattle.kb_dkms.proofs.DecideLaws.{decided_ok, decided_stop}
use Rattle.kb_dkms.proofs.DoesAdd.{nothing_stands, nothing_first, nothing_second, add_unblocked, loaded_dir}

-- ---- nothing refuses the copy

no_node : (source : Path) (at : Option Node) → cond (is_some at) (Some (refusal.SourceThere source)) None ≡ None → at ≡ None
no_node source None e = refl
no_node source (Some at) e = let impossible : Some (refusal.SourceThere source) ≡ None = e in cc

module _ (roots : Roots) (key : Key) (from : Path) (tree : Tree) (none : no_copy roots key from (whole_tree roots tree) ≡ None) where
  abbrev whole : Tree
  whole = whole_tree roots tree

  front : (package_there roots key whole ≡ None) × (too_much from whole ≡ None)
  front =
      let first = nothing_first _ (blocked roots key whole) none in
      (nothing_first (package_there roots key whole) (too_much from whole) first, nothing_second (package_there roots key whole) (too_much from whole) first)

  pub all_met : (met : List Met) → met ≡ met_below from (whole_tree roots tree) → IsAllMet from (whole_tree roots tree) met
  all_met met is = record { is = is; all = nothing_first (too_many from whole) (too_large from whole) front.1 }

  pub can_copy : AreApart roots → is_key key ≡ true → is_dir (node_at tree roots.dkms) ≡ true → is_dir (node_at tree roots.src) ≡ true → node_at tree (intent_path roots) ≡ None
      → hurt roots (public_tree roots tree) ≡ None → CanCopy roots key tree
  can_copy apart good root src bare sound = record {
    root = root;
    src = src;
    bare = bare;
    no_source =
        sym (whole_shown roots tree (source_path roots key) (are_public roots apart key good).source)
        ∙ no_node (source_path roots key) (node_at whole (source_path roots key)) (nothing_second (already_added roots key whole) (source_there (source_path roots key) whole) front.0);
    no_link = nothing_stands key (link_path roots key) tree (standing_shown roots apart key good tree sound ∙ nothing_first (already_added roots key whole) _ front.0);
    unblocked = add_unblocked roots key tree (blocked_shown roots apart key good tree ∙ nothing_second _ (blocked roots key whole) none);
  }

-- ---- behind the conf

module _ (host : Host) (from : Path) (conf : Conf) (key : Key) (same : key ≡ conf.key) where
  abbrev roots : Roots
  roots = host.roots

  abbrev due : Key → Tree → Option Refusal
  due k tree = no_copy roots k from (whole_tree roots tree)

  pub warned_uncopied : (script : Script) (old mid : State) (before after : Report) (stop : Stop) → after.out ≡ before.out → (names : List (List ℕ)) → names ≡ conf.unused → after.err ≡ before.err ++ unused_lines names
      → Decides (due key) {T = Sequence Met} old mid (Err stop) → DoesAcrossCrashes roots (add_copy host script from conf) {T = Unit {0}} old mid before after (Err stop)
  warned_uncopied script old mid before after stop out names all err d =
      does_then roots (warn (unused_lines conf.unused)) (unless (no_copy roots conf.key from) then copy_and_run host script from conf) old old mid before after after (Err stop)
      (warned roots (unused_lines conf.unused) old before after out (err ∙ ap (λ n. before.err ++ unused_lines n) all))
      (refused roots (due conf.key) (no_copy roots conf.key from) (copy_and_run host script from conf) old mid after stop (λ tree. refl)
      (decided_stop (Sequence Met) (Unit {0}) (due conf.key) old mid stop (subst (λ k. Decides (due k) {T = Sequence Met} old mid (Err stop)) same d)))

  pub warned_copied : (old mid new : State) (before between after : Report) (result : Result (Unit {0}) Stop) (met : List Met) → between.out ≡ before.out → (names : List (List ℕ)) → names ≡ conf.unused
      → between.err ≡ before.err ++ unused_lines names → Decides (due key) {T = Sequence Met} old mid (Ok met) → DoesAcrossCrashes roots (copy_and_run host mid.script from conf) mid new between after result
      → DoesAcrossCrashes roots (add_copy host old.script from conf) old new before after result
  warned_copied old mid new before between after result met out names all err d e =
      does_then roots (warn (unused_lines conf.unused)) (unless (no_copy roots conf.key from) then copy_and_run host old.script from conf) old old new before between after result
      (warned roots (unused_lines conf.unused) old before between out (err ∙ ap (λ n. before.err ++ unused_lines n) all))
      (passed roots (due conf.key) (no_copy roots conf.key from) (copy_and_run host old.script from conf) old mid new between after result (λ tree. refl)
      (decided_ok (due conf.key) old mid met tt (subst (λ k. Decides (due k) {T = Sequence Met} old mid (Ok met)) same d))
      (subst (λ s. DoesAcrossCrashes roots (copy_and_run host s from conf) mid new between after result) d.unchanged.ran_none.lasts.script e))

-- ---- the whole action

module _ (host : Host) (from : Path) where
  abbrev own_conf : Tree → Result Conf Refusal
  own_conf tree = tree_conf host from (whole_tree host.roots tree)

  pub tree_unread : (script : Script) (old new : State) (report : Report) (stop : Stop) → Gives {T = Conf} own_conf old new (Err stop)
      → DoesAcrossCrashes host.roots (add_tree host script from) {T = Unit {0}} old new report report (Err stop)
  tree_unread script old new report stop g = unread {A = Conf} host.roots own_conf (tree_conf host from) (add_tree_with host script from) old new report stop (λ tree. refl) g

  module _ (conf : Conf) (old mid : State) (g : Gives {T = Conf} own_conf old mid (Ok conf)) where
    pub tree_read : (new : State) (before after : Report) (result : Result (Unit {0}) Stop) → DoesAcrossCrashes host.roots (add_tree_with host mid.script from conf) mid new before after result
        → DoesAcrossCrashes host.roots (add_tree host old.script from) old new before after result
    tree_read new before after result d =
        read_on {A = Conf} host.roots own_conf (tree_conf host from) (add_tree_with host old.script from) conf old mid new before after result (λ tree. refl) g
        (subst (λ s. DoesAcrossCrashes host.roots (add_tree_with host s from conf) mid new before after result) g.unchanged.ran_none.lasts.script d)

    by_source : (script : Script) (own : Bool) → same_path from (source_path host.roots conf.key) ≡ own → (new : State) (before after : Report) (result : Result (Unit {0}) Stop)
        → DoesAcrossCrashes host.roots (cond own (add host script conf.key) (add_copy host script from conf)) mid new before after result → DoesAcrossCrashes host.roots (add_tree_with host script from conf) mid new before after result
    by_source script own is new before after result d =
        subst (λ b. DoesAcrossCrashes host.roots (cond b (add host script conf.key) (add_copy host script from conf)) mid new before after result) (sym is) d

    -- it is the package's own source
    pub tree_added : same_path from (source_path host.roots conf.key) ≡ true → (new : State) (before after : Report) (result : Result (Unit {0}) Stop) → DoesAcrossCrashes host.roots (add host mid.script conf.key) mid new before after result
        → DoesAcrossCrashes host.roots (add_tree host old.script from) old new before after result
    tree_added is new before after result d = tree_read new before after result (by_source mid.script true is new before after result d)

    -- and it isn't
    pub tree_copied : same_path from (source_path host.roots conf.key) ≡ false → (new : State) (before after : Report) (result : Result (Unit {0}) Stop) → DoesAcrossCrashes host.roots (add_copy host mid.script from conf) mid new before after result
        → DoesAcrossCrashes host.roots (add_tree host old.script from) old new before after result
    tree_copied is new before after result d = tree_read new before after result (by_source mid.script false is new before after result d)

    -- where its conf was read the directory stands
    pub tree_there : is_private host.roots from ≡ false → ForSome mid.tree (λ tree. is_dir (node_at tree from) ≡ true)
    tree_there own tree told =
        ap is_dir (sym (whole_at host.roots tree from own))
        ∙ loaded_dir from None (host_given host) (whole_tree host.roots tree) conf (by_root (holds_root host.roots from) (g.answers tree (sym g.unchanged.tree ∙ told)))
      where
        by_root : (b : Bool) → cond b (Err (refusal.NoSource from)) (loaded_conf from None (host_given host) (whole_tree host.roots tree)) ≡ Ok conf → loaded_conf from None (host_given host) (whole_tree host.roots tree) ≡ Ok conf
        by_root true e = let impossible : ◌≡◌ {A = Result Conf Refusal} (Err (refusal.NoSource from)) (Ok conf) = e in absurd (cc)
        by_root false e = e
