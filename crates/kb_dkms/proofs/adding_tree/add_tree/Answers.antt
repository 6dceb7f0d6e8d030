-- The conf is read first, and says what the directory is the source of.
use Rattle.std.proofs.Common.{ap, sym, ◌∙◌}
use Rattle.std.specs.Option.{option_copied}
use Rattle.std.specs.Cmp.Lexicographic.{lists_ties, texts_ties}
use Rattle.kb_world.specs.TreeLaws.{same_path}
use Rattle.kb_dkms.specs.declared.places.Places.{Places}
use Rattle.kb_dkms.specs.AddTree.{add_tree, add_tree_with}
use Rattle.kb_dkms.proofs.DoesAdd.{kernel_named}
use Rattle.kb_dkms.proofs.DoesAddTree.{tree_unread, tree_read, tree_added, tree_copied, tree_there}
use Rattle.kb_dkms.proofs.WantLaws.{wants_first}
use Rattle.kb_dkms.proofs.adding_tree.add_tree.Goals as goal

pub of-requires : goal.of-requires
of-requires g c x is = kernel_named c.args.job.now.host c.requires.known x.now (sym c.as_ref.ensures.value ∙ ap option_copied is)

pub returns-in_err-given : goal.returns-in_err-given
returns-in_err-given g c =
    let host = c.args.job.now.host in
    wants_first host.roots (add_tree host (g.W.World.state c.args.world.now).script c.args.from.now) (g.W.World.state c.args.world.now) c.args.report.now _ c.from_residual.result c.from_residual.ensures.1

pub returns-in-Err : goal.returns-in-Err
returns-in-Err g c = tree_unread c.args.job.now.host c.args.from.now (g.W.World.state c.args.world.now).script _ _ c.args.report.now c.in-Err.stop c.in-Err.ensures.read

pub returns-in_err-places : goal.returns-in_err-places
returns-in_err-places g c =
    let host = c.args.job.now.host in
    tree_read host c.args.from.now c.in-Ok.conf _ _ c.in-Ok.ensures.read _ c.args.report.now _ c.from_residual-in_err-places.result
    (wants_first host.roots (add_tree_with host (g.W.World.state c.load_tree_conf.new.world).script c.args.from.now c.in-Ok.conf) (g.W.World.state c.load_tree_conf.new.world) c.args.report.now _
    c.from_residual-in_err-places.result c.from_residual-in_err-places.ensures.1)

pub returns-then-eq : goal.returns-then-eq
returns-then-eq g c =
    let host = c.args.job.now.host in
    let same = sym (c.eq.ensures ∙ lists_ties _ texts_ties c.args.from.now c.in_ok-places.places.source) ∙ c.if-eq.true in
    tree_added host c.args.from.now c.in-Ok.conf _ _ c.in-Ok.ensures.read (ap (λ (p : Places). same_path c.args.from.now p.source) (sym c.in_ok-places.ensures) ∙ same) _ c.args.report.now _ c.add.result c.add.ensures

pub add_copy-requires-clause-directory : goal.add_copy-requires-clause-directory
add_copy-requires-clause-directory g c = tree_there c.args.job.now.host c.args.from.now c.in-Ok.conf _ _ c.in-Ok.ensures.read c.in-Ok.ensures.own

pub returns : goal.returns
returns g c =
    let host = c.args.job.now.host in
    let same = sym (c.eq.ensures ∙ lists_ties _ texts_ties c.args.from.now c.in_ok-places.places.source) ∙ c.if-eq.false in
    tree_copied host c.args.from.now c.in-Ok.conf _ _ c.in-Ok.ensures.read (ap (λ (p : Places). same_path c.args.from.now p.source) (sym c.in_ok-places.ensures) ∙ same) _ c.args.report.now _ c.add_copy.result c.add_copy.ensures
