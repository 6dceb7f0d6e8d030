-- The root is looked at, and then the status is printed.
use Rattle.std.proofs.Common.{sym, ◌∙◌}
use Rattle.kb_machine.proofs.LookLaws.{refused, passed}
use Rattle.kb_top.specs.Machine.{no_root, print_status}
use Rattle.kb_top.proofs.ServeLaws.{dkms_shown, root_there}
use Rattle.kb_top.proofs.status.perform_status.Goals as goal

pub returns-in-Err : goal.returns-in-Err
returns-in-Err g c =
    let roots = c.args.roots.now in
    refused roots (no_root roots.dkms) (no_root roots.dkms) (print_status roots c.args.filter.now) _ _ c.args.report.now c.in-Err.stop (dkms_shown roots c.requires.apart) c.in-Err.ensures

pub print_status-requires-clause-root : goal.print_status-requires-clause-root
print_status-requires-clause-root g c now told =
    root_there c.args.roots.now.dkms now (c.in-Ok.ensures.agrees now (sym c.in-Ok.ensures.unchanged.tree ∙ told))

pub returns : goal.returns
returns g c =
    let roots = c.args.roots.now in
    passed roots (no_root roots.dkms) (no_root roots.dkms) (print_status roots c.args.filter.now) _ _ _ c.args.report.now _ c.print_status.result
    (dkms_shown roots c.requires.apart) c.in-Ok.ensures c.print_status.ensures
