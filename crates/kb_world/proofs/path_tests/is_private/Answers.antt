-- The tests go by roots.
use Rattle.std.proofs.Common.{◌||◌, ◌∙◌}
use Rattle.std.specs.Prelude.{codes}
use Rattle.kb_world.specs.Path.{child, is_under}
use Rattle.kb_world.specs.StorePath.{is_in_scratch, store_path}
use Rattle.kb_world.proofs.PathLaws.{by_roots}
use Rattle.kb_world.proofs.path_tests.is_private.Goals as goal

pub returns : goal.returns
returns c =
    let roots = c.args.roots.now in
    let p = c.args.path.now in
    (λ i. ((c.is_private_in_dkms-dkms.ensures i || c.is_under_entry-src.ensures i) || c.is_under_entry-modules.ensures i) || c.is_private_in_boot-boot.ensures i)
    ∙ by_roots (is_under p (child roots.dkms (codes ".intent"))) (is_under p (child roots.dkms (codes ".intent.new"))) (is_under p (child roots.dkms (codes ".kb-staged")))
    (is_in_scratch (store_path roots p)) (is_under p (child roots.src (codes ".kb-staged"))) (is_under p (child roots.modules (codes ".kb-staged")))
    (is_under p (child roots.boot (codes ".kb-staged"))) (is_under p (child roots.boot (codes ".kb-plugins")))
