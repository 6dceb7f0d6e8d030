-- One directory more.
use Rattle.std.proofs.Common.{◌++◌, ◌∷◌, [], ap, ◌∙◌}
use Rattle.kb_world.specs.Path.{child}
use Rattle.kb_changes.proofs.PathsLaws.{directories_more}
use Rattle.kb_changes.proofs.patch_paths.directories_to.Goals as goal

pub loop-name-preserved : goal.loop-name-preserved
loop-name-preserved c =
    directories_more c.args.base.now c.loop-name.directory c.in_ok-directory-2.directory c.args.names.now c.in-Some.front.now c.in-Some.field-0-0.now c.name-item.result c.loop-name.name-index
    c.loop-name.made.items c.push.new.self.items c.in-Some.ensures.cases.0 c.loop-name-test.true c.name-item.is c.loop-name.invariant (c.in_ok-directory-2.ensures ∙ ap (child c.loop-name.directory) c.as_str.ensures)
    (c.in_ok-push.ensures.items ∙ ap (λ path. c.loop-name.made.items ++ path ∷ []) c.in_ok-clone.ensures.cases)
