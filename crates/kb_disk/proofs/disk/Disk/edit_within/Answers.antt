use Rattle.std.proofs.Common.{sym, ◌∙◌}
use Rattle.kb_disk.proofs.EffectLaws.{can_edit-formed}
use Rattle.kb_disk.proofs.disk.Disk.edit_within.Goals as goal

pub edit-requires : goal.edit-requires
edit-requires c =
    can_edit-formed c.args.area.now c.args.self.now.nodes c.in-Some.field-0.path (sym c.in_ok-can_edit-in-Some.ensures ∙ c.if-branch.true) c.in-Some.field-0.at c.args.self.now.formed
