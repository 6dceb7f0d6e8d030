-- A module and a version, joined, can name an entry of a directory.
use Rattle.std.proofs.Common.{sym, ap, ◌∙◌, append_assoc}
use Rattle.std.specs.Prelude.{codes}
use Rattle.kb_world.specs.Path.{child}
use Rattle.kb_world.proofs.PartLaws.{named_as, source_named, ok_is}
use Rattle.kb_world.proofs.roots.Roots.source_dir.Goals as goal

pub child-requires : goal.child-requires
child-requires c =
    let key = c.args.key.now in
    named_as _ _ (c.deref.ensures ∙ c.in_ok-name.ensures.ok ∙ sym (append_assoc key.module (codes "-") key.version)) (source_named key c.requires)

pub returns : goal.returns
returns c =
    let key = c.args.key.now in
    ok_is _ _ _ c.child.ensures (ap (child c.args.self.now.src) (c.deref.ensures ∙ c.in_ok-name.ensures.ok ∙ sym (append_assoc key.module (codes "-") key.version)))
