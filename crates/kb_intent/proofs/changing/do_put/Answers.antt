-- It is one file operation, within one root.
use Rattle.std.proofs.Common.{refl, ap, ◌∙◌}
use Rattle.kb_changes.specs.declared.change.Change.TheVariants as changes
use Rattle.kb_changes.specs.Change.{staged_path}
use Rattle.kb_world.specs.Roots.{share_root}
use Rattle.kb_intent.specs.Doing.{put_staged_at}
use Rattle.kb_intent.proofs.ChangeLaws.{does_plain, stops_plain, wants_plain, plain_put, shares_root}
use Rattle.kb_intent.proofs.changing.do_put.Goals as goal

pub returns-in-Err : goal.returns-in-Err
returns-in-Err g c =
    wants_plain c.args.roots.now (changes.Put c.args.root c.args.number c.args.target.now) (put_staged_at (staged_path c.args.roots.now c.args.root c.args.number) c.args.target.now) (g.W.World.state c.args.world.now)
    (plain_put c.args.roots.now _ c.args.root c.args.number (staged_path c.args.roots.now c.args.root c.args.number) c.args.target.now refl)

pub put_from-requires : goal.put_from-requires
put_from-requires g c tree told =
    ap (λ roots. share_root roots c.in-Ok.staged c.args.target.now) (c.requires.rooted tree told)
    ∙ shares_root c.args.roots.now c.args.root c.args.number c.in-Ok.staged c.args.target.now c.in-Ok.ensures (c.requires.placed tree told)

pub returns-in-Ok-put_from : goal.returns-in-Ok-put_from
returns-in-Ok-put_from g c =
    does_plain c.args.roots.now (changes.Put c.args.root c.args.number c.args.target.now) (put_staged_at c.in-Ok.staged c.args.target.now) (g.W.World.state c.args.world.now) (g.W.World.state c.put_from.new.world)
    (plain_put c.args.roots.now _ c.args.root c.args.number c.in-Ok.staged c.args.target.now c.in-Ok.ensures) tt c.in-Ok-put_from.ensures

pub returns : goal.returns
returns g c =
    stops_plain c.args.roots.now (changes.Put c.args.root c.args.number c.args.target.now) (put_staged_at c.in-Ok.staged c.args.target.now) (g.W.World.state c.args.world.now) (g.W.World.state c.put_from.new.world)
    (plain_put c.args.roots.now _ c.args.root c.args.number c.in-Ok.staged c.args.target.now c.in-Ok.ensures) c.in-Err-put_from.error c.in-Err-put_from.ensures
