use Rattle.std.proofs.Common.{◌+◌, Ok, get_or, sym, subst, arith}
use Rattle.std.proofs.lemmas.List.{take_more}
use Rattle.kb_token.specs.Sources.{all_sources}
use Rattle.kb_token.specs.declared.sources.Source.TheVariants.{MachineId}
use Rattle.kb_token.proofs.WorldLaws.{HasRead, read_more, read_all, content_there}
use Rattle.kb_token.proofs.sources.Sources.read.Goals as goal

pub loop-source-preserved : goal.loop-source-preserved
loop-source-preserved g c =
    let i = c.loop-source.source-index in
    let source = get_or all_sources i MachineId in
    subst (λ contents. HasRead (g.W.World.state c.args.world.now) (g.W.World.state c.read_content.new.world) c.args.roots.now all_sources contents (i + 1)) (sym c.in_ok-push.ensures.items)
    (read_more _ _ _ (Ok c.in_ok-read_content.field-0) c.args.roots.now all_sources _ i source c.in_ok-read_content.field-0 c.loop-source.invariant (take_more all_sources i MachineId (omega arith))
    c.in_ok-read_content.ensures.same (λ tree told. content_there c.args.roots.now tree source c.in_ok-path.path _ c.in_ok-path.ensures (c.in_ok-read_content.ensures.content tree told)))

pub returns-clause-contents : goal.returns-clause-contents
returns-clause-contents g c = λ tree told. read_all _ _ c.args.roots.now _ _ c.loop-source.invariant (omega arith) tree told
