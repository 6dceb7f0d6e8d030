use Rattle.std.proofs.Common.{ap, ◌∙◌}
use Rattle.kb_world.specs.Names.{is_name}
use Rattle.kb_world.specs.Path.{child}
use Rattle.kb_token.specs.Sources.{contents_of}
use Rattle.kb_token.proofs.FactsLaws.{gives_refused, gives_facts, token_names}
use Rattle.kb_token.proofs.facts.boot_facts.Goals as goal

pub returns-in-Err : goal.returns-in-Err
returns-in-Err g c = gives_refused c.args.roots.now c.args.choice.now _ _ c.in_ok-sources.sources c.in-Err.stop c.in_ok-sources.ensures.contents c.in_ok-sources.ensures.same c.in-Err.ensures

pub child-requires : goal.child-requires
child-requires g c = ap is_name c.as_str.ensures ∙ token_names c.args.roots.now (contents_of c.in_ok-sources.sources) c.args.choice.now c.in-Ok.token c.in-Ok.ensures

pub returns : goal.returns
returns g c =
    gives_facts c.args.roots.now c.args.choice.now _ _ _ c.in_ok-sources.sources c.in-Ok.token c.in_ok-directory.directory c.in_ok-token_dir.token_dir c.in_ok-facts_with.field-0 c.in_ok-sources.ensures.contents
    c.in_ok-sources.ensures.same c.in-Ok.ensures (c.in_ok-directory.ensures ∙ ap (λ t. child c.args.roots.now.boot t) c.as_str.ensures) c.in_ok-token_dir.ensures.directory c.in_ok-token_dir.ensures.same
    c.in_ok-facts_with.ensures
