-- One path more.
use Rattle.std.proofs.Common.{rules, subst, take_all}
use Rattle.std.proofs.lemmas.List.Elements.{All-more, All-same}
use Rattle.kb_changes.specs.Text as rule
use Rattle.kb_journal.proofs.SpellLaws.{mapped_more}
use Rattle.kb_journal.proofs.spell.push_paths.Goals as goal

pub loop-path-preserved : goal.loop-path-preserved
loop-path-preserved c =
    let paths = c.args.paths.now in
    let i = c.loop-path.path-index in
    let x = c.path-item.result in (
      mapped_more rule.path_field paths i x c.args.fields.now.items c.loop-path.fields.items c.push.new.self.items c.in_ok-path_field.field-0 c.loop-path-test.true c.path-item.is
          c.loop-path.invariant.0 c.in_ok-push.ensures.items c.in_ok-path_field.ensures.field,
      All-more rule.IsTextPath paths i x c.loop-path-test.true c.loop-path.invariant.1 (subst rule.IsTextPath c.path-item.is c.in_ok-path_field.ensures.path),
    )

pub returns-clause-paths : goal.returns-clause-paths
returns-clause-paths c = All-same rule.IsTextPath c.args.paths.now _ (search (rules, take_all)) c.loop-path.invariant.1
