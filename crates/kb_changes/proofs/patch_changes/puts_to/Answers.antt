-- One Put more has the count of its root.
use Rattle.std.proofs.Common.{List, take, ◌++◌, ◌∷◌, [], sym, ap, ◌∙◌, arith}
use Rattle.std.proofs.lemmas.List.{append-nil, drop_all}
use Rattle.kb_changes.specs.Changes.{numbered_puts}
use Rattle.kb_changes.specs.PatchPaths.{some_puts}
use Rattle.kb_world.specs.Path.{Path}
use Rattle.kb_changes.specs.declared.change.Change.TheVariants.{Put}
use Rattle.kb_changes.proofs.PathsLaws.{puts_more, counted_more, count_small, none_are_counted}
use Rattle.kb_changes.proofs.patch_changes.puts_to.Goals as goal

pub loop-target-init : goal.loop-target-init
loop-target-init c = record {
  made = ap (λ puts. puts ++ numbered_puts c.args.roots.now [] (some_puts c.args.targets.now)) c.new-puts.ensures.items;
  counted = none_are_counted c.args.roots.now c.none-counts.result c.none-counts.ensures;
}

pub count-requires : goal.count-requires
count-requires c =
    omega (arith, count_small c.args.roots.now c.loop-target.counts c.args.targets.now c.loop-target.target-index c.loop-target.invariant.counted c.root_of-root.result)

pub loop-target-preserved : goal.loop-target-preserved
loop-target-preserved c =
    let roots = c.args.roots.now in
    let targets = c.args.targets.now in
    let i = c.loop-target.target-index in
    let target = c.target-item.result in
    let root = c.root_of-root.result in record {
      made = puts_more roots targets i target root c.below.result c.loop-target.puts.items c.push.new.self.items (numbered_puts roots [] (some_puts targets)) c.loop-target-test.true c.target-item.is c.root_of-root.ensures
          (c.below.ensures ∙ c.loop-target.invariant.counted root) c.loop-target.invariant.made (c.in_ok-push.ensures.items ∙ ap (λ path. c.loop-target.puts.items ++ Put root c.below.result path ∷ []) c.in_ok-clone.ensures.cases);
      counted = counted_more roots targets i target root c.loop-target.counts c.count.new.self c.loop-target-test.true c.target-item.is c.root_of-root.ensures c.loop-target.invariant.counted c.count.ensures;
    }

pub returns : goal.returns
returns c =
    let left = λ (targets : List Path). numbered_puts c.args.roots.now (some_puts (take c.loop-target.target-index c.args.targets.now)) (some_puts targets) in
    sym (append-nil c.loop-target.puts.items) ∙ ap (λ targets. c.loop-target.puts.items ++ left targets) (sym (drop_all c.loop-target.target-index c.args.targets.now c.loop-target-test.false))
    ∙ c.loop-target.invariant.made
