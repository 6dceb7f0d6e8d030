use Rattle.std.proofs.Common.{◌≡◌, ◌++◌, Option, Some, None, is_some, true, false, IsTrue, refl, sym, ap, subst, ◌∙◌}
use Rattle.kb_world.specs.Names.{is_name}
use Rattle.kb_world.specs.Path.{Path, IsPath}
use Rattle.kb_disk.specs.Edits.{tree_with}
use Rattle.kb_world.specs.declared.tree.Node.{Node}
use Rattle.kb_disk.proofs.ListLaws.{alone_childless, named_more, names_among, RiseBehind, rise_behind, rest_rises, none_left, one_more, none_here, all_found, total_is}
use Rattle.kb_disk.proofs.nodes.Nodes.children.Goals as goal

absent : (alone : Option Node) → is_some alone ≡ false → alone ≡ None
absent None h = refl
absent (Some node) h = let q : true ≡ false = h in cc

pub returns-then-is_some-clause-names : goal.returns-then-is_some-clause-names
returns-then-is_some-clause-names c =
    c.new-names.ensures.items ∙ sym (alone_childless c.self.inside.alone c.self.inside.map.entries c.args.self.now c.args.path.now (sym c.if-is_some.ensures) c.self.view_is)

pub loop-entry-init : goal.loop-entry-init
loop-entry-init c = (
  ap (λ names. names ++ names_among c.args.path.now c.into_iter-entry-iterator.result) c.new-names.ensures.items,
  subst (RiseBehind c.args.path.now) (sym (c.into_iter-entry-iterator.ensures.into_iter_gives ∙ c.range-entry-items.ensures.between tt))
      (rise_behind c.args.path.now c.self.inside.map.entries c.range-entry-items.ensures.ordered),
  subst IsPath (sym c.new-names.ensures.items) refl,
)

pub loop-entry-preserved-in_ok-push : goal.loop-entry-preserved-in_ok-push
loop-entry-preserved-in_ok-push c =
    let path = c.args.path.now in
    let e : Path × Node = (c.in-Some.entry.now, c.in-Some.field-0-1.now) in
    let total = names_among path c.into_iter-entry-iterator.result in
    let named = c.in_ok-clone.ensures.cases in (
      ap (λ names. names ++ names_among path c.next.new.self) c.in_ok-push.ensures.items
          ∙ one_more path c.loop-entry.names.items total c.loop-entry.entry-iterator c.next.new.self e c.in-Some.ensures.steps c.loop-entry.invariant.0 c.in_ok-clone.field-0
          (ap (λ name. Some name) named ∙ c.in-Some-name_in.ensures.name),
      rest_rises path e c.next.new.self (subst (RiseBehind path) c.in-Some.ensures.steps c.loop-entry.invariant.1),
      subst IsPath (sym c.in_ok-push.ensures.items)
          (named_more c.loop-entry.names.items c.in_ok-clone.field-0 c.loop-entry.invariant.2 (subst (λ name. IsTrue (is_name name)) (sym named) c.in-Some-name_in.ensures.named)),
    )

pub loop-entry-preserved : goal.loop-entry-preserved
loop-entry-preserved c =
    let path = c.args.path.now in
    let e : Path × Node = (c.in-Some.entry.now, c.in-Some.field-0-1.now) in (
      none_here path c.loop-entry.names.items (names_among path c.into_iter-entry-iterator.result) c.loop-entry.entry-iterator c.next.new.self e c.in-Some.ensures.steps
          c.loop-entry.invariant.0 c.in_default.ensures.name,
      rest_rises path e c.next.new.self (subst (RiseBehind path) c.in-Some.ensures.steps c.loop-entry.invariant.1),
      c.loop-entry.invariant.2,
    )

pub returns-then-not-is_under-clause-names : goal.returns-then-not-is_under-clause-names
returns-then-not-is_under-clause-names c =
    let path = c.args.path.now in
    let e : Path × Node = (c.in-Some.entry.now, c.in-Some.field-0-1.now) in
    let es = c.self.inside.map.entries in
    all_found path c.loop-entry.names.items (names_among path c.into_iter-entry-iterator.result) c.loop-entry.entry-iterator c.loop-entry.invariant.0
    (ap (names_among path) c.in-Some.ensures.steps ∙ none_left path e c.next.new.self (subst (RiseBehind path) c.in-Some.ensures.steps c.loop-entry.invariant.1) (sym c.if-not-is_under.ensures))
    ∙ total_is path c.args.self.now es _ _ (ap (λ alone. tree_with alone es) (sym (absent c.self.inside.alone (sym c.if-is_some.ensures))) ∙ c.self.view_is) c.range-entry-items.ensures.ordered c.into_iter-entry-iterator.ensures.into_iter_gives (c.range-entry-items.ensures.between tt)

pub returns-clause-names : goal.returns-clause-names
returns-clause-names c =
    let path = c.args.path.now in
    let es = c.self.inside.map.entries in
    all_found path c.loop-entry.names.items (names_among path c.into_iter-entry-iterator.result) c.loop-entry.entry-iterator c.loop-entry.invariant.0
    (ap (names_among path) c.in-None.ensures.steps.0)
    ∙ total_is path c.args.self.now es _ _ (ap (λ alone. tree_with alone es) (sym (absent c.self.inside.alone (sym c.if-is_some.ensures))) ∙ c.self.view_is) c.range-entry-items.ensures.ordered c.into_iter-entry-iterator.ensures.into_iter_gives (c.range-entry-items.ensures.between tt)
