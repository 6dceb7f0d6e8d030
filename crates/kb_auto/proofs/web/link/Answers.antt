use Rattle.std.proofs.Common.{arith, ◌≡◌, ◌+◌, length, sym, ap, ◌∙◌, ℕ, subst, take_all, take, vec_len}
use Rattle.std.specs.Global.{Vec}
use Rattle.kb_auto.specs.declared.Listed.{Listed}
use Rattle.kb_auto.specs.Queue.{LinksSome, module_at}
use Rattle.kb_auto.proofs.RowLaws.{is_module}
use Rattle.kb_auto.proofs.WebLaws.{open_found, link_found, open_missed, link_missed, count_yes, count_no, linked_no, linked_yes}
use Rattle.kb_auto.proofs.web.link.Goals as goal
use Rattle.kb_auto.proofs.web.link.Goals.{in-Some+in_ok-push, in_default}

pub loop-name-preserved : goal.loop-name-preserved
loop-name-preserved c =
    let fresh = sym c.if-eq.ensures in
    elim c.match-get.branch [
      | in-Some+in_ok-push w ↦ record {
        len = ap (λ (r : Vec (Vec ℕ)). vec_len r) w.rows-is ∙ c.loop-name.invariant.len;
        count = w.count-is ∙ count_yes c.args.list.now c.args.place c.index-list-place.result c.as_slice-name-items.result.now c.loop-name.name-index c.name-item.result c.loop-name-test.true c.name-item.is
            c.loop-name.count c.loop-name.invariant.count
            (open_found c.args.list.now c.args.places.now c.requires.places c.index-list-place.result c.name-item.result w.in-Some.other.now (sym w.in-Some.ensures.value) fresh);
        linked = linked_yes c.args.list.now c.args.place c.index-list-place.result c.as_slice-name-items.result.now c.loop-name.name-index c.name-item.result c.loop-name-test.true c.name-item.is
            c.args.rows.now c.loop-name.rows c.match-get.rows w.in-Some.other.now w.index_mut.result.now w.push.new.self
            (let a = c.requires.places.within c.name-item.result w.in-Some.other.now (sym w.in-Some.ensures.value) in let b = c.loop-name.invariant.len in let e : vec_len c.loop-name.rows ≡ length c.loop-name.rows.items = c.loop-name.rows.ok.0 in omega (arith, a, b, e))
            w.index_mut.ensures.value w.in_ok-push.ensures.items (ap (λ (r : Vec (Vec ℕ)). r.items) w.rows-is)
            (link_found c.args.list.now c.args.places.now c.requires.places c.index-list-place.result c.name-item.result w.in-Some.other.now (sym w.in-Some.ensures.value) fresh)
            c.loop-name.invariant.linked;
      }
      | in_default w ↦ record {
        len = ap (λ (r : Vec (Vec ℕ)). vec_len r) w.rows-is ∙ c.loop-name.invariant.len;
        count = w.count-is ∙ count_no c.args.list.now c.args.place c.index-list-place.result c.as_slice-name-items.result.now c.loop-name.name-index c.name-item.result c.loop-name-test.true c.name-item.is
            c.loop-name.count c.loop-name.invariant.count
            (open_missed c.args.list.now c.args.places.now c.requires.places c.index-list-place.result c.name-item.result (sym w.in_default.ensures.value));
        linked = subst (λ r. LinksSome c.args.list.now c.args.place c.index-list-place.result (take (c.loop-name.name-index + 1) c.as_slice-name-items.result.now) c.args.rows.now r) (sym w.rows-is)
            (linked_no c.args.list.now c.args.place c.index-list-place.result c.as_slice-name-items.result.now c.loop-name.name-index c.name-item.result c.loop-name-test.true c.name-item.is
            c.args.rows.now c.loop-name.rows c.loop-name.invariant.linked
            (link_missed c.args.list.now c.args.places.now c.requires.places c.index-list-place.result c.name-item.result (sym w.in_default.ensures.value)));
      }
    ]

pub returns-clause-linked : goal.returns-clause-linked
returns-clause-linked c =
    let e : c.index-list-place.result ≡ module_at c.args.list.now c.args.place = is_module c.args.list.now c.args.place c.index-list-place.result c.requires.within c.index-list-place.is in
    let names : take c.loop-name.name-index c.as_slice-name-items.result.now ≡ (module_at c.args.list.now c.args.place).depends =
    take_all c.loop-name.name-index c.as_slice-name-items.result.now c.loop-name-test.false ∙ c.as_slice-name-items.ensures ∙ ap (λ (m : Listed). m.depends) e in
    subst (λ ns. LinksSome c.args.list.now c.args.place (module_at c.args.list.now c.args.place) ns c.args.rows.now c.loop-name.rows) names
    (subst (λ m. LinksSome c.args.list.now c.args.place m (take c.loop-name.name-index c.as_slice-name-items.result.now) c.args.rows.now c.loop-name.rows) e c.loop-name.invariant.linked)
