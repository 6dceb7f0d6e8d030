use Rattle.std.proofs.Common.{◌≡◌, ◌+◌, ◌++◌, false, not, List, ℕ, length, sym, ap, ◌∙◌, subst, arith}
use Rattle.std.proofs.lemmas.Bool.{and_from, and_left, and_right}
use Rattle.std.proofs.lemmas.List.{length-append}
use Rattle.kb_conf.specs.Piece.{Mode}
use Rattle.kb_conf.specs.Value.{Scope, ends_item, gives}
use Rattle.kb_conf.specs.Views.{mode_view, view_piece}
use Rattle.kb_conf.proofs.ValueLaws.{Continues, continues_step, too_long, value_done, value_broken}
use Rattle.kb_conf.proofs.value.read_value.Goals as goal
use Rattle.kb_conf.proofs.value.read_value.Goals.{else-not-mode-via-then-not-mode+else-ends_item, else-not-mode-via-else-not-mode}

pub returns-then-bytes-len : goal.returns-then-bytes-len
returns-then-bytes-len c =
    let s : Scope = record { given = c.args.given.now; earlier = c.args.earlier.now } in
    let start : Mode = record { quoted = false; command = c.args.command } in
    let m = mode_view c.pieces.mode in
    let p = view_piece c.in-Some.piece in
    let step = continues_step s start c.args.text.now c.pieces.value.items m c.pieces.rest.now p c.in-Some.behind.now c.pieces.invariant.continues c.in-Some.ensures.found in
    let all = length-append c.pieces.value.items (gives s m p) in
    let more : length c.given_by-bytes.result.now ≡ length (gives s m p) = ap length c.given_by-bytes.ensures in
    too_long s start c.args.text.now _ _ _ step (omega (arith, c.if-bytes-len.true, c.len.ensures, c.pieces.value.ok.0))

pub pieces-preserved : goal.pieces-preserved
pieces-preserved c =
    let s : Scope = record { given = c.args.given.now; earlier = c.args.earlier.now } in
    let start : Mode = record { quoted = false; command = c.args.command } in
    let m = mode_view c.pieces.mode in
    let p = view_piece c.in-Some.piece in
    let step = continues_step s start c.args.text.now c.pieces.value.items m c.pieces.rest.now p c.in-Some.behind.now c.pieces.invariant.continues c.in-Some.ensures.found in
    let items : c.extend_from_slice.new.self.items ≡ c.pieces.value.items ++ gives s m p = c.in_ok-extend_from_slice.ensures.items ∙ ap (λ x. c.pieces.value.items ++ x) c.given_by-bytes.ensures in
    let all : length c.extend_from_slice.new.self.items ≡ length c.pieces.value.items + length (gives s m p) = ap length items ∙ length-append c.pieces.value.items (gives s m p) in
    let more : length c.given_by-bytes.result.now ≡ length (gives s m p) = ap length c.given_by-bytes.ensures in
    record {
      continues = subst (λ (x : List ℕ). Continues s start c.args.text.now x (mode_view c.after-mode.result) c.in-Some.behind.now) (sym items)
          (subst (λ (x : Mode). Continues s start c.args.text.now (c.pieces.value.items ++ gives s m p) x c.in-Some.behind.now) (sym c.after-mode.ensures) step);
      short = omega (arith, c.if-bytes-len.false, c.len.ensures, c.pieces.value.ok.0, c.pieces.invariant.short);
    }

pub returns-then-ends_item : goal.returns-then-ends_item
returns-then-ends_item c =
    value_done _ _ c.args.text.now c.pieces.value.items (mode_view c.pieces.mode) c.pieces.rest.now c.pieces.invariant.continues c.pieces.invariant.short c.in_default.ensures (and_from (not c.pieces.mode.quoted) (ends_item c.pieces.rest.now) c.if-not-mode.true (sym c.if-ends_item.ensures))

pub returns : goal.returns
returns c = λ x h.
    elim c.else-not-mode.branch [
      | else-not-mode-via-then-not-mode+else-ends_item w ↦ value_broken _ _ c.args.text.now c.pieces.value.items (mode_view c.pieces.mode) c.pieces.rest.now c.pieces.invariant.continues c.in_default.ensures (and_right (not c.pieces.mode.quoted) (ends_item c.pieces.rest.now) (sym w.if-ends_item.ensures)) x h
      | else-not-mode-via-else-not-mode w ↦ value_broken _ _ c.args.text.now c.pieces.value.items (mode_view c.pieces.mode) c.pieces.rest.now c.pieces.invariant.continues c.in_default.ensures (and_left (not c.pieces.mode.quoted) (ends_item c.pieces.rest.now) w.if-not-mode.false) x h
    ]
