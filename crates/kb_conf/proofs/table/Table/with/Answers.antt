use Rattle.std.proofs.Common.{◌≡◌, List, length, sym, ap, ◌∙◌, subst, arith, cond, Some, ℕ}
use Rattle.kb_conf.specs.Assignment.{is_of}
use Rattle.kb_conf.specs.Table.{view_assignment, last_position, PointsAtLast}
use Rattle.kb_conf.specs.declared.table.Assignment as code
use Rattle.kb_conf.proofs.TableLaws.{pushed_points}
use Rattle.kb_conf.proofs.table.Table.with.Goals as goal

pub invariant_of-self : goal.invariant_of-self
invariant_of-self c =
    let list = c.self.inside.list.items in
    let n : c.len-index.result ≡ length list = omega (arith, c.len-index.ensures, c.self.inside.list.ok.0) in
    let noted = λ (name : List ℕ) (number : ℕ). c.in_ok-insert.ensures.updates.0 (record { ref_ptr = (0, 0); now = name }, number) ∙ ap (λ (k : ℕ). cond (is_of name number (view_assignment c.args.assignment)) (Some k) (last_position c.self.inside.last name number)) n in
    subst (λ (l : List code.Assignment). PointsAtLast l c.insert.new.self) (sym c.in_ok-push.ensures.items) (pushed_points list c.self.inside.last c.insert.new.self c.args.assignment c.self.invariant noted)
