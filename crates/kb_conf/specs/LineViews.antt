-- Assignments and items as the reader holds them, seen without where they lie in memory.
use Rattle.std.specs.Prelude.{List, ℕ, Option, option_map}
use Rattle.std.specs.Option.{option_to_list}
use Rattle.std.specs.Borrow.{Bor}
use Rattle.kb_conf.specs.Assignment.{Assignment}
use Rattle.kb_conf.specs.Table.{view_assignment}
use Rattle.kb_conf.specs.Line.{Step}
use Rattle.kb_conf.specs.declared.line_position.LinePosition.{LinePosition}
use Rattle.kb_conf.specs.declared.table.Assignment as code
use Rattle.kb_conf.specs.declared.line.Step as code_step

abbrev pub assignment_view : Option (code.Assignment × Bor (List ℕ)) → Option (Assignment × List ℕ)
assignment_view o = option_map (λ (p : code.Assignment × Bor (List ℕ)). (view_assignment p.0, p.1.now)) o

abbrev pub view_step : code_step.Step → Step
view_step s = record {
  position = s.position;
  assigned = option_to_list (option_map view_assignment s.assignment);
  rest = s.rest.now;
}

abbrev pub step_view : Option code_step.Step → Option Step
step_view o = option_map view_step o

abbrev pub plain_view : Option (LinePosition × Bor (List ℕ)) → Option (LinePosition × List ℕ)
plain_view o = option_map (λ (p : LinePosition × Bor (List ℕ)). (p.0, p.1.now)) o
