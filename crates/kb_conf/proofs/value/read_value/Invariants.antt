use Rattle.std.proofs.Common.{◌≤◌, length, false}
use Rattle.kb_conf.specs.Value.{longest_value}
use Rattle.kb_conf.specs.Views.{mode_view}
use Rattle.kb_conf.proofs.ValueLaws.{Continues}
use Rattle.kb_conf.proofs.value.read_value.Given as goal

abbrev pub invariant-pieces : goal.invariant-pieces
invariant-pieces l = record {
  continues : Continues (record { given = l.given; earlier = l.earlier }) (record { quoted = false; command = l.command }) l.text l.value.items (mode_view l.mode) l.rest;
  short : length l.value.items ≤ longest_value;
}

abbrev pub decreases-pieces : goal.decreases-pieces
decreases-pieces l = length l.rest
