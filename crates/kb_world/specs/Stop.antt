use Rattle.kb_world.specs.declared.stop.Stop.{Stop}
use Rattle.kb_world.specs.declared.stop.Stop.TheVariants as stops
use Rattle.kb_world.specs.declared.world.WorldError.{WorldError}
use Rattle.kb_world.specs.declared.world.WorldError.TheVariants.{Failed, NoMemory}

-- how a caller stops where a call of the world failed
abbrev pub stop_for : WorldError → Stop
stop_for Failed = stops.Fault
stop_for NoMemory = stops.NoMemory
