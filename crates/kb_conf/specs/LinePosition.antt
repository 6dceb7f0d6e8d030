-- Where in a line an item may stand. A line is a list of assignments, separated by blanks or by a ;
-- with or without blanks round it, and then perhaps a ; and perhaps a comment at the line's start or
-- behind a blank.
use Rattle.std.specs.Prelude.{Bool, true, false}
use Rattle.kb_conf.specs.declared.line_position.Last.{Last}
use Rattle.kb_conf.specs.declared.line_position.Last.TheVariants.{Nothing, Assignment, Separator, Closing}
use Rattle.kb_conf.specs.declared.line_position.LinePosition.{LinePosition}

abbrev pub line_start : LinePosition
line_start = record { last = Nothing; spaced = true }

abbrev pub may_set : Last → Bool → Bool
may_set Nothing spaced = true
may_set Assignment spaced = spaced
may_set Separator spaced = true
may_set Closing spaced = false

abbrev pub may_part : Last → Bool
may_part Nothing = true
may_part Assignment = true
may_part Separator = false
may_part Closing = false

abbrev pub after_blank : LinePosition → LinePosition
after_blank position = record { last = position.last; spaced = true }

-- a ; separates from the assignment before it; where there is none, nothing but a comment follows it
abbrev pub parted : Last → Last
parted Nothing = Closing
parted _ = Separator

abbrev pub after_semicolon : LinePosition → LinePosition
after_semicolon position = record { last = parted position.last; spaced = false }

abbrev pub after_assignment : LinePosition
after_assignment = record { last = Assignment; spaced = false }
