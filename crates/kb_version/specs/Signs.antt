-- The signs of a version, by their ASCII codes: after the UAPI version format specification. They stand here, and not in the code,
-- so that no edit of the code moves a definition.
use Rattle.std.specs.Prelude.{ℕ}

abbrev pub tilde : ℕ
tilde = 126

abbrev pub dash : ℕ
dash = 45

abbrev pub caret : ℕ
caret = 94

abbrev pub dot : ℕ
dot = 46

abbrev pub digit_zero : ℕ
digit_zero = 48
