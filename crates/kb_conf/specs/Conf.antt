-- What a dkms.conf says: the first bad line, else the first missing or bad value, else the fields. After dkms(8).
use Rattle.std.specs.Prelude.{◌≡◌, ◌⊎◌, ℕ, List, Result, Ok, Err}
use Rattle.kb_world.specs.Read.{IsRead, unless_due}
use Rattle.kb_world.specs.declared.refusal.Refusal.{Refusal}
use Rattle.kb_world.specs.declared.refusal.Refusal.TheVariants as refusal
use Rattle.kb_world.specs.declared.stop.Stop.{Stop}
use Rattle.kb_conf.specs.declared.conf.Conf.{Conf}
use Rattle.kb_conf.specs.Assignment.{Assignment, Given}
use Rattle.kb_conf.specs.Values.{Values}
use Rattle.kb_conf.specs.Checks.{value_refusal}
use Rattle.kb_conf.specs.Fields.{fields_of}
use Rattle.kb_conf.specs.Meaning.{Said, meaning_of}
use Rattle.kb_conf.specs.Reading.{drop_returns, IsGood, IsBadLine}

-- what the assignments of a good text say
abbrev pub conf_from : Given → Values → Result Conf Refusal
conf_from given values = unless_due (value_refusal values) (Ok (fields_of given values))

-- What the grammar says of a text: what the assignments of a good one say, else the refusal of its bad line.
abbrev pub IsSaid : Given → List ℕ → Result Conf Refusal → Type 0
IsSaid given text right =
    ((assignments : List Assignment) × IsGood given text assignments × (right ≡ conf_from given assignments))
    ⊎ ((line : ℕ) × IsBadLine given text line × (right ≡ Err (refusal.ConfLine line)))

-- The reader answers what the grammar says of the text without its carriage returns before line feeds.
pub record ReadsConf (given : Given) (text : List ℕ) (result : Result Conf Stop) : Type 0 where
  pub right : Result Conf Refusal
  pub said : IsSaid given (drop_returns text) right
  pub answered : IsRead result right

-- the assignments, or the refusal of the bad line
abbrev pub values_in : Said → Result Values Refusal
values_in (Ok values) = Ok values
values_in (Err line) = Err (refusal.ConfLine line)

abbrev pub conf_in : Given → Said → Result Conf Refusal
conf_in given (Ok values) = conf_from given values
conf_in given (Err line) = Err (refusal.ConfLine line)

-- the conf that the text is, read for what is given, or its refusal
unfoldable pub conf_of : List ℕ → Given → Result Conf Refusal
conf_of text given = conf_in given (meaning_of given (drop_returns text))
