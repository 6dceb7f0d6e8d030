-- From the values of a text to its conf.
use Rattle.std.proofs.Common.{◌≡◌, ℕ, List, refl, ap, subst, inl, inr}
use Rattle.std.specs.Prelude.{Result, Ok, Err}
use Rattle.kb_world.specs.declared.refusal.Refusal.TheVariants as refusal
use Rattle.kb_world.specs.declared.stop.Stop.{Stop}
use Rattle.kb_world.specs.declared.stop.Stop.TheVariants.{Refused, Fault, NoMemory}
use Rattle.kb_conf.specs.declared.conf.Conf.{Conf}
use Rattle.kb_conf.specs.Assignment.{Given}
use Rattle.kb_conf.specs.Values.{Values}
use Rattle.kb_conf.specs.Meaning.{Said, Means, meaning_of}
use Rattle.kb_conf.specs.Reading.{drop_returns, IsGood, IsBadLine}
use Rattle.kb_conf.specs.Conf.{values_in, conf_in, conf_from, conf_of, IsSaid, ReadsConf}
use Rattle.kb_world.specs.Read.{IsRead}
use Rattle.kb_conf.proofs.MeaningLaws.{meaning, is_meaning}

pub good_values : (g : Given) (text : List ℕ) (values : Values) → IsGood g text values → values_in (meaning_of g text) ≡ Ok values
good_values g text values h = ap values_in (is_meaning g text (Ok values) h)

pub bad_values : (g : Given) (text : List ℕ) (line : ℕ) → IsBadLine g text line → values_in (meaning_of g text) ≡ Err (refusal.ConfLine line)
bad_values g text line h = ap values_in (is_meaning g text (Err line) h)

stopped : (g : Given) (said : Said) (stop : Stop) → IsRead {T = Values} (Err stop) (values_in said) → IsRead {T = Conf} (Err stop) (conf_in g said)
stopped g (Ok values) (Refused r) e = let impossible : Ok values ≡ Err r = e in cc
stopped g (Err line) (Refused r) e = let same : Err (refusal.ConfLine line) ≡ Err r = e in cc
stopped g said Fault e = absurd e
stopped g said NoMemory e = tt

-- what stops the reading of values stops the reading of the conf
pub conf_stopped : (g : Given) (text kept : List ℕ) (stop : Stop) → kept ≡ drop_returns text → IsRead {T = Values} (Err stop) (values_in (meaning_of g kept)) →
    IsRead {T = Conf} (Err stop) (conf_of text g)
unfolding conf_of
conf_stopped g text kept stop same h = subst (λ t. IsRead {T = Conf} (Err stop) (conf_in g (meaning_of g t))) same (stopped g (meaning_of g kept) stop h)

found : (g : Given) (said : Said) (values : Values) (result : Result Conf Stop) → values_in said ≡ Ok values → IsRead result (conf_from g values) → IsRead result (conf_in g said)
found g (Ok others) values result e h = let same : Ok others ≡ Ok values = e in let is : values ≡ others = cc in subst (λ v. IsRead result (conf_from g v)) is h
found g (Err line) values result e h = let impossible : Err (refusal.ConfLine line) ≡ Ok values = e in cc

-- the conf of the values is the conf of the text
pub conf_found : (g : Given) (text kept : List ℕ) (values : Values) (result : Result Conf Stop) → kept ≡ drop_returns text → values_in (meaning_of g kept) ≡ Ok values →
    IsRead result (conf_from g values) → IsRead result (conf_of text g)
unfolding conf_of
conf_found g text kept values result same e h = subst (λ t. IsRead result (conf_in g (meaning_of g t))) same (found g (meaning_of g kept) values result e h)

said_so : (g : Given) (text : List ℕ) (said : Said) → Means g text said → IsSaid g text (conf_in g said)
said_so g text (Ok assignments) h = inl (assignments, h, refl)
said_so g text (Err line) h = inr (line, h, refl)

-- what is answered is what the grammar says
pub reads_conf : (g : Given) (text : List ℕ) (result : Result Conf Stop) → IsRead result (conf_of text g) → ReadsConf g text result
unfolding conf_of
reads_conf g text result h = record {
  right = conf_of text g;
  said = said_so g (drop_returns text) (meaning_of g (drop_returns text)) (meaning g (drop_returns text));
  answered = h;
}
