-- A conf that is read is of a package whose names keep their rules.
use Rattle.std.proofs.Common.{◌≡◌, ℕ, Bool, true, false, cond, ◌&&◌, List, Option, Some, None, IsTrue, refl, sym, ap, ◌∙◌}
use Rattle.std.specs.Prelude.{Result, Ok, Err, codes, IfOk}
use Rattle.std.specs.Option.{option_or}
use Rattle.kb_world.specs.Names.{is_word, is_version}
use Rattle.kb_world.specs.Read.{IsRead, unless_due}
use Rattle.kb_world.specs.Store.{is_key}
use Rattle.kb_world.specs.declared.job.Key.{Key}
use Rattle.kb_world.specs.declared.refusal.Refusal.{Refusal}
use Rattle.kb_world.specs.declared.refusal.Refusal.TheVariants as refusal
use Rattle.kb_world.specs.declared.stop.Stop.{Stop}
use Rattle.kb_conf.specs.Assignment.{Given}
use Rattle.kb_conf.specs.Bad.{bad_alone_unless}
use Rattle.kb_conf.specs.Checks.{missing, missing_refusal, is_bad, bad_package, value_refusal}
use Rattle.kb_conf.specs.Conf.{conf_from, conf_in, conf_of}
use Rattle.kb_conf.specs.Fields.{fields_of, package_key}
use Rattle.kb_conf.specs.Load.{is_key_of, matched}
use Rattle.kb_conf.specs.Meaning.{Said, meaning_of}
use Rattle.kb_conf.specs.Reading.{drop_returns}
use Rattle.kb_conf.specs.Rule.{keeps}
use Rattle.kb_conf.specs.Values.{Values}
use Rattle.kb_conf.specs.declared.conf.Conf.{Conf}
use Rattle.kb_conf.specs.declared.rule.Rule.TheVariants.{Word, Version}

-- where neither of two is there, the first isn't, nor the second
first_none : {A : Type 0} (a b : Option A) → option_or a b ≡ None → a ≡ None
first_none None b e = refl
first_none (Some x) b e = let impossible : Some x ≡ None = e in cc

second_none : {A : Type 0} (a b : Option A) → option_or a b ≡ None → b ≡ None
second_none a b e = ap (λ o. option_or o b) (sym (first_none a b e)) ∙ e

none_bad : (o : Option (List ℕ)) → is_bad o ≡ None → o ≡ None
none_bad None e = refl
none_bad (Some name) e = let impossible : Some (refusal.ConfValue name) ≡ None = e in cc

alone_good : (good : Bool) (name : List ℕ) → bad_alone_unless good name ≡ None → good ≡ true
alone_good true name e = refl
alone_good false name e = let impossible : Some name ≡ None = e in cc

word_kept : (value : List ℕ) → keeps Word value ≡ true → is_word value ≡ true
unfolding keeps
word_kept value h = h

version_kept : (value : List ℕ) → keeps Version value ≡ true → is_version value ≡ true
unfolding keeps
version_kept value h = h

package_is_named : (values : Values) → bad_package values ≡ None → is_key (package_key values) ≡ true
package_is_named values e =
    let word = word_kept _ (alone_good _ (codes "PACKAGE_NAME") (first_none _ _ e)) in
    let version = version_kept _ (alone_good _ (codes "PACKAGE_VERSION") (second_none _ _ e)) in
    ap (λ b. b && is_version (package_key values).version) word ∙ version

value_is_named : (values : Values) → value_refusal values ≡ None → is_key (package_key values) ≡ true
unfolding value_refusal
value_is_named values e = package_is_named values (first_none _ _ (none_bad _ (second_none (missing_refusal (missing values)) _ e)))

fields_are_named : (given : Given) (values : Values) (conf : Conf) → fields_of given values ≡ conf → value_refusal values ≡ None → is_key conf.key ≡ true
unfolding fields_of
fields_are_named given values conf e none = ap (λ (c : Conf). is_key c.key) (sym e) ∙ value_is_named values none

from_is_named : (given : Given) (values : Values) (conf : Conf) → conf_from given values ≡ Ok conf → is_key conf.key ≡ true
from_is_named given values conf e = by (value_refusal values) refl e
  where
    by : (due : Option Refusal) → value_refusal values ≡ due → unless_due due (Ok (fields_of given values)) ≡ Ok conf → is_key conf.key ≡ true
    by None none e = let same : fields_of given values ≡ conf = cc in fields_are_named given values conf same none
    by (Some why) due e = let impossible : ◌≡◌ {A = Result Conf Refusal} (Err why) (Ok conf) = e in cc

in_is_named : (given : Given) (said : Said) (conf : Conf) → conf_in given said ≡ Ok conf → is_key conf.key ≡ true
in_is_named given (Ok values) conf e = from_is_named given values conf e
in_is_named given (Err line) conf e = let impossible : ◌≡◌ {A = Result Conf Refusal} (Err (refusal.ConfLine line)) (Ok conf) = e in cc

text_is_named : (text : List ℕ) (given : Given) (conf : Conf) → conf_of text given ≡ Ok conf → is_key conf.key ≡ true
unfolding conf_of
text_is_named text given conf e = in_is_named given (meaning_of given (drop_returns text)) conf e

matched_is_said : (asked : Option Key) (said : Result Conf Refusal) (conf : Conf) → matched asked said ≡ Ok conf → said ≡ Ok conf
matched_is_said None said conf e = e
matched_is_said (Some key) (Ok other) conf e = by (is_key_of key other.key) e
  where
    by : (b : Bool) → ◌≡◌ {A = Result Conf Refusal} (cond b (Ok other) (Err (refusal.ConfMismatch other.key))) (Ok conf) → ◌≡◌ {A = Result Conf Refusal} (Ok other) (Ok conf)
    by true e = e
    by false e = let impossible : ◌≡◌ {A = Result Conf Refusal} (Err (refusal.ConfMismatch other.key)) (Ok conf) = e in cc
matched_is_said (Some key) (Err why) conf e = let impossible : ◌≡◌ {A = Result Conf Refusal} (Err why) (Ok conf) = e in cc

-- whatever is asked for, the names of the conf that is answered keep their rules
pub answer_is_named : (text : List ℕ) (asked : Option Key) (given : Given) (result : Result Conf Stop) → IsRead result (matched asked (conf_of text given)) → IfOk result (λ conf. IsTrue (is_key conf.key))
answer_is_named text asked given (Ok conf) e = text_is_named text given conf (matched_is_said asked (conf_of text given) conf e)
answer_is_named text asked given (Err stop) e = tt
