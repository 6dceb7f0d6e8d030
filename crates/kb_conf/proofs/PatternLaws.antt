-- What the engine's answer tells of the pattern that the grammar reads.
use Rattle.std.proofs.Common.{◌≡◌, ◌≢◌, ℕ, ◌<◌, ◌≤◌, ◌⊎◌, false, List, Option, Some, None, IsSomeAnd, length, refl, sym, ap, ◌∙◌, inl, inr, arith, cond, nat_le, All, is_some}
use Rattle.std.specs.Prelude.{IfSome, option_and_then, chars}
use Rattle.std.specs.Option.{option_map_or}
use Rattle.std.proofs.lemmas.Bool.Decides.{nat_tests}
use Rattle.regex.specs.Patterns.{Re, SameCaptures, find_str, default_config, Reads, Refuses}
use Rattle.regex.specs.Names.{names_of}
use Rattle.regex.specs.Strings.{regex_pattern, regex_source, regex_config, IsReadFromSource}
use Rattle.regex.specs.declared.string.regex.Regex.{Regex}
use Rattle.regex_syntax.specs.Brackets.{Nested}
use Rattle.regex_syntax.specs.Grammar.{Names, group_count, read}
use Rattle.regex_syntax.specs.declared.error.ErrorKind.{ErrorKind}
use Rattle.regex_syntax.specs.declared.error.ErrorKind.TheVariants.{OutOfMemory, NestLimitExceeded}
use Rattle.regex_syntax.proofs.CapturesLemmas.{find_str_alike, spans}
use Rattle.regex_syntax.proofs.Written.{is_some-option_map}
use Rattle.kb_conf.specs.Pattern.{pattern_in, matches}

abbrev within : ℕ → Nested Re × Names → Option Re
within most found = cond (nat_le found.0.depth most) (Some found.0.value) None

kept : (depth most : ℕ) (re : Re) → depth ≤ most → cond (nat_le depth most) (Some re) None ≡ Some re
kept depth most re h = grind (arith, nat_tests)

dropped : (depth most : ℕ) (re : Re) → most < depth → cond (nat_le depth most) (Some re) None ≡ None
dropped depth most re h = grind (arith, nat_tests)

read_within : (o : Option (Nested Re × Names)) (most : ℕ) (a : Re) (names : Names) →
    IsSomeAnd o (λ (re, found). (re.depth ≤ most) × SameCaptures a re.value × (names ≡ found) × (group_count a ≤ length names)) →
    (re : Re) × (option_and_then (within most) o ≡ Some re) × SameCaptures a re
read_within None most a names p = absurd p
read_within (Some found) most a names p = (found.0.value, kept found.0.depth most found.0.value p.0, p.1)

-- what is built has the matches of the pattern
pub built_reads : (text : List ℕ) (r : Regex) → regex_source r ≡ text → regex_config r ≡ default_config → IsReadFromSource r →
    (re : Re) × (pattern_in text ≡ Some re) × SameCaptures (regex_pattern r) re
unfolding Reads pattern_in
built_reads text r source config is_read =
    read_within (read default_config (chars text)) default_config.nest_limit (regex_pattern r) (names_of r.pattern.names.items) (rw (source, config) at is_read)

refused_within : (o : Option (Nested Re × Names)) (most : ℕ) (kind : ErrorKind) → kind ≢ OutOfMemory →
    (kind ≡ OutOfMemory) ⊎ ((o ≡ None) ⊎ ((kind ≡ NestLimitExceeded) × IfSome o (λ (re, _). most < re.depth))) →
    option_and_then (within most) o ≡ None
refused_within o most kind other (inl memory) = absurd (other memory)
refused_within o most kind other (inr (inl none)) = ap (option_and_then (within most)) none
refused_within None most kind other (inr (inr deep)) = refl
refused_within (Some found) most kind other (inr (inr deep)) = dropped found.0.depth most found.0.value deep.1

-- a text that is refused for its own sake has no pattern
pub refused_has_none : (text : List ℕ) (kind : ErrorKind) → kind ≢ OutOfMemory → Refuses default_config text kind → pattern_in text ≡ None
unfolding Refuses pattern_in
refused_has_none text kind other p = refused_within (read default_config (chars text)) default_config.nest_limit kind other p

-- where the pattern of a text is the built one, both find the same
pub finds : (pattern : List ℕ) (a re : Re) → pattern_in pattern ≡ Some re → SameCaptures a re →
    (hay : List ℕ) → All (λ x. x < 256) hay → is_some (find_str a hay 0) ≡ matches pattern hay
unfolding matches
finds pattern a re is same hay small =
    sym (is_some-option_map spans (find_str a hay 0)) ∙ ap is_some (find_str_alike a re same hay small 0) ∙ is_some-option_map spans (find_str re hay 0)
    ∙ ap (λ o. option_map_or (λ r. is_some (find_str r hay 0)) o false) (sym is)

pub finds_nothing : (pattern hay : List ℕ) → pattern_in pattern ≡ None → false ≡ matches pattern hay
unfolding matches
finds_nothing pattern hay none = ap (λ o. option_map_or (λ r. is_some (find_str r hay 0)) o false) (sym none)
