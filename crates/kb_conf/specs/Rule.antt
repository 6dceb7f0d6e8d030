-- The rules that values of a dkms.conf keep.
use Rattle.std.specs.Prelude.{ℕ, Bool, List}
use Rattle.kb_world.specs.Names.{is_name, is_word, is_version}
use Rattle.kb_conf.specs.declared.rule.Rule.{Rule}
use Rattle.kb_conf.specs.declared.rule.Rule.TheVariants as rule
use Rattle.kb_conf.specs.PathValue.{is_path, is_destination}
use Rattle.kb_conf.specs.Pattern.{is_pattern}

unfoldable pub keeps : Rule → List ℕ → Bool
keeps rule.Name value = is_name value
keeps rule.Word value = is_word value
keeps rule.Version value = is_version value
keeps rule.Location value = is_path value
keeps rule.Destination value = is_destination value
keeps rule.Pattern value = is_pattern value
