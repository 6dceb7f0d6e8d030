-- The first value of a dkms.conf that is missing or bad. The order is this project's own.
use Rattle.std.specs.Prelude.{ℕ, Bool, ◌||◌, not, List, [], Option, Some, None, codes, if◌then◌else◌}
use Rattle.std.specs.Option.{option_or}
use Rattle.kb_world.specs.declared.refusal.Refusal.{Refusal}
use Rattle.kb_world.specs.declared.refusal.Refusal.TheVariants as refusal
use Rattle.kb_conf.specs.Values.{Values, value_of, is_given, numbers_of}
use Rattle.kb_conf.specs.Rule.{keeps}
use Rattle.kb_conf.specs.declared.rule.Rule.{Rule}
use Rattle.kb_conf.specs.declared.rule.Rule.TheVariants.{Name, Word, Version, Pattern}
use Rattle.kb_conf.specs.Targets.{target_numbers, bad_targets}
use Rattle.kb_conf.specs.Bad.{bad_unless, bad_alone_unless, first_of}

-- the first value of this name that breaks its rule, by rising number
abbrev pub bad_numbered : Values → List ℕ → Rule → Option (List ℕ)
bad_numbered values name rule =
    first_of (λ i. bad_unless (keeps rule (value_of values name i)) name i) (numbers_of values name)

-- an empty value has nothing to match
abbrev pub may_be_pattern : List ℕ → Bool
may_be_pattern value = not (is_given value) || keeps Pattern value

-- the value of a name without a number, where it breaks its rule
abbrev pub bad_alone : Values → List ℕ → Rule → Option (List ℕ)
bad_alone values name rule = bad_alone_unless (keeps rule (value_of values name 0)) name

abbrev pub bad_package : Values → Option (List ℕ)
bad_package values =
    option_or (bad_alone values (codes "PACKAGE_NAME") Word) (bad_alone values (codes "PACKAGE_VERSION") Version)

abbrev pub bad_pattern : Values → Option (List ℕ)
bad_pattern values =
    option_or (bad_numbered values (codes "PATCH_MATCH") Pattern)
    (option_or (bad_numbered values (codes "MAKE_MATCH") Pattern)
    (option_or (bad_alone_unless (may_be_pattern (value_of values (codes "BUILD_EXCLUSIVE_KERNEL") 0)) (codes "BUILD_EXCLUSIVE_KERNEL"))
    (bad_alone_unless (may_be_pattern (value_of values (codes "BUILD_EXCLUSIVE_ARCH") 0)) (codes "BUILD_EXCLUSIVE_ARCH"))))

abbrev pub bad_value : Values → Option (List ℕ)
bad_value values =
    option_or (bad_package values)
    (option_or (bad_targets values [] (target_numbers values))
    (option_or (bad_numbered values (codes "PATCH") Name)
    (option_or (bad_pattern values)
    (bad_numbered values (codes "BUILD_DEPENDS") Word))))

-- a name that must have a value and has none
abbrev pub missing : Values → Option (List ℕ)
missing values =
    if not (is_given (value_of values (codes "PACKAGE_NAME") 0)) then Some (codes "PACKAGE_NAME")
    else if not (is_given (value_of values (codes "PACKAGE_VERSION") 0)) then Some (codes "PACKAGE_VERSION")
    else None

abbrev pub missing_refusal : Option (List ℕ) → Option Refusal
missing_refusal None = None
missing_refusal (Some name) = Some (refusal.ConfMissing name)

abbrev pub is_bad : Option (List ℕ) → Option Refusal
is_bad None = None
is_bad (Some name) = Some (refusal.ConfValue name)

unfoldable pub value_refusal : Values → Option Refusal
value_refusal values = option_or (missing_refusal (missing values)) (is_bad (bad_value values))
