-- The modules that a dkms.conf builds, and where each is installed. After dkms(8); the default place, the rule of
-- the first letter, and that no two targets stand in each other's way are this project's own.
use Rattle.std.specs.Prelude.{ℕ, Bool, false, not, ◌&&◌, ◌||◌, List, [], ◌∷◌, ◌++◌, Option, None, codes, bytes_eq, ◌==◌}
use Rattle.std.specs.List.{list_any}
use Rattle.std.specs.Option.{option_or}
use Rattle.std.specs.Str.{byte}
use Rattle.kb_world.specs.Path.{is_under}
use Rattle.kb_conf.specs.declared.conf.Target.{Target}
use Rattle.kb_conf.specs.Values.{Values, value_of, or_else, numbers_of}
use Rattle.kb_conf.specs.PathValue.{path_parts}
use Rattle.kb_conf.specs.Rule.{keeps}
use Rattle.kb_conf.specs.declared.rule.Rule.TheVariants.{Word, Location, Destination}
use Rattle.kb_conf.specs.Bad.{bad_unless}

abbrev pub or_zero : List ℕ → List ℕ
or_zero [] = 0 ∷ []
or_zero (i ∷ is) = i ∷ is

-- a target for each BUILT_MODULE_NAME; where there is none, one target 0 with the name of the package
abbrev pub target_numbers : Values → List ℕ
target_numbers values = or_zero (numbers_of values (codes "BUILT_MODULE_NAME"))

abbrev pub built_name : Values → ℕ → List ℕ
built_name values i = or_else (value_of values (codes "BUILT_MODULE_NAME") i) (value_of values (codes "PACKAGE_NAME") 0)

abbrev pub dest_name : Values → ℕ → List ℕ
dest_name values i = or_else (value_of values (codes "DEST_MODULE_NAME") i) (built_name values i)

abbrev pub built_location : Values → ℕ → List ℕ
built_location values i = value_of values (codes "BUILT_MODULE_LOCATION") i

abbrev pub dest_location : Values → ℕ → List ℕ
dest_location values i = or_else (value_of values (codes "DEST_MODULE_LOCATION") i) (codes "/updates/dkms")

abbrev pub begins_with : ℕ → ℕ → List ℕ → Bool
begins_with small large [] = false
begins_with small large (b ∷ bs) = b == small || b == large

-- STRIP[0] stands for an absent one; no where the value begins with n or N
abbrev pub strips : Values → ℕ → Bool
strips values i =
    not (begins_with (byte "n") (byte "N") (or_else (value_of values (codes "STRIP") i) (value_of values (codes "STRIP") 0)))

abbrev pub target_at : Values → ℕ → Target
target_at values i = record {
  index = i;
  built = built_name values i;
  location = path_parts (built_location values i);
  dest = dest_name values i;
  dest_location = path_parts (dest_location values i);
  strip = strips values i;
}

-- where the target stands below the kernel's module directory
abbrev pub target_place : Values → ℕ → List (List ℕ)
target_place values i = path_parts (dest_location values i) ++ (dest_name values i ++ codes ".ko") ∷ []

abbrev pub same_name : Values → ℕ → ℕ → Bool
same_name values i j = bytes_eq (dest_name values j) (dest_name values i)

-- one of the two places is at or above the other
abbrev pub collide : List (List ℕ) → List (List ℕ) → Bool
collide place other = is_under place other || is_under other place

abbrev pub collides : Values → ℕ → ℕ → Bool
collides values i j = collide (target_place values i) (target_place values j)

-- the first bad value of a target, behind those that stand before it
abbrev pub bad_target : Values → List ℕ → ℕ → Option (List ℕ)
bad_target values earlier i =
    option_or (bad_unless (keeps Word (built_name values i)) (codes "BUILT_MODULE_NAME") i)
    (option_or (bad_unless (keeps Location (built_location values i)) (codes "BUILT_MODULE_LOCATION") i)
    (option_or (bad_unless (keeps Word (dest_name values i) && not (list_any (same_name values i) earlier)) (codes "DEST_MODULE_NAME") i)
    (bad_unless (keeps Destination (dest_location values i) && not (list_any (collides values i) earlier)) (codes "DEST_MODULE_LOCATION") i)))

unfoldable pub bad_targets : Values → List ℕ → List ℕ → Option (List ℕ)
bad_targets values earlier [] = None
bad_targets values earlier (i ∷ later) =
    option_or (bad_target values earlier i) (bad_targets values (earlier ++ i ∷ []) later)
