-- What a dkms.conf without a bad value says of a package, for one kernel and architecture. After dkms(8); the choice
-- among several MAKE lines and the first-letter rule of AUTOINSTALL are this project's own.
use Rattle.std.specs.Prelude.{ℕ, Bool, not, ◌&&◌, ◌||◌, List, [], ◌∷◌, ◌++◌, Option, Some, None, codes, bytes_eq, map, filter, fold, if◌then◌else◌}
use Rattle.std.specs.List.{list_any, filter_map}
use Rattle.std.specs.Option.{option_or}
use Rattle.std.specs.Str.{byte}
use Rattle.kb_world.specs.declared.job.Key.{Key}
use Rattle.kb_conf.specs.declared.conf.Conf.{Conf}
use Rattle.kb_conf.specs.declared.conf.Patch.{Patch}
use Rattle.kb_conf.specs.declared.conf.Scripts.{Scripts}
use Rattle.kb_conf.specs.Assignment.{Assignment, Given}
use Rattle.kb_conf.specs.Values.{Values, value_of, is_given, numbers_of}
use Rattle.kb_conf.specs.Pattern.{matches}
use Rattle.kb_conf.specs.Targets.{target_numbers, target_at, begins_with}

-- a patch is used where its pattern is absent or matches the kernel
abbrev pub patch_at : Given → Values → ℕ → Option Patch
patch_at given values i =
    let pattern = value_of values (codes "PATCH_MATCH") i in
    if not (is_given pattern) || matches pattern given.kernel
    then Some (record { index = i; file = value_of values (codes "PATCH") i })
    else None

unfoldable pub patches_of : Given → Values → List Patch
patches_of given values = filter_map (patch_at given values) (numbers_of values (codes "PATCH"))

-- the greatest of these rising numbers that passes
unfoldable pub last_that : (ℕ → Bool) → List ℕ → Option ℕ
last_that passes [] = None
last_that passes (i ∷ later) = option_or (last_that passes later) (if passes i then Some i else None)

abbrev pub make_matches : Given → Values → ℕ → Bool
make_matches given values i =
    let pattern = value_of values (codes "MAKE_MATCH") i in
    is_given pattern && matches pattern given.kernel

-- the MAKE line that runs where no MAKE line is for this kernel
abbrev pub default_make : Given → Values → List ℕ
default_make given values =
    codes "make -C " ++ given.kernel_source_dir ++ codes " M=" ++ given.dkms_tree ++ codes "/"
    ++ value_of values (codes "PACKAGE_NAME") 0 ++ codes "/" ++ value_of values (codes "PACKAGE_VERSION") 0 ++ codes "/build"

abbrev pub plain_make : Given → Values → List ℕ
plain_make given values =
    if is_given (value_of values (codes "MAKE") 0) && not (is_given (value_of values (codes "MAKE_MATCH") 0))
    then value_of values (codes "MAKE") 0 else default_make given values

abbrev pub make_from : Given → Values → Option ℕ → List ℕ
make_from given values (Some i) = value_of values (codes "MAKE") i
make_from given values None = plain_make given values

-- the last MAKE whose pattern matches the kernel; else MAKE[0] where that has no pattern; else the default
unfoldable pub make_of : Given → Values → List ℕ
make_of given values = make_from given values (last_that (make_matches given values) (numbers_of values (codes "MAKE")))

-- the value of a name, if it has one
abbrev pub if_given : List ℕ → Option (List ℕ)
if_given value = if is_given value then Some value else None

abbrev pub script : Values → List ℕ → Option (List ℕ)
script values name = if_given (value_of values name 0)

abbrev pub scripts_of : Values → Scripts
scripts_of values = record {
  pre_build = script values (codes "PRE_BUILD");
  post_build = script values (codes "POST_BUILD");
  pre_install = script values (codes "PRE_INSTALL");
  post_install = script values (codes "POST_INSTALL");
  post_add = script values (codes "POST_ADD");
  post_remove = script values (codes "POST_REMOVE");
}

-- each text once, where it stands first
abbrev pub with_new : List (List ℕ) → List ℕ → List (List ℕ)
with_new texts text = if list_any (bytes_eq text) texts then texts else texts ++ text ∷ []

unfoldable pub each_once : List (List ℕ) → List (List ℕ)
each_once texts = fold with_new [] texts

abbrev pub depends_of : Values → List (List ℕ)
depends_of values = each_once (map (value_of values (codes "BUILD_DEPENDS")) (numbers_of values (codes "BUILD_DEPENDS")))

-- the value is a pattern that doesn't match
abbrev pub shuts_out : List ℕ → List ℕ → Bool
shuts_out pattern text = is_given pattern && not (matches pattern text)

abbrev pub is_excluded : Given → Values → Bool
is_excluded given values =
    shuts_out (value_of values (codes "BUILD_EXCLUSIVE_KERNEL") 0) given.kernel
    || shuts_out (value_of values (codes "BUILD_EXCLUSIVE_ARCH") 0) given.arch

-- the names that this profile uses
unfoldable pub names_package : List ℕ → Bool
names_package name =
    bytes_eq name (codes "PACKAGE_NAME")
    || bytes_eq name (codes "PACKAGE_VERSION")
    || bytes_eq name (codes "AUTOINSTALL")
    || bytes_eq name (codes "BUILD_DEPENDS")

unfoldable pub names_exclusion : List ℕ → Bool
names_exclusion name =
    bytes_eq name (codes "BUILD_EXCLUSIVE_KERNEL")
    || bytes_eq name (codes "BUILD_EXCLUSIVE_ARCH")

unfoldable pub names_target : List ℕ → Bool
names_target name =
    bytes_eq name (codes "BUILT_MODULE_NAME")
    || bytes_eq name (codes "BUILT_MODULE_LOCATION")
    || bytes_eq name (codes "DEST_MODULE_NAME")
    || bytes_eq name (codes "DEST_MODULE_LOCATION")
    || bytes_eq name (codes "STRIP")

unfoldable pub names_build : List ℕ → Bool
names_build name =
    bytes_eq name (codes "PATCH")
    || bytes_eq name (codes "PATCH_MATCH")
    || bytes_eq name (codes "MAKE")
    || bytes_eq name (codes "MAKE_MATCH")
    || bytes_eq name (codes "CLEAN")

unfoldable pub names_script : List ℕ → Bool
names_script name =
    bytes_eq name (codes "PRE_BUILD")
    || bytes_eq name (codes "POST_BUILD")
    || bytes_eq name (codes "PRE_INSTALL")
    || bytes_eq name (codes "POST_INSTALL")
    || bytes_eq name (codes "POST_ADD")
    || bytes_eq name (codes "POST_REMOVE")

abbrev pub is_used : List ℕ → Bool
is_used name = names_package name || names_exclusion name || names_target name || names_build name || names_script name

abbrev pub is_unused : List ℕ → Bool
is_unused name = not (is_used name)

abbrev pub assigned_names : Values → List (List ℕ)
assigned_names values = map (λ (a : Assignment). a.name) values

abbrev pub unused_of : Values → List (List ℕ)
unused_of values = each_once (filter is_unused (assigned_names values))

abbrev pub package_key : Values → Key
package_key values = record {
  «module» = value_of values (codes "PACKAGE_NAME") 0;
  version = value_of values (codes "PACKAGE_VERSION") 0;
}

unfoldable pub fields_of : Given → Values → Conf
fields_of given values = record {
  key = package_key values;
  targets = map (target_at values) (target_numbers values);
  patches = patches_of given values;
  make = make_of given values;
  clean = script values (codes "CLEAN");
  scripts = scripts_of values;
  depends = depends_of values;
  excluded = is_excluded given values;
  autoinstall = begins_with (byte "y") (byte "Y") (value_of values (codes "AUTOINSTALL") 0);
  unused = unused_of values;
}
