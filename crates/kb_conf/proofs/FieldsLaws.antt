-- Records whose fields are those of the definition.
use Rattle.std.proofs.Common.{◌≡◌, ℕ, ◌+◌, ◌<◌, Bool, List, [], ◌∷◌, ◌++◌, length, take, map, fold, get_or, Option, refl, ap, ◌∙◌, append_assoc}
use Rattle.std.specs.Prelude.{codes}
use Rattle.std.specs.Str.{byte}
use Rattle.std.proofs.lemmas.List.{map_more}
use Rattle.std.proofs.lemmas.List.Sums.{fold-append}
use Rattle.kb_world.specs.declared.job.Key.{Key}
use Rattle.kb_conf.specs.declared.conf.Patch.{Patch}
use Rattle.kb_conf.specs.declared.conf.Scripts.{Scripts}
use Rattle.kb_conf.specs.declared.conf.Target.{Target}
use Rattle.kb_conf.specs.Assignment.{Given}
use Rattle.kb_conf.specs.Values.{Values, value_of}
use Rattle.kb_conf.specs.Targets.{target_numbers, target_at, begins_with}
use Rattle.kb_conf.specs.Fields.{package_key, scripts_of, script, patches_of, make_of, depends_of, is_excluded, unused_of, fields_of, default_make}

pub key_is : (values : Values) (m v : List ℕ) → m ≡ value_of values (codes "PACKAGE_NAME") 0 → v ≡ value_of values (codes "PACKAGE_VERSION") 0 →
    record { «module» = m; version = v } ≡ package_key values
key_is values m v e f = rw (e, f) refl

pub scripts_are : (values : Values) (a b c d e f : Option (List ℕ)) → a ≡ script values (codes "PRE_BUILD") → b ≡ script values (codes "POST_BUILD") →
    c ≡ script values (codes "PRE_INSTALL") → d ≡ script values (codes "POST_INSTALL") → e ≡ script values (codes "POST_ADD") → f ≡ script values (codes "POST_REMOVE") →
    record { pre_build = a; post_build = b; pre_install = c; post_install = d; post_add = e; post_remove = f } ≡ scripts_of values
scripts_are values a b c d e f p q r s t u = rw (p, q, r, s, t, u) refl

pub fields_are : (given : Given) (values : Values) (key : Key) (targets : List Target) (patches : List Patch) (make : List ℕ) (clean : Option (List ℕ))
    (scripts : Scripts) (depends : List (List ℕ)) (excluded autoinstall : Bool) (unused : List (List ℕ)) →
    key ≡ package_key values → targets ≡ map (target_at values) (target_numbers values) → patches ≡ patches_of given values → make ≡ make_of given values →
    clean ≡ script values (codes "CLEAN") → scripts ≡ scripts_of values → depends ≡ depends_of values → excluded ≡ is_excluded given values →
    autoinstall ≡ begins_with (byte "y") (byte "Y") (value_of values (codes "AUTOINSTALL") 0) → unused ≡ unused_of values →
    record { key = key; targets = targets; patches = patches; make = make; clean = clean; scripts = scripts; depends = depends; excluded = excluded; autoinstall = autoinstall; unused = unused }
    ≡ fields_of given values
unfolding fields_of
fields_are given values key targets patches make clean scripts depends excluded autoinstall unused a b c d e f g h i j = rw (a, b, c, d, e, f, g, h, i, j) refl

-- one item more
pub fold_map_more : {X Y Z : Type 0} (h : Z → Y → Z) (z : Z) (f : X → Y) (xs : List X) (k : ℕ) (d : X) → k < length xs →
    fold h z (map f (take (k + 1) xs)) ≡ h (fold h z (map f (take k xs))) (f (get_or xs k d))
fold_map_more h z f xs k d lt = ap (fold h z) (map_more f xs k d lt) ∙ fold-append h z (map f (take k xs)) (f (get_or xs k d) ∷ [])

-- the MAKE line of a package of this name and version
pub default_is : (given : Given) (values : Values) (name version : List ℕ) → name ≡ value_of values (codes "PACKAGE_NAME") 0 → version ≡ value_of values (codes "PACKAGE_VERSION") 0 →
    codes "make -C " ++ (given.kernel_source_dir ++ (codes " M=" ++ (given.dkms_tree ++ (codes "/" ++ (name ++ (codes "/" ++ (version ++ codes "/build")))))))
    ≡ default_make given values
default_is given values name version e f = rw (e, f) (simp append_assoc)
