-- No step from a store without damage gives one with damage.
use Rattle.std.proofs.Common.{◌≡◌, ℕ, true, false, List, map, None, is_some, sym, ap, ◌∙◌}
use Rattle.std.specs.Cmp.{first_so, second_so}
use Rattle.kb_world.specs.Names.{is_word, is_version, is_kernel, is_arch}
use Rattle.kb_world.specs.Path.{Path}
use Rattle.kb_world.specs.Tree.{Tree, node_at}
use Rattle.kb_world.specs.Roots.{AreApart}
use Rattle.kb_world.specs.Store.{is_key, is_added}
use Rattle.kb_world.specs.Targets.{are_targets}
use Rattle.kb_world.specs.Boxes.{is_spot, targets_path, is_built, kernel_link_name, spot_of_link}
use Rattle.kb_world.specs.Damage.{hurt}
use Rattle.kb_world.specs.Steps.{Module, add_step, add_tree_step, build_step, install_step, uninstall_step, unbuild_step, unadd_step}
use Rattle.kb_world.specs.declared.roots.Roots.{Roots}
use Rattle.kb_world.specs.declared.job.Key.{Key}
use Rattle.kb_world.specs.declared.job.Spot.{Spot}
use Rattle.kb_world.proofs.PathLaws.{by_test}
use Rattle.kb_world.proofs.DamageLaws.{spot_of, sound_from, sound_to}
use Rattle.kb_world.proofs.SoundTakes.{HasNoBuilds}
use Rattle.kb_world.proofs.SoundSteps.{untrue, add_sound, add_tree_sound, build_sound, install_sound, uninstall_sound, unbuild_sound, unadd_sound}
use Rattle.kb_world.proofs.SpotLaws.{link_read}

is_version_of : (key : Key) → is_key key ≡ true → is_version key.version ≡ true
is_version_of key named = second_so (is_word key.module) (is_version key.version) named

linkable : (spot : Spot) → is_spot spot ≡ true → is_some (spot_of_link (kernel_link_name (spot_of spot.kernel spot.arch))) ≡ true
linkable spot spotted = ap is_some (link_read spot.kernel spot.arch (first_so (is_kernel spot.kernel) (is_arch spot.arch) spotted) (second_so (is_kernel spot.kernel) (is_arch spot.arch) spotted))

pub add : (roots : Roots) (key : Key) (store : Tree) → is_key key ≡ true → hurt roots store ≡ None → hurt roots (add_step roots key store) ≡ None
add roots key store named e = sound_to roots (add_step roots key store) (add_sound roots key store named (sound_from roots store e))

pub add_tree : (roots : Roots) → AreApart roots → (key : Key) (from : Path) (whole store : Tree) → is_key key ≡ true → hurt roots store ≡ None → hurt roots (add_tree_step roots key from whole store) ≡ None
add_tree roots apart key from whole store named e = sound_to roots (add_tree_step roots key from whole store) (add_tree_sound roots apart key from whole store named (sound_from roots store e))

pub build : (roots : Roots) (key : Key) (spot : Spot) (modules : List Module) (log : List ℕ) (store : Tree) → is_key key ≡ true → is_spot spot ≡ true → is_added roots key store ≡ true → are_targets (map (λ built. built.0) modules) ≡ true
    → hurt roots store ≡ None → hurt roots (build_step roots key spot modules log store) ≡ None
build roots key spot modules log store named spotted added fit e =
    sound_to roots (build_step roots key spot modules log store)
    (build_sound roots key spot (is_version_of key named) (first_so (is_kernel spot.kernel) (is_arch spot.arch) spotted) modules log store added fit (sound_from roots store e))

pub install : (roots : Roots) → AreApart roots → (key : Key) (spot : Spot) (store : Tree) → is_key key ≡ true → is_spot spot ≡ true → is_built roots store key spot ≡ true
    → hurt roots store ≡ None → hurt roots (install_step roots key spot store) ≡ None
install roots apart key spot store named spotted built e =
    sound_to roots (install_step roots key spot store) (install_sound roots apart key.module key.version spot.kernel spot.arch store (is_version_of key named) spotted built (sound_from roots store e))

pub uninstall : (roots : Roots) → AreApart roots → (key : Key) (spot : Spot) (store : Tree) → is_key key ≡ true → is_spot spot ≡ true
    → hurt roots store ≡ None → hurt roots (uninstall_step roots key spot store) ≡ None
uninstall roots apart key spot store named spotted e =
    sound_to roots (uninstall_step roots key spot store) (uninstall_sound roots apart key.module key.version spot.kernel spot.arch store (linkable spot spotted) (sound_from roots store e) (first_so (is_word key.module) (is_version key.version) named) (is_version_of key named) spotted)

pub unbuild : (roots : Roots) → AreApart roots → (key : Key) (spot : Spot) (store : Tree) → is_key key ≡ true → is_spot spot ≡ true
    → hurt roots store ≡ None → hurt roots (unbuild_step roots key spot store) ≡ None
unbuild roots apart key spot store named spotted e =
    sound_to roots (unbuild_step roots key spot store)
    (unbuild_sound roots apart key.module key.version spot.kernel spot.arch store (linkable spot spotted) (sound_from roots store e) (first_so (is_word key.module) (is_version key.version) named) (is_version_of key named) spotted)

pub unadd : (roots : Roots) (key : Key) (store : Tree) → ((spot : Spot) → is_spot spot ≡ true → is_built roots store key spot ≡ false) → is_key key ≡ true
    → hurt roots store ≡ None → hurt roots (unadd_step roots key store) ≡ None
unadd roots key store unbuilt named e =
    let s = sound_from roots store e in
    let none : HasNoBuilds roots store key.module key.version = λ kernel arch spotted. by_test (is_some (node_at store (targets_path roots key (spot_of kernel arch)))) (λ stands.
    untrue (sym (unbuilt (spot_of kernel arch) spotted) ∙ ap is_some (s.boxes key.module key.version kernel arch named spotted stands).told)) in
    sound_to roots (unadd_step roots key store) (unadd_sound roots key.module key.version store none s)
