-- `dkms add` does what its definition says, part by part.
use Rattle.std.proofs.Common.{◌≡◌, ℕ, ◌+◌, ◌<◌, Bool, true, false, cond, List, [], ◌∷◌, ◌++◌, ◌&&◌, not, length, take, get_or, Option, Some, None, is_some, refl, sym, ap, ◌∙◌, subst, append_assoc}
use Rattle.std.proofs.lemmas.List.{take_more, append-nil}
use Rattle.std.proofs.lemmas.Grind.{flat_map-append}
use Rattle.std.specs.Prelude.{Result, Ok, Err, codes, option_map, bytes_eq}
use Rattle.std.specs.Option.{ForSome, option_or}
use Rattle.std.specs.Cmp.{first_so}
use Rattle.kb_world.specs.Names.{is_name, is_word, is_kernel, is_arch}
use Rattle.kb_world.specs.Path.{Path}
use Rattle.kb_world.specs.Tree.{Tree, node_at, is_dir}
use Rattle.kb_world.specs.Script.{Script}
use Rattle.kb_world.specs.Roots.{AreApart}
use Rattle.kb_world.specs.State.{State}
use Rattle.kb_world.specs.Damage.{hurt}
use Rattle.kb_world.specs.Store.{is_key, module_path, version_path, link_path, source_path}
use Rattle.kb_world.specs.Steps.{blocking, add_blocked}
use Rattle.kb_world.specs.Public.{intent_path, public_tree}
use Rattle.kb_world.specs.Layout.{whole_tree}
use Rattle.kb_machine.specs.Outcome.{unless, warn, reads, ◌then◌}
use Rattle.kb_world.specs.Read.{Decides, Agrees, Gives, unless_due}
use Rattle.kb_world.specs.declared.roots.Roots.{Roots}
use Rattle.kb_world.specs.declared.job.Key.{Key}
use Rattle.kb_world.specs.declared.job.Host.{Host}
use Rattle.kb_world.specs.declared.job.Report.{Report}
use Rattle.kb_world.specs.declared.refusal.Refusal.{Refusal}
use Rattle.kb_world.specs.declared.refusal.Refusal.TheVariants as refusal
use Rattle.kb_world.specs.declared.tree.Node.{Node}
use Rattle.kb_world.specs.declared.stop.Stop.{Stop}
use Rattle.kb_world.proofs.NameLaws.{word-is_name}
use Rattle.kb_machine.specs.Across.{DoesAcrossCrashes}
use Rattle.kb_machine.proofs.LookLaws.{refused, passed, unread, read_on, warned}
use Rattle.kb_machine.proofs.ThenLaws.{does_then}
use Rattle.kb_conf.specs.declared.conf.Conf.{Conf}
use Rattle.kb_conf.specs.declared.given.Given.{Given}
use Rattle.kb_conf.specs.Given.{given_for}
use Rattle.kb_conf.specs.Load.{loaded_conf}
use Rattle.kb_dkms.specs.declared.places.Places.{Places}
use Rattle.kb_dkms.specs.Add.{add, add_with, add_and_run, already_added, source_conf, unused_lines, blocked}
use Rattle.kb_dkms.specs.Host.{is_kernel_if_any, host_keeps_rules}
use Rattle.kb_dkms.specs.Commit.{IsUnadded}
use Rattle.kb_dkms.specs.Places.{package_places, standing, blocked_by, place_blocked}
use Rattle.kb_dkms.specs.Scripts.{host_given, warning_line}
use Rattle.kb_dkms.proofs.AddLaws.{standing_shown, conf_shown, blocked_shown}

-- the kernel of a host that keeps its rules can name an entry of a directory
pub kernel_named : (host : Host) → host_keeps_rules host ≡ true → (kernel : List ℕ) → host.kernel ≡ Some kernel → is_name kernel ≡ true
kernel_named host good kernel is =
    let kept : is_kernel kernel ≡ true = sym (ap is_kernel_if_any is) ∙ first_so (is_kernel_if_any host.kernel) (is_arch host.arch) good in
    let marked = first_so (is_word kernel && not (bytes_eq kernel (codes "build"))) (not (bytes_eq kernel (codes "source"))) kept in
    word-is_name kernel (first_so (is_word kernel) (not (bytes_eq kernel (codes "build"))) marked)

-- ---- when the link can be made

pub nothing_stands : (key : Key) (link : Path) (tree : Tree) → standing key link tree ≡ None → node_at tree link ≡ None
nothing_stands key link tree e = by_case (node_at tree link) refl
  where
    by_case : (at : Option Node) → node_at tree link ≡ at → node_at tree link ≡ None
    by_case None is = is
    by_case (Some x) is = let impossible : Some (refusal.AlreadyAdded key) ≡ None = sym (ap (λ (at : Option Node). cond (is_some at) (Some (refusal.AlreadyAdded key)) None) is) ∙ e in cc

-- the package isn't added, and its source is there
pub is_unadded : (roots : Roots) (key : Key) (tree : Tree) → is_dir (node_at tree roots.dkms) ≡ true → node_at tree (intent_path roots) ≡ None → standing key (link_path roots key) tree ≡ None
    → is_dir (node_at tree (source_path roots key)) ≡ true → IsUnadded roots key tree
is_unadded roots key tree root bare none source = record { root = root; bare = bare; free = nothing_stands key (link_path roots key) tree none; source = source }

pub nothing_first : {A : Type 0} (a b : Option A) → option_or a b ≡ None → a ≡ None
nothing_first None b e = refl
nothing_first (Some x) b e = e

pub nothing_second : {A : Type 0} (a b : Option A) → option_or a b ≡ None → b ≡ None
nothing_second None b e = e
nothing_second (Some x) b e = let impossible : Some x ≡ None = e in cc

unblocked : (path : Path) (tree : Tree) → blocked_by path tree ≡ None → blocking path tree ≡ None
unblocked path tree e = by_case (blocking path tree) refl
  where
    by_case : (at : Option Path) → blocking path tree ≡ at → blocking path tree ≡ None
    by_case None is = is
    by_case (Some x) is = let impossible : Some (refusal.Damaged x) ≡ None = sym (ap (option_map refusal.Damaged) is) ∙ e in cc

pub add_unblocked : (roots : Roots) (key : Key) (tree : Tree) → place_blocked (package_places roots key) tree ≡ None → add_blocked roots key tree ≡ None
add_unblocked roots key tree none =
    ap (λ first. option_or first (blocking (version_path roots key) tree)) (unblocked (module_path roots key) tree (nothing_first _ (blocked_by (version_path roots key) tree) none))
    ∙ unblocked (version_path roots key) tree (nothing_second (blocked_by (module_path roots key) tree) _ none)

-- where a conf was loaded its directory stands
pub loaded_dir : (dir : Path) (key : Option Key) (given : Given) (tree : Tree) (conf : Conf) → loaded_conf dir key given tree ≡ Ok conf → is_dir (node_at tree dir) ≡ true
unfolding loaded_conf
loaded_dir dir key given tree conf e = by_test (is_dir (node_at tree dir)) _ _ e
  where
    by_test : (b : Bool) (second : Option Refusal) (said : Result Conf Refusal) → unless_due (option_or (cond b None (Some (refusal.NoSource dir))) second) said ≡ Ok conf → b ≡ true
    by_test true second said e = refl
    by_test false second said e = let impossible : ◌≡◌ {A = Result Conf Refusal} (Err (refusal.NoSource dir)) (Ok conf) = e in cc

-- ---- the warnings, and what is in the way

-- one name more is warned of
pub one_more : (names : List (List ℕ)) (i : ℕ) (d name before err more line : List ℕ) → i < length names → name ≡ get_or names i d → err ≡ before ++ unused_lines (take i names)
    → line ≡ codes "dkms.conf: " ++ name ++ codes " is not used" → more ≡ err ++ warning_line line → more ≡ before ++ unused_lines (take (i + 1) names)
one_more names i d name before err more line lt named so_far is pushed =
    let last = get_or names i d in
    let joined : unused_lines (take (i + 1) names) ≡ unused_lines (take i names) ++ unused_lines (last ∷ []) =
    ap unused_lines (take_more names i d lt) ∙ flat_map-append (λ n. warning_line (codes "dkms.conf: " ++ n ++ codes " is not used")) (take i names) (last ∷ []) in
    let told : warning_line line ≡ unused_lines (last ∷ []) = ap warning_line is ∙ ap (λ n. warning_line (codes "dkms.conf: " ++ n ++ codes " is not used")) named ∙ sym (append-nil _) in
    pushed ∙ ap (λ t. err ++ t) told ∙ ap (λ t. t ++ unused_lines (last ∷ [])) so_far ∙ append_assoc before (unused_lines (take i names)) (unused_lines (last ∷ [])) ∙ ap (λ t. before ++ t) (sym joined)

-- what is in the way stands in the whole tree
read_blocked : (roots : Roots) → AreApart roots → (key : Key) → is_key key ≡ true → (places : Places) → places ≡ package_places roots key → (tree : Tree)
    → place_blocked places tree ≡ blocked roots key (whole_tree roots tree)
read_blocked roots apart key good places are tree = ap (λ (p : Places). place_blocked p tree) are ∙ blocked_shown roots apart key good tree

pub warned_blocked : (host : Host) → AreApart host.roots → (key : Key) → is_key key ≡ true → (script : Script) (conf : Conf) (places : Places) → places ≡ package_places host.roots key
    → (old mid : State) (before after : Report) (stop : Stop) → after.out ≡ before.out → (names : List (List ℕ)) → names ≡ conf.unused
    → after.err ≡ before.err ++ unused_lines names
    → Decides (place_blocked places) {T = Unit {0}} old mid (Err stop) → DoesAcrossCrashes host.roots (add_with host script key conf) {T = Unit {0}} old mid before after (Err stop)
warned_blocked host apart key good script conf places are old mid before after stop out names all err d =
    let roots = host.roots in
    does_then roots (warn (unused_lines conf.unused)) (unless (blocked roots key) then add_and_run host script key conf) old old mid before after after (Err stop)
    (warned roots (unused_lines conf.unused) old before after out (err ∙ ap (λ n. before.err ++ unused_lines n) all))
    (refused roots (place_blocked places) (blocked roots key) (add_and_run host script key conf) old mid after stop (read_blocked roots apart key good places are) d)

pub warned_added : (host : Host) → AreApart host.roots → (key : Key) → is_key key ≡ true → (conf : Conf) (places : Places) → places ≡ package_places host.roots key
    → (old mid new : State) (before between after : Report) (result : Result (Unit {0}) Stop) → between.out ≡ before.out → (names : List (List ℕ)) → names ≡ conf.unused
    → between.err ≡ before.err ++ unused_lines names
    → Decides (place_blocked places) {T = Unit {0}} old mid (Ok tt) → DoesAcrossCrashes host.roots (add_and_run host mid.script key conf) mid new between after result
    → DoesAcrossCrashes host.roots (add_with host old.script key conf) old new before after result
warned_added host apart key good conf places are old mid new before between after result out names all err d e =
    let roots = host.roots in
    let P : Script → Type 0 = λ s. DoesAcrossCrashes roots (add_and_run host s key conf) mid new between after result in
    does_then roots (warn (unused_lines conf.unused)) (unless (blocked roots key) then add_and_run host old.script key conf) old old new before between after result
    (warned roots (unused_lines conf.unused) old before between out (err ∙ ap (λ n. before.err ++ unused_lines n) all))
    (passed roots (place_blocked places) (blocked roots key) (add_and_run host old.script key conf) old mid new between after result (read_blocked roots apart key good places are) d
    (subst P d.unchanged.ran_none.lasts.script e))

-- ---- the whole action

-- what decides over a told tree decides by all that is the same there
decides_as : (read due : Tree → Option Refusal) (old new : State) (result : Result (Unit {0}) Stop) → ((tree : Tree) → old.tree ≡ Some tree → read tree ≡ due tree)
    → Decides read {T = Unit {0}} old new result → Decides due {T = Unit {0}} old new result
decides_as read due old new result same d = record {
  agrees = λ tree told. let P : Option Refusal → Type 0 = λ is. Agrees result is in subst P (same tree told) (d.agrees tree told);
  unchanged = d.unchanged;
  cause = d.cause;
}

-- the store of a told tree has no damage
abbrev pub IsUnhurt : Roots → State → Type 0
IsUnhurt roots old = ForSome old.tree (λ tree. hurt roots (public_tree roots tree) ≡ None)

decides_added : (roots : Roots) → AreApart roots → (key : Key) → is_key key ≡ true → (link : Path) → link ≡ link_path roots key → (old mid : State) (result : Result (Unit {0}) Stop) → IsUnhurt roots old
    → Decides (standing key link) {T = Unit {0}} old mid result → Decides (λ tree. already_added roots key (whole_tree roots tree)) {T = Unit {0}} old mid result
decides_added roots apart key good link is old mid result sound =
    decides_as (standing key link) (λ tree. already_added roots key (whole_tree roots tree)) old mid result (λ tree told.
    ap (λ p. standing key p tree) is ∙ standing_shown roots apart key good tree (sound tree told))

-- what a conf is read for is what the host gives
pub for_host : (host : Host) (kernel : Option (List ℕ)) (given : Given) → kernel ≡ host.kernel → given ≡ given_for host.roots kernel host.arch → given ≡ host_given host
for_host host kernel given same is = is ∙ ap (λ k. given_for host.roots k host.arch) same

-- it is added already
pub add_refused : (host : Host) → AreApart host.roots → (key : Key) → is_key key ≡ true → (script : Script) (link : Path) → link ≡ link_path host.roots key → (old mid : State) (report : Report) (stop : Stop)
    → IsUnhurt host.roots old → Decides (standing key link) {T = Unit {0}} old mid (Err stop) → DoesAcrossCrashes host.roots (add host script key) {T = Unit {0}} old mid report report (Err stop)
add_refused host apart key good script link is old mid report stop sound d =
    let roots = host.roots in
    refused roots (λ tree. already_added roots key (whole_tree roots tree)) (already_added roots key) (reads (source_conf host key) (add_with host script key)) old mid report stop (λ tree. refl)
    (decides_added roots apart key good link is old mid (Err stop) sound d)

-- what is read of the source is what the whole tree gives
read_conf : (host : Host) → AreApart host.roots → (key : Key) → is_key key ≡ true → (dir : Path) → dir ≡ source_path host.roots key → (given : Given) → given ≡ host_given host → (tree : Tree)
    → loaded_conf dir (Some key) given tree ≡ source_conf host key (whole_tree host.roots tree)
read_conf host apart key good dir at given is tree =
    ap (λ p. loaded_conf p (Some key) given tree) at ∙ ap (λ (g : Given). loaded_conf (source_path host.roots key) (Some key) g tree) is ∙ conf_shown host.roots apart key good (host_given host) tree

-- its conf is refused
pub add_unread : (host : Host) → AreApart host.roots → (key : Key) → is_key key ≡ true → (script : Script) (link : Path) → link ≡ link_path host.roots key → (dir : Path) → dir ≡ source_path host.roots key
    → (given : Given) → given ≡ host_given host → (old mid new : State) (report : Report) (stop : Stop) → IsUnhurt host.roots old → Decides (standing key link) {T = Unit {0}} old mid (Ok tt)
    → Gives {T = Conf} (loaded_conf dir (Some key) given) mid new (Err stop) → DoesAcrossCrashes host.roots (add host script key) {T = Unit {0}} old new report report (Err stop)
add_unread host apart key good script link is dir at given for old mid new report stop sound d g =
    let roots = host.roots in
    let next = reads (source_conf host key) (add_with host script key) in
    passed roots (λ tree. already_added roots key (whole_tree roots tree)) (already_added roots key) next old mid new report report (Err stop) (λ tree. refl)
    (decides_added roots apart key good link is old mid (Ok tt) sound d)
    (unread {A = Conf} roots (loaded_conf dir (Some key) given) (source_conf host key) (add_with host script key) mid new report stop (read_conf host apart key good dir at given for) g)

-- its conf is read, and it goes on with that
pub add_read : (host : Host) → AreApart host.roots → (key : Key) → is_key key ≡ true → (link : Path) → link ≡ link_path host.roots key → (dir : Path) → dir ≡ source_path host.roots key
    → (given : Given) → given ≡ host_given host → (conf : Conf) (old mid late new : State) (before after : Report) (result : Result (Unit {0}) Stop) → IsUnhurt host.roots old
    → Decides (standing key link) {T = Unit {0}} old mid (Ok tt) → Gives {T = Conf} (loaded_conf dir (Some key) given) mid late (Ok conf)
    → DoesAcrossCrashes host.roots (add_with host late.script key conf) late new before after result → DoesAcrossCrashes host.roots (add host old.script key) old new before after result
add_read host apart key good link is dir at given for conf old mid late new before after result sound d g e =
    let roots = host.roots in
    let next = reads (source_conf host key) (add_with host old.script key) in
    let P : Script → Type 0 = λ s. DoesAcrossCrashes roots (add_with host s key conf) late new before after result in
    passed roots (λ tree. already_added roots key (whole_tree roots tree)) (already_added roots key) next old mid new before after result (λ tree. refl)
    (decides_added roots apart key good link is old mid (Ok tt) sound d)
    (read_on {A = Conf} roots (loaded_conf dir (Some key) given) (source_conf host key) (add_with host old.script key) conf mid late new before after result
    (read_conf host apart key good dir at given for) g (subst P (g.unchanged.ran_none.lasts.script ∙ d.unchanged.ran_none.lasts.script) e))
