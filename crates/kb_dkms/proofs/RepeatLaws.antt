-- An addition makes one store at most, and none where the package is added already.
use Rattle.std.proofs.Common.{◌≡◌, ℕ, Bool, true, false, cond, ◌||◌, List, [], ◌∷◌, ◌++◌, Option, Some, None, refl, sym, ap, ◌∙◌, codes}
use Rattle.std.specs.Prelude.{filter, Result, Ok}
use Rattle.std.specs.Option.{option_or}
use Rattle.std.specs.Cmp.Lexicographic.{bytes_decides}
use Rattle.std.specs.Cmp.Derive.{both_true}
use Rattle.kb_world.specs.Layout.{united}
use Rattle.kb_world.specs.Path.{Path, is_under}
use Rattle.kb_world.specs.Patch.{put_at}
use Rattle.kb_world.specs.Script.{Script}
use Rattle.kb_world.specs.Steps.{add_step, add_tree_step, add_tree_patch, source_copy}
use Rattle.kb_world.specs.Store.{is_added, says, link_path, source_path, source_text}
use Rattle.kb_world.specs.Tree.{Tree, node_at, link_text, is_leaf}
use Rattle.kb_world.specs.TreeLaws.{same_path, same_path-refl}
use Rattle.kb_world.specs.declared.job.Host.{Host}
use Rattle.kb_world.specs.declared.job.Key.{Key}
use Rattle.kb_world.specs.declared.refusal.Refusal.{Refusal}
use Rattle.kb_world.specs.declared.refusal.Refusal.TheVariants as refusal
use Rattle.kb_world.specs.declared.roots.Roots.{Roots}
use Rattle.kb_world.specs.declared.tree.Node.{Node}
use Rattle.kb_world.specs.declared.tree.Node.TheVariants as node
use Rattle.kb_world.proofs.AddLaws as adds
use Rattle.kb_world.proofs.LayoutLaws.{node_at-united}
use Rattle.kb_world.proofs.PatchLaws.{patched-put}
use Rattle.kb_world.proofs.PathLaws.{under-self, under-append}
use Rattle.kb_conf.specs.Load.{loaded_conf, conf_below}
use Rattle.kb_conf.specs.declared.conf.Conf.{Conf}
use Rattle.kb_walk.specs.Copy.{too_much}
use Rattle.kb_machine.specs.Outcome.{unless, reads, transaction, ◌then◌}
use Rattle.kb_machine.specs.Repeat.{LeavesNone, IsOnce}
use Rattle.kb_machine.specs.Repeat.IsOnce.{none, one}
use Rattle.kb_machine.proofs.OnceLaws.{none_due, none_reads, once_unless, once_reads}
use Rattle.kb_dkms.specs.Add.{add, add_with, add_and_run, already_added, source_conf, blocked, added_line}
use Rattle.kb_dkms.specs.AddTree.{add_tree, add_tree_with, add_copy, copy_and_run, source_there, no_copy, tree_conf}
use Rattle.kb_dkms.specs.Scripts.{host_given, run_script}

-- ---- a package that is added

-- a link of the store is one of the whole
says_united : (text : List ℕ) (at other : Option Node) → says text (link_text at) ≡ true → says text (link_text (option_or at other)) ≡ true
says_united text (Some found) other told = told
says_united text None other told = let impossible : false ≡ true = told in cc

pub added_united : (roots : Roots) (key : Key) (store foreign : Tree) → is_added roots key store ≡ true → is_added roots key (united store foreign) ≡ true
added_united roots key store foreign added =
    ap (λ at. says (source_text roots key) (link_text at)) (node_at-united store foreign (link_path roots key))
    ∙ says_united (source_text roots key) (node_at store (link_path roots key)) (node_at foreign (link_path roots key)) added

already : (roots : Roots) (key : Key) (store foreign : Tree) → is_added roots key store ≡ true → already_added roots key (united store foreign) ≡ Some (refusal.AlreadyAdded key)
already roots key store foreign added = ap (λ b. cond b (Some (refusal.AlreadyAdded key)) None) (added_united roots key store foreign added)

pub add_none : (host : Host) (script : Script) (key : Key) (store foreign : Tree) → is_added host.roots key store ≡ true → LeavesNone (add host script key) store foreign
add_none host script key store foreign added =
    none_due (already_added host.roots key) (reads (source_conf host key) (add_with host script key)) store foreign (refusal.AlreadyAdded key) (already host.roots key store foreign added)

copy_none : (host : Host) (script : Script) (from : Path) (conf : Conf) (store foreign : Tree) → is_added host.roots conf.key store ≡ true
    → LeavesNone (add_copy host script from conf) store foreign
copy_none host script from conf store foreign added =
    none_due (no_copy host.roots conf.key from) (copy_and_run host script from conf) store foreign (refusal.AlreadyAdded conf.key)
    (ap
    (λ o. option_or (option_or (option_or o (source_there (source_path host.roots conf.key) (united store foreign))) (too_much from (united store foreign))) (blocked host.roots conf.key (united store foreign)))
    (already host.roots conf.key store foreign added))

tree_with_none : (host : Host) (script : Script) (from : Path) (conf : Conf) (store foreign : Tree) → is_added host.roots conf.key store ≡ true
    → LeavesNone (add_tree_with host script from conf) store foreign
tree_with_none host script from conf store foreign added = by (same_path from (source_path host.roots conf.key))
  where
    by : (b : Bool) → LeavesNone (cond b (add host script conf.key) (add_copy host script from conf)) store foreign
    by true = add_none host script conf.key store foreign added
    by false = copy_none host script from conf store foreign added

pub add_tree_none : (host : Host) (script : Script) (from : Path) (conf : Conf) (store foreign : Tree) → tree_conf host from (united store foreign) ≡ Ok conf
    → is_added host.roots conf.key store ≡ true → LeavesNone (add_tree host script from) store foreign
add_tree_none host script from conf store foreign read added =
    none_reads (tree_conf host from) (add_tree_with host script from) store foreign (λ value is.
    let same : value ≡ conf = one_value value conf (sym is ∙ read) in
    ap (λ c. (add_tree_with host script from c store foreign).after) same ∙ tree_with_none host script from conf store foreign added)
  where
    one_value : (a b : Conf) → ◌≡◌ {A = Result Conf Refusal} (Ok a) (Ok b) → a ≡ b
    one_value a b e = cc

-- ---- one store at most

no_store_of_script : (host : Host) (script : Script) (key : Key) (words : Option (List ℕ)) (store foreign : Tree)
    → LeavesNone (run_script host.roots script (host_given host) key (codes "POST_ADD") words) store foreign
no_store_of_script host script key None store foreign = refl
no_store_of_script host script key (Some words) store foreign = refl

step_once : (Holds : Tree → Type 0) (host : Host) (script : Script) (step : Tree → Tree) (line : List ℕ) (key : Key) (words : Option (List ℕ)) (store foreign : Tree)
    → Holds (step store) → IsOnce Holds (transaction step line then run_script host.roots script (host_given host) key (codes "POST_ADD") words) store foreign
step_once Holds host script step line key words store foreign holds =
    one (step store) (ap (λ later. step store ∷ later) (no_store_of_script host script key words (step store) foreign)) holds

added_once : (roots : Roots) (key : Key) (store : Tree) → is_added roots key (add_step roots key store) ≡ true
added_once roots key store =
    adds.added roots key key store ∙ ap (λ b. b || is_added roots key store) (both_true ((bytes_decides key.module key.module).1 refl) ((bytes_decides key.version key.version).1 refl))

pub add_once : (Holds : Tree → Type 0) (host : Host) (script : Script) (key : Key) (store foreign : Tree)
    → ((next : Tree) → is_added host.roots key next ≡ true → Holds next) → IsOnce Holds (add host script key) store foreign
add_once Holds host script key store foreign holds =
    once_unless Holds (already_added host.roots key) (reads (source_conf host key) (add_with host script key)) store foreign
    (once_reads Holds (source_conf host key) (add_with host script key) store foreign (λ conf read. warned conf
    (once_unless Holds (blocked host.roots key) (add_and_run host script key conf) store foreign
    (step_once Holds host script (add_step host.roots key) (added_line key) key conf.scripts.post_add store foreign
    (holds (add_step host.roots key store) (added_once host.roots key store))))))
  where
    warned : (conf : Conf) → IsOnce Holds (unless (blocked host.roots key) then add_and_run host script key conf) store foreign → IsOnce Holds (add_with host script key conf) store foreign
    warned conf (none empty) = none empty
    warned conf (one next after h) = one next after h

-- the link is the last put of the patch
last_put : (puts : List (Path × Node)) (path : Path) (at : Node) → put_at path (puts ++ (path, at) ∷ []) ≡ Some at
last_put [] path at = ap (λ b. cond b (Some at) None) (same_path-refl path)
last_put (put ∷ puts) path at = ap (λ o. option_or o (cond (same_path path put.0) (Some put.1) None)) (last_put puts path at)

added_tree_once : (roots : Roots) (key : Key) (from : Path) (whole store : Tree) → is_added roots key (add_tree_step roots key from whole store) ≡ true
unfolding add_tree_step
added_tree_once roots key from whole store =
    ap (λ at. says (source_text roots key) (link_text at))
    (patched-put roots (add_tree_patch roots key from whole) store (link_path roots key) (node.Link (source_text roots key))
    (last_put (filter (λ item. is_leaf (Some item.1)) (source_copy roots key from whole)) (link_path roots key) (node.Link (source_text roots key))) refl)
    ∙ (bytes_decides (source_text roots key) (source_text roots key)).1 refl

copy_once : (Holds : Tree → Type 0) (host : Host) (script : Script) (from : Path) (conf : Conf) (store foreign : Tree)
    → ((next : Tree) → is_added host.roots conf.key next ≡ true → Holds next) → IsOnce Holds (add_copy host script from conf) store foreign
copy_once Holds host script from conf store foreign holds = warned
    (once_unless Holds (no_copy host.roots conf.key from) (copy_and_run host script from conf) store foreign
    (once_reads Holds Ok
    (λ whole. transaction (add_tree_step host.roots conf.key from whole) (added_line conf.key) then run_script host.roots script (host_given host) conf.key (codes "POST_ADD") conf.scripts.post_add)
    store foreign (λ whole is.
    step_once Holds host script (add_tree_step host.roots conf.key from whole) (added_line conf.key) conf.key conf.scripts.post_add store foreign
    (holds (add_tree_step host.roots conf.key from whole store) (added_tree_once host.roots conf.key from whole store)))))
  where
    warned : IsOnce Holds (unless (no_copy host.roots conf.key from) then copy_and_run host script from conf) store foreign → IsOnce Holds (add_copy host script from conf) store foreign
    warned (none empty) = none empty
    warned (one next after h) = one next after h

pub add_tree_once : (Holds : Tree → Type 0) (host : Host) (script : Script) (from : Path) (store foreign : Tree)
    → ((conf : Conf) (next : Tree) → tree_conf host from (united store foreign) ≡ Ok conf → is_added host.roots conf.key next ≡ true → Holds next)
    → IsOnce Holds (add_tree host script from) store foreign
add_tree_once Holds host script from store foreign holds =
    once_reads Holds (tree_conf host from) (add_tree_with host script from) store foreign (λ conf read. by conf read (same_path from (source_path host.roots conf.key)))
  where
    by : (conf : Conf) → tree_conf host from (united store foreign) ≡ Ok conf → (b : Bool) → IsOnce Holds (cond b (add host script conf.key) (add_copy host script from conf)) store foreign
    by conf read true = add_once Holds host script conf.key store foreign (λ next added. holds conf next read added)
    by conf read false = copy_once Holds host script from conf store foreign (λ next added. holds conf next read added)

-- ---- what a conf goes by

-- its directory, and the file in it
pub same_conf : (host : Host) (from : Path) (a b : Tree) → ((q : Path) → is_under q from ≡ true → node_at a q ≡ node_at b q) → tree_conf host from a ≡ tree_conf host from b
unfolding loaded_conf
same_conf host from a b alike =
    let directory : node_at a from ≡ node_at b from = alike from (under-self from) in
    let file : node_at a (conf_below from) ≡ node_at b (conf_below from) = alike (conf_below from) (under-append from (codes "dkms.conf" ∷ [])) in
    cc
