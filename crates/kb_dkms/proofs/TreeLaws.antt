-- What `dkms add` of a directory names and stages, by what a walk met below it.
use Rattle.std.proofs.Common.{◌≡◌, suc, ◌<◌, ◌^◌, Bool, true, false, List, [], ◌∷◌, ◌++◌, length, map, Option, None, sym, ap, ◌∙◌, arith}
use Rattle.std.proofs.lemmas.List.{map-id}
use Rattle.std.proofs.lemmas.Simd.{map-map}
use Rattle.std.specs.Prelude.{filter, unwrap_or}
use Rattle.std.specs.List.{AllByRecursion}
use Rattle.kb_world.specs.Layout.{whole_tree}
use Rattle.kb_world.specs.Path.{Path}
use Rattle.kb_world.specs.Public.{is_private}
use Rattle.kb_world.specs.Roots.{AreApart}
use Rattle.kb_world.specs.Steps.{add_tree_patch}
use Rattle.kb_world.specs.Store.{is_key, link_path, source_path, source_text}
use Rattle.kb_world.specs.Tree.{Tree, node_at, kind_of, is_dir, is_leaf, IsFormed}
use Rattle.kb_world.specs.declared.job.Key.{Key}
use Rattle.kb_world.specs.declared.roots.Roots.{Roots}
use Rattle.kb_world.specs.declared.tree.Kind.{Kind}
use Rattle.kb_world.specs.declared.tree.Node.{Node}
use Rattle.kb_world.specs.declared.tree.Node.TheVariants as node
use Rattle.kb_world.proofs.AboveLaws.{all-all}
use Rattle.kb_walk.specs.Walking.{LIMITS, met_at, walked, is_dir_kind, is_leaf_kind}
use Rattle.kb_walk.specs.declared.walking.Met.{Met}
use Rattle.kb_walk.specs.declared.walking.Walk.{Walk}
use Rattle.kb_walk.proofs.LimitLaws.{met_all, met_unskipped, few_entries}
use Rattle.kb_walk.proofs.MemberLaws.{skips_none}
use Rattle.kb_walk.proofs.VisitLaws.{dir_of, leaf_of}
use Rattle.kb_walk.proofs.WholeLaws.{whole_formed, entries_whole, walked_whole}
use Rattle.kb_changes.specs.Changes.{nodes_of}
use Rattle.kb_changes.specs.Fit.{IsFit, MayStand}
use Rattle.kb_changes.proofs.TreeFits.{HasRoomForCopy, add_tree_fits, add_tree_stands}
use Rattle.kb_changes.proofs.TreePatch.{filter-map, filter-same, copied_paths, copied_dirs, copied_leaves, copy_path, dirs_are, targets_are, nodes_are}

abbrev path_met : Met → Path
path_met met = met.path

module _ (roots : Roots) (tree : Tree) (from : Path) (ended : (walked LIMITS tree (is_private roots) from).over ≡ None) where
  abbrev whole : Tree
  whole = whole_tree roots tree

  abbrev met : List Met
  met = (walked LIMITS tree (is_private roots) from).met

  -- ---- what was met

  -- all that lies below the directory in the whole tree
  pub met_is : (walked LIMITS tree (is_private roots) from).met ≡ map (met_at (whole_tree roots tree)) (copied_paths from (whole_tree roots tree))
  met_is =
      ap (λ (w : Walk). w.met) same ∙ met_all LIMITS whole (λ path. false) from (sym (ap (λ (w : Walk). w.over) same) ∙ ended)
      ∙ ap (map (met_at whole)) (skips_none whole from)
    where
      same : walked LIMITS tree (is_private roots) from ≡ walked LIMITS (whole_tree roots tree) (λ path. false) from
      same = walked_whole roots LIMITS tree from

  pub few_copied : suc (length (copied_paths from (whole_tree roots tree))) < 2 ^ 64
  few_copied = omega (arith, few_entries LIMITS tree (is_private roots) from ended, ap length (entries_whole roots tree from ∙ skips_none whole from))

  -- nothing private
  pub met_open : AllByRecursion (λ (m : Met). is_private roots m.path ≡ false) (walked LIMITS tree (is_private roots) from).met
  met_open = met_unskipped LIMITS tree (is_private roots) from ended

  -- where a test of kinds is one of nodes, what passes it was met in this order
  passing : (kinds : Kind → Bool) (nodes : Option Node → Bool) → ((at : Option Node) → kinds (kind_of at) ≡ nodes at) → map path_met (filter (λ (m : Met). kinds m.kind) met) ≡ filter (λ path. nodes (node_at whole path)) (copied_paths from whole)
  passing kinds nodes same =
      ap (λ ms. map path_met (filter (λ (m : Met). kinds m.kind) ms)) met_is ∙ ap (map path_met) (filter-map (λ (m : Met). kinds m.kind) (met_at whole) (copied_paths from whole))
      ∙ map-map path_met (met_at whole) (filter (λ path. kinds (kind_of (node_at whole path))) (copied_paths from whole)) ∙ map-id _
      ∙ filter-same (λ path. kinds (kind_of (node_at whole path))) (λ path. nodes (node_at whole path)) (copied_paths from whole) (all-all (λ path. kinds (kind_of (node_at whole path)) ≡ nodes (node_at whole path)) (λ path. same (node_at whole path)) (copied_paths from whole))

  abbrev dirs_met : List Met
  dirs_met = filter (λ (m : Met). is_dir_kind m.kind) met

  abbrev leaves_met : List Met
  leaves_met = filter (λ (m : Met). is_leaf_kind m.kind) met

  dirs_are_met : copied_dirs from whole ≡ map path_met dirs_met
  dirs_are_met = sym (passing is_dir_kind is_dir dir_of)

  leaves_are_met : copied_leaves from whole ≡ map path_met leaves_met
  leaves_are_met = sym (passing is_leaf_kind is_leaf leaf_of)

  -- ---- the patch by what was met

  module _ (key : Key) where
    -- a directory at the place of each that was met, below that of the source
    pub tree_dirs : (add_tree_patch roots key from (whole_tree roots tree)).dirs
        ≡ source_path roots key ∷ map (λ (m : Met). copy_path roots key from m.path) (filter (λ (m : Met). is_dir_kind m.kind) (walked LIMITS tree (is_private roots) from).met)
    tree_dirs =
        dirs_are roots key from whole ∙ ap (λ paths. source_path roots key ∷ map (copy_path roots key from) paths) dirs_are_met ∙ ap (λ paths. source_path roots key ∷ paths) (map-map (copy_path roots key from) path_met dirs_met)

    -- and the place of each file and link that was met, in this order, and the link of the version behind them
    pub tree_targets : map (λ (put : Path × Node). put.0) (add_tree_patch roots key from (whole_tree roots tree)).puts
        ≡ map (λ (m : Met). copy_path roots key from m.path) (filter (λ (m : Met). is_leaf_kind m.kind) (walked LIMITS tree (is_private roots) from).met) ++ link_path roots key ∷ []
    tree_targets =
        targets_are roots key from whole ∙ ap (λ paths. map (copy_path roots key from) paths ++ link_path roots key ∷ []) leaves_are_met
        ∙ ap (λ targets. targets ++ link_path roots key ∷ []) (map-map (copy_path roots key from) path_met leaves_met)

    -- and these nodes are staged for it
    pub tree_nodes : AreApart roots → nodes_of roots (add_tree_patch roots key from (whole_tree roots tree)) ≡ record {
      dkms = node.Link (source_text roots key) ∷ [];
      src = map (λ (m : Met). unwrap_or (node_at (whole_tree roots tree) m.path) node.Dir) (filter (λ (m : Met). is_leaf_kind m.kind) (walked LIMITS tree (is_private roots) from).met);
      «modules» = [];
      boot = [];
    }
    tree_nodes apart = nodes_are roots apart key from whole ∙ (λ i. record {
      dkms = node.Link (source_text roots key) ∷ [];
      src = (ap (map (λ path. unwrap_or (node_at whole path) node.Dir)) leaves_are_met ∙ map-map (λ path. unwrap_or (node_at whole path) node.Dir) path_met leaves_met) i;
      «modules» = [];
      boot = [];
    })

    -- ---- it fits and may stand

    module _ (apart : AreApart roots) (named : is_key key ≡ true) where
      pub tree_fits : IsFormed tree → (now : Tree) → HasRoomForCopy roots key now → IsFit roots (add_tree_patch roots key from (whole_tree roots tree)) now
      tree_fits formed now room = add_tree_fits roots apart key named from whole (whole_formed roots tree formed) now room few_copied

      pub tree_stands : MayStand roots (add_tree_patch roots key from (whole_tree roots tree))
      tree_stands = add_tree_stands roots apart key named from whole few_copied
