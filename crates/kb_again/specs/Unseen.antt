-- Trees that are alike but for the journal. This project's own.
use Rattle.std.specs.Prelude.{◌≡◌, Bool, true, ◌||◌, not, List}
use Rattle.kb_world.specs.Path.{Path, is_under}
use Rattle.kb_world.specs.Script.{Script}
use Rattle.kb_world.specs.Tree.{Tree, node_at, is_dir}
use Rattle.kb_world.specs.declared.roots.Roots.{Roots}
use Rattle.kb_changes.specs.Change.{done, requests_of, replies_of}
use Rattle.kb_changes.specs.Groups.{staged_in}
use Rattle.kb_changes.specs.Valid.{is_kept_out, new_intent_path, is_among_paths}
use Rattle.kb_changes.specs.declared.change.Change.{Change}

-- neither the journal, nor where it is written first, nor what is staged
abbrev pub is_shown : Roots → Path → Bool
is_shown roots path = not (is_kept_out roots path || is_under path (new_intent_path roots))

-- the same stands at each path but those, and directories stand at the same paths
pub record AreAlike (roots : Roots) (a b : Tree) : Type 0 where
  pub shown : (path : Path) → is_shown roots path ≡ true → node_at a path ≡ node_at b path
  pub directories : (path : Path) → is_dir (node_at a path) ≡ is_dir (node_at b path)

-- what the changes put is staged in both
abbrev pub HaveStaged : Roots → List Change → Tree → Tree → Type 0
HaveStaged roots changes a b = (path : Path) → is_among_paths (staged_in roots changes) path ≡ true → node_at a path ≡ node_at b path

-- all changes leave trees that are alike, make the same requests and get the same replies
pub record AreDoneAlike (roots : Roots) (script : Script) (changes : List Change) (a b : Tree) : Type 0 where
  pub trees : AreAlike roots (done roots script changes a) (done roots script changes b)
  pub requests : requests_of roots script changes a ≡ requests_of roots script changes b
  pub replies : replies_of roots script changes a ≡ replies_of roots script changes b
