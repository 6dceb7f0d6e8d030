-- The same words again, behind a call that a crash cut off. This project's own.
use Rattle.std.specs.Prelude.{◌≡◌, true, List, Option, Result, Ok, Err}
use Rattle.kb_world.specs.Layout.{united}
use Rattle.kb_world.specs.Path.{Path, is_under}
use Rattle.kb_world.specs.Public.{public_tree, foreign_tree}
use Rattle.kb_world.specs.Script.{Script}
use Rattle.kb_world.specs.Tree.{Tree, node_at}
use Rattle.kb_world.specs.declared.job.Host.{Host}
use Rattle.kb_world.specs.declared.refusal.Refusal.{Refusal}
use Rattle.kb_changes.specs.declared.change.Intent.{Intent}
use Rattle.kb_machine.specs.Opens.{IsReady}
use Rattle.kb_machine.specs.Outcome.{Outcome, last_of}
use Rattle.kb_machine.specs.Stands.{IsOneOf}
use Rattle.kb_words.specs.Words.{Word}
use Rattle.kb_words.specs.declared.command.Command.{Command}
use Rattle.kb_words.specs.declared.command.Command.TheVariants as command
use Rattle.kb_top.specs.Machine.{outcome_of}

-- at and below the directory the same stands with both stores
abbrev pub AreAlikeBelow : Path → Tree → Tree → Tree → Type 0
AreAlikeBelow directory foreign store other = (path : Path) → is_under path directory ≡ true → node_at (united other foreign) path ≡ node_at (united store foreign) path

-- where a directory is added: none of the stores changes what stands at and below it
abbrev pub KeepDirectory : Result Command Refusal → Tree → Tree → List Tree → Type 0
KeepDirectory (Ok (command.AddTree path)) foreign store after = (other : Tree) → IsOneOf other after → AreAlikeBelow path foreign store other
KeepDirectory (Ok (command.Add key)) foreign store after = Unit {0}
KeepDirectory (Ok (command.Status filter)) foreign store after = Unit {0}
KeepDirectory (Ok command.Help) foreign store after = Unit {0}
KeepDirectory (Ok command.Recover) foreign store after = Unit {0}
KeepDirectory (Err why) foreign store after = Unit {0}

-- The next call with the same words begins with what the image is once its journal is ended. Where the foreign tree is then
-- as it was, the words come to the same last store as the call that wasn't cut off.
pub record ComesToSameStore (host : Host) (script : Script) (words : List Word) (ready : Tree) (outcome : Outcome) (image : Tree) : Type 0 where
  pub again : Tree
  pub found : Option Intent
  pub is_ready : IsReady host.roots script image again found
  pub same : foreign_tree host.roots again ≡ foreign_tree host.roots ready
      → last_of (public_tree host.roots again) (outcome_of host script words image again found).after ≡ last_of (public_tree host.roots ready) outcome.after
