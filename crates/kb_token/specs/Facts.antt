-- The boot facts: of each, the first source that gives one. After kernel-install(8).
use Rattle.std.specs.Prelude.{ℕ, Bool, cond, List, [], ◌∷◌, ◌++◌, flat_map, filter_map, Option, Some, None, Result, Ok, Err, codes, bytes_eq, option_and_then, option_map}
use Rattle.std.specs.List.{list_any}
use Rattle.std.specs.Option.{option_or, option_map_or, unwrap_or}
use Rattle.kb_world.specs.Path.{Path, child, path_text}
use Rattle.kb_world.specs.Read.{unless_due}
use Rattle.kb_world.specs.Tree.{Tree, node_at, is_dir}
use Rattle.kb_world.specs.declared.job.TokenChoice.{TokenChoice}
use Rattle.kb_world.specs.declared.job.TokenChoice.TheVariants as choice
use Rattle.kb_world.specs.declared.roots.Roots.{Roots}
use Rattle.kb_world.specs.declared.refusal.Refusal.{Refusal}
use Rattle.kb_world.specs.declared.refusal.Refusal.TheVariants as refusal
use Rattle.kb_token.specs.Layout.{layout_named, conf_layout, chosen_layout}
use Rattle.kb_token.specs.Lines.{lines_of}
use Rattle.kb_token.specs.Options.{options_of, own_options_of}
use Rattle.kb_token.specs.Release.{release_value}
use Rattle.kb_token.specs.Sources.{Contents, contents_in, all_sources, path_of_source, text_in, is_too_large, is_not_text}
use Rattle.kb_token.specs.Token.{machine_id_of, token_line, token_of}
use Rattle.kb_token.specs.Tries.{tries_of}
use Rattle.kb_token.specs.Variable.{variable_of}
use Rattle.kb_token.specs.declared.facts.BootFacts.{BootFacts}
use Rattle.kb_token.specs.declared.layout.Layout.{Layout}
use Rattle.kb_token.specs.declared.sources.Source.{Source}
use Rattle.kb_token.specs.declared.sources.Source.TheVariants as source
use Rattle.kb_token.specs.declared.variable.Variable.{Variable}

abbrev pub text_at : Contents → Source → Option (List ℕ)
text_at contents source = text_in (contents source)

-- ---- each fact

abbrev pub machine_id : Contents → Option (List ℕ)
machine_id contents = option_and_then machine_id_of (text_at contents source.MachineId)

-- of the first os-release that is there
abbrev pub release : Contents → List ℕ → Option (List ℕ)
release contents key = option_and_then (release_value key) (option_or (text_at contents source.Release) (text_at contents source.VendorRelease))

abbrev pub os_token : Contents → Option (List ℕ)
os_token contents = option_or (release contents (codes "IMAGE_ID")) (release contents (codes "ID"))

abbrev pub entry_token : Contents → Option (List ℕ)
entry_token contents = option_and_then token_line (text_at contents source.EntryToken)

abbrev pub automatic_token : Contents → Option (List ℕ)
automatic_token contents = option_or (entry_token contents) (option_or (machine_id contents) (os_token contents))

abbrev pub chosen_token : Contents → TokenChoice → Option (List ℕ)
chosen_token contents choice.Auto = automatic_token contents
chosen_token contents choice.MachineId = machine_id contents
chosen_token contents choice.OsId = release contents (codes "ID")
chosen_token contents choice.OsImageId = release contents (codes "IMAGE_ID")
chosen_token contents (choice.Literal text) = Some text

abbrev pub layout_in : Contents → Source → Option (List ℕ)
layout_in contents conf = option_and_then conf_layout (text_at contents conf)

-- of the first install.conf that gives one
abbrev pub asked_layout : Contents → Layout
asked_layout contents = layout_named (unwrap_or (option_or (layout_in contents source.InstallConf) (layout_in contents source.VendorInstallConf)) [])

-- the first command line that is there; none is empty
abbrev pub options : Contents → List ℕ
options contents =
    unwrap_or
    (option_or (option_map options_of (text_at contents source.Cmdline))
    (option_or (option_map options_of (text_at contents source.VendorCmdline)) (option_map own_options_of (text_at contents source.OwnCmdline)))) []

abbrev pub tries : Contents → Option ℕ
tries contents = option_and_then tries_of (text_at contents source.Tries)

-- ---- warnings

abbrev pub is_unused_key : List ℕ → Bool
is_unused_key key = list_any (bytes_eq key) (codes "BOOT_ROOT" ∷ codes "MACHINE_ID" ∷ [])

abbrev pub unused_warning : Option Variable → Option (List ℕ)
unused_warning None = None
unused_warning (Some variable) = cond (is_unused_key variable.key) (Some (codes "warning: install.conf: " ++ variable.key ++ codes " is not used")) None

-- for each line of an install.conf with a key that isn't used
abbrev pub conf_warnings : List ℕ → List (List ℕ)
conf_warnings text = filter_map (λ line. unused_warning (variable_of line)) (lines_of text)

abbrev pub tries_warnings : Option ℕ → List (List ℕ)
tries_warnings (Some number) = []
tries_warnings None = codes "warning: tries is not used" ∷ []

abbrev pub text_warnings : Source → List ℕ → List (List ℕ)
text_warnings source.InstallConf text = conf_warnings text
text_warnings source.VendorInstallConf text = conf_warnings text
text_warnings source.Tries text = tries_warnings (tries_of text)
text_warnings _ text = []

abbrev pub not_text_warning : Path → List ℕ
not_text_warning path = codes "warning: " ++ path_text path ++ codes " is not text"

-- of one source
abbrev pub source_warnings : Roots → Contents → Source → List (List ℕ)
source_warnings roots contents source =
    cond (is_not_text (contents source)) (not_text_warning (path_of_source roots source) ∷ []) (option_map_or (text_warnings source) (text_at contents source) [])

abbrev pub warnings : Roots → Contents → List (List ℕ)
warnings roots contents = flat_map (source_warnings roots contents) all_sources

-- ---- all facts

-- the first of the sources that is too large
abbrev pub first_too_large : Roots → Contents → List Source → Option Refusal
first_too_large roots contents [] = None
first_too_large roots contents (source ∷ sources) =
    cond (is_too_large (contents source)) (Some (refusal.TooLarge (path_of_source roots source))) (first_too_large roots contents sources)

abbrev pub facts_with : Roots → Contents → List ℕ → Bool → BootFacts
facts_with roots contents token token_dir = record {
  token = token;
  machine_id = machine_id contents;
  layout = chosen_layout (asked_layout contents) (text_at contents source.EntriesSrel) token_dir;
  title = release contents (codes "PRETTY_NAME");
  sort_key = os_token contents;
  options = options contents;
  tries = tries contents;
  warnings = warnings roots contents;
}

-- the token, or the first refusal
abbrev pub token_from : Roots → Contents → TokenChoice → Result (List ℕ) Refusal
token_from roots contents choice = unless_due (first_too_large roots contents all_sources) (token_of (chosen_token contents choice))

abbrev pub facts_for : Roots → Tree → Contents → Result (List ℕ) Refusal → Result BootFacts Refusal
facts_for roots tree contents (Err due) = Err due
facts_for roots tree contents (Ok token) = Ok (facts_with roots contents token (is_dir (node_at tree (child roots.boot token))))

-- the facts, or the first refusal: a source that is too large in the order of reading, no token, one that is no name
abbrev pub facts : Roots → TokenChoice → Tree → Result BootFacts Refusal
facts roots choice tree = facts_for roots tree (contents_in roots tree) (token_from roots (contents_in roots tree) choice)
