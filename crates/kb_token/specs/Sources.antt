-- The sources of kernel-install(8), in the order of reading, and what stands there. The order and the limit are this
-- project's own.
use Rattle.std.specs.Prelude.{ℕ, Bool, true, false, cond, List, [], ◌∷◌, length, nat_le, Option, Some, None, codes}
use Rattle.std.specs.List.{slice_get}
use Rattle.std.specs.Option.{unwrap_or}
use Rattle.std.specs.Str.{is_utf8}
use Rattle.kb_world.specs.Path.{Path, child}
use Rattle.kb_world.specs.Tree.{Tree, node_at, file_bytes}
use Rattle.kb_world.specs.declared.roots.Roots.{Roots}
use Rattle.kb_token.specs.declared.sources.Content.{Content}
use Rattle.kb_token.specs.declared.sources.Content.TheVariants.{Absent, TooLarge, NotText, Text}
use Rattle.kb_token.specs.declared.sources.Source.{Source}
use Rattle.kb_token.specs.declared.sources.Source.TheVariants as source

abbrev pub kernel_install_path : Path → List ℕ → Path
kernel_install_path root name = child (child root (codes "kernel")) name

abbrev pub path_of_source : Roots → Source → Path
path_of_source roots source.MachineId = child roots.etc (codes "machine-id")
path_of_source roots source.Release = child roots.etc (codes "os-release")
path_of_source roots source.VendorRelease = child roots.lib (codes "os-release")
path_of_source roots source.EntryToken = kernel_install_path roots.etc (codes "entry-token")
path_of_source roots source.InstallConf = kernel_install_path roots.etc (codes "install.conf")
path_of_source roots source.VendorInstallConf = kernel_install_path roots.lib (codes "install.conf")
path_of_source roots source.EntriesSrel = child (child roots.boot (codes "loader")) (codes "entries.srel")
path_of_source roots source.Cmdline = kernel_install_path roots.etc (codes "cmdline")
path_of_source roots source.VendorCmdline = kernel_install_path roots.lib (codes "cmdline")
path_of_source roots source.OwnCmdline = child roots.proc (codes "cmdline")
path_of_source roots source.Tries = kernel_install_path roots.etc (codes "tries")

-- in the order of reading
abbrev pub all_sources : List Source
all_sources =
    source.MachineId ∷ source.Release ∷ source.VendorRelease ∷ source.EntryToken ∷ source.InstallConf ∷ source.VendorInstallConf ∷ source.EntriesSrel ∷ source.Cmdline
    ∷ source.VendorCmdline ∷ source.OwnCmdline ∷ source.Tries ∷ []

-- what a file of these bytes is, or what is no file
abbrev pub content_of : Option (List ℕ) → Content
content_of None = Absent
content_of (Some bytes) = cond (nat_le (length bytes) 65536) (cond (is_utf8 bytes) (Text bytes) NotText) TooLarge

abbrev pub content_at : Tree → Path → Content
content_at tree path = content_of (file_bytes (node_at tree path))

-- What stands at the sources.
abbrev pub Contents : Type 0
Contents = Source → Content

unfoldable pub contents_in : Roots → Tree → Contents
contents_in roots tree source = content_at tree (path_of_source roots source)

-- what was read, in the order of reading
abbrev pub place : Source → ℕ
place source.MachineId = 0
place source.Release = 1
place source.VendorRelease = 2
place source.EntryToken = 3
place source.InstallConf = 4
place source.VendorInstallConf = 5
place source.EntriesSrel = 6
place source.Cmdline = 7
place source.VendorCmdline = 8
place source.OwnCmdline = 9
place source.Tries = 10

unfoldable pub contents_of : List Content → Contents
contents_of read source = unwrap_or (slice_get read (place source)) Absent

-- the text of a source that is there
abbrev pub text_in : Content → Option (List ℕ)
text_in (Text text) = Some text
text_in Absent = None
text_in TooLarge = None
text_in NotText = None

abbrev pub is_too_large : Content → Bool
is_too_large TooLarge = true
is_too_large Absent = false
is_too_large NotText = false
is_too_large (Text text) = false

abbrev pub is_not_text : Content → Bool
is_not_text NotText = true
is_not_text Absent = false
is_not_text TooLarge = false
is_not_text (Text text) = false
