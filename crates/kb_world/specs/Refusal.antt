-- What each refusal says and its number, and the lines of the other ends. This project's own.
use Rattle.std.specs.Prelude.{ℕ, List, [], ◌∷◌, ◌++◌, codes, decimal}
use Rattle.kb_world.specs.Job.{key_text, spot_text}
use Rattle.kb_world.specs.Path.{path_text}
use Rattle.kb_world.specs.declared.refusal.Refusal.{Refusal}
use Rattle.kb_world.specs.declared.refusal.Refusal.TheVariants as refusal

abbrev pub LINE_FEED : ℕ
LINE_FEED = 10

-- the name of the program, the text and a line feed
abbrev pub line_of : List ℕ → List ℕ
line_of text = codes "kmodboot: " ++ text ++ LINE_FEED ∷ []

abbrev pub refusal_text : Refusal → List ℕ
refusal_text (refusal.Usage place) = codes "usage error at word " ++ decimal place
refusal_text (refusal.BadName name) = codes "bad name: " ++ name
refusal_text (refusal.NotAdded key) = key_text key ++ codes ": not added"
refusal_text (refusal.AlreadyAdded key) = key_text key ++ codes ": already added"
refusal_text (refusal.NoSource path) = codes "no source: " ++ path_text path
refusal_text (refusal.SourceThere path) = codes "source exists: " ++ path_text path
refusal_text (refusal.ConfLine line) = codes "dkms.conf line " ++ decimal line
refusal_text (refusal.ConfMissing name) = codes "dkms.conf lacks " ++ name
refusal_text (refusal.ConfValue name) = codes "dkms.conf has a bad " ++ name
refusal_text (refusal.ConfMismatch key) = codes "dkms.conf is of " ++ key_text key
refusal_text (refusal.Excluded key spot) = key_text key ++ codes ": not for " ++ spot_text spot
refusal_text (refusal.NoKernel path) = codes "no kernel: " ++ path_text path
refusal_text (refusal.AlreadyBuilt key) = key_text key ++ codes ": already built"
refusal_text (refusal.NotBuilt key) = key_text key ++ codes ": not built"
refusal_text (refusal.AlreadyInstalled key) = key_text key ++ codes ": already installed"
refusal_text (refusal.NotInstalled key) = key_text key ++ codes ": not installed"
refusal_text (refusal.NoModule name) = codes "the build left no " ++ name ++ codes ".ko"
refusal_text (refusal.Claimed path owner) = path_text path ++ codes ": belongs to " ++ owner
refusal_text (refusal.Changed path) = path_text path ++ codes ": changed"
refusal_text (refusal.Damaged path) = path_text path ++ codes ": damaged"
refusal_text (refusal.ChildFailed which code) = which ++ codes " ended with " ++ decimal code
refusal_text (refusal.NoImage path) = codes "no image: " ++ path_text path
refusal_text refusal.NoToken = codes "no entry token"
refusal_text (refusal.ImageInside path) = path_text path ++ codes ": inside the entry directory"
refusal_text (refusal.TooLarge path) = path_text path ++ codes ": too large"
refusal_text (refusal.Archive word) = codes "archives are not supported: " ++ word
refusal_text (refusal.NoRoot path) = codes "no directory: " ++ path_text path
refusal_text (refusal.TooMany path) = path_text path ++ codes ": too many entries"

-- the line on standard error
abbrev pub message_of : Refusal → List ℕ
message_of why = line_of (refusal_text why)

-- the exit status
abbrev pub number_of : Refusal → ℕ
number_of (refusal.Usage place) = 1
number_of (refusal.BadName name) = 2
number_of (refusal.NotAdded key) = 3
number_of (refusal.AlreadyAdded key) = 4
number_of (refusal.NoSource path) = 5
number_of (refusal.SourceThere path) = 6
number_of (refusal.ConfLine line) = 7
number_of (refusal.ConfMissing name) = 8
number_of (refusal.ConfValue name) = 9
number_of (refusal.ConfMismatch key) = 10
number_of (refusal.Excluded key spot) = 11
number_of (refusal.NoKernel path) = 12
number_of (refusal.AlreadyBuilt key) = 13
number_of (refusal.NotBuilt key) = 14
number_of (refusal.AlreadyInstalled key) = 15
number_of (refusal.NotInstalled key) = 16
number_of (refusal.NoModule name) = 17
number_of (refusal.Claimed path owner) = 18
number_of (refusal.Changed path) = 19
number_of (refusal.Damaged path) = 20
number_of (refusal.ChildFailed which code) = 21
number_of (refusal.NoImage path) = 22
number_of refusal.NoToken = 23
number_of (refusal.ImageInside path) = 24
number_of (refusal.TooLarge path) = 25
number_of (refusal.Archive word) = 26
number_of (refusal.NoRoot path) = 27
number_of (refusal.TooMany path) = 28

-- the lines of the ends that are no refusal
abbrev pub fault_line : List ℕ
fault_line = line_of (codes "a file or program call failed")

abbrev pub no_memory_line : List ℕ
no_memory_line = line_of (codes "out of memory")

abbrev pub bad_root_line : List ℕ
bad_root_line = line_of (codes "bad KMODBOOT_ROOT")

abbrev pub bad_boot_line : List ℕ
bad_boot_line = line_of (codes "bad KMODBOOT_BOOT")
