-- The kernel's command line, after kernel-install(8).
use Rattle.std.specs.Prelude.{ℕ, Bool, ◌||◌, not, List, length, filter, nat_eq, codes}
use Rattle.std.specs.List.{slice_split, join_with_byte, starts_with}
use Rattle.std.specs.Str.{byte}
use Rattle.kb_token.specs.Lines.{is_space, CARRIAGE_RETURN}

-- a blank, a line feed or a carriage return
abbrev pub is_separator : ℕ → Bool
is_separator c = is_space c || nat_eq c CARRIAGE_RETURN

-- the runs without a separator
abbrev pub words_of : List ℕ → List (List ℕ)
words_of text = filter (λ word. not (nat_eq (length word) 0)) (slice_split is_separator text)

-- a word that a boot loader adds to the command line of the running kernel
abbrev pub is_loader_word : List ℕ → Bool
is_loader_word word = starts_with nat_eq word (codes "BOOT_IMAGE=") || starts_with nat_eq word (codes "initrd=")

-- the words, with a space between each two
abbrev pub options_of : List ℕ → List ℕ
options_of text = join_with_byte (byte " ") (words_of text)

-- the same of the running kernel's own command line
abbrev pub own_options_of : List ℕ → List ℕ
own_options_of text = join_with_byte (byte " ") (filter (λ word. not (is_loader_word word)) (words_of text))
