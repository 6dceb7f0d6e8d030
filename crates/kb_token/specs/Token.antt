-- The machine ID and the entry token, after machine-id(5) and kernel-install(8). What a token may be is this project's own.
use Rattle.std.specs.Prelude.{ℕ, Bool, false, ◌&&◌, ◌||◌, not, cond, List, [], ◌∷◌, length, nat_eq, nat_le, Option, Some, None, Result, Ok, Err, codes, bytes_eq}
use Rattle.std.specs.List.{list_all, starts_with}
use Rattle.std.specs.Char.{is_ascii_digit}
use Rattle.std.specs.Int.{is_in_range}
use Rattle.std.specs.Str.{byte}
use Rattle.kb_world.specs.Names.{is_boot_word}
use Rattle.kb_world.specs.declared.refusal.Refusal.{Refusal}
use Rattle.kb_world.specs.declared.refusal.Refusal.TheVariants as refusal
use Rattle.kb_token.specs.Lines.{first_line, trimmed}

abbrev pub is_lower_hex : ℕ → Bool
is_lower_hex c = is_ascii_digit c || is_in_range (byte "a") (byte "f") c

-- the first line, where that is 32 lower-case hexadecimal digits
abbrev pub machine_id_of : List ℕ → Option (List ℕ)
machine_id_of text = cond (nat_eq (length (first_line text)) 32 && list_all is_lower_hex (first_line text)) (Some (first_line text)) None

-- the first line without the blanks at its ends, where that isn't empty
abbrev pub token_line : List ℕ → Option (List ℕ)
token_line text = cond (nat_eq (length (trimmed (first_line text))) 0) None (Some (trimmed (first_line text)))

abbrev pub are_digits : List ℕ → Bool
are_digits text = not (nat_eq (length text) 0) && list_all is_ascii_digit text

-- it ends in `+` and digits, as the name of an entry with a counter does
abbrev pub ends_counted : List ℕ → Bool
ends_counted [] = false
ends_counted (c ∷ rest) = nat_eq c (byte "+") && are_digits rest || ends_counted rest

-- A token names a directory of the boot root, beside `loader` and `EFI`, and begins the names of entries.
abbrev pub is_entry_token : List ℕ → Bool
is_entry_token token =
    is_boot_word token && nat_le (length token) 64 && not (bytes_eq token (codes "loader")) && not (bytes_eq token (codes "EFI"))
    && not (starts_with nat_eq token (codes "initrd.img-")) && not (ends_counted token)

-- what was chosen, where it may be a token
abbrev pub token_of : Option (List ℕ) → Result (List ℕ) Refusal
token_of None = Err refusal.NoToken
token_of (Some token) = cond (is_entry_token token) (Ok token) (Err (refusal.BadName token))
