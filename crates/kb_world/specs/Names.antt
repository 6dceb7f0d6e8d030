-- The rules on names. A name is given by the bytes of its text, which is UTF-8.
use Rattle.std.specs.Prelude.{ℕ, Bool, false, ◌&&◌, ◌||◌, not, List, [], ◌∷◌, length, nat_eq, nat_le, codes, bytes_eq}
use Rattle.std.specs.List.{list_all, list_any, starts_with}
use Rattle.std.specs.Char.{is_ascii_alphanumeric}
use Rattle.std.specs.Str.{byte}

-- this project's own: the name of one entry of a directory
abbrev pub is_name : List ℕ → Bool
is_name name =
    nat_le 1 (length name) && nat_le (length name) 255 && list_all (λ c. not (nat_eq c (byte "/")) && not (nat_eq c 0)) name
    && not (bytes_eq name (codes ".")) && not (bytes_eq name (codes ".."))

-- a letter or digit of ASCII, or one of these marks
abbrev pub is_one_of : List ℕ → ℕ → Bool
is_one_of marks c = is_ascii_alphanumeric c || list_any (λ mark. nat_eq c mark) marks

abbrev pub begins_alphanumeric : List ℕ → Bool
begins_alphanumeric [] = false
begins_alphanumeric (c ∷ rest) = is_ascii_alphanumeric c

-- this project's own: a module package, or the file of a module without its ending
abbrev pub is_word : List ℕ → Bool
is_word name = nat_le (length name) 120 && begins_alphanumeric name && list_all (is_one_of (codes "._+-~^:")) name

-- this project's own: a version stands beside the directory original_module and the links kernel-K-A
abbrev pub is_version : List ℕ → Bool
is_version name = is_word name && not (bytes_eq name (codes "original_module")) && not (starts_with nat_eq name (codes "kernel-"))

-- this project's own: a kernel stands beside the links build and source
abbrev pub is_kernel : List ℕ → Bool
is_kernel name = is_word name && not (bytes_eq name (codes "build")) && not (bytes_eq name (codes "source"))

-- this project's own: an architecture as `uname -m` prints it
abbrev pub is_arch : List ℕ → Bool
is_arch name = nat_le 1 (length name) && nat_le (length name) 32 && list_all (is_one_of (codes "_")) name

-- Boot Loader Specification, Type #1: the characters of an entry's file name
abbrev pub is_boot_word : List ℕ → Bool
is_boot_word name = nat_le (length name) 120 && begins_alphanumeric name && list_all (is_one_of (codes "+-_.")) name
