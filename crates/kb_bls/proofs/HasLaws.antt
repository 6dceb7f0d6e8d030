-- What an entry has when one field more is said.
use Rattle.std.proofs.Common.{◌≡◌, ℕ, Bool, true, false, cond, List, [], ◌∷◌, ◌++◌, map, Option, Some, codes, refl, sym, ap, ◌∙◌, subst, bytes_eq, filter}
use Rattle.std.specs.Cmp.Lexicographic.{bytes_decides}
use Rattle.std.proofs.lemmas.List.{append-nil, map-append}
use Rattle.std.proofs.lemmas.List.Elements.{filter-append}
use Rattle.kb_bls.specs.declared.entry.Entry.{Entry}
use Rattle.kb_bls.specs.Fields.{Field}
use Rattle.kb_bls.specs.Text.{values_of, last_value_of, Has}
use Rattle.kb_bls.proofs.EndLaws.{by_test}

-- what is said, and then this
abbrev pub and_then : List Field → List ℕ → List ℕ → List Field
and_then said key value = said ++ (record { key = key; value = value }) ∷ []

-- the values of one field more
abbrev values_more : Bool → List (List ℕ) → List ℕ → List (List ℕ)
values_more b values value = cond b (values ++ value ∷ []) values

with_last : (b : Bool) (values : List (List ℕ)) (f : Field) → values ++ map (λ g. g.value) (cond b (f ∷ []) []) ≡ values_more b values f.value
with_last true values f = refl
with_last false values f = append-nil values

pub values-more : (name : List ℕ) (said : List Field) (key value : List ℕ)
    → values_of name (and_then said key value) ≡ values_more (bytes_eq key name) (values_of name said) value
values-more name said key value =
    let f : Field = record { key = key; value = value } in
    let named : Field → Bool = λ g. bytes_eq g.key name in
    ap (map (λ g. g.value)) (filter-append named said (f ∷ [])) ∙ map-append (λ g. g.value) (filter named said) (filter named (f ∷ [])) ∙ with_last (bytes_eq key name) (values_of name said) f

last-more : (values : List (List ℕ)) (value : List ℕ) → last_value_of (values ++ value ∷ []) ≡ Some value
last-more [] value = refl
last-more (x ∷ []) value = refl
last-more (x ∷ y ∷ rest) value = last-more (y ∷ rest) value

last_if : (b : Bool) (values : List (List ℕ)) (value : List ℕ) → cond b (Some value) (last_value_of values) ≡ last_value_of (values_more b values value)
last_if true values value = sym (last-more values value)
last_if false values value = refl

-- a key of which the last value counts, and one of which all do
pub one : (name : List ℕ) (said : List Field) (key value : List ℕ) (had : Option (List ℕ))
    → had ≡ last_value_of (values_of name said) → cond (bytes_eq key name) (Some value) had ≡ last_value_of (values_of name (and_then said key value))
one name said key value had e =
    ap (λ o. cond (bytes_eq key name) (Some value) o) e ∙ last_if (bytes_eq key name) (values_of name said) value ∙ ap last_value_of (sym (values-more name said key value))

pub all : (name : List ℕ) (said : List Field) (key value : List ℕ) (had : List (List ℕ))
    → had ≡ values_of name said → values_more (bytes_eq key name) had value ≡ values_of name (and_then said key value)
all name said key value had e = ap (λ l. values_more (bytes_eq key name) l value) e ∙ sym (values-more name said key value)

-- the entry with one field more
abbrev pub with_field : Entry → List ℕ → List ℕ → Entry
with_field e key value = record {
  title = cond (bytes_eq key (codes "title")) (Some value) e.title;
  version = cond (bytes_eq key (codes "version")) (Some value) e.version;
  machine_id = cond (bytes_eq key (codes "machine-id")) (Some value) e.machine_id;
  sort_key = cond (bytes_eq key (codes "sort-key")) (Some value) e.sort_key;
  options = values_more (bytes_eq key (codes "options")) e.options value;
  linux = cond (bytes_eq key (codes "linux")) (Some value) e.linux;
  efi = cond (bytes_eq key (codes "efi")) (Some value) e.efi;
  initrd = values_more (bytes_eq key (codes "initrd")) e.initrd value;
  devicetree = cond (bytes_eq key (codes "devicetree")) (Some value) e.devicetree;
  architecture = cond (bytes_eq key (codes "architecture")) (Some value) e.architecture;
}

has_more : (e : Entry) (said : List Field) (key value : List ℕ) → Has e said → Has (with_field e key value) (and_then said key value)
has_more e said key value h = record {
  title = one (codes "title") said key value e.title h.title;
  version = one (codes "version") said key value e.version h.version;
  machine_id = one (codes "machine-id") said key value e.machine_id h.machine_id;
  sort_key = one (codes "sort-key") said key value e.sort_key h.sort_key;
  options = all (codes "options") said key value e.options h.options;
  linux = one (codes "linux") said key value e.linux h.linux;
  efi = one (codes "efi") said key value e.efi h.efi;
  initrd = all (codes "initrd") said key value e.initrd h.initrd;
  devicetree = one (codes "devicetree") said key value e.devicetree h.devicetree;
  architecture = one (codes "architecture") said key value e.architecture h.architecture;
}

-- an entry that took a field of this key
pub took : (e after : Entry) (key name value : List ℕ) → key ≡ name → with_field e name value ≡ after → (said : List Field) → Has e said → Has after (and_then said key value)
took e after key name value is made said h =
    subst (λ k. Has after (and_then said k value)) (sym is) (subst (λ n. Has n (and_then said name value)) made (has_more e said name value h))

-- the key is none of the profile's
pub record IsUnknown (key : List ℕ) : Type 0 where
  pub title : ¬ (key ≡ codes "title")
  pub version : ¬ (key ≡ codes "version")
  pub machine_id : ¬ (key ≡ codes "machine-id")
  pub sort_key : ¬ (key ≡ codes "sort-key")
  pub options : ¬ (key ≡ codes "options")
  pub linux : ¬ (key ≡ codes "linux")
  pub efi : ¬ (key ≡ codes "efi")
  pub initrd : ¬ (key ≡ codes "initrd")
  pub devicetree : ¬ (key ≡ codes "devicetree")
  pub architecture : ¬ (key ≡ codes "architecture")

other : (key name : List ℕ) → ¬ (key ≡ name) → bytes_eq key name ≡ false
other key name h = by_test (bytes_eq key name) (λ same. h ((bytes_decides key name).0 same))

still : (name : List ℕ) (said : List Field) (key value : List ℕ) → ¬ (key ≡ name) → values_of name said ≡ values_of name (and_then said key value)
still name said key value h = sym (values-more name said key value ∙ ap (λ b. values_more b (values_of name said) value) (other key name h))

pub passed : (e : Entry) (key value : List ℕ) → IsUnknown key → (said : List Field) → Has e said → Has e (and_then said key value)
passed e key value u said h = record {
  title = h.title ∙ ap last_value_of (still (codes "title") said key value u.title);
  version = h.version ∙ ap last_value_of (still (codes "version") said key value u.version);
  machine_id = h.machine_id ∙ ap last_value_of (still (codes "machine-id") said key value u.machine_id);
  sort_key = h.sort_key ∙ ap last_value_of (still (codes "sort-key") said key value u.sort_key);
  options = h.options ∙ still (codes "options") said key value u.options;
  linux = h.linux ∙ ap last_value_of (still (codes "linux") said key value u.linux);
  efi = h.efi ∙ ap last_value_of (still (codes "efi") said key value u.efi);
  initrd = h.initrd ∙ still (codes "initrd") said key value u.initrd;
  devicetree = h.devicetree ∙ ap last_value_of (still (codes "devicetree") said key value u.devicetree);
  architecture = h.architecture ∙ ap last_value_of (still (codes "architecture") said key value u.architecture);
}

-- ---- what is said tells the entry

pub has_same : (a b : Entry) (said : List Field) → Has a said → Has b said → a ≡ b
has_same a b said h k = λ i. record {
  title = (h.title ∙ sym k.title) i;
  version = (h.version ∙ sym k.version) i;
  machine_id = (h.machine_id ∙ sym k.machine_id) i;
  sort_key = (h.sort_key ∙ sym k.sort_key) i;
  options = (h.options ∙ sym k.options) i;
  linux = (h.linux ∙ sym k.linux) i;
  efi = (h.efi ∙ sym k.efi) i;
  initrd = (h.initrd ∙ sym k.initrd) i;
  devicetree = (h.devicetree ∙ sym k.devicetree) i;
  architecture = (h.architecture ∙ sym k.architecture) i;
}
