-- An entry is read line by line.
use Rattle.std.proofs.Common.{◌≡◌, ℕ, List, [], ◌∷◌, ◌++◌, map, Bor, IsUtf8, refl, sym, subst, inl, inr}
use Rattle.std.proofs.lemmas.List.{append-nil, map-append}
use Rattle.kb_bls.specs.declared.entry.Entry.{Entry}
use Rattle.kb_bls.specs.Fields.{Field, Says, SaysNothing, Say}
use Rattle.kb_bls.specs.Text.{lines_of, Has, IsEntryOf}
use Rattle.kb_bls.proofs.SayLaws.{say-append, say_same}
use Rattle.kb_bls.proofs.HasLaws.{has_same}

-- the entry has what these lines say
pub record HasRead (lines : List (List ℕ)) (entry : Entry) : Type 0 where
  pub said : List Field
  pub say : Say lines said
  pub has : Has entry said

pub nothing_read : (entry : Entry) → Has entry [] → HasRead [] entry
nothing_read entry has = record { said = []; say = refl; has = has }

-- the bytes of the lines
abbrev pub seen : List (Bor (List ℕ)) → List (List ℕ)
seen lines = map (λ line. line.now) lines

seen_more : (lines : List (Bor (List ℕ))) (line : Bor (List ℕ)) → seen lines ++ line.now ∷ [] ≡ seen (lines ++ line ∷ [])
seen_more lines line = sym (map-append (λ l. l.now) lines (line ∷ []))

pub line_passed : (lines : List (Bor (List ℕ))) (line : Bor (List ℕ)) (entry : Entry) → HasRead (seen lines) entry → SaysNothing line.now → HasRead (seen (lines ++ line ∷ [])) entry
line_passed lines line entry read nothing = subst (λ l. HasRead l entry) (seen_more lines line) (record {
  said = read.said ++ [];
  say = say-append (seen lines) (line.now ∷ []) read.said [] read.say (inl (nothing, refl));
  has = subst (Has entry) (sym (append-nil read.said)) read.has;
})

abbrev pub Takes : Entry → Entry → Field → Type 0
Takes entry after field = (said : List Field) → Has entry said → Has after (said ++ field ∷ [])

pub line_taken : (lines : List (Bor (List ℕ))) (line : Bor (List ℕ)) (key value copy : List ℕ) (entry after : Entry) → HasRead (seen lines) entry
    → Says line.now (record { key = key; value = value }) → copy ≡ value → Takes entry after (record { key = key; value = copy }) → HasRead (seen (lines ++ line ∷ [])) after
line_taken lines line key value copy entry after read says same takes =
    let field : Field = record { key = key; value = copy } in
    let says_copy : Says line.now field = subst (λ v. Says line.now (record { key = key; value = v })) (sym same) says in
    subst (λ l. HasRead l after) (seen_more lines line) (record {
      said = read.said ++ field ∷ [];
      say = say-append (seen lines) (line.now ∷ []) read.said (field ∷ []) read.say (inr (field, [], says_copy, refl, refl));
      has = takes read.said read.has;
    })

pub all_read : (text : List ℕ) (lines : List (Bor (List ℕ))) (entry : Entry) → IsUtf8 text → seen lines ≡ lines_of text → HasRead (seen lines) entry → IsEntryOf text entry
all_read text lines entry utf8 all read = record { utf8 = utf8; said = read.said; lines = subst (λ l. Say l read.said) all read.say; has = read.has }

-- a text is one entry
pub one_entry : (text : List ℕ) (a b : Entry) → IsEntryOf text a → IsEntryOf text b → a ≡ b
one_entry text a b first second =
    has_same a b first.said first.has (subst (Has b) (sym (say_same (lines_of text) first.said second.said first.lines second.lines)) second.has)
