-- One assignment is read at the front of a text, and no other.
use Rattle.std.proofs.Common.{◌≡◌, ℕ, false, ◌&&◌, List, ◌∷◌, ◌++◌, refl, sym, ap, ◌∙◌, subst, Some, None, append_assoc}
use Rattle.std.specs.Prelude.{unwrap_or}
use Rattle.std.proofs.lemmas.Bool.{and_parts, and_from}
use Rattle.std.proofs.lemmas.Option.{none-some, some_pair_parts}
use Rattle.kb_conf.specs.Signs.{equals_sign}
use Rattle.kb_conf.specs.Name.{Reference, is_reference, spell_reference}
use Rattle.kb_conf.specs.Piece.{Mode}
use Rattle.kb_conf.specs.Front.{byte_at, reference_at}
use Rattle.kb_conf.specs.Assignment.{Assignment}
use Rattle.kb_conf.specs.Value.{Scope, IsShortValue, spell_pieces, are_value, is_short}
use Rattle.kb_conf.specs.Only.{IsOnly}
use Rattle.kb_conf.specs.Line.{AssignmentItem, spell_item, item_mode, item_value, is_command, IsAssignment, AssignmentAt}
use Rattle.kb_conf.proofs.SpanLaws.{byte_found, byte_again}
use Rattle.kb_conf.proofs.ReferenceLaws.{reference_found, reference_again}

abbrev pub value_mode : Reference → Mode
value_mode r = record { quoted = false; command = is_command r.name }

abbrev pub made_of : Reference → List ℕ → Assignment
made_of r value = record { name = r.name; number = unwrap_or r.number 0; value = value }

-- an assignment is a name, a = and a short value
pub record Parts (s : Scope) (text : List ℕ) (a : Assignment) (after : List ℕ) : Type 0 where
  pub target : Reference
  pub value : List ℕ
  pub behind : List ℕ
  pub named : reference_at text ≡ Some (target, equals_sign ∷ behind)
  pub short : IsShortValue s (value_mode target) behind (value, after)
  pub made : a ≡ made_of target value

spelled_item : (i : AssignmentItem) (after : List ℕ) → spell_item i ++ after ≡ spell_reference i.target ++ (equals_sign ∷ (spell_pieces i.pieces ++ after))
spelled_item i after = append_assoc (spell_reference i.target) (equals_sign ∷ spell_pieces i.pieces) after

pub parts_of : (s : Scope) (text : List ℕ) (a : Assignment) (after : List ℕ) → IsAssignment s text a after → Parts s text a after
parts_of s text a after h =
    let i = h.item in
    let whole = and_parts (is_reference i.target) (are_value (item_mode i) i.pieces after && is_short (item_value s i)) h.whole in
    let valued = and_parts (are_value (item_mode i) i.pieces after) (is_short (item_value s i)) whole.1 in
    record {
      target = i.target;
      value = item_value s i;
      behind = spell_pieces i.pieces ++ after;
      named = ap reference_at (h.spelled ∙ spelled_item i after) ∙ reference_again i.target (equals_sign ∷ (spell_pieces i.pieces ++ after)) whole.0 refl refl;
      short = (record { pieces = i.pieces; spelled = refl; fitting = valued.0; given = refl }, valued.1);
      made = h.made;
    }

pub whole_of : (s : Scope) (text : List ℕ) (r : Reference) (value behind after : List ℕ) → reference_at text ≡ Some (r, equals_sign ∷ behind) → IsShortValue s (value_mode r) behind (value, after) → IsAssignment s text (made_of r value) after
whole_of s text r value behind after named short =
    let name = reference_found text r (equals_sign ∷ behind) named in
    let i : AssignmentItem = record { target = r; pieces = short.0.pieces } in
    let same_value : value ≡ item_value s i = short.0.given in
    record {
      item = i;
      spelled = name.1 ∙ ap (λ x. spell_reference r ++ (equals_sign ∷ x)) short.0.spelled ∙ sym (spelled_item i after);
      whole = and_from (is_reference r) _ name.0 (and_from (are_value (item_mode i) i.pieces after) (is_short (item_value s i)) short.0.fitting (ap is_short (sym same_value) ∙ short.1));
      made = ap (made_of r) same_value;
    }

pub no_name : (s : Scope) (text : List ℕ) → reference_at text ≡ None → (x : Assignment × List ℕ) → AssignmentAt s text x → ⊥
no_name s text none x h = let p = parts_of s text x.0 x.1 h in none-some (p.target, equals_sign ∷ p.behind) (sym none ∙ p.named)

pub no_equals : (s : Scope) (text : List ℕ) (r : Reference) (rest : List ℕ) → reference_at text ≡ Some (r, rest) → byte_at equals_sign rest ≡ None → (x : Assignment × List ℕ) → AssignmentAt s text x → ⊥
no_equals s text r rest named none x h =
    let p = parts_of s text x.0 x.1 h in
    let pair = some_pair_parts p.target r (equals_sign ∷ p.behind) rest (sym p.named ∙ named) in
    none-some p.behind (sym none ∙ ap (byte_at equals_sign) (sym pair.1) ∙ byte_again equals_sign p.behind)

-- the parts are those that were found
pub same_parts : (s : Scope) (text : List ℕ) (r : Reference) (rest behind : List ℕ) (a : Assignment) (after : List ℕ) → reference_at text ≡ Some (r, rest) → byte_at equals_sign rest ≡ Some behind → IsAssignment s text a after → (value : List ℕ) × IsShortValue s (value_mode r) behind (value, after) × (a ≡ made_of r value)
same_parts s text r rest behind a after named equals h =
    let p = parts_of s text a after h in
    let pair = some_pair_parts p.target r (equals_sign ∷ p.behind) rest (sym p.named ∙ named) in
    let tail : equals_sign ∷ p.behind ≡ equals_sign ∷ behind = pair.1 ∙ byte_found equals_sign rest behind equals in
    let same_behind : p.behind ≡ behind = cc in (
      p.value,
      subst (λ (x : List ℕ). IsShortValue s (value_mode r) x (p.value, after)) same_behind (subst (λ (x : Reference). IsShortValue s (value_mode x) p.behind (p.value, after)) pair.0 p.short),
      p.made ∙ ap (λ (x : Reference). made_of x p.value) pair.0,
    )

pub no_value : (s : Scope) (text : List ℕ) (r : Reference) (rest behind : List ℕ) → reference_at text ≡ Some (r, rest) → byte_at equals_sign rest ≡ Some behind → ((v : List ℕ × List ℕ) → IsShortValue s (value_mode r) behind v → ⊥) → (x : Assignment × List ℕ) → AssignmentAt s text x → ⊥
no_value s text r rest behind named equals none x h =
    let p = same_parts s text r rest behind x.0 x.1 named equals h in
    none (p.0, x.1) p.1

pub the_assignment : (s : Scope) (text : List ℕ) (r : Reference) (rest behind value after : List ℕ) → reference_at text ≡ Some (r, rest) → byte_at equals_sign rest ≡ Some behind → IsOnly (IsShortValue s (value_mode r) behind) (Some (value, after)) → IsOnly (AssignmentAt s text) (Some (made_of r value, after))
the_assignment s text r rest behind value after named equals only =
    let tail = byte_found equals_sign rest behind equals in (
      whole_of s text r value behind after (named ∙ ap (λ x. Some (r, x)) tail) only.0,
      λ y h.
          let p = same_parts s text r rest behind y.0 y.1 named equals h in
          let same = only.1 (p.0, y.1) p.1 in
          same_pair y.0 (made_of r value) y.1 after (p.2 ∙ ap (λ (x : List ℕ × List ℕ). made_of r x.0) same) (ap (λ (x : List ℕ × List ℕ). x.1) same),
    )
  where
    same_pair : (a b : Assignment) (x y : List ℕ) → a ≡ b → x ≡ y → ◌≡◌ {A = Assignment × List ℕ} (a, x) (b, y)
    same_pair a b x y e h = rw (e, h) refl
