-- What is said of the scripts of a package.
use Rattle.std.proofs.Common.{◌≡◌, ◌≢◌, ℕ, ◌+◌, ◌<◌, cond, List, [], ◌∷◌, ◌++◌, length, take, get_or, sym, ap, ◌∙◌, append_assoc}
use Rattle.std.proofs.lemmas.Bool.{ne_eqb}
use Rattle.std.proofs.lemmas.List.{append-nil, take_more}
use Rattle.std.proofs.lemmas.Grind.{flat_map-append}
use Rattle.std.specs.Prelude.{codes, decimal}
use Rattle.kb_world.specs.declared.child.Reply.{Reply}
use Rattle.kb_dkms.specs.Commit.{endings}
use Rattle.kb_dkms.specs.Scripts.{warning_line, ended_line}

-- the line that is written of a child that failed is the definition's
pub ended : (which : List ℕ) (code : ℕ) (text : List ℕ) → text ≡ which ++ (codes " ended with " ++ decimal code) → code ≢ 0 → warning_line text ≡ ended_line which code
ended which code text is other =
    ap warning_line (is ∙ sym (append_assoc which (codes " ended with ") (decimal code)))
    ∙ sym (ap (λ b. cond b [] (warning_line (which ++ codes " ended with " ++ decimal code))) (ne_eqb code 0 other))

-- one reply more is told of
pub one_ending_more : (which : List ℕ) (replies : List Reply) (i : ℕ) (d reply : Reply) (err before more : List ℕ) → i < length replies → reply ≡ get_or replies i d → err ≡ before ++ endings which (take i replies)
    → more ≡ err ++ ended_line which reply.code → more ≡ before ++ endings which (take (i + 1) replies)
one_ending_more which replies i d reply err before more lt named so_far pushed =
    let last = get_or replies i d in
    let line : Reply → List ℕ = λ r. ended_line which r.code in
    let joined : endings which (take (i + 1) replies) ≡ endings which (take i replies) ++ endings which (last ∷ []) =
    ap (endings which) (take_more replies i d lt) ∙ flat_map-append line (take i replies) (last ∷ []) in
    pushed ∙ ap (λ r. err ++ line r) named ∙ ap (λ t. err ++ t) (sym (append-nil (line last))) ∙ ap (λ t. t ++ endings which (last ∷ [])) so_far
    ∙ append_assoc before (endings which (take i replies)) (endings which (last ∷ [])) ∙ ap (λ t. before ++ t) (sym joined)
