-- The laws: doing a valid intent's changes again is doing them once, and what soft areas may leave.
use Rattle.std.proofs.Common.{◌≡◌, ◌∷◌, refl, inl, inr, true, not, List, [], ◌++◌, map, take, sym, ap, ◌∙◌, subst}
use Rattle.std.proofs.lemmas.Bool.{cases_Bool}
use Rattle.kb_world.specs.Area.{IsLeft}
use Rattle.kb_world.specs.Path.{Path}
use Rattle.kb_world.specs.Public.{intent_path, public_tree}
use Rattle.kb_world.specs.Roots.{AreApart}
use Rattle.kb_world.specs.Script.{Script}
use Rattle.kb_world.specs.Tree.{Tree, node_at, is_dir, IsFormed}
use Rattle.kb_world.specs.declared.child.Area.{Area}
use Rattle.kb_world.specs.declared.child.Request.{Request}
use Rattle.kb_world.specs.declared.roots.Roots.{Roots}
use Rattle.kb_changes.specs.Change.{done}
use Rattle.kb_changes.specs.Valid.{is_valid}
use Rattle.kb_changes.specs.declared.change.Change.{Change}
use Rattle.kb_again.specs.Sparing.{IsSparing, AreSparing, areas_of, settled}
use Rattle.kb_again.specs.Unseen.{is_shown, AreAlike, HaveStaged, AreDoneAlike}
use Rattle.kb_again.specs.Within.{IsBetween, IsUnstaged, IsDoneAlike, IsBetweenEach, last_image}
use Rattle.kb_again.proofs.BetweenLaws.{IsCutNext, areas_in, EndsAlike, by_back, staging_keeps}
use Rattle.kb_again.proofs.ChangeLaws.{whole_of, done_same, areas_same, mapped_parts, mapped_next, cut_there, steps_are, done_is, done_whole}
use Rattle.kb_again.proofs.FactLaws.{known_valid, staged_are, mapped_member, untouched_is}
use Rattle.kb_again.proofs.Facts.{lists_of, staged_at, IsValidUnder}
use Rattle.kb_again.proofs.JournalLaws.{journal_stays, all_map}
use Rattle.kb_again.proofs.PathLaws.{is_listed}
use Rattle.kb_again.proofs.PublicLaws.{steps_all}
use Rattle.kb_again.proofs.ReplyLaws.{requests_made, replies_made}
use Rattle.kb_again.proofs.RootLaws.{are_roots}
use Rattle.kb_again.proofs.SettledLaws.{all_of, settled_spares, own_spare}
use Rattle.kb_again.proofs.Soft.{IsLeftIn, IsFit}
use Rattle.kb_again.proofs.Steps.{step_of, do_steps, steps_of, after_all}
use Rattle.kb_again.proofs.UnseenLaws.{is_plain, AreSeenAlike, seen_alike_all}

facts_of : (r : Roots) (cs : List Change) → is_valid r cs ≡ true → IsValidUnder r (lists_of cs)
facts_of r cs valid = (known_valid r cs valid).facts

alike_from : (r : Roots) (f : Script) (cs : List Change) (t u : Tree) → is_valid r cs ≡ true → EndsAlike f r (lists_of cs) t u
    → IsDoneAlike r f cs t u
alike_from r f cs t u valid ends = record {
  public = ap (public_tree r) (done_is r f cs u valid) ∙ ends.public ∙ sym (ap (public_tree r) (done_is r f cs t valid));
  journal = ends.journal;
}

pub between_done_alike : (r : Roots) (f : Script) (cs : List Change) (soft : List Area) (t u : Tree) → AreApart r → is_valid r cs ≡ true
    → IsFormed t → AreSparing r (areas_of cs) soft
    → IsBetween r f cs soft t u → IsDoneAlike r f cs t u
between_done_alike r f cs soft t u apart valid formed spares b =
    let s = lists_of cs in
    let whole = whole_of t formed in
    let there = cut_there r f b.back (done r f b.front t) b.mid (done_whole r f b.front t whole) b.within in
    let front = map (step_of r) b.front in
    let back = map (step_of r) b.back in
    let split : front ++ back ≡ steps_of r s =
    sym (mapped_parts (step_of r) b.front b.back) ∙ ap (map (step_of r)) b.split ∙ steps_are r cs valid in
    let cut : IsCutNext back (do_steps f r front t) b.mid = subst (λ w. IsCutNext back w b.mid) (done_same r f b.front t) there.cut in
    let areas : areas_of (b.front ++ take 1 b.back) ≡ areas_in (front ++ take 1 back) =
    areas_same r (b.front ++ take 1 b.back)
    ∙ ap areas_in (mapped_parts (step_of r) b.front (take 1 b.back) ∙ ap (λ l. front ++ l) (mapped_next (step_of r) b.back)) in
    let left : IsLeftIn (areas_in (front ++ take 1 back) ++ soft) b.mid u = subst (λ l. IsLeftIn (l ++ soft) b.mid u) areas b.left.each in
    alike_from r f cs t u valid
    (by_back f r s soft t u (are_roots r apart) (facts_of r cs valid) whole spares
    (whole_of u b.left.formed) front back b.mid split there.whole cut left)

pub each_done_alike : (r : Roots) (f : Script) (cs : List Change) (t : Tree) (images : List (List Area × Tree)) → AreApart r
    → is_valid r cs ≡ true → IsFormed t
    → IsBetweenEach r f cs t images → IsDoneAlike r f cs t (last_image t images)
each_done_alike r f cs t [] apart valid formed each = record { public = refl; journal = refl }
each_done_alike r f cs t (next ∷ images) apart valid formed each =
    let first = between_done_alike r f cs next.0 t next.1 apart valid formed each.0 each.1 in
    let later = each_done_alike r f cs next.1 images apart valid each.1.left.formed each.2 in
    record { public = later.public ∙ first.public; journal = later.journal ∙ first.journal }

pub unstaged_done_alike : (r : Roots) (f : Script) (cs : List Change) (soft : List Area) (t v u : Tree) → AreApart r → is_valid r cs ≡ true
    → IsFormed t → AreSparing r (areas_of cs) soft
    → IsUnstaged r (done r f cs t) v → IsLeft soft v u → IsDoneAlike r f cs t u
unstaged_done_alike r f cs soft t v u apart valid formed spares unstaged left =
    let s = lists_of cs in
    alike_from r f cs t u valid
    (staging_keeps f r s soft t v u (are_roots r apart) (facts_of r cs valid) (whole_of t formed) spares
    (subst (λ w. IsUnstaged r w v) (done_is r f cs t valid) unstaged) left.each (whole_of u left.formed))

pub settled_sparing : (r : Roots) (cs : List Change) (soft : List Area) → AreApart r → is_valid r cs ≡ true
    → AreSparing r (areas_of cs) soft
    → AreSparing r [] (settled (areas_of cs) soft)
settled_sparing r cs soft apart valid spares =
    let s = lists_of cs in
    settled_spares r s soft (are_roots r apart) (facts_of r cs valid)
    (all_of (IsSparing r (areas_of cs)) (IsFit r s.runs) (λ area is. inl is) soft spares)

pub own_sparing : (r : Roots) (cs : List Change) → AreApart r → is_valid r cs ≡ true → AreSparing r (areas_of cs) (areas_of cs)
own_sparing r cs apart valid =
    let s = lists_of cs in
    all_map (IsSparing r (areas_of cs)) (λ (request : Request). request.area) s.runs
    (own_spare r s (are_roots r apart) (facts_of r cs valid))

pub journal_kept : (r : Roots) (f : Script) (cs front back : List Change) (t : Tree) → AreApart r → is_valid r cs ≡ true
    → front ++ back ≡ cs
    → node_at (done r f front t) (intent_path r) ≡ node_at t (intent_path r)
journal_kept r f cs front back t apart valid e =
    let split = sym (mapped_parts (step_of r) front back) ∙ ap (map (step_of r)) e ∙ steps_are r cs valid in
    ap (λ v. node_at v (intent_path r)) (done_same r f front t)
    ∙ journal_stays f r (lists_of cs) (map (step_of r) front) (map (step_of r) back) t (are_roots r apart) (facts_of r cs valid) split

pub unseen_done_alike : (r : Roots) (f : Script) (cs : List Change) (t u : Tree) → AreApart r → is_valid r cs ≡ true → IsFormed t
    → IsFormed u
    → AreAlike r t u → HaveStaged r cs t u → AreDoneAlike r f cs t u
unseen_done_alike r f cs t u apart valid formed formed_u alike staged =
    let s = lists_of cs in
    let plain_shown : (q : Path) → is_plain r q ≡ is_shown r q = λ q. ap not (untouched_is r q) in
    let all : AreSeenAlike f r s t u =
    seen_alike_all f r s t u (are_roots r apart) (facts_of r cs valid) (whole_of t formed) (whole_of u formed_u)
    (λ q is. alike.shown q (sym (plain_shown q) ∙ is)) (λ q is. alike.directories q)
    (λ c in_it. sym (staged (staged_at r c)
    (ap (is_listed (staged_at r c)) (staged_are r cs) ∙ mapped_member (staged_at r) s.puts c in_it))) in
    let after : (v : Tree) → done r f cs v ≡ after_all f r s v = λ v. done_is r f cs v valid ∙ steps_all f r s s.runs v in
    let shown : (q : Path) → is_shown r q ≡ true → node_at (done r f cs t) q ≡ node_at (done r f cs u) q =
    λ q is. ap (λ v. node_at v q) (after t) ∙ all.same q (plain_shown q ∙ is) ∙ sym (ap (λ v. node_at v q) (after u)) in
    record {
      trees = record {
        shown = shown;
        directories = λ q. elim (cases_Bool (is_plain r q)) [
          | inl is ↦ ap is_dir (shown q (sym (plain_shown q) ∙ is))
          | inr out ↦ ap (λ v. is_dir (node_at v q)) (after t) ∙ all.dirs q (ap not out) ∙ sym (ap (λ v. is_dir (node_at v q)) (after u))
        ];
      };
      requests = requests_made r f cs t valid ∙ all.made ∙ sym (requests_made r f cs u valid);
      replies = replies_made r f cs t valid ∙ all.replies ∙ sym (replies_made r f cs u valid);
    }
