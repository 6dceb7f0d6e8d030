-- The test of valid changes gives what is known of the lists of their groups.
use Rattle.std.proofs.Common.{◌≡◌, ◌⊎◌, inl, inr, ℕ, Bool, true, false, not, ◌&&◌, ◌||◌, List, [], ◌∷◌, ◌++◌, map, length, drop, codes, Option, Some, None, refl, sym, ap, ◌∙◌, subst, append_assoc}
use Rattle.std.specs.Prelude.{bytes_eq}
use Rattle.std.specs.List.{list_all, list_any}
use Rattle.std.specs.Cmp.Lexicographic.{pointwise}
use Rattle.std.proofs.lemmas.Bool.{true≢false, and_parts, or_cases, or_left, or_right}
use Rattle.kb_world.specs.Path.{Path, child, is_under}
use Rattle.kb_world.specs.Roots.{is_below}
use Rattle.kb_world.specs.StorePath.{key_of, is_key}
use Rattle.kb_world.specs.Tree.{name_in}
use Rattle.kb_world.specs.TreeLaws.{same_path-true}
use Rattle.kb_world.specs.View.{index_names}
use Rattle.kb_world.specs.declared.child.Area.{Area}
use Rattle.kb_world.specs.declared.child.Area.TheVariants.{Nothing, Under, Names}
use Rattle.kb_world.specs.declared.child.Request.{Request}
use Rattle.kb_world.specs.declared.roots.Roots.{Roots}
use Rattle.kb_world.proofs.PathLaws.{under-append, drop-front}
use Rattle.kb_changes.specs.Groups.{drops_in, wipes_in, drop_dirs_in, first_drop_dirs, second_drop_dirs, dirs_in, targets_in, staged_in, runs_in}
use Rattle.kb_changes.specs.Valid.{are_in_order, deepest_first, deepest_last, are_ordered, is_among_paths, none_among, none_under, none_below, all_differ, are_version_names, is_version_dir, is_scratch_wiped, are_targets_kept, are_dirs_kept, are_well_placed, are_fit_runs, written_roots, new_intent_path, is_kept_out, is_initrd, is_changeable, is_well_placed, same_paths, is_kernel_name, is_fit_area, is_fit_run, is_valid}
use Rattle.kb_changes.specs.declared.change.Change.{Change}
use Rattle.kb_changes.specs.declared.change.Change.TheVariants.{Dir, Put, Drop, DropDir, Wipe, Run}
use Rattle.kb_again.proofs.Ends.{is_under_one, IsMember, IsUpward, IsDownward}
use Rattle.kb_again.specs.Within.{staging_paths}
use Rattle.kb_again.proofs.Facts.{StagedPut, puts_in, lists_of, staged_at, targets, changed_paths, untouched, build_at, AreDifferent, IsIndexRun, IsValidUnder}
use Rattle.kb_again.proofs.PathLaws.{is_over, is_above, is_listed, same_bytes, listed_cons, listed_first, listed_more}
use Rattle.kb_again.proofs.PlaceLaws.{entry_is}
use Rattle.kb_again.proofs.RootLaws.{of_all}

no : (b : Bool) → not b ≡ true → b ≡ true → ⊥
no b h is = true≢false (sym h ∙ ap not is)

-- ---- orders

upward : (ps : List Path) → deepest_first ps ≡ true → IsUpward ps
upward [] h = tt
upward (p ∷ ps) h =
    let both = and_parts _ _ h in
    ((λ r listed below. no (is_below r p) (of_all (λ later. not (is_below later p)) ps both.0 r listed) below), upward ps both.1)

downward : (ps : List Path) → deepest_last ps ≡ true → IsDownward ps
downward [] h = tt
downward (p ∷ ps) h =
    let both = and_parts _ _ h in
    ((λ r listed below. no (is_below p r) (of_all (λ later. not (is_below p later)) ps both.0 r listed) below), downward ps both.1)

-- ---- members of lists

in_first : (cs : List Change) (q : Path) → is_listed q (first_drop_dirs cs) ≡ true → is_listed q (drop_dirs_in cs) ≡ true
in_first [] q h = h
in_first (DropDir path ∷ cs) q h = elim (listed_cons q path (first_drop_dirs cs) h) [
  | inl same ↦ listed_first q path (drop_dirs_in cs) same
  | inr later ↦ listed_more q path (drop_dirs_in cs) (in_first cs q later)
]
in_first (Dir path ∷ cs) q h = absurd (true≢false (sym h))
in_first (Put name number target ∷ cs) q h = absurd (true≢false (sym h))
in_first (Drop path ∷ cs) q h = in_first cs q h
in_first (Wipe path ∷ cs) q h = in_first cs q h
in_first (Run request ∷ cs) q h = in_first cs q h

in_second : (cs : List Change) (q : Path) → is_listed q (second_drop_dirs cs) ≡ true → is_listed q (drop_dirs_in cs) ≡ true
in_second [] q h = h
in_second (DropDir path ∷ cs) q h = listed_more q path (drop_dirs_in cs) (in_second cs q h)
in_second (Dir path ∷ cs) q h = h
in_second (Put name number target ∷ cs) q h = h
in_second (Drop path ∷ cs) q h = in_second cs q h
in_second (Wipe path ∷ cs) q h = in_second cs q h
in_second (Run request ∷ cs) q h = in_second cs q h

targets_are : (cs : List Change) → targets_in cs ≡ map (λ c. c.target) (puts_in cs)
targets_are [] = refl
targets_are (Put name number target ∷ cs) = ap (λ l. target ∷ l) (targets_are cs)
targets_are (DropDir path ∷ cs) = targets_are cs
targets_are (Dir path ∷ cs) = targets_are cs
targets_are (Drop path ∷ cs) = targets_are cs
targets_are (Wipe path ∷ cs) = targets_are cs
targets_are (Run request ∷ cs) = targets_are cs

pub staged_are : (r : Roots) (cs : List Change) → staged_in r cs ≡ map (staged_at r) (puts_in cs)
staged_are r [] = refl
staged_are r (Put name number target ∷ cs) =
    ap (λ l. staged_at r (record { root = name; number = number; target = target }) ∷ l) (staged_are r cs)
staged_are r (DropDir path ∷ cs) = staged_are r cs
staged_are r (Dir path ∷ cs) = staged_are r cs
staged_are r (Drop path ∷ cs) = staged_are r cs
staged_are r (Wipe path ∷ cs) = staged_are r cs
staged_are r (Run request ∷ cs) = staged_are r cs

pub mapped_member : (h : StagedPut → Path) (cs : List StagedPut) (c : StagedPut) → IsMember c cs → is_listed (h c) (map h cs) ≡ true
mapped_member h [] c in_it = absurd in_it
mapped_member h (d ∷ cs) c (inl same) = listed_first (h c) (h d) (map h cs) (ap h same)
mapped_member h (d ∷ cs) c (inr later) = listed_more (h c) (h d) (map h cs) (mapped_member h cs c later)

different : (r : Roots) (cs : List StagedPut) → all_differ (map (λ c. c.target) cs) ≡ true → all_differ (map (staged_at r) cs) ≡ true
    → AreDifferent r cs
different r [] h k = tt
different r (c ∷ cs) h k =
    let apart = and_parts _ _ h in
    let apart_staged = and_parts _ _ k in (
      (λ d in_it. (
        (λ same. no _ apart.0
            (subst (λ x. is_listed x (map (λ e. e.target) cs) ≡ true) (sym same) (mapped_member (λ e. e.target) cs d in_it))),
        (λ same. no _ apart_staged.0
            (subst (λ x. is_listed x (map (staged_at r) cs) ≡ true) (sym same) (mapped_member (staged_at r) cs d in_it))),
      )),
      different r cs apart.1 apart_staged.1,
    )

-- ---- where changes are made

abbrev AreChangeable : Roots → List Path → Type 0
AreChangeable r ps = list_all (is_changeable r) ps ≡ true

all_more : (r : Roots) (p : Path) (ps : List Path) → is_changeable r p ≡ true → AreChangeable r ps → AreChangeable r (p ∷ ps)
all_more r p ps h k = ap (λ b. b && list_all (is_changeable r) ps) h ∙ k

record ArePlaced (r : Roots) (cs : List Change) : Type 0 where
  drops : AreChangeable r (drops_in cs)
  wipes : AreChangeable r (wipes_in cs)
  drop_dirs : AreChangeable r (drop_dirs_in cs)
  dirs : AreChangeable r (dirs_in cs)
  targets : AreChangeable r (targets_in cs)

placed : (r : Roots) (cs : List Change) → list_all (is_well_placed r) cs ≡ true → ArePlaced r cs
placed r [] h = record { drops = refl; wipes = refl; drop_dirs = refl; dirs = refl; targets = refl }
placed r (Drop path ∷ cs) h =
    let both = and_parts _ _ h in
    let rest = placed r cs both.1 in
    record {
      drops = all_more r path (drops_in cs) both.0 rest.drops;
      wipes = rest.wipes;
      drop_dirs = rest.drop_dirs;
      dirs = rest.dirs;
      targets = rest.targets;
    }
placed r (Wipe path ∷ cs) h =
    let both = and_parts _ _ h in
    let rest = placed r cs both.1 in
    record {
      drops = rest.drops;
      wipes = all_more r path (wipes_in cs) both.0 rest.wipes;
      drop_dirs = rest.drop_dirs;
      dirs = rest.dirs;
      targets = rest.targets;
    }
placed r (DropDir path ∷ cs) h =
    let both = and_parts _ _ h in
    let rest = placed r cs both.1 in
    record {
      drops = rest.drops;
      wipes = rest.wipes;
      drop_dirs = all_more r path (drop_dirs_in cs) both.0 rest.drop_dirs;
      dirs = rest.dirs;
      targets = rest.targets;
    }
placed r (Dir path ∷ cs) h =
    let both = and_parts _ _ h in
    let rest = placed r cs both.1 in
    record {
      drops = rest.drops;
      wipes = rest.wipes;
      drop_dirs = rest.drop_dirs;
      dirs = all_more r path (dirs_in cs) both.0 rest.dirs;
      targets = rest.targets;
    }
placed r (Put name number target ∷ cs) h =
    let both = and_parts _ _ h in
    let rest = placed r cs both.1 in
    let here = (and_parts (is_changeable r target) _ both.0).0 in
    record {
      drops = rest.drops;
      wipes = rest.wipes;
      drop_dirs = rest.drop_dirs;
      dirs = rest.dirs;
      targets = all_more r target (targets_in cs) here rest.targets;
    }
placed r (Run request ∷ cs) h =
    let rest = placed r cs h in
    record { drops = rest.drops; wipes = rest.wipes; drop_dirs = rest.drop_dirs; dirs = rest.dirs; targets = rest.targets }

listed_either : (q : Path) (ps qs : List Path) → is_listed q (ps ++ qs) ≡ true → (is_listed q ps ≡ true) ⊎ (is_listed q qs ≡ true)
listed_either q [] qs h = inr h
listed_either q (p ∷ ps) qs h = elim (listed_cons q p (ps ++ qs) h) [
  | inl same ↦ inl (listed_first q p ps same)
  | inr later ↦ elim (listed_either q ps qs later) [ inl there ↦ inl (listed_more q p ps there) | inr other ↦ inr other ]
]

-- each path that a change speaks of may be changed
changeable : (r : Roots) (cs : List Change) → ArePlaced r cs → (q : Path) → is_listed q (changed_paths (lists_of cs)) ≡ true
    → is_changeable r q ≡ true
changeable r cs w q h =
    let test : (ps : List Path) → AreChangeable r ps → is_listed q ps ≡ true → is_changeable r q ≡ true =
    λ ps all listed. of_all (is_changeable r) ps all q listed in
    let s = lists_of cs in
    elim (listed_either q s.drops (s.wipes ++ (s.first ++ (s.dirs ++ (targets s ++ s.second)))) h) [
      | inl is ↦ test (drops_in cs) w.drops is
      | inr h1 ↦ elim (listed_either q s.wipes (s.first ++ (s.dirs ++ (targets s ++ s.second))) h1) [
        | inl is ↦ test (wipes_in cs) w.wipes is
        | inr h2 ↦ elim (listed_either q s.first (s.dirs ++ (targets s ++ s.second)) h2) [
          | inl is ↦ test (drop_dirs_in cs) w.drop_dirs (in_first cs q is)
          | inr h3 ↦ elim (listed_either q s.dirs (targets s ++ s.second) h3) [
            | inl is ↦ test (dirs_in cs) w.dirs is
            | inr h4 ↦ elim (listed_either q (targets s) s.second h4) [
              | inl is ↦ test (targets_in cs) w.targets (ap (is_listed q) (targets_are cs) ∙ is)
              | inr is ↦ test (drop_dirs_in cs) w.drop_dirs (in_second cs q is)
            ]
          ]
        ]
      ]
    ]

record IsChangeable (r : Roots) (q : Path) : Type 0 where
  below : list_any (is_below q) (written_roots r) ≡ true
  kept_out : not (is_kept_out r q) ≡ true
  new : not (is_under q (new_intent_path r)) ≡ true
  initrd : not (is_initrd r q) ≡ true

changeable_parts : (r : Roots) (q : Path) → is_changeable r q ≡ true → IsChangeable r q
changeable_parts r q h =
    let below = list_any (is_below q) (written_roots r) in
    let kept_out = not (is_kept_out r q) in
    let new = not (is_under q (new_intent_path r)) in
    let three = and_parts ((below && kept_out) && new) (not (is_initrd r q)) h in
    let two = and_parts (below && kept_out) new three.0 in
    let one = and_parts below kept_out two.0 in
    record { below = one.0; kept_out = one.1; new = two.1; initrd = three.1 }

regroup : (i n s : Bool) → (i || (n || s)) ≡ ((i || s) || n)
regroup true n s = refl
regroup false true true = refl
regroup false true false = refl
regroup false false true = refl
regroup false false false = refl

-- at or under one that is kept out, or under the new journal
pub untouched_is : (r : Roots) (q : Path) → is_under_one (untouched r) q ≡ (is_kept_out r q || is_under q (new_intent_path r))
untouched_is r q = regroup (is_over (child r.dkms (codes ".intent")) q) (is_under q (new_intent_path r)) (is_under_one (staging_paths r) q)

-- ---- scratch trees

version_dir : (r : Roots) (m v : List ℕ) → is_key (key_of m v) ≡ true → is_version_dir r (child (child r.dkms m) v) ≡ true
version_dir r m v keyed =
    let is : child (child r.dkms m) v ≡ r.dkms ++ m ∷ v ∷ [] = append_assoc r.dkms (m ∷ []) (v ∷ []) in
    ap (is_version_dir r) is
    ∙ ap (λ b. b && are_version_names (drop (length r.dkms) (r.dkms ++ m ∷ v ∷ []))) (under-append r.dkms (m ∷ v ∷ []))
    ∙ ap are_version_names (drop-front r.dkms (m ∷ v ∷ [])) ∙ keyed

scratch_wiped : (r : Roots) (cs : List Change) → list_all (is_scratch_wiped r (wipes_in cs)) (drop_dirs_in cs) ≡ true → (m v : List ℕ)
    → is_key (key_of m v) ≡ true
    → is_listed (child (child r.dkms m) v) (drop_dirs_in cs) ≡ true → is_listed (build_at r m v) (wipes_in cs) ≡ true
scratch_wiped r cs h m v keyed listed =
    elim (or_cases _ _ (of_all (is_scratch_wiped r (wipes_in cs)) (drop_dirs_in cs) h (child (child r.dkms m) v) listed)) [
      | inl other ↦ absurd (no _ other (version_dir r m v keyed))
      | inr wiped ↦ wiped
    ]

-- ---- runs

same_names : (a b : List (List ℕ)) → pointwise bytes_eq a b ≡ true → a ≡ b
same_names [] [] h = refl
same_names [] (y ∷ b) h = absurd (true≢false (sym h))
same_names (x ∷ a) [] h = absurd (true≢false (sym h))
same_names (x ∷ a) (y ∷ b) h = let both = and_parts _ _ h in λ i. same_bytes x y both.0 i ∷ same_names a b both.1 i

same_listed : (a b : List Path) → same_paths a b ≡ true → a ≡ b
same_listed [] [] h = refl
same_listed [] (y ∷ b) h = absurd (true≢false (sym h))
same_listed (x ∷ a) [] h = absurd (true≢false (sym h))
same_listed (x ∷ a) (y ∷ b) h = let both = and_parts _ _ h in λ i. same_path-true x y both.0 i ∷ same_listed a b both.1 i

each_name : (test : List ℕ → Bool) (ns : List (List ℕ)) → list_all test ns ≡ true → (n : List ℕ) → IsMember n ns → test n ≡ true
each_name test [] h n in_it = absurd in_it
each_name test (m ∷ ns) h n (inl same) = ap test same ∙ (and_parts _ _ h).0
each_name test (m ∷ ns) h n (inr later) = each_name test ns (and_parts _ _ h).1 n later

kernel_of : (o : Option (List ℕ)) → is_kernel_name o ≡ true → (k : List ℕ) × (o ≡ Some k)
kernel_of None h = absurd (true≢false (sym h))
kernel_of (Some k) h = (k, refl)

abbrev IsRunOf : Roots → List Path → Request → Type 0
IsRunOf r drops c = (c.area ≡ Nothing) ⊎ ((k : List ℕ) × IsIndexRun r drops c k)

fit_area : (r : Roots) (drops : List Path) (c : Request) (area : Area) → c.area ≡ area → is_fit_area r drops c area ≡ true
    → IsRunOf r drops c
fit_area r drops c Nothing e h = inl e
fit_area r drops c (Under directory) e h = absurd (true≢false (sym h))
fit_area r drops c (Names directory names) e h =
    let h1 = and_parts _ _ h in
    let h2 = and_parts _ _ h1.0 in
    let h3 = and_parts _ _ h2.0 in
    let h4 = and_parts _ _ h3.0 in
    let k = kernel_of (name_in r.modules directory) h4.0 in
    let dir_is : directory ≡ child r.modules k.0 = entry_is r.modules directory k.0 k.1 in
    inr (
      k.0,
      record {
        area = e ∙ (λ i. Names (dir_is i) (same_names names index_names h4.1 i));
        dir = same_path-true c.dir r.base h3.1;
        seen = same_listed c.seen (directory ∷ []) h2.1 ∙ ap (λ d. d ∷ []) dir_is;
        dropped =
            λ n in_it. ap (λ d. is_listed (child d n) drops) (sym dir_is)
            ∙ each_name (λ name. is_among_paths drops (child directory name)) index_names h1.1 n in_it;
      },
    )

fit_runs : (r : Roots) (drops : List Path) (runs : List Request) → list_all (is_fit_run r drops) runs ≡ true → (c : Request)
    → IsMember c runs → IsRunOf r drops c
fit_runs r drops [] h c in_it = absurd in_it
fit_runs r drops (d ∷ runs) h c (inl same) = subst (IsRunOf r drops) (sym same) (fit_area r drops d d.area refl (and_parts _ _ h).0)
fit_runs r drops (d ∷ runs) h c (inr later) = fit_runs r drops runs (and_parts _ _ h).1 c later

-- ---- all of it

pub record IsKnownValid (r : Roots) (cs : List Change) : Type 0 where
  pub order : are_in_order 0 cs ≡ true
  pub facts : IsValidUnder r (lists_of cs)

pub known_valid : (r : Roots) (cs : List Change) → is_valid r cs ≡ true → IsKnownValid r cs
known_valid r cs h =
    let s = lists_of cs in
    let runs_fit = and_parts (are_ordered cs && are_targets_kept r cs && are_dirs_kept r cs && are_well_placed r cs)
    (are_fit_runs r cs) h in
    let well_placed = and_parts (are_ordered cs && are_targets_kept r cs && are_dirs_kept r cs) (are_well_placed r cs) runs_fit.0 in
    let dirs_kept = and_parts (are_ordered cs && are_targets_kept r cs) (are_dirs_kept r cs) well_placed.0 in
    let fitting = and_parts (are_ordered cs) (are_targets_kept r cs) dirs_kept.0 in
    let last = and_parts _ (deepest_last (dirs_in cs)) fitting.0 in
    let second = and_parts _ (deepest_first (second_drop_dirs cs)) last.0 in
    let first = and_parts (are_in_order 0 cs) (deepest_first (first_drop_dirs cs)) second.0 in
    let scratch = and_parts _ (list_all (is_scratch_wiped r (wipes_in cs)) (drop_dirs_in cs)) dirs_kept.1 in
    let apart = and_parts (none_under (wipes_in cs) (dirs_in cs)) (none_below (first_drop_dirs cs) (second_drop_dirs cs)) scratch.0 in
    let staged = and_parts _ (all_differ (staged_in r cs)) fitting.1 in
    let targets = and_parts _ (all_differ (targets_in cs)) staged.0 in
    let unlisted = and_parts _ (none_among (second_drop_dirs cs) (targets_in cs)) targets.0 in
    let undropped = and_parts (none_under (wipes_in cs) (targets_in cs)) (none_among (drops_in cs) (targets_in cs)) unlisted.0 in
    let at : (c : StagedPut) → IsMember c (puts_in cs) → is_listed c.target (targets_in cs) ≡ true = λ c in_it.
    ap (is_listed c.target) (targets_are cs) ∙ mapped_member (λ e. e.target) (puts_in cs) c in_it in
    let may : (q : Path) → is_listed q (changed_paths (lists_of cs)) ≡ true → IsChangeable r q =
    λ q listed. changeable_parts r q (changeable r cs (placed r cs well_placed.1) q listed) in
    record {
      order = first.0;
      facts = record {
        first_order = upward (first_drop_dirs cs) first.1;
        second_order = upward (second_drop_dirs cs) second.1;
        dirs_order = downward (dirs_in cs) last.1;
        target_not_wiped =
            λ c in_it is. no _ (of_all (λ path. not (list_any (is_under path) (wipes_in cs))) (targets_in cs) undropped.0 c.target
            (at c in_it)) is;
        target_not_dropped =
            λ c in_it is. no _ (of_all (λ path. not (is_among_paths (drops_in cs) path)) (targets_in cs) undropped.1 c.target
            (at c in_it)) is;
        target_not_second =
            λ c in_it is. no _
            (of_all (λ path. not (is_among_paths (second_drop_dirs cs) path)) (targets_in cs) unlisted.1 c.target (at c in_it)) is;
        different = different r (puts_in cs) (ap all_differ (sym (targets_are cs)) ∙ targets.1)
            (ap all_differ (sym (staged_are r cs)) ∙ staged.1);
        dir_not_wiped = λ q listed is. no _
            (of_all (λ path. not (list_any (is_under path) (wipes_in cs))) (dirs_in cs) apart.0 q listed) is;
        second_not_below = λ q x listed below later.
            no _ (of_all (λ path. not (list_any (is_below path) (first_drop_dirs cs))) (second_drop_dirs cs) apart.1 x later)
            (below_some (first_drop_dirs cs) q x listed below);
        build_wiped =
            λ m v keyed either. scratch_wiped r cs scratch.1 m v keyed
            (elim either [ inl listed ↦ in_first cs _ listed | inr listed ↦ in_second cs _ listed ]);
        below_root = λ q listed. above_one (written_roots r) q (may q listed).below;
        not_inside = λ q listed is.
            elim (or_cases (is_kept_out r q) (is_under q (new_intent_path r)) (sym (untouched_is r q) ∙ is)) [
              | inl out ↦ no (is_kept_out r q) (may q listed).kept_out out
              | inr new ↦ no (is_under q (new_intent_path r)) (may q listed).new new
            ];
        no_initrd = λ q listed is. no (is_initrd r q) (may q listed).initrd is;
        runs = fit_runs r (drops_in cs) (runs_in cs) runs_fit.1;
      };
    }
  where
    below_some : (ps : List Path) (q x : Path) → is_listed q ps ≡ true → is_above q x ≡ true → list_any (is_below x) ps ≡ true
    below_some [] q x listed below = absurd (true≢false (sym listed))
    below_some (p ∷ ps) q x listed below = elim (listed_cons q p ps listed) [
      | inl same ↦ or_left _ _ (subst (λ y. is_below x y ≡ true) same below)
      | inr later ↦ or_right _ _ (below_some ps q x later below)
    ]

    above_one : (ps : List Path) (q : Path) → list_any (is_below q) ps ≡ true → (x : Path) × (is_listed x ps ≡ true) × (is_above x q ≡ true)
    above_one [] q h = absurd (true≢false (sym h))
    above_one (p ∷ ps) q h = elim (or_cases _ _ h) [
      | inl here ↦ (p, listed_first p p ps refl, here)
      | inr later ↦ let w = above_one ps q later in (w.0, listed_more w.0 p ps w.1, w.2)
    ]
