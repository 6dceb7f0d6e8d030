-- The lines of a store, one by one, and its one status.
use Rattle.std.proofs.Common.{◌≡◌, inl, inr, ℕ, Bool, true, false, not, ◌&&◌, List, refl, sym, ap, ◌∙◌, subst}
use Rattle.std.specs.Prelude.{◌↔◌, flat_map}
use Rattle.std.specs.List.{Contains, filter as keep}
use Rattle.std.proofs.lemmas.Bool.{true≢false, and_parts, and_from}
use Rattle.std.proofs.lemmas.List.Elements.{Contains-append_left, Contains-append_right, Contains-append_cases}
use Rattle.std.proofs.lemmas.List.Sorted.{Contains-permutation, IsPermutation-sym}
use Rattle.kb_world.specs.Store.{same_key}
use Rattle.kb_world.specs.declared.job.Filter.{Filter}
use Rattle.kb_world.specs.declared.job.Key.{Key}
use Rattle.kb_store.proofs.ContentsLaws.{key_is}
use Rattle.kb_store.specs.Accessors.{added_in, builds_in, installed_in, kept_in}
use Rattle.kb_store.specs.declared.store.Build.{Build}
use Rattle.kb_store.specs.declared.store.Store.{Store}
use Rattle.kb_status.specs.declared.line.Line.{Line}
use Rattle.kb_status.specs.Filter.{is_among_texts, is_empty, wants_key, wants_spot, wants_all_spots}
use Rattle.kb_status.specs.Line.{full_line}
use Rattle.kb_status.specs.LineOf.{IsAddedLine, IsBuildLine, IsLineOf}
use Rattle.kb_status.specs.Lines.{has_build, has_line, is_build_wanted, line_of_added, build_line, added_lines, build_lines, status_lines}
use Rattle.kb_status.specs.Status.{IsStatus}
use Rattle.kb_status.proofs.OrderLaws.{before, line_order_ranks}
use Rattle.kb_status.proofs.SortLaws.{kept_from, is_kept, made_from, is_made, one_sort}
use Rattle.kb_status.proofs.WantLaws.{same_key_itself, key_from, key_to, empty_from, empty_to, any_from, any_to, among_from, among_to, state_is, one_state}

not_from : (b : Bool) → not b ≡ true → b ≡ true → ⊥
not_from true h so = true≢false (sym h)
not_from false h so = true≢false (sym so)

not_to : (b : Bool) → (b ≡ true → ⊥) → not b ≡ true
not_to true h = absurd (h refl)
not_to false h = refl

module _ (store : Store) (filter : Filter) (line : Line) where
  -- ---- added versions

  unbuilt_from : (key : Key) → not (has_build store key) ≡ true → (build : Build) → Contains (builds_in store) build → build.key ≡ key → ⊥
  unbuilt_from key h build has same =
      not_from (has_build store key) h
      (any_to (λ b. same_key b.key key) (builds_in store) build has (subst (λ k. same_key build.key k ≡ true) same (same_key_itself build.key)))

  unbuilt_to : (key : Key) → ((build : Build) → Contains (builds_in store) build → build.key ≡ key → ⊥) → not (has_build store key) ≡ true
  unbuilt_to key none = not_to (has_build store key) (λ some.
      let r = any_from (λ b. same_key b.key key) (builds_in store) some in
      none r.0 r.1 (key_is r.0.key key r.2))

  from_added : Contains (added_lines store filter) line → IsAddedLine store filter line
  from_added h =
      let made = made_from line_of_added (keep (has_line store filter) (added_in store)) line h in
      let kept = kept_from (has_line store filter) (added_in store) made.0 made.1 in
      let parts = and_parts (wants_all_spots filter && wants_key filter made.0) (not (has_build store made.0)) kept.1 in
      let wanted = and_parts (wants_all_spots filter) (wants_key filter made.0) parts.0 in
      let both = and_parts (is_empty filter.kernels) (is_empty filter.arches) wanted.0 in
      subst (IsAddedLine store filter) (sym made.2) (record {
        added = kept.0;
        unbuilt = unbuilt_from made.0 parts.1;
        wanted = key_from filter made.0 wanted.1;
        kernels = empty_from filter.kernels both.0;
        arches = empty_from filter.arches both.1;
        spot = refl;
        state = refl;
      })

  to_added : IsAddedLine store filter line → Contains (added_lines store filter) line
  to_added h =
      let spots = and_from (is_empty filter.kernels) (is_empty filter.arches) (empty_to filter.kernels h.kernels) (empty_to filter.arches h.arches) in
      let both = and_from (wants_all_spots filter) (wants_key filter line.key) spots (key_to filter line.key h.wanted) in
      let wanted = and_from (wants_all_spots filter && wants_key filter line.key) (not (has_build store line.key)) both (unbuilt_to line.key h.unbuilt) in
      let is : line_of_added line.key ≡ line = λ i. record { key = line.key; spot = sym h.spot i; state = sym h.state i } in
      subst (Contains (added_lines store filter)) is
      (is_made line_of_added (keep (has_line store filter) (added_in store)) line.key (is_kept (has_line store filter) (added_in store) line.key h.added wanted))

  -- ---- builds

  from_builds : Contains (build_lines store filter) line → IsBuildLine store filter line
  from_builds h =
      let made = made_from (build_line store) (keep (is_build_wanted filter) (builds_in store)) line h in
      let build = made.0 in
      let kept = kept_from (is_build_wanted filter) (builds_in store) build made.1 in
      let parts = and_parts (wants_key filter build.key) (wants_spot filter build.spot) kept.1 in
      let both = and_parts (is_among_texts filter.kernels build.spot.kernel) (is_among_texts filter.arches build.spot.arch) parts.1 in
      subst (IsBuildLine store filter) (sym made.2) (record {
        build = build;
        built = kept.0;
        wanted = key_from filter build.key parts.0;
        kernel = among_from filter.kernels build.spot.kernel both.0;
        arch = among_from filter.arches build.spot.arch both.1;
        key = refl;
        spot = refl;
        state = state_is (installed_in store build.key.module build.spot) build.key.version (kept_in store build.key.module build.spot);
      })

  to_builds : IsBuildLine store filter line → Contains (build_lines store filter) line
  to_builds h =
      let build = h.build in
      let spots = and_from (is_among_texts filter.kernels build.spot.kernel) (is_among_texts filter.arches build.spot.arch) (among_to filter.kernels build.spot.kernel h.kernel) (among_to filter.arches build.spot.arch h.arch) in
      let wanted = and_from (wants_key filter build.key) (wants_spot filter build.spot) (key_to filter build.key h.wanted) spots in
      let state = one_state (installed_in store build.key.module build.spot) build.key.version (kept_in store build.key.module build.spot) line.state h.state in
      let is : build_line store build ≡ line = λ i. record { key = sym h.key i; spot = sym h.spot i; state = sym state i } in
      subst (Contains (build_lines store filter)) is
      (is_made (build_line store) (keep (is_build_wanted filter) (builds_in store)) build (is_kept (is_build_wanted filter) (builds_in store) build h.built wanted))

  -- ---- all lines

  line_from : Contains (status_lines store filter) line → IsLineOf store filter line
  line_from h = elim (Contains-append_cases (added_lines store filter) (build_lines store filter) line h) [ inl added ↦ inl (from_added added) | inr built ↦ inr (from_builds built) ]

  line_to : IsLineOf store filter line → Contains (status_lines store filter) line
  line_to (inl added) = Contains-append_left (added_lines store filter) (build_lines store filter) line (to_added added)
  line_to (inr built) = Contains-append_right (added_lines store filter) (build_lines store filter) line (to_builds built)

pub in_status : (store : Store) (filter : Filter) (text : List ℕ) (line : Line) → (status : IsStatus store filter text) → Contains status.lines line ↔ IsLineOf store filter line
in_status store filter text line status =
    let all = status_lines store filter in (
      λ h. line_from store filter line (Contains-permutation status.lines all line (IsPermutation-sym all status.lines status.each_once) h),
      λ h. Contains-permutation all status.lines line status.each_once (line_to store filter line h),
    )

pub one_status : (store : Store) (filter : Filter) (a b : List ℕ) → IsStatus store filter a → IsStatus store filter b → a ≡ b
one_status store filter a b first second =
    let same = one_sort before line_order_ranks first.lines second.lines first.sorted second.sorted (λ x. first.stable x ∙ sym (second.stable x)) in
    first.is ∙ ap (flat_map full_line) same ∙ sym second.is
