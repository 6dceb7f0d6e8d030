-- Changes in their order: one more, and one that stopped.
use Rattle.std.proofs.Common.{◌≡◌, ◌⊎◌, ℕ, ◌+◌, ◌<◌, ◌≤◌, Bool, true, false, List, [], ◌∷◌, ◌++◌, length, take, drop, map, get_or, Option, Some, None, cond, Result, Ok, Err, refl, sym, ap, ◌∙◌, subst, inl, inr, arith, append_assoc, append-nil, take_all}
use Rattle.std.specs.Prelude.{filter_map, IsErrOf, IsTrue}
use Rattle.std.specs.List.{AllByRecursion}
use Rattle.std.specs.Option.{ForSome}
use Rattle.std.proofs.lemmas.List.{take-append-drop, at_drop_more, map-append, length-take-le}
use Rattle.std.proofs.Math.Seq.{take-append-add}
use Rattle.std.proofs.lemmas.List.Elements.{filter_map-append}
use Rattle.std.proofs.lemmas.List.Sums.{fold-append}
use Rattle.kb_world.specs.Crash.{Adds}
use Rattle.kb_world.specs.Script.{Script, answer_in}
use Rattle.kb_world.specs.State.{State, HasCause, Lasts}
use Rattle.kb_world.specs.Tree.{Tree, node_at, is_dir}
use Rattle.kb_world.specs.declared.child.Area.{Area}
use Rattle.kb_world.specs.declared.child.Reply.{Reply}
use Rattle.kb_world.specs.declared.child.Request.{Request}
use Rattle.kb_world.specs.declared.roots.Roots.{Roots}
use Rattle.kb_world.specs.declared.world.WorldError.{WorldError}
use Rattle.kb_world.specs.declared.world.WorldError.TheVariants.{Failed, NoMemory}
use Rattle.kb_world.proofs.CrashLaws.{adds_then, adds_none, adds_wider}
use Rattle.kb_world.proofs.CallLaws.{lasts_then, rose_since}
use Rattle.kb_changes.specs.Change.{do_change, done, request_at, requests_of, replies_of}
use Rattle.kb_changes.specs.Groups.{run_of}
use Rattle.kb_changes.specs.declared.change.Change.{Change}
use Rattle.kb_changes.specs.declared.change.Change.TheVariants as changes
use Rattle.kb_again.specs.Sparing.{areas_of}
use Rattle.kb_again.specs.Within.{IsWithin, IsBetween}
use Rattle.kb_machine.specs.Aside.{IsOneArea}
use Rattle.kb_machine.specs.Behind.{RanFront}
use Rattle.kb_machine.proofs.BehindLaws.{front_all, front_first, front_then}
use Rattle.kb_machine.proofs.AsideThenLaws.{member_left, member_right, all_members, all_append, all_wider, left_by_members}
use Rattle.kb_walk.proofs.WipeCalls.{done_not_failed}
use Rattle.kb_intent.specs.Doing.{DoesChange, LeftWithin, said_by, asked_by, AreChanged, IsCutOffNow, DoesChanges}
use Rattle.kb_intent.specs.declared.changing.Ran.{Ran}

-- ---- one change more, told by definitions

done_more : (roots : Roots) (script : Script) (front : List Change) (change : Change) (tree : Tree) → done roots script (front ++ change ∷ []) tree ≡ do_change roots script change (done roots script front tree)
done_more roots script front change tree = fold-append (λ now c. do_change roots script c now) tree front (change ∷ [])

-- the requests of some changes, and of those behind them
requests_both : (roots : Roots) (script : Script) (front back : List Change) (tree : Tree)
    → requests_of roots script (front ++ back) tree ≡ requests_of roots script front tree ++ requests_of roots script back (done roots script front tree)
requests_both roots script [] back tree = refl
requests_both roots script (c ∷ front) back tree =
    ap (λ r. request_at c tree ++ r) (requests_both roots script front back (do_change roots script c tree))
    ∙ sym (append_assoc (request_at c tree) (requests_of roots script front (do_change roots script c tree)) (requests_of roots script back (done roots script front (do_change roots script c tree))))

requests_more : (roots : Roots) (script : Script) (front : List Change) (change : Change) (tree : Tree)
    → requests_of roots script (front ++ change ∷ []) tree ≡ requests_of roots script front tree ++ request_at change (done roots script front tree)
requests_more roots script front change tree =
    requests_both roots script front (change ∷ []) tree ∙ ap (λ r. requests_of roots script front tree ++ r) (append-nil (request_at change (done roots script front tree)))

abbrev answers_of : Roots → Script → Change → Tree → List Reply
answers_of roots script change tree = map (λ request. (answer_in roots script request tree).reply) (request_at change tree)

replies_more : (roots : Roots) (script : Script) (front : List Change) (change : Change) (tree : Tree)
    → replies_of roots script (front ++ change ∷ []) tree ≡ replies_of roots script front tree ++ answers_of roots script change (done roots script front tree)
replies_more roots script [] change tree = append-nil (answers_of roots script change tree)
replies_more roots script (c ∷ front) change tree =
    ap (λ r. answers_of roots script c tree ++ r) (replies_more roots script front change (do_change roots script c tree))
    ∙ sym (append_assoc (answers_of roots script c tree) (replies_of roots script front (do_change roots script c tree)) (answers_of roots script change (done roots script front (do_change roots script c tree))))

-- a run that has a reply was made
module _ (answered : Request → Reply) where
  one_made : (b : Bool) (request : Request) (reply : Option Reply) → said_by reply ≡ map answered (cond b (request ∷ []) []) → asked_by (changes.Run request) reply ≡ cond b (request ∷ []) []
  one_made true request None said = let impossible : [] ≡ answered request ∷ [] = said in absurd (cc)
  one_made true request (Some reply) said = refl
  one_made false request None said = refl
  one_made false request (Some reply) said = let impossible : reply ∷ [] ≡ [] = said in absurd (cc)

  none_made : (change : Change) (reply : Option Reply) → said_by reply ≡ [] → asked_by change reply ≡ []
  none_made change None said = refl
  none_made change (Some reply) said = let impossible : reply ∷ [] ≡ [] = said in absurd (cc)

  pub asked_made : (change : Change) (reply : Option Reply) (tree : Tree) → said_by reply ≡ map answered (request_at change tree) → asked_by change reply ≡ request_at change tree
  asked_made (changes.Run request) reply tree said = one_made (is_dir (node_at tree request.dir)) request reply said
  asked_made (changes.Dir path) reply tree said = none_made (changes.Dir path) reply said
  asked_made (changes.Put root number target) reply tree said = none_made (changes.Put root number target) reply said
  asked_made (changes.Drop path) reply tree said = none_made (changes.Drop path) reply said
  asked_made (changes.DropDir path) reply tree said = none_made (changes.DropDir path) reply said
  asked_made (changes.Wipe path) reply tree said = none_made (changes.Wipe path) reply said

areas_more : (front : List Change) (change : Change) → areas_of (front ++ change ∷ []) ≡ areas_of front ++ areas_of (change ∷ [])
areas_more front change =
    ap (map (λ request. request.area)) (filter_map-append run_of front (change ∷ [])) ∙ map-append (λ (request : Request). request.area) (filter_map run_of front) (filter_map run_of (change ∷ []))

-- ---- so many are done

pub record HasDone (roots : Roots) (front : List Change) (changes : List Change) (old now : State) (made : Ran) : Type 0 where
  pub done : ForSome old.tree (AreChanged roots front old now made)
  pub soft : AllByRecursion (λ area. IsOneArea area (areas_of front ++ old.history.soft)) now.history.soft
  pub moments : ForSome old.tree (λ tree. Adds (IsBetween roots old.script changes old.history.soft tree) old.history now.history)
  pub lasts : Lasts old now
  pub later : old.faults ≤ now.faults
  pub steady : IsTrue old.steady → IsTrue now.steady

pub done_none : (roots : Roots) (changes : List Change) (state : State) (made : Ran) → made.requests ≡ [] → made.replies ≡ [] → HasDone roots [] changes state state made
done_none roots changes state made unasked unsaid = record {
  done = λ tree told. record { tree = told; ran = sym (append-nil state.ran); requests = unasked; said = unsaid };
  soft = all_members state.history.soft state.history.soft (λ area one. one);
  moments = λ tree told. adds_none _ state.history state.history refl;
  lasts = record { roots = refl; script = refl; told = refl };
  later = omega arith;
  steady = λ is. is;
}

-- what is soft behind one change more
module _ (front back : List Change) (change : Change) (soft now : List Area) (all : AllByRecursion (λ area. IsOneArea area (areas_of front ++ soft)) now) where
  abbrev grown : List Area
  grown = areas_of (front ++ change ∷ []) ++ soft

  in_grown : (area : Area) → IsOneArea area (areas_of front ++ soft) → IsOneArea area grown
  in_grown area one =
      subst (λ l. IsOneArea area (l ++ soft)) (sym (areas_more front change)) (spread (areas_of front) one)
    where
      spread : (xs : List Area) → IsOneArea area (xs ++ soft) → IsOneArea area ((xs ++ areas_of (change ∷ [])) ++ soft)
      spread [] one = member_right area (areas_of (change ∷ [])) soft one
      spread (x ∷ xs) (inl here) = inl here
      spread (x ∷ xs) (inr later) = inr (spread xs later)

  own_in_grown : (area : Area) → IsOneArea area (areas_of (change ∷ [])) → IsOneArea area grown
  own_in_grown area one = subst (λ l. IsOneArea area (l ++ soft)) (sym (areas_more front change)) (member_left area (areas_of front ++ areas_of (change ∷ [])) soft (member_right area (areas_of front) (areas_of (change ∷ [])) one))

  now_in_grown : AllByRecursion (λ area. IsOneArea area grown) now
  now_in_grown = all_wider (λ area. IsOneArea area (areas_of front ++ soft)) (λ area. IsOneArea area grown) now in_grown all

  pub more_in_grown : AllByRecursion (λ area. IsOneArea area grown) (areas_of (change ∷ []) ++ now)
  more_in_grown = all_append (λ area. IsOneArea area grown) (areas_of (change ∷ [])) now (all_members (areas_of (change ∷ [])) grown own_in_grown) now_in_grown

  pub soft_more : (new : List Area) → (new ≡ now) ⊎ (new ≡ areas_of (change ∷ []) ++ now) → AllByRecursion (λ area. IsOneArea area grown) new
  soft_more new (inl same) = subst (AllByRecursion (λ area. IsOneArea area grown)) (sym same) now_in_grown
  soft_more new (inr given) = subst (AllByRecursion (λ area. IsOneArea area grown)) (sym given) more_in_grown

-- which children ran: those of some changes, and then a front of those behind them
module _ (roots : Roots) (script : Script) (front back changes : List Change) (split : front ++ back ≡ changes) (tree : Tree) (old new : State) where
  abbrev so_far : List Request
  so_far = requests_of roots script front tree

  abbrev to_come : List Request
  to_come = requests_of roots script back (done roots script front tree)

  all_requests : so_far ++ to_come ≡ requests_of roots script changes tree
  all_requests = sym (requests_both roots script front back tree) ∙ ap (λ cs. requests_of roots script cs tree) split

  front_ran : new.ran ≡ old.ran ++ so_far → RanFront (requests_of roots script changes tree) old new
  front_ran ran = subst (λ requests. RanFront requests old new) all_requests (front_first so_far to_come old new (front_all so_far old new ran))

  more_ran : (mid : State) → mid.ran ≡ old.ran ++ so_far → RanFront to_come mid new → RanFront (requests_of roots script changes tree) old new
  more_ran mid ran r = subst (λ requests. RanFront requests old new) all_requests (front_then so_far to_come old mid new ran r)

-- the next change, done or stopped
module _ (roots : Roots) (front back : List Change) (change : Change) (changes : List Change) (split : front ++ change ∷ back ≡ changes) (old now new : State) (made : Ran)
    (result : Result (Option Reply) WorldError) (h : HasDone roots front changes old now made) (d : DoesChange roots change now new result) where
  next_moments : ForSome old.tree (λ tree. Adds (IsBetween roots old.script changes old.history.soft tree) old.history new.history)
  next_moments tree told =
      let before = (h.done tree told).tree in
      adds_then _ old.history now.history new.history (h.moments tree told)
      (adds_wider (LeftWithin roots now.script change now.history.soft (done roots old.script front tree)) (IsBetween roots old.script changes old.history.soft tree) now.history new.history
      (λ image left. record {
        front = front;
        back = change ∷ back;
        split = split;
        mid = left.mid;
        within = subst (λ script. IsWithin roots script change (done roots old.script front tree) left.mid) h.lasts.script left.within;
        left = left_by_members (areas_of (change ∷ []) ++ now.history.soft) (areas_of (front ++ change ∷ []) ++ old.history.soft) left.mid image
            (more_in_grown front back change old.history.soft now.history.soft h.soft) left.left;
      }) (d.moments (done roots old.script front tree) before))

  next_soft : AllByRecursion (λ area. IsOneArea area (areas_of (front ++ change ∷ []) ++ old.history.soft)) new.history.soft
  next_soft = soft_more front back change old.history.soft now.history.soft h.soft new.history.soft d.soft

  -- what is soft is among the areas of all
  all_soft : AllByRecursion (λ area. IsOneArea area (areas_of changes ++ old.history.soft)) new.history.soft
  all_soft = subst (λ cs. AllByRecursion (λ area. IsOneArea area (areas_of cs ++ old.history.soft)) new.history.soft) (regrouped ∙ split)
      (all_wider (λ area. IsOneArea area (areas_of (front ++ change ∷ []) ++ old.history.soft)) (λ area. IsOneArea area (areas_of ((front ++ change ∷ []) ++ back) ++ old.history.soft)) new.history.soft wider next_soft)
    where
      regrouped : (front ++ change ∷ []) ++ back ≡ front ++ change ∷ back
      regrouped = append_assoc front (change ∷ []) back

      areas_both : areas_of ((front ++ change ∷ []) ++ back) ≡ areas_of (front ++ change ∷ []) ++ areas_of back
      areas_both = ap (map (λ request. request.area)) (filter_map-append run_of (front ++ change ∷ []) back) ∙ map-append (λ (request : Request). request.area) (filter_map run_of (front ++ change ∷ [])) (filter_map run_of back)

      wider : (area : Area) → IsOneArea area (areas_of (front ++ change ∷ []) ++ old.history.soft) → IsOneArea area (areas_of ((front ++ change ∷ []) ++ back) ++ old.history.soft)
      wider area one = subst (λ l. IsOneArea area (l ++ old.history.soft)) (sym areas_both) (spread (areas_of (front ++ change ∷ [])) one)
        where
          spread : (xs : List Area) → IsOneArea area (xs ++ old.history.soft) → IsOneArea area ((xs ++ areas_of back) ++ old.history.soft)
          spread [] one = member_right area (areas_of back) old.history.soft one
          spread (x ∷ xs) (inl here) = inl here
          spread (x ∷ xs) (inr later) = inr (spread xs later)

  next_ran : ForSome old.tree (λ tree. RanFront (requests_of roots old.script changes tree) old new)
  next_ran tree told =
      let was = h.done tree told in
      let before : Tree = done roots old.script front tree in
      more_ran roots old.script front (change ∷ back) changes split tree old new now was.ran
      (front_first (request_at change before) (requests_of roots old.script back (do_change roots old.script change before)) now new (d.ran before was.tree))

  next_cut : ForSome old.tree (IsCutOffNow roots old.script changes new.tree)
  next_cut tree told =
      let within = d.within (done roots old.script front tree) (h.done tree told).tree in
      record {
        front = front;
        back = change ∷ back;
        split = split;
        now = within.0;
        told = within.1;
        within = subst (λ script. IsWithin roots script change (done roots old.script front tree) within.0) h.lasts.script within.2;
      }

-- one more is done
pub done_next : (roots : Roots) (front back : List Change) (change : Change) (changes : List Change) → front ++ change ∷ back ≡ changes → (old now new : State) (made more : Ran) (reply : Option Reply)
    → more.requests ≡ made.requests ++ asked_by change reply → more.replies ≡ made.replies ++ said_by reply
    → HasDone roots front changes old now made → DoesChange roots change now new (Ok reply) → HasDone roots (front ++ change ∷ []) changes old new more
done_next roots front back change changes split old now new made more reply asked grown h d = record {
  done = λ tree told.
      let was = h.done tree told in
      let is = d.done (done roots old.script front tree) was.tree in
      record {
        tree = is.tree ∙ ap (λ script. Some (do_change roots script change (done roots old.script front tree))) h.lasts.script ∙ ap Some (sym (done_more roots old.script front change tree));
        ran = is.ran ∙ ap (λ r. r ++ request_at change (done roots old.script front tree)) was.ran
            ∙ append_assoc old.ran (requests_of roots old.script front tree) (request_at change (done roots old.script front tree)) ∙ ap (λ r. old.ran ++ r) (sym (requests_more roots old.script front change tree));
        requests = asked ∙ ap (λ r. r ++ asked_by change reply) was.requests
            ∙ ap (λ r. requests_of roots old.script front tree ++ r) (asked_made (λ request. (answer_in roots now.script request (done roots old.script front tree)).reply) change reply (done roots old.script front tree) is.said)
            ∙ sym (requests_more roots old.script front change tree);
        said = grown ∙ ap (λ r. r ++ said_by reply) was.said ∙ ap (λ r. replies_of roots old.script front tree ++ r) (is.said ∙ ap (λ script. answers_of roots script change (done roots old.script front tree)) h.lasts.script)
            ∙ sym (replies_more roots old.script front change tree);
      };
  soft = next_soft roots front back change changes split old now new made (Ok reply) h d;
  moments = next_moments roots front back change changes split old now new made (Ok reply) h d;
  lasts = lasts_then old now new h.lasts d.lasts;
  later = omega (arith, h.later, d.cause.later);
  steady = λ is. d.cause.steady (h.steady is);
}

-- it stopped
pub stopped_next : (roots : Roots) (front back : List Change) (change : Change) (changes : List Change) → front ++ change ∷ back ≡ changes → (old now new : State) (made : Ran) (error : WorldError)
    → HasDone roots front changes old now made → DoesChange roots change now new (Err error) → DoesChanges roots changes old new (Err error)
stopped_next roots front back change changes split old now new made error h d = record {
  done = λ tree told. tt;
  ran = next_ran roots front back change changes split old now new made (Err error) h d;
  cut_off = next_cut roots front back change changes split old now new made (Err error) h d;
  soft = all_soft roots front back change changes split old now new made (Err error) h d;
  moments = next_moments roots front back change changes split old now new made (Err error) h d;
  lasts = lasts_then old now new h.lasts d.lasts;
  cause = handed error d.cause;
}
  where
    failed_also : (error : WorldError) → IsErrOf {T = Ran} (Err error) Failed → IsErrOf {T = Option Reply} (Err error) Failed
    failed_also Failed e = refl
    failed_also NoMemory e = let impossible : stops NoMemory ≡ stops Failed = e in cc
      where
        stops : WorldError → Result Ran WorldError
        stops error = Err error

    handed : (error : WorldError) → HasCause {T = Option Reply} Failed now new (Err error) → HasCause {T = Ran} Failed old new (Err error)
    handed error c = record {
      later = omega (arith, h.later, c.later);
      rose = λ failed. rose_since old.faults now.faults new.faults h.later (c.rose (failed_also error failed));
      steady = λ is. c.steady (h.steady is);
      never = λ told is failed. c.never (h.lasts.told ∙ told) (h.steady is) (failed_also error failed);
    }

-- all are done, or memory ran out behind one
module _ (roots : Roots) (front back changes : List Change) (split : front ++ back ≡ changes) (old now : State) (made : Ran) (h : HasDone roots front changes old now made) where
  behind_soft : AllByRecursion (λ area. IsOneArea area (areas_of changes ++ old.history.soft)) now.history.soft
  behind_soft = subst (λ cs. AllByRecursion (λ area. IsOneArea area (areas_of cs ++ old.history.soft)) now.history.soft) split
      (all_wider (λ area. IsOneArea area (areas_of front ++ old.history.soft)) (λ area. IsOneArea area (areas_of (front ++ back) ++ old.history.soft)) now.history.soft wider h.soft)
    where
      areas_both : areas_of (front ++ back) ≡ areas_of front ++ areas_of back
      areas_both = ap (map (λ request. request.area)) (filter_map-append run_of front back) ∙ map-append (λ (request : Request). request.area) (filter_map run_of front) (filter_map run_of back)

      wider : (area : Area) → IsOneArea area (areas_of front ++ old.history.soft) → IsOneArea area (areas_of (front ++ back) ++ old.history.soft)
      wider area one = subst (λ l. IsOneArea area (l ++ old.history.soft)) (sym areas_both) (spread (areas_of front) one)
        where
          spread : (xs : List Area) → IsOneArea area (xs ++ old.history.soft) → IsOneArea area ((xs ++ areas_of back) ++ old.history.soft)
          spread [] one = member_right area (areas_of back) old.history.soft one
          spread (x ∷ xs) (inl here) = inl here
          spread (x ∷ xs) (inr later) = inr (spread xs later)

-- all are done
pub done_all : (roots : Roots) (front changes : List Change) → front ≡ changes → (old now : State) (made : Ran) → HasDone roots front changes old now made → DoesChanges roots changes old now (Ok made)
done_all roots front changes all old now made h = record {
  done = λ tree told. subst (λ cs. AreChanged roots cs old now made tree) all (h.done tree told);
  ran = λ tree told. front_ran roots old.script front [] changes (append-nil front ∙ all) tree old now (h.done tree told).ran;
  cut_off = λ tree told. record { front = front; back = []; split = append-nil front ∙ all; now = done roots old.script front tree; told = (h.done tree told).tree; within = refl };
  soft = behind_soft roots front [] changes (append-nil front ∙ all) old now made h;
  moments = h.moments;
  lasts = h.lasts;
  cause = record { later = h.later; rose = λ failed. absurd (done_not_failed made failed); steady = h.steady; never = λ told is failed. done_not_failed made failed };
}

-- ---- the loop

-- the changes before an item, it, and those behind
module _ (changes : List Change) (i : ℕ) (change : Change) (within : i < length changes) (is : change ≡ get_or changes i change) where
  pub split_here : take i changes ++ change ∷ drop (i + 1) changes ≡ changes
  split_here = sym (ap (λ l. take i changes ++ l) (at_drop_more (λ l. l) changes i change within ∙ ap (λ c. c ∷ drop (i + 1) changes) (sym is))) ∙ take-append-drop i changes

  pub one_longer : take (i + 1) changes ≡ take i changes ++ change ∷ []
  one_longer =
      let long : length (take i changes) + 1 ≡ i + 1 = ap (λ n. n + 1) (length-take-le i changes (omega (arith, within))) in
      sym (ap (take (i + 1)) split_here) ∙ ap (λ n. take n (take i changes ++ change ∷ drop (i + 1) changes)) (sym long) ∙ take-append-add (take i changes) (change ∷ drop (i + 1) changes) 1

module _ (roots : Roots) (changes : List Change) (i : ℕ) (change : Change) (within : i < length changes) (is : change ≡ get_or changes i change) (old now new : State) (made : Ran)
    (h : HasDone roots (take i changes) changes old now made) where
  pub loop_more : (reply : Option Reply) (more : Ran) → more.requests ≡ made.requests ++ asked_by change reply → more.replies ≡ made.replies ++ said_by reply → DoesChange roots change now new (Ok reply)
      → HasDone roots (take (i + 1) changes) changes old new more
  loop_more reply more asked grown d =
      subst (λ front. HasDone roots front changes old new more) (sym (one_longer changes i change within is))
      (done_next roots (take i changes) (drop (i + 1) changes) change changes (split_here changes i change within is) old now new made more reply asked grown h d)

  pub loop_stopped : (error : WorldError) → DoesChange roots change now new (Err error) → DoesChanges roots changes old new (Err error)
  loop_stopped error d = stopped_next roots (take i changes) (drop (i + 1) changes) change changes (split_here changes i change within is) old now new made error h d

  -- memory ran out for what is told of it
  pub loop_wanting : (reply : Option Reply) → DoesChange roots change now new (Ok reply) → DoesChanges roots changes old new (Err NoMemory)
  loop_wanting reply d =
      let more : Ran = record { requests = made.requests ++ asked_by change reply; replies = made.replies ++ said_by reply } in
      let g = done_next roots (take i changes) (drop (i + 1) changes) change changes (split_here changes i change within is) old now new made more reply refl refl h d in
      let split : (take i changes ++ change ∷ []) ++ drop (i + 1) changes ≡ changes = append_assoc (take i changes) (change ∷ []) (drop (i + 1) changes) ∙ split_here changes i change within is in
      record {
        done = λ tree told. tt;
        ran = next_ran roots (take i changes) (drop (i + 1) changes) change changes (split_here changes i change within is) old now new made (Ok reply) h d;
        cut_off = next_cut roots (take i changes) (drop (i + 1) changes) change changes (split_here changes i change within is) old now new made (Ok reply) h d;
        soft = behind_soft roots (take i changes ++ change ∷ []) (drop (i + 1) changes) changes split old new more g;
        moments = g.moments;
        lasts = g.lasts;
        cause = record { later = g.later; rose = λ failed. absurd (wanting failed); steady = g.steady; never = λ told is failed. wanting failed };
      }
    where
      stops : WorldError → Result Ran WorldError
      stops error = Err error

      wanting : stops NoMemory ≡ stops Failed → ⊥
      wanting e = cc

pub loop_all : (roots : Roots) (changes : List Change) (i : ℕ) (old now : State) (made : Ran) → length changes ≤ i → HasDone roots (take i changes) changes old now made → DoesChanges roots changes old now (Ok made)
loop_all roots changes i old now made all h = done_all roots (take i changes) changes (take_all i changes all) old now made h
