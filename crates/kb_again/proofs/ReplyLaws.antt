-- What the changes' children are asked and answer is what the runs behind the groups are.
use Rattle.std.proofs.Common.{◌≡◌, Bool, true, false, cond, List, [], ◌∷◌, ◌++◌, map, refl, ap, ◌∙◌}
use Rattle.kb_world.specs.Script.{Script, answer_in}
use Rattle.kb_world.specs.Tree.{Tree, node_at, is_dir}
use Rattle.kb_world.specs.declared.child.Reply.{Reply}
use Rattle.kb_world.specs.declared.child.Request.{Request}
use Rattle.kb_world.specs.declared.roots.Roots.{Roots}
use Rattle.kb_changes.specs.Change.{do_change, requests_of, replies_of}
use Rattle.kb_changes.specs.Valid.{is_valid}
use Rattle.kb_changes.specs.declared.change.Change.{Change}
use Rattle.kb_changes.specs.declared.change.Change.TheVariants.{Dir, Put, Drop, DropDir, Wipe, Run}
use Rattle.kb_again.proofs.ChangeLaws.{change_same, steps_are}
use Rattle.kb_again.proofs.Facts.{lists_of, groups_of}
use Rattle.kb_again.proofs.Flat.{Act, do_act, do_acts, acts_of}
use Rattle.kb_again.proofs.FrontLaws.{all_done}
use Rattle.kb_again.proofs.Parts.{groups_done}
use Rattle.kb_again.proofs.Steps.{Step, act, run, step_of, run_request, run_replies, runs_made}

abbrev asked : Request → Tree → List Request
asked c t = cond (is_dir (node_at t c.dir)) (c ∷ []) []

abbrev reply_to : Roots → Script → Tree → Request → Reply
reply_to r f t c = (answer_in r f c t).reply

step_requests : Script → Roots → List Step → Tree → List Request
step_requests f r [] t = []
step_requests f r (act c ∷ xs) t = step_requests f r xs (do_act c t)
step_requests f r (run c ∷ xs) t = asked c t ++ step_requests f r xs (run_request f r c t)

step_replies : Script → Roots → List Step → Tree → List Reply
step_replies f r [] t = []
step_replies f r (act c ∷ xs) t = step_replies f r xs (do_act c t)
step_replies f r (run c ∷ xs) t = map (reply_to r f t) (asked c t) ++ step_replies f r xs (run_request f r c t)

requests_are : (r : Roots) (f : Script) (cs : List Change) (t : Tree) → requests_of r f cs t ≡ step_requests f r (map (step_of r) cs) t
unfolding step_requests
requests_are r f [] t = refl
requests_are r f (Dir path ∷ cs) t = requests_are r f cs (do_change r f (Dir path) t)
requests_are r f (Put name number target ∷ cs) t = requests_are r f cs (do_change r f (Put name number target) t)
requests_are r f (Drop path ∷ cs) t = requests_are r f cs (do_change r f (Drop path) t)
requests_are r f (DropDir path ∷ cs) t = requests_are r f cs (do_change r f (DropDir path) t)
requests_are r f (Wipe path ∷ cs) t = requests_are r f cs (do_change r f (Wipe path) t)
requests_are r f (Run request ∷ cs) t =
    ap (λ l. asked request t ++ l)
    (ap (requests_of r f cs) (change_same r f (Run request) t) ∙ requests_are r f cs (run_request f r request t))

replies_are : (r : Roots) (f : Script) (cs : List Change) (t : Tree) → replies_of r f cs t ≡ step_replies f r (map (step_of r) cs) t
unfolding step_replies
replies_are r f [] t = refl
replies_are r f (Dir path ∷ cs) t = replies_are r f cs (do_change r f (Dir path) t)
replies_are r f (Put name number target ∷ cs) t = replies_are r f cs (do_change r f (Put name number target) t)
replies_are r f (Drop path ∷ cs) t = replies_are r f cs (do_change r f (Drop path) t)
replies_are r f (DropDir path ∷ cs) t = replies_are r f cs (do_change r f (DropDir path) t)
replies_are r f (Wipe path ∷ cs) t = replies_are r f cs (do_change r f (Wipe path) t)
replies_are r f (Run request ∷ cs) t =
    ap (λ l. map (reply_to r f t) (asked request t) ++ l)
    (ap (replies_of r f cs) (change_same r f (Run request) t) ∙ replies_are r f cs (run_request f r request t))

-- acts ask for nothing
acts_then : (f : Script) (r : Roots) (acts : List Act) (xs : List Step) (t : Tree)
    → step_requests f r (map act acts ++ xs) t ≡ step_requests f r xs (do_acts acts t)
unfolding step_requests
acts_then f r [] xs t = refl
acts_then f r (c ∷ acts) xs t = acts_then f r acts xs (do_act c t)

acts_then_replies : (f : Script) (r : Roots) (acts : List Act) (xs : List Step) (t : Tree)
    → step_replies f r (map act acts ++ xs) t ≡ step_replies f r xs (do_acts acts t)
unfolding step_replies
acts_then_replies f r [] xs t = refl
acts_then_replies f r (c ∷ acts) xs t = acts_then_replies f r acts xs (do_act c t)

runs_ask : (f : Script) (r : Roots) (cs : List Request) (t : Tree) → step_requests f r (map run cs) t ≡ runs_made f r cs t
unfolding step_requests
runs_ask f r [] t = refl
runs_ask f r (c ∷ cs) t =
    ap (λ l. asked c t ++ l) (runs_ask f r cs (run_request f r c t))
    ∙ by (is_dir (node_at t c.dir)) (runs_made f r cs (run_request f r c t))
  where
    by : (b : Bool) (l : List Request) → cond b (c ∷ []) [] ++ l ≡ cond b (c ∷ l) l
    by true l = refl
    by false l = refl

runs_reply : (f : Script) (r : Roots) (cs : List Request) (t : Tree) → step_replies f r (map run cs) t ≡ run_replies f r cs t
unfolding step_replies
runs_reply f r [] t = refl
runs_reply f r (c ∷ cs) t =
    ap (λ l. map (reply_to r f t) (asked c t) ++ l) (runs_reply f r cs (run_request f r c t))
    ∙ by (is_dir (node_at t c.dir)) (run_replies f r cs (run_request f r c t))
  where
    by : (b : Bool) (l : List Reply) → map (reply_to r f t) (cond b (c ∷ []) []) ++ l ≡ cond b (reply_to r f t c ∷ l) l
    by true l = refl
    by false l = refl

pub requests_made : (r : Roots) (f : Script) (cs : List Change) (t : Tree) → is_valid r cs ≡ true
    → requests_of r f cs t ≡ runs_made f r (lists_of cs).runs (groups_done (groups_of r (lists_of cs)) t)
requests_made r f cs t valid =
    let s = lists_of cs in
    requests_are r f cs t ∙ ap (λ xs. step_requests f r xs t) (steps_are r cs valid)
    ∙ acts_then f r (acts_of (groups_of r s)) (map run s.runs) t ∙ ap (step_requests f r (map run s.runs)) (all_done (groups_of r s) t)
    ∙ runs_ask f r s.runs (groups_done (groups_of r s) t)

pub replies_made : (r : Roots) (f : Script) (cs : List Change) (t : Tree) → is_valid r cs ≡ true
    → replies_of r f cs t ≡ run_replies f r (lists_of cs).runs (groups_done (groups_of r (lists_of cs)) t)
replies_made r f cs t valid =
    let s = lists_of cs in
    replies_are r f cs t ∙ ap (λ xs. step_replies f r xs t) (steps_are r cs valid)
    ∙ acts_then_replies f r (acts_of (groups_of r s)) (map run s.runs) t
    ∙ ap (step_replies f r (map run s.runs)) (all_done (groups_of r s) t)
    ∙ runs_reply f r s.runs (groups_done (groups_of r s) t)
