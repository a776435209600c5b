-- One step more, and one move more.
use Rattle.std.proofs.Common.{◌≡◌, ℕ, ◌+◌, ◌<◌, List, [], ◌∷◌, ◌++◌, Bool, length, take, get_or, Option, None, Some, IfSome, Result, Ok, Err, OnOk, OnErr, IsErrOf, refl, sym, ap, ◌∙◌, subst, append_assoc, append-nil}
use Rattle.std.proofs.lemmas.List.{take_more}
use Rattle.step_core.specs.declared.machine.Move.{Move}
use Rattle.step_core.specs.declared.steps.Did.{Did}
use Rattle.step_core.specs.declared.steps.Fault.{Fault}
use Rattle.step_core.specs.declared.steps.Fault.TheVariants as fault
use Rattle.step_core.specs.declared.steps.Request.{Request}
use Rattle.step_core.specs.declared.steps.Step.{Step}
use Rattle.step_core.specs.declared.worlds.relayout.RelayoutFault.{RelayoutFault}
use Rattle.lock_word.specs.declared.Split.{Split}
use Rattle.step_core.specs.Machine.{State, Run, opening}
use Rattle.step_core.specs.Shown.{shown}
use Rattle.step_core.specs.Step.{AfterStep, step_of, moves_made}
use Rattle.step_core.specs.Relayout.{AfterRelayout, after_relayout}
use Rattle.step_core.specs.Requests.{world_then, moves_then, moves_after, world_after}
use Rattle.step_core.specs.World.{WorldState, opening_world}
use Rattle.history.specs.Histories.{move_text, moves_text, steps_in, objects_text, first_world, HasMemory, HaveMemory, TellsOne, Tells, IsHistoryOf}
use Rattle.history.specs.Plans.{IsPlanOf}
use Rattle.history.specs.declared.plans.Plan.{Plan}
use Rattle.text_streams.specs.declared.faults.FileFault.{FileFault}
use Rattle.std.specs.Io.KnownBytes.{Appends}

-- ---- moves

moves_text-append : (ms ns : List Move) → moves_text (ms ++ ns) ≡ moves_text ms ++ moves_text ns
moves_text-append [] ns = refl
moves_text-append (m ∷ ms) ns = ap (λ (l : List ℕ). move_text m ++ l) (moves_text-append ms ns) ∙ sym (append_assoc (move_text m) (moves_text ms) (moves_text ns))

moves_made-append : (xs ys : List (Option Move)) → moves_made (xs ++ ys) ≡ moves_made xs ++ moves_made ys
moves_made-append [] ys = refl
moves_made-append (None ∷ xs) ys = moves_made-append xs ys
moves_made-append (Some m ∷ xs) ys = ap (λ (l : List Move). m ∷ l) (moves_made-append xs ys)

pub move_more : (old mid new : List ℕ) (xs : List (Option Move)) (i : ℕ) (d : Option Move) → i < length xs
    → mid ≡ old ++ moves_text (moves_made (take i xs)) → new ≡ mid ++ moves_text (moves_made (get_or xs i d ∷ []))
    → new ≡ old ++ moves_text (moves_made (take (i + 1) xs))
move_more old mid new xs i d within e f =
    f ∙ ap (λ (l : List ℕ). l ++ moves_text (moves_made (get_or xs i d ∷ []))) e
    ∙ append_assoc old (moves_text (moves_made (take i xs))) (moves_text (moves_made (get_or xs i d ∷ [])))
    ∙ ap (λ (l : List ℕ). old ++ l) (sym (moves_text-append (moves_made (take i xs)) (moves_made (get_or xs i d ∷ []))))
    ∙ ap (λ (l : List Move). old ++ moves_text l) (sym (moves_made-append (take i xs) (get_or xs i d ∷ [])))
    ∙ ap (λ (l : List (Option Move)). old ++ moves_text (moves_made l)) (sym (take_more xs i d within))

-- ---- steps

pub steps_in-append : (ts us : List (Request × Bool)) → steps_in (ts ++ us) ≡ steps_in ts ++ steps_in us
steps_in-append [] us = refl
steps_in-append (t ∷ ts) us = ap (λ (l : List Request). t.0 ∷ l) (steps_in-append ts us)

pub world_after-one : (ts : List (Request × Bool)) (w : WorldState) (t : Request × Bool) → world_after w (ts ++ t ∷ []) ≡ world_then (world_after w ts) t
world_after-one [] w t = refl
world_after-one (u ∷ ts) w t = world_after-one ts (world_then w u) t

pub moves_after-one : (ts : List (Request × Bool)) (w : WorldState) (t : Request × Bool) → moves_after w (ts ++ t ∷ []) ≡ moves_after w ts ++ moves_then (world_after w ts) t
moves_after-one [] w t = append-nil (moves_then w t)
moves_after-one (u ∷ ts) w t =
    ap (λ (l : List Move). moves_then w u ++ l) (moves_after-one ts (world_then w u) t)
    ∙ sym (append_assoc (moves_then w u) (moves_after (world_then w u) ts) (moves_then (world_after (world_then w u) ts) t))

pub memory-one : (ts : List (Request × Bool)) (w : WorldState) (t : Request × Bool) → HaveMemory w ts → HasMemory (world_after w ts) t → HaveMemory w (ts ++ t ∷ [])
memory-one [] w t p q = (q, tt)
memory-one (u ∷ ts) w t p q = (p.0, memory-one ts (world_then w u) t p.1 q)

pub Run-append : (ms ns : List Move) (a b c : State) → Run a ms b → Run b ns c → Run a (ms ++ ns) c
Run-append [] ns a b c p q = subst (λ (s : State). Run s ns c) p q
Run-append (m ∷ ms) ns a b c p q = (p.0, p.1, Run-append ms ns p.0 b c p.2 q)

-- what a step answered, and the world that it left
abbrev pub Stepped : WorldState → Step → Result Did Fault → WorldState → Type 0
Stepped v s answer u = (room : Bool) × (◌≡◌ {A = AfterStep} (record { answer = answer; after = u }) (step_of room v s))

-- and a relayout
abbrev pub Relaid : WorldState → Split → Result ℕ RelayoutFault → WorldState → Type 0
Relaid v s answer u = (room : Bool) × (◌≡◌ {A = AfterRelayout} (record { answer = answer; after = u }) (after_relayout room v s))

pub Tells-one : (w v u : WorldState) (rs : List Request) (r : Request) (old mid new : List ℕ) → Tells w rs v old mid → TellsOne v r u mid new → Tells w (rs ++ r ∷ []) u old new
Tells-one w v u rs r old mid new t one =
    let moves : moves_then (world_after w t.done) (r, one.room) ≡ moves_then v (r, one.room) = ap (λ (x : WorldState). moves_then x (r, one.room)) (sym t.leads) in
    let all : moves_after w (t.done ++ (r, one.room) ∷ []) ≡ moves_after w t.done ++ moves_then v (r, one.room) =
    moves_after-one t.done w (r, one.room) ∙ ap (λ (l : List Move). moves_after w t.done ++ l) moves in
    record {
      done = t.done ++ (r, one.room) ∷ [];
      these = steps_in-append t.done ((r, one.room) ∷ []) ∙ ap (λ (l : List Request). l ++ r ∷ []) t.these;
      memory = memory-one t.done w (r, one.room) t.memory (subst (λ (x : WorldState). HasMemory x (r, one.room)) t.leads one.memory);
      leads = one.leads ∙ ap (λ (x : WorldState). world_then x (r, one.room)) t.leads ∙ sym (world_after-one t.done w (r, one.room));
      run = subst (λ (ms : List Move). Run (shown w) ms (shown u)) (sym all)
          (Run-append (moves_after w t.done) (moves_then v (r, one.room)) (shown w) (shown v) (shown u) t.run one.run);
      text = one.text ∙ ap (λ (l : List ℕ). l ++ moves_text (moves_then v (r, one.room))) t.text
          ∙ append_assoc old (moves_text (moves_after w t.done)) (moves_text (moves_then v (r, one.room)))
          ∙ ap (λ (l : List ℕ). old ++ l) (sym (moves_text-append (moves_after w t.done) (moves_then v (r, one.room))))
          ∙ ap (λ (l : List Move). old ++ moves_text l) (sym all);
    }

pub Tells-next : (w v u : WorldState) (rs : List Request) (i : ℕ) (d : Request) (old mid new : List ℕ) → i < length rs → Tells w (take i rs) v old mid
    → TellsOne v (get_or rs i d) u mid new → Tells w (take (i + 1) rs) u old new
Tells-next w v u rs i d old mid new within t one = rw (take_more rs i d within) (Tells-one w v u (take i rs) (get_or rs i d) old mid new t one)

-- ---- the history of a script

told_from_first : (plan : Plan) (v : WorldState) (old new : List ℕ) (steps : List Request) → old ≡ objects_text (length plan.lows.items) → shown (first_world plan) ≡ opening (length plan.lows.items)
    → steps ≡ plan.steps.items → Tells (first_world plan) steps v old new → IsHistoryOf plan new
told_from_first plan v old new steps began opens same t = record {
  done = t.done;
  these = t.these ∙ same;
  memory = t.memory;
  text = t.text ∙ ap (λ (l : List ℕ). l ++ moves_text (moves_after (first_world plan) t.done)) began;
  run = subst (λ (x : State). Run x (moves_after (first_world plan) t.done) (shown (world_after (first_world plan) t.done))) opens
      (subst (λ (x : WorldState). Run (shown (first_world plan)) (moves_after (first_world plan) t.done) (shown x)) t.leads t.run);
}

pub told_all : (plan : Plan) (lows : List ℕ) (w v : WorldState) (old new : List ℕ) (steps : List Request) → lows ≡ plan.lows.items → w ≡ opening_world lows plan.monitors plan.indices plan.split
    → shown w ≡ opening (length lows) → old ≡ objects_text (length plan.lows.items) → steps ≡ plan.steps.items → Tells w steps v old new → IsHistoryOf plan new
told_all plan lows w v old new steps same opened opens began these t =
    let there : w ≡ first_world plan = opened ∙ ap (λ (l : List ℕ). opening_world l plan.monitors plan.indices plan.split) same in
    told_from_first plan v old new steps began (sym (ap shown there) ∙ opens ∙ ap (λ (l : List ℕ). opening (length l)) same) these (subst (λ (x : WorldState). Tells x steps v old new) there t)

plan_of_left : (left : Option (List ℕ)) (plan : Plan) (read bytes : List ℕ) → IfSome left (λ input. read ≡ input) → bytes ≡ read → IsPlanOf plan bytes → IfSome left (IsPlanOf plan)
plan_of_left None plan read bytes all same is = tt
plan_of_left (Some input) plan read bytes all same is = subst (IsPlanOf plan) (same ∙ all) is

pub text_written : {T : Type 0} (Of : Plan → List ℕ → Type 0) (r : Result T FileFault) (left held holds : Option (List ℕ)) (plan : Plan) (read bytes text history : List ℕ) → IfSome left (λ input. read ≡ input)
    → bytes ≡ read → IsPlanOf plan bytes → Of plan history → text ≡ history → OnOk r (Appends held holds text)
    → OnOk r ((p : Plan) × IfSome left (IsPlanOf p) × (h : List ℕ) × Of p h × Appends held holds h)
text_written Of (Ok x) left held holds plan read bytes text history all same is told e a =
    (plan, plan_of_left left plan read bytes all same is, history, told, subst (λ (l : List ℕ). Appends held holds l) e a)
text_written Of (Err x) left held holds plan read bytes text history all same is told e a = tt

pub text_cut : {T : Type 0} (Of : Plan → List ℕ → Type 0) (r : Result T FileFault) (fault : FileFault) (left held holds : Option (List ℕ)) (plan : Plan) (read bytes text history : List ℕ) → IfSome left (λ input. read ≡ input)
    → bytes ≡ read → IsPlanOf plan bytes → Of plan history → text ≡ history → OnErr r ((n : ℕ) × Appends held holds (take n text))
    → IsErrOf r fault → (p : Plan) × IfSome left (IsPlanOf p) × (h : List ℕ) × Of p h × (n : ℕ) × Appends held holds (take n h)
text_cut Of (Ok x) fault left held holds plan read bytes text history all same is told e a failed = absurd (ok_err x fault failed)
  where
    ok_err : {T : Type 0} (x : T) (f : FileFault) → ◌≡◌ {A = Result T FileFault} (Ok x) (Err f) → ⊥
    ok_err x f e = cc
text_cut Of (Err x) fault left held holds plan read bytes text history all same is told e a failed =
    (plan, plan_of_left left plan read bytes all same is, history, told, a.0, subst (λ (l : List ℕ). Appends held holds (take a.0 l)) e a.1)
