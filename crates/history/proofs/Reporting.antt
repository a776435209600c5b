-- One line of a report more.
use Rattle.std.proofs.Common.{◌≡◌, ℕ, ◌+◌, ◌<◌, ◌≤◌, List, [], ◌∷◌, ◌++◌, Bool, length, take, get_or, Result, Ok, Err, OnOk, sym, ap, ◌∙◌, subst, append_assoc, append-nil}
use Rattle.std.proofs.lemmas.List.{take_all, take_more}
use Rattle.lock_word.specs.declared.Split.{Split}
use Rattle.step_core.specs.declared.steps.Did.{Did}
use Rattle.step_core.specs.declared.steps.Fault.{Fault}
use Rattle.step_core.specs.declared.steps.Fault.TheVariants as fault
use Rattle.step_core.specs.declared.steps.Request.{Request}
use Rattle.step_core.specs.declared.steps.Request.TheVariants as request
use Rattle.step_core.specs.declared.steps.Step.{Step}
use Rattle.step_core.specs.declared.worlds.relayout.RelayoutFault.{RelayoutFault}
use Rattle.step_core.specs.declared.worlds.relayout.RelayoutFault.TheVariants as relayout
use Rattle.step_core.specs.Machine.{Run}
use Rattle.step_core.specs.Relayout.{AfterRelayout}
use Rattle.step_core.specs.Shown.{shown}
use Rattle.step_core.specs.Step.{AfterStep, moves_of}
use Rattle.step_core.specs.Requests.{world_then, world_after}
use Rattle.step_core.specs.World.{WorldState, opening_world}
use Rattle.history.specs.NameLists.{NameLists}
use Rattle.history.specs.Histories.{first_world}
use Rattle.history.specs.Reports.{IsReportOf, ReportsOne, Reports, object_lines, relayout_text, request_text, requests_text, step_text}
use Rattle.history.specs.declared.plans.Plan.{Plan}
use Rattle.history.proofs.Stepping.{Plays-none, Plays-one}
use Rattle.history.proofs.Telling.{Relaid, Stepped}

pub Reports-none : (names : NameLists) (w : WorldState) (old : List ℕ) → Reports names w [] w old old
unfolding Plays-none
Reports-none names w old = record { plays = Plays-none w; text = sym (append-nil old) }

requests_text-one : (ts : List (Request × Bool)) (names : NameLists) (w : WorldState) (t : Request × Bool)
    → requests_text names w (ts ++ t ∷ []) ≡ requests_text names w ts ++ request_text names (world_after w ts) t
requests_text-one [] names w t = append-nil (request_text names w t)
requests_text-one (u ∷ ts) names w t =
    ap (λ (l : List ℕ). request_text names w u ++ l) (requests_text-one ts names (world_then w u) t)
    ∙ sym (append_assoc (request_text names w u) (requests_text names (world_then w u) ts) (request_text names (world_after (world_then w u) ts) t))

Reports-one : (names : NameLists) (w v u : WorldState) (rs : List Request) (r : Request) (old mid new : List ℕ) → Reports names w rs v old mid → ReportsOne names v r u mid new
    → Reports names w (rs ++ r ∷ []) u old new
unfolding Plays-one
Reports-one names w v u rs r old mid new p one = record {
  plays = Plays-one w v u rs r p.plays one.does;
  text = one.text ∙ ap (λ (l : List ℕ). l ++ request_text names v (r, one.does.room)) p.text
      ∙ append_assoc old (requests_text names w p.plays.done) (request_text names v (r, one.does.room))
      ∙ ap (λ (x : WorldState). old ++ (requests_text names w p.plays.done ++ request_text names x (r, one.does.room))) p.plays.leads
      ∙ ap (λ (l : List ℕ). old ++ l) (sym (requests_text-one p.plays.done names w (r, one.does.room)));
}

pub Reports-next : (names : NameLists) (w v u : WorldState) (rs : List Request) (i : ℕ) (d : Request) (old mid new : List ℕ) → i < length rs → Reports names w (take i rs) v old mid
    → ReportsOne names v (get_or rs i d) u mid new → Reports names w (take (i + 1) rs) u old new
Reports-next names w v u rs i d old mid new within p one = rw (take_more rs i d within) (Reports-one names w v u (take i rs) (get_or rs i d) old mid new p one)

pub Reports-all : (names : NameLists) (w v : WorldState) (rs : List Request) (i : ℕ) (old new : List ℕ) → length rs ≤ i → Reports names w (take i rs) v old new → Reports names w rs v old new
Reports-all names w v rs i old new all p = subst (λ (l : List Request). Reports names w l v old new) (take_all i rs all) p

pub report_done : (plan : Plan) (lows : List ℕ) (w v : WorldState) (steps : List Request) (began mid new : List ℕ) → lows ≡ plan.lows.items
    → w ≡ opening_world lows plan.monitors plan.indices plan.split → steps ≡ plan.steps.items → began ≡ [] → Reports plan.names w steps v began mid
    → new ≡ mid ++ object_lines plan.names v (shown v).objects → IsReportOf plan new
report_done plan lows w v steps began mid new same opened these none p objects =
    let there : w ≡ first_world plan = opened ∙ ap (λ (l : List ℕ). opening_world l plan.monitors plan.indices plan.split) same in
    let q : Reports plan.names (first_world plan) plan.steps.items v began mid = subst (λ (x : WorldState). Reports plan.names x plan.steps.items v began mid) there
    (subst (λ (l : List Request). Reports plan.names w l v began mid) these p) in
    record {
      world = v;
      plays = q.plays;
      text = objects ∙ ap (λ (l : List ℕ). l ++ object_lines plan.names v (shown v).objects) (q.text ∙ ap (λ (l : List ℕ). l ++ requests_text plan.names (first_world plan) q.plays.done) none);
    }

-- ---- one step, and one relayout

step_done : (names : NameLists) (v u : WorldState) (s : Step) (old new : List ℕ) (answer : Result Did Fault) → Stepped v s answer u → Run (shown v) (moves_of answer) (shown u)
    → new ≡ old ++ step_text names u s answer → (answer ≡ Err fault.Memory → ⊥) → ReportsOne names v (request.Step s) u old new
step_done names v u s old new answer e run text memory = record {
  does = record {
    room = e.0;
    memory = λ wrong. memory (ap (λ (a : AfterStep). a.answer) e.1 ∙ wrong);
    leads = ap (λ (a : AfterStep). a.after) e.1;
    run = subst (λ (a : AfterStep). Run (shown v) (moves_of a.answer) (shown u)) e.1 run;
  };
  text = text ∙ ap (λ (a : AfterStep). old ++ step_text names a.after s a.answer) e.1;
}

pub step_reported : {T F : Type 0} (r : Result T F) (names : NameLists) (v u : WorldState) (asked : Request) (s : Step) (old new : List ℕ) (answer : Result Did Fault) → asked ≡ request.Step s
    → Stepped v s answer u → Run (shown v) (moves_of answer) (shown u) → OnOk r (new ≡ old ++ step_text names u s answer) → OnOk r (answer ≡ Err fault.Memory → ⊥)
    → OnOk r (ReportsOne names v asked u old new)
step_reported (Ok x) names v u asked s old new answer is e run text memory =
    subst (λ (q : Request). ReportsOne names v q u old new) (sym is) (step_done names v u s old new answer e run text memory)
step_reported (Err x) names v u asked s old new answer is e run text memory = tt

relayout_done : (names : NameLists) (v u : WorldState) (s : Split) (old new : List ℕ) (answer : Result ℕ RelayoutFault) → Relaid v s answer u → shown u ≡ shown v
    → new ≡ old ++ relayout_text s answer → (answer ≡ Err relayout.Memory → ⊥) → ReportsOne names v (request.Relayout s) u old new
relayout_done names v u s old new answer e shows text memory = record {
  does = record {
    room = e.0;
    memory = λ wrong. memory (ap (λ (a : AfterRelayout). a.answer) e.1 ∙ wrong);
    leads = ap (λ (a : AfterRelayout). a.after) e.1;
    run = shows;
  };
  text = text ∙ ap (λ (a : AfterRelayout). old ++ relayout_text s a.answer) e.1;
}

pub relayout_reported : {T F : Type 0} (r : Result T F) (names : NameLists) (v u : WorldState) (asked : Request) (s : Split) (old new : List ℕ) (answer : Result ℕ RelayoutFault)
    → asked ≡ request.Relayout s → Relaid v s answer u → shown u ≡ shown v → OnOk r (new ≡ old ++ relayout_text s answer) → OnOk r (answer ≡ Err relayout.Memory → ⊥)
    → OnOk r (ReportsOne names v asked u old new)
relayout_reported (Ok x) names v u asked s old new answer is e shows text memory =
    subst (λ (q : Request). ReportsOne names v q u old new) (sym is) (relayout_done names v u s old new answer e shows text memory)
relayout_reported (Err x) names v u asked s old new answer is e shows text memory = tt
