-- Runs of the machine in parts.
use Rattle.std.proofs.Common.{◌≡◌, List, [], ◌∷◌, ◌++◌, Option, Some, None, refl, sym, ap, ◌∙◌, subst, append-nil}
use Rattle.std.proofs.lemmas.Grind.{flat_map-append}
use Rattle.step_core.specs.declared.machine.Move.{Move}
use Rattle.step_core.specs.Machine.{State, Run}
use Rattle.step_core.specs.Step.{moves_made}
use Rattle.jls_check.proofs.OneNext.{one_next}
use Rattle.pictures.specs.declared.columns.Column.{Column}
use Rattle.pictures.specs.Arrows.{IsLawful}
use Rattle.pictures.specs.Marks.{moves_in}
use Rattle.pictures.specs.Pictures.{all_moves, CanRun, Makes}

pub run_split : (ms more : List Move) (s end : State) → Run s (ms ++ more) end → (mid : State) × Run s ms mid × Run mid more end
run_split [] more s end r = (s, refl, r)
run_split (m ∷ ms) more s end r =
    let rest = run_split ms more r.0 end r.2 in
    (rest.0, (r.0, r.1, rest.1), rest.2)

pub run_join : (ms more : List Move) (s mid end : State) → Run s ms mid → Run mid more end → Run s (ms ++ more) end
run_join [] more s mid end p q = subst (λ x. Run x more end) p q
run_join (m ∷ ms) more s mid end p q = (p.0, p.1, run_join ms more p.0 mid end p.2 q)

pub run_one : (ms : List Move) (s a b : State) → Run s ms a → Run s ms b → a ≡ b
run_one [] s a b p q = p ∙ sym q
run_one (m ∷ ms) s a b p q = run_one ms p.0 a b p.2 (subst (λ x. Run x ms b) (sym (one_next m s p.0 q.0 p.1 q.1)) q.2)

-- what follows the front of a run is a run from where the front leads
pub rest_runs : (ms more : List Move) (s now : State) → CanRun s (ms ++ more) → Run s ms now → CanRun now more
rest_runs ms more s now r p =
    let parts = run_split ms more s r.0 r.1 in
    (r.0, subst (λ x. Run x more r.0) (run_one ms s parts.0 now parts.1 p) parts.2)

pub front_runs : (ms more : List Move) (s : State) → CanRun s (ms ++ more) → CanRun s ms
front_runs ms more s r =
    let parts = run_split ms more s r.0 r.1 in
    (parts.0, parts.1)

-- these moves were made, and those that are left can be made
pub record IsRunning (s : State) (done left : List Move) (now : State) : Type 0 where
  pub run : Run s done now
  pub rest : CanRun now left

running_more : (s : State) (done part left : List Move) (now next : State) → IsRunning s done (part ++ left) now → Run now part next
    → IsRunning s (done ++ part) left next
running_more s done part left now next p q = record {
  run = run_join done part s now next p.run q;
  rest = rest_runs part left now next p.rest q;
}

-- ---- columns

pub column_lawful : (s : State) (front left : List Column) (c : Column) (now : State) → IsRunning s (all_moves front) (all_moves (c ∷ left)) now
    → CanRun now (moves_in c)
column_lawful s front left c now p = front_runs (moves_in c) (all_moves left) now p.rest

pub column_more : (s : State) (front left : List Column) (c : Column) (now next : State) → IsRunning s (all_moves front) (all_moves (c ∷ left)) now
    → Run now (moves_in c) next → IsRunning s (all_moves (front ++ c ∷ [])) (all_moves left) next
column_more s front left c now next p q =
    let e = flat_map-append moves_in front (c ∷ []) ∙ ap (λ l. all_moves front ++ l) (append-nil (moves_in c)) in
    subst (λ ms. IsRunning s ms (all_moves left) next) (sym e) (running_more s (all_moves front) (moves_in c) (all_moves left) now next p q)

-- ---- the moves of a column

pub move_lawful : (s : State) (front left : List (Option Move)) (m : Option Move) (now : State) → IsRunning s (moves_made front) (moves_made (m ∷ left)) now
    → IsLawful now m
move_lawful s front left None now p = tt
move_lawful s front left (Some m) now p = (p.rest.1.0, p.rest.1.1)

made-append : (front more : List (Option Move)) → moves_made (front ++ more) ≡ moves_made front ++ moves_made more
made-append [] more = refl
made-append (None ∷ front) more = made-append front more
made-append (Some m ∷ front) more = ap (λ l. m ∷ l) (made-append front more)

pub move_more : (s : State) (front left : List (Option Move)) (m : Option Move) (now next : State) → IsRunning s (moves_made front) (moves_made (m ∷ left)) now
    → Makes now m next → IsRunning s (moves_made (front ++ m ∷ [])) (moves_made left) next
move_more s front left None now next p q =
    subst (λ ms. IsRunning s ms (moves_made left) next) (sym (made-append front (None ∷ [])))
    (running_more s (moves_made front) [] (moves_made left) now next p q)
move_more s front left (Some m) now next p q =
    subst (λ ms. IsRunning s ms (moves_made left) next) (sym (made-append front (Some m ∷ [])))
    (running_more s (moves_made front) (m ∷ []) (moves_made left) now next p (next, q, refl))
