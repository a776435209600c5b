-- Steps of a script, one after the other.
use Rattle.std.proofs.Common.{◌≡◌, refl, ℕ, ◌+◌, ◌<◌, List, [], ◌∷◌, ◌++◌, length, get_or, take, ap, sym, ◌∙◌, subst}
use Rattle.std.proofs.lemmas.List.{take_more}
use Rattle.step_core.specs.declared.steps.Request.{Request}
use Rattle.step_core.specs.declared.machine.Move.{Move}
use Rattle.step_core.specs.Machine.{Run}
use Rattle.step_core.specs.Requests.{moves_then, moves_after, world_then, world_after}
use Rattle.step_core.specs.Shown.{shown}
use Rattle.step_core.specs.World.{WorldState, opening_world}
use Rattle.history.specs.Histories.{HasMemory, first_world}
use Rattle.history.specs.Plays.{PlaysOne, Plays, IsPlayOf}
use Rattle.history.specs.Numbering.{IsWorldWith, low_bytes, names_of, requests_of}
use Rattle.script_text.specs.LinesSoFar.{object_names}
use Rattle.history.specs.declared.plans.Plan.{Plan}
use Rattle.script_text.specs.declared.lines.Line.{Line}
use Rattle.history.proofs.Telling.{Run-append, memory-one, moves_after-one, steps_in-append, world_after-one}

unfoldable pub Plays-none : (w : WorldState) → Plays w [] w
Plays-none w = record { done = []; these = refl; memory = tt; leads = refl; run = refl }

unfoldable pub Plays-one : (w v u : WorldState) (rs : List Request) (r : Request) → Plays w rs v → PlaysOne v r u → Plays w (rs ++ r ∷ []) u
Plays-one w v u rs r p one =
    let moves : moves_then (world_after w p.done) (r, one.room) ≡ moves_then v (r, one.room) = ap (λ (x : WorldState). moves_then x (r, one.room)) (sym p.leads) in
    let all : moves_after w (p.done ++ (r, one.room) ∷ []) ≡ moves_after w p.done ++ moves_then v (r, one.room) =
    moves_after-one p.done w (r, one.room) ∙ ap (λ (l : List Move). moves_after w p.done ++ l) moves in
    record {
      done = p.done ++ (r, one.room) ∷ [];
      these = steps_in-append p.done ((r, one.room) ∷ []) ∙ ap (λ (l : List Request). l ++ r ∷ []) p.these;
      memory = memory-one p.done w (r, one.room) p.memory (subst (λ (x : WorldState). HasMemory x (r, one.room)) p.leads one.memory);
      leads = one.leads ∙ ap (λ (x : WorldState). world_then x (r, one.room)) p.leads ∙ sym (world_after-one p.done w (r, one.room));
      run = subst (λ (ms : List Move). Run (shown w) ms (shown u)) (sym all)
          (Run-append (moves_after w p.done) (moves_then v (r, one.room)) (shown w) (shown v) (shown u) p.run one.run);
    }

pub Plays-next : (w v u : WorldState) (rs : List Request) (i : ℕ) (d : Request) → i < length rs → Plays w (take i rs) v → PlaysOne v (get_or rs i d) u → Plays w (take (i + 1) rs) u
Plays-next w v u rs i d within p one = rw (take_more rs i d within) (Plays-one w v u (take i rs) (get_or rs i d) p one)

pub played : (plan : Plan) (script lines : List Line) (v : WorldState) → lines ≡ script → IsWorldWith plan.monitors plan.indices plan.split lines → plan.names.objects ≡ object_names lines
    → plan.lows.items ≡ low_bytes lines → plan.names ≡ names_of lines → plan.steps.items ≡ requests_of lines → Plays (first_world plan) plan.steps.items v → IsPlayOf script v plan.names
played plan script lines v same world objects bytes numbered requests p = record {
  plan = plan;
  world = subst (λ (l : List Line). IsWorldWith plan.monitors plan.indices plan.split l) same world;
  objects = objects ∙ ap object_names same;
  lows = bytes ∙ ap low_bytes same;
  numbered = numbered ∙ ap names_of same;
  steps = requests ∙ ap requests_of same;
  named = refl;
  plays = p;
}

-- steps of a plan that begin in its first world
pub plays_plan : (plan : Plan) (w v : WorldState) (lows : List ℕ) (steps : List Request) → lows ≡ plan.lows.items → w ≡ opening_world lows plan.monitors plan.indices plan.split → steps ≡ plan.steps.items
    → Plays w steps v → Plays (first_world plan) plan.steps.items v
plays_plan plan w v lows steps these opened all p =
    subst (λ (x : WorldState). Plays x plan.steps.items v) (opened ∙ ap (λ (l : List ℕ). opening_world l plan.monitors plan.indices plan.split) these) (subst (λ (l : List Request). Plays w l v) all p)
