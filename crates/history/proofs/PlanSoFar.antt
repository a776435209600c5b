-- A plan that is made as its lines come.
use Rattle.std.proofs.Common.{◌≡◌, ◌<◌, ℕ, List, [], ◌∷◌, ◌++◌, drop, true, refl, sym, ap, ◌∙◌, subst, arith, Option, None, Some, MatchOption}
use Rattle.lock_word.specs.declared.Split.{Split}
use Rattle.script_text.specs.declared.lines.Line.{Line}
use Rattle.script_text.specs.declared.lines.Line.TheVariants.{World, Object, Step}
use Rattle.script_text.specs.Lines.{IsScript, may_follow, script_text}
use Rattle.script_text.specs.LinesSoFar.{object_names, with_object}
use Rattle.script_text.specs.Positions.{HasCome, Position}
use Rattle.step_core.specs.declared.steps.Request.{Request}
use Rattle.history.specs.NameLists.{NameLists}
use Rattle.history.specs.Numbering.{IsWorldWith, MayTake, names_then, no_names, requests_of, requests_then, with_low}
use Rattle.history.specs.Plans.{IsPlanOf}
use Rattle.history.specs.PlanSoFar.{IsPlanSoFar}
use Rattle.history.specs.declared.plans.Plan.{Plan}
use Rattle.history.proofs.Lines.{lows_append, may_take, names_after-one, requests_after-one}

-- what the reader hands out next, behind the lines that came
abbrev pub IsNext : List ℕ → List Line → List (List ℕ) → Position → Option Line → Type 0
IsNext bytes came names position next =
    MatchOption next (IsScript came × (bytes ≡ script_text came)) (λ l. (may_follow came l ≡ true) × HasCome bytes (came ++ l ∷ []) (with_object names l) position)

pub at_line : (bytes : List ℕ) (came : List Line) (names : List (List ℕ)) (position : Position) (next : Option Line) (l : Line) → IsNext bytes came names position next → next ≡ Some l
    → (may_follow came l ≡ true) × HasCome bytes (came ++ l ∷ []) (with_object names l) position
at_line bytes came names position next l is e = subst (IsNext bytes came names position) e is

pub at_end : (bytes : List ℕ) (came : List Line) (names : List (List ℕ)) (position : Position) (next : Option Line) → IsNext bytes came names position next → next ≡ None
    → IsScript came × (bytes ≡ script_text came)
at_end bytes came names position next is e = subst (IsNext bytes came names position) e is

pub no_first : (bytes : List ℕ) (names : List (List ℕ)) (position : Position) (next : Option Line) → IsNext bytes [] names position next → next ≡ None → ⊥
no_first bytes names position next is e = let whole = at_end bytes [] names position next is e in none_below whole.0.0
  where
    none_below : 0 < 0 → ⊥
    none_below h = omega (arith, h)

other_line : (l : Line) → may_follow [] l ≡ true → ((m k : ℕ) (s : Split) → l ≡ World m k s → ⊥) → ⊥
other_line (World m k s) follows other = other m k s refl
other_line (Object name low) follows other = cc
other_line (Step step) follows other = cc

pub other_first : (bytes : List ℕ) (names : List (List ℕ)) (position : Position) (next : Option Line) (l : Line) → IsNext bytes [] names position next → next ≡ Some l
    → ((m k : ℕ) (s : Split) → l ≡ World m k s → ⊥) → ⊥
other_first bytes names position next l is e other = other_line l (at_line bytes [] names position next l is e).0 other

pub world_first : (bytes : List ℕ) (names : List (List ℕ)) (position : Position) (next : Option Line) (l : Line) (m k : ℕ) (s : Split) → IsNext bytes [] names position next → next ≡ Some l
    → l ≡ World m k s → HasCome bytes (World m k s ∷ []) names position
world_first bytes names position next l m k s is e world =
    (subst (λ (x : Line). (may_follow [] x ≡ true) × HasCome bytes (x ∷ []) (with_object names x) position) world (at_line bytes [] names position next l is e)).1

-- the first line makes a world
pub first_so_far : (bytes : List ℕ) (m k : ℕ) (s : Split) (names : List (List ℕ)) (plan : Plan) (position : Position) → HasCome bytes (World m k s ∷ []) names position → names ≡ []
    → (plan.monitors ≡ m) × (plan.indices ≡ k) × (plan.split ≡ s) → (plan.names ≡ no_names) × (plan.lows.items ≡ []) → plan.steps.items ≡ []
    → IsPlanSoFar bytes plan position
first_so_far bytes m k s names plan position come nobody world none no_steps = record {
  came = World m k s ∷ [];
  come = subst (λ (names : List (List ℕ)). HasCome bytes (World m k s ∷ []) names position) (nobody ∙ sym (ap (λ (n : NameLists). n.objects) none.0)) come;
  world = world;
  lows = none.1;
  names = none.0;
  steps = no_steps;
}

may_take_behind : (came : List Line) (m k : ℕ) (s : Split) (names : List (List ℕ)) (l : Line) → IsWorldWith m k s came → names ≡ object_names (drop 1 came)
    → may_follow came l ≡ true → MayTake names l
may_take_behind [] m k s names l world declared follows = absurd world
may_take_behind (World n j r ∷ more) m k s names l world declared follows =
    subst (λ (ns : List (List ℕ)). MayTake ns l) (sym declared) (may_take n j r more l follows)
may_take_behind (Object name low ∷ more) m k s names l world declared follows = absurd world
may_take_behind (Step step ∷ more) m k s names l world declared follows = absurd world

pub may_take_next : (bytes : List ℕ) (plan : Plan) (position : Position) (l : Line) → (so : IsPlanSoFar bytes plan position) → may_follow so.came l ≡ true → MayTake plan.names.objects l
may_take_next bytes plan position l so follows =
    may_take_behind so.came plan.monitors plan.indices plan.split plan.names.objects l so.world so.come.noted.declared follows

world_more : (came : List Line) (m k n j : ℕ) (s r : Split) (l : Line) → IsWorldWith m k s came → (n ≡ m) × (j ≡ k) × (r ≡ s) → IsWorldWith n j r (came ++ l ∷ [])
world_more [] m k n j s r l world same = absurd world
world_more (World a b c ∷ more) m k n j s r l world same = (same.0 ∙ world.0, same.1 ∙ world.1, same.2 ∙ world.2)
world_more (Object name low ∷ more) m k n j s r l world same = absurd world
world_more (Step step ∷ more) m k n j s r l world same = absurd world

-- and each line behind it adds what it says
pub more_so_far : (bytes : List ℕ) (plan new : Plan) (position after : Position) (l : Line) → (so : IsPlanSoFar bytes plan position)
    → HasCome bytes (so.came ++ l ∷ []) (with_object plan.names.objects l) after → new.names.objects ≡ with_object plan.names.objects l
    → new.lows.items ≡ with_low plan.lows.items l → new.names ≡ names_then plan.names l → new.steps.items ≡ plan.steps.items ++ requests_then plan.names l
    → (new.monitors ≡ plan.monitors) × (new.indices ≡ plan.indices) × (new.split ≡ plan.split) → IsPlanSoFar bytes new after
more_so_far bytes plan new position after l so come objects lows names steps world = record {
  came = so.came ++ l ∷ [];
  come = subst (λ (ns : List (List ℕ)). HasCome bytes (so.came ++ l ∷ []) ns after) (sym objects) come;
  world = world_more so.came plan.monitors plan.indices new.monitors new.indices plan.split new.split l so.world world;
  lows = lows ∙ ap (λ (b : List ℕ). with_low b l) so.lows ∙ sym (lows_append so.came l);
  names = names ∙ ap (λ (n : NameLists). names_then n l) so.names ∙ sym (names_after-one so.came l no_names);
  steps = steps ∙ ap (λ (r : List Request). r ++ requests_then plan.names l) so.steps ∙ ap (λ (n : NameLists). requests_of so.came ++ requests_then n l) so.names
      ∙ sym (requests_after-one so.came l no_names);
}

objects_behind : (came : List Line) (m k : ℕ) (s : Split) → IsWorldWith m k s came → object_names (drop 1 came) ≡ object_names came
objects_behind [] m k s world = absurd world
objects_behind (World n j r ∷ more) m k s world = refl
objects_behind (Object name low ∷ more) m k s world = absurd world
objects_behind (Step step ∷ more) m k s world = absurd world

-- behind the last line it is the plan of the script
pub whole_plan : (bytes : List ℕ) (plan : Plan) (position : Position) → (so : IsPlanSoFar bytes plan position) → IsScript so.came × (bytes ≡ script_text so.came) → IsPlanOf plan bytes
whole_plan bytes plan position so whole = record {
  lines = so.came;
  script = whole.0;
  text = whole.1;
  world = so.world;
  objects = so.come.noted.declared ∙ objects_behind so.came plan.monitors plan.indices plan.split so.world;
  lows = so.lows;
  names = so.names;
  steps = so.steps;
}
