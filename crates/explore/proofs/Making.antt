-- A choice that is made has a step, which is accepted, and leads where that leads.
use Rattle.std.proofs.Common.{◌≡◌, ◌∙◌, sym, ap, refl, ℕ, ◌+◌, ◌<◌, Bool, true, false, List, length, nat_lt, if◌then◌else◌, Option, Some, None, Result, Ok, Err}
use Rattle.std.specs.Prelude.{slice_get, slice_set}
use Rattle.std.specs.Option.{unwrap_or}
use Rattle.std.proofs.lemmas.Bool.{ltb-true}
use Rattle.fat_monitor.specs.declared.actions.Reply.{Reply}
use Rattle.step_core.specs.declared.steps.Did.{Did}
use Rattle.step_core.specs.declared.steps.Fault.{Fault}
use Rattle.step_core.specs.declared.steps.Step.{Step}
use Rattle.step_core.specs.Step.{step_of}
use Rattle.step_core.specs.World.{WorldState}
use Rattle.explore.specs.declared.programs.Program.{Program}
use Rattle.explore.specs.declared.programs.Choice.{Choice}
use Rattle.explore.specs.States.{ProgramState, after, after_answer, after_step, chosen, did_by, did_in, did_of, moved, replied, step_at, step_for, step_of_thread, with_reply}

world_either : (s : ProgramState) (ns : List ℕ) (rs : List (Option Reply)) (b : Bool)
    → (if b then record s { nexts = ns; replies = rs } else s).world ≡ s.world
world_either s ns rs true = refl
world_either s ns rs false = refl

world_noted : (s : ProgramState) (k : ℕ) (r : Reply) (o : Option ℕ) → (with_reply s k r o).world ≡ s.world
world_noted s k r None = refl
world_noted s k r (Some n) = world_either s (slice_set s.nexts k (n + 1)) (slice_set s.replies n (Some r)) (nat_lt n (length s.replies))

world_replied : (s : ProgramState) (k : ℕ) (r : Option Reply) → (replied s k r).world ≡ s.world
world_replied s k None = refl
world_replied s k (Some r) = world_noted s k r (slice_get s.nexts k)

-- A choice that is made has a step, which is accepted; where it leads is what that leaves, with its reply noted.
pub record IsMade (p : Program) (s t : ProgramState) (c : Choice) : Type 0 where
  pub made : Step
  pub did : Did
  pub is : step_for p s c ≡ Some made
  pub answer : (step_of true s.world made).answer ≡ Ok did
  pub world : (step_of true s.world made).after ≡ t.world
  pub leads : replied (moved s c (step_of true s.world made).after) (chosen c) did.reply ≡ t

pub choice_made : (p : Program) (s t : ProgramState) (c : Choice) → after p s c ≡ Some t → IsMade p s t c
choice_made p s t c h = by (step_for p s c) refl h
  where
    by_answer : (x : Step) (a : Result Did Fault) → step_for p s c ≡ Some x → (step_of true s.world x).answer ≡ a
        → after_answer s c a (step_of true s.world x).after ≡ Some t → IsMade p s t c
    by_answer x (Ok d) is answer g =
        let w : WorldState = (step_of true s.world x).after in
        let leads : replied (moved s c w) (chosen c) d.reply ≡ t = ap (λ (o : Option ProgramState). unwrap_or o t) g in
        record {
          made = x;
          did = d;
          is = is;
          answer = answer;
          world = sym (world_replied (moved s c w) (chosen c) d.reply) ∙ ap (λ (r : ProgramState). r.world) leads;
          leads = leads;
        }
    by_answer x (Err f) is answer g = absurd (cc)

    by : (o : Option Step) → step_for p s c ≡ o → after_step s c o ≡ Some t → IsMade p s t c
    by None is g = absurd (cc)
    by (Some x) is g = by_answer x (step_of true s.world x).answer is refl g

-- what the choice does is what its step did
pub did_made : (p : Program) (s t : ProgramState) (c : Choice) (m : IsMade p s t c) → did_of p s c ≡ Some m.did
did_made p s t c m = ap (λ (o : Option Step). did_by s.world o) m.is ∙ ap did_in m.answer

-- a choice of a thread means a step of it, whose next call has this position
pub record IsMeant (p : Program) (c : Choice) (k : ℕ) (o : Option ℕ) (x : Step) : Type 0 where
  pub next : ℕ
  pub has : o ≡ Some next
  pub within : k < length p.starts.items
  pub is : step_at p c next ≡ Some x

pub meant : (p : Program) (c : Choice) (k : ℕ) (o : Option ℕ) (x : Step) → step_of_thread p c k o ≡ Some x → IsMeant p c k o x
meant p c k None x h = absurd (cc)
meant p c k (Some n) x h = by (nat_lt k (length p.starts.items)) refl h
  where
    by : (b : Bool) → nat_lt k (length p.starts.items) ≡ b → (if b then step_at p c n else None) ≡ Some x → IsMeant p c k (Some n) x
    by true e g = record { next = n; has = refl; within = ltb-true k (length p.starts.items) e; is = g }
    by false e g = absurd (cc)
