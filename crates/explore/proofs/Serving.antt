-- What a choice leaves that is made: who is busy, and whose call has a reply.
use Rattle.std.proofs.Common.{◌≡◌, ◌∙◌, ◌⊎◌, inl, inr, sym, ap, refl, subst, ℕ, ◌<◌, Bool, true, false, if◌then◌else◌, nat_lt, length, Option, Some, None, Result, Ok}
use native.Mathlib.Omega.{arith}
use Rattle.std.specs.Prelude.{slice_get, slice_index_or}
use Rattle.std.proofs.lemmas.Bool.{eq-eqb, ltb-true}
use Rattle.std.proofs.lemmas.Option.{get_or_from_slice_get, same_Some}
use Rattle.lock_word.specs.declared.ThreadId.{ThreadId}
use Rattle.fat_monitor.specs.declared.actions.Reply.{Reply}
use Rattle.fast_path.specs.declared.calls.Call.{Call}
use Rattle.thread_index.specs.Indices.{IsOneToOne, berth_of}
use Rattle.step_core.specs.declared.steps.Did.{Did}
use Rattle.step_core.specs.declared.steps.Fault.{Fault}
use Rattle.step_core.specs.declared.steps.Step.{Step}
use Rattle.step_core.specs.declared.steps.Step.TheVariants as step
use Rattle.step_core.specs.Step.{step_of, time_over, wake_up}
use Rattle.step_core.specs.World.{WorldState}
use Rattle.explore.specs.declared.programs.Program.{Program}
use Rattle.explore.specs.declared.programs.Choice.{Choice}
use Rattle.explore.specs.declared.programs.Choice.TheVariants as choice
use Rattle.explore.specs.States.{ProgramState, begin_of, call_below, chosen, end_of, step_at, thread_of, tick_of}
use Rattle.explore.specs.Replies.{is_choice_of}
use Rattle.explore.proofs.Busy.{Leaves, LeavesAs, LeavesBy, begin_leaves, go_leaves, is_busy, tick_leaves, tick_told, wait_end_leaves}
use Rattle.explore.proofs.Making.{IsMade, IsMeant, meant}

-- where the next call of a thread stands
abbrev pub next_of : ProgramState → ℕ → ℕ
next_of s k = slice_index_or s.nexts k 0

-- this thread is in a call, or has one to begin
abbrev pub MayBe : Program → ProgramState → ℕ → Type 0
MayBe p s k = (is_busy s.world (thread_of k) ≡ true) ⊎ (next_of s k < end_of p k)

-- The choice left this world, and its thread, which was in a call, is in none any more.
pub record IsReplied (p : Program) (s : ProgramState) (c : Choice) (v : WorldState) : Type 0 where
  pub own : is_choice_of (chosen c) c ≡ true
  pub within : chosen c < length p.starts.items
  pub has : slice_get s.nexts (chosen c) ≡ Some (next_of s (chosen c))
  pub was : is_busy s.world (thread_of (chosen c)) ≡ true
  pub free : is_busy v (thread_of (chosen c)) ≡ false

-- The choice left this world, with this reply, if any. Who is in a call then was in one before, or had one to begin.
-- Where there is a reply, it is that of the next call of the choice's thread.
pub record IsServed (p : Program) (s : ProgramState) (c : Choice) (v : WorldState) (r : Option Reply) : Type 0 where
  pub one : IsOneToOne v.berths
  pub began : (j : ℕ) → is_busy v (thread_of j) ≡ true → MayBe p s j
  pub over : (a : Reply) → r ≡ Some a → IsReplied p s c v

-- the next call of a thread whose begin is meant stands before the end of its own
begin_within : (p : Program) (k n : ℕ) (x : Step) → begin_of k (call_below p k n) ≡ Some x → n < end_of p k
begin_within p k n x h = by (nat_lt n (end_of p k)) refl h
  where
    by : (b : Bool) → nat_lt n (end_of p k) ≡ b → begin_of k (if b then slice_get p.calls.items n else None) ≡ Some x → n < end_of p k
    by true e g = ltb-true n (end_of p k) e
    by false e g = absurd (cc)

next_is : (s : ProgramState) (k n : ℕ) → slice_get s.nexts k ≡ Some n → next_of s k ≡ n
next_is s k n h = get_or_from_slice_get s.nexts k n 0 h

-- a choice of a thread that leaves what its step leaves
served : (p : Program) (s : ProgramState) (c : Choice) (x : Step) (v : WorldState) (r : Option Reply) (begins : Bool)
    → Leaves s.world (thread_of (chosen c)) begins v r → IsMeant p c (chosen c) (slice_get s.nexts (chosen c)) x
    → (begins ≡ true → (n : ℕ) → step_at p c n ≡ Some x → n < end_of p (chosen c)) → is_choice_of (chosen c) c ≡ true → IsServed p s c v r
served p s c x v r begins leaves is within own = record {
  one = leaves.one;
  began = λ j h. by j (leaves.began (thread_of j) h);
  over = λ a e.
      let o = leaves.over a e in
      let next = next_is s (chosen c) is.next is.has in
      record { own = own; within = is.within; has = is.has ∙ ap Some (sym next); was = o.0; free = o.1 };
}
  where
    by : (j : ℕ) → (is_busy s.world (thread_of j) ≡ true) ⊎ ((begins ≡ true) × (j ≡ chosen c)) → MayBe p s j
    by j (inl before) = inl before
    by j (inr (began, same)) =
        let next = next_is s (chosen c) is.next is.has in
        let lt = within began is.next is.is in
        inr (subst (λ (i : ℕ). next_of s i < end_of p i) (sym same) (omega (arith, next, lt)))

-- what a step leaves that was accepted
answered : (w : WorldState) (t : ThreadId) (begins : Bool) (x : Step) (d : Did) → LeavesBy w t begins (step_of true w x)
    → (step_of true w x).answer ≡ Ok d → Leaves w t begins (step_of true w x).after d.reply
answered w t begins x d leaves answer = subst (λ (a : Result Did Fault). LeavesAs w t begins a (step_of true w x).after) answer leaves

-- and one that a choice meant
leaves_made : (w : WorldState) (t : ThreadId) (begins : Bool) (x y : Step) → Some x ≡ Some y → LeavesBy w t begins (step_of true w x)
    → LeavesBy w t begins (step_of true w y)
leaves_made w t begins x y same leaves = subst (λ (z : Step). LeavesBy w t begins (step_of true w z)) (same_Some x y same) leaves

begin_made : (w : WorldState) (k : ℕ) (o : Option Call) (y : Step) → IsOneToOne w.berths → begin_of k o ≡ Some y
    → LeavesBy w (thread_of k) true (step_of true w y)
begin_made w k None y one h = absurd (cc)
begin_made w k (Some c) y one h =
    leaves_made w (thread_of k) true (step.Begin (thread_of k) c) y h (begin_leaves w (thread_of k) c (berth_of w.berths (thread_of k)) one refl)

wake_made : (w : WorldState) (k : ℕ) (b : Bool) (y : Step) → IsOneToOne w.berths → (if b then Some (step.Spurious (thread_of k)) else None) ≡ Some y
    → LeavesBy w (thread_of k) false (step_of true w y)
wake_made w k true y one h =
    leaves_made w (thread_of k) false (step.Spurious (thread_of k)) y h (wait_end_leaves wake_up w (thread_of k) (berth_of w.berths (thread_of k)) one)
wake_made w k false y one h = absurd (cc)

-- the clock moves nobody, and has no reply
tick_serves : (p : Program) (s : ProgramState) (o : Option ℕ) (y : Step) (d : Did) → IsOneToOne s.world.berths → tick_of o ≡ Some y
    → (step_of true s.world y).answer ≡ Ok d → IsServed p s choice.Tick (step_of true s.world y).after d.reply
tick_serves p s None y d one h answer = absurd (cc)
tick_serves p s (Some now) y d one h answer =
    let t : ThreadId = thread_of 0 in
    let leaves = answered s.world t false y d (leaves_made s.world t false (step.Tick now) y h (tick_leaves s.world t now one)) answer in
    let said : (step_of true s.world (step.Tick now)).answer ≡ Ok d =
    subst (λ (z : Step). (step_of true s.world z).answer ≡ Ok d) (sym (same_Some (step.Tick now) y h)) answer in
    let none = tick_told s.world now d said in
    record {
      one = leaves.one;
      began = λ j i. by j (leaves.began (thread_of j) i);
      over = λ a e. absurd (cc);
    }
  where
    by : (j : ℕ) → (is_busy s.world (thread_of j) ≡ true) ⊎ ((false ≡ true) × (j ≡ 0)) → MayBe p s j
    by j (inl before) = inl before
    by j (inr (began, same)) = absurd (let never = began in cc)

-- a choice of a thread that begins no call, and leaves what its step leaves
goes_on : (p : Program) (s t : ProgramState) (c : Choice) (m : IsMade p s t c) → LeavesBy s.world (thread_of (chosen c)) false (step_of true s.world m.made)
    → IsMeant p c (chosen c) (slice_get s.nexts (chosen c)) m.made → is_choice_of (chosen c) c ≡ true
    → IsServed p s c (step_of true s.world m.made).after m.did.reply
goes_on p s t c m leaves is own =
    let left = answered s.world (thread_of (chosen c)) false m.made m.did leaves m.answer in
    served p s c m.made (step_of true s.world m.made).after m.did.reply false left is (λ begins n e. absurd (cc)) own

-- What a choice leaves that is made.
pub choice_serves : (p : Program) (s t : ProgramState) (c : Choice) (m : IsMade p s t c) → IsOneToOne s.world.berths
    → IsServed p s c (step_of true s.world m.made).after m.did.reply
choice_serves p s t (choice.Begin k) m one =
    let is = meant p (choice.Begin k) k (slice_get s.nexts k) m.made m.is in
    let leaves = begin_made s.world k (call_below p k is.next) m.made one is.is in
    let left = answered s.world (thread_of k) true m.made m.did leaves m.answer in
    served p s (choice.Begin k) m.made (step_of true s.world m.made).after m.did.reply true left is
    (λ begins n e. begin_within p k n m.made e) (eq-eqb k k refl)
choice_serves p s t (choice.Go k) m one =
    let u : ThreadId = thread_of k in
    let is = meant p (choice.Go k) k (slice_get s.nexts k) m.made m.is in
    let leaves = go_leaves s.world u (berth_of s.world.berths u) one refl in
    goes_on p s t (choice.Go k) m (leaves_made s.world u false (step.Go u) m.made is.is leaves) is (eq-eqb k k refl)
choice_serves p s t (choice.Expire k) m one =
    let u : ThreadId = thread_of k in
    let is = meant p (choice.Expire k) k (slice_get s.nexts k) m.made m.is in
    let leaves = wait_end_leaves time_over s.world u (berth_of s.world.berths u) one in
    goes_on p s t (choice.Expire k) m (leaves_made s.world u false (step.Expire u) m.made is.is leaves) is (eq-eqb k k refl)
choice_serves p s t (choice.Spurious k) m one =
    let is = meant p (choice.Spurious k) k (slice_get s.nexts k) m.made m.is in
    goes_on p s t (choice.Spurious k) m (wake_made s.world k p.spurious m.made one is.is) is (eq-eqb k k refl)
choice_serves p s t choice.Tick m one = tick_serves p s (slice_get p.moments.items s.told) m.made m.did one m.is m.answer
