-- No move is tried twice in a state: moves have numbers, which rise along those that are tried.
use native.Mathlib.Omega.{arith}
use Rattle.std.proofs.Common.{◌≡◌, ap, ℕ, zero, suc, ◌+◌, ◌<◌, ◌≤◌, List, [], ◌∷◌, ◌++◌, length, Option, Some, None, Bool, true, false, if◌then◌else◌}
use Rattle.std.specs.Prelude.{slice_get}
use Rattle.lock_word.specs.declared.ThreadId.{ThreadId}
use Rattle.fast_path.specs.declared.calls.Call.{Call}
use Rattle.fast_path.specs.declared.calls.Call.TheVariants as call
use Rattle.step_core.specs.declared.machine.Doing.{Doing}
use Rattle.step_core.specs.declared.machine.Doing.TheVariants.{Idle, Wants, Waits, Back, Has}
use Rattle.step_core.specs.declared.machine.Move.{Move}
use Rattle.step_core.specs.declared.machine.Move.TheVariants as move
use Rattle.jls_check.specs.declared.threads.Live.{Live}
use Rattle.jls_check.specs.LiveThreads.{live_of}
use Rattle.explore.specs.declared.programs.Program.{Program}
use Rattle.explore.specs.States.{thread_of}
use Rattle.explore_java.specs.JavaFound.{move_at}
use Rattle.explore_java.specs.JavaStates.{JavaProgramState, count_of, next_call}
use Rattle.explore_java.specs.Moves.{begin_moves, call_moves, clock_moves, doing_moves, live_moves, moves_below, moves_in, notifies, thread_moves}

module _ (n : ℕ) where
  -- where the numbers of thread k begin: each thread has as many
  abbrev base : ℕ → ℕ
  base zero = 0
  base (suc k) = base k + (n + 4)

  -- whose move it is; that of the clock stands behind those of the threads
  abbrev mover : Move → ℕ
  mover (move.Attach t) = t.0
  mover (move.Call t c) = t.0
  mover (move.Return t r) = t.0
  mover (move.Lock t) = t.0
  mover (move.Unlock t) = t.0
  mover (move.Illegal t) = t.0
  mover (move.BadArgument t) = t.0
  mover (move.Early t) = t.0
  mover (move.Wait t) = t.0
  mover (move.Notify t u) = t.0
  mover (move.NotifyAll t) = t.0
  mover (move.Interrupt t) = t.0
  mover (move.TestClear t) = t.0
  mover (move.Expire t) = t.0
  mover (move.Spurious t) = t.0
  mover (move.Relock t) = t.0
  mover (move.Ask t) = t.0
  mover (move.Refuse t c) = t.0
  mover (move.End t) = t.0
  mover (move.Time now) = n

  -- where it stands among those that its thread may make
  abbrev chosen_place : Option ThreadId → ℕ
  chosen_place None = 2
  chosen_place (Some u) = 3 + u.0

  abbrev place : Move → ℕ
  place (move.Attach t) = 0
  place (move.Call t c) = 0
  place (move.Return t r) = 0
  place (move.Lock t) = 0
  place (move.Unlock t) = 0
  place (move.Illegal t) = 1
  place (move.BadArgument t) = 2
  place (move.Early t) = 3
  place (move.Wait t) = 0
  place (move.Notify t u) = chosen_place u
  place (move.NotifyAll t) = 0
  place (move.Interrupt t) = 0
  place (move.TestClear t) = 0
  place (move.Expire t) = 0
  place (move.Spurious t) = 1
  place (move.Relock t) = 0
  place (move.Ask t) = 0
  place (move.Refuse t c) = 1
  place (move.End t) = 0
  place (move.Time now) = 0

  abbrev rank : Move → ℕ
  rank m = base (mover m) + place m

  -- the numbers of these moves rise, from one on and up to another
  abbrev Rise : ℕ → ℕ → List Move → Type 0
  Rise lo hi [] = lo ≤ hi
  Rise lo hi (m ∷ ms) = (lo ≤ rank m) × Rise (rank m + 1) hi ms

  from_lower : (a lo hi : ℕ) (ms : List Move) → a ≤ lo → Rise lo hi ms → Rise a hi ms
  from_lower a lo hi [] le h = omega (arith, le, h)
  from_lower a lo hi (m ∷ ms) le h = let x = h.0 in (omega (arith, le, x), h.1)

  to_higher : (lo hi b : ℕ) (ms : List Move) → hi ≤ b → Rise lo hi ms → Rise lo b ms
  to_higher lo hi b [] le h = omega (arith, le, h)
  to_higher lo hi b (m ∷ ms) le h = (h.0, to_higher (rank m + 1) hi b ms le h.1)

  both_rise : (lo mid hi : ℕ) (xs ys : List Move) → Rise lo mid xs → Rise mid hi ys → Rise lo hi (xs ++ ys)
  both_rise lo mid hi [] ys h g = from_lower lo mid hi ys h g
  both_rise lo mid hi (x ∷ xs) ys h g = (h.0, both_rise (rank x + 1) mid hi xs ys h.1 g)

  -- so each stands once
  at_least : (lo hi : ℕ) (ms : List Move) (i : ℕ) → Rise lo hi ms → i < length ms → lo ≤ rank (move_at ms i)
  at_least lo hi [] i h lt = absurd (omega (arith, lt))
  at_least lo hi (m ∷ ms) zero h lt = h.0
  at_least lo hi (m ∷ ms) (suc i) h lt = let x = h.0 in let y = at_least (rank m + 1) hi ms i h.1 (omega (arith, lt)) in omega (arith, x, y)

  rising : (lo hi : ℕ) (ms : List Move) (i j : ℕ) → Rise lo hi ms → i < j → j < length ms → rank (move_at ms i) < rank (move_at ms j)
  rising lo hi [] i j h less lt = absurd (omega (arith, lt))
  rising lo hi (m ∷ ms) i zero h less lt = absurd (omega (arith, less))
  rising lo hi (m ∷ ms) zero (suc j) h less lt = let x = at_least (rank m + 1) hi ms j h.1 (omega (arith, lt)) in omega (arith, x)
  rising lo hi (m ∷ ms) (suc i) (suc j) h less lt = rising (rank m + 1) hi ms i j h.1 (omega (arith, less)) (omega (arith, lt))

  once : (lo hi : ℕ) (ms : List Move) (i j : ℕ) → Rise lo hi ms → i < j → j < length ms → move_at ms i ≡ move_at ms j → ⊥
  once lo hi ms i j h less lt same = let x = rising lo hi ms i j h less lt in let e = ap rank same in omega (arith, x, e)

  -- ---- those of a thread

  notifies_rise : (t : ThreadId) (k : ℕ) → Rise (base t.0 + 3) (base t.0 + 3 + k) (notifies t k)
  notifies_rise t zero = omega arith
  notifies_rise t (suc k) =
      both_rise (base t.0 + 3) (base t.0 + 3 + k) (base t.0 + 3 + suc k) (notifies t k) (move.Notify t (Some (thread_of k)) ∷ []) (notifies_rise t k)
      (omega arith, omega arith)

  calls_rise : (t : ThreadId) (c : Call) → Rise (base t.0) (base t.0 + (n + 4)) (call_moves n t c)
  calls_rise t (call.Enter o) = (omega arith, (omega arith, omega arith))
  calls_rise t (call.Exit o) = (omega arith, (omega arith, omega arith))
  calls_rise t (call.Wait o millis nanos) = (omega arith, (omega arith, (omega arith, (omega arith, omega arith))))
  calls_rise t (call.Notify o) =
      let lo : ℕ = base t.0 + 2 + 1 in
      let more : Rise (base t.0 + 3) (base t.0 + (n + 4)) (notifies t n) = to_higher (base t.0 + 3) (base t.0 + 3 + n) (base t.0 + (n + 4)) (notifies t n) (omega arith) (notifies_rise t n) in
      (omega arith, (omega arith, from_lower lo (base t.0 + 3) (base t.0 + (n + 4)) (notifies t n) (omega arith) more))
  calls_rise t (call.NotifyAll o) = (omega arith, (omega arith, omega arith))
  calls_rise t (call.Holds o) = (omega arith, omega arith)
  calls_rise t (call.Interrupt u) = (omega arith, (omega arith, omega arith))
  calls_rise t call.Interrupted = (omega arith, omega arith)
  calls_rise t (call.IsInterrupted u) = (omega arith, (omega arith, omega arith))
  calls_rise t call.End = (omega arith, (omega arith, omega arith))

  begins_rise : (t : ThreadId) (o : Option Call) → Rise (base t.0) (base t.0 + (n + 4)) (begin_moves t o)
  begins_rise t None = omega arith
  begins_rise t (Some c) = (omega arith, omega arith)

  wakes_rise : (t : ThreadId) (spurious : Bool) → Rise (base t.0) (base t.0 + (n + 4)) (move.Expire t ∷ (if spurious then move.Spurious t ∷ [] else []))
  wakes_rise t true = (omega arith, (omega arith, omega arith))
  wakes_rise t false = (omega arith, omega arith)

  clocks_rise : (o : Option ℕ) → Rise (base n) (base n + 1) (clock_moves o)
  clocks_rise None = omega arith
  clocks_rise (Some now) = (omega arith, omega arith)

module _ (p : Program) (s : JavaProgramState) where
  abbrev n : ℕ
  n = count_of p

  does_rise : (t : ThreadId) (d : Doing) → Rise n (base n t.0) (base n t.0 + (n + 4)) (doing_moves p s t d)
  does_rise t Idle = begins_rise n t (next_call p s t.0)
  does_rise t (Wants c) = calls_rise n t c
  does_rise t (Waits o k d) = wakes_rise n t p.spurious
  does_rise t (Back o k w) = (omega arith, omega arith)
  does_rise t (Has r) = (omega arith, omega arith)

  lives_rise : (t : ThreadId) (x : Option Live) → Rise n (base n t.0) (base n t.0 + (n + 4)) (live_moves p s t x)
  lives_rise t None = omega arith
  lives_rise t (Some x) = does_rise t x.act

  below_rise : (k : ℕ) → Rise n 0 (base n k) (moves_below p s k)
  below_rise zero = omega arith
  below_rise (suc k) =
      both_rise n 0 (base n k) (base n (suc k)) (moves_below p s k) (thread_moves p s k) (below_rise k)
      (lives_rise (thread_of k) (live_of s.machine.threads (thread_of k)))

  pub moves_once : (i j : ℕ) → i < j → j < length (moves_in p s) → move_at (moves_in p s) i ≡ move_at (moves_in p s) j → ⊥
  moves_once i j less lt same =
      let clock = slice_get p.moments.items s.told in
      once n 0 (base n n + 1) (moves_in p s) i j
      (both_rise n 0 (base n n) (base n n + 1) (moves_below p s n) (clock_moves clock) (below_rise n) (clocks_rise n clock)) less lt same
