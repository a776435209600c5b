-- What the state behind some moves leaves to the machine is what the program leaves to it there.
use Rattle.std.proofs.Common.{◌≡◌, ◌∙◌, subst, sym, ap, refl, ℕ, zero, suc, ◌-◌, ◌<◌, List, [], ◌∷◌, ◌++◌, length, Option, Some, None, Bool, true, false, if◌then◌else◌, take}
use Rattle.std.specs.Prelude.{slice_get}
use Rattle.std.specs.List.{cons_option, filter_map}
use Rattle.std.proofs.lemmas.Bool.{eq-eqb, eqb-true}
use Rattle.std.proofs.lemmas.List.Elements.{filter_map-append}
use Rattle.lock_word.specs.declared.ThreadId.{ThreadId}
use Rattle.fast_path.specs.declared.calls.Call.{Call}
use Rattle.step_core.specs.declared.machine.Move.{Move}
use Rattle.step_core.specs.declared.machine.Move.TheVariants as move
use Rattle.step_core.specs.Machine.{State, Steps, Thread}
use Rattle.jls_check.specs.MachineState.{MachineState, state}
use Rattle.jls_check.specs.Taking.{takes}
use Rattle.jls_check.proofs.Judged.{takes_only, takes_right}
use Rattle.jls_check.proofs.OneNext.{one_next}
use Rattle.explore.specs.declared.programs.Program.{Program}
use Rattle.explore.specs.States.{start_of, thread_of}
use Rattle.explore_java.specs.JavaRuns.{IsFront, IsLeft, attached_by, attached_in, attaches_of, called_by, calls_in, calls_of, is_for_want, moments_in, told_by, woken_by, woken_in}
use Rattle.explore_java.specs.JavaStates.{IsProper, JavaProgramState, after, count_of, is_left, is_moment, noted}
use Rattle.explore_java.proofs.CallFronts.{call_back, call_there, front_next, taken_back}
use Rattle.explore_java.proofs.Making.{below_out, live_below, noted_machine}
use Rattle.explore_java.proofs.Returning.{next_of}
use Rattle.explore_java.proofs.Playing.{IsPlay, call_left, left_call, told_behind}

-- what stands behind a list
get_seam : {A : Type 0} (xs ys : List A) (x : A) → slice_get (xs ++ x ∷ ys) (length xs) ≡ Some x
get_seam [] ys x = refl
get_seam (z ∷ xs) ys x = get_seam xs ys x

front_at : {A : Type 0} (xs zs ys : List A) (x : A) → IsFront (xs ++ x ∷ zs) ys → slice_get ys (length xs) ≡ Some x
front_at xs zs ys x h = (taken_back ys (length (xs ++ x ∷ zs)) (length xs) x (ap (λ (l : List _). slice_get l (length xs)) (sym h) ∙ get_seam xs zs x)).1

length_taken : {A : Type 0} (n : ℕ) (xs : List A) (x : A) → slice_get xs n ≡ Some x → length (take n xs) ≡ n
length_taken zero xs x h = refl
length_taken (suc n) [] x h = absurd (cc)
length_taken (suc n) (y ∷ xs) x h = ap suc (length_taken n xs x h)

-- what these moves keep to, behind the attaches
pub record KeepsTo (p : Program) (ms : List Move) : Type 0 where
  pub calls : (k : ℕ) → k < count_of p → IsFront (calls_in (thread_of k) ms) (calls_of p k)
  pub moments : IsFront (moments_in ms) p.moments.items
  pub woken : p.spurious ≡ false → woken_in ms ≡ []
  pub attaches : attached_in ms ≡ []

-- what a list tells at a move
told_at : {A : Type 0} (g : Move → Option A) (ms : List Move) (m : Move) (todo : List Move) (x : A) → g m ≡ Some x
    → filter_map g (ms ++ m ∷ todo) ≡ filter_map g ms ++ x ∷ filter_map g todo
told_at g ms m todo x e = filter_map-append g ms (m ∷ todo) ∙ ap (λ o. filter_map g ms ++ cons_option o (filter_map g todo)) e

never_none : {A : Type 0} (xs ys : List A) (x : A) → xs ++ x ∷ ys ≡ [] → ⊥
never_none [] ys x e = cc
never_none (z ∷ xs) ys x e = cc

-- the moves that the program leaves behind a play are those that are left in its state
module _ (p : Program) (ms : List Move) (s : JavaProgramState) (play : IsPlay p ms s) (proper : IsProper p s) where
  -- the call that the machine makes next is the next one of its thread
  call_at_play : (t : ThreadId) (c : Call) → t.0 < count_of p → slice_get (calls_of p t.0) (length (calls_in t ms)) ≡ Some c → is_left p s (move.Call t c) ≡ true
  call_at_play t c lt h =
      let called = play.calls t.0 lt in
      left_call p s t c play.each lt
      (call_back p t.0 (next_of s t.0) c called.from
      (front_next (next_of s t.0 - start_of p t.0) (calls_of p t.0) c (ap (λ (cs : List Call). slice_get (calls_of p t.0) (length cs)) (sym called.made) ∙ h)))

  moment_at_play : (now : ℕ) → slice_get p.moments.items (length (moments_in ms)) ≡ Some now → is_left p s (move.Time now) ≡ true
  moment_at_play now h =
      let at = front_next s.told p.moments.items now (ap (λ (ns : List ℕ). slice_get p.moments.items (length ns)) (sym play.moments) ∙ h) in
      ap (is_moment now) at ∙ eq-eqb now now refl

  pub live_here : (t : ThreadId) (y : Thread) → (state s.machine).thread t ≡ Some y → t.0 < count_of p
  live_here t y e = live_below (count_of p) (state s.machine) t y (below_out (count_of p) s.machine proper.below) e

  -- a move of a list that keeps to the program
  pub left_next : (m : Move) (todo : List Move) (y : State) → KeepsTo p (ms ++ m ∷ todo) → is_for_want m ≡ false → Steps (state s.machine) m y → is_left p s m ≡ true
  left_next (move.Attach t) todo y keeps want h = absurd (never_none (attached_in ms) (attached_in todo) t (sym (told_at attached_by ms (move.Attach t) todo t refl) ∙ keeps.attaches))
  left_next (move.Call t c) todo y keeps want h =
      let lt = live_here t _ h.1 in
      let own : called_by t (move.Call t c) ≡ Some c = ap (λ (b : Bool). if b then Some c else None) (eq-eqb t.0 t.0 refl) in
      call_at_play t c lt
      (front_at (calls_in t ms) (calls_in t todo) (calls_of p t.0) c
      (subst (λ (cs : List Call). IsFront cs (calls_of p t.0)) (told_at (called_by t) ms (move.Call t c) todo c own) (keeps.calls t.0 lt)))
  left_next (move.Spurious t) todo y keeps want h = by p.spurious refl
    where
      by : (b : Bool) → p.spurious ≡ b → p.spurious ≡ true
      by true e = e
      by false e = absurd (never_none (woken_in ms) (woken_in todo) t (sym (told_at woken_by ms (move.Spurious t) todo t refl) ∙ keeps.woken e))
  left_next (move.Refuse t c) todo y keeps want h = ap (λ (b : Bool). if b then false else true) want
  left_next (move.Time now) todo y keeps want h =
      moment_at_play now
      (front_at (moments_in ms) (moments_in todo) p.moments.items now
      (subst (λ (ns : List ℕ). IsFront ns p.moments.items) (told_at told_by ms (move.Time now) todo now refl) keeps.moments))
  left_next m todo y keeps want h = refl

  -- a lawful move that is left leads on
  pub leads_on : (m : Move) (y : State) → is_left p s m ≡ true → Steps (state s.machine) m y → (u : JavaProgramState) × (after p s m ≡ Some u) × (state u.machine ≡ y)
  leads_on m y left h = by (takes s.machine m) refl
    where
      by : (o : Option MachineState) → takes s.machine m ≡ o → (u : JavaProgramState) × (after p s m ≡ Some u) × (state u.machine ≡ y)
      by None e = absurd (takes_only s.machine m y e h)
      by (Some w) e = (
        noted s m w,
        rw (left, e) refl,
        ap state (noted_machine s m w) ∙ one_next m (state s.machine) (state w) y (takes_right s.machine m w proper.sound e) h,
      )

  -- and what is left there, the program leaves behind the play
  pub left_behind : (m : Move) → is_left p s m ≡ true → IsLeft p (attaches_of p ++ ms) m
  left_behind (move.Attach t) left = absurd (cc)
  left_behind (move.Call t c) left =
      let is = call_left p s t c play.each left in
      let called = play.calls t.0 is.within in
      let there = call_there p t.0 (next_of s t.0) c called.from is.below is.is in
      let count : length (calls_in t (attaches_of p ++ ms)) ≡ next_of s t.0 - start_of p t.0 =
      ap (λ (cs : List Call). length cs) (told_behind (called_by t) (λ u. refl) p ms ∙ called.made) ∙ length_taken (next_of s t.0 - start_of p t.0) (calls_of p t.0) c there in
      (is.within, ap (λ (n : ℕ). slice_get (calls_of p t.0) n) count ∙ there)
  left_behind (move.Spurious t) left = left
  left_behind (move.Time now) left =
      let there : slice_get p.moments.items s.told ≡ Some now = at (slice_get p.moments.items s.told) left in
      let count : length (moments_in (attaches_of p ++ ms)) ≡ s.told =
      ap (λ (ns : List ℕ). length ns) (told_behind told_by (λ u. refl) p ms ∙ play.moments) ∙ length_taken s.told p.moments.items now there in
      ap (λ (n : ℕ). slice_get p.moments.items n) count ∙ there
    where
      at : (o : Option ℕ) → is_moment now o ≡ true → o ≡ Some now
      at None h = absurd (cc)
      at (Some m) h = ap Some (sym (eqb-true now m h))
  left_behind m left = tt

  -- the other way round, but for refusals for want
  pub behind_left : (m : Move) → IsLeft p (attaches_of p ++ ms) m → is_for_want m ≡ false → is_left p s m ≡ true
  behind_left (move.Attach t) left want = absurd left
  behind_left (move.Call t c) left want =
      call_at_play t c left.0 (ap (λ (cs : List Call). slice_get (calls_of p t.0) (length cs)) (sym (told_behind (called_by t) (λ u. refl) p ms)) ∙ left.1)
  behind_left (move.Spurious t) left want = left
  behind_left (move.Refuse t c) left want = ap (λ (b : Bool). if b then false else true) want
  behind_left (move.Time now) left want =
      moment_at_play now (ap (λ (ns : List ℕ). slice_get p.moments.items (length ns)) (sym (told_behind told_by (λ u. refl) p ms)) ∙ left)
  behind_left m left want = refl
