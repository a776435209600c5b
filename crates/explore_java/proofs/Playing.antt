-- What a play has told: the calls that its threads have made, and the moments of the clock.
use native.Mathlib.Omega.{arith}
use Rattle.std.proofs.Common.{◌≡◌, ◌≤◌, ◌⊎◌, inl, inr, ◌∙◌, subst, sym, ap, refl, ℕ, zero, suc, ◌+◌, ◌-◌, ◌<◌, List, [], ◌∷◌, ◌++◌, length, Option, Some, None, Bool, true, false, if◌then◌else◌, take, append-nil}
use Rattle.std.specs.Prelude.{◌&&◌, nat_lt, map, replicate, slice_get, slice_index_or, slice_set}
use Rattle.std.specs.List.{cons_option, filter_map}
use Rattle.std.specs.Option.{option_map, option_to_list}
use Rattle.std.proofs.lemmas.Bool.{cases_eq, eq-eqb, eqb-true, lt-ltb, ltb-true, ne_eqb}
use Rattle.std.proofs.lemmas.List.{get_or-set_other, get_or-set_same, length-set, map-append}
use Rattle.std.proofs.lemmas.Slice.Eq.{bytes_eq-Decides}
use Rattle.std.proofs.lemmas.List.Elements.{filter_map-append}
use Rattle.std.proofs.lemmas.Option.{slice_get-get_or}
use Rattle.lock_word.specs.declared.ThreadId.{ThreadId}
use Rattle.fat_monitor.specs.declared.actions.Reply.{Reply}
use Rattle.fast_path.specs.declared.calls.Call.{Call}
use Rattle.step_core.specs.declared.machine.Move.{Move}
use Rattle.step_core.specs.declared.machine.Move.TheVariants as move
use Rattle.step_core.specs.Machine.{Run, Steps, opening as opening_state}
use Rattle.step_core.proofs.Sound.AllSteps.{Run-append}
use Rattle.jls_check.specs.declared.threads.Live.{Live}
use Rattle.jls_check.specs.LiveThreads.{live_of}
use Rattle.jls_check.specs.Monitors.{untouched}
use Rattle.jls_check.specs.MachineState.{MachineState, opening_machine, state, thread_of as thread_in}
use Rattle.jls_check.proofs.Judging.{attach_right}
use Rattle.jls_check.proofs.States.{state-opening}
use Rattle.jls_check.specs.Numbers.{call_numbers}
use Rattle.jls_check.specs.Taking.{attach, attach_at, taken}
use Rattle.explore.specs.declared.programs.Program.{Program}
use Rattle.explore.specs.States.{call_below, end_of, start_of, thread_of}
use Rattle.explore_java.specs.JavaRuns.{NoneForWant, attached_by, attached_in, attaches_of, called_by, calls_in, calls_of, is_for_want, moments_in, threads_below, told_by, woken_by, woken_in}
use Rattle.explore_java.specs.JavaStates.{JavaProgramState, after, attached, call_at, count_of, is_call, is_left, is_moment, is_want, noted, opening, played, with_call, with_reply}
use Rattle.explore_java.proofs.CallFronts.{call_there, take_more}
use Rattle.explore_java.proofs.Choosing.{after_taken, same_call}
use Rattle.explore_java.proofs.Making.{attached_out, opening_out}
use Rattle.explore_java.proofs.Returning.{next_of}
use Rattle.explore_java.proofs.Trying.{played_more}

-- ---- what a play has told

-- the calls that thread k has made
pub record HasCalled (p : Program) (ms : List Move) (s : JavaProgramState) (k : ℕ) : Type 0 where
  pub from : start_of p k ≤ next_of s k
  pub made : calls_in (thread_of k) ms ≡ take (next_of s k - start_of p k) (calls_of p k)

-- Behind these moves the program is in this state: of each thread, which calls it has made, and which moments the clock
-- has told.
pub record IsPlay (p : Program) (ms : List Move) (s : JavaProgramState) : Type 0 where
  pub leads : played p ms ≡ Some s
  pub each : length s.nexts ≡ count_of p
  pub calls : (k : ℕ) → k < count_of p → HasCalled p ms s k
  pub moments : moments_in ms ≡ take s.told p.moments.items
  pub woken : p.spurious ≡ false → woken_in ms ≡ []
  pub attaches : attached_in ms ≡ []
  pub wants : NoneForWant ms

-- what the program leaves to the machine here is no refusal for want
pub not_for_want : (p : Program) (s : JavaProgramState) (m : Move) → is_left p s m ≡ true → is_for_want m ≡ false
not_for_want p s (move.Refuse t c) left = by (is_want c) left
  where
    by : (b : Bool) → (if b then false else true) ≡ true → b ≡ false
    by false e = refl
    by true e = absurd (cc)
not_for_want p s m left = refl

pub wants_more : (ms : List Move) (m : Move) → NoneForWant ms → is_for_want m ≡ false → NoneForWant (ms ++ m ∷ [])
wants_more [] m h e = (e, tt)
wants_more (n ∷ ms) m h e = (h.0, wants_more ms m h.1 e)

-- one move more that tells nothing of a kind, and one that tells something
pub told_same : {A : Type 0} (f : Move → Option A) (ms : List Move) (m : Move) → f m ≡ None → filter_map f (ms ++ m ∷ []) ≡ filter_map f ms
told_same f ms m e = filter_map-append f ms (m ∷ []) ∙ ap (λ o. filter_map f ms ++ cons_option o []) e ∙ append-nil (filter_map f ms)

pub told_more : {A : Type 0} (f : Move → Option A) (ms : List Move) (m : Move) (x : A) → f m ≡ Some x → filter_map f (ms ++ m ∷ []) ≡ filter_map f ms ++ x ∷ []
told_more f ms m x e = filter_map-append f ms (m ∷ []) ∙ ap (λ o. filter_map f ms ++ cons_option o []) e

-- what is known of a call that is left to a thread
pub record IsNextCall (p : Program) (s : JavaProgramState) (k : ℕ) (c : Call) : Type 0 where
  pub within : k < count_of p
  pub below : next_of s k < end_of p k
  pub is : slice_get p.calls.items (next_of s k) ≡ Some c

pub call_left : (p : Program) (s : JavaProgramState) (t : ThreadId) (c : Call) → length s.nexts ≡ count_of p → is_left p s (move.Call t c) ≡ true → IsNextCall p s t.0 c
call_left p s t c each left = at (nat_lt t.0 (count_of p)) refl left
  where
    at : (b : Bool) → nat_lt t.0 (count_of p) ≡ b → is_call c (if b then call_at p t.0 (slice_get s.nexts t.0) else None) ≡ true → IsNextCall p s t.0 c
    at false e h = absurd (cc)
    at true e h =
        let lt = ltb-true t.0 (count_of p) e in
        let there : slice_get s.nexts t.0 ≡ Some (next_of s t.0) = slice_get-get_or s.nexts t.0 0 (omega (arith, lt, each)) in
        deep lt (nat_lt (next_of s t.0) (end_of p t.0)) refl (subst (λ (o : Option ℕ). is_call c (call_at p t.0 o) ≡ true) there h)
      where
        deep : t.0 < count_of p → (b : Bool) → nat_lt (next_of s t.0) (end_of p t.0) ≡ b
            → is_call c (if b then slice_get p.calls.items (next_of s t.0) else None) ≡ true → IsNextCall p s t.0 c
        deep lt false g h = absurd (cc)
        deep lt true g h = record {
          within = lt;
          below = ltb-true (next_of s t.0) (end_of p t.0) g;
          is = same (slice_get p.calls.items (next_of s t.0)) h;
        }
          where
            same : (o : Option Call) → is_call c o ≡ true → o ≡ Some c
            same None h = absurd (cc)
            same (Some d) h = ap Some (sym (same_call c d h))

-- and the other way round
pub left_call : (p : Program) (s : JavaProgramState) (t : ThreadId) (c : Call) → length s.nexts ≡ count_of p → t.0 < count_of p
    → call_below p t.0 (next_of s t.0) ≡ Some c → is_left p s (move.Call t c) ≡ true
left_call p s t c each lt below =
    let there : slice_get s.nexts t.0 ≡ Some (next_of s t.0) = slice_get-get_or s.nexts t.0 0 (omega (arith, lt, each)) in
    rw (lt-ltb t.0 (count_of p) lt, there, below) ((bytes_eq-Decides (call_numbers c) (call_numbers c)).1 refl)

-- one move more, which is no call, and tells no moment
module _ (p : Program) (ms : List Move) (s : JavaProgramState) (play : IsPlay p ms s) where
  pub same_calls : (u : JavaProgramState) (m : Move) (k : ℕ) → u.nexts ≡ s.nexts → called_by (thread_of k) m ≡ None → k < count_of p → HasCalled p (ms ++ m ∷ []) u k
  same_calls u m k nexts none lt =
      let h = play.calls k lt in
      let n : next_of u k ≡ next_of s k = ap (λ (ns : List ℕ). slice_index_or ns k 0) nexts in
      record {
        from = subst (λ (i : ℕ). start_of p k ≤ i) (sym n) h.from;
        made = told_same (called_by (thread_of k)) ms m none ∙ h.made ∙ ap (λ (i : ℕ). take (i - start_of p k) (calls_of p k)) (sym n);
      }

  pub other_next : (u : JavaProgramState) (m : Move) → after p s m ≡ Some u → u.nexts ≡ s.nexts → u.told ≡ s.told → ((t : ThreadId) → called_by t m ≡ None)
      → told_by m ≡ None → attached_by m ≡ None → (p.spurious ≡ false → woken_by m ≡ None) → is_for_want m ≡ false → IsPlay p (ms ++ m ∷ []) u
  other_next u m leads nexts told calls moments attaches woken wants = record {
    leads = played_more p ms m s (Some u) play.leads leads;
    each = ap (λ (ns : List ℕ). length ns) nexts ∙ play.each;
    calls = λ k lt. same_calls u m k nexts (calls (thread_of k)) lt;
    moments = told_same told_by ms m moments ∙ play.moments ∙ ap (λ (n : ℕ). take n p.moments.items) (sym told);
    woken = λ never. told_same woken_by ms m (woken never) ∙ play.woken never;
    attaches = told_same attached_by ms m attaches ∙ play.attaches;
    wants = wants_more ms m play.wants wants;
  }

  pub time_next : (u : JavaProgramState) (now : ℕ) → after p s (move.Time now) ≡ Some u → is_left p s (move.Time now) ≡ true → u.nexts ≡ s.nexts → u.told ≡ s.told + 1
      → IsPlay p (ms ++ move.Time now ∷ []) u
  time_next u now leads left nexts told = record {
    leads = played_more p ms (move.Time now) s (Some u) play.leads leads;
    each = ap (λ (ns : List ℕ). length ns) nexts ∙ play.each;
    calls = λ k lt. same_calls u (move.Time now) k nexts refl lt;
    moments =
        let at : slice_get p.moments.items s.told ≡ Some now = moment (slice_get p.moments.items s.told) left in
        let one : suc s.told ≡ u.told = omega (arith, told) in
        told_more told_by ms (move.Time now) now refl ∙ ap (λ (ns : List ℕ). ns ++ now ∷ []) play.moments
        ∙ ap (λ (o : Option ℕ). take s.told p.moments.items ++ option_to_list o) (sym at) ∙ sym (take_more p.moments.items s.told) ∙ ap (λ (n : ℕ). take n p.moments.items) one;
    woken = λ never. told_same woken_by ms (move.Time now) refl ∙ play.woken never;
    attaches = told_same attached_by ms (move.Time now) refl ∙ play.attaches;
    wants = wants_more ms (move.Time now) play.wants refl;
  }
    where
      moment : (o : Option ℕ) → is_moment now o ≡ true → o ≡ Some now
      moment None h = absurd (cc)
      moment (Some m) h = ap Some (sym (eqb-true now m h))

  -- a call more of thread j
  pub call_next : (u : JavaProgramState) (t : ThreadId) (c : Call) → after p s (move.Call t c) ≡ Some u → is_left p s (move.Call t c) ≡ true
      → u.nexts ≡ slice_set s.nexts t.0 (next_of s t.0 + 1) → u.told ≡ s.told → IsPlay p (ms ++ move.Call t c ∷ []) u
  call_next u t c leads left nexts told =
      let is = call_left p s t c play.each left in
      record {
        leads = played_more p ms (move.Call t c) s (Some u) play.leads leads;
        each = ap (λ (ns : List ℕ). length ns) nexts ∙ length-set s.nexts t.0 (next_of s t.0 + 1) ∙ play.each;
        calls = λ k lt. by k lt is (cases_eq k t.0);
        moments = told_same told_by ms (move.Call t c) refl ∙ play.moments ∙ ap (λ (n : ℕ). take n p.moments.items) (sym told);
        woken = λ never. told_same woken_by ms (move.Call t c) refl ∙ play.woken never;
        attaches = told_same attached_by ms (move.Call t c) refl ∙ play.attaches;
        wants = wants_more ms (move.Call t c) play.wants refl;
      }
    where
      mine : IsNextCall p s t.0 c → HasCalled p (ms ++ move.Call t c ∷ []) u t.0
      mine is =
          let h = play.calls t.0 is.within in
          let from = h.from in
          let lt = is.within in
          let each = play.each in
          let n : next_of u t.0 ≡ next_of s t.0 + 1 =
          ap (λ (ns : List ℕ). slice_index_or ns t.0 0) nexts ∙ get_or-set_same s.nexts t.0 (next_of s t.0 + 1) 0 (omega (arith, lt, each)) in
          let one : suc (next_of s t.0 - start_of p t.0) ≡ next_of u t.0 - start_of p t.0 = omega (arith, n, from) in
          let there = call_there p t.0 (next_of s t.0) c from is.below is.is in
          record {
            from = omega (arith, from, n);
            made = told_more (called_by (thread_of t.0)) ms (move.Call t c) c (ap (λ (b : Bool). if b then Some c else None) (eq-eqb t.0 t.0 refl))
                ∙ ap (λ (cs : List Call). cs ++ c ∷ []) h.made
                ∙ ap (λ (o : Option Call). take (next_of s t.0 - start_of p t.0) (calls_of p t.0) ++ option_to_list o) (sym there)
                ∙ sym (take_more (calls_of p t.0) (next_of s t.0 - start_of p t.0))
                ∙ ap (λ (i : ℕ). take i (calls_of p t.0)) one;
          }

      by : (k : ℕ) → k < count_of p → IsNextCall p s t.0 c → (k ≡ t.0) ⊎ (k ≡ t.0 → ⊥) → HasCalled p (ms ++ move.Call t c ∷ []) u k
      by k lt is (inl same) = subst (λ (i : ℕ). HasCalled p (ms ++ move.Call t c ∷ []) u i) (sym same) (mine is)
      by k lt is (inr ne) =
          let h = play.calls k lt in
          let n : next_of u k ≡ next_of s k = ap (λ (ns : List ℕ). slice_index_or ns k 0) nexts ∙ get_or-set_other s.nexts t.0 k (next_of s t.0 + 1) 0 ne in
          record {
            from = subst (λ (i : ℕ). start_of p k ≤ i) (sym n) h.from;
            made = told_same (called_by (thread_of k)) ms (move.Call t c) (ap (λ (b : Bool). if b then Some c else None) (ne_eqb t.0 k (λ e. ne (sym e))))
                ∙ h.made ∙ ap (λ (i : ℕ). take (i - start_of p k) (calls_of p k)) (sym n);
          }

  pub reply_nexts : (r : Reply) (q : JavaProgramState) (o : Option ℕ) → ((with_reply q r o).nexts ≡ q.nexts) × ((with_reply q r o).told ≡ q.told)
  reply_nexts r q None = (refl, refl)
  reply_nexts r q (Some n) = at (nat_lt 0 n && nat_lt (n - 1) (length q.replies))
    where
      told : JavaProgramState
      told = record q { replies = slice_set q.replies (n - 1) (Some r) }

      at : (b : Bool) → ((if b then told else q).nexts ≡ q.nexts) × ((if b then told else q).told ≡ q.told)
      at true = (refl, refl)
      at false = (refl, refl)

  -- any move more
  pub by_move : (m : Move) (v : MachineState) → is_left p s m ≡ true → after p s m ≡ Some (noted s m v) → IsPlay p (ms ++ m ∷ []) (noted s m v)
  by_move (move.Attach t) v left leads = absurd (cc)
  by_move (move.Call t c) v left leads =
      let is = call_left p s t c play.each left in
      let lt = is.within in let each = play.each in
      let there : slice_get s.nexts t.0 ≡ Some (next_of s t.0) = slice_get-get_or s.nexts t.0 0 (omega (arith, lt, each)) in
      call_next (noted s (move.Call t c) v) t c leads left
      (ap (λ (o : Option ℕ). (with_call (record s { machine = v }) t.0 o).nexts) there)
      (ap (λ (o : Option ℕ). (with_call (record s { machine = v }) t.0 o).told) there)
  by_move (move.Return t r) v left leads =
      let same = reply_nexts r (record s { machine = v }) (slice_get s.nexts t.0) in
      other_next (noted s (move.Return t r) v) (move.Return t r) leads same.0 same.1 (λ u. refl) refl refl (λ never. refl) refl
  by_move (move.Time now) v left leads = time_next (noted s (move.Time now) v) now leads left refl refl
  by_move (move.Spurious t) v left leads =
      other_next (noted s (move.Spurious t) v) (move.Spurious t) leads refl refl (λ u. refl) refl refl (λ never. absurd (let f = sym never ∙ left in cc)) refl
  by_move (move.Refuse t c) v left leads =
      other_next (noted s (move.Refuse t c) v) (move.Refuse t c) leads refl refl (λ u. refl) refl refl (λ never. refl) (not_for_want p s (move.Refuse t c) left)
  by_move m v left leads = other_next (noted s m v) m leads refl refl (λ u. refl) refl refl (λ never. refl) refl

-- where a program begins
pub begin_play : (p : Program) → IsPlay p [] (opening p)
begin_play p = record {
  leads = refl;
  each = refl;
  calls = λ k lt. record { from = omega arith; made = ap (λ (n : ℕ). take n (calls_of p k)) (let z : 0 ≡ start_of p k - start_of p k = omega arith in z) };
  moments = refl;
  woken = λ never. refl;
  attaches = refl;
  wants = tt;
}

pub play_next : (p : Program) (ms : List Move) (s u : JavaProgramState) (m : Move) → IsPlay p ms s → after p s m ≡ Some u → IsPlay p (ms ++ m ∷ []) u
play_next p ms s u m play e =
    let x = after_taken p s m u e in
    subst (λ (t : JavaProgramState). IsPlay p (ms ++ m ∷ []) t) (sym x.noted)
    (by_move p ms s play m x.machine x.left (e ∙ ap Some x.noted))

-- ---- a play is a run

-- the attaches tell nothing but threads
pub attaches_tell : {A : Type 0} (g : Move → Option A) → ((t : ThreadId) → g (move.Attach t) ≡ None) → (ts : List ThreadId)
    → filter_map g (map (λ (t : ThreadId). move.Attach t) ts) ≡ []
attaches_tell g none [] = refl
attaches_tell g none (t ∷ ts) = ap (λ o. cons_option o (filter_map g (map (λ (u : ThreadId). move.Attach u) ts))) (none t) ∙ attaches_tell g none ts

pub attaches_want : (ts : List ThreadId) (ms : List Move) → NoneForWant ms → NoneForWant (map (λ (t : ThreadId). move.Attach t) ts ++ ms)
attaches_want [] ms h = h
attaches_want (t ∷ ts) ms h = (refl, attaches_want ts ms h)

-- what is told behind the attaches
pub told_behind : {A : Type 0} (g : Move → Option A) → ((t : ThreadId) → g (move.Attach t) ≡ None) → (p : Program) (ms : List Move)
    → filter_map g (attaches_of p ++ ms) ≡ filter_map g ms
told_behind g none p ms =
    filter_map-append g (attaches_of p) ms ∙ ap (λ xs. xs ++ filter_map g ms) (attaches_tell g none (threads_below (count_of p)))

-- the machine in which the threads were attached
abbrev pub first_machine : Program → MachineState
first_machine p = opening_machine (length p.lows.items)

-- attaching a thread more
pub attach_more : (p : Program) (n : ℕ) → Steps (state (attached (first_machine p) n)) (move.Attach (thread_of n)) (state (attached (first_machine p) (suc n)))
attach_more p n = by (attach v t) refl
  where
    v : MachineState
    v = attached (first_machine p) n

    t : ThreadId
    t = thread_of n

    nobody : live_of (attached (first_machine p) n).threads (thread_of n) ≡ None
    nobody = below (live_of (attached (first_machine p) n).threads (thread_of n)) (attached_out (first_machine p) n (opening_out p) (thread_of n) (omega arith))
      where
        below : (o : Option Live) → option_map thread_in o ≡ None → o ≡ None
        below None e = refl
        below (Some x) e = absurd (cc)

    by : (o : Option MachineState) → attach (attached (first_machine p) n) (thread_of n) ≡ o
        → Steps (state (attached (first_machine p) n)) (move.Attach (thread_of n)) (state (taken (attached (first_machine p) n) o).after)
    by None e = absurd (let g = sym e ∙ ap (attach_at (attached (first_machine p) n) (thread_of n)) nobody in cc)
    by (Some w) e = attach_right (attached (first_machine p) n) (thread_of n) w e

pub attaches_run : (p : Program) (n : ℕ) → Run (opening_state (length p.lows.items)) (map (λ (t : ThreadId). move.Attach t) (threads_below n)) (state (attached (first_machine p) n))
attaches_run p zero = state-opening (replicate (length p.lows.items) untouched) (length p.lows.items) refl
attaches_run p (suc n) =
    subst (λ (ms : List Move). Run (opening_state (length p.lows.items)) ms (state (attached (first_machine p) (suc n))))
    (sym (map-append (λ (t : ThreadId). move.Attach t) (threads_below n) (thread_of n ∷ [])))
    (Run-append _ _ _ _ _ (attaches_run p n) (state (attached (first_machine p) (suc n)), attach_more p n, refl))
