-- The calls of a thread return with the replies that the state has for them.
use native.Mathlib.Omega.{arith}
use Rattle.std.proofs.Common.{◌≡◌, ◌≤◌, ◌⊎◌, inl, inr, ◌∙◌, subst, sym, ap, refl, ℕ, zero, suc, ◌+◌, ◌-◌, ◌<◌, ◌==◌, List, [], ◌∷◌, ◌++◌, length, Option, Some, None, Bool, true, false, if◌then◌else◌, append-nil}
use Rattle.std.specs.Prelude.{replicate, slice_index_or, slice_set}
use Rattle.std.specs.List.{cons_option, filter_map}
use Rattle.std.specs.Option.{option_map}
use Rattle.std.proofs.lemmas.Bool.{cases_eq, cases_lt, eq-eqb, ne_eqb}
use Rattle.std.proofs.lemmas.List.{get_or-set_other, get_or-set_same, length-replicate, length-set}
use Rattle.std.proofs.lemmas.List.Elements.{filter_map-append}
use Rattle.lock_word.specs.declared.ObjectId.{ObjectId}
use Rattle.lock_word.specs.declared.ThreadId.{ThreadId}
use Rattle.fat_monitor.specs.declared.actions.Reply.{Reply}
use Rattle.fat_monitor.specs.declared.actions.Reply.TheVariants as reply
use Rattle.fat_monitor.specs.declared.actions.Why.TheVariants as why
use Rattle.fast_path.specs.declared.calls.Call.{Call}
use Rattle.step_core.specs.declared.machine.Doing.{Doing}
use Rattle.step_core.specs.declared.machine.Doing.TheVariants.{Idle, Wants, Waits, Back, Has}
use Rattle.step_core.specs.declared.machine.Move.{Move}
use Rattle.step_core.specs.declared.machine.Move.TheVariants as move
use Rattle.step_core.specs.Machine.{State, Steps, Thread, after_interrupt, after_notify_all, all_notified, with_interrupt, with_reply as reply_given, with_thread}
use Rattle.jls_check.specs.MachineState.{state}
use Rattle.explore.specs.declared.programs.Program.{Program}
use Rattle.explore.specs.States.{end_of, start_of, thread_of}
use Rattle.explore.proofs.Parts.{ends_before, ends_within, part_none, part_other, part_own}
use Rattle.explore_java.specs.JavaRuns.{returned_by, returns_in}
use Rattle.explore_java.specs.JavaStates.{JavaProgramState, count_of, opening, replies_of}

-- ---- who is in a call

abbrev pub is_busy_in : Doing → Bool
is_busy_in Idle = false
is_busy_in (Wants c) = true
is_busy_in (Waits o n d) = true
is_busy_in (Back o n w) = true
is_busy_in (Has r) = true

abbrev pub is_busy : Option Thread → Bool
is_busy None = false
is_busy (Some x) = is_busy_in x.act

-- thread u is in a call there just where it is here
abbrev IsAsBusy : State → State → ThreadId → Type 0
IsAsBusy x y u = is_busy (y.thread u) ≡ is_busy (x.thread u)

busy_with : (x : State) (t : ThreadId) (y : Option Thread) → is_busy y ≡ is_busy (x.thread t) → (u : ThreadId) → IsAsBusy x (with_thread x t y) u
busy_with x t y same u = by (cases_eq u.0 t.0)
  where
    by : (u.0 ≡ t.0) ⊎ (u.0 ≡ t.0 → ⊥) → IsAsBusy x (with_thread x t y) u
    by (inl e) =
        let here : t ≡ u = λ i. record { 0 = sym e i } in
        ap (λ (b : Bool). is_busy (if b then y else x.thread u)) (eq-eqb u.0 t.0 e) ∙ same ∙ ap (λ (v : ThreadId). is_busy (x.thread v)) here
    by (inr ne) = ap (λ (b : Bool). is_busy (if b then y else x.thread u)) (ne_eqb u.0 t.0 ne)

-- a thread that was in a call is in one, whatever it does there
busy_still : (x : State) (t : ThreadId) (z : Thread) (y : Thread) → x.thread t ≡ Some z → is_busy_in z.act ≡ true → is_busy_in y.act ≡ true → (u : ThreadId) → IsAsBusy x (with_thread x t (Some y)) u
busy_still x t z y is was now u = busy_with x t (Some y) (now ∙ sym was ∙ ap is_busy (sym is)) u

notified_busy : (o : ObjectId) (d : Doing) → is_busy_in (after_notify_all o d) ≡ is_busy_in d
notified_busy o Idle = refl
notified_busy o (Wants c) = refl
notified_busy o (Waits p n d) = by (p.0 == o.0)
  where
    by : (b : Bool) → is_busy_in (if b then Back p n why.Notified else Waits p n d) ≡ true
    by true = refl
    by false = refl
notified_busy o (Back p n w) = refl
notified_busy o (Has r) = refl

all_busy : (x : State) (o : ObjectId) (u : ThreadId) → IsAsBusy x (all_notified x o) u
all_busy x o u = by (x.thread u)
  where
    by : (z : Option Thread) → is_busy (option_map (λ (w : Thread). record { flag = w.flag; act = after_notify_all o w.act }) z) ≡ is_busy z
    by None = refl
    by (Some z) = notified_busy o z.act

interrupted_busy : (d : Doing) → is_busy_in (after_interrupt d) ≡ is_busy_in d
interrupted_busy Idle = refl
interrupted_busy (Wants c) = refl
interrupted_busy (Waits o n d) = refl
interrupted_busy (Back o n w) = refl
interrupted_busy (Has r) = refl

-- a move of no call's edge
abbrev pub IsInside : Move → Type 0
IsInside (move.Attach t) = ⊥
IsInside (move.Call t c) = ⊥
IsInside (move.Return t r) = ⊥
IsInside m = Unit {0}

-- nobody begins a call or returns by it
busy_stays : (x y : State) (m : Move) → IsInside m → Steps x m y → (u : ThreadId) → IsAsBusy x y u
busy_stays x y (move.Attach t) inside h u = absurd inside
busy_stays x y (move.Call t c) inside h u = absurd inside
busy_stays x y (move.Return t r) inside h u = absurd inside
busy_stays x y (move.Lock t) inside h u = subst (λ (z : State). IsAsBusy x z u) (sym h.5) (busy_still x t _ _ h.2 refl refl u)
busy_stays x y (move.Unlock t) inside h u = subst (λ (z : State). IsAsBusy x z u) (sym h.5) (busy_still x t _ _ h.3 refl refl u)
busy_stays x y (move.Illegal t) inside h u = subst (λ (z : State). IsAsBusy x z u) (sym h.6) (busy_still x t _ _ h.3 refl refl u)
busy_stays x y (move.BadArgument t) inside h u = subst (λ (z : State). IsAsBusy x z u) (sym h.7) (busy_still x t _ _ h.4 refl refl u)
busy_stays x y (move.Early t) inside h u = subst (λ (z : State). IsAsBusy x z u) (sym h.6) (busy_still x t _ _ h.3 refl refl u)
busy_stays x y (move.Wait t) inside h u = subst (λ (z : State). IsAsBusy x z u) (sym h.6) (busy_still x t _ _ h.3 refl refl u)
busy_stays x y (move.Notify t (Some v)) inside h u =
    let mid : State = reply_given x t h.0 reply.Notified in
    let first = busy_still x t _ (record { flag = h.0; act = Has reply.Notified }) h.2 refl refl in
    let there : is_busy (mid.thread v) ≡ true = first v ∙ ap is_busy h.7 in
    subst (λ (z : State). IsAsBusy x z u) (sym h.8) (busy_with mid v _ (sym there) u ∙ first u)
busy_stays x y (move.Notify t None) inside h u = subst (λ (z : State). IsAsBusy x z u) (sym h.5) (busy_still x t _ _ h.2 refl refl u)
busy_stays x y (move.NotifyAll t) inside h u =
    let mid : State = all_notified x h.1 in
    let there : is_busy (mid.thread t) ≡ true = all_busy x h.1 t ∙ ap is_busy h.2 in
    subst (λ (z : State). IsAsBusy x z u) (sym h.4) (busy_with mid t (Some (record { flag = h.0; act = Has reply.Notified })) (sym there) u ∙ all_busy x h.1 u)
busy_stays x y (move.Interrupt t) inside h u =
    let mid : State = with_thread x h.1 (Some (with_interrupt h.2)) in
    let first = busy_with x h.1 (Some (with_interrupt h.2)) (interrupted_busy h.2.act ∙ ap is_busy (sym h.4)) in
    let there : is_busy (mid.thread t) ≡ true = first t ∙ ap is_busy h.3 in
    subst (λ (z : State). IsAsBusy x z u) (sym h.5) (busy_with mid t (Some (record { flag = if t.0 == h.1.0 then true else h.0; act = Has reply.Done })) (sym there) u ∙ first u)
busy_stays x y (move.TestClear t) inside h u = subst (λ (z : State). IsAsBusy x z u) (sym h.2) (busy_still x t _ _ h.1 refl refl u)
busy_stays x y (move.Expire t) inside h u = subst (λ (z : State). IsAsBusy x z u) (sym h.6) (busy_still x t _ _ h.4 refl refl u)
busy_stays x y (move.Spurious t) inside h u = subst (λ (z : State). IsAsBusy x z u) (sym h.5) (busy_still x t _ _ h.4 refl refl u)
busy_stays x y (move.Relock t) inside h u = subst (λ (z : State). IsAsBusy x z u) (sym h.6) (busy_still x t _ _ h.4 refl refl u)
busy_stays x y (move.Ask t) inside h u = subst (λ (z : State). IsAsBusy x z u) (sym h.5) (busy_still x t _ _ h.3 refl refl u)
busy_stays x y (move.Refuse t c) inside h u = subst (λ (z : State). IsAsBusy x z u) (sym h.4) (busy_still x t _ _ h.2 refl refl u)
busy_stays x y (move.End t) inside h u = subst (λ (z : State). IsAsBusy x z u) (sym h.3) (busy_still x t _ _ h.1 refl refl u)
busy_stays x y (move.Time now) inside h u = ap (λ (z : State). is_busy (z.thread u)) h.1

-- ---- what has returned

abbrev pub one_if : Bool → ℕ
one_if true = 1
one_if false = 0

-- where the call that thread k makes next stands
abbrev pub next_of : JavaProgramState → ℕ → ℕ
next_of s k = slice_index_or s.nexts k 0

abbrev pub in_call : JavaProgramState → ℕ → Bool
in_call s k = is_busy ((state s.machine).thread (thread_of k))

-- Thread k is in one of its own calls, if it is in one; from there on, or from its next call on, none has a reply; and its
-- calls have returned with the replies before.
pub record HasReturned (p : Program) (ms : List Move) (s : JavaProgramState) (k : ℕ) : Type 0 where
  pub from : start_of p k ≤ next_of s k
  pub own : in_call s k ≡ true → (start_of p k < next_of s k) × (next_of s k ≤ end_of p k)
  pub later : (i : ℕ) → next_of s k - one_if (in_call s k) ≤ i → i < end_of p k → slice_index_or s.replies i None ≡ None
  pub said : returns_in (thread_of k) ms ≡ replies_of p s k

pub record AreReturned (p : Program) (ms : List Move) (s : JavaProgramState) : Type 0 where
  pub long : length s.replies ≡ length p.calls.items
  pub each : length s.nexts ≡ count_of p
  pub threads : (k : ℕ) → k < count_of p → HasReturned p ms s k

-- a move more that is no return of thread k
unsaid : (k : ℕ) (ms : List Move) (m : Move) → returned_by (thread_of k) m ≡ None → returns_in (thread_of k) (ms ++ m ∷ []) ≡ returns_in (thread_of k) ms
unsaid k ms m e =
    filter_map-append (returned_by (thread_of k)) ms (m ∷ [])
    ∙ ap (λ (o : Option Reply). returns_in (thread_of k) ms ++ cons_option o []) e ∙ append-nil (returns_in (thread_of k) ms)

-- where nothing changes for a thread
still_returned : (p : Program) (ms : List Move) (s u : JavaProgramState) (m : Move) (k : ℕ) → HasReturned p ms s k
    → next_of u k ≡ next_of s k → in_call u k ≡ in_call s k → u.replies ≡ s.replies → returned_by (thread_of k) m ≡ None → HasReturned p (ms ++ m ∷ []) u k
still_returned p ms s u m k h next busy replies none = record {
  from = subst (λ (n : ℕ). start_of p k ≤ n) (sym next) h.from;
  own = λ is. subst (λ (n : ℕ). (start_of p k < n) × (n ≤ end_of p k)) (sym next) (h.own (sym busy ∙ is));
  later = λ i le lt.
      ap (λ (rs : List (Option Reply)). slice_index_or rs i None) replies
      ∙ h.later i (subst (λ (n : ℕ). n ≤ i) (λ j. next j - one_if (busy j)) le) lt;
  said = unsaid k ms m none ∙ h.said ∙ ap (λ (rs : List (Option Reply)). replies_part rs) (sym replies);
}
  where
    replies_part : List (Option Reply) → List Reply
    replies_part rs = replies_of p (record s { replies = rs }) k

plus_less : (n : ℕ) → n + 1 - 1 ≡ n - 0
plus_less n = omega arith

-- another thread is as busy as before where one is written
other_busy : (x : State) (t : ThreadId) (y : Option Thread) (k : ℕ) → (k ≡ t.0 → ⊥) → is_busy ((with_thread x t y).thread (thread_of k)) ≡ is_busy (x.thread (thread_of k))
other_busy x t y k ne = ap (λ (b : Bool). is_busy (if b then y else x.thread (thread_of k))) (ne_eqb k t.0 ne)

own_busy : (x : State) (t : ThreadId) (y : Option Thread) → is_busy ((with_thread x t y).thread t) ≡ is_busy y
own_busy x t y = ap (λ (b : Bool). is_busy (if b then y else x.thread t)) (eq-eqb t.0 t.0 refl)

-- a position among the calls of one thread is not among those of another
apart : (p : Program) (j k n : ℕ) → j < count_of p → k < count_of p → (j ≡ k → ⊥) → start_of p k ≤ n → n < end_of p k → (n < start_of p j) ⊎ (end_of p j ≤ n)
apart p j k n within there ne from lt = by (cases_lt j k)
  where
    by : (j < k) ⊎ (k ≤ j) → (n < start_of p j) ⊎ (end_of p j ≤ n)
    by (inl less) = let e = ends_before p j k less there in inr (omega (arith, e, from))
    by (inr more) = let e = ends_before p k j (omega (arith, more, ne)) within in inl (omega (arith, e, lt))

module _ (p : Program) (ms : List Move) (s : JavaProgramState) (h : AreReturned p ms s) where
  -- a thread makes its next call
  pub call_returned : (u : JavaProgramState) (t : ThreadId) (c : Call) (z : Thread) → t.0 < count_of p → next_of s t.0 < end_of p t.0
      → in_call s t.0 ≡ false → is_busy_in z.act ≡ true → state u.machine ≡ with_thread (state s.machine) t (Some z)
      → u.nexts ≡ slice_set s.nexts t.0 (next_of s t.0 + 1) → u.replies ≡ s.replies → AreReturned p (ms ++ move.Call t c ∷ []) u
  call_returned u t c z within below free busy shows nexts replies = record {
    long = ap (λ (rs : List (Option Reply)). length rs) replies ∙ h.long;
    each = ap (λ (ns : List ℕ). length ns) nexts ∙ length-set s.nexts t.0 (next_of s t.0 + 1) ∙ h.each;
    threads = λ k lt. by k lt (cases_eq k t.0);
  }
    where
      mine : HasReturned p (ms ++ move.Call t c ∷ []) u t.0
      mine =
          let each = h.each in
          let old = h.threads t.0 within in
          let from = old.from in
          let next : next_of u t.0 ≡ next_of s t.0 + 1 =
          ap (λ (ns : List ℕ). slice_index_or ns t.0 0) nexts ∙ get_or-set_same s.nexts t.0 (next_of s t.0 + 1) 0 (omega (arith, within, each)) in
          let now : in_call u t.0 ≡ true = ap (λ (y : State). is_busy (y.thread t)) shows ∙ own_busy (state s.machine) t (Some z) ∙ busy in
          let less : next_of u t.0 - one_if (in_call u t.0) ≡ next_of s t.0 - one_if (in_call s t.0) =
          (λ i. next i - one_if (now i)) ∙ plus_less (next_of s t.0) ∙ ap (λ (b : Bool). next_of s t.0 - one_if b) (sym free) in
          record {
            from = omega (arith, from, next);
            own = λ _. (omega (arith, from, next), omega (arith, below, next));
            later = λ i le lt.
                ap (λ (rs : List (Option Reply)). slice_index_or rs i None) replies
                ∙ old.later i (subst (λ (n : ℕ). n ≤ i) less le) lt;
            said = unsaid t.0 ms (move.Call t c) refl ∙ old.said ∙ ap (λ (rs : List (Option Reply)). replies_of p (record s { replies = rs }) t.0) (sym replies);
          }

      by : (k : ℕ) → k < count_of p → (k ≡ t.0) ⊎ (k ≡ t.0 → ⊥) → HasReturned p (ms ++ move.Call t c ∷ []) u k
      by k lt (inl same) = subst (λ (i : ℕ). HasReturned p (ms ++ move.Call t c ∷ []) u i) (sym same) mine
      by k lt (inr ne) =
          still_returned p ms s u (move.Call t c) k (h.threads k lt)
          (ap (λ (ns : List ℕ). slice_index_or ns k 0) nexts ∙ get_or-set_other s.nexts t.0 k (next_of s t.0 + 1) 0 ne)
          (ap (λ (y : State). is_busy (y.thread (thread_of k))) shows ∙ other_busy (state s.machine) t (Some z) k ne) replies refl

  -- the call of a thread returns
  pub return_returned : (u : JavaProgramState) (t : ThreadId) (r : Reply) (y : Option Thread) → t.0 < count_of p → in_call s t.0 ≡ true → is_busy y ≡ false
      → state u.machine ≡ with_thread (state s.machine) t y → u.nexts ≡ s.nexts → u.replies ≡ slice_set s.replies (next_of s t.0 - 1) (Some r)
      → AreReturned p (ms ++ move.Return t r ∷ []) u
  return_returned u t r y within was free shows nexts replies = record {
    long = ap (λ (rs : List (Option Reply)). length rs) replies ∙ length-set s.replies (next_of s t.0 - 1) (Some r) ∙ h.long;
    each = ap (λ (ns : List ℕ). length ns) nexts ∙ h.each;
    threads = λ k lt. by k lt (cases_eq k t.0);
  }
    where
      next_same : (k : ℕ) → next_of u k ≡ next_of s k
      next_same k = ap (λ (ns : List ℕ). slice_index_or ns k 0) nexts

      mine : HasReturned p (ms ++ move.Return t r ∷ []) u t.0
      mine =
          let old = h.threads t.0 within in
          let own = old.own was in
          let first = own.0 in let last = own.1 in
          let same = next_same t.0 in
          let now : in_call u t.0 ≡ false = ap (λ (x : State). is_busy (x.thread t)) shows ∙ own_busy (state s.machine) t y ∙ free in
          let less : next_of s t.0 - one_if (in_call s t.0) ≡ next_of s t.0 - 1 = ap (λ (b : Bool). next_of s t.0 - one_if b) was in
          let inside = ends_within p t.0 in
          let long = h.long in
          record {
            from = omega (arith, first, same);
            own = λ is. absurd (let e = sym now ∙ is in cc);
            later = λ i le lt.
                (let behind : next_of s t.0 - 0 ≤ i = subst (λ (n : ℕ). n ≤ i) (λ j. same j - one_if (now j)) le in
                let after : next_of s t.0 ≤ i = omega (arith, behind) in
                ap (λ (rs : List (Option Reply)). slice_index_or rs i None) replies
                ∙ get_or-set_other s.replies (next_of s t.0 - 1) i (Some r) None (λ (e : i ≡ next_of s t.0 - 1). (omega (arith, e, after, first)))
                ∙ old.later i (omega (arith, after, less)) lt);
            said =
                filter_map-append (returned_by (thread_of t.0)) ms (move.Return t r ∷ [])
                ∙ ap (λ (o : Option Reply). returns_in (thread_of t.0) ms ++ cons_option o []) (ap (λ (b : Bool). if b then Some r else None) (eq-eqb t.0 t.0 refl))
                ∙ ap (λ (rs : List Reply). rs ++ r ∷ []) old.said
                ∙ sym (part_own s.replies (start_of p t.0) (end_of p t.0) (next_of s t.0 - 1) r (omega (arith, first)) (omega (arith, first, last)) (omega (arith, inside, long))
                (λ i le lt. old.later i (omega (arith, less, le)) lt))
                ∙ ap (λ (rs : List (Option Reply)). replies_of p (record s { replies = rs }) t.0) (sym replies);
          }

      by : (k : ℕ) → k < count_of p → (k ≡ t.0) ⊎ (k ≡ t.0 → ⊥) → HasReturned p (ms ++ move.Return t r ∷ []) u k
      by k lt (inl same) = subst (λ (i : ℕ). HasReturned p (ms ++ move.Return t r ∷ []) u i) (sym same) mine
      by k lt (inr ne) =
          let old = h.threads k lt in
          let own = (h.threads t.0 within).own was in
          let first = own.0 in let last = own.1 in
          let from = old.from in
          let out = apart p k t.0 (next_of s t.0 - 1) lt within ne (omega (arith, first)) (omega (arith, first, last)) in
          let next = next_same k in
          let busy : in_call u k ≡ in_call s k = ap (λ (x : State). is_busy (x.thread (thread_of k))) shows ∙ other_busy (state s.machine) t y k ne in
          record {
            from = omega (arith, from, next);
            own = λ is. subst (λ (n : ℕ). (start_of p k < n) × (n ≤ end_of p k)) (sym next) (old.own (sym busy ∙ is));
            later = λ i le less.
                (let after : next_of s k - one_if (in_call s k) ≤ i = subst (λ (n : ℕ). n ≤ i) (λ j. next j - one_if (busy j)) le in
                ap (λ (rs : List (Option Reply)). slice_index_or rs i None) replies
                ∙ get_or-set_other s.replies (next_of s t.0 - 1) i (Some r) None (λ (e : i ≡ next_of s t.0 - 1). outside k i e (behind k i old after) less out)
                ∙ old.later i after less);
            said = unsaid k ms (move.Return t r) (ap (λ (b : Bool). if b then Some r else None) (ne_eqb t.0 k (λ e. ne (sym e)))) ∙ old.said
                ∙ ap (λ (rs : List (Option Reply)). filter_map (λ (o : Option Reply). o) rs) (sym (part_other s.replies (start_of p k) (end_of p k) (next_of s t.0 - 1) (Some r) out))
                ∙ ap (λ (rs : List (Option Reply)). replies_of p (record s { replies = rs }) k) (sym replies);
          }
        where
          -- what stands there is a call of thread k
          behind : (k i : ℕ) → HasReturned p ms s k → next_of s k - one_if (in_call s k) ≤ i → start_of p k ≤ i
          behind k i old le = go (in_call s k) refl
            where
              go : (b : Bool) → in_call s k ≡ b → start_of p k ≤ i
              go true e =
                  let first = (old.own e).0 in
                  let g : next_of s k - 1 ≤ i = subst (λ (b : Bool). next_of s k - one_if b ≤ i) e le in
                  omega (arith, first, g)
              go false e =
                  let from = old.from in
                  let g : next_of s k - 0 ≤ i = subst (λ (b : Bool). next_of s k - one_if b ≤ i) e le in
                  omega (arith, from, g)

          outside : (k i : ℕ) → i ≡ next_of s t.0 - 1 → start_of p k ≤ i → i < end_of p k → ((next_of s t.0 - 1) < start_of p k) ⊎ (end_of p k ≤ (next_of s t.0 - 1)) → ⊥
          outside k i e from lt (inl less) = omega (arith, e, from, less)
          outside k i e from lt (inr more) = omega (arith, e, lt, more)

  -- a move that is no edge of a call
  pub inside_returned : (u : JavaProgramState) (m : Move) → IsInside m → Steps (state s.machine) m (state u.machine) → u.nexts ≡ s.nexts → u.replies ≡ s.replies
      → ((k : ℕ) → returned_by (thread_of k) m ≡ None) → AreReturned p (ms ++ m ∷ []) u
  inside_returned u m inside step nexts replies none = record {
    long = ap (λ (rs : List (Option Reply)). length rs) replies ∙ h.long;
    each = ap (λ (ns : List ℕ). length ns) nexts ∙ h.each;
    threads = λ k lt.
        still_returned p ms s u m k (h.threads k lt) (ap (λ (ns : List ℕ). slice_index_or ns k 0) nexts)
        (busy_stays (state s.machine) (state u.machine) m inside step (thread_of k)) replies (none k);
  }

-- where a program begins
pub opening_returned : (p : Program) → ((k : ℕ) → in_call (opening p) k ≡ false) → AreReturned p [] (opening p)
opening_returned p idle = record {
  long = length-replicate (length p.calls.items) None;
  each = refl;
  threads = λ k lt. record {
    from = omega arith;
    own = λ is. absurd (let e = sym (idle k) ∙ is in cc);
    later = λ i le less. nothing (length p.calls.items) i;
    said = sym (part_none (replicate (length p.calls.items) None) (start_of p k) (end_of p k) (nothing (length p.calls.items)));
  };
}
  where
    nothing : (n i : ℕ) → slice_index_or {A = Option Reply} (replicate n None) i None ≡ None
    nothing zero i = refl
    nothing (suc n) zero = refl
    nothing (suc n) (suc i) = nothing n i
