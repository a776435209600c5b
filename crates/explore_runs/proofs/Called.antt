-- Which calls the threads of a program have made behind some choices, and which moments the clock has told.
use native.Mathlib.Omega.{arith}
use Rattle.std.proofs.Common.{◌≡◌, ◌∙◌, ◌⊎◌, inl, inr, sym, ap, refl, subst, ℕ, zero, suc, ◌+◌, ◌-◌, ◌<◌, Bool, true, false, if◌then◌else◌, nat_lt, List, [], ◌∷◌, ◌++◌, length, take, Option, Some, None, Result, Ok, Err, append_assoc, append-nil}
use Rattle.std.specs.Prelude.{◌==◌, IfOk, slice_get, slice_index_or}
use Rattle.std.specs.List.{filter_map}
use Rattle.std.specs.Option.{option_to_list}
use Rattle.std.proofs.lemmas.Bool.{cases_eq, eq-eqb, ltb-true, ne_eqb}
use Rattle.std.proofs.lemmas.List.{get_or-set_other, get_or-set_same}
use Rattle.std.proofs.lemmas.List.Elements.{filter_map-append}
use Rattle.std.proofs.lemmas.Option.{get_or_from_slice_get, same_Some, slice_get_within}
use Rattle.lock_word.specs.declared.ThreadId.{ThreadId}
use Rattle.fat_monitor.specs.declared.actions.Reply.{Reply}
use Rattle.fat_monitor.specs.Acting.{outcome_of}
use Rattle.fat_monitor.specs.FatState.{FatState, with_moment}
use Rattle.fat_monitor.specs.declared.actions.ActFault.{ActFault}
use Rattle.fat_monitor.specs.declared.actions.Done.{Done}
use Rattle.fast_path.specs.declared.calls.Call.{Call}
use Rattle.thread_index.specs.Indices.{berth_of}
use Rattle.step_core.specs.Labels.{HasLabels, labels_after, labels_for, returned_with}
use Rattle.step_core.specs.Did.{one_move}
use Rattle.step_core.specs.Step.{WaitEnd, accept, after_tick, after_wait_end, after_wait_end_as, refuse, step_of, time_over, wake_up}
use Rattle.step_core.specs.World.{WorldState}
use Rattle.step_core.specs.declared.machine.Move.{Move}
use Rattle.step_core.specs.declared.machine.Move.TheVariants as move
use Rattle.step_core.specs.declared.steps.Atomic.TheVariants.{Label}
use Rattle.step_core.specs.declared.steps.Did.{Did}
use Rattle.step_core.specs.declared.steps.Fault.{Fault}
use Rattle.step_core.specs.declared.steps.Fault.TheVariants as fault
use Rattle.step_core.specs.declared.steps.Step.{Step}
use Rattle.step_core.specs.declared.steps.Step.TheVariants as step
use Rattle.step_core.proofs.Clauses.Labels.{step_labels}
use Rattle.explore.specs.declared.programs.Program.{Program}
use Rattle.explore.specs.declared.programs.Choice.{Choice}
use Rattle.explore.specs.declared.programs.Choice.TheVariants as choice
use Rattle.explore.specs.States.{ProgramState, after, begin_of, call_below, chosen, end_of, moved, opening, played, played_from, replied, start_of, thread_of, tick_of, told_after}
use Rattle.explore.proofs.Busy.{is_busy}
use Rattle.explore.proofs.Finding.{none_leads}
use Rattle.explore.proofs.Making.{IsMade, choice_made, meant}
use Rattle.explore.proofs.Parts.{ends_within}
use Rattle.explore.proofs.Replying.{fresh_opening, next_state, noted, not_busy, replied_is}
use Rattle.explore.proofs.Replying as replying
use Rattle.explore.proofs.Serving.{next_of}
use Rattle.explore_java.specs.JavaRuns.{attached_by, called_by, calls_of, threads_below, told_by}
use Rattle.explore_runs.specs.Steps.{granted, steps_from}
use Rattle.explore_runs.proofs.Busied.{Begins, Goes, begin_busies, go_busies}
use Rattle.explore_runs.proofs.Ended.{IsKept, kept_next, kept_opening, no_attach}
use Rattle.explore_runs.proofs.Renumbering.{IsNoAttach}
use Rattle.explore_runs.proofs.Labelled.{PicksLabels, attach_moves}
use Rattle.explore_runs.proofs.Leading.{steps_made}
use Rattle.explore_java.proofs.CallFronts.{call_there, take_more}

-- ---- how many calls a thread has made

abbrev pub one_if : Bool → ℕ
one_if true = 1
one_if false = 0

-- those that have a reply, and the one that it is in
abbrev pub begun : Program → ProgramState → ℕ → ℕ
begun p s k = (next_of s k - start_of p k) + one_if (is_busy s.world (thread_of k))

-- What was told so far, by the labels of the moves: the attaches, the calls and the moments.
pub record Told (p : Program) (s : ProgramState) (ls : List Move) : Type 0 where
  pub attaches : filter_map attached_by ls ≡ threads_below (length p.starts.items)
  pub moments : filter_map told_by ls ≡ take s.told p.moments.items
  pub calls : (k : ℕ) → k < length p.starts.items → filter_map (called_by (thread_of k)) ls ≡ take (begun p s k) (calls_of p k)

-- the call that a choice begins for thread k, if it does
abbrev begins : ℕ → Step → List Call
begins k (step.Begin t c) = if t.0 == k then c ∷ [] else []
begins k x = []

-- and the moment that it tells
abbrev tells : Step → List ℕ
tells (step.Tick now) = now ∷ []
tells x = []

label_calls : (k : ℕ) (x : Step) (d : Did) → filter_map (called_by (thread_of k)) (labels_for x (Ok d)) ≡ begins k x
label_calls k (step.Attach t) d = refl
label_calls k (step.Begin t c) d = by (t.0 == k)
  where
    by : (b : Bool) → filter_map (λ (o : Option Call). o) ((if b then Some c else None) ∷ []) ≡ (if b then c ∷ [] else [])
    by true = refl
    by false = refl
label_calls k (step.Go t) d = by d.reply
  where
    by : (r : Option Reply) → filter_map (called_by (thread_of k)) (returned_with t r) ≡ []
    by None = refl
    by (Some r) = refl
label_calls k (step.Expire t) d = refl
label_calls k (step.Spurious t) d = refl
label_calls k (step.Tick now) d = refl

label_tells : (x : Step) (d : Did) → filter_map told_by (labels_for x (Ok d)) ≡ tells x
label_tells (step.Attach t) d = refl
label_tells (step.Begin t c) d = refl
label_tells (step.Go t) d = by d.reply
  where
    by : (r : Option Reply) → filter_map told_by (returned_with t r) ≡ []
    by None = refl
    by (Some r) = refl
label_tells (step.Expire t) d = refl
label_tells (step.Spurious t) d = refl
label_tells (step.Tick now) d = refl

label_attaches : (x : Step) (d : Did) → IsNoAttach x → filter_map attached_by (labels_for x (Ok d)) ≡ []
label_attaches (step.Attach t) d none = absurd none
label_attaches (step.Begin t c) d none = refl
label_attaches (step.Go t) d none = by d.reply
  where
    by : (r : Option Reply) → filter_map attached_by (returned_with t r) ≡ []
    by None = refl
    by (Some r) = refl
label_attaches (step.Expire t) d none = refl
label_attaches (step.Spurious t) d none = refl
label_attaches (step.Tick now) d none = refl

-- ---- a choice more

-- what a choice changes: how many moments were told, and of each thread how many calls it has made
record IsCounted (p : Program) (s t : ProgramState) (x : Step) : Type 0 where
  pub moments : take t.told p.moments.items ≡ take s.told p.moments.items ++ tells x
  pub calls : (k : ℕ) → k < length p.starts.items → take (begun p t k) (calls_of p k) ≡ take (begun p s k) (calls_of p k) ++ begins k x

module _ (p : Program) (s : ProgramState) (kept : IsKept p s) (way : replying.IsKept p s) where
  abbrev w : WorldState
  w = s.world

  -- a step without a reply, which leaves this world
  module _ (c : Choice) (v : WorldState) where
    silent_begun : (k : ℕ) → is_busy v (thread_of k) ≡ is_busy w (thread_of k) → begun p (moved s c v) k ≡ begun p s k
    silent_begun k same = ap (λ (b : Bool). (next_of s k - start_of p k) + one_if b) same

    silent_calls : (k : ℕ) → is_busy v (thread_of k) ≡ is_busy w (thread_of k) → take (begun p (moved s c v) k) (calls_of p k) ≡ take (begun p s k) (calls_of p k) ++ []
    silent_calls k same = ap (λ (n : ℕ). take n (calls_of p k)) (silent_begun k same) ∙ sym (append-nil (take (begun p s k) (calls_of p k)))

  -- nobody begins a call, or has a reply
  nobody_moves : (c : Choice) (v : WorldState) (x : Step) → ((u : ThreadId) → is_busy v u ≡ is_busy w u) → ((k : ℕ) → begins k x ≡ [])
      → take (told_after c s.told) p.moments.items ≡ take s.told p.moments.items ++ tells x → IsCounted p s (moved s c v) x
  nobody_moves c v x same none moments = record {
    moments = moments;
    calls = λ k lt. silent_calls c v k (same (thread_of k)) ∙ ap (λ (cs : List Call). take (begun p s k) (calls_of p k) ++ cs) (sym (none k));
  }

  no_moment : take s.told p.moments.items ≡ take s.told p.moments.items ++ []
  no_moment = sym (append-nil (take s.told p.moments.items))

  -- thread j begins the call that stands at its next position
  begin_counted : (j : ℕ) (c : Call) (v : WorldState) → j < length p.starts.items → next_of s j < end_of p j → slice_get p.calls.items (next_of s j) ≡ Some c
      → Begins w (thread_of j) v → IsCounted p s (moved s (choice.Begin j) v) (step.Begin (thread_of j) c)
  begin_counted j c v within lt is busies = record { moments = no_moment; calls = λ k below. by k (cases_eq k j) }
    where
      by : (k : ℕ) → (k ≡ j) ⊎ (k ≡ j → ⊥)
          → take (begun p (moved s (choice.Begin j) v) k) (calls_of p k) ≡ take (begun p s k) (calls_of p k) ++ begins k (step.Begin (thread_of j) c)
      by k (inl same) =
          subst (λ (i : ℕ). take (begun p (moved s (choice.Begin j) v) i) (calls_of p i) ≡ take (begun p s i) (calls_of p i) ++ begins i (step.Begin (thread_of j) c)) (sym same) mine
        where
          mine : take (begun p (moved s (choice.Begin j) v) j) (calls_of p j) ≡ take (begun p s j) (calls_of p j) ++ begins j (step.Begin (thread_of j) c)
          mine =
              let n : ℕ = next_of s j - start_of p j in
              let before : begun p s j ≡ n = ap (λ (b : Bool). n + one_if b) busies.was ∙ omega arith in
              let behind : begun p (moved s (choice.Begin j) v) j ≡ suc n = ap (λ (b : Bool). n + one_if b) busies.now ∙ omega arith in
              let own : begins j (step.Begin (thread_of j) c) ≡ c ∷ [] = ap (λ (b : Bool). if b then c ∷ [] else []) (eq-eqb j j refl) in
              let there = call_there p j (next_of s j) c (way.threads j within).from lt is in
              ap (λ (i : ℕ). take i (calls_of p j)) behind ∙ take_more (calls_of p j) n
              ∙ ap (λ (o : Option Call). take n (calls_of p j) ++ option_to_list o) there
              ∙ ap (λ (i : ℕ). take i (calls_of p j) ++ c ∷ []) (sym before)
              ∙ ap (λ (cs : List Call). take (begun p s j) (calls_of p j) ++ cs) (sym own)
      by k (inr ne) =
          let other : begins k (step.Begin (thread_of j) c) ≡ [] = ap (λ (b : Bool). if b then c ∷ [] else []) (ne_eqb j k (λ e. ne (sym e))) in
          silent_calls (choice.Begin j) v k (busies.others (thread_of k) ne) ∙ ap (λ (cs : List Call). take (begun p s k) (calls_of p k) ++ cs) (sym other)

  -- thread j goes on, and may get its reply
  go_counted : (j : ℕ) (v : WorldState) (r : Option Reply) → j < length p.starts.items → slice_get s.nexts j ≡ Some (next_of s j)
      → Goes w (thread_of j) v r → IsCounted p s (replied (moved s (choice.Go j) v) j r) (step.Go (thread_of j))
  go_counted j v None within has goes = record { moments = no_moment; calls = λ k below. by k (cases_eq k j) }
    where
      by : (k : ℕ) → (k ≡ j) ⊎ (k ≡ j → ⊥) → take (begun p (moved s (choice.Go j) v) k) (calls_of p k) ≡ take (begun p s k) (calls_of p k) ++ []
      by k (inl same) =
          silent_calls (choice.Go j) v k (subst (λ (i : ℕ). is_busy v (thread_of i) ≡ is_busy w (thread_of i)) (sym same) (goes.silent refl ∙ sym goes.was))
      by k (inr ne) = silent_calls (choice.Go j) v k (goes.others (thread_of k) ne)
  go_counted j v (Some a) within has goes =
      subst (λ (u : ProgramState). IsCounted p s u (step.Go (thread_of j))) (sym (replied_is s (choice.Go j) v j (next_of s j) a has here_within))
      (record { moments = no_moment; calls = λ k below. by k (cases_eq k j) })
    where
      way_of : replying.IsOnItsWay p s j
      way_of = way.threads j within

      here_within : next_of s j < length s.replies
      here_within = let lt = way_of.busy goes.was in let last = ends_within p j in let long = way.long in omega (arith, lt, last, long)

      by : (k : ℕ) → (k ≡ j) ⊎ (k ≡ j → ⊥) → take (begun p (noted s (choice.Go j) v j (next_of s j) a) k) (calls_of p k) ≡ take (begun p s k) (calls_of p k) ++ []
      by k (inl same) =
          subst (λ (i : ℕ). take (begun p (noted s (choice.Go j) v j (next_of s j) a) i) (calls_of p i) ≡ take (begun p s i) (calls_of p i) ++ []) (sym same) mine
        where
          mine : take (begun p (noted s (choice.Go j) v j (next_of s j) a) j) (calls_of p j) ≡ take (begun p s j) (calls_of p j) ++ []
          mine =
              let next : next_of (noted s (choice.Go j) v j (next_of s j) a) j ≡ next_of s j + 1 =
              get_or-set_same s.nexts j (next_of s j + 1) 0 (slice_get_within s.nexts j (next_of s j) has) in
              let from = way_of.from in
              let behind : begun p (noted s (choice.Go j) v j (next_of s j) a) j ≡ (next_of s j + 1 - start_of p j) + 0 =
              ap (λ (n : ℕ). (n - start_of p j) + one_if (is_busy v (thread_of j))) next
              ∙ ap (λ (b : Bool). (next_of s j + 1 - start_of p j) + one_if b) (goes.replied a refl) in
              let before : begun p s j ≡ (next_of s j - start_of p j) + 1 = ap (λ (b : Bool). (next_of s j - start_of p j) + one_if b) goes.was in
              ap (λ (n : ℕ). take n (calls_of p j)) (omega (arith, from, behind, before)) ∙ sym (append-nil (take (begun p s j) (calls_of p j)))
      by k (inr ne) =
          let next : next_of (noted s (choice.Go j) v j (next_of s j) a) k ≡ next_of s k = get_or-set_other s.nexts j k (next_of s j + 1) 0 ne in
          ap (λ (n : ℕ). take ((n - start_of p k) + one_if (is_busy v (thread_of k))) (calls_of p k)) next
          ∙ ap (λ (b : Bool). take ((next_of s k - start_of p k) + one_if b) (calls_of p k)) (goes.others (thread_of k) ne)
          ∙ sym (append-nil (take (begun p s k) (calls_of p k)))

  -- what the labels of an accepted step are
  labelled : (x : Step) (d : Did) → (step_of true w x).answer ≡ Ok d → HasLabels x d
  labelled x d h = subst (λ (a : Result Did Fault). IfOk a (HasLabels x)) h (step_labels w kept.sound true x)

  -- a choice that means this step
  module _ (c : Choice) (t : ProgramState) (m : IsMade p s t c) (x : Step) (same : x ≡ m.made) where
    accepted : (step_of true w x).answer ≡ Ok m.did
    accepted = ap (λ (y : Step). (step_of true w y).answer) same ∙ m.answer

    counted : IsCounted p s (replied (moved s c (step_of true w x).after) (chosen c) m.did.reply) x → IsCounted p s t m.made
    counted counts =
        let there : replied (moved s c (step_of true w x).after) (chosen c) m.did.reply ≡ t =
        ap (λ (y : Step). replied (moved s c (step_of true w y).after) (chosen c) m.did.reply) same ∙ m.leads in
        subst (λ (u : ProgramState). IsCounted p s u m.made) there
        (subst (λ (y : Step). IsCounted p s (replied (moved s c (step_of true w x).after) (chosen c) m.did.reply) y) same counts)

    -- which has no reply
    silent : m.did.reply ≡ None → IsCounted p s (moved s c (step_of true w x).after) x → IsCounted p s t m.made
    silent none counts =
        counted (subst (λ (r : Option Reply). IsCounted p s (replied (moved s c (step_of true w x).after) (chosen c) r) x) (sym none) counts)

  wait_busy : (e : WaitEnd) (t u : ThreadId) (b : Option ℕ) → is_busy (after_wait_end e w t b).after u ≡ is_busy w u
  wait_busy e t u None = refl
  wait_busy e t u (Some k) = by (outcome_of w.fats t e.action).answer (outcome_of w.fats t e.action).after
    where
      by : (a : Result Done ActFault) (f : FatState) → is_busy (after_wait_end_as e w t a f).after u ≡ is_busy w u
      by (Ok d) f = refl
      by (Err x) f = refl

  tick_busy : (now : ℕ) (u : ThreadId) → is_busy (after_tick w now).after u ≡ is_busy w u
  tick_busy now u = by (nat_lt now w.fats.moment)
    where
      by : (b : Bool) → is_busy (if b then refuse w fault.Backwards else accept (record w { fats = with_moment w.fats now }) (one_move Label (move.Time now))).after u ≡ is_busy w u
      by true = refl
      by false = refl

  next_is : (k n : ℕ) → slice_get s.nexts k ≡ Some n → next_of s k ≡ n
  next_is k n h = get_or_from_slice_get s.nexts k n 0 h

  below_is : (k n : ℕ) (c : Call) → call_below p k n ≡ Some c → (n < end_of p k) × (slice_get p.calls.items n ≡ Some c)
  below_is k n c h = by (nat_lt n (end_of p k)) refl h
    where
      by : (b : Bool) → nat_lt n (end_of p k) ≡ b → (if b then slice_get p.calls.items n else None) ≡ Some c → (n < end_of p k) × (slice_get p.calls.items n ≡ Some c)
      by true e g = (ltb-true n (end_of p k) e, g)
      by false e g = absurd (cc)

  count_begin : (j n : ℕ) (t : ProgramState) (m : IsMade p s t (choice.Begin j)) → slice_get s.nexts j ≡ Some n → j < length p.starts.items
      → (o : Option Call) → call_below p j n ≡ o → begin_of j o ≡ Some m.made → IsCounted p s t m.made
  count_begin j n t m has within None below h = absurd (cc)
  count_begin j n t m has within (Some c) below h =
      let x : Step = step.Begin (thread_of j) c in
      let same = same_Some x m.made h in
      let answer = accepted (choice.Begin j) t m x same in
      let labels = labelled x m.did answer in
      let next = next_is j n has in
      let there = subst (λ (i : ℕ). (i < end_of p j) × (slice_get p.calls.items i ≡ Some c)) (sym next) (below_is j n c below) in
      silent (choice.Begin j) t m x same labels.1
      (begin_counted j c (step_of true w x).after within there.0 there.1 (begin_busies w kept.sound (thread_of j) c m.did answer))

  count_spurious : (j : ℕ) (t : ProgramState) (m : IsMade p s t (choice.Spurious j)) (b : Bool) → (if b then Some (step.Spurious (thread_of j)) else None) ≡ Some m.made
      → IsCounted p s t m.made
  count_spurious j t m true h =
      let x : Step = step.Spurious (thread_of j) in
      let same = same_Some x m.made h in
      let labels = labelled x m.did (accepted (choice.Spurious j) t m x same) in
      silent (choice.Spurious j) t m x same labels.1
      (nobody_moves (choice.Spurious j) (step_of true w x).after x (λ u. wait_busy wake_up (thread_of j) u (berth_of w.berths (thread_of j))) (λ k. refl) no_moment)
  count_spurious j t m false h = absurd (cc)

  count_tick : (t : ProgramState) (m : IsMade p s t choice.Tick) (o : Option ℕ) → slice_get p.moments.items s.told ≡ o → tick_of o ≡ Some m.made → IsCounted p s t m.made
  count_tick t m None at h = absurd (cc)
  count_tick t m (Some now) at h =
      let x : Step = step.Tick now in
      let same = same_Some x m.made h in
      let labels = labelled x m.did (accepted choice.Tick t m x same) in
      let one : s.told + 1 ≡ suc s.told = omega arith in
      silent choice.Tick t m x same labels.1
      (nobody_moves choice.Tick (step_of true w x).after x (tick_busy now) (λ k. refl)
      (ap (λ (n : ℕ). take n p.moments.items) one ∙ take_more p.moments.items s.told ∙ ap (λ (o : Option ℕ). take s.told p.moments.items ++ option_to_list o) at))

  count_choice : (c : Choice) (t : ProgramState) (m : IsMade p s t c) → IsCounted p s t m.made
  count_choice (choice.Begin j) t m =
      let is = meant p (choice.Begin j) j (slice_get s.nexts j) m.made m.is in
      count_begin j is.next t m is.has is.within (call_below p j is.next) refl is.is
  count_choice (choice.Go j) t m =
      let is = meant p (choice.Go j) j (slice_get s.nexts j) m.made m.is in
      let x : Step = step.Go (thread_of j) in
      let same = same_Some x m.made is.is in
      let has : slice_get s.nexts j ≡ Some (next_of s j) = is.has ∙ ap (λ (n : ℕ). Some n) (sym (next_is j is.next is.has)) in
      counted (choice.Go j) t m x same
      (go_counted j (step_of true w x).after m.did.reply is.within has (go_busies w kept.sound (thread_of j) m.did (accepted (choice.Go j) t m x same)))
  count_choice (choice.Expire j) t m =
      let is = meant p (choice.Expire j) j (slice_get s.nexts j) m.made m.is in
      let x : Step = step.Expire (thread_of j) in
      let same = same_Some x m.made is.is in
      let labels = labelled x m.did (accepted (choice.Expire j) t m x same) in
      silent (choice.Expire j) t m x same labels.1
      (nobody_moves (choice.Expire j) (step_of true w x).after x (λ u. wait_busy time_over (thread_of j) u (berth_of w.berths (thread_of j))) (λ k. refl) no_moment)
  count_choice (choice.Spurious j) t m =
      let is = meant p (choice.Spurious j) j (slice_get s.nexts j) m.made m.is in
      count_spurious j t m p.spurious is.is
  count_choice choice.Tick t m = count_tick t m (slice_get p.moments.items s.told) refl m.is

-- ---- all choices

told_next : (p : Program) (s t : ProgramState) (x : Step) (d : Did) (ls : List Move) → Told p s ls → IsCounted p s t x → IsNoAttach x → Told p t (ls ++ labels_for x (Ok d))
told_next p s t x d ls told counts none = record {
  attaches =
      filter_map-append attached_by ls (labels_for x (Ok d)) ∙ ap (λ us. filter_map attached_by ls ++ us) (label_attaches x d none)
      ∙ append-nil (filter_map attached_by ls) ∙ told.attaches;
  moments =
      filter_map-append told_by ls (labels_for x (Ok d)) ∙ ap (λ ns. filter_map told_by ls ++ ns) (label_tells x d)
      ∙ ap (λ ns. ns ++ tells x) told.moments ∙ sym counts.moments;
  calls = λ k lt.
      filter_map-append (called_by (thread_of k)) ls (labels_for x (Ok d)) ∙ ap (λ cs. filter_map (called_by (thread_of k)) ls ++ cs) (label_calls k x d)
      ∙ ap (λ cs. cs ++ begins k x) (told.calls k lt) ∙ sym (counts.calls k lt);
}

told_from : (p : Program) (cs : List Choice) (s t : ProgramState) (ls : List Move) → IsKept p s → replying.IsKept p s → Told p s ls → played_from p cs (Some s) ≡ Some t
    → Told p t (ls ++ labels_after s.world (granted (steps_from p (Some s) cs)))
told_from p [] s t ls kept way told h =
    subst (λ (u : ProgramState). Told p u (ls ++ [])) (same_Some s t h) (subst (λ (ms : List Move). Told p s ms) (sym (append-nil ls)) told)
told_from p (c ∷ cs) s t ls kept way told h = by (after p s c) refl h (λ u ms kept way told g. told_from p cs u t ms kept way told g)
  where
    by : (o : Option ProgramState) → after p s c ≡ o → played_from p cs o ≡ Some t
        → ((u : ProgramState) (ms : List Move) → IsKept p u → replying.IsKept p u → Told p u ms → played_from p cs (Some u) ≡ Some t
        → Told p t (ms ++ labels_after u.world (granted (steps_from p (Some u) cs))))
        → Told p t (ls ++ labels_after s.world (granted (steps_from p (Some s) (c ∷ cs))))
    by None is g rest = absurd (none_leads p cs t g)
    by (Some u) is g rest =
        let m = choice_made p s u c is in
        let later : List Step = steps_from p (Some u) cs in
        let these : List Move = labels_for m.made (Ok m.did) in
        let all : labels_after s.world (granted (steps_from p (Some s) (c ∷ cs))) ≡ these ++ labels_after u.world (granted later) =
        ap (λ (xs : List Step). labels_after s.world (granted xs)) (steps_made p s u c cs m is)
        ∙ ap (λ (a : Result Did Fault). labels_for m.made a ++ labels_after (step_of true s.world m.made).after (granted later)) m.answer
        ∙ ap (λ (v : WorldState). these ++ labels_after v (granted later)) m.world in
        let now = told_next p s u m.made m.did ls told (count_choice p s kept way c u m) (no_attach p s c m.made m.is) in
        let next = rest u (ls ++ these) (kept_next p s u c kept is) (next_state p s u c way is).kept now g in
        subst (λ (ms : List Move). Told p t ms) (append_assoc ls these (labels_after u.world (granted later)) ∙ ap (λ (ms : List Move). ls ++ ms) (sym all)) next

-- ---- where a program begins

opening_attaches : (n : ℕ) → filter_map attached_by (attach_moves n) ≡ threads_below n
opening_attaches zero = refl
opening_attaches (suc n) =
    filter_map-append attached_by (attach_moves n) (move.Attach (thread_of n) ∷ []) ∙ ap (λ (ts : List ThreadId). ts ++ thread_of n ∷ []) (opening_attaches n)

opening_nothing : {A : Type 0} (h : Move → Option A) → ((t : ThreadId) → h (move.Attach t) ≡ None) → (n : ℕ) → filter_map h (attach_moves n) ≡ []
opening_nothing h none zero = refl
opening_nothing h none (suc n) =
    filter_map-append h (attach_moves n) (move.Attach (thread_of n) ∷ []) ∙ ap (λ xs. xs ++ filter_map h (move.Attach (thread_of n) ∷ [])) (opening_nothing h none n)
    ∙ ap (λ o. filter_map (λ x. x) (o ∷ [])) (none (thread_of n))

told_opening : (p : Program) → Told p (opening p) (attach_moves (length p.starts.items))
told_opening p = record {
  attaches = opening_attaches (length p.starts.items);
  moments = opening_nothing told_by (λ t. refl) (length p.starts.items);
  calls = λ k lt.
      let idle = not_busy (opening p).world (thread_of k) (fresh_opening p) in
      let none : begun p (opening p) k ≡ 0 = ap (λ (b : Bool). (start_of p k - start_of p k) + one_if b) idle ∙ omega arith in
      opening_nothing (called_by (thread_of k)) (λ t. refl) (length p.starts.items) ∙ ap (λ (n : ℕ). take n (calls_of p k)) (sym none);
}

-- What the labels of a script tell.
pub script_told : (p : Program) (cs : List Choice) (s : ProgramState) → ((k : ℕ) → slice_index_or p.lows.items k 0 < 256) → played p cs ≡ Some s
    → Told p s (attach_moves (length p.starts.items) ++ labels_after (opening p).world (granted (steps_from p (Some (opening p)) cs)))
script_told p cs s bytes h =
    told_from p cs (opening p) s (attach_moves (length p.starts.items)) (kept_opening p bytes) (replying.kept_opening p) (told_opening p) h

-- and what a thread has had replies for
way_from : (p : Program) (cs : List Choice) (s t : ProgramState) → replying.IsKept p s → played_from p cs (Some s) ≡ Some t → replying.IsKept p t
way_from p [] s t way h = subst (λ (u : ProgramState). replying.IsKept p u) (same_Some s t h) way
way_from p (c ∷ cs) s t way h = by (after p s c) refl h (λ u way g. way_from p cs u t way g)
  where
    by : (o : Option ProgramState) → after p s c ≡ o → played_from p cs o ≡ Some t
        → ((u : ProgramState) → replying.IsKept p u → played_from p cs (Some u) ≡ Some t → replying.IsKept p t) → replying.IsKept p t
    by None is g rest = absurd (none_leads p cs t g)
    by (Some u) is g rest = rest u (next_state p s u c way is).kept g

pub way_played : (p : Program) (cs : List Choice) (s : ProgramState) → played p cs ≡ Some s → replying.IsKept p s
way_played p cs s h = way_from p cs (opening p) s (replying.kept_opening p) h

-- ---- what is picked from labels alone

pub picks_attach : PicksLabels attached_by
picks_attach (move.Attach t) e = absurd (cc)
picks_attach m e = refl

pub picks_moment : PicksLabels told_by
picks_moment (move.Time now) e = absurd (cc)
picks_moment m e = refl

pub picks_call : (t : ThreadId) → PicksLabels (called_by t)
picks_call t (move.Call u c) e = absurd (cc)
picks_call t m e = refl
