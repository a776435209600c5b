-- An end of the Java machine that shows what an outcome of the core shows has the same text.
use native.Mathlib.Omega.{arith}
use Rattle.std.proofs.Common.{◌≡◌, ◌∙◌, ◌⊎◌, inl, inr, sym, ap, subst, refl, ℕ, zero, suc, ◌-◌, ◌<◌, ◌≤◌, if◌then◌else◌, List, [], ◌∷◌, ◌++◌, length, Option, Some, None, append_assoc, append-nil}
use Rattle.std.specs.Prelude.{codes, decimal}
use Rattle.std.specs.List.{flat_map}
use Rattle.std.proofs.lemmas.Bool.{cases_eq}
use Rattle.std.proofs.lemmas.List.{length-map}
use Rattle.lock_word.specs.declared.ObjectId.{ObjectId}
use Rattle.lock_word.specs.declared.ThreadId.{ThreadId}
use Rattle.thread_index.specs.Indices.{berth_of}
use Rattle.step_core.specs.Cycles.{AreCycles}
use Rattle.step_core.specs.Machine.{State, Thread, is_waiting}
use Rattle.step_core.specs.Shown.{shown, thread_of as thread_shown}
use Rattle.step_core.specs.World.{WorldState, low_word}
use Rattle.step_core.proofs.Lists.Reached.{reached_keeps}
use Rattle.jls_check.specs.MachineState.{state}
use Rattle.history.specs.NameLists.{NameLists, name_at}
use Rattle.history.specs.Reports.{owner_text, standing_text, threads_text, waiter, waiters_below}
use Rattle.dump.specs.Reports.{cycle_text}
use Rattle.explore.specs.declared.programs.Choice.{Choice}
use Rattle.explore.specs.declared.programs.Program.{Program}
use Rattle.explore.specs.Replies.{replies_of}
use Rattle.explore.specs.States.{ProgramState, end_of, played, start_of}
use Rattle.explore_java.specs.JavaRuns.{AreBytes}
use Rattle.explore_java.specs.JavaStates.{JavaProgramState}
use Rattle.explore_java.specs.JavaStates.{replies_of as java_replies_of}
use Rattle.explore_runs.specs.JavaOutcomes.{IsJavaOutcome, java_object_line, java_object_lines, java_thread_line, java_thread_lines, java_waiter, java_waiters}
use Rattle.explore_runs.specs.Outcomes.{IsOutcome, doing_text, object_line, object_lines, replies_text, reply_word, thread_line, thread_lines}
use Rattle.explore_runs.specs.Steps.{granted, script_steps}
use Rattle.explore_runs.proofs.Berthed.{IsManned}
use Rattle.explore_runs.proofs.Ended.{kept_played}
use Rattle.explore_runs.proofs.Labelled.{within_limits}
use Rattle.explore_runs.proofs.Leading.{script_leads}
use Rattle.explore_runs.proofs.ReplyTexts.{java_replies_told_of, replies_told_of}

-- ---- the lines of threads

module _ (names : NameLists) (p : Program) (s : ProgramState) (t : JavaProgramState) (shows : state t.machine ≡ shown s.world) where
  same_thread_line : (k : ℕ) → java_replies_of p t k ≡ replies_of p s k → thread_line names p s k ≡ java_thread_line names p t k
  same_thread_line k same =
      let id : ThreadId = record { 0 = k } in
      let here : List ℕ = replies_text s.replies (start_of p k) (end_of p k - start_of p k) in
      let there : List ℕ = replies_text t.replies (start_of p k) (end_of p k - start_of p k) in
      let told : here ≡ there = replies_told_of p s k ∙ ap (flat_map reply_word) (sym same) ∙ sym (java_replies_told_of p t k) in
      ap (λ (r : List ℕ). codes "thread " ++ name_at names.threads k ++ r ++ doing_text names ((shown s.world).thread id) ++ 10 ∷ []) told
      ∙ ap (λ (x : State). codes "thread " ++ name_at names.threads k ++ there ++ doing_text names (x.thread id) ++ 10 ∷ []) (sym shows)

  same_thread_lines : (n : ℕ) → ((k : ℕ) → k < n → java_replies_of p t k ≡ replies_of p s k) → thread_lines names p s n ≡ java_thread_lines names p t n
  same_thread_lines zero same = refl
  same_thread_lines (suc n) same =
      ap (λ (ls : List ℕ). ls ++ thread_line names p s n) (same_thread_lines n (λ k lt. same k (omega (arith, lt))))
      ∙ ap (λ (l : List ℕ). java_thread_lines names p t n ++ l) (same_thread_line n (same n (omega arith)))

-- ---- the lines of objects

same_waiters : (w : WorldState) (o n : ℕ) → waiters_below w o n ≡ java_waiters (shown w) (record { 0 = o }) n
same_waiters w o zero = refl
same_waiters w o (suc n) = ap (λ (ts : List ThreadId). ts ++ waiter w o (record { 0 = n })) (same_waiters w o n)

-- no thread from number n on is there, so none waits
no_more_wait : (x : State) (o : ObjectId) (n : ℕ) → ((u : ThreadId) → n ≤ u.0 → x.thread u ≡ None) → (m : ℕ) → n ≤ m → java_waiters x o m ≡ java_waiters x o n
no_more_wait x o n nobody zero le = let none : zero ≡ n = omega (arith, le) in ap (java_waiters x o) none
no_more_wait x o n nobody (suc m) le = by (cases_eq (suc m) n) (λ past. no_more_wait x o n nobody m past)
  where
    by : (suc m ≡ n) ⊎ (suc m ≡ n → ⊥) → (n ≤ m → java_waiters x o m ≡ java_waiters x o n) → java_waiters x o (suc m) ≡ java_waiters x o n
    by (inl e) rest = ap (java_waiters x o) e
    by (inr other) rest =
        let last : ThreadId = record { 0 = m } in
        ap (λ (ts : List ThreadId). ts ++ java_waiter x o last) (rest (omega (arith, le, other)))
        ∙ ap (λ (y : Option Thread). java_waiters x o n ++ (if is_waiting y o then last ∷ [] else [])) (nobody last (omega (arith, le, other)))
        ∙ append-nil (java_waiters x o n)

nobody_else : (n : ℕ) (w : WorldState) → IsManned n w → (u : ThreadId) → n ≤ u.0 → (shown w).thread u ≡ None
nobody_else n w manned u le = by (berth_of w.berths u) refl
  where
    by : (b : Option ℕ) → berth_of w.berths u ≡ b → thread_shown w u (berth_of w.berths u) ≡ None
    by None e = ap (thread_shown w u) e
    by (Some k) e = let lt = manned.ours u k e in absurd (omega (arith, lt, le))

-- four lists behind one
four : (x a b c d : List ℕ) → x ++ (a ++ b ++ c ++ d) ≡ x ++ a ++ b ++ c ++ d
four x a b c d =
    sym (append_assoc x (a ++ b ++ c) d)
    ∙ ap (λ (l : List ℕ). l ++ d) (sym (append_assoc x (a ++ b) c) ∙ ap (λ (l : List ℕ). l ++ c) (sym (append_assoc x a b)))

same_object_line : (names : NameLists) (w : WorldState) (o : ObjectId) (waiting : List ThreadId) → object_line names w o waiting ≡ java_object_line names (shown w) o waiting
unfolding standing_text
same_object_line names w o waiting =
    ap (λ (l : List ℕ). l ++ codes " waiting " ++ threads_text names waiting ++ 10 ∷ [])
    (four (codes "object " ++ name_at names.objects o.0) (codes " owner ") (owner_text names ((shown w).monitor o).owner) (codes " holds ")
    (decimal ((shown w).monitor o).count))

same_object_lines : (names : NameLists) (w : WorldState) (threads : ℕ) → IsManned threads w → threads ≤ length names.threads → (n : ℕ)
    → object_lines names w n ≡ java_object_lines names (shown w) threads n
same_object_lines names w threads manned le zero = refl
same_object_lines names w threads manned le (suc n) =
    let o : ObjectId = record { 0 = n } in
    let waiting = same_waiters w n (length names.threads) ∙ no_more_wait (shown w) o threads (nobody_else threads w manned) (length names.threads) le in
    ap (λ (ls : List ℕ). ls ++ object_line names w o (waiters_below w n (length names.threads))) (same_object_lines names w threads manned le n)
    ∙ ap (λ (ts : List ThreadId). java_object_lines names (shown w) threads n ++ object_line names w o ts) waiting
    ∙ ap (λ (l : List ℕ). java_object_lines names (shown w) threads n ++ l) (same_object_line names w o (java_waiters (shown w) o threads))

-- ---- an outcome

module _ (p : Program) (cs : List Choice) (s : ProgramState) (bytes : AreBytes p.lows.items) (leads : played p cs ≡ Some s) where
  objects_there : (shown s.world).objects ≡ length p.lows.items
  objects_there =
      let lead = script_leads p cs s leads in
      let keeps = reached_keeps p.lows.items p.monitors p.indices p.split (granted (script_steps p cs)) (within_limits p bytes) in
      ap (λ (w : WorldState). length w.words) (sym lead.leads) ∙ keeps.objects ∙ length-map p.lows.items low_word

  -- The text of an outcome is that of an end which shows the same machine and has the same replies.
  pub same_text : (names : NameLists) (t : JavaProgramState) (text : List ℕ) → length p.starts.items ≤ length names.threads → state t.machine ≡ shown s.world
      → ((k : ℕ) → k < length p.starts.items → java_replies_of p t k ≡ replies_of p s k) → IsOutcome names p s text → IsJavaOutcome names p t text
  same_text names t text le shows same is =
      let threads : ℕ = length p.starts.items in
      let cycles : List ℕ = flat_map (cycle_text names) is.cycles in
      let manned = (kept_played p cs s bytes leads).manned in
      let objects : object_lines names s.world (shown s.world).objects ≡ java_object_lines names (state t.machine) threads (length p.lows.items) =
      same_object_lines names s.world threads manned le (shown s.world).objects
      ∙ ap (java_object_lines names (shown s.world) threads) objects_there
      ∙ ap (λ (x : State). java_object_lines names x threads (length p.lows.items)) (sym shows) in
      record {
        cycles = is.cycles;
        exact = subst (λ (x : State). AreCycles x is.cycles) (sym shows) is.exact;
        lines = is.lines
            ∙ ap (λ (l : List ℕ). l ++ (object_lines names s.world (shown s.world).objects ++ cycles)) (same_thread_lines names p s t shows threads same)
            ∙ ap (λ (l : List ℕ). java_thread_lines names p t threads ++ (l ++ cycles)) objects;
      }
