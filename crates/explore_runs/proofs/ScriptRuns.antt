-- The moves of a script are a run of the machine, and those of an outcome leave it nothing to do.
use native.Mathlib.Omega.{arith}
use Rattle.std.proofs.Common.{◌≡◌, ◌∙◌, sym, ap, subst, ℕ, ◌+◌, ◌-◌, ◌<◌, Bool, false, List, [], ◌++◌, length, map, take, Some}
use Rattle.std.specs.Prelude.{slice_get}
use Rattle.std.proofs.lemmas.List.Elements.{filter_map-append}
use Rattle.std.proofs.lemmas.Option.{get_or_from_slice_get}
use Rattle.lock_word.specs.declared.ThreadId.{ThreadId}
use Rattle.fast_path.specs.declared.calls.Call.{Call}
use Rattle.step_core.specs.Machine.{Is, Run, opening as opening_state}
use Rattle.step_core.specs.Labels.{labels_after}
use Rattle.step_core.specs.Requests.{moves_after}
use Rattle.step_core.specs.Shown.{shown}
use Rattle.step_core.specs.World.{WorldState}
use Rattle.step_core.specs.declared.machine.Doing.{Doing}
use Rattle.step_core.specs.declared.machine.Move.{Move}
use Rattle.step_core.specs.declared.machine.Move.TheVariants as move
use Rattle.step_core.proofs.Lists.Reached.{reached_run}
use Rattle.step_core.proofs.Sound.Opening.{opened_sound}
use Rattle.explore.specs.declared.programs.Program.{Program}
use Rattle.explore.specs.declared.programs.Choice.{Choice}
use Rattle.explore.proofs.Serving.{next_of as next_of_thread}
use Rattle.explore.specs.Found.{IsEnd}
use Rattle.explore.specs.States.{ProgramState, opening, played, start_of, thread_of}
use Rattle.explore_runs.specs.Steps.{empty_world, granted, script_moves, script_steps, steps_from}
use Rattle.explore_java.specs.JavaRuns.{AreBytes, BeginsWithAttaches, IsLeft, IsOutcomeOf, IsRunOf, Rests, attached_by, attached_in, called_by, calls_in, calls_of, moments_in, threads_below, told_by, woken_in}
use Rattle.explore_runs.proofs.Leading.{moves_first, script_leads}
use Rattle.explore_java.proofs.CallFronts.{call_back, front_next, front_of}
use Rattle.explore_runs.proofs.Called.{Told, begun, one_if, picks_attach, picks_call, picks_moment, script_told, way_played}
use Rattle.explore_runs.proofs.Labelled.{attach_moves, attached_back, attaches_moved, nothing_more, script_picked, within_limits}
use Rattle.explore_runs.proofs.Waking.{script_wakes, steps_wake}
use Rattle.explore_runs.proofs.Ended.{kept_played, next_there}
use Rattle.explore_runs.proofs.Stuck.{IsLeftIn, is_rests, stuck}

-- ---- the moves of a script

-- they are a run of the machine, which leads to what the state of the choices shows
script_runs : (p : Program) (cs : List Choice) (s : ProgramState) → AreBytes p.lows.items → played p cs ≡ Some s
    → Run (opening_state (length p.lows.items)) (script_moves p cs) (shown s.world)
script_runs p cs s bytes h =
    let lead = script_leads p cs s h in
    subst (λ (v : WorldState). Run (opening_state (length p.lows.items)) (script_moves p cs) (shown v)) lead.leads
    (reached_run p.lows.items p.monitors p.indices p.split (granted (script_steps p cs)) (within_limits p bytes))

-- what they tell by their labels
module _ (p : Program) (cs : List Choice) (s : ProgramState) (bytes : AreBytes p.lows.items) (leads : played p cs ≡ Some s) where
  told : Told p s (attach_moves (length p.starts.items) ++ labels_after (opening p).world (granted (steps_from p (Some (opening p)) cs)))
  told = script_told p cs s bytes leads

  attaches_told : attached_in (script_moves p cs) ≡ threads_below (length p.starts.items)
  attaches_told = script_picked attached_by picks_attach p cs bytes ∙ told.attaches

  -- the threads of the program are attached before anything else
  attaches_first : BeginsWithAttaches (threads_below (length p.starts.items)) (script_moves p cs)
  attaches_first =
      let threads : List ThreadId = threads_below (length p.starts.items) in
      let rest : List Move = moves_after (opening p).world (granted (steps_from p (Some (opening p)) cs)) in
      let begins : script_moves p cs ≡ map (λ (t : ThreadId). move.Attach t) threads ++ rest =
      moves_first p cs ∙ ap (λ (ms : List Move). ms ++ rest) (attaches_moved p (length p.starts.items) (omega arith)) in
      let no_more : threads ++ attached_in rest ≡ threads =
      ap (λ (ts : List ThreadId). ts ++ attached_in rest) (sym (attached_back threads))
      ∙ sym (filter_map-append attached_by (map (λ (t : ThreadId). move.Attach t) threads) rest) ∙ ap attached_in (sym begins) ∙ attaches_told in
      (rest, begins, nothing_more threads (attached_in rest) no_more)

  moments_told : moments_in (script_moves p cs) ≡ take s.told p.moments.items
  moments_told = script_picked told_by picks_moment p cs bytes ∙ told.moments

  calls_told : (k : ℕ) → k < length p.starts.items → calls_in (thread_of k) (script_moves p cs) ≡ take (begun p s k) (calls_of p k)
  calls_told k lt = script_picked (called_by (thread_of k)) (picks_call (thread_of k)) p cs bytes ∙ told.calls k lt

  never_woken : p.spurious ≡ false → woken_in (script_moves p cs) ≡ []
  never_woken never =
      steps_wake (empty_world p) (script_steps p cs)
      (opened_sound p.lows.items p.monitors p.indices p.split (λ k lt. bytes k) (let most = p.objects_fit in omega (arith, most)) p.indices_fit p.monitors_fit)
      (script_wakes p never cs)

  -- So they are a run that the program may make.
  pub script_is_run : IsRunOf p (script_moves p cs) (shown s.world)
  script_is_run = record {
    run = script_runs p cs s bytes leads;
    attaches = attaches_first;
    calls = λ k lt. front_of (calls_in (thread_of k) (script_moves p cs)) (calls_of p k) (begun p s k) (calls_told k lt);
    moments = front_of (moments_in (script_moves p cs)) p.moments.items s.told moments_told;
    woken = never_woken;
  }

  -- what they leave is left in the state
  left_in : (m : Move) → IsLeft p (script_moves p cs) m → IsLeftIn p s m
  left_in (move.Attach t) left = left
  left_in (move.Call t c) left = λ idle.
      let kept = kept_played p cs s bytes leads in
      let each = kept.each in
      let way = way_played p cs s leads in
      let k : ℕ = t.0 in
      let next = next_there s.nexts k (let lt = left.0 in omega (arith, lt, each)) in
      let at : next_of_thread s k ≡ next.0 = get_or_from_slice_get s.nexts k next.0 0 next.1 in
      let count : begun p s k ≡ next.0 - start_of p k =
      ap (λ (b : Bool). (next_of_thread s k - start_of p k) + one_if b) idle ∙ ap (λ (n : ℕ). (n - start_of p k) + 0) at ∙ omega arith in
      let here : slice_get (calls_of p k) (next.0 - start_of p k) ≡ Some c =
      ap (λ (n : ℕ). slice_get (calls_of p k) n) (sym count)
      ∙ front_next (begun p s k) (calls_of p k) c (ap (λ (cs : List Call). slice_get (calls_of p k) (length cs)) (sym (calls_told k left.0)) ∙ left.1) in
      let from = (way.threads k left.0).from in
      (next.0, (next.1, left.0), call_back p k next.0 c (omega (arith, from, at)) here)
  left_in (move.Spurious t) left = left
  left_in (move.Time now) left = front_next s.told p.moments.items now (ap (λ (ns : List ℕ). slice_get p.moments.items (length ns)) (sym moments_told) ∙ left)
  left_in m left = tt

  -- And where no choice changes the state it is an outcome of the machine.
  pub script_is_outcome : IsEnd p s → IsOutcomeOf p (script_moves p cs) (shown s.world)
  script_is_outcome end = record {
    of = script_is_run;
    stuck = λ m x left steps. stuck p s (kept_played p cs s bytes leads) end m x (left_in m left) steps;
  }

  pub script_rests : (t : ThreadId) (flag : Bool) (d : Doing) → IsEnd p s → Is (shown s.world) t flag d → Rests p (shown s.world) t d
  script_rests t flag d end is = is_rests p s (kept_played p cs s bytes leads) end t flag d is
