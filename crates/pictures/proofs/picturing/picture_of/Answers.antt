use Rattle.std.proofs.Common.{◌≡◌, ◌++◌, ◌∙◌, Err, ap, arith, inr, length, refl, subst, sym}
use Rattle.std.proofs.lemmas.Result.{err_from_is_err_and}
use Rattle.step_core.specs.Machine.{opening}
use Rattle.std.proofs.lemmas.List.{length-map}
use Rattle.jls_check.specs.MachineState.{state}
use Rattle.lock_word.specs.declared.ThreadId.{ThreadId}
use Rattle.pictures.specs.Arrows.{Follow}
use Rattle.pictures.specs.Pictures.{AreAllLive, AreLanes, AreStrips, HasManyCycles, all_hand_overs, all_moves, last_state, threads_numbered}
use Rattle.pictures.specs.declared.faults.PictureFault.TheVariants.{TooManyLanes}
use Rattle.pictures.proofs.Runs.{front_runs, rest_runs, run_join}
use Rattle.pictures.proofs.Films.{follow_run, strips_short, lanes_length, strips_length}
use Rattle.pictures.proofs.Lives.{all_have_lanes}
use Rattle.pictures.proofs.picturing.picture_of.Goals as goal

pub machine_behind-requires : goal.machine_behind-requires
machine_behind-requires c = front_runs _ _ _ c.requires.run

pub film_of-requires-clause-run : goal.film_of-requires-clause-run
film_of-requires-clause-run c = rest_runs _ _ _ _ c.requires.run c.in_ok-machine.ensures

pub put_all_hand_overs-requires : goal.put_all_hand_overs-requires
put_all_hand_overs-requires c =
    let film = c.in_ok-film.ensures in
    rw c.deref-4.ensures.value (strips_short _ _ _ _ _ _ _ _ film.follow film.strips c.in_ok-few_enough.ensures.few)

pub cycles_of-requires : goal.cycles_of-requires
cycles_of-requires c =
    let film = c.in_ok-film.ensures in
    let same = c.deref-5.ensures.value ∙ c.in_ok-threads.ensures ∙ ap threads_numbered c.deref.ensures.value in
    let run = follow_run c.deref-2.result.now 0 (state c.in_ok-machine.machine) c.args.columns.now film.states c.in_ok-film.film.arrows.items film.follow in
    subst (AreAllLive (state c.in_ok-film.film.machine)) (sym same)
    (subst (λ s. AreAllLive s (threads_numbered c.in_ok-cast.cast.threads.items)) (sym film.last)
    (all_have_lanes c.args.objects c.args.front.now c.args.columns.now (state c.in_ok-machine.machine) _ c.in_ok-cast.cast.threads.items c.in_ok-cast.ensures.cast.threads c.in_ok-machine.ensures run))

pub returns-in_err-cycles-clause-lanes : goal.returns-in_err-cycles-clause-lanes
returns-in_err-cycles-clause-lanes c =
    let film = c.in_ok-film.ensures in
    let p = err_from_is_err_and c.from_residual-in_err-cycles.result c.from_residual-in_err-cycles.ensures.1 in
    let run = follow_run c.deref-2.result.now 0 (state c.in_ok-machine.machine) c.args.columns.now film.states c.in_ok-film.film.arrows.items film.follow in
    let whole = run_join (all_moves c.args.front.now) (all_moves c.args.columns.now) (opening c.args.objects) (state c.in_ok-machine.machine) _ c.in_ok-machine.ensures run in
    λ h.
    let same : p.0 ≡ TooManyLanes = cc (p.1, h) in
    inr (last_state (state c.in_ok-machine.machine) film.states, whole, subst HasManyCycles film.last (c.in_err-cycles.ensures.many (ap (λ e. Err e) (sym p.2 ∙ same))))

pub returns-clause-picture : goal.returns-clause-picture
returns-clause-picture c =
    let film = c.in_ok-film.ensures in
    let threads = c.deref-2.ensures.value ∙ c.in_ok-threads.ensures ∙ ap threads_numbered c.deref.ensures.value in
    record {
      start = state c.in_ok-machine.machine;
      reached = c.in_ok-machine.ensures;
      threads = c.in_ok-cast.cast.threads.items;
      are_threads = c.in_ok-cast.ensures.cast.threads;
      drawn = c.in_ok-cast.cast.objects.items;
      are_drawn = c.in_ok-cast.ensures.cast.objects;
      states = film.states;
      told = c.in_ok-film.film.arrows.items;
      follow = subst (λ us. Follow us 0 (state c.in_ok-machine.machine) c.args.columns.now film.states c.in_ok-film.film.arrows.items) threads film.follow;
      lanes = subst (λ us. AreLanes c.args.columns.now film.states us c.in_ok-film.film.lanes.items) threads film.lanes;
      strips = subst (λ os. AreStrips c.args.words.now 0 film.states os c.in_ok-film.film.strips.items) c.deref-3.ensures.value film.strips;
      arrows = c.in_ok-put_all_hand_overs.ensures ∙ ap (λ ps. c.in_ok-film.film.arrows.items ++ all_hand_overs ps) c.deref-4.ensures.value;
      moments = c.in_ok-moments_of.ensures;
      refusals = c.in_ok-refusals_of.ensures;
      first = refl;
      columns = refl;
      cycles = rw (← film.last) c.in_ok-cycles.ensures.cycles;
    }

pub returns-clause-within : goal.returns-clause-within
returns-clause-within c =
    let film = c.in_ok-film.ensures in
    let cast = c.in_ok-cast.ensures.cast in
    let lanes = lanes_length _ _ _ _ film.lanes in
    let threads = ap length c.deref-2.ensures.value in
    let numbered = ap length c.in_ok-threads.ensures in
    let numbers = ap length c.deref.ensures.value in
    let same = length-map {B = ThreadId} c.deref.result.now (λ n. record { 0 = n }) in
    let strips = strips_length _ _ _ _ _ film.strips in
    let drawn = ap length c.deref-3.ensures.value in
    record {
      columns = c.in_ok-few_enough.ensures.few;
      lanes = omega (arith, lanes, threads, numbered, numbers, same, cast.few_threads);
      strips = omega (arith, strips, drawn, cast.few_objects);
      cycles = c.in_ok-cycles.ensures.few;
    }
