use Rattle.std.proofs.Common.{ap, length, map, rules, subst, sym, ◌∙◌, ◌≡◌}
use Rattle.std.specs.List.{All}
use Rattle.std.proofs.lemmas.List.{length-map}
use Rattle.header_words.specs.Passes.{new_passes}
use Rattle.live_turns.specs.Ends.{IsEnd}
use Rattle.live_turns.specs.Ways.{Holding, new_holding}
use Rattle.live_turns.proofs.Rows.{length-new_passes}
use Rattle.live_threads.specs.Ends.{at_rest}
use Rattle.live_threads.proofs.Ends.{each_is_back}
use Rattle.live_scripts.specs.Rules.{attached_threads}
use Rattle.live_scripts.specs.Plans.{calls_of, monitors_in, objects_of}
use Rattle.live_runs.specs.Texts.{live_text}
use Rattle.live_runs.specs.Runs.{told_in, told_in_row}
use Rattle.live_runs.proofs.Plans.{as_many_lows, rows_are, rows_live}
use Rattle.live_runs.proofs.Workers.{as_many, can_drive, have_run, of_run, passes_after, passes_belong, workers_of, workers_told}
use Rattle.live_runs.proofs.playing.drive_all.Goals as goal

pub drive-requires-clause-can : goal.drive-requires-clause-can
drive-requires-clause-can g c κs within =
    let ls = c.args.script.now in
    can_drive c.args.live c.args.live.count c.args.works.items (map (λ t. calls_of (objects_of ls) (attached_threads ls) t ls) (attached_threads ls)) c.requires.passes c.requires.calls (rows_live ls c.requires.script)

pub end_of-requires-clause-belong : goal.end_of-requires-clause-belong
end_of-requires-clause-belong g c =
    subst (All (λ (p : Holding). p.words.opening ≡ c.args.live)) (sym c.in_ok-passes.ensures.passes) (passes_belong c.args.live c.args.works.items c.in-Ok.worked.items c.in-Ok.ensures.driven)

pub end_of-requires-clause-back : goal.end_of-requires-clause-back
end_of-requires-clause-back g c =
    each_is_back c.args.live c.args.live.count c.args.works.items c.in-Ok.worked.items c.in_ok-passes.passes.items c.requires.passes c.in-Ok.ensures.numbers c.in_ok-passes.ensures.passes

pub live_text-requires-clause-threads : goal.live_text-requires-clause-threads
live_text-requires-clause-threads g c =
    ap length c.deref.ensures.value
    ∙ (rows_are told_in_row told_in c.in_ok-passes.told.items c.in-Ok.worked.items c.in_ok-passes.ensures.told
    ∙ (as_many c.args.live c.args.works.items c.in-Ok.worked.items c.in-Ok.ensures.driven
    ∙ (rows_are (λ w. w.pass) new_holding c.args.works.items (new_passes c.args.live 1 c.args.live.count) c.requires.passes
    ∙ (length-new_passes c.args.live 1 c.args.live.count ∙ c.requires.threads))))

pub live_text-requires-clause-objects : goal.live_text-requires-clause-objects
live_text-requires-clause-objects g c =
    sym (length-map c.in_ok-closed.closed.words.items (λ w. w.0)) ∙ (c.in_ok-closed.ensures.end.words.wide ∙ (ap length c.requires.lows ∙ as_many_lows c.args.script.now))

pub returns-in_err-closed-clause-fault : goal.returns-in_err-closed-clause-fault
returns-in_err-closed-clause-fault g c =
    let driven = c.in-Ok.ensures.driven in
    let ws = c.args.works.items in
    let ds = c.in-Ok.worked.items in
    let ran = have_run c.args.script.now c.args.live ws ds c.requires.lows c.requires.threads c.requires.passes c.requires.calls driven in
    let after = passes_after c.args.live ws ds c.in_ok-passes.passes.items driven c.in_ok-passes.ensures.passes in
    let fault =
    of_run c.args.script.now c.args.live _ (workers_of ws ds) (map at_rest c.in_ok-passes.passes.items) c.in_err-closed.field-0.0 ran c.requires.crew.2 after c.in_err-closed.ensures.fault in
    search (rules, fault)

pub returns-clause-run : goal.returns-clause-run
returns-clause-run g c =
    let driven = c.in-Ok.ensures.driven in
    let ws = c.args.works.items in
    let ds = c.in-Ok.worked.items in
    record {
      opening = c.args.live;
      workers = workers_of ws ds;
      ran = have_run c.args.script.now c.args.live ws ds c.requires.lows c.requires.threads c.requires.passes c.requires.calls driven;
      closed = c.in_ok-closed.closed;
      end = subst (λ ps. IsEnd c.args.live (monitors_in c.args.script.now) ps c.in_ok-closed.closed) (passes_after c.args.live ws ds c.in_ok-passes.passes.items driven c.in_ok-passes.ensures.passes)
          (subst (λ n. IsEnd c.args.live n (map at_rest c.in_ok-passes.passes.items) c.in_ok-closed.closed) c.requires.crew.2 c.in_ok-closed.ensures.end);
      says = c.in_ok-live_text.ensures ∙ ap (λ ts. live_text c.args.script.now ts c.in_ok-closed.closed)
          (ap (map told_in_row) c.deref.ensures.value ∙ (c.in_ok-passes.ensures.told ∙ sym (workers_told c.args.live ws ds driven)));
    }
