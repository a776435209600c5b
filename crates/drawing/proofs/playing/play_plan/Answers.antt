use Rattle.std.proofs.Common.{◌≡◌, ◌∙◌, ap, arith, length, refl, sym, subst, vec_len}
use Rattle.std.proofs.lemmas.Result.{err_from_is_err_and}
use Rattle.drawing.specs.Columns.{AreColumnsThrough, HaveWords}
use Rattle.drawing.proofs.Handed.{front_run, front_short, played_front, same_front, same_part, trial_reason}
use Rattle.drawing.proofs.playing.play_plan.Goals as goal

pub drawn_in-requires : goal.drawn_in-requires
drawn_in-requires c =
    let len : vec_len c.args.plan.now.lows ≡ length c.args.plan.now.lows.items = omega (arith, c.args.plan.now.lows.ok.0) in
    front_run _ _ _ _ _ _ _ c.in_ok-front.ensures c.in_ok-world.ensures.shows (c.len-objects.ensures ∙ len ∙ sym (ap length c.deref.ensures.value)) c.deref-4.ensures.value

pub returns-in_err-drawn-clause-fault : goal.returns-in_err-drawn-clause-fault
returns-in_err-drawn-clause-fault c =
    let p = err_from_is_err_and c.from_residual-in_err-drawn.result c.from_residual-in_err-drawn.ensures.1 in
    let len : vec_len c.args.plan.now.lows ≡ length c.args.plan.now.lows.items = omega (arith, c.args.plan.now.lows.ok.0) in
    let count : vec_len c.args.plan.now.steps ≡ length c.args.plan.now.steps.items = omega (arith, c.args.plan.now.steps.ok.0) in
    let front = played_front c.args.plan.now _ _ _ _ _ _ c.in_ok-world.ensures.world c.deref.ensures.value
    (same_front c.args.window c.deref-2.result.now c.args.plan.now.steps.items c.in_ok-cut.cut.begin c.deref-2.ensures.value c.in_ok-cut.ensures.begin) c.in_ok-front.ensures in
    rw (p.1, p.2)
    (trial_reason c.args.plan.now c.args.window _ _ _ _ _ _ front (c.len-objects.ensures ∙ len) c.deref-4.ensures.value
    (same_part c.args.window c.deref-3.result.now c.args.plan.now.steps.items c.in_ok-cut.cut.begin c.in_ok-cut.cut.end _ c.deref-3.ensures.value c.in_ok-cut.ensures.begin c.in_ok-cut.ensures.end (c.len.ensures ∙ count))
    c.in_err-drawn.ensures.fault)

pub returns-in_err-columns-clause-fault : goal.returns-in_err-columns-clause-fault
returns-in_err-columns-clause-fault c =
    let p = err_from_is_err_and c.from_residual-in_err-columns.result c.from_residual-in_err-columns.ensures.1 in
    rw (p.1, p.2) refl

pub returns-clause-played : goal.returns-clause-played
returns-clause-played c =
    let count : vec_len c.args.plan.now.steps ≡ length c.args.plan.now.steps.items = omega (arith, c.args.plan.now.steps.ok.0) in
    let told = c.in_ok-columns.ensures in
    let part = same_part c.args.window c.deref-3.result.now c.args.plan.now.steps.items c.in_ok-cut.cut.begin c.in_ok-cut.cut.end _ c.deref-3.ensures.value c.in_ok-cut.ensures.begin c.in_ok-cut.ensures.end (c.len.ensures ∙ count) in (
      told.0,
      record {
        start = c.play_steps.new.world;
        front = played_front c.args.plan.now _ _ _ _ _ _ c.in_ok-world.ensures.world c.deref.ensures.value
            (same_front c.args.window c.deref-2.result.now c.args.plan.now.steps.items c.in_ok-cut.cut.begin c.deref-2.ensures.value c.in_ok-cut.ensures.begin) c.in_ok-front.ensures;
        part = subst (λ l. AreColumnsThrough c.play_steps.new.world l c.play_worded_steps.new.world told.0 c.in_ok-columns.field-0.columns.items) part told.1;
        words = subst (λ d. HaveWords d told.0 c.in_ok-columns.field-0.words.items) c.deref-5.ensures.value told.2;
      },
    )

pub returns-clause-few : goal.returns-clause-few
returns-clause-few c = omega (arith, front_short _ _ c.deref-2.result.now c.in_ok-cut.cut.begin _ c.in_ok-front.ensures, c.in_ok-cut.ensures.few)
