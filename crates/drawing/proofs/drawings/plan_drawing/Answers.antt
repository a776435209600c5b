use Rattle.std.proofs.Common.{◌≡◌, ◌∙◌, arith, length, refl, string_bytes, vec_len}
use Rattle.drawing.proofs.Handed.{plan_drawn, plan_refused, played_run}
use Rattle.drawing.proofs.drawings.plan_drawing.Goals as goal

pub played_drawing-requires-clause-run : goal.played_drawing-requires-clause-run
played_drawing-requires-clause-run c =
    let len : vec_len c.args.plan.now.lows ≡ length c.args.plan.now.lows.items = omega (arith, c.args.plan.now.lows.ok.0) in
    played_run _ _ _ _ _ _ c.in_ok-played.ensures.played.1 c.in_ok-played.ensures.opens (c.len-objects.ensures ∙ len)

pub returns-clause-drawing : goal.returns-clause-drawing
returns-clause-drawing c =
    let len : vec_len c.args.plan.now.lows ≡ length c.args.plan.now.lows.items = omega (arith, c.args.plan.now.lows.ok.0) in
    plan_drawn string_bytes _ _ _ _ _ _ _ c.in_ok-played.ensures.within c.in_ok-played.ensures.played.1 refl (c.len-objects.ensures ∙ len) c.played_drawing.ensures.drawing

pub returns-clause-fault : goal.returns-clause-fault
returns-clause-fault c =
    let len : vec_len c.args.plan.now.lows ≡ length c.args.plan.now.lows.items = omega (arith, c.args.plan.now.lows.ok.0) in
    plan_refused _ _ _ _ _ _ c.in_ok-played.ensures.played.1 (c.len-objects.ensures ∙ len) c.played_drawing.ensures.fault
