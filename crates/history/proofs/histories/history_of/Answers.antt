use Rattle.std.proofs.Common.{◌≡◌, ◌∙◌, ap, arith, length}
use Rattle.history.specs.Histories.{objects_text}
use Rattle.history.proofs.Telling.{told_all}
use Rattle.history.proofs.histories.history_of.Goals as goal

pub returns : goal.returns
returns c =
    let n : c.len.result ≡ length c.args.plan.now.lows.items = omega (arith, c.len.ensures, c.args.plan.now.lows.ok.0) in
    told_all c.args.plan.now c.deref.result.now c.in_ok-world.world c.tell_steps.new.world c.in_ok-history.history.items c.tell_steps.new.history.items c.deref-2.result.now
    c.deref.ensures.value c.in_ok-world.ensures.world c.in_ok-world.ensures.shows (c.in_ok-history.ensures ∙ ap objects_text n) c.deref-2.ensures.value c.in_ok-tell_steps.ensures
