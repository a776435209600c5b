use Rattle.std.proofs.Common.{subst, sym}
use Rattle.std.specs.List.{All}
use Rattle.std.proofs.lemmas.List.Elements.{All-push}
use Rattle.live_threads.specs.Driving.{CanDrive}
use Rattle.long_run.proofs.passes.works_of.Goals as goal

pub loop-plan-preserved : goal.loop-plan-preserved
loop-plan-preserved g c =
    record {
      here = c.last_pass.ensures.rest;
      can = subst (All (CanDrive c.args.live.now)) (sym c.in_ok-push.ensures.items)
          (All-push (CanDrive c.args.live.now) c.loop-plan.works.items (record { pass = c.in-Some.pass; calls = c.in_ok-copy.field-0 }) c.loop-plan.invariant.can (c.in-Some.ensures.last, c.in_ok-copy.ensures));
    }
