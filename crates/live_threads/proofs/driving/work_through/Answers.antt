use Rattle.std.proofs.Common.{◌+◌, ◌∷◌, [], ap, arith, length-append}
use Rattle.std.proofs.lemmas.Grind.{common_steps}
use Rattle.live_threads.proofs.Drives.{answered_next, answered_so_far}
use Rattle.live_threads.proofs.driving.work_through.Goals as goal

pub returns-then-not-before : goal.returns-then-not-before
returns-then-not-before g c = record {
  driven = (
    c.loop-call.invariant.here,
    rw (← c.deref-call-items.ensures.value) (answered_so_far c.args.live.now c.deref-call-items.result.now c.loop-call.call-index c.loop-call.answers.items c.args.job.work.pass c.loop-call.pass c.loop-call.invariant.answered),
    (λ e. absurd (cc)),
    (λ e some. let lt = c.loop-call-test.true in let count = c.loop-call.invariant.count in rw (← c.deref-call-items.ensures.value) (omega arith)),
  );
}

pub loop-call-preserved : goal.loop-call-preserved
loop-call-preserved g c =
    let i = c.loop-call.invariant in
    record {
      number = ap (λ k. k + 1) i.number;
      room = rw c.push_reserved.ensures.capacity i.room;
      here = c.call-answer.ensures.here;
      count = rw c.push_reserved.ensures.items (let l = length-append c.loop-call.answers.items (c.call-answer.result ∷ []) in let k = i.count in omega arith);
      answered = rw c.push_reserved.ensures.items (answered_next c.args.live.now c.deref-call-items.result.now c.loop-call.call-index _ c.loop-call.answers.items c.call-answer.result c.args.job.work.pass c.loop-call.pass c.call-answer.new.pass
          c.loop-call-test.true i.count i.answered c.call-answer.ensures.called);
    }

pub returns : goal.returns
returns g c = grind (arith, common_steps)
