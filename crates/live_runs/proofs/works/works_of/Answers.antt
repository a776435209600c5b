use Rattle.std.proofs.Common.{arith}
use Rattle.std.proofs.lemmas.Grind.{common_steps}
use Rattle.live_runs.proofs.Workers.{all_moved, none_left, none_of}
use Rattle.live_runs.proofs.works.works_of.Goals as goal

pub returns-clause-passes : goal.returns-clause-passes
returns-clause-passes g c =
    all_moved (λ w. w.pass) c.loop-pass.passes.items c.loop-pass.works.items c.reverse.new.self.items c.args.passes.items
    (none_left c.loop-pass.passes.items c.last_of.result c.in_default.not-Some c.last_of.ensures.none) c.reverse.ensures.items c.loop-pass.invariant.passes

pub returns-clause-calls : goal.returns-clause-calls
returns-clause-calls g c =
    all_moved (λ w. w.calls) c.loop-pass.rows.items c.loop-pass.works.items c.reverse.new.self.items c.args.rows.items
    (none_of c.loop-pass.passes.items c.loop-pass.rows.items (none_left c.loop-pass.passes.items c.last_of.result c.in_default.not-Some c.last_of.ensures.none) c.loop-pass.invariant.len)
    c.reverse.ensures.items c.loop-pass.invariant.calls

pub loop-pass-preserved : goal.loop-pass-preserved
loop-pass-preserved g c = record {
  len = grind (arith, common_steps);
  room = grind (arith, common_steps);
  passes = grind (arith, common_steps);
  calls = grind (arith, common_steps);
}

pub unreachable-requires : goal.unreachable-requires
unreachable-requires g c = grind (arith, common_steps)

pub push_reserved-requires : goal.push_reserved-requires
push_reserved-requires g c = grind (arith, common_steps)

pub loop-pass-smaller : goal.loop-pass-smaller
loop-pass-smaller g c = grind (arith, common_steps)
