use native.Mathlib.Omega.{arith}
use Rattle.std.proofs.Common.{◌≡◌}
use Rattle.explore_java.proofs.Finding.{finds_all, few, over, has_more}
use Rattle.explore_java.proofs.search.find_all.Goals as goal

pub returns-then-not-branch : goal.returns-then-not-branch
returns-then-not-branch g c =
    let done = c.in_ok-visit.ensures.last c.if-not-branch.true in
    let visited = rw (c.if-not-branch.true, done) at c.in_ok-visit.ensures.visited in
    let below = c.visiting-test.true in
    record {
      all = finds_all c.args.program.now c.visit.new.self.codes.keys c.visit.new.self.nodes.items c.visit.new.ends.items c.visit.new.steps c.visiting.at c.visit.new.self.parents visited;
      few = few c.args.program.now c.visit.new.self.codes.keys c.visit.new.self.nodes.items c.visit.new.ends.items c.visit.new.steps c.visiting.at c.args.most visited
          (omega (arith, below));
      reason = tt;
    }

pub returns-then-is_over-clause-reason : goal.returns-then-is_over-clause-reason
returns-then-is_over-clause-reason g c =
    over c.args.program.now c.visit.new.self.codes.keys c.visit.new.self.nodes.items c.visit.new.self.queue.items c.visit.new.ends.items c.visit.new.steps _ c.args.most c.visit.new.self.parents
    c.in_ok-visit.ensures.visited (c.is_over.ensures c.if-is_over.true)

pub returns : goal.returns
returns g c =
    let done = c.is_done.ensures.done c.if-not-is_done.false in
    let visited = rw done at c.visiting.invariant in
    let past = c.visiting-test.false in
    record {
      all = finds_all c.args.program.now c.visiting.search.codes.keys c.visiting.search.nodes.items c.visiting.ends.items c.visiting.steps c.visiting.at c.visiting.search.parents visited;
      few = few c.args.program.now c.visiting.search.codes.keys c.visiting.search.nodes.items c.visiting.ends.items c.visiting.steps c.visiting.at c.args.most visited
          (omega (arith, past, c.visiting.auto.at-end));
      reason = tt;
    }

pub returns-then-not-is_done-clause-reason : goal.returns-then-not-is_done-clause-reason
returns-then-not-is_done-clause-reason g c =
    let past = c.visiting-test.false in
    let most : c.visiting.at ≡ c.args.most = omega (arith, past, c.visiting.auto.at-end) in
    has_more c.args.program.now c.visiting.search.codes.keys c.visiting.search.nodes.items c.visiting.search.queue.items c.visiting.ends.items c.visiting.steps c.args.most c.visiting.search.parents
    (rw most at c.visiting.invariant) (c.is_done.ensures.more c.if-not-is_done.true)
