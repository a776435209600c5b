use Rattle.std.proofs.Common.{◌∙◌, ap, map, take, if◌then◌else◌, ◌==◌, ◌+◌, ℕ, arith}
use Rattle.live_scripts.specs.Rules.{indices_of}
use Rattle.live_scripts.proofs.Running.{threads_more, runs_more, most_more, may_here, running_at, stuck_at}
use Rattle.live_scripts.proofs.rules.running_lines.Goals as goal

pub returns-then-not-may_run : goal.returns-then-not-may_run
returns-then-not-may_run c = let ls = c.args.lines.now in let i = c.lines.line-index in
    running_at ls c.lines.count i (map (λ t. t.now) c.lines.threads.items) c.lines.invariant.count (omega (arith, c.lines-test.true)) c.lines.invariant.runs c.lines.invariant.threads
    (stuck_at ls i c.line-item.result c.line-item.is
    (may_here (take i ls) c.line-item.result c.lines.most (map (λ t. t.now) c.deref.result.now) c.may_run.result _ c.lines.invariant.most (ap (map (λ t. t.now)) c.deref.ensures.value ∙ c.lines.invariant.threads) c.may_run.ensures c.if-not-may_run.true))

pub lines-preserved : goal.lines-preserved
lines-preserved c = let ls = c.args.lines.now in let i = c.lines.line-index in
    record {
      count = ap (λ (k : ℕ). k + 1) c.lines.invariant.count;
      most = c.most_after-most.ensures ∙ ap (λ (k : ℕ). if k == 0 then indices_of c.line-item.result else c.lines.most) c.lines.invariant.count
          ∙ most_more ls i c.line-item.result c.lines.most c.lines-test.true c.line-item.is c.lines.invariant.most;
      threads = threads_more ls i c.line-item.result (map (λ t. t.now) c.lines.threads.items) (map (λ t. t.now) c.note.new.threads.items) c.lines-test.true c.line-item.is c.lines.invariant.threads c.in_ok-note.ensures;
      runs = runs_more ls i c.line-item.result c.lines-test.true c.line-item.is c.lines.invariant.runs
          (may_here (take i ls) c.line-item.result c.lines.most (map (λ t. t.now) c.deref.result.now) c.may_run.result _ c.lines.invariant.most (ap (map (λ t. t.now)) c.deref.ensures.value ∙ c.lines.invariant.threads) c.may_run.ensures c.if-not-may_run.false);
    }
