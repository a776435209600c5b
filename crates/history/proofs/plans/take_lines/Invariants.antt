use Rattle.std.proofs.Common.{◌≡◌, take}
use Rattle.script_text.specs.LinesSoFar.{object_names}
use Rattle.history.specs.Numbering.{low_bytes, names_of, requests_of}
use Rattle.history.proofs.plans.take_lines.Given as goal

abbrev pub invariant-lines : goal.invariant-lines
invariant-lines l = record {
  objects : l.plan.names.objects ≡ object_names (take l.line-index l.lines);
  lows : l.plan.lows.items ≡ low_bytes (take l.line-index l.lines);
  names : l.plan.names ≡ names_of (take l.line-index l.lines);
  steps : l.plan.steps.items ≡ requests_of (take l.line-index l.lines);
  world : (l.plan.monitors ≡ l.fn.plan.monitors) × (l.plan.indices ≡ l.fn.plan.indices) × (l.plan.split ≡ l.fn.plan.split);
}
