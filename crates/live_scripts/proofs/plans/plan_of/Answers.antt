use Rattle.std.proofs.Common.{◌∙◌, ap, map, length, List, ℕ, Bor, arith}
use Rattle.live_scripts.specs.Rules.{attached_threads}
use Rattle.live_scripts.specs.Plans.{lows_of, monitors_in, objects_of}
use Rattle.live_scripts.proofs.Few.{few_objects, few_threads}
use Rattle.live_scripts.proofs.Positions.{length_map, rows_all}
use Rattle.live_scripts.proofs.plans.plan_of.Goals as goal

pub rows_of-requires-clause-objects : goal.rows_of-requires-clause-objects
rows_of-requires-clause-objects c =
    let few = few_objects c.lines-lines.result.now c.lines-lines.ensures.rules in
    let same = ap length c.in_ok-objects.ensures in
    omega (arith, few, same, ap length c.deref.ensures.value, length_map (λ (t : Bor (List ℕ)). t.now) c.in_ok-objects.objects.items)

pub rows_of-requires-clause-threads : goal.rows_of-requires-clause-threads
rows_of-requires-clause-threads c =
    let few = few_threads c.lines-lines.result.now c.lines-lines.ensures.rules in
    let same = ap length c.in_ok-threads.ensures in
    omega (arith, few, same, ap length c.deref-2.ensures.value, length_map (λ (t : Bor (List ℕ)). t.now) c.in_ok-threads.threads.items)

pub returns-clause-plan : goal.returns-clause-plan
returns-clause-plan c =
    let is = c.lines-lines.ensures.lines in
    let objects = ap (map (λ t. t.now)) c.deref.ensures.value ∙ c.in_ok-objects.ensures in
    let threads = ap (map (λ t. t.now)) c.deref-2.ensures.value ∙ c.in_ok-threads.ensures in
    record {
      monitors = c.monitors_in.ensures ∙ ap monitors_in is;
      threads = c.in_ok-threads.ensures ∙ ap attached_threads is;
      objects = c.in_ok-objects.ensures ∙ ap objects_of is;
      lows = c.in_ok-lows.ensures ∙ ap lows_of is;
      calls = c.in_ok-calls.ensures ∙ rows_all c.deref.result.now c.deref-2.result.now c.lines-lines.result.now c.args.script.now objects threads is;
    }
