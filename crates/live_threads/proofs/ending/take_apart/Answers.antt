use Rattle.std.proofs.Common.{rules, ap}
use Rattle.live_threads.proofs.Ends.{one_more, all_more}
use Rattle.live_threads.proofs.ending.take_apart.Goals as goal

pub loop-pass-preserved : goal.loop-pass-preserved
loop-pass-preserved g c = record {
  row = one_more c.loop-pass.passes.items c.pop.new.self.items c.in-Some.pass c.pass.inside.turns c.loop-pass.turns.items c.push_reserved.new.self.items _ (search rules) (ap (λ p. p) c.pass.view_is) c.pass.invariant c.push_reserved.ensures.items
      c.loop-pass.invariant.row;
  rest = all_more c.pass.inside.turns c.loop-pass.turns.items c.push_reserved.new.self.items c.pass.invariant c.push_reserved.ensures.items c.loop-pass.invariant.rest;
  turns = search rules;
  parkers = search rules;
  turns_room = search rules;
  parkers_room = search rules;
  left = search rules;
}
