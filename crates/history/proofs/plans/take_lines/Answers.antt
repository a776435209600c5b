use Rattle.std.proofs.Common.{◌∙◌}
use Rattle.history.proofs.Lines.{all_names_next, line_may_be_taken, lows_next, names_next, requests_next}
use Rattle.history.proofs.plans.take_lines.Goals as goal

pub take_line-requires : goal.take_line-requires
take_line-requires c =
    line_may_be_taken c.args.lines.now c.lines.line-index c.line-item.result c.lines.plan.names.objects c.requires.follow c.lines-test.true c.line-item.is c.lines.invariant.objects

pub lines-preserved : goal.lines-preserved
lines-preserved c = record {
  objects = names_next c.args.lines.now c.lines.line-index c.line-item.result c.lines.plan.names.objects c.take_line.new.self.names.objects c.requires.follow c.lines-test.true c.line-item.is
      c.lines.invariant.objects c.in_ok-take_line.ensures.objects;
  lows = lows_next c.args.lines.now c.lines.line-index c.line-item.result c.lines.plan.lows.items c.take_line.new.self.lows.items c.lines-test.true c.line-item.is c.lines.invariant.lows
      c.in_ok-take_line.ensures.lows;
  names = all_names_next c.args.lines.now c.lines.line-index c.line-item.result c.lines.plan.names c.take_line.new.self.names c.lines-test.true c.line-item.is c.lines.invariant.names
      c.in_ok-take_line.ensures.names;
  steps = requests_next c.args.lines.now c.lines.line-index c.line-item.result c.lines.plan.names c.lines.plan.steps.items c.take_line.new.self.steps.items c.lines-test.true c.line-item.is
      c.lines.invariant.names c.lines.invariant.steps c.in_ok-take_line.ensures.steps;
  world = (c.take_line.ensures.world.0 ∙ c.lines.invariant.world.0, c.take_line.ensures.world.1 ∙ c.lines.invariant.world.1, c.take_line.ensures.world.2 ∙ c.lines.invariant.world.2);
}
