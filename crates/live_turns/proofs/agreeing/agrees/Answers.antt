use Rattle.std.proofs.Common.{◌∙◌}
use Rattle.live_turns.proofs.Records.{none_left, another_next}
use Rattle.live_turns.proofs.agreeing.agrees.Goals.{then-next-own-via-then-next-own, then-next-own-via-else-next-own+then-not-same}
use Rattle.live_turns.proofs.agreeing.agrees.Goals as goal

pub returns-then-next-own-clause-other : goal.returns-then-next-own-clause-other
returns-then-next-own-clause-other c = λ _ all. elim c.then-next-own.branch [
  | then-next-own-via-then-next-own w ↦
      none_left c.args.thread c.args.log.now c.args.own.now c.loop-entry.entry-index c.loop-entry.next _ c.loop-entry-test.true (c.if-entry-from.true ∙ c.from.ensures)
      c.loop-entry.invariant.0 c.loop-entry.invariant.1 w.if-next-own.true all
  | then-next-own-via-else-next-own+then-not-same w ↦
      another_next c.args.thread c.args.log.now c.args.own.now c.loop-entry.entry-index c.loop-entry.next _ c.loop-entry-test.true (c.if-entry-from.true ∙ c.from.ensures)
      c.loop-entry.invariant.0 c.loop-entry.invariant.1 (w.same.ensures.other w.if-not-same.true) all
]
