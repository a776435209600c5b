use Rattle.std.proofs.Common.{◌+◌, arith, true≢false, ◌∙◌, sym, Contains, map}
use Rattle.live_turns.proofs.Ends.{up_to}
use Rattle.live_turns.proofs.numbered.has_numbers.Goals as goal

pub loop-below-preserved : goal.loop-below-preserved
loop-below-preserved g c = λ i one most.
    up_to (Contains (map g.P.Numbered.numbered c.args.passes.now)) c.loop-below.below i c.loop-below.invariant (c.has_number.ensures.0 c.if-not-has_number.false) one most

pub returns-clause-found : goal.returns-clause-found
returns-clause-found g c = λ _ i one most. c.loop-below.invariant i one (let t = c.loop-below-test.false in omega arith)

pub returns-then-not-has_number-clause-missing : goal.returns-then-not-has_number-clause-missing
returns-then-not-has_number-clause-missing g c = λ _ all.
    true≢false (sym (c.has_number.ensures.1 (all (c.loop-below.below + 1) (omega arith) (let h = c.loop-below-test.true in omega arith))) ∙ c.if-not-has_number.true)
