use Rattle.step_core.proofs.Clauses.All.{tells, if_refused, if_accepted}
use Rattle.step_core.proofs.worlds.World.step.Goals as goal

pub returns-clause-run : goal.returns-clause-run
returns-clause-run c = let e = c.advance.ensures.exact in (tells c.args.self.now c.advance.new.self c.args.step c.advance.result e.0 c.advance.ensures.was e.1).run

pub returns-clause-changes : goal.returns-clause-changes
returns-clause-changes c = let e = c.advance.ensures.exact in (tells c.args.self.now c.advance.new.self c.args.step c.advance.result e.0 c.advance.ensures.was e.1).changes

pub returns-clause-labels : goal.returns-clause-labels
returns-clause-labels c = let e = c.advance.ensures.exact in (tells c.args.self.now c.advance.new.self c.args.step c.advance.result e.0 c.advance.ensures.was e.1).labels

pub returns-clause-refused : goal.returns-clause-refused
returns-clause-refused c =
    let e = c.advance.ensures.exact in
    if_refused c.args.self.now c.args.step c.advance.result (tells c.args.self.now c.advance.new.self c.args.step c.advance.result e.0 c.advance.ensures.was e.1).judged

pub returns-clause-accepted : goal.returns-clause-accepted
returns-clause-accepted c =
    let e = c.advance.ensures.exact in
    if_accepted c.args.self.now c.args.step c.advance.result (tells c.args.self.now c.advance.new.self c.args.step c.advance.result e.0 c.advance.ensures.was e.1).judged

pub returns-clause-unchanged : goal.returns-clause-unchanged
returns-clause-unchanged c = let e = c.advance.ensures.exact in (tells c.args.self.now c.advance.new.self c.args.step c.advance.result e.0 c.advance.ensures.was e.1).unchanged

pub returns-clause-patient : goal.returns-clause-patient
returns-clause-patient c = let e = c.advance.ensures.exact in (tells c.args.self.now c.advance.new.self c.args.step c.advance.result e.0 c.advance.ensures.was e.1).patient

pub returns-clause-kept : goal.returns-clause-kept
returns-clause-kept c = let e = c.advance.ensures.exact in (tells c.args.self.now c.advance.new.self c.args.step c.advance.result e.0 c.advance.ensures.was e.1).kept

pub returns-clause-spared : goal.returns-clause-spared
returns-clause-spared c = let e = c.advance.ensures.exact in (tells c.args.self.now c.advance.new.self c.args.step c.advance.result e.0 c.advance.ensures.was e.1).spared

pub returns-clause-lasting : goal.returns-clause-lasting
returns-clause-lasting c = let e = c.advance.ensures.exact in (tells c.args.self.now c.advance.new.self c.args.step c.advance.result e.0 c.advance.ensures.was e.1).lasting

pub returns-clause-behind : goal.returns-clause-behind
returns-clause-behind c = let e = c.advance.ensures.exact in (tells c.args.self.now c.advance.new.self c.args.step c.advance.result e.0 c.advance.ensures.was e.1).behind

pub returns-clause-path : goal.returns-clause-path
returns-clause-path c = let e = c.advance.ensures.exact in (tells c.args.self.now c.advance.new.self c.args.step c.advance.result e.0 c.advance.ensures.was e.1).path
