use Rattle.std.proofs.lemmas.Result.{on_ok_weaker}
use Rattle.jls_check.specs.MachineState.{state}
use Rattle.jls_check.proofs.Judged.{judged}
use Rattle.jls_check.proofs.machine.Machine.take.Goals as goal

pub returns-clause-taken : goal.returns-clause-taken
returns-clause-taken c = (judged c.args.self.now c.advance.ensures.was c.advance.ensures.exact.0 c.args.made c.advance.result c.advance.new.self c.advance.ensures.exact.1).0

pub returns-clause-broken : goal.returns-clause-broken
returns-clause-broken c = (judged c.args.self.now c.advance.ensures.was c.advance.ensures.exact.0 c.args.made c.advance.result c.advance.new.self c.advance.ensures.exact.1).1

pub returns-clause-memory : goal.returns-clause-memory
returns-clause-memory c = (judged c.args.self.now c.advance.ensures.was c.advance.ensures.exact.0 c.args.made c.advance.result c.advance.new.self c.advance.ensures.exact.1).2

pub returns-clause-kept : goal.returns-clause-kept
returns-clause-kept c = (judged c.args.self.now c.advance.ensures.was c.advance.ensures.exact.0 c.args.made c.advance.result c.advance.new.self c.advance.ensures.exact.1).3

pub returns-clause-lasting : goal.returns-clause-lasting
returns-clause-lasting c =
    let judges = judged c.args.self.now c.advance.ensures.was c.advance.ensures.exact.0 c.args.made c.advance.result c.advance.new.self c.advance.ensures.exact.1 in
    on_ok_weaker c.advance.result (c.every_move_keeps_what_lasts.ensures (state c.args.self.now) (state c.advance.new.self) c.args.made) judges.0

pub returns-clause-exact : goal.returns-clause-exact
returns-clause-exact c = c.advance.ensures.exact
