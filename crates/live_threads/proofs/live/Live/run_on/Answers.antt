use Rattle.std.proofs.Common.{subst}
use Rattle.header_words.specs.Passes.{Opening}
use Rattle.live_threads.specs.Calls.{CalledOn}
use Rattle.live_threads.proofs.Calling.{finished_on}
use Rattle.live_threads.proofs.live.Live.run_on.Goals as goal

pub returns-in-None-clause-called : goal.returns-in-None-clause-called
returns-in-None-clause-called g c =
    subst (λ (z : Opening). CalledOn z c.args.call c.finish.result c.args.pass.now.holding c.finish.new.pass.holding) c.self.view_is
    (finished_on c.self.inside.turns c.args.call c.start_on.new.pass.point c.finish.result c.args.pass.now.holding c.start_on.new.pass.holding c.finish.new.pass.holding
    c.in_ok-reply.ensures.there (rw c.in-None.is at c.in_ok-reply.ensures.went) c.finish.ensures.went c.finish.ensures.halted)
