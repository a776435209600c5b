use Rattle.std.proofs.Common.{ap, subst}
use Rattle.header_words.specs.Passes.{Opening}
use Rattle.step_core.specs.declared.paths.Point.{Point}
use Rattle.live_turns.specs.Ways.{Holding, Went}
use Rattle.live_turns.proofs.Going.{went_same}
use Rattle.live_threads.specs.Calls.{CalledAbout}
use Rattle.live_threads.proofs.Calling.{finished_about}
use Rattle.live_threads.proofs.live.Live.run_about.Goals as goal

pub returns-clause-called : goal.returns-clause-called
returns-clause-called g c =
    subst (λ (z : Opening). CalledAbout z c.args.call c.finish.result c.args.pass.now.holding c.finish.new.pass.holding) c.self.view_is
    (finished_about c.self.inside.turns c.args.call c.start_about.new.pass.point c.finish.result c.args.pass.now.holding c.start_about.new.pass.holding c.finish.new.pass.holding
    c.in_ok-start_about.ensures.there
    (subst (λ (s : Point). Went s c.start_about.new.pass.point c.args.pass.now.holding c.start_about.new.pass.holding) c.in_ok-start_about.ensures.point
    (went_same c.start_about.new.pass.point c.args.pass.now.holding c.start_about.new.pass.holding
    (ap (λ (h : Holding). h.words) c.in_ok-start_about.ensures.same) (ap (λ (h : Holding). h.own) c.in_ok-start_about.ensures.same)))
    c.finish.ensures.went c.finish.ensures.halted)
