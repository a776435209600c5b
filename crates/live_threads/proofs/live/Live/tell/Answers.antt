use Rattle.std.proofs.Common.{◌≡◌, ◌∙◌, ap}
use Rattle.live_turns.specs.Ways.{PassState}
use Rattle.live_threads.proofs.live.Live.tell.Goals as goal

pub loop-preserved : goal.loop-preserved
loop-preserved g c =
    let i = c.loop.invariant in
    let told = c.in_ok-tick.ensures in
    let same : c.tick.new.pass ≡ c.loop.pass = rw c.if-branch.false at told.looked in
    record {
      here = told.belongs.0 ∙ c.self.view_is;
      rests = (told.idle, told.belongs.1);
      words = (told.words.0 ∙ i.words.0, told.words.1 ∙ i.words.1, told.words.2 ∙ i.words.2, told.words.3 ∙ i.words.3);
      own = ap (λ (p : PassState). p.holding.own) same ∙ i.own;
      same = same ∙ i.same;
    }
