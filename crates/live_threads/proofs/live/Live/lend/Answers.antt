use Rattle.std.proofs.Common.{◌∙◌, subst}
use Rattle.std.specs.Fn.{FnOnceReturnsAt}
use Rattle.live_turns.specs.Ends.{IsLookedAt}
use Rattle.live_threads.proofs.live.Live.lend.Goals as goal

pub returns-in-Ok-clause-told : goal.returns-in-Ok-clause-told
returns-in-Ok-clause-told g c = subst (λ h. IsLookedAt (λ book. FnOnceReturnsAt g.F.FnOnce h book c.in-Ok.told)) c.loop.invariant.lent c.in-Ok.ensures.told

pub loop-preserved : goal.loop-preserved
loop-preserved g c =
    let i = c.loop.invariant in
    let back = c.in-Err.ensures in
    record {
      here = back.belongs.0 ∙ c.self.view_is;
      rests = (back.idle, back.belongs.1);
      words = (back.words.0 ∙ i.words.0, back.words.1 ∙ i.words.1, back.words.2 ∙ i.words.2, back.words.3 ∙ i.words.3);
      own = back.own ∙ i.own;
      same = back.kept ∙ i.same;
      lent = back.back ∙ i.lent;
    }
