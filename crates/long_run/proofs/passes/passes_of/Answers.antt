use Rattle.std.proofs.Common.{◌≡◌, subst, sym}
use Rattle.std.specs.List.{All}
use Rattle.std.proofs.lemmas.List.Elements.{All-push}
use Rattle.live_turns.specs.Ways.{Holding}
use Rattle.long_run.proofs.passes.passes_of.Goals as goal

pub loop-done-preserved : goal.loop-done-preserved
loop-done-preserved g c =
    let is_here : Holding → Type 0 = λ p. p.words.opening ≡ c.args.live.now in
    record {
      here = subst (All is_here) (sym c.in_ok-push.ensures.items) (All-push is_here c.loop-done.passes.items c.in-Some.done.pass c.loop-done.invariant.here c.in-Some.ensures.last);
      left = c.last_worked.ensures.rest;
    }
