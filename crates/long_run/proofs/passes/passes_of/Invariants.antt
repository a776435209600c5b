use Rattle.std.proofs.Common.{◌≡◌, length}
use Rattle.std.specs.List.{All}
use Rattle.long_run.proofs.passes.passes_of.Given as goal

abbrev pub invariant-loop-done : goal.invariant-loop-done
invariant-loop-done g l = record {
  here : All (λ p. p.words.opening ≡ l.live) l.passes.items;
  left : All (λ d. d.pass.words.opening ≡ l.live) l.worked.items;
}

abbrev pub decreases-loop-done : goal.decreases-loop-done
decreases-loop-done g l = length l.worked.items
