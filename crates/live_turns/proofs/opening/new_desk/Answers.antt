use Rattle.std.specs.Prelude.{length}
use Rattle.std.proofs.Common.{ap, sym, ◌∙◌}
use Rattle.fat_monitor.specs.FatState.{opened}
use Rattle.live_book.specs.Book.{BookState}
use Rattle.live_book.proofs.Replaying.{limit-with_threads}
use Rattle.live_turns.proofs.opening.new_desk.Goals as goal

pub invariant_of-desk : goal.invariant_of-desk
invariant_of-desk g c =
    let book = c.in_ok-book.ensures in
    record {
      none = c.in_ok-owns.ensures.rest.0;
      empty = c.in_ok-owns.ensures.rest.1;
      passes = ap (λ (b : BookState). b.passes) book ∙ sym c.requires.crew.0;
      places = ap (λ (b : BookState). b.places) book ∙ sym c.requires.crew.2;
      monitors = ap (λ (b : BookState). b.fats.limit) book ∙ (limit-with_threads c.args.passes (opened c.args.monitors) ∙ sym c.requires.crew.1);
      counted = ap (λ (b : BookState). length b.log) book ∙ sym c.open-total.ensures.total;
    }
