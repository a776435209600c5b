use Rattle.std.proofs.Common.{◌∙◌, ap, sym, subst}
use Rattle.fat_monitor.specs.FatState.{FatState, IsSound}
use Rattle.live_book.specs.Log.{nothing_bound}
use Rattle.live_book.specs.Places.{kept_of}
use Rattle.live_book.proofs.Books.{IsBook-opening_book, kept-nothing_bound}
use Rattle.live_book.proofs.book.Book.new.Goals as goal

pub invariant_of-result : goal.invariant_of-result
invariant_of-result c =
    let sound : IsSound (nothing_bound c.args.passes c.args.monitors) = subst (λ (f : FatState). IsSound f) c.in_ok-new_fats.ensures.bound c.in_ok-new_fats.ensures.sound in (
      rw (c.in_ok-new_fats.ensures.bound, c.in_ok-with_capacity.ensures.items) (IsBook-opening_book c.args.monitors c.args.passes c.args.places sound),
      kept-nothing_bound c.args.passes c.args.monitors ∙ ap kept_of (sym c.in_ok-new_fats.ensures.bound),
      c.in_ok-with_capacity.ensures.capacity,
    )
