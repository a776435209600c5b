use Rattle.std.proofs.Common.{◌≡◌, ◌≤◌, ◌∙◌, ap, arith, sym, subst}
use Rattle.fat_monitor.specs.FatState.{FatState, IsSound, with_moment}
use Rattle.fat_monitor.proofs.Steps.{of_ok}
use Rattle.live_book.specs.Log.{IsThreadOf}
use Rattle.live_book.specs.Places.{kept_of}
use Rattle.live_book.specs.Book.{BookState, free_of}
use Rattle.live_book.proofs.Books.{IsBook-tick}
use Rattle.live_book.proofs.book.Book.tick.Goals as goal

pub invariant_of-self-2 : goal.invariant_of-self-2
invariant_of-self-2 c =
    let b : BookState = record { fats = c.self.inside.fats; log = c.self.inside.log.items; passes = c.self.inside.passes; places = c.self.inside.places } in
    let of : IsThreadOf b.passes c.args.thread = subst (λ (k : BookState). IsThreadOf k.passes c.args.thread) (sym c.self.view_is) c.requires in
    let free : c.free.result ≡ free_of b = c.free.ensures.free ∙ ap free_of (sym c.self.view_is) in
    let room : 1 ≤ free_of b = let some = c.if-free-lt1.false in omega arith in
    let ok = of_ok c.tick.result _ c.if-is_err.ensures.value c.tick.ensures.ok in
    let later = of_ok c.tick.result _ c.if-is_err.ensures.value c.tick.ensures.later in
    let sound : IsSound (with_moment b.fats c.args.now) = subst (λ (f : FatState). IsSound f) ok c.tick.ensures.sound in (
      rw (ok, c.push_reserved.ensures.items) (IsBook-tick b c.args.thread c.args.now c.self.invariant.0 of later room sound),
      c.self.invariant.1 ∙ ap kept_of (sym ok),
      rw c.push_reserved.ensures.capacity c.self.invariant.2,
    )
