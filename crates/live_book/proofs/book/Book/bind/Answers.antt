use Rattle.std.proofs.lemmas.Grind.{common_steps}
use Rattle.std.proofs.Common.{◌≡◌, ◌+◌, ◌≤◌, ◌∙◌, ap, arith, sym, subst}
use Rattle.fat_monitor.specs.FatState.{FatState, IsSound, bound_with}
use Rattle.live_book.specs.Log.{IsThreadOf}
use Rattle.live_book.specs.Book.{BookState, free_of}
use Rattle.live_book.proofs.Weights.{kept-bound_with}
use Rattle.live_book.proofs.Books.{IsBook-bind}
use Rattle.live_book.proofs.book.Book.bind.Goals as goal

pub invariant_of-self-2 : goal.invariant_of-self-2
invariant_of-self-2 c =
    let b : BookState = record { fats = c.self.inside.fats; log = c.self.inside.log.items; passes = c.self.inside.passes; places = c.self.inside.places } in
    let of : IsThreadOf b.passes c.args.thread = subst (λ (k : BookState). IsThreadOf k.passes c.args.thread) (sym c.self.view_is) c.requires.thread in
    let free : c.free.result ≡ free_of b = c.free.ensures.free ∙ ap free_of (sym c.self.view_is) in
    let room : 1 + c.args.holds ≤ free_of b = let some = c.if-free-from.false in let holds = c.from.ensures in omega arith in
    let sound : IsSound (bound_with b.fats c.args.object c.args.thread c.args.holds) = subst (λ (f : FatState). IsSound f) c.in-Ok.ensures.bound c.in-Ok.ensures.sound in (
      rw (c.in-Ok.ensures.bound, c.push_reserved.ensures.items, c.monitor-monitor.ensures.value, c.in-Ok.ensures.receipt)
          (IsBook-bind b c.args.thread c.args.object c.args.holds c.self.invariant.0 of c.requires.low c.requires.high c.in-Ok.ensures.room room sound),
      rw (c.in-Ok.ensures.bound) (let more = kept-bound_with b.fats c.args.object c.args.thread c.args.holds in let kept = c.self.invariant.1 in let holds = c.from-2.ensures in omega arith),
      rw c.push_reserved.ensures.capacity c.self.invariant.2,
    )

pub returns-clause-receipt : goal.returns-clause-receipt
returns-clause-receipt c = grind (arith, common_steps)
