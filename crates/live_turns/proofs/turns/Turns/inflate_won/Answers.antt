use Rattle.std.specs.Prelude.{length, true}
use Rattle.std.proofs.Common.{refl, ap}
use Rattle.fat_monitor.specs.Binding.{Binding as Receipt}
use Rattle.live_book.specs.Book.{bindings}
use Rattle.live_turns.proofs.Going.{settled_way, dropped_way}
use Rattle.live_turns.proofs.Gates.{covers_kept, covers_bound, binds_bound}
use Rattle.live_turns.proofs.turns.Turns.inflate_won.Goals as goal

pub returns-in-Ok-clause-covers : goal.returns-in-Ok-clause-covers
returns-in-Ok-clause-covers g c =
    let xs = bindings c.args.desk.now.value.book in
    let ys = bindings c.bind.new.desk.value.book in
    let number = ap (λ (b : Receipt). b.monitor) c.in-Ok.ensures.noted.receipt in
    rw c.entering.ensures at c.publish.ensures.covers ys (covers_bound xs ys c.args.object c.bind.new.self.words.seen c.in-Ok.ensures.noted.bound (covers_kept xs xs c.args.hand.now.words c.bind.new.self.words refl c.bind.ensures.words c.requires.covers))
    (binds_bound xs ys c.args.object c.in-Ok.receipt.monitor c.in-Ok.ensures.noted.bound number)

pub returns-in-Ok-clause-went : goal.returns-in-Ok-clause-went
returns-in-Ok-clause-went g c =
    let m = length (bindings c.args.desk.now.value.book) in
    let number = ap (λ (b : Receipt). b.monitor) c.in-Ok.ensures.noted.receipt in
    settled_way c.args.object m c.in-Ok.receipt.monitor c.args.hand.now c.bind.new.self c.publish.new.hand number c.bind.ensures.words c.in-Ok.ensures.noted.noted (rw c.entering.ensures at (c.publish.ensures.went true))

pub returns-in_default-clause-covers : goal.returns-in_default-clause-covers
returns-in_default-clause-covers g c =
    covers_kept (bindings c.args.desk.now.value.book) (bindings c.bind.new.desk.value.book) c.args.hand.now.words c.bind.new.self.words c.in_default.ensures.noted.same c.bind.ensures.words c.requires.covers

pub returns-in_default-clause-went : goal.returns-in_default-clause-went
returns-in_default-clause-went g c = dropped_way c.args.object c.args.hand.now c.bind.new.self c.bind.ensures.words c.in_default.ensures.noted.none
