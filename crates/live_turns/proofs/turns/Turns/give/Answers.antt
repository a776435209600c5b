use Rattle.std.proofs.Common.{sym, subst}
use Rattle.header_words.specs.Bindings.{Covers}
use Rattle.live_book.specs.Book.{bindings}
use Rattle.live_turns.specs.Ways.{Holding}
use Rattle.live_turns.proofs.turns.Turns.give.Goals as goal

pub give-requires-clause-covers : goal.give-requires-clause-covers
give-requires-clause-covers g c = subst (λ (p : Holding). Covers (bindings c.args.desk.value.book) p.words.seen) (sym c.hand.view_is) c.requires.covers
