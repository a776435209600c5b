use Rattle.std.proofs.Common.{rules, refl}
use Rattle.std.specs.Prelude.{slice_index}
use Rattle.header_words.specs.Events.{depth}
use Rattle.header_words.specs.declared.event.EventKind.TheVariants.{Load}
use Rattle.header_words.proofs.Passes.{made_at, row_kept, same_table, has_word, loads_at, shows_at, own_word}
use Rattle.header_words.proofs.headers.Headers.load.Goals as goal

pub load-found-requires : goal.load-found-requires
load-found-requires g c =
    let t = c.self.inside.table.shared in (
      same_table c.pass.inside.seat c.args.pass.now t.table_id c.self.inside.layout c.args.self.now c.pass.view_is c.requires.belongs c.self.view_is,
      has_word t.table_id t.key c.self.inside.layout c.args.self.now c.args.object.0 c.self.invariant c.self.view_is c.requires.object,
      loads_at g.B.Kept.bound t.table_id t.key c.self.inside.layout c.args.self.now t.table_id.slots c.pass.inside.seat.id c.pass.inside.seat.me c.args.object.0 c.self.invariant.key c.self.view_is c.pass.invariant.lone c.requires.object,
    )

pub overflow_cast-result : goal.overflow_cast-result
overflow_cast-result g c = let t = c.load-found.ensures.2.0 c.args.object.0 refl in let small = t.small in search rules

pub invariant_of-pass : goal.invariant_of-pass
invariant_of-pass g c = row_kept c.pass.inside.index c.pass.inside.depths.items c.pass.inside.lows.items c.pass.inside.has_gate c.pass.inside.seat c.load-found.new.seat c.pass.invariant c.args.object.0 (Load c.load-found.result) c.load-found.result (c.load-found.ensures.2.0 c.args.object.0 refl) c.load-found.ensures.2.1 refl

pub returns-clause-event : goal.returns-clause-event
returns-clause-event g c = made_at c.args.object.0 (Load c.load-found.result) c.load-found.result c.args.pass.now c.pass.inside.seat c.load-found.new.seat c.pass.view_is c.load-found.ensures.0 (c.load-found.ensures.2.0 c.args.object.0 refl)

pub returns-clause-shows : goal.returns-clause-shows
returns-clause-shows g c = shows_at c.pass.inside.seat c.load-found.new.seat c.args.pass.now c.args.self.now c.args.object.0 (Load c.load-found.result) c.load-found.result c.pass.view_is c.requires.belongs c.load-found.ensures.0 (c.load-found.ensures.2.0 c.args.object.0 refl)

pub returns-clause-own : goal.returns-clause-own
returns-clause-own g c = own_word c.args.pass.now.index (depth c.args.object.0 c.args.pass.now.mine) (slice_index c.args.self.now.lows c.args.object.0) c.load-found.result
    (shows_at c.pass.inside.seat c.load-found.new.seat c.args.pass.now c.args.self.now c.args.object.0 (Load c.load-found.result) c.load-found.result c.pass.view_is c.requires.belongs c.load-found.ensures.0 (c.load-found.ensures.2.0 c.args.object.0 refl))

pub returns-clause-published : goal.returns-clause-published
returns-clause-published g c = (c.load-found.ensures.2.0 c.args.object.0 refl).published
