use Rattle.std.proofs.Common.{◌≡◌, ◌+◌, ◌*◌, sym, ap, ◌∙◌, refl, arith}
use Rattle.std.specs.Prelude.{slice_index}
use Rattle.header_words.specs.declared.event.EventKind.TheVariants.{Win, Lose}
use Rattle.header_words.proofs.Passes.{made_at, made_word, row_kept, row_set, read_low, in_row, same_table, has_word, exchanges_at}
use Rattle.header_words.proofs.headers.Headers.acquire.Goals as goal

pub compare_exchange-found-requires : goal.compare_exchange-found-requires
compare_exchange-found-requires g c =
    let t = c.self.inside.table.shared in
    let low : c.index-low.result.now ≡ slice_index c.args.self.now.lows c.args.object.0 = read_low c.pass.inside.index c.pass.inside.depths.items c.pass.inside.lows.items c.pass.inside.has_gate c.pass.inside.seat c.args.pass.now c.args.self.now c.args.object.0 c.index-low.result.now c.pass.invariant c.pass.view_is c.requires.belongs c.requires.object c.index-low.ensures in (
      same_table c.pass.inside.seat c.args.pass.now t.table_id c.self.inside.layout c.args.self.now c.pass.view_is c.requires.belongs c.self.view_is,
      has_word t.table_id t.key c.self.inside.layout c.args.self.now c.args.object.0 c.self.invariant c.self.view_is c.requires.object,
      exchanges_at g.B.Kept.bound t.table_id t.key c.self.inside.layout c.args.self.now _ c.pass.inside.seat.id c.pass.inside.seat.me c.args.object.0 c.from.result c.from-2.result c.self.invariant.key c.self.view_is c.pass.invariant.lone c.requires.object
          (c.from.ensures ∙ low)
          (c.from-2.ensures ∙ (c.encode-new.ensures ∙ λ k. sym c.pass.invariant.named k * 65536 + 0 * 256 + sym c.from.ensures k)),
    )

pub invariant_of-pass : goal.invariant_of-pass
invariant_of-pass g c =
    let hit : c.compare_exchange-found.result ≡ c.from.result = c.if-found-from.true ∙ (c.from-3.ensures ∙ sym c.from.ensures) in
    let h = c.compare_exchange-found.ensures.2.0 hit in
    row_set c.pass.inside.index c.pass.inside.depths.items c.pass.inside.lows.items c.pass.inside.has_gate c.pass.inside.seat c.compare_exchange-found.new.seat c.pass.invariant c.args.object.0 Win c.from-2.result (h.0 c.args.object.0 refl) h.1 1
    (in_row c.pass.inside.index c.pass.inside.depths.items c.pass.inside.lows.items c.pass.inside.has_gate c.pass.inside.seat c.args.pass.now c.args.self.now c.args.object.0 c.pass.invariant c.pass.view_is c.requires.belongs c.requires.object) (omega arith) refl

pub returns-then-found-from-clause-won : goal.returns-then-found-from-clause-won
returns-then-found-from-clause-won g c =
    let hit : c.compare_exchange-found.result ≡ c.from.result = c.if-found-from.true ∙ (c.from-3.ensures ∙ sym c.from.ensures) in
    let h = c.compare_exchange-found.ensures.2.0 hit in
    let low : c.index-low.result.now ≡ slice_index c.args.self.now.lows c.args.object.0 = read_low c.pass.inside.index c.pass.inside.depths.items c.pass.inside.lows.items c.pass.inside.has_gate c.pass.inside.seat c.args.pass.now c.args.self.now c.args.object.0 c.index-low.result.now c.pass.invariant c.pass.view_is c.requires.belongs c.requires.object c.index-low.ensures in
    let named : c.pass.inside.index ≡ c.args.pass.now.index = sym c.pass.invariant.named ∙ ap (λ k. k.index) c.pass.view_is in
    made_word c.args.object.0 Win c.from-2.result _ c.args.pass.now _ (c.from-2.ensures ∙ (c.encode-new.ensures ∙ λ k. named k * 65536 + 0 + low k))
    (made_at c.args.object.0 Win c.from-2.result c.args.pass.now c.pass.inside.seat c.compare_exchange-found.new.seat c.pass.view_is c.compare_exchange-found.ensures.0 (h.0 c.args.object.0 refl))

pub invariant_of-pass-else-found-from : goal.invariant_of-pass-else-found-from
invariant_of-pass-else-found-from g c =
    let h = c.compare_exchange-found.ensures.2.1 (λ hit. c.if-found-from.false (hit ∙ (c.from.ensures ∙ sym c.from-3.ensures))) in
    row_kept c.pass.inside.index c.pass.inside.depths.items c.pass.inside.lows.items c.pass.inside.has_gate c.pass.inside.seat c.compare_exchange-found.new.seat c.pass.invariant c.args.object.0 Lose c.compare_exchange-found.result (h.0 c.args.object.0 refl) h.1 refl

pub returns-clause-lost : goal.returns-clause-lost
returns-clause-lost g c =
    let h = c.compare_exchange-found.ensures.2.1 (λ hit. c.if-found-from.false (hit ∙ (c.from.ensures ∙ sym c.from-3.ensures))) in
    (c.compare_exchange-found.result, made_at c.args.object.0 Lose c.compare_exchange-found.result c.args.pass.now c.pass.inside.seat c.compare_exchange-found.new.seat c.pass.view_is c.compare_exchange-found.ensures.0 (h.0 c.args.object.0 refl))
