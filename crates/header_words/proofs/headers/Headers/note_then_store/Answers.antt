use Rattle.std.proofs.Common.{◌≡◌, ◌+◌, ap, ◌∙◌, refl}
use Rattle.std.specs.Prelude.{slice_index}
use Rattle.header_words.specs.WideWords.{word_of}
use Rattle.header_words.proofs.Passes.{read_low, same_table, has_word, puts_at, put_row, put_made}
use Rattle.header_words.proofs.headers.Headers.note_then_store.Goals as goal

pub store-requires : goal.store-requires
store-requires g c =
    let t = c.self.inside.table.shared in
    let low : c.index-low.result.now ≡ slice_index c.args.self.now.lows c.args.object.0 = read_low c.pass.inside.index c.pass.inside.depths.items c.pass.inside.lows.items c.pass.inside.has_gate c.pass.inside.seat c.args.pass.now c.args.self.now c.args.object.0 c.index-low.result.now c.pass.invariant c.pass.view_is c.requires.belongs c.requires.object c.index-low.ensures in (
      same_table c.pass.inside.seat c.args.pass.now t.table_id c.self.inside.layout c.args.self.now c.pass.view_is c.requires.belongs c.self.view_is,
      has_word t.table_id t.key c.self.inside.layout c.args.self.now c.args.object.0 c.self.invariant c.self.view_is c.requires.object,
      puts_at g.B.Kept.bound t.table_id t.key c.self.inside.layout c.args.self.now _ c.pass.inside.seat.id c.pass.inside.seat c.args.pass.now c.args.object.0 g.D.StoreKind.kind c.args.lock c.args.left c.from.result c.self.invariant.key c.self.view_is c.pass.view_is c.pass.invariant.lone c.requires.object
          (c.from.ensures ∙ (c.encode-new.ensures ∙ ap (word_of c.args.lock) low)) c.requires.legal,
    )

pub invariant_of-pass : goal.invariant_of-pass
invariant_of-pass g c =
    let low : c.index-low.result.now ≡ slice_index c.args.self.now.lows c.args.object.0 = read_low c.pass.inside.index c.pass.inside.depths.items c.pass.inside.lows.items c.pass.inside.has_gate c.pass.inside.seat c.args.pass.now c.args.self.now c.args.object.0 c.index-low.result.now c.pass.invariant c.pass.view_is c.requires.belongs c.requires.object c.index-low.ensures in
    put_row c.pass.inside.index c.pass.inside.depths.items c.pass.inside.lows.items c.pass.inside.has_gate c.pass.inside.seat c.store.new.seat c.args.pass.now c.args.self.now c.args.object.0 g.D.StoreKind.kind c.args.lock c.args.left c.from.result c.pass.invariant c.pass.view_is c.requires.belongs c.requires.object
    (c.from.ensures ∙ (c.encode-new.ensures ∙ ap (word_of c.args.lock) low)) c.requires.legal c.requires.most (c.store.ensures.2.0 c.args.object.0 (refl {a = c.args.object.0 + 1})) c.store.ensures.2.1

pub returns : goal.returns
returns g c =
    let low : c.index-low.result.now ≡ slice_index c.args.self.now.lows c.args.object.0 = read_low c.pass.inside.index c.pass.inside.depths.items c.pass.inside.lows.items c.pass.inside.has_gate c.pass.inside.seat c.args.pass.now c.args.self.now c.args.object.0 c.index-low.result.now c.pass.invariant c.pass.view_is c.requires.belongs c.requires.object c.index-low.ensures in
    put_made c.pass.inside.seat c.store.new.seat c.args.pass.now c.args.object.0 g.D.StoreKind.kind (word_of c.args.lock (slice_index c.args.self.now.lows c.args.object.0)) c.from.result c.pass.view_is (c.from.ensures ∙ (c.encode-new.ensures ∙ ap (word_of c.args.lock) low))
    c.store.ensures.0 (c.store.ensures.2.0 c.args.object.0 (refl {a = c.args.object.0 + 1}))
