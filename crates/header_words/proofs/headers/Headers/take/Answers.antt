use Rattle.std.proofs.Common.{sym, ap, ◌∙◌, arith, subst, Some, ◌∷◌, rules}
use Rattle.atomic_table.specs.Table.{rest}
use Rattle.header_words.specs.Bindings.{Covers}
use Rattle.header_words.proofs.Passes.{same_table}
use Rattle.header_words.proofs.Taking.{took, matched, has_taken, takes_gate}
use Rattle.header_words.proofs.headers.Headers.take.Goals as goal

pub compare_exchange-found-requires : goal.compare_exchange-found-requires
compare_exchange-found-requires g c =
    let t = c.self.inside.table.shared in (
      same_table c.pass.inside.seat c.args.pass.now t.table_id c.self.inside.layout c.args.self.now c.pass.view_is c.requires.belongs c.self.view_is,
      (let w = c.self.invariant.words in omega arith),
      takes_gate g.B.Kept.bound _ _ _ _ c.pass.inside.seat.me c.from-index.result c.pass.invariant.lone (c.pass.invariant.named ∙ sym c.from-index.ensures),
    )

pub exchange-requires : goal.exchange-requires
exchange-requires g c =
    let t = c.compare_exchange-found.ensures.2.0 c.if-found-ne0.false in
    let z = c.self.inside.table.shared.table_id in
    (c.compare_exchange-found.ensures.0 ∙ same_table c.pass.inside.seat c.args.pass.now z c.self.inside.layout c.args.self.now c.pass.view_is c.requires.belongs c.self.view_is, (Some t.1, t.2 ∙ ap (λ l. (0, Some t.1) ∷ rest l) (sym t.2)))

pub returns : goal.returns
returns g c =
    let t = c.compare_exchange-found.ensures.2.0 c.if-found-ne0.false in
    let e = c.exchange.ensures in
    let view = ap (λ z. z.0) e.3 in
    matched _ _ c.exchange.result t.1 (took c.exchange.result c.compare_exchange-found.new.seat.me.1 _ t.1 t.2 e.2) (
      has_taken c.pass.inside.seat c.compare_exchange-found.new.seat c.exchange.new.seat c.args.pass.now c.pass.view_is c.compare_exchange-found.ensures.0 e.0 view t.0,
      subst (λ v. Covers (g.B.Kept.bound t.1) v.seen) (sym view) t.3,
    )

pub invariant_of-pass-2 : goal.invariant_of-pass-2
invariant_of-pass-2 g c = search rules
