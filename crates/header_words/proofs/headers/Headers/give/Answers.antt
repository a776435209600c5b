use Rattle.std.proofs.Common.{sym, ap, ◌∙◌, subst, arith, List, rules}
use Rattle.header_words.specs.declared.event.Event.{Event}
use Rattle.header_words.specs.Bindings.{Covers}
use Rattle.header_words.proofs.Passes.{same_table}
use Rattle.header_words.proofs.Taking.{gives_gate}
use Rattle.header_words.proofs.headers.Headers.give.Goals as goal

pub store-requires : goal.store-requires
store-requires g c =
    let e = c.exchange-empty.ensures in
    let z = c.self.inside.table.shared.table_id in
    let slots = c.self.invariant.slots in (
      e.0 ∙ same_table c.pass.inside.seat c.args.pass.now z c.self.inside.layout c.args.self.now c.pass.view_is c.requires.belongs c.self.view_is,
      (let w = c.self.invariant.words in omega arith),
      gives_gate g.B.Kept.bound _ _ z.slots _ c.exchange-empty.new.seat.me c.args.book _ (ap (λ z. z.1) e.3) (omega arith)
          (ap (λ z. z.0.has_gate) e.3 ∙ (ap (λ k. k.has_gate) c.pass.view_is ∙ c.requires.gate))
          (subst (λ (l : List Event). Covers (g.B.Kept.bound c.args.book) l) (sym (ap (λ z. z.0.seen) e.3 ∙ ap (λ k. k.seen) c.pass.view_is)) c.requires.covers),
    )

pub invariant_of-pass : goal.invariant_of-pass
invariant_of-pass g c = search rules
