use Rattle.std.proofs.Common.{arith, true, sym, ap, subst, ◌∙◌}
use Rattle.step_core.specs.World.{WorldState}
use Rattle.step_core.specs.Shown.{shown}
use Rattle.step_core.specs.Kept.{Keeps}
use Rattle.step_core.specs.Relayout.{IsAtRest, respelled}
use Rattle.step_core.proofs.Relaying.Whole.{at_rest, not_at_rest, spare_shows, inflated_berths, relaid_exact, relaid_keeps, done_exact}
use Rattle.step_core.proofs.worlds.World.relayout.Goals as goal

pub returns-then-not-is_at_rest-clause-busy : goal.returns-then-not-is_at_rest-clause-busy
returns-then-not-is_at_rest-clause-busy c = λ f. not_at_rest c.args.self.now (sym c.is_at_rest.ensures ∙ c.if-not-is_at_rest.true)

pub returns-then-has_split-clause-rest : goal.returns-then-has_split-clause-rest
returns-then-has_split-clause-rest c = at_rest c.args.self.now (sym c.is_at_rest.ensures ∙ c.if-not-is_at_rest.false)

pub inflate_deep-requires-clause-rest : goal.inflate_deep-requires-clause-rest
inflate_deep-requires-clause-rest c =
    subst IsAtRest (sym (ap shown c.in-Ok.ensures.ok ∙ spare_shows c.args.self.now c.count_deep-deep.result)) (at_rest c.args.self.now (sym c.is_at_rest.ensures ∙ c.if-not-is_at_rest.false))

pub inflate_deep-requires-clause-room : goal.inflate_deep-requires-clause-room
inflate_deep-requires-clause-room c = rw (c.in-Ok.ensures.ok, ← c.count_deep-deep.ensures) (omega (arith, c.unbound.ensures, c.if-unbound-deep.false))

pub respell-requires-clause-rest : goal.respell-requires-clause-rest
respell-requires-clause-rest c =
    subst IsAtRest (sym (c.inflate_deep.ensures.shows ∙ ap shown c.in-Ok.ensures.ok ∙ spare_shows c.args.self.now c.count_deep-deep.result))
    (at_rest c.args.self.now (sym c.is_at_rest.ensures ∙ c.if-not-is_at_rest.false))

pub respell-requires-clause-few : goal.respell-requires-clause-few
respell-requires-clause-few c =
    rw (c.inflate_deep.ensures.exact, inflated_berths c.args.split c.reserve.new.self, c.in-Ok.ensures.ok, ← c.indices.ensures, ← c.greatest_index.ensures) c.if-indices-greatest_index.false

pub returns-clause-exact : goal.returns-clause-exact
returns-clause-exact c = (
  true,
  done_exact c.args.split c.args.self.now c.respell.new.self c.count_deep-deep.result (sym c.is_at_rest.ensures ∙ c.if-not-is_at_rest.false) (sym c.has_split.ensures ∙ c.if-has_split.false)
      (rw (← c.indices.ensures, ← c.greatest_index.ensures) c.if-indices-greatest_index.false) (rw (← c.count_deep-deep.ensures) (omega (arith, c.unbound.ensures, c.if-unbound-deep.false)))
      c.count_deep-deep.ensures
      (relaid_exact c.args.split c.args.self.now c.respell.new.self c.reserve.new.self c.count_deep-deep.result c.count_deep-deep.ensures c.in-Ok.ensures.ok
      (c.respell.ensures.exact ∙ ap (respelled c.args.split) c.inflate_deep.ensures.exact)),
)

pub returns-clause-rest : goal.returns-clause-rest
returns-clause-rest c = at_rest c.args.self.now (sym c.is_at_rest.ensures ∙ c.if-not-is_at_rest.false)

pub returns-clause-shows : goal.returns-clause-shows
returns-clause-shows c =
    c.respell.ensures.shows ∙ c.inflate_deep.ensures.shows ∙ ap shown c.in-Ok.ensures.ok ∙ spare_shows c.args.self.now c.count_deep-deep.result

pub returns-clause-kept : goal.returns-clause-kept
returns-clause-kept c =
    subst (λ (w : WorldState). Keeps c.args.self.now w)
    (sym (relaid_exact c.args.split c.args.self.now c.respell.new.self c.reserve.new.self c.count_deep-deep.result c.count_deep-deep.ensures c.in-Ok.ensures.ok
    (c.respell.ensures.exact ∙ ap (respelled c.args.split) c.inflate_deep.ensures.exact)))
    (relaid_keeps c.args.split c.args.self.now)
