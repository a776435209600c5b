use Rattle.std.proofs.Common.{rules, ap}
use Rattle.header_words.proofs.Bindings.{covers_grown}
use Rattle.bench_live.proofs.words.gates.inflate.Goals as goal

pub give-requires-clause-covers : goal.give-requires-clause-covers
give-requires-clause-covers c = covers_grown _ _ _ _ c.bind-bound.ensures.grows.1 c.in-Some.ensures.1

pub give-requires-2-clause-covers : goal.give-requires-2-clause-covers
give-requires-2-clause-covers c = c.publish.ensures.covers (ap (λ p. p.has_gate) c.in-Some.ensures.0.pass) c.bind-bound.new.self.entries.value.objects.items (covers_grown _ _ _ _ c.bind-bound.ensures.grows.1 c.in-Some.ensures.1) (search rules)
