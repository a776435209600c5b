use Rattle.std.proofs.Common.{subst, sym}
use Rattle.header_words.specs.Bindings.{Covers}
use Rattle.bench_live.proofs.words.gates.hold.Goals as goal

pub give-requires-clause-covers : goal.give-requires-clause-covers
give-requires-clause-covers c = subst (λ (v : Rattle.std.proofs.Common.Vec _ _). Covers v.items c.take.new.pass.seen) (sym c.count_taking.ensures) c.in-Some.ensures.1
