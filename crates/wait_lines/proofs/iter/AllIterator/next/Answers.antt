use Rattle.std.proofs.Common.{◌≡◌, ◌∷◌, ◌-◌, refl, rules}
use Rattle.std.proofs.lemmas.Option.{slice_get_read}
use Rattle.wait_lines.specs.Walks.{threads_from}
use Rattle.wait_lines.proofs.FindingLemmas.{threads_from-step}
use Rattle.wait_lines.proofs.iter.AllIterator.next.Goals as goal

pub returns-clause-steps : goal.returns-clause-steps
returns-clause-steps c =
    let found = slice_get_read c.self.inside.spots.now _ c.in-At.node.0 c.in-Some.spot.now refl c.in-Some.ensures.lookup.3.0 c.in-Some.ensures.lookup.1 in
    threads_from-step _ _ _ _ _ _ c.self.view_is c.in-At.is c.if-self-eq0.false found

pub returns-clause-goes : goal.returns-clause-goes
returns-clause-goes c =
    let found = slice_get_read c.self.inside.spots.now _ c.in-At.node.0 c.in-Some.spot.now refl c.in-Some.ensures.lookup.3.0 c.in-Some.ensures.lookup.1 in
    let steps : c.args.self.now ≡ c.in-Some.spot.now.thread ∷ threads_from (c.self.inside.left - 1) c.self.inside.spots.now c.in-Some.spot.now.behind =
    threads_from-step _ _ _ _ _ _ c.self.view_is c.in-At.is c.if-self-eq0.false found in
    search rules
