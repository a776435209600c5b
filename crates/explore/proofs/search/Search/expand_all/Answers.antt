use native.Mathlib.Omega.{arith}
use Rattle.std.proofs.Common.{sym}
use Rattle.explore.specs.Found.{witnesses}
use Rattle.explore.specs.Searches.{behind}
use Rattle.explore.proofs.Finding.{within_search}
use Rattle.explore.proofs.Sifting.{expanded_more}
use Rattle.explore.proofs.Trying.{at_stays, behind_stays, few_next, stays_then}
use Rattle.explore.proofs.search.Search.expand_all.Goals as goal

pub try_choice-requires-clause-here : goal.try_choice-requires-clause-here
try_choice-requires-clause-here c =
    let w = c.requires.search.within in
    at_stays c.args.program.now (witnesses c.args.self.now.nodes.items) (witnesses c.expand_copies.new.self.nodes.items) c.args.at c.args.state c.in_ok-copied.ensures.stays
    (omega (arith, w)) c.requires.here

pub overflow_add-result : goal.overflow_add-result
overflow_add-result c =
    let m = few_next c.in_ok-tried.tried c.in_ok-copied.copied.made c.steps.result _ c.in_ok-copied.ensures.expanded.few c.steps.ensures in
    let f = c.requires.few in
    omega (arith, m, f)

pub returns-clause-stays : goal.returns-clause-stays
returns-clause-stays c = stays_then _ _ _ c.in_ok-copied.ensures.stays c.in_ok-tried.ensures.stays

pub returns-clause-expanded : goal.returns-clause-expanded
returns-clause-expanded c =
    let lt = within_search c.args.program.now c.expand_copies.new.self.codes.keys (witnesses c.expand_copies.new.self.nodes.items) c.expand_copies.new.self.queue.items c.args.at c.in_ok-copied.ensures.search in
    expanded_more c.args.program.now (witnesses c.expand_copies.new.self.nodes.items) (witnesses c.try_choice.new.self.nodes.items) (behind (witnesses c.try_choice.new.self.nodes.items) c.args.at) c.args.state c.args.front.now c.args.last c.in_ok-tried.tried
    c.in_ok-copied.copied.is_end c.changes.result c.in_ok-copied.copied.made c.steps.result (rw (sym (behind_stays (witnesses c.expand_copies.new.self.nodes.items) (witnesses c.try_choice.new.self.nodes.items) c.args.at c.in_ok-tried.ensures.stays lt)) c.in_ok-copied.ensures.expanded) c.in_ok-tried.ensures.stays c.in_ok-tried.ensures.tried
    c.changes.ensures c.steps.ensures
