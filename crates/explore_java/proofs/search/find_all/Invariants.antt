use Rattle.explore_java.specs.JavaFound.{witnesses}
use Rattle.explore_java.specs.JavaSearches.{IsVisited}
use Rattle.explore_java.proofs.search.find_all.Given as goal

abbrev pub invariant-visiting : goal.invariant-visiting
invariant-visiting g l =
    IsVisited l.program l.search.codes.keys (witnesses l.search.nodes.items) l.search.queue.items l.ends.items l.steps l.at
