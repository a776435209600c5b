use Rattle.explore.specs.Found.{witnesses}
use Rattle.explore.specs.Searches.{IsVisited}
use Rattle.explore.specs.Trails.{AreReached}
use Rattle.explore.proofs.search.find_all.Given as goal

abbrev pub invariant-visiting : goal.invariant-visiting
invariant-visiting g l = record {
  visited : IsVisited l.program l.search.codes.keys (witnesses l.search.nodes.items) l.search.queue.items l.ends.items l.steps l.at;
  reached : AreReached l.program l.trail.reached.items;
}
