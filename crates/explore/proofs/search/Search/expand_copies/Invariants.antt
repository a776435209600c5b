use Rattle.std.proofs.Common.{◌≤◌, ◌+◌, take}
use Rattle.explore.specs.Found.{witnesses}
use Rattle.explore.specs.Searches.{IsExpanded, IsSearch, StaysIn, behind}
use Rattle.explore.proofs.search.Search.expand_copies.Given as goal

abbrev pub invariant-choosing : goal.invariant-choosing
invariant-choosing l = record {
  search : IsSearch l.program l.self.codes.keys (witnesses l.self.nodes.items) l.self.queue.items (l.at + 1);
  stays : StaysIn (witnesses l.fn.self.nodes.items) (witnesses l.self.nodes.items);
  expanded : IsExpanded l.program (witnesses l.self.nodes.items) (behind (witnesses l.self.nodes.items) l.at) l.state (take l.choice-index l.choices) l.is_end l.made;
  few : l.made ≤ l.choice-index;
}
