use Rattle.std.proofs.Common.{◌≡◌, ◌+◌}
use Rattle.std.specs.Prelude.{IfSome}
use Rattle.explore_java.specs.JavaFound.{witnesses}
use Rattle.explore_java.specs.JavaSearches.{AreTried, IsSearch, StaysIn, behind}
use Rattle.explore_java.proofs.search.Search.try_all.Given as goal

abbrev pub invariant-trying : goal.invariant-trying
invariant-trying l = record {
  search : IsSearch l.program l.self.codes.keys (witnesses l.self.nodes.items) l.self.queue.items (l.at + 1);
  stays : StaysIn (witnesses l.fn.self.nodes.items) (witnesses l.self.nodes.items);
  spare : IfSome l.spare (λ s. s ≡ l.state);
  tried : AreTried l.program (witnesses l.self.nodes.items) (behind (witnesses l.self.nodes.items) l.at) l.state l.moves l.made-index l.count;
}
