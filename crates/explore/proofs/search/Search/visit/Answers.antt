use Rattle.explore.specs.Found.{witnesses}
use Rattle.explore.proofs.Finding.{few_choices, visited_next}
use Rattle.explore.proofs.search.Search.visit.Goals as goal

pub returns-clause-visited : goal.returns-clause-visited
returns-clause-visited c =
    let x = c.in_ok-expanded.ensures.expanded in
    let lt = c.is_done.ensures.more c.if-is_done.false in
    let stays = rw c.in_ok-state.ensures.nodes at c.in_ok-expanded.ensures.stays in
    visited_next c.args.program.now c.args.self.now.codes.keys c.expand.new.self.codes.keys (witnesses c.args.self.now.nodes.items)
    (witnesses c.expand.new.self.nodes.items) c.args.self.now.queue.items c.expand.new.self.queue.items
    c.args.ends.now.items c.note_end.new.ends.items c.args.steps.now c.in_ok-expanded.expanded.made c.args.at c.in_ok-state.state c.args.choices.now
    c.in_ok-expanded.expanded.is_end c.requires.visited lt c.in_ok-state.ensures.here c.requires.all c.in_ok-expanded.ensures.search
    stays x.found x.end x.changing x.made x.few c.in_ok-note_end.ensures

pub expand-requires-clause-few : goal.expand-requires-clause-few
expand-requires-clause-few c = rw c.requires.all (few_choices c.args.program.now)
