use Rattle.std.proofs.Common.{refl}
use Rattle.explore_java.specs.JavaFound.{witnesses}
use Rattle.explore_java.proofs.Finding.{first_here, first_taken, proper_here, visited_next}
use Rattle.explore_java.proofs.search.Search.visit.Goals as goal

pub try_all-requires-clause-search : goal.try_all-requires-clause-search
try_all-requires-clause-search c =
    first_taken c.args.program.now c.args.self.now.codes.keys (witnesses c.args.self.now.nodes.items) c.args.self.now.queue.items
    c.pop_front.new.self.items c.args.at c.in-Some.state c.requires.visited.search c.in-Some.ensures.items

pub try_all-requires-clause-here : goal.try_all-requires-clause-here
try_all-requires-clause-here c =
    first_here c.args.program.now c.args.self.now.codes.keys (witnesses c.args.self.now.nodes.items) c.args.self.now.queue.items
    c.pop_front.new.self.items c.args.at c.in-Some.state c.requires.visited.search c.in-Some.ensures.items

pub returns-clause-visited : goal.returns-clause-visited
returns-clause-visited c =
    let p = c.args.program.now in
    let ws = witnesses c.args.self.now.nodes.items in
    let search = first_taken p c.args.self.now.codes.keys ws c.args.self.now.queue.items c.pop_front.new.self.items c.args.at c.in-Some.state c.requires.visited.search c.in-Some.ensures.items in
    let here = first_here p c.args.self.now.codes.keys ws c.args.self.now.queue.items c.pop_front.new.self.items c.args.at c.in-Some.state c.requires.visited.search c.in-Some.ensures.items in
    visited_next p c.args.self.now.codes.keys c.try_all.new.self.codes.keys ws
    (witnesses c.try_all.new.self.nodes.items) c.args.self.now.queue.items c.pop_front.new.self.items c.try_all.new.self.queue.items
    c.args.ends.now.items c.note_end.new.ends.items c.args.steps.now c.in_ok-count.count c.args.at c.in-Some.state c.deref.result.now
    c.requires.visited c.in-Some.ensures.items (proper_here p c.args.self.now.codes.keys ws c.pop_front.new.self.items c.args.at c.in-Some.state search here)
    (rw (c.deref.ensures.value, c.in_ok-moves.ensures) refl) c.in_ok-count.ensures.search
    c.in_ok-count.ensures.stays c.in_ok-count.ensures.tried c.in_ok-note_end.ensures
