use Rattle.std.proofs.Common.{◌∙◌, sym}
use Rattle.explore.specs.Found.{witnesses}
use Rattle.explore.proofs.Finding.{first_there, leads_somewhere, queue_less, taken_next}
use Rattle.explore.proofs.search.Search.next_state.Goals as goal

pub unreachable-requires : goal.unreachable-requires
unreachable-requires c =
    leads_somewhere c.args.program.now c.args.self.now.codes.keys (witnesses c.args.self.now.nodes.items) c.args.self.now.queue.items c.args.at c.args.at
    c.deref.result.now c.requires.search c.requires.there (c.deref.ensures.value ∙ c.in_ok-choices.ensures) (sym c.in-None.is ∙ c.in_ok-state.ensures.state)

pub returns-in-Some-clause-search : goal.returns-in-Some-clause-search
returns-in-Some-clause-search c =
    let ws = witnesses c.args.self.now.nodes.items in
    let keys = c.args.self.now.codes.keys in
    taken_next c.args.program.now keys ws c.take_queued.new.queue.items c.args.at
    (queue_less c.args.program.now keys ws c.args.self.now.queue.items c.take_queued.new.queue.items c.args.at _ c.requires.search c.in-Some.ensures.some)
    c.requires.there

pub returns-in-Some-clause-here : goal.returns-in-Some-clause-here
returns-in-Some-clause-here c =
    first_there c.args.program.now c.args.self.now.codes.keys (witnesses c.args.self.now.nodes.items) c.args.self.now.queue.items c.take_queued.new.queue.items c.args.at _
    c.requires.search c.in-Some.ensures.some

pub returns-clause-search : goal.returns-clause-search
returns-clause-search c =
    rw c.in_default.ensures.none
    (taken_next c.args.program.now c.args.self.now.codes.keys (witnesses c.args.self.now.nodes.items) c.args.self.now.queue.items c.args.at c.requires.search c.requires.there)
