use Rattle.explore.specs.Found.{witnesses}
use Rattle.explore.proofs.Searching.{queue_more}
use Rattle.explore.proofs.search.Search.add.Goals as goal

pub returns-in_ok-push_back-clause-search : goal.returns-in_ok-push_back-clause-search
returns-in_ok-push_back-clause-search c =
    rw (c.in_ok-push_back.ensures.items, c.in_ok-number.ensures.queue)
    (queue_more c.args.program.now c.add_code.new.self.codes.keys (witnesses c.add_code.new.self.nodes.items) c.args.self.now.queue.items _ _
    c.in_ok-number.ensures.search c.in_ok-number.ensures.found)

pub returns-in_ok-keep-clause-search : goal.returns-in_ok-keep-clause-search
returns-in_ok-keep-clause-search c = rw c.in_ok-number.ensures.queue c.in_ok-number.ensures.search

pub returns-in_ok-push_back-clause-stays : goal.returns-in_ok-push_back-clause-stays
returns-in_ok-push_back-clause-stays c = c.in_ok-number.ensures.stays

pub returns-in_ok-keep-clause-stays : goal.returns-in_ok-keep-clause-stays
returns-in_ok-keep-clause-stays c = c.in_ok-number.ensures.stays

pub returns-in_ok-push_back-clause-found : goal.returns-in_ok-push_back-clause-found
returns-in_ok-push_back-clause-found c = c.in_ok-number.ensures.found

pub returns-in_ok-keep-clause-found : goal.returns-in_ok-keep-clause-found
returns-in_ok-keep-clause-found c = c.in_ok-number.ensures.found
