use Rattle.explore_java.proofs.search.Search.add.Goals as goal

pub returns-in_ok-push_back-clause-search : goal.returns-in_ok-push_back-clause-search
returns-in_ok-push_back-clause-search c =
    rw (c.in_ok-push_back.ensures.items, c.in_ok-is_new.ensures.queue) (rw c.if-is_new.true at c.in_ok-is_new.ensures.search)

pub returns-else-is_new-clause-search : goal.returns-else-is_new-clause-search
returns-else-is_new-clause-search c = rw c.in_ok-is_new.ensures.queue (rw c.if-is_new.false at c.in_ok-is_new.ensures.search)
