use Rattle.explore_java.proofs.Searching.{first_found}
use Rattle.explore_java.proofs.search.Search.open.Goals as goal

pub returns : goal.returns
returns c =
    let keys = rw c.new-codes.ensures.empty at c.in_ok-insert_full.ensures.keys in
    let queue = rw c.new-queue.ensures.items at c.in_ok-push_back.ensures.items in
    rw (keys, queue, c.new.ensures.items)
    (first_found c.args.program.now c.in_ok-code.code c.in_ok-first.first c.in_ok-first.ensures.opening (record { sound = c.in_ok-code.ensures.sound; below = c.in_ok-first.ensures.below }) c.in_ok-code.ensures.code)
