use Rattle.std.proofs.Common.{ap, ◌∙◌}
use Rattle.owner_cycles.specs.Threads.{threads_numbered}
use Rattle.owner_cycles.proofs.Berths.{live_all}
use Rattle.owner_cycles.proofs.waits.live_threads.Goals as goal

pub returns : goal.returns
returns c =
    live_all c.args.world.now c.in_ok-numbers.numbers.items c.put_in_order.new.numbers.items c.in_ok-threads.threads.items c.in_ok-numbers.ensures c.put_in_order.ensures.rises c.put_in_order.ensures.keeps
    c.put_in_order.ensures.adds_none (c.in_ok-threads.ensures ∙ ap threads_numbered c.deref.ensures.value)
