use Rattle.std.proofs.Common.{subst, arith}
use Rattle.history.specs.Reports.{AreWaitSets}
use Rattle.history.proofs.WaitSets.{wait_sets_none, wait_sets_more}
use Rattle.history.proofs.reports.wait_sets_of.Goals as goal

pub threads-init : goal.threads-init
threads-init c = wait_sets_none c.args.world.now c.objects.result c.in_ok-wait_sets.wait_sets.items c.objects.ensures c.in_ok-wait_sets.ensures

pub add_waiter-requires : goal.add_waiter-requires
add_waiter-requires c = c.threads.invariant.long

pub threads-preserved : goal.threads-preserved
threads-preserved c =
    wait_sets_more c.args.world.now c.threads.number c.threads.wait_sets.items c.add_waiter.new.wait_sets.items c.threads.invariant c.in_ok-add_waiter.ensures

pub returns : goal.returns
returns c =
    subst (λ n. AreWaitSets c.args.world.now n c.threads.wait_sets.items) (omega arith) c.threads.invariant
