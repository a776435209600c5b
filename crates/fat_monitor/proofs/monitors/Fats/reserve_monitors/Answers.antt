use Rattle.fat_monitor.specs.Fats.{fat_state_in}
use Rattle.fat_monitor.proofs.SoundSteps.{IsSound-spare}
use Rattle.fat_monitor.proofs.monitors.Fats.reserve_monitors.Goals as goal

pub invariant_of-self-then-self-binds : goal.invariant_of-self-then-self-binds
invariant_of-self-then-self-binds c =
    record {
      sound = rw (c.reserve.ensures.items) (IsSound-spare (fat_state_in c.self.inside) c.args.binds c.self.invariant.sound);
      nodes_kept = c.self.invariant.nodes_kept;
      counted = rw (c.reserve.ensures.items) c.self.invariant.counted;
      reserved = c.in_ok-reserve.ensures.ok;
    }

pub returns-in_ok-reserve-clause-sound : goal.returns-in_ok-reserve-clause-sound
returns-in_ok-reserve-clause-sound c = (invariant_of-self-then-self-binds c).sound
