use Rattle.std.proofs.Common.{◌≡◌, arith, rules}
use Rattle.fat_monitor.proofs.monitors.FatsClone.clone.Goals as goal

pub invariant_of-result : goal.invariant_of-result
invariant_of-result c =
    let monitors : c.extend_from_slice.new.self.items ≡ c.self.inside.monitors.items = search rules in
    record {
      sound = rw (monitors, c.in_ok-clone.ensures.cases, c.in_ok-clone-2.ensures.cases) c.self.invariant.sound;
      nodes_kept = rw (c.in_ok-clone.ensures.cases, c.in_ok-clone-2.ensures.cases) c.self.invariant.nodes_kept;
      counted = rw (monitors, c.in_ok-clone.ensures.cases) c.self.invariant.counted;
      reserved = omega (arith, c.in_ok-extend_from_slice.ensures.len, c.extend_from_slice.ensures.capacity, c.in_ok-monitors.ensures.capacity, c.in_ok-monitors.ensures.len, c.deref.ensures.len, c.len.ensures);
    }
