use Rattle.std.proofs.Common.{◌≡◌, ◌≤◌, ◌<◌, ◌+◌, ℕ, ap, ◌∙◌, arith}
use Rattle.live_threads.proofs.Drives.{longer_by_one}
use Rattle.live_threads.proofs.driving.new_flags.Goals as goal

has_room : (len n i count room : ℕ) → len ≡ n → n ≡ i → i < count → count ≤ room → len < room
has_room len n i count room a b c d = omega arith

all_made : (n i count : ℕ) → n ≡ i → i ≤ count → count ≤ i → n ≡ count
all_made n i count a b c = omega arith

pub loop-preserved : goal.loop-preserved
loop-preserved c = record {
  len = longer_by_one c.push_reserved.new.self.items c.loop.flags.items c.new.result c.push_reserved.ensures.items ∙ ap (λ k. k + 1) c.loop.invariant.len;
  room = rw c.push_reserved.ensures.capacity c.loop.invariant.room;
}

pub push_reserved-requires : goal.push_reserved-requires
push_reserved-requires c = has_room _ _ _ _ _ c.loop.flags.ok.0 c.loop.invariant.len c.loop-test.true c.loop.invariant.room

pub returns : goal.returns
returns c = all_made _ _ _ c.loop.invariant.len c.loop.auto.counter-end c.loop-test.false
