use Rattle.std.proofs.Common.{◌≡◌, ◌≤◌, ◌+◌, ℕ, ◌∙◌, arith}
use Rattle.live_threads.proofs.Drives.{longer_by_one, moved_back}
use Rattle.live_threads.proofs.driving.taken_back.Goals as goal

still_room : (all rest before more had has : ℕ) → all ≡ rest + 1 → more ≡ before + 1 → before + all ≤ had → has ≡ had → more + rest ≤ has
still_room all rest before more had has a b c d = omega arith

pub loop-job-preserved : goal.loop-job-preserved
loop-job-preserved g c = record {
  room = still_room _ _ _ _ _ _ (longer_by_one c.loop-job.jobs.items c.pop.new.self.items c.in-Some.job c.in-Some.ensures.items)
      (longer_by_one c.push_reserved.new.self.items c.loop-job.works.items c.in-Some.job.work c.push_reserved.ensures.items) c.loop-job.invariant.room c.push_reserved.ensures.capacity;
  row = rw c.push_reserved.ensures.items (moved_back (λ j. j.work) c.loop-job.jobs.items c.pop.new.self.items c.in-Some.job c.loop-job.works.items c.in-Some.ensures.items ∙ c.loop-job.invariant.row);
}
