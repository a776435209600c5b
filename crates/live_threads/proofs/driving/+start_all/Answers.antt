use Rattle.std.proofs.lemmas.Grind.{common_steps}
use Rattle.std.proofs.Common.{◌≡◌, ◌≤◌, ◌<◌, ◌+◌, ℕ, rules, arith, ap, sym, ◌∙◌}
use Rattle.live_threads.specs.Driving.{Driven}
use Rattle.live_threads.proofs.Drives.{driven_next, longer_by_one}
use Rattle.live_threads.proofs.driving.+start_all.Goals as goal
use Rattle.live_threads.proofs.driving.+start_all.Goals.{in-Ok, in-Err}

has_flag : (worker len rest all flags : ℕ) → worker ≡ len → len ≡ rest → all ≡ rest + 1 → all ≤ flags → worker < flags
has_flag worker len rest all flags a b c d = omega arith

has_room : (len done rest all had has : ℕ) → len ≡ done → done ≡ rest → all ≡ rest + 1 → all ≤ had → has ≡ had → len < has
has_room len done rest all had has a b c d e = omega arith

pub returns-clause-driven : goal.returns-clause-driven
returns-clause-driven g t c =
    let worked : Driven c.args.live.now c.in-Some.job.work c.match-started.worked = elim c.match-started.branch [ in-Ok w ↦ search rules | in-Err w ↦ search rules ] in
    driven_next (λ j. j.work) c.args.live.now c.last_job.new.jobs.items c.args.jobs.items c.start_all-done.result.items c.push_reserved.new.self.items
    c.in-Some.job c.match-started.worked c.in-Some.ensures.items c.push_reserved.ensures.items c.start_all-done.ensures.driven worked

pub offset_bounds-flags-worker : goal.offset_bounds-flags-worker
offset_bounds-flags-worker g t c = grind (arith, common_steps)

pub bounds-flags-worker : goal.bounds-flags-worker
bounds-flags-worker g t c =
    has_flag _ _ _ _ _ c.len-worker.ensures c.last_job.new.jobs.ok.0 (longer_by_one c.args.jobs.items c.last_job.new.jobs.items c.in-Some.job c.in-Some.ensures.items) c.requires.flags

pub start_all-done-requires : goal.start_all-done-requires
start_all-done-requires g t c κs within = grind (arith, common_steps)

pub push_reserved-requires : goal.push_reserved-requires
push_reserved-requires g t c =
    has_room _ _ _ _ _ _ c.start_all-done.result.ok.0 c.start_all-done.ensures.count (longer_by_one c.args.jobs.items c.last_job.new.jobs.items c.in-Some.job c.in-Some.ensures.items)
    c.requires.room c.start_all-done.ensures.room

pub returns-clause-count : goal.returns-clause-count
returns-clause-count g t c =
    longer_by_one c.push_reserved.new.self.items c.start_all-done.result.items c.match-started.worked c.push_reserved.ensures.items
    ∙ (ap (λ k. k + 1) c.start_all-done.ensures.count ∙ sym (longer_by_one c.args.jobs.items c.last_job.new.jobs.items c.in-Some.job c.in-Some.ensures.items))
