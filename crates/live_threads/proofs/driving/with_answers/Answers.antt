use Rattle.std.proofs.Common.{◌≡◌, ◌≤◌, ◌<◌, ◌+◌, ℕ, length, refl, arith}
use Rattle.live_threads.proofs.Drives.{moved_all, moved_on, longer_by_one}
use Rattle.live_threads.proofs.driving.with_answers.Goals as goal

still_room : (all rest before more had has : ℕ) → all ≡ rest + 1 → more ≡ before + 1 → all + before ≤ had → has ≡ had → rest + more ≤ has
still_room all rest before more had has a b c d = omega arith

room_again : (len all rest jobs had has : ℕ) → len ≡ rest → all ≡ rest + 1 → all + jobs ≤ had → has ≡ had → len < has
room_again len all rest jobs had has a b c d = omega arith

room_for_one : (len all rest jobs has : ℕ) → len ≡ jobs → all ≡ rest + 1 → all + jobs ≤ has → len < has
room_for_one len all rest jobs has a b c = omega arith

fewer : (all rest : ℕ) → all ≡ rest + 1 → rest < all
fewer all rest a = omega arith

pub returns-clause-jobs : goal.returns-clause-jobs
returns-clause-jobs g c =
    moved_all (λ j. j.work) c.loop-work.works.items c.last_work.result c.loop-work.jobs.items c.reverse.new.self.items c.args.works.items
    c.in_default.not-Some c.last_work.ensures.none c.reverse.ensures.items c.loop-work.invariant.row

pub loop-work-preserved : goal.loop-work-preserved
loop-work-preserved g c =
    let i = c.loop-work.invariant in
    let works : length c.loop-work.works.items ≡ length c.last_work.new.works.items + 1 = longer_by_one c.loop-work.works.items c.last_work.new.works.items c.in-Some.work c.in-Some.ensures.items in
    let jobs : length c.push_reserved-in-Some.new.self.items ≡ length c.loop-work.jobs.items + 1 =
    longer_by_one c.push_reserved-in-Some.new.self.items c.loop-work.jobs.items _ c.push_reserved-in-Some.ensures.items in
    record {
      back_room = still_room _ _ _ _ _ _ works jobs i.back_room c.in-Some.ensures.room;
      room = still_room _ _ _ _ _ _ works jobs i.room c.push_reserved-in-Some.ensures.capacity;
      row = moved_on (λ j. j.work) c.loop-work.works.items c.last_work.new.works.items c.in-Some.work c.loop-work.jobs.items c.push_reserved-in-Some.new.self.items _ c.args.works.items
          c.in-Some.ensures.items c.push_reserved-in-Some.ensures.items refl i.row;
    }

pub push_reserved-requires : goal.push_reserved-requires
push_reserved-requires g c =
    room_again _ _ _ _ _ _ c.last_work.new.works.ok.0 (longer_by_one c.loop-work.works.items c.last_work.new.works.items c.in-Some.work c.in-Some.ensures.items) c.loop-work.invariant.back_room c.in-Some.ensures.room

pub push_reserved-requires-in-Some : goal.push_reserved-requires-in-Some
push_reserved-requires-in-Some g c =
    room_for_one _ _ _ _ _ c.loop-work.jobs.ok.0 (longer_by_one c.loop-work.works.items c.last_work.new.works.items c.in-Some.work c.in-Some.ensures.items) c.loop-work.invariant.room

pub loop-work-smaller : goal.loop-work-smaller
loop-work-smaller g c = fewer _ _ (longer_by_one c.loop-work.works.items c.last_work.new.works.items c.in-Some.work c.in-Some.ensures.items)
