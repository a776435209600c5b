use Rattle.std.proofs.Common.{sym, ap}
use Rattle.std.specs.Prelude.{Option, is_some, ℕ}
use Rattle.fat_monitor.specs.Slots.{Posted}
use Rattle.fat_monitor.proofs.WaitCounts.{counts, recounted-remove}
use Rattle.fat_monitor.proofs.PostMaps.{not_posted, posted_in-drop, LeadToRecords-drop, HaveKeys-drop}
use Rattle.fat_monitor.proofs.posts.Posts.remove.Goals as goal

pub unreachable-requires : goal.unreachable-requires
unreachable-requires c =
    not_posted c.self.inside.records c.self.inside.keys.entries c.args.thread.0 (ap (λ (o : Option ℕ). is_some o) (sym c.in_default.ensures.value)) (rw (← c.self.view_is) at c.requires)

pub returns : goal.returns
returns c =
    rw (← c.self.view_is) (
    posted_in-drop c.self.inside.records c.try_remove.new.self c.self.inside.keys.entries c.remove.new.self.entries c.args.thread.0 c.in-Some.key
    c.self.invariant.0 (sym c.in-Some.ensures.value) c.try_remove.ensures.updates c.in-Some.ensures.updates.0)

pub overflow_sub-self : goal.overflow_sub-self
overflow_sub-self c =
    counts c.self.inside.records c.self.inside.keys.entries c.args.thread.0 c.in-Some.key c.in-Some-try_remove.record c.self.inside.waiting c.one_waiting.result
    c.self.invariant.2 (sym c.in-Some.ensures.value) (sym c.in-Some-try_remove.ensures.value) c.one_waiting.ensures

pub invariant_of-self : goal.invariant_of-self
invariant_of-self c =
    let found = sym c.in-Some.ensures.value in
    let there = sym c.in-Some-try_remove.ensures.value in
    let dropped = c.in-Some-try_remove.ensures.updates in
    let led = c.in-Some.ensures.updates.0 in (
      LeadToRecords-drop c.self.inside.records c.try_remove.new.self c.self.inside.keys.entries c.remove.new.self.entries c.args.thread.0 c.in-Some.key c.self.invariant.0 found dropped led,
      HaveKeys-drop c.self.inside.records c.try_remove.new.self c.self.inside.keys.entries c.remove.new.self.entries c.args.thread.0 c.in-Some.key c.self.invariant.1 found dropped led,
      recounted-remove c.self.inside.records c.self.inside.keys.entries c.args.thread.0 c.in-Some.key c.in-Some-try_remove.record c.self.inside.waiting c.one_waiting.result
          c.self.invariant.2 found there c.one_waiting.ensures _
          (ap (λ (p : Posted). p.posts) (posted_in-drop c.self.inside.records c.try_remove.new.self c.self.inside.keys.entries c.remove.new.self.entries c.args.thread.0 c.in-Some.key
          c.self.invariant.0 found dropped led)),
    )
