use Rattle.std.proofs.Common.{ap, refl}
use Rattle.std.proofs.Common.{arith}
use Rattle.fat_monitor.specs.Slots.{Posted}
use Rattle.fat_monitor.proofs.WaitCounts.{counts, counts-le, one_at_most, recounted}
use Rattle.fat_monitor.proofs.PostMaps.{posted_key, posted_in-set, LeadToRecords-write, HaveKeys-write, Updates-with_value}
use Rattle.fat_monitor.proofs.posts.Posts.set.Goals as goal

pub attached_key-key-requires-clause-attached : goal.attached_key-key-requires-clause-attached
attached_key-key-requires-clause-attached c =
    posted_key c.self.inside.records c.self.inside.keys.entries c.args.thread.0 (rw (← c.self.view_is) at c.requires)

pub overflow_sub-self : goal.overflow_sub-self
overflow_sub-self c =
    counts c.self.inside.records c.self.inside.keys.entries c.args.thread.0 c.attached_key-key.result c.index_mut-record.result.now c.self.inside.waiting c.one_waiting-before.result
    c.self.invariant.2 c.attached_key-key.ensures.found c.index_mut-record.ensures.value c.one_waiting-before.ensures

pub overflow_add-self : goal.overflow_add-self
overflow_add-self c =
    let le = counts-le c.self.inside.records c.self.inside.keys.entries c.self.inside.waiting c.self.invariant.2 c.len.ensures.unique in
    let few = c.len.ensures.small in
    let len = c.len.ensures.len in
    let one = one_at_most c.args.post c.one_waiting.result c.one_waiting.ensures in
    omega arith

pub invariant_of-self : goal.invariant_of-self
invariant_of-self c =
    let there = c.index_mut-record.ensures.value in
    let found = c.attached_key-key.ensures.found in
    let slot = Updates-with_value c.self.inside.records c.attached_key-key.result c.index_mut-record.result.now (record c.index_mut-record.result.now { post = c.args.post }) there in (
      LeadToRecords-write c.self.inside.records _ c.self.inside.keys.entries c.args.thread.0 c.attached_key-key.result c.index_mut-record.result.now _ c.self.invariant.0 c.self.invariant.1 found there slot refl,
      HaveKeys-write c.self.inside.records _ c.self.inside.keys.entries c.args.thread.0 c.attached_key-key.result c.index_mut-record.result.now _ c.self.invariant.0 c.self.invariant.1 found there slot refl,
      recounted c.self.inside.records c.self.inside.keys.entries c.args.thread.0 c.attached_key-key.result c.index_mut-record.result.now c.self.inside.waiting c.one_waiting-before.result
          c.self.invariant.2 found there c.one_waiting-before.ensures _ c.args.post c.one_waiting.result
          (ap (λ (p : Posted). p.posts) (posted_in-set c.self.inside.records _ c.self.inside.keys.entries c.args.thread.0 c.attached_key-key.result c.index_mut-record.result.now _ c.self.invariant.0 c.self.invariant.1 found there slot refl refl refl))
          c.one_waiting.ensures,
    )

pub returns : goal.returns
returns c =
    let there = c.index_mut-record.ensures.value in
    let found = c.attached_key-key.ensures.found in
    let slot = Updates-with_value c.self.inside.records c.attached_key-key.result c.index_mut-record.result.now (record c.index_mut-record.result.now { post = c.args.post }) there in
    rw (← c.self.view_is) (
    posted_in-set c.self.inside.records _ c.self.inside.keys.entries c.args.thread.0 c.attached_key-key.result c.index_mut-record.result.now _ c.self.invariant.0 c.self.invariant.1 found there slot refl refl refl)
