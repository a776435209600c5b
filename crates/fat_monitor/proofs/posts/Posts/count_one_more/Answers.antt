use Rattle.fat_monitor.specs.FatState.{wait_count}
use Rattle.fat_monitor.specs.Slots.{Posted, posted_in}
use Rattle.std.specs.FinMap as map
use Rattle.std.proofs.Common.{◌∙◌, ◌+◌, sym, ap, refl, ℕ, arith}
use Rattle.fat_monitor.proofs.OwnedCounts.{count-recorded}
use Rattle.fat_monitor.proofs.PostMaps.{posted_key, posted_in-set_owned, LeadToRecords-write, HaveKeys-write, Updates-with_value}
use Rattle.fat_monitor.proofs.posts.Posts.count_one_more.Goals as goal

pub attached_key-key-requires-clause-attached : goal.attached_key-key-requires-clause-attached
attached_key-key-requires-clause-attached c =
    posted_key c.self.inside.records c.self.inside.keys.entries c.in-Some.thread.0 (rw (← c.self.view_is) at c.requires.attached c.in-Some.thread c.in-Some.is)

pub overflow_add-index_mut : goal.overflow_add-index_mut
overflow_add-index_mut c =
    let count = count-recorded c.self.inside.records c.self.inside.keys.entries c.in-Some.thread c.attached_key-key.result c.index_mut.result.now c.attached_key-key.ensures.found c.index_mut.ensures.value in
    let few = rw (← c.self.view_is) at c.requires.few c.in-Some.thread c.in-Some.is in
    omega (arith, count, few)

pub invariant_of-self : goal.invariant_of-self
invariant_of-self c =
    let there = c.index_mut.ensures.value in
    let found = c.attached_key-key.ensures.found in
    let slot = Updates-with_value c.self.inside.records c.attached_key-key.result c.index_mut.result.now (record c.index_mut.result.now { owned = c.index_mut.result.now.owned + 1 }) there in (
      LeadToRecords-write c.self.inside.records _ c.self.inside.keys.entries c.in-Some.thread.0 c.attached_key-key.result c.index_mut.result.now _ c.self.invariant.0 c.self.invariant.1 found there slot refl,
      HaveKeys-write c.self.inside.records _ c.self.inside.keys.entries c.in-Some.thread.0 c.attached_key-key.result c.index_mut.result.now _ c.self.invariant.0 c.self.invariant.1 found there slot refl,
      c.self.invariant.2 ∙ ap (λ (p : Posted). wait_count p.posts) (sym (posted_in-set_owned c.self.inside.records _ c.self.inside.keys.entries c.in-Some.thread.0 c.attached_key-key.result c.index_mut.result.now _ c.self.invariant.0 c.self.invariant.1 found there slot refl refl refl)),
    )

pub returns : goal.returns
returns c =
    let there = c.index_mut.ensures.value in
    let found = c.attached_key-key.ensures.found in
    let slot = Updates-with_value c.self.inside.records c.attached_key-key.result c.index_mut.result.now (record c.index_mut.result.now { owned = c.index_mut.result.now.owned + 1 }) there in
    let count = count-recorded c.self.inside.records c.self.inside.keys.entries c.in-Some.thread c.attached_key-key.result c.index_mut.result.now found there in
    let was : Posted = posted_in c.self.inside.records c.self.inside.keys.entries in
    rw (← c.self.view_is, c.in-Some.is) (
    posted_in-set_owned c.self.inside.records _ c.self.inside.keys.entries c.in-Some.thread.0 c.attached_key-key.result c.index_mut.result.now _ c.self.invariant.0 c.self.invariant.1 found there slot refl refl refl
    ∙ ap (λ (n : ℕ). record was { owned = map.insert was.owned c.in-Some.thread.0 (n + 1) }) (sym count))
