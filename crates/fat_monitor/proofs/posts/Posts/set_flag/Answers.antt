use Rattle.fat_monitor.specs.FatState.{wait_count}
use Rattle.fat_monitor.specs.Slots.{Posted}
use Rattle.std.proofs.Common.{◌∙◌, sym, ap, refl}
use Rattle.fat_monitor.proofs.PostMaps.{posted_key, posted_in-set_flag, LeadToRecords-write, HaveKeys-write, Updates-with_value}
use Rattle.fat_monitor.proofs.posts.Posts.set_flag.Goals as goal

pub attached_key-key-requires-clause-attached : goal.attached_key-key-requires-clause-attached
attached_key-key-requires-clause-attached c =
    posted_key c.self.inside.records c.self.inside.keys.entries c.args.thread.0 (rw (← c.self.view_is) at c.requires)

pub invariant_of-self : goal.invariant_of-self
invariant_of-self c =
    let there = c.index_mut.ensures.value in
    let found = c.attached_key-key.ensures.found in
    let slot = Updates-with_value c.self.inside.records c.attached_key-key.result c.index_mut.result.now (record c.index_mut.result.now { flag = c.args.flag }) there in (
      LeadToRecords-write c.self.inside.records _ c.self.inside.keys.entries c.args.thread.0 c.attached_key-key.result c.index_mut.result.now _ c.self.invariant.0 c.self.invariant.1 found there slot refl,
      HaveKeys-write c.self.inside.records _ c.self.inside.keys.entries c.args.thread.0 c.attached_key-key.result c.index_mut.result.now _ c.self.invariant.0 c.self.invariant.1 found there slot refl,
      c.self.invariant.2
          ∙ ap (λ (p : Posted). wait_count p.posts) (sym (posted_in-set_flag c.self.inside.records _ c.self.inside.keys.entries c.args.thread.0 c.attached_key-key.result c.index_mut.result.now _ c.self.invariant.0 c.self.invariant.1 found there slot refl refl refl)),
    )

pub returns : goal.returns
returns c =
    let there = c.index_mut.ensures.value in
    let found = c.attached_key-key.ensures.found in
    let slot = Updates-with_value c.self.inside.records c.attached_key-key.result c.index_mut.result.now (record c.index_mut.result.now { flag = c.args.flag }) there in
    rw (← c.self.view_is) (
    posted_in-set_flag c.self.inside.records _ c.self.inside.keys.entries c.args.thread.0 c.attached_key-key.result c.index_mut.result.now _ c.self.invariant.0 c.self.invariant.1 found there slot refl refl refl)
