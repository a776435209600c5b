use Rattle.std.proofs.Common.{◌≡◌, refl, sym, ap, ◌∙◌}
use Rattle.slab.specs.Slab.{slab_len}
use Rattle.fat_monitor.specs.FatState.{wait_count}
use Rattle.fat_monitor.specs.Slots.{Posted}
use Rattle.fat_monitor.proofs.Overwriting.{LeadToRecords-over, HaveKeys-over, posted_in-over}
use Rattle.fat_monitor.proofs.posts.Posts.clone_into.Goals as goal

pub invariant_of-copy : goal.invariant_of-copy
invariant_of-copy c =
    let as_many : slab_len c.copy.inside.records ≡ slab_len c.self.inside.records = sym c.len.ensures ∙ c.if-are_as_many.true ∙ c.len-2.ensures in
    let shown = posted_in-over c.self.inside.records c.copy.inside.records c.write_all_over.new.over c.self.inside.keys.entries c.copy.inside.keys.entries
    c.self.invariant.0 c.self.invariant.1 c.copy.invariant.0 c.copy.invariant.1 as_many (c.if-write_all_over.ensures refl) in (
      LeadToRecords-over c.self.inside.records c.copy.inside.records c.write_all_over.new.over c.self.inside.keys.entries c.copy.inside.keys.entries
          c.self.invariant.0 c.self.invariant.1 c.copy.invariant.0 c.copy.invariant.1 as_many (c.if-write_all_over.ensures refl),
      HaveKeys-over c.self.inside.records c.copy.inside.records c.write_all_over.new.over c.self.inside.keys.entries c.copy.inside.keys.entries
          c.self.invariant.0 c.self.invariant.1 c.copy.invariant.0 c.copy.invariant.1 as_many (c.if-write_all_over.ensures refl),
      c.self.invariant.2 ∙ ap (λ (p : Posted). wait_count p.posts) (sym shown),
    )

pub returns-then-write_all_over-clause-same : goal.returns-then-write_all_over-clause-same
returns-then-write_all_over-clause-same c =
    let as_many : slab_len c.copy.inside.records ≡ slab_len c.self.inside.records = sym c.len.ensures ∙ c.if-are_as_many.true ∙ c.len-2.ensures in
    let shown = posted_in-over c.self.inside.records c.copy.inside.records c.write_all_over.new.over c.self.inside.keys.entries c.copy.inside.keys.entries
    c.self.invariant.0 c.self.invariant.1 c.copy.invariant.0 c.copy.invariant.1 as_many (c.if-write_all_over.ensures refl) in
    rw (← c.self.view_is) shown
