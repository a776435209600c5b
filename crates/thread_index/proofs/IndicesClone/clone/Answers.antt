use Rattle.std.proofs.Common.{◌≡◌, ◌∙◌}
use Rattle.std.proofs.lemmas.Map.Entries.{entries_from_clone}
use Rattle.thread_index.proofs.IndicesClone.clone.Goals as goal

pub invariant_of-result : goal.invariant_of-result
invariant_of-result c =
    let holders : c.in_ok-from_slice.field-0.items ≡ c.self.inside.holders.items = c.in_ok-from_slice.ensures.items ∙ c.deref.ensures.value in
    let taken : c.in_ok-clone.field-0.taken.words.items ≡ c.self.inside.bits.taken.words.items = c.in_ok-clone.ensures.cases in
    let berths : c.in_ok-clone-2.field-0.entries ≡ c.self.inside.berths.entries =
    entries_from_clone (λ x y. y ≡ x) (λ x y. y ≡ x) (λ x y e. e) (λ x y e. e) _ _ c.in_ok-clone-2.ensures.cases in
    record {
      kept = rw (holders) c.self.invariant.kept;
      told = record { bits = rw (holders, taken) c.self.invariant.told.bits; look_up = rw (holders, berths) c.self.invariant.told.look_up };
      room = rw (holders, taken) c.self.invariant.room;
    }
