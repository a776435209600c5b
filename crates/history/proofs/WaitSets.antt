-- Wait sets that are found thread by thread.
use Rattle.std.proofs.Common.{◌≡◌, ℕ, ◌+◌, ◌<◌, List, ◌++◌, length, sym, ap, ◌∙◌, subst, add-one, Vec}
use Rattle.std.specs.declared.alloc.Global.{Global}
use Rattle.lock_word.specs.declared.ThreadId.{ThreadId}
use Rattle.step_core.specs.World.{WorldState}
use Rattle.history.specs.Reports.{AreEmpty, AreWaitSets, IsAdded, waiter}

-- before the first thread no set has one
pub wait_sets_none : (w : WorldState) (n : ℕ) (sets : List (Vec ThreadId Global)) → n ≡ length w.words → AreEmpty n sets → AreWaitSets w 0 sets
wait_sets_none w n sets all none = record {
  long = none.long ∙ all;
  each = λ (o : ℕ) (d : Vec ThreadId Global) (within : o < length w.words). none.each o d (subst (λ (k : ℕ). o < k) (sym all) within);
}

-- one thread more
pub wait_sets_more : (w : WorldState) (n : ℕ) (old new : List (Vec ThreadId Global)) → AreWaitSets w n old → IsAdded w (record { 0 = n }) old new → AreWaitSets w (n + 1) new
wait_sets_more w n old new sets added = subst (λ (k : ℕ). AreWaitSets w k new) (sym (add-one n)) (record {
  long = added.long ∙ sets.long;
  each = λ (o : ℕ) (d : Vec ThreadId Global) (within : o < length w.words). added.each o d (subst (λ (k : ℕ). o < k) (sym sets.long) within)
      ∙ ap (λ (l : List ThreadId). l ++ waiter w o (record { 0 = n })) (sets.each o d within);
})
