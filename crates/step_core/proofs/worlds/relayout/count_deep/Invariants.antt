use Rattle.std.proofs.Common.{◌≡◌, ◌≤◌, take, count_by}
use Rattle.step_core.specs.Relayout.{is_deep_word}
use Rattle.step_core.proofs.worlds.relayout.count_deep.Given as goal

abbrev pub invariant-loop-word : goal.invariant-loop-word
invariant-loop-word l = (l.deep ≡ count_by (is_deep_word l.old l.new) (take l.word-index l.words)) × (l.deep ≤ l.word-index)
