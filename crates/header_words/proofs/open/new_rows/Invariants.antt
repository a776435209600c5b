use Rattle.std.proofs.Common.{◌≡◌, All, vec_len}
use Rattle.header_words.specs.Passes.{IsNewRow}
use Rattle.header_words.proofs.open.new_rows.Given as goal

abbrev pub invariant-loop-done : goal.invariant-loop-done
invariant-loop-done l = record { rows : All (IsNewRow l.lows) l.rows.items; len : vec_len l.rows ≡ l.done }
