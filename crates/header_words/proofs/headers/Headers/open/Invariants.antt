use Rattle.std.proofs.Common.{◌≡◌, ◌+◌, ◌≤◌, [], All, vec_len, vec_capacity}
use Rattle.header_words.specs.Passes.{new_passes, opening_of, IsNewRow}
use Rattle.header_words.proofs.Opens.{left_view}
use Rattle.header_words.proofs.headers.Headers.open.Given as goal

abbrev pub invariant-loop-done : goal.invariant-loop-done
invariant-loop-done g l = record {
  same_table : l.seat.table_id ≡ l.table.shared.table_id;
  view : l.seat.me ≡ (left_view l.layout.lows.items l.count l.done, []);
  passes : l.passes.items ≡ new_passes (opening_of l.table.shared.table_id l.layout) 1 l.done;
  rows : All (IsNewRow l.layout.lows.items) l.rows.items;
  left : vec_len l.rows + l.done ≡ l.count;
  filled : vec_len l.passes ≡ l.done;
  room : l.count ≤ vec_capacity l.passes;
}
