-- A line is one move at most, and tells one number of objects at most.
use Rattle.std.proofs.Common.{◌≡◌, ℕ, List, Option, Some, refl, ◌<◌}
use Rattle.std.specs.Str.{IsUtf8}
use Rattle.serde_json.specs.Read.{read}
use Rattle.serde_json.specs.Data.{Data}
use Rattle.step_core.specs.declared.machine.Move.{Move}
use Rattle.history_moves.specs.Moves.{data_of, first_data, Fits}
use Rattle.history_moves.specs.Lines.{IsFirst, IsMove}
use Rattle.history_moves.proofs.MoveLaws.{one_move, one_first}

same_data : (r : Option Data) (d e : Data) → r ≡ Some d → r ≡ Some e → d ≡ e
same_data r d e p q = cc

pub one_line_move : (line : List ℕ) (m n : Move) → IsMove line m → IsMove line n → m ≡ n
unfolding IsMove
one_line_move line m n p q = one_move (data_of m) m n (refl, p.1) (same_data _ (data_of m) (data_of n) p.0.1 q.0.1, q.1)

pub one_line_first : (line : List ℕ) (m n : ℕ) → IsFirst line m → IsFirst line n → m ≡ n
unfolding IsFirst
one_line_first line m n p q = one_first (first_data m) m n (refl, p.1) (same_data _ (first_data m) (first_data n) p.0.1 q.0.1, q.1)

-- ---- what is written is a line of it

pub written_move : (line : List ℕ) (m : Move) → IsUtf8 line → read line ≡ Some (data_of m) → Fits m → IsMove line m
unfolding IsMove
written_move line m valid text fits = ((valid, text), fits)

pub written_first : (line : List ℕ) (n : ℕ) → IsUtf8 line → read line ≡ Some (first_data n) → n < 65536 → IsFirst line n
unfolding IsFirst
written_first line n valid text fits = ((valid, text), fits)
