-- The one text of a move, in the pieces in which it is written and read.
use Rattle.std.specs.Prelude.{◌≡◌, ℕ, ◌<◌, ◌^◌, List, ◌++◌, length, take, codes, decimal, ℤ, pos, negsuc}
use Rattle.std.specs.Fmt.{signed_decimal}
use Rattle.serde_json.specs.Written.{compact_text}
use Rattle.lock_word.specs.declared.ObjectId.{ObjectId}
use Rattle.lock_word.specs.declared.ThreadId.{ThreadId}
use Rattle.fast_path.specs.declared.calls.Call.{Call}
use Rattle.fast_path.specs.declared.calls.Call.TheVariants as call
use Rattle.step_core.specs.declared.machine.Move.{Move}
use Rattle.step_core.specs.declared.machine.Move.TheVariants as move
use Rattle.history_moves.specs.Moves.{data_of, Fits}

-- a front, a number, and the end of an object
abbrev pub one_text : List ℕ → ℕ → List ℕ
one_text front n = front ++ (decimal n ++ codes "}")

-- the same with two numbers
abbrev pub two_text : List ℕ → ℕ → List ℕ → ℕ → List ℕ
two_text front m middle n = front ++ (decimal m ++ one_text middle n)

-- a wait, with its two numbers that may be negative
abbrev pub wait_text : ObjectId → ℤ → ℤ → ThreadId → List ℕ
wait_text o millis nanos t =
    (codes "{\"call\":\"Wait\",\"millis\":" ++ signed_decimal millis)
    ++ ((codes ",\"move\":\"Call\",\"nanos\":" ++ signed_decimal nanos)
    ++ two_text (codes ",\"object\":") o.0 (codes ",\"thread\":") t.0)

-- the list begins with the other one
abbrev pub IsFrontOf : List ℕ → List ℕ → Type 0
IsFrontOf front list = take (length front) list ≡ front

-- the thread stands last in each object that has one
abbrev pub thread_text : ThreadId → List ℕ
thread_text t = one_text (codes ",\"thread\":") t.0

-- a signed number of 64 bits
abbrev pub IsLong : ℤ → Type 0
IsLong (pos n) = n < 2 ^ 63
IsLong (negsuc n) = n < 2 ^ 63

-- the milliseconds of a wait are a number of 64 bits
abbrev pub IsQuickCall : Call → Type 0
IsQuickCall (call.Enter o) = Unit {0}
IsQuickCall (call.Exit o) = Unit {0}
IsQuickCall (call.Wait o millis nanos) = IsLong millis
IsQuickCall (call.Notify o) = Unit {0}
IsQuickCall (call.NotifyAll o) = Unit {0}
IsQuickCall (call.Holds o) = Unit {0}
IsQuickCall (call.Interrupt u) = Unit {0}
IsQuickCall call.Interrupted = Unit {0}
IsQuickCall (call.IsInterrupted u) = Unit {0}
IsQuickCall call.End = Unit {0}

-- and so is a moment
abbrev pub IsQuick : Move → Type 0
IsQuick (move.Attach t) = Unit {0}
IsQuick (move.Call t c) = IsQuickCall c
IsQuick (move.Return t r) = Unit {0}
IsQuick (move.Lock t) = Unit {0}
IsQuick (move.Unlock t) = Unit {0}
IsQuick (move.Illegal t) = Unit {0}
IsQuick (move.BadArgument t) = Unit {0}
IsQuick (move.Refuse t c) = Unit {0}
IsQuick (move.Early t) = Unit {0}
IsQuick (move.Wait t) = Unit {0}
IsQuick (move.Notify t u) = Unit {0}
IsQuick (move.NotifyAll t) = Unit {0}
IsQuick (move.Interrupt t) = Unit {0}
IsQuick (move.TestClear t) = Unit {0}
IsQuick (move.Ask t) = Unit {0}
IsQuick (move.Expire t) = Unit {0}
IsQuick (move.Spurious t) = Unit {0}
IsQuick (move.Relock t) = Unit {0}
IsQuick (move.End t) = Unit {0}
IsQuick (move.Time now) = now < 2 ^ 64

-- the line is the one text of this move
pub record Reads (line : List ℕ) (m : Move) : Type 0 where
  pub text : line ≡ compact_text (data_of m)
  pub fits : Fits m
  pub quick : IsQuick m
