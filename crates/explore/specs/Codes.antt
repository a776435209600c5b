-- The bytes that stand for a state.
use Rattle.std.specs.Prelude.{ℕ, ◌+◌, ◌*◌, ◌<◌, ◌^◌, nat_lt, Bool, ◌&&◌, if◌then◌else◌}
use Rattle.std.specs.Prelude.{List, [], ◌∷◌, ◌++◌, length, map, Option, Some, None}
use Rattle.std.specs.Int.{w32, w64, to_le_bytes}
use Rattle.fat_monitor.specs.declared.actions.Reply.{Reply}
use Rattle.fat_monitor.specs.Numbers.{reply_number}
use Rattle.step_core.specs.Numbers.{numbers_of, IsNumbered}
use Rattle.explore.specs.States.{ProgramState}

-- 0 where there is no reply
abbrev pub answer_number : Option Reply → ℕ
answer_number None = 0
answer_number (Some r) = reply_number r + 1

-- the numbers of the world, of the clock and of where the threads stand
abbrev pub front_numbers : ProgramState → List ℕ
front_numbers s = numbers_of s.world ++ (s.told ∷ length s.nexts ∷ s.nexts)

-- two numbers that share a byte: the first is below 15, and the second below 16
abbrev pub shares : ℕ → ℕ → Bool
shares a b = nat_lt a 15 && nat_lt b 16

-- the byte that a number shares with the next one, if there is one and both are small
abbrev pub pair_of : ℕ → Option ℕ → Option ℕ
pair_of a None = None
pair_of a (Some b) = if shares a b then Some (16 * a + b) else None

-- the bytes of a number that does not fit in one, low byte first: four behind 241 where they suffice, and else eight
abbrev pub alone_long : ℕ → List ℕ
alone_long n = if nat_lt n 4294967296 then 241 ∷ to_le_bytes w32 n else 242 ∷ to_le_bytes w64 n

-- a number that shares no byte
abbrev pub alone : ℕ → List ℕ
alone n = if nat_lt n 256 then 240 ∷ n ∷ [] else alone_long n

-- The bytes of numbers. Where a number begins there is a byte below 243; one below 240 stands for two numbers.
abbrev pub dense : List ℕ → List ℕ
dense [] = []
dense (a ∷ []) = alone a
dense (a ∷ b ∷ ns) = if shares a b then (16 * a + b) ∷ dense ns else alone a ++ dense (b ∷ ns)

-- the bytes of the numbers, an end that none of them begins with, and for each call a byte: the number of its reply
abbrev pub code_of : ProgramState → List ℕ
code_of s = dense (front_numbers s) ++ 255 ∷ map answer_number s.replies

abbrev pub AreSmall : List ℕ → Type 0
AreSmall [] = Unit {0}
AreSmall (n ∷ ns) = (n < 2 ^ 64) × AreSmall ns

-- what a code rests on
pub record IsCoded (s : ProgramState) : Type 0 where
  pub numbered : IsNumbered s.world
  pub small : AreSmall (front_numbers s)
