-- What a receipt tells of a bind.
use Rattle.std.specs.Prelude.{ℕ}
use Rattle.lock_word.specs.declared.ThreadId.{ThreadId}
use Rattle.lock_word.specs.declared.ObjectId.{ObjectId}

pub record Binding : Type 0 where
  pub object : ObjectId
  pub owner : ThreadId
  pub holds : ℕ
  pub monitor : ℕ
