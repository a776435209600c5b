-- What no step changes: how many objects there are, and bits 7 to 0 of each word.
use Rattle.std.specs.Prelude.{◌≡◌, ℕ, length}
use Rattle.lock_word.specs.Layout.{low_of}
use Rattle.step_core.specs.World.{WorldState, word_at}

pub record Keeps (w w' : WorldState) : Type 0 where
  pub objects : length w'.words ≡ length w.words
  pub low_bytes : (p : ℕ) → low_of (word_at w' p).0 ≡ low_of (word_at w p).0
