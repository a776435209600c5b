-- The header words that real threads share have the wide split.
use Rattle.std.specs.Prelude.{ℕ}
use Rattle.lock_word.specs.declared.Lock.{Lock}
use Rattle.lock_word.specs.declared.Split.TheVariants.{Wide}
use Rattle.lock_word.specs.Layout as layout

abbrev pub Fits : Lock → Type 0
Fits l = layout.Fits Wide l

abbrev pub word_of : Lock → ℕ → ℕ
word_of l low = layout.word_of Wide l low

abbrev pub IsMalformed : ℕ → Type 0
IsMalformed word = layout.IsMalformed Wide word

abbrev pub lock_of : ℕ → Lock
lock_of word = layout.lock_of Wide word

abbrev pub with_lock : ℕ → Lock → ℕ
with_lock word l = layout.with_lock Wide word l
