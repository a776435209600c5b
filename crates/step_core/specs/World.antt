-- A world as contracts see it: the split of its header words, the words, the threads by index, the place of each
-- in its call, and the fat state.
use Rattle.std.specs.Prelude.{ℕ, List, slice_index_or, Option, None, map, replicate, Bool, false, ◌==◌}
use Rattle.lock_word.specs.declared.ThreadId.{ThreadId}
use Rattle.lock_word.specs.declared.Word.{Word}
use Rattle.lock_word.specs.declared.Lock.{Lock}
use Rattle.lock_word.specs.declared.Lock.TheVariants.{Free, Thin, Fat}
use Rattle.lock_word.specs.declared.Split.{Split}
use Rattle.lock_word.specs.Layout.{lock_of}
use Rattle.fat_monitor.specs.FatState.{FatState, monitor_at, IsAttached, post_of, thread_count}
use Rattle.fat_monitor.specs.FatState as fat
use Rattle.step_core.specs.declared.places.Place.{Place}
use Rattle.step_core.specs.declared.places.Place.TheVariants.{Idle}

-- the split of each word; the word of each object; who has each index, by berth, which is the index less one; the
-- place of the thread at each berth; and the fat state
pub record WorldState : Type 0 where
  pub split : Split
  pub words : List Word
  pub berths : List (Option ThreadId)
  pub places : List Place
  pub fats : FatState

-- the free word of a low byte
abbrev pub low_word : ℕ → Word
low_word n = record { 0 = n }

-- the world in which nothing has happened
abbrev pub opening_world : List ℕ → ℕ → ℕ → Split → WorldState
opening_world lows monitors indices split =
    record {
      split = split;
      words = map low_word lows;
      berths = replicate indices None;
      places = replicate indices Idle;
      fats = fat.opened monitors;
    }

abbrev pub place_at : WorldState → ℕ → Place
place_at w k = slice_index_or w.places k Idle

-- past the last object stands the free word
abbrev pub word_at : WorldState → ℕ → Word
word_at w p = slice_index_or w.words p (low_word 0)

abbrev pub lock_at : WorldState → ℕ → Lock
lock_at w p = lock_of w.split (word_at w p).0

-- a thin lock of the thread with this index
abbrev pub is_own : Lock → ℕ → Bool
is_own Free me = false
is_own (Thin i c) me = i == me
is_own (Fat m) me = false
