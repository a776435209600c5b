-- At which position the lane of a thread stands.
use Rattle.std.specs.Prelude.{ℕ, zero, suc, ◌==◌, Bool, false, List, length, Option, None, Some, slice_get}
use Rattle.std.specs.Prelude.{if◌then◌else◌}
use Rattle.lock_word.specs.declared.ThreadId.{ThreadId}
use Rattle.pictures.specs.declared.picture.Lane.{Lane}

abbrev pub is_lane_of : ℕ → Option Lane → Bool
is_lane_of t None = false
is_lane_of t (Some lane) = lane.thread.0 == t

-- the last of the first lanes that is of this thread
abbrev pub position_in : List Lane → ℕ → ℕ → Option ℕ
position_in lanes zero t = None
position_in lanes (suc n) t = if is_lane_of t (slice_get lanes n) then Some n else position_in lanes n t

abbrev pub position_of : List Lane → ThreadId → Option ℕ
position_of lanes t = position_in lanes (length lanes) t.0
