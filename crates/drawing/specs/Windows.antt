-- A window of columns, of which the first has number 1.
use Rattle.std.specs.Prelude.{ℕ, ◌-◌, ◌<◌, min, max, List, length, take, slice_range, Option, None, Some}
use Rattle.drawing.specs.declared.windows.Window.{Window}

-- how many columns stand in front of it
abbrev pub begin_of : Window → ℕ
begin_of w = w.first - 1

-- how many stand in front of what is behind it, where there are n
abbrev pub end_up_to : Option ℕ → ℕ → ℕ
end_up_to None n = n
end_up_to (Some last) n = min last n

abbrev pub end_of : Window → ℕ → ℕ
end_of w n = max (begin_of w) (end_up_to w.last n)

-- what stands in front of it, and what it shows
abbrev pub front_of : {X : Type 0} → Window → List X → List X
front_of w xs = take (begin_of w) xs

abbrev pub part_of : {X : Type 0} → Window → List X → List X
part_of w xs = slice_range xs (begin_of w) (end_of w (length xs))

-- It begins behind the last of n columns. One that begins with the first never does.
abbrev pub IsBeyond : Window → ℕ → Type 0
IsBeyond w n = (1 < w.first) × (n < w.first)
