-- The hints that are in use, and how many there should be.
use Rattle.std.specs.Prelude.{ℕ, List, [], ◌∷◌, if◌then◌else◌, nat_le}

-- the many, where there are some, and else the few
abbrev pub hints_in : List ℕ → List ℕ → List ℕ
hints_in few [] = few
hints_in few (x ∷ xs) = x ∷ xs

-- how many hints so many records should have: twice as many or more, or the most
abbrev pub width_for : ℕ → ℕ
width_for records =
    if nat_le records 32 then 64 else if nat_le records 128 then 256 else if nat_le records 512 then 1024
    else if nat_le records 2048 then 4096 else if nat_le records 8192 then 16384 else 65536
