-- What reading keeps of the lines so far.
use Rattle.std.specs.Prelude.{◌≡◌, ℕ, List, [], ◌∷◌, length, drop, Bool, not, ◌&&◌, nat_lt}
use Rattle.std.specs.List.{list_all}
use Rattle.script_text.specs.declared.lines.Line.{Line}
use Rattle.script_text.specs.declared.lines.Line.TheVariants.{World, Object, Step}
use Rattle.script_text.specs.Lines.{is_object}
use Rattle.script_text.specs.Names.{is_named, with_name}

-- the names of the objects that are declared
abbrev pub object_names : List Line → List (List ℕ)
object_names [] = []
object_names (World m k split ∷ ls) = object_names ls
object_names (Object name low ∷ ls) = name ∷ object_names ls
object_names (Step step ∷ ls) = object_names ls

-- behind the first line: whether all are objects, and their names
pub record IsNoted (ls : List Line) (declaring : Bool) (names : List (List ℕ)) : Type 0 where
  pub objects : declaring ≡ list_all is_object (drop 1 ls)
  pub declared : names ≡ object_names (drop 1 ls)

abbrev pub may_follow_by : Bool → Bool → List (List ℕ) → Line → Bool
may_follow_by first declaring names (World m k split) = first
may_follow_by first declaring names (Object name low) =
    not first && declaring && not (is_named names name) && nat_lt (length names) 65535
may_follow_by first declaring names (Step step) = not first

abbrev pub with_object : List (List ℕ) → Line → List (List ℕ)
with_object names (World m k split) = names
with_object names (Object name low) = with_name names name
with_object names (Step step) = names
