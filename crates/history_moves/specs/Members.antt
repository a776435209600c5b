-- The members of data, by their keys.
use Rattle.std.specs.Prelude.{◌≡◌, ℕ, ◌+◌, ◌^◌, List, nat_lt, if◌then◌else◌, Option, None, Some, is_some, option_map}
use Rattle.std.specs.Prelude.{option_and_then, MatchOption, codes, ℤ, pos, negsuc}
use Rattle.std.specs.Ordering.{nat_cmp}
use Rattle.std.specs.declared.cmp.Ordering.TheVariants.{Less}
use Rattle.std.specs.Cmp.Lexicographic.{slice_cmp}
use Rattle.serde_json.specs.Data.{Data, Num, unsigned, negative, float, Members, member, no_members}
use Rattle.serde_json.specs.Find.{get, as_str, as_number, as_u64, as_object, as_null}
use Rattle.lock_word.specs.declared.ThreadId.{ThreadId}
use Rattle.lock_word.specs.declared.ObjectId.{ObjectId}

abbrev pub count : Members → ℕ
count no_members = 0
count (member k d ms) = count ms + 1

-- how many members an object has
abbrev pub count_in : Data → Option ℕ
count_in d = option_map count (as_object d)

-- each key is below those after it
abbrev pub IsBelow : List ℕ → Members → Type 0
IsBelow k no_members = Unit {0}
IsBelow k (member l d ms) = (slice_cmp nat_cmp k l ≡ Less) × IsBelow k ms

abbrev pub AreInOrder : Members → Type 0
AreInOrder no_members = Unit {0}
AreInOrder (member k d ms) = IsBelow k ms × AreInOrder ms

-- an object's keys are in order, each once
abbrev pub IsOrderedData : Data → Type 0
IsOrderedData d = MatchOption (as_object d) (Unit {0}) AreInOrder

-- ---- members by their keys

abbrev pub text_at : List ℕ → Data → Option (List ℕ)
text_at key d = option_and_then as_str (get key d)

abbrev pub whole_at : List ℕ → Data → Option ℕ
whole_at key d = option_and_then as_u64 (option_and_then as_number (get key d))

abbrev pub number_at : List ℕ → Data → Option ℕ
number_at key d = option_and_then (λ n. if nat_lt n (2 ^ 32) then Some n else None) (whole_at key d)

abbrev pub now_at : Data → Option ℕ
now_at d = whole_at (codes "now") d

-- a signed number: one that is not below 0 is read as an unsigned one
abbrev pub signed_of : Num → Option ℤ
signed_of (unsigned n) = if nat_lt n (2 ^ 63) then Some (pos n) else None
signed_of (negative (pos n)) = None
signed_of (negative (negsuc n)) = Some (negsuc n)
signed_of (float x) = None

abbrev pub signed_at : List ℕ → Data → Option ℤ
signed_at key d = option_and_then signed_of (option_and_then as_number (get key d))

abbrev pub small_signed : ℤ → Option ℤ
small_signed (pos n) = if nat_lt n (2 ^ 31) then Some (pos n) else None
small_signed (negsuc n) = if nat_lt n (2 ^ 31) then Some (negsuc n) else None

abbrev pub millis_at : Data → Option ℤ
millis_at d = signed_at (codes "millis") d

abbrev pub nanos_at : Data → Option ℤ
nanos_at d = option_and_then small_signed (signed_at (codes "nanos") d)

abbrev pub thread_number : List ℕ → Data → Option ThreadId
thread_number key d = option_map (λ n. record { 0 = n }) (number_at key d)

abbrev pub thread_at : Data → Option ThreadId
thread_at d = thread_number (codes "thread") d

abbrev pub object_at : Data → Option ObjectId
object_at d = option_map (λ n. record { 0 = n }) (number_at (codes "object") d)

-- a thread or null
abbrev pub chosen_at : Data → Option (Option ThreadId)
chosen_at d =
    option_and_then
    (λ x. if is_some (as_null x) then Some None else option_map (λ u. Some u) (thread_number (codes "chosen") d))
    (get (codes "chosen") d)
