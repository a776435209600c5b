-- What a script is: the text of its lines, what a line can say, and which lines may follow others.
use Rattle.std.specs.Prelude.{◌≡◌, ◌⊎◌, ℕ, ◌+◌, ◌<◌, ◌≤◌, ◌^◌, List, [], ◌∷◌, ◌++◌, length, Bool, true, false, not}
use Rattle.std.specs.Prelude.{◌&&◌, ◌==◌, nat_lt, nat_le, if◌then◌else◌, Option, None, Some, option_map}
use Rattle.std.specs.Prelude.{option_and_then, Result, Ok, Err, codes, decimal}
use Rattle.std.specs.Fmt.{signed_decimal}
use Rattle.std.specs.List.{join_with_byte, slice_split, list_all, list_any}
use Rattle.std.specs.Str.{bytes_eq}
use Rattle.lock_word.specs.declared.Split.{Split}
use Rattle.lock_word.specs.declared.Split.TheVariants.{Wide, Deep}
use Rattle.lock_word.specs.Layout.{greatest_index}
use Rattle.script_text.specs.declared.lines.Line.{Line}
use Rattle.script_text.specs.declared.lines.Line.TheVariants.{World, Object, Step}
use Rattle.script_text.specs.declared.lines.StepLine.{StepLine}
use Rattle.script_text.specs.declared.lines.StepLine.TheVariants.{Attach, Begin, Go, Expire, Spurious, Tick, Relayout}
use Rattle.script_text.specs.declared.lines.Call.{Call}
use Rattle.script_text.specs.declared.lines.Call.TheVariants.{Enter, Exit, Wait, Notify, NotifyAll, Holds, Interrupt}
use Rattle.script_text.specs.declared.lines.Call.TheVariants.{Interrupted, IsInterrupted, End}
use Rattle.script_text.specs.Words.{IsBelow, is_name, name_from, number_from, signed_from, nanos_from, low_text}
use Rattle.script_text.specs.Words.{low_from}

-- ---- the text

abbrev pub call_words : Call → List (List ℕ)
call_words (Enter object) = codes "enter" ∷ object ∷ []
call_words (Exit object) = codes "exit" ∷ object ∷ []
call_words (Wait object millis nanos) =
    codes "wait" ∷ object ∷ signed_decimal millis ∷ signed_decimal nanos ∷ []
call_words (Notify object) = codes "notify" ∷ object ∷ []
call_words (NotifyAll object) = codes "notifyall" ∷ object ∷ []
call_words (Holds object) = codes "holds" ∷ object ∷ []
call_words (Interrupt target) = codes "interrupt" ∷ target ∷ []
call_words Interrupted = codes "interrupted" ∷ []
call_words (IsInterrupted target) = codes "isinterrupted" ∷ target ∷ []
call_words End = codes "end" ∷ []

abbrev pub split_name : Split → List ℕ
split_name Wide = codes "wide"
split_name Deep = codes "deep"

abbrev pub step_words : StepLine → List (List ℕ)
step_words (Attach thread) = codes "attach" ∷ thread ∷ []
step_words (Begin thread call) = codes "begin" ∷ thread ∷ call_words call
step_words (Go thread) = codes "go" ∷ thread ∷ []
step_words (Expire thread) = codes "expire" ∷ thread ∷ []
step_words (Spurious thread) = codes "spurious" ∷ thread ∷ []
step_words (Tick now) = codes "tick" ∷ decimal now ∷ []
step_words (Relayout split) = codes "relayout" ∷ split_name split ∷ []

-- the wide split is not named
abbrev pub split_words : Split → List (List ℕ)
split_words Wide = []
split_words Deep = codes "deep" ∷ []

abbrev pub line_words : Line → List (List ℕ)
line_words (World monitors indices split) = codes "world" ∷ decimal monitors ∷ decimal indices ∷ split_words split
line_words (Object name low) = codes "object" ∷ name ∷ low_text low ∷ []
line_words (Step step) = step_words step

-- words with one space between them
abbrev pub line_text : Line → List ℕ
line_text l = join_with_byte 32 (line_words l)

-- each line is ended by a line feed
abbrev pub script_text : List Line → List ℕ
script_text [] = []
script_text (l ∷ ls) = line_text l ++ (10 ∷ script_text ls)

-- ---- the rules

abbrev pub CallFits : Call → Type 0
CallFits (Enter object) = is_name object ≡ true
CallFits (Exit object) = is_name object ≡ true
CallFits (Wait object millis nanos) =
    (is_name object ≡ true) × IsBelow (2 ^ 63) millis × IsBelow (2 ^ 31) nanos
CallFits (Notify object) = is_name object ≡ true
CallFits (NotifyAll object) = is_name object ≡ true
CallFits (Holds object) = is_name object ≡ true
CallFits (Interrupt target) = is_name target ≡ true
CallFits Interrupted = Unit {0}
CallFits (IsInterrupted target) = is_name target ≡ true
CallFits End = Unit {0}

abbrev pub StepFits : StepLine → Type 0
StepFits (Attach thread) = is_name thread ≡ true
StepFits (Begin thread call) = (is_name thread ≡ true) × CallFits call
StepFits (Go thread) = is_name thread ≡ true
StepFits (Expire thread) = is_name thread ≡ true
StepFits (Spurious thread) = is_name thread ≡ true
StepFits (Tick now) = now < 2 ^ 64
StepFits (Relayout split) = Unit {0}

-- what a line can say
abbrev pub Fits : Line → Type 0
Fits (World monitors indices split) = (monitors ≤ 8388608) × (1 ≤ indices) × (indices ≤ greatest_index split)
Fits (Object name low) = (is_name name ≡ true) × (low < 256)
Fits (Step step) = StepFits step

abbrev pub is_world : Line → Bool
is_world (World monitors indices split) = true
is_world (Object name low) = false
is_world (Step step) = false

abbrev pub is_object : Line → Bool
is_object (World monitors indices split) = false
is_object (Object name low) = true
is_object (Step step) = false

abbrev pub is_object_named : List ℕ → Line → Bool
is_object_named n (World monitors indices split) = false
is_object_named n (Object name low) = bytes_eq n name
is_object_named n (Step step) = false

-- after the first line and these: an object stands directly after them, and has a new name
abbrev pub may_stand : List Line → Line → Bool
may_stand more (World monitors indices split) = false
may_stand more (Object name low) =
    list_all is_object more && not (list_any (is_object_named name) more)
    && nat_lt (length more) 65535
may_stand more (Step step) = true

abbrev pub may_follow : List Line → Line → Bool
may_follow [] l = is_world l
may_follow (first ∷ more) l = may_stand more l

-- these lines, after the earlier ones
abbrev pub Continues : List Line → List Line → Type 0
Continues earlier [] = Unit {0}
Continues earlier (l ∷ ls) =
    Fits l × (may_follow earlier l ≡ true) × Continues (earlier ++ l ∷ []) ls

abbrev pub IsScript : List Line → Type 0
IsScript ls = (0 < length ls) × Continues [] ls

-- The longest beginning that keeps the rules: right lines, and what is left begins with no line that may follow them.
pub record IsBeginning (bytes : List ℕ) (ls : List Line) (rest : List ℕ) : Type 0 where
  pub right : Continues [] ls
  pub parts : bytes ≡ script_text ls ++ rest
  pub stuck : (l : Line) (after : List ℕ) → Fits l → may_follow ls l ≡ true
      → rest ≡ line_text l ++ (10 ∷ after) → ⊥

-- Line n is the first that breaks a rule: right lines stand before it, and what stands there begins
-- with no line that may follow them. Where nothing stands there, the script has no line at all.
pub record IsFirstBad (bytes : List ℕ) (n : ℕ) : Type 0 where
  pub before : List Line
  pub rest : List ℕ
  pub number : n ≡ length before + 1
  pub right : Continues [] before
  pub parts : bytes ≡ script_text before ++ rest
  pub there : 0 < length rest ⊎ before ≡ []
  pub bad : (l : Line) (after : List ℕ) → Fits l → may_follow before l ≡ true
      → rest ≡ line_text l ++ (10 ∷ after) → ⊥

-- ---- reading

abbrev pub call_alone : List ℕ → Option Call
call_alone verb =
    if bytes_eq verb (codes "interrupted") then Some Interrupted
    else (if bytes_eq verb (codes "end") then Some End else None)

-- of an object or a thread
abbrev pub call_with : List ℕ → List ℕ → Option Call
call_with verb name =
    if bytes_eq verb (codes "enter") then Some (Enter name)
    else (if bytes_eq verb (codes "exit") then Some (Exit name)
    else (if bytes_eq verb (codes "notify") then Some (Notify name)
    else (if bytes_eq verb (codes "notifyall") then Some (NotifyAll name)
    else (if bytes_eq verb (codes "holds") then Some (Holds name)
    else (if bytes_eq verb (codes "interrupt") then Some (Interrupt name)
    else (if bytes_eq verb (codes "isinterrupted") then Some (IsInterrupted name) else None))))))

abbrev pub call_naming : List ℕ → List ℕ → Option Call
call_naming verb word = option_and_then (call_with verb) (name_from word)

abbrev pub wait_from : List ℕ → List ℕ → List ℕ → Option Call
wait_from name millis nanos =
    option_and_then
    (λ object. option_and_then (λ m. option_map (Wait object m) (nanos_from nanos)) (signed_from millis))
    (name_from name)

abbrev pub call_timed : List ℕ → List ℕ → List ℕ → List ℕ → Option Call
call_timed verb name millis nanos =
    if bytes_eq verb (codes "wait") then wait_from name millis nanos else None

-- the call that these words are
abbrev pub call_from : List (List ℕ) → Option Call
call_from [] = None
call_from (v ∷ []) = call_alone v
call_from (v ∷ a ∷ []) = call_naming v a
call_from (v ∷ a ∷ b ∷ []) = None
call_from (v ∷ a ∷ b ∷ c ∷ []) = call_timed v a b c
call_from (v ∷ a ∷ b ∷ c ∷ d ∷ more) = None

abbrev pub begin_from : List ℕ → List ℕ → Option Call → Option StepLine
begin_from verb thread call =
    if bytes_eq verb (codes "begin")
    then option_and_then (λ t. option_map (Begin t) call) (name_from thread)
    else None

abbrev pub split_from : List ℕ → Option Split
split_from word =
    if bytes_eq word (codes "wide") then Some Wide else (if bytes_eq word (codes "deep") then Some Deep else None)

abbrev pub step_of_thread : List ℕ → List ℕ → Option StepLine
step_of_thread verb thread =
    if bytes_eq verb (codes "attach") then Some (Attach thread)
    else (if bytes_eq verb (codes "go") then Some (Go thread)
    else (if bytes_eq verb (codes "expire") then Some (Expire thread)
    else (if bytes_eq verb (codes "spurious") then Some (Spurious thread) else None)))

abbrev pub step_of_two : List ℕ → List ℕ → Option StepLine
step_of_two verb word =
    if bytes_eq verb (codes "tick") then option_map Tick (number_from word)
    else (if bytes_eq verb (codes "relayout") then option_map Relayout (split_from word)
    else option_and_then (step_of_thread verb) (name_from word))

abbrev pub world_from : Split → ℕ → ℕ → Option Line
world_from split m k =
    if nat_le m 8388608 && nat_le 1 k && nat_le k (greatest_index split) then Some (World m k split) else None

abbrev pub world_of : Split → List ℕ → List ℕ → Option Line
world_of split monitors indices =
    option_and_then (λ m. option_and_then (world_from split m) (number_from indices)) (number_from monitors)

abbrev pub line_of_three : List ℕ → List ℕ → List ℕ → Option Line
line_of_three verb a b =
    if bytes_eq verb (codes "world")
    then world_of Wide a b
    else (if bytes_eq verb (codes "object")
    then option_and_then (λ name. option_map (Object name) (low_from b)) (name_from a)
    else option_map Step (begin_from verb a (call_alone b)))

abbrev pub line_of_four : List ℕ → List ℕ → List ℕ → List ℕ → Option Line
line_of_four verb a b c =
    if bytes_eq verb (codes "world")
    then (if bytes_eq c (codes "deep") then world_of Deep a b else None)
    else option_map Step (begin_from verb a (call_naming b c))

abbrev pub line_from : List (List ℕ) → Option Line
line_from [] = None
line_from (v ∷ []) = None
line_from (v ∷ a ∷ []) = option_map Step (step_of_two v a)
line_from (v ∷ a ∷ b ∷ []) = line_of_three v a b
line_from (v ∷ a ∷ b ∷ c ∷ []) = line_of_four v a b c
line_from (v ∷ a ∷ b ∷ c ∷ d ∷ []) = None
line_from (v ∷ a ∷ b ∷ c ∷ d ∷ e ∷ []) = option_map Step (begin_from v a (call_timed b c d e))
line_from (v ∷ a ∷ b ∷ c ∷ d ∷ e ∷ f ∷ more) = None

abbrev pub words_of : List ℕ → List (List ℕ)
words_of = slice_split (λ b. b == 32)

abbrev pub parts_of : List ℕ → List (List ℕ)
parts_of = slice_split (λ b. b == 10)

unfoldable pub line_at : List ℕ → Option Line
line_at bytes = line_from (words_of bytes)

-- the line, if it may follow the earlier ones
unfoldable pub next_from : List Line → List ℕ → Option Line
next_from earlier part =
    option_and_then (λ l. if may_follow earlier l then Some l else None) (line_at part)

-- the lines of these parts, after the earlier ones, or the number of the first bad line
unfoldable pub lines_from : List Line → List (List ℕ) → Result (List Line) ℕ
lines_from earlier [] = Ok earlier
lines_from earlier (part ∷ []) =
    if length part == 0 && nat_lt 0 (length earlier) then Ok earlier else Err (length earlier + 1)
lines_from earlier (part ∷ q ∷ parts) =
    elim (next_from earlier part) [
      | None ↦ Err (length earlier + 1)
      | Some l ↦ lines_from (earlier ++ l ∷ []) (q ∷ parts)
    ]
