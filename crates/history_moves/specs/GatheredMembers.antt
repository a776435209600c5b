-- Members that were gathered from the bytes or the tokens of a line, each under its own key.
use Rattle.std.specs.Prelude.{◌≡◌, ℕ, ◌+◌, List, [], ◌∷◌, codes, Option, None, Some, option_map, ◌^◌, nat_lt, if◌then◌else◌, ℤ, pos, decimal}
use Rattle.std.specs.Borrow.{Bor}
use Rattle.json.specs.Token as json
use Rattle.json.specs.Lex.{lex, between, token}
use Rattle.serde_json.specs.Data.{Data, null, number, string, Members, no_members, member, put}
use Rattle.serde_json.specs.Read.{number_of}
use Rattle.lock_word.specs.declared.ThreadId.{ThreadId}
use Rattle.history_moves.specs.Moves.{of_number}
use Rattle.history_moves.specs.Members.{count}
use Rattle.history_moves.specs.Words.{Row}
use Rattle.history_moves.specs.declared.spelled.gathered.GatheredMembers.{GatheredMembers}
use Rattle.history_moves.specs.declared.spelled.gathered.Key.{Key}
use Rattle.history_moves.specs.declared.spelled.gathered.Key.TheVariants as key
use Rattle.history_moves.specs.declared.spelled.gathered.Scalar.{Scalar}
use Rattle.history_moves.specs.declared.spelled.gathered.Scalar.TheVariants as scalar

-- a member, where there is a value
abbrev pub maybe : List ℕ → Option Data → Members → Members
maybe k None ms = ms
maybe k (Some d) ms = member k d ms

abbrev pub members_of : List (Row (Option Data)) → Members
members_of [] = no_members
members_of (r ∷ rs) = maybe r.name r.made (members_of rs)

abbrev pub of_text : Bor (List ℕ) → Data
of_text s = string s.now

abbrev pub of_choice : Option ℕ → Data
of_choice None = null
of_choice (Some n) = of_number n

-- the keys in order, each with the value that was gathered
abbrev pub rows_of : GatheredMembers → List (Row (Option Data))
rows_of g =
    record { name = codes "call"; made = option_map of_text g.verb }
    ∷ record { name = codes "cause"; made = option_map of_text g.cause }
    ∷ record { name = codes "chosen"; made = option_map of_choice g.chosen }
    ∷ record { name = codes "millis"; made = option_map of_number g.millis }
    ∷ record { name = codes "move"; made = option_map of_text g.name }
    ∷ record { name = codes "nanos"; made = option_map of_number g.nanos }
    ∷ record { name = codes "now"; made = option_map of_number g.now }
    ∷ record { name = codes "object"; made = option_map of_number g.object }
    ∷ record { name = codes "reply"; made = option_map of_text g.reply }
    ∷ record { name = codes "target"; made = option_map of_number g.target }
    ∷ record { name = codes "thread"; made = option_map of_number g.thread }
    ∷ []

unfoldable pub members_in : GatheredMembers → Members
members_in g = members_of (rows_of g)

abbrev pub nothing : GatheredMembers
nothing = record {
  count = 0;
  name = None;
  verb = None;
  reply = None;
  cause = None;
  thread = None;
  object = None;
  target = None;
  now = None;
  millis = None;
  nanos = None;
  chosen = None;
}

unfoldable pub IsCounted : GatheredMembers → Type 0
IsCounted g = g.count ≡ count (members_in g)

-- the value that a token is; None of what nests, and of what no move has
abbrev pub token_data : json.Token → Option Data
token_data json.begin_object = None
token_data json.end_object = None
token_data json.begin_array = None
token_data json.end_array = None
token_data (json.key s) = None
token_data (json.string s) = Some (string s)
token_data (json.number s) = option_map number (number_of s)
token_data (json.boolean b) = None
token_data json.null = Some null
token_data json.bad = None

-- ---- keys and values

abbrev pub key_text : Key → List ℕ
key_text key.Thread = codes "thread"
key_text key.Move = codes "move"
key_text key.Call = codes "call"
key_text key.Object = codes "object"
key_text key.Reply = codes "reply"
key_text key.Target = codes "target"
key_text key.Millis = codes "millis"
key_text key.Nanos = codes "nanos"
key_text key.Cause = codes "cause"
key_text key.Chosen = codes "chosen"
key_text key.Now = codes "now"

abbrev pub scalar_data : Scalar → Data
scalar_data (scalar.Text s) = string s.now
scalar_data (scalar.Number n) = of_number n
scalar_data scalar.Null = null

abbrev pub scalar_token : Scalar → json.Token
scalar_token (scalar.Text s) = json.string s.now
scalar_token (scalar.Number n) = json.number (decimal n)
scalar_token scalar.Null = json.null

-- the text begins with this value, and the rest follows it
abbrev pub BeginsWith : List ℕ → Scalar → List ℕ → Type 0
BeginsWith text s rest =
    (lex between text ≡ token (scalar_token s) ∷ lex between rest) × (token_data (scalar_token s) ≡ Some (scalar_data s))

-- ---- one member more

-- 1 where there is no value
abbrev pub lack : {A : Type 0} → Option A → ℕ
lack None = 1
lack (Some a) = 0

-- the field has the value, and where it had none, there is one more
abbrev pub Fills : {A : Type 0} → Option A → A → Option A → ℕ → ℕ → Type 0
Fills old a new m n = (new ≡ Some a) × (n ≡ m + lack old)

-- the value is put among the members, and where the old ones were counted, the new ones are
unfoldable pub Takes : GatheredMembers → List ℕ → Data → GatheredMembers → Type 0
Takes old k d new = (members_in new ≡ put k d (members_in old)) × (IsCounted old → IsCounted new)

-- ---- numbers

-- a number of 32 bits, and one of 63
abbrev pub short : ℕ → Option ℕ
short n = if nat_lt n (2 ^ 32) then Some n else None

abbrev pub short_signed : ℕ → Option ℤ
short_signed n = if nat_lt n (2 ^ 63) then Some (pos n) else None

abbrev pub thread_of : ℕ → ThreadId
thread_of n = record { 0 = n }

abbrev pub choice : Option ℕ → Option (Option ThreadId)
choice None = Some None
choice (Some n) = option_map (λ (u : ThreadId). Some u) (option_map thread_of (short n))
