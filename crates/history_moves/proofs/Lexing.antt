-- A line that is read from its bytes has the tokens that JSON's lexer makes of it.
use Rattle.std.proofs.Common.{◌≡◌, ℕ, suc, ◌-◌, ◌<◌, ◌≤◌, ◌^◌, List, [], ◌∷◌, ◌++◌, length, true, Option, Some, refl, sym, ap, ◌∙◌, subst, arith, codes, decimal}
use Rattle.json.specs.Token.{Token}
use Rattle.json.specs.Token as json
use Rattle.json.specs.Text.{content, plain}
use Rattle.json.specs.Word.{ends_word, word}
use Rattle.json.specs.Lex.{Lexeme, token, comma, colon, class, space, lex_byte, between, in_string, lex, string_token, Place, fresh, after_value, after_comma, after_key, may_begin, punctuate, tokens}
use Rattle.json.specs.Print.{escape, escape_byte}
use Rattle.json.specs.Json.{value, members, read_key}
use Rattle.json.proofs.Printed.Strings.{content-escape, lex-escape}
use Rattle.json.proofs.Printed.Numbers.{in_word-ended, lex-number}
use Rattle.json.proofs.Printed.Decimals.{IsNumber-decimal}
use Rattle.serde_json.specs.Data.{Members, no_members}
use Rattle.serde_json.specs.Read.{of_members, converted}
use Rattle.history_moves.specs.GatheredMembers.{members_in, nothing, IsCounted, Takes, token_data, key_text, scalar_data, scalar_token, BeginsWith}
use Rattle.history_moves.specs.declared.spelled.gathered.GatheredMembers.{GatheredMembers}
use Rattle.history_moves.specs.declared.spelled.gathered.Key.{Key}
use Rattle.history_moves.specs.declared.spelled.gathered.Key.TheVariants as key
use Rattle.history_moves.specs.declared.spelled.gathered.Scalar.{Scalar}
use Rattle.history_moves.specs.declared.spelled.gathered.Scalar.TheVariants as scalar
use Rattle.history_moves.proofs.GatheredLaws.{nothing_in, nothing_counted}
use Rattle.history_moves.proofs.TokenLaws.{one_member, no_member_more}

-- ---- lexemes

pub blank_passed : (x : ℕ) (xs : List ℕ) → class x ≡ space → lex between (x ∷ xs) ≡ lex between xs
unfolding lex
blank_passed x xs blank = ap (λ c. lex_byte between c x xs (λ m. lex m xs)) blank

pub nothing_lexed : (xs : List ℕ) → length xs ≡ 0 → lex between xs ≡ []
unfolding lex
nothing_lexed [] none = refl
nothing_lexed (x ∷ xs) none = absurd (omega (arith, none))

-- a word that needs no escape, up to its quotation mark
pub string_lexed : (xs w rest : List ℕ) → xs ≡ w ++ 34 ∷ rest → escape w ≡ w → lex between (34 ∷ xs) ≡ token (json.string w) ∷ lex between rest
unfolding lex
string_lexed xs w rest text same =
    let all : xs ≡ escape w ++ 34 ∷ rest = text ∙ ap (λ (v : List ℕ). v ++ 34 ∷ rest) (sym same) in
    ap (λ (o : Option (List ℕ)). token (string_token o) ∷ lex in_string xs) (ap (content plain) all ∙ content-escape w rest)
    ∙ ap (λ (ls : List Lexeme). token (json.string w) ∷ ls) (ap (lex in_string) all ∙ lex-escape w rest)

key_plain : (k : Key) → escape (key_text k) ≡ key_text k
unfolding escape_byte
key_plain key.Thread = refl
key_plain key.Move = refl
key_plain key.Call = refl
key_plain key.Object = refl
key_plain key.Reply = refl
key_plain key.Target = refl
key_plain key.Millis = refl
key_plain key.Nanos = refl
key_plain key.Cause = refl
key_plain key.Chosen = refl
key_plain key.Now = refl

pub key_lexed : (xs rest : List ℕ) (k : Key) → xs ≡ key_text k ++ 34 ∷ rest → lex between (34 ∷ xs) ≡ token (json.string (key_text k)) ∷ lex between rest
key_lexed xs rest k text = string_lexed xs (key_text k) rest text (key_plain k)

pub number_lexed : (xs rest : List ℕ) (n : ℕ) → xs ≡ decimal n ++ rest → n < 2 ^ 64 → ends_word rest ≡ true → lex between xs ≡ token (json.number (decimal n)) ∷ lex between rest
number_lexed xs rest n text small ends = ap (lex between) text ∙ lex-number (decimal n) rest (IsNumber-decimal n small) ends

pub null_lexed : (xs rest : List ℕ) → xs ≡ codes "null" ++ rest → ends_word rest ≡ true → lex between xs ≡ token json.null ∷ lex between rest
unfolding lex word
null_lexed xs rest text ends = ap (lex between) text ∙ rw (ends) (ap (λ (ls : List Lexeme). token json.null ∷ ls) (in_word-ended rest ends))

pub comma_lexed : (xs rest : List ℕ) → xs ≡ codes "," ++ rest → lex between xs ≡ comma ∷ lex between rest
unfolding lex
comma_lexed xs rest text = ap (lex between) text

pub colon_lexed : (xs rest : List ℕ) → xs ≡ codes ":" ++ rest → lex between xs ≡ colon ∷ lex between rest
unfolding lex
colon_lexed xs rest text = ap (lex between) text

pub begin_lexed : (xs rest : List ℕ) → xs ≡ codes "{" ++ rest → lex between xs ≡ token json.begin_object ∷ lex between rest
unfolding lex
begin_lexed xs rest text = ap (lex between) text

pub end_lexed : (xs rest : List ℕ) → xs ≡ codes "}" ++ rest → lex between xs ≡ token json.end_object ∷ lex between rest
unfolding lex
end_lexed xs rest text = ap (lex between) text

-- ---- tokens

key_tokens : (p : Place) (k : List ℕ) (ls : List Lexeme) → may_begin p ≡ true → punctuate p (token (json.string k) ∷ colon ∷ ls) ≡ json.key k ∷ punctuate fresh ls
unfolding punctuate
key_tokens fresh k ls may = refl
key_tokens after_value k ls may = absurd (cc)
key_tokens after_comma k ls may = refl
key_tokens after_key k ls may = absurd (cc)

comma_tokens : (s : Scalar) (ls : List Lexeme) → punctuate fresh (token (scalar_token s) ∷ comma ∷ ls) ≡ scalar_token s ∷ punctuate after_comma ls
unfolding punctuate
comma_tokens (scalar.Text s) ls = refl
comma_tokens (scalar.Number n) ls = refl
comma_tokens scalar.Null ls = refl

end_tokens : (s : Scalar) → punctuate fresh (token (scalar_token s) ∷ token json.end_object ∷ []) ≡ scalar_token s ∷ json.end_object ∷ []
unfolding punctuate
end_tokens (scalar.Text s) = refl
end_tokens (scalar.Number n) = refl
end_tokens scalar.Null = refl

pub object_tokens : (text start : List ℕ) → lex between text ≡ token json.begin_object ∷ lex between start → tokens text ≡ json.begin_object ∷ punctuate fresh (lex between start)
unfolding punctuate
object_tokens text start begins = ap (punctuate fresh) begins

-- ---- the members that were read so far

abbrev all_of : List ℕ → Option (Members × List Token)
all_of start =
    converted (λ ms. of_members ms no_members)
    (members (value 126) (length (punctuate fresh (lex between start))) (punctuate fresh (lex between start)))

-- what stands behind the brace, what is left of it, and the members between
pub record SoFar (start rest : List ℕ) (g : GatheredMembers) : Type 0 where
  pub place : Place
  pub begins : may_begin place ≡ true
  pub fuel : ℕ
  pub enough : length (punctuate place (lex between rest)) ≤ fuel
  pub same : all_of start ≡ converted (λ ms. of_members ms (members_in g)) (members (value 126) fuel (punctuate place (lex between rest)))
  pub counted : IsCounted g

pub begun : (start : List ℕ) (g : GatheredMembers) → g ≡ nothing → SoFar start start g
begun start g none =
    let ts = punctuate fresh (lex between start) in
    let empty : members_in g ≡ no_members = ap members_in none ∙ nothing_in in
    record {
      place = fresh;
      begins = refl;
      fuel = length ts;
      enough = omega arith;
      same = ap (λ (found : Members). converted (λ ms. of_members ms found) (members (value 126) (length ts) ts)) (sym empty);
      counted = subst IsCounted (sym none) nothing_counted;
    }

-- a key and its value, which stand first in what is left
record Turn (start : List ℕ) (r : List Token) (h : GatheredMembers) : Type 0 where
  fuel : ℕ
  enough : length r ≤ fuel
  same : all_of start ≡ converted (λ ms. of_members ms (members_in h)) (members (value 126) fuel r)
  counted : IsCounted h

turn : (start rest after : List ℕ) (g h : GatheredMembers) (k : List ℕ) (s : Scalar) (ls : List Lexeme) (r : List Token) → SoFar start rest g
    → lex between rest ≡ token (json.string k) ∷ colon ∷ lex between after → lex between after ≡ token (scalar_token s) ∷ ls
    → punctuate fresh (token (scalar_token s) ∷ ls) ≡ scalar_token s ∷ r
    → token_data (scalar_token s) ≡ Some (scalar_data s) → Takes g k (scalar_data s) h → Turn start r h
unfolding Takes
turn start rest after g h k s ls r so key_is value_is tokens data_is takes =
    let t = scalar_token s in
    let all : punctuate so.place (lex between rest) ≡ json.key k ∷ t ∷ r =
    ap (punctuate so.place) (key_is ∙ ap (λ (l : List Lexeme). token (json.string k) ∷ colon ∷ l) value_is)
    ∙ key_tokens so.place k (token t ∷ ls) so.begins ∙ ap (λ (l : List Token). json.key k ∷ l) tokens in
    let size : length (punctuate so.place (lex between rest)) ≡ suc (suc (length r)) = ap length all in
    record {
      fuel = so.fuel - 1;
      enough = omega (arith, so.enough, size);
      same = so.same ∙ one_member (members_in g) so.fuel k t (punctuate so.place (lex between rest)) (t ∷ r) r (scalar_data s) (omega (arith, so.enough, size)) (ap read_key all) refl data_is
          ∙ ap (λ (found : Members). converted (λ ms. of_members ms found) (members (value 126) (so.fuel - 1) r)) (sym takes.0);
      counted = takes.1 so.counted;
    }

-- a member with a comma behind it
pub one_more : (start rest after behind more : List ℕ) (g h : GatheredMembers) (k : List ℕ) (s : Scalar) → SoFar start rest g
    → lex between rest ≡ token (json.string k) ∷ colon ∷ lex between after → BeginsWith after s behind → lex between behind ≡ comma ∷ lex between more → Takes g k (scalar_data s) h
    → SoFar start more h
one_more start rest after behind more g h k s so key_is value_is next takes =
    let t = turn start rest after g h k s (comma ∷ lex between more) (punctuate after_comma (lex between more)) so key_is (value_is.0 ∙ ap (λ (l : List Lexeme). token (scalar_token s) ∷ l) next) (comma_tokens s (lex between more)) value_is.1 takes in
    record { place = after_comma; begins = refl; fuel = t.fuel; enough = t.enough; same = t.same; counted = t.counted }

-- the last one
pub last_one : (start rest after behind : List ℕ) (g h : GatheredMembers) (k : List ℕ) (s : Scalar) → SoFar start rest g
    → lex between rest ≡ token (json.string k) ∷ colon ∷ lex between after → BeginsWith after s behind → lex between behind ≡ token json.end_object ∷ [] → Takes g k (scalar_data s) h
    → (all_of start ≡ Some (members_in h, [])) × IsCounted h
last_one start rest after behind g h k s so key_is value_is next takes =
    let t = turn start rest after g h k s (token json.end_object ∷ []) (json.end_object ∷ []) so key_is (value_is.0 ∙ ap (λ (l : List Lexeme). token (scalar_token s) ∷ l) next) (end_tokens s) value_is.1 takes in
    (t.same ∙ no_member_more (members_in h) t.fuel (json.end_object ∷ []) [] t.enough refl, t.counted)
