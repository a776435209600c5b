-- A reader of lines that goes ahead of another.
use Rattle.std.proofs.Common.{◌≡◌, ℕ, List, [], ◌∷◌, ◌++◌, drop, Bool, true, false, ◌&&◌, Option, None, Some, MatchOption, refl, sym, ◌∙◌, subst}
use Rattle.std.specs.List.{list_all}
use Rattle.std.proofs.lemmas.Bool.{and_parts}
use Rattle.script_text.specs.declared.lines.Line.{Line}
use Rattle.script_text.specs.declared.lines.Line.TheVariants.{World, Object, Step}
use Rattle.script_text.specs.Lines.{IsScript, is_object, may_follow, script_text}
use Rattle.script_text.specs.LinesSoFar.{with_object}
use Rattle.script_text.specs.Positions.{HasCome, Position}
use Rattle.script_text.specs.Scripts.{IsScriptText}

-- it stands behind the lines of the other and maybe more, and no object may follow there if none may here
pub record IsAhead (bytes : List ℕ) (names : List (List ℕ)) (here ahead : Position) : Type 0 where
  pub came : List Line
  pub come : HasCome bytes came names ahead
  pub closed : here.declaring ≡ false → ahead.declaring ≡ false

part_by : (first rest more : Bool) → (first && rest) ≡ false → (rest ≡ false → more ≡ false) → (first && more) ≡ false
part_by true rest more h on = on h
part_by false rest more h on = refl

all_part : (p : Line → Bool) (xs ys : List Line) → list_all p xs ≡ false → list_all p (xs ++ ys) ≡ false
all_part p [] ys h = absurd (cc)
all_part p (x ∷ xs) ys h = part_by (p x) (list_all p xs) (list_all p (xs ++ ys)) h (all_part p xs ys)

closed_more : (came : List Line) (l : Line) → list_all is_object (drop 1 came) ≡ false → list_all is_object (drop 1 (came ++ l ∷ [])) ≡ false
closed_more [] l h = absurd (cc)
closed_more (first ∷ more) l h = all_part is_object more (l ∷ []) h

-- one line more
pub ahead_more : (bytes : List ℕ) (names : List (List ℕ)) (here ahead next : Position) (l : Line) → (is : IsAhead bytes names here ahead)
    → HasCome bytes (is.came ++ l ∷ []) names next → IsAhead bytes names here next
ahead_more bytes names here ahead next l is come = record {
  came = is.came ++ l ∷ [];
  come = come;
  closed = λ closed. come.noted.objects ∙ closed_more is.came l (sym is.come.noted.objects ∙ is.closed closed);
}

-- what a reader hands out next, where there is a next line
pub next_line : (bytes : List ℕ) (came : List Line) (names : List (List ℕ)) (next : Position) (found : Option Line) (l : Line)
    → MatchOption found (IsScript came × (bytes ≡ script_text came)) (λ l. (may_follow came l ≡ true) × HasCome bytes (came ++ l ∷ []) (with_object names l) next) → found ≡ Some l
    → (may_follow came l ≡ true) × HasCome bytes (came ++ l ∷ []) (with_object names l) next
next_line bytes came names next found l is there =
    subst (λ (found : Option Line). MatchOption found (IsScript came × (bytes ≡ script_text came)) (λ l. (may_follow came l ≡ true) × HasCome bytes (came ++ l ∷ []) (with_object names l) next)) there is

-- and where there is none
pub no_next_line : (bytes : List ℕ) (came : List Line) (names : List (List ℕ)) (next : Position) (found : Option Line)
    → MatchOption found (IsScript came × (bytes ≡ script_text came)) (λ l. (may_follow came l ≡ true) × HasCome bytes (came ++ l ∷ []) (with_object names l) next) → found ≡ None
    → IsScriptText bytes
no_next_line bytes came names next found is none =
    let whole = subst (λ (found : Option Line). MatchOption found (IsScript came × (bytes ≡ script_text came)) (λ l. (may_follow came l ≡ true) × HasCome bytes (came ++ l ∷ []) (with_object names l) next)) none is in
    (came, whole.0, whole.1)

-- a line that is no object adds no name
pub same_names : (names : List (List ℕ)) (l : Line) → ((name : List ℕ) (low : ℕ) → l ≡ Object name low → ⊥) → with_object names l ≡ names
same_names names (World m k split) other = refl
same_names names (Object name low) other = absurd (other name low refl)
same_names names (Step step) other = refl

no_object : (came : List Line) (name : List ℕ) (low : ℕ) → list_all is_object (drop 1 came) ≡ false → may_follow came (Object name low) ≡ true → ⊥
no_object [] name low closed follows = cc
no_object (first ∷ more) name low closed follows = let all = (and_parts (list_all is_object more) _ (and_parts _ _ follows).0).0 in cc

-- where no object may follow, none does
pub object_ahead : (bytes : List ℕ) (names : List (List ℕ)) (here ahead : Position) (name : List ℕ) (low : ℕ) → (is : IsAhead bytes names here ahead)
    → may_follow is.came (Object name low) ≡ true → here.declaring ≡ false → ⊥
object_ahead bytes names here ahead name low is follows closed = no_object is.came name low (sym is.come.noted.objects ∙ is.closed closed) follows
