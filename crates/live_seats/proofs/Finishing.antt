-- What a close hands on: its passes are those of the seat, with those that came back.
use Rattle.std.proofs.Common.{◌≡◌, ◌∙◌, ◌+◌, ℕ, length, length-append, arith, List, [], ◌∷◌, ◌++◌, map, sym, ap, subst, All, Option, Some, None, false}
use lib.ListN.{get_or-append}
use Rattle.std.specs.Prelude.{reverse}
use Rattle.std.proofs.lemmas.List.{append_cancel_right, reverse-append}
use Rattle.std.proofs.lemmas.List.Elements.{All-append}
use Rattle.lock_word.specs.declared.ThreadId.{ThreadId}
use Rattle.header_words.specs.Passes.{Opening}
use Rattle.live_turns.specs.Ways.{PassState, Belongs}
use Rattle.live_turns.specs.Ends.{IsEnd, Disagrees, numbers_of}
use Rattle.live_turns.specs.Numbers.{HasEach}
use Rattle.live_turns.specs.declared.closed.Closed.{Closed}
use Rattle.live_seats.specs.Seats.{SeatState}
use Rattle.live_seats.specs.Ends.{Closes, HasEnded, IsTornSeat, all_passes, thread_of}
use Rattle.live_seats.specs.Unclosed.{IsToldOf, StaysAs}
use Rattle.live_seats.specs.declared.ending.ServiceEnd.{ServiceEnd}
use Rattle.live_seats.specs.declared.ending.Closing.{Closing}
use Rattle.live_seats.specs.declared.ending.Closing.TheVariants.{Done, Others, WrongPass, Memory, Torn}
use Rattle.live_seats.proofs.Passes.{all_of_one}

abbrev head_in : {X : Type 0} → X → List X → X
head_in d [] = d
head_in d (x ∷ xs) = x

abbrev value_in : {X : Type 0} → X → Option X → X
value_in d None = d
value_in d (Some x) = x

-- what was taken out is what was there
pub house_is : {X : Type 0} (r o : Option X) (h z : X) → r ≡ o → r ≡ Some h → o ≡ Some z → h ≡ z
house_is r o h z e f g = ap (value_in z) (sym f ∙ (e ∙ g))

-- what holds of all holds of those before the last
pub all_front : {X : Type 0} (P : X → Type 0) (xs : List X) (x : X) → All P (xs ++ x ∷ []) → All P xs
all_front P xs x h k d lt = subst P (get_or-append xs (x ∷ []) d k lt) (h k d (let e : length (xs ++ x ∷ []) ≡ length xs + 1 = length-append xs (x ∷ []) in omega arith))

-- two lists with their last
pub last_is : {X : Type 0} (xs ys : List X) (x y : X) → xs ++ x ∷ [] ≡ ys ++ y ∷ [] → (xs ≡ ys) × (x ≡ y)
last_is {X} xs ys x y e =
    let turned : x ∷ reverse xs ≡ y ∷ reverse ys = sym (reverse-append xs (x ∷ [])) ∙ (ap reverse e ∙ reverse-append ys (y ∷ [])) in
    let same : x ≡ y = ap (head_in y) turned in
    (append_cancel_right xs ys (y ∷ []) (subst (λ (u : X). xs ++ u ∷ [] ≡ ys ++ y ∷ []) same e), same)

-- all passes, where those that came back are behind those that were left
pub all_are : (rest more ps qs : List PassState) (p : PassState) → ps ≡ rest ++ more → qs ≡ ps ++ p ∷ [] → qs ≡ all_passes rest more p
all_are rest more ps qs p e f = f ∙ ap (λ (u : List PassState). u ++ p ∷ []) e

-- belong to the service
pub all_belong : (z : Opening) (rest more qs : List PassState) (p : PassState) → qs ≡ all_passes rest more p → All (λ (x : PassState). Belongs z false x.holding) rest
    → All (λ (x : PassState). Belongs z false x.holding) more → Belongs z false p.holding → All (λ (x : PassState). Belongs z false x.holding) qs
all_belong z rest more qs p e a b one =
    let P = λ (x : PassState). Belongs z false x.holding in
    subst (All P) (sym e) (All-append P (rest ++ more) (p ∷ []) (All-append P rest more a b) (all_of_one P p one))

-- an end of these passes is one of those
abbrev pub Ends : ℕ → Closed → List ThreadId → Opening → List PassState → Type 0
Ends limit c ts z ps = HasEach z.count (numbers_of ps) × IsEnd z limit ps c × (ts ≡ map thread_of ps)

pub end_moves : (limit : ℕ) (c : Closed) (ts : List ThreadId) (z z' : Opening) (ps qs : List PassState) → z ≡ z' → ps ≡ qs → Ends limit c ts z ps → Ends limit c ts z' qs
end_moves limit c ts z z' ps qs e f has = subst (λ (y : Opening). Ends limit c ts y qs) e (subst (Ends limit c ts z) f has)

abbrev pub Tears : ℕ → Opening → List PassState → Type 0
Tears limit z ps = HasEach z.count (numbers_of ps) × Disagrees z limit ps

pub tear_moves : (limit : ℕ) (z z' : Opening) (ps qs : List PassState) → z ≡ z' → ps ≡ qs → Tears limit z ps → Tears limit z' qs
tear_moves limit z z' ps qs e f has = subst (λ (y : Opening). Tears limit y qs) e (subst (Tears limit z) f has)

-- what is told of all passes is told of the seat that has them
pub told_stays : (t : Closing) (count : ℕ) (rest more qs r : List PassState) (p q : PassState) → qs ≡ all_passes rest more p → qs ≡ r ++ q ∷ [] → IsToldOf t count qs → StaysAs t count p rest r
told_stays Done count rest more qs r p q e f told = absurd told
told_stays Others count rest more qs r p q e f told = absurd told
told_stays WrongPass count rest more qs r p q e f told =
    (more, (last_is r (rest ++ more) q p (sym f ∙ e)).0, subst (IsToldOf WrongPass count) e told)
told_stays Memory count rest more qs r p q e f told = (more, (last_is r (rest ++ more) q p (sym f ∙ e)).0)
told_stays Torn count rest more qs r p q e f told = absurd told

pub rest_belongs : (z : Opening) (rest more r : List PassState) (p q : PassState) → r ++ q ∷ [] ≡ all_passes rest more p → All (λ (x : PassState). Belongs z false x.holding) rest
    → All (λ (x : PassState). Belongs z false x.holding) more → All (λ (x : PassState). Belongs z false x.holding) r
rest_belongs z rest more r p q e a b =
    let P = λ (x : PassState). Belongs z false x.holding in
    subst (All P) (sym (last_is r (rest ++ more) q p e).0) (All-append P rest more a b)

-- the seat that stays
abbrev pub seat_of : Opening → ℕ → PassState → List PassState → SeatState
seat_of z limit p rest = record { opening = z; limit = limit; pass = p; rest = rest }

pub stays_closes : (t : Closing) (z z' : Opening) (limit : ℕ) (p p' : PassState) (rest r : List PassState) → z' ≡ z → p' ≡ p → StaysAs t z.count p rest r
    → Closes (seat_of z limit p rest) t (Some (seat_of z' limit p' r)) None
stays_closes Done z z' limit p p' rest r e f stays = stays
stays_closes Others z z' limit p p' rest r e f stays = ap (λ (y : Opening). seat_of y limit p' r) e ∙ (ap (λ (y : PassState). seat_of z limit y r) f ∙ ap (seat_of z limit p) stays)
stays_closes WrongPass z z' limit p p' rest r e f stays =
    (stays.0, ap (λ (y : Opening). seat_of y limit p' r) e ∙ (ap (λ (y : PassState). seat_of z limit y r) f ∙ ap (seat_of z limit p) stays.1), stays.2)
stays_closes Memory z z' limit p p' rest r e f stays =
    (stays.0, ap (λ (y : Opening). seat_of y limit p' r) e ∙ (ap (λ (y : PassState). seat_of z limit y r) f ∙ ap (seat_of z limit p) stays.1))
stays_closes Torn z z' limit p p' rest r e f stays = stays

-- the service of the seat has ended, or a pass of it is torn
pub ended : (s : SeatState) (rest more : List PassState) (e : ServiceEnd) → rest ≡ s.rest → Ends s.limit e.closed e.threads.items s.opening (all_passes rest more s.pass) → HasEnded s e
ended s rest more e same has =
    let here = subst (λ (r : List PassState). Ends s.limit e.closed e.threads.items s.opening (all_passes r more s.pass)) same has in
    record { more = more; each = here.0; end = here.1; threads = here.2 }

pub torn_seat : (s : SeatState) (rest more : List PassState) → rest ≡ s.rest → Tears s.limit s.opening (all_passes rest more s.pass) → IsTornSeat s
torn_seat s rest more same has =
    let here = subst (λ (r : List PassState). Tears s.limit s.opening (all_passes r more s.pass)) same has in
    record { more = more; each = here.0; disagrees = here.1 }
