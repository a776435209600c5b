-- Passes in no call, as turns have them.
use Rattle.std.proofs.Common.{◌≡◌, ◌+◌, ◌<◌, ℕ, zero, suc, List, [], ◌∷◌, ◌++◌, All, false, map, length, slice_index_or, reverse, refl, sym, ap, ◌∙◌, subst, arith}
use Rattle.std.proofs.lemmas.List.{reverse-append, length-map}
use Rattle.std.proofs.lemmas.List.Elements.{All-map, All-append}
use Rattle.header_words.specs.Passes.{Opening, new_passes}
use Rattle.step_core.specs.declared.paths.Point.{Point}
use Rattle.live_turns.proofs.Rows.{moved_over, length-new_passes}
use Rattle.live_turns.specs.Numbers.{HasEach, HasNumbers}
use Rattle.live_turns.specs.declared.closed.TurnsClose.{TurnsClose}
use Rattle.live_turns.specs.declared.closed.TurnsClose.TheVariants as fault
use Rattle.live_turns.specs.Ends.{TellsEnd, numbers_of as numbers_of_states}
use Rattle.live_turns.specs.Ways.{Belongs, Holding, PassState, new_holding}
use Rattle.live_threads.specs.declared.driving.Work.{Work}
use Rattle.live_threads.specs.declared.driving.Worked.{Worked}
use Rattle.live_threads.specs.Calls.{IsAtRest}
use Rattle.live_threads.specs.Ends.{at_rest, numbers_of}

pub same_numbers : (ps : List Holding) → numbers_of_states (map at_rest ps) ≡ numbers_of ps
same_numbers [] = refl
same_numbers (p ∷ ps) = ap (λ (ns : List ℕ). p.words.index ∷ ns) (same_numbers ps)

pub each_state : (count : ℕ) (ps : List Holding) (ts : List PassState) → ts ≡ map at_rest ps → HasEach count (numbers_of ps) → HasEach count (numbers_of_states ts)
each_state count ps ts same each = subst (HasEach count) (sym (ap numbers_of_states same ∙ same_numbers ps)) each

pub belong_states : (z : Opening) (ps : List Holding) (ts : List PassState) → ts ≡ map at_rest ps → All IsAtRest ts → All (λ p. p.words.opening ≡ z) ps → All (λ t. Belongs z false t.holding) ts
belong_states z ps ts same rest all = λ k d lt. (opened k d lt, (rest k d lt).1)
  where
    opened : All (λ (t : PassState). t.holding.words.opening ≡ z) ts
    opened = subst (All (λ (t : PassState). t.holding.words.opening ≡ z)) (sym same) (All-map (λ (t : PassState). t.holding.words.opening ≡ z) at_rest ps all)

pub holdings_again : (ps : List Holding) (ts us : List PassState) → ts ≡ map at_rest ps → us ≡ ts → map (λ (t : PassState). t.holding) us ≡ ps
holdings_again ps ts us same back = ap (map (λ (t : PassState). t.holding)) (back ∙ same) ∙ again ps
  where
    again : (xs : List Holding) → map (λ (t : PassState). t.holding) (map at_rest xs) ≡ xs
    again [] = refl
    again (x ∷ xs) = ap (λ (l : List Holding). x ∷ l) (again xs)

-- the passes that are taken apart so far, with one more
pub one_more : (ps qs : List Holding) (p : Holding) (t : PassState) (ts us : List PassState) (all : List PassState) → ps ≡ qs ++ p ∷ [] → t.holding ≡ p → IsAtRest t → us ≡ ts ++ t ∷ []
    → map at_rest ps ++ reverse ts ≡ all → map at_rest qs ++ reverse us ≡ all
one_more ps qs p t ts us all split same rest more row =
    ap (λ (l : List PassState). map at_rest qs ++ reverse l) (more ∙ ap (λ (x : PassState). ts ++ x ∷ []) is) ∙ moved_over at_rest ps qs p ts all split row
  where
    is : t ≡ at_rest p
    is = ap (λ (x : Point). record { holding = t.holding; point = x }) rest.0 ∙ ap at_rest same

pub all_more : (t : PassState) (ts us : List PassState) → IsAtRest t → us ≡ ts ++ t ∷ [] → All IsAtRest ts → All IsAtRest us
all_more t ts us rest more all = subst (All IsAtRest) (sym more) (All-append IsAtRest ts (t ∷ []) all (one t rest))
  where
    one : (x : PassState) → IsAtRest x → All IsAtRest (x ∷ [])
    one x r zero d lt = r
    one x r (suc k) d lt = absurd (omega (arith, lt))

pub all_back : (ts : List PassState) → All IsAtRest ts → All IsAtRest (reverse ts)
all_back [] all = all
all_back (t ∷ ts) all = all_more t (reverse ts) (reverse (t ∷ ts)) (all zero t (omega arith)) (reverse-append (t ∷ []) ts) (all_back ts (λ k d lt. all (suc k) d (omega (arith, lt))))

pub each_at : (m n : ℕ) (xs ys : List Holding) → m ≡ n → xs ≡ ys → HasEach m (numbers_of xs) → HasEach n (numbers_of ys)
each_at m n xs ys same rows each = subst (λ (k : ℕ). HasEach k (numbers_of ys)) same (subst (λ (ps : List Holding). HasEach m (numbers_of ps)) rows each)

-- the turns were not closed for want of a pass
abbrev pub IsMissing : {L : Type 0} → TurnsClose L → Type 0
IsMissing (fault.WrongPass t p) = Unit {0}
IsMissing (fault.Memory t p) = ⊥
IsMissing fault.Torn = ⊥

pub no_wrong : {L : Type 0} (z w : Opening) (ps : List Holding) (ts : List PassState) (e f : TurnsClose L) → w ≡ z → ts ≡ map at_rest ps → f ≡ e → IsMissing e → HasEach z.count (numbers_of ps) → TellsEnd w.count ts f → ⊥
no_wrong {L} z w ps ts e f here same is missing each tells =
    told e missing (subst (TellsEnd z.count ts) is (subst (λ (o : Opening). TellsEnd o.count ts f) here tells))
  where
    told : (x : TurnsClose L) → IsMissing x → TellsEnd z.count ts x → ⊥
    told (fault.WrongPass t p) missing lacks = lacks (each_state z.count ps ts same each)
    told (fault.Memory t p) missing lacks = absurd missing
    told fault.Torn missing lacks = absurd missing

-- new passes have the numbers from 1 on, each once
abbrev new_numbers : Opening → ℕ → ℕ → List ℕ
new_numbers z i n = numbers_of (map new_holding (new_passes z i n))

new_number : (z : Opening) (i n k d : ℕ) → k < n → slice_index_or (new_numbers z i n) k d ≡ i + k
new_number z i zero k d lt = absurd (omega arith)
new_number z i (suc n) zero d lt = omega arith
new_number z i (suc n) (suc k) d lt = new_number z (suc i) n k d (omega arith) ∙ omega arith

as_many : (z : Opening) (i n : ℕ) → length (new_numbers z i n) ≡ n
as_many z i n =
    length-map (map new_holding (new_passes z i n)) (λ (p : Holding). p.words.index) ∙ (length-map (new_passes z i n) new_holding ∙ length-new_passes z i n)

numbers_there : (z : Opening) (count : ℕ) → HasNumbers count (new_numbers z 1 count)
numbers_there z count zero low high = absurd (omega arith)
numbers_there z count (suc k) low high =
    (k, subst (λ n. k < n) (sym (as_many z 1 count)) (omega arith), new_number z 1 count k (suc k) (omega arith) ∙ omega arith)

numbers_of_works : {L : Type 0} (ws : List (Work L)) → map (λ w. w.pass.words.index) ws ≡ numbers_of (map (λ w. w.pass) ws)
numbers_of_works [] = refl
numbers_of_works (w ∷ ws) = ap (λ (ns : List ℕ). w.pass.words.index ∷ ns) (numbers_of_works ws)

numbers_of_worked : {L : Type 0} (ds : List (Worked L)) → numbers_of (map (λ d. d.pass) ds) ≡ map (λ d. d.pass.words.index) ds
numbers_of_worked [] = refl
numbers_of_worked (d ∷ ds) = ap (λ (ns : List ℕ). d.pass.words.index ∷ ns) (numbers_of_worked ds)

-- The passes that `drive` gives back are all there, where the works had all new ones.
pub each_is_back : {L : Type 0} (z : Opening) (count : ℕ) (ws : List (Work L)) (ds : List (Worked L)) (ps : List Holding) → map (λ w. w.pass) ws ≡ map new_holding (new_passes z 1 count)
    → map (λ d. d.pass.words.index) ds ≡ map (λ w. w.pass.words.index) ws → ps ≡ map (λ d. d.pass) ds → HasEach count (numbers_of ps)
each_is_back z count ws ds ps new same back =
    subst (HasEach count) (sym (ap numbers_of back ∙ (numbers_of_worked ds ∙ (same ∙ (numbers_of_works ws ∙ ap numbers_of new))))) (as_many z 1 count, numbers_there z count)
