-- The header words that are told of strips.
use Rattle.std.proofs.Common.{◌≡◌, ℕ, zero, suc, ◌+◌, List, [], ◌∷◌, length, Some, refl, sym, ap, ◌∙◌, arith, Vec}
use Rattle.std.specs.Prelude.{slice_get, map as list_map}
use Rattle.std.specs.declared.alloc.Global.{Global}
use Rattle.lock_word.specs.declared.Word.{Word}
use Rattle.lock_word.specs.declared.ObjectId.{ObjectId}
use Rattle.step_core.specs.Machine.{State}
use Rattle.step_core.specs.World.{WorldState, word_at}
use Rattle.pictures.specs.declared.picture.Strip.{Strip}
use Rattle.pictures.specs.Pictures.{AreStrips}
use Rattle.pictures.specs.Spans.{word_among, word_in, words_told}
use Rattle.drawing.specs.Columns.{AreWorded, HaveWords, strip_objects}

get_map : {A B : Type 0} (f : A → B) (xs : List A) (k : ℕ) (x : A) → slice_get xs k ≡ Some x → slice_get (list_map f xs) k ≡ Some (f x)
get_map f [] k x e = cc
get_map f (y ∷ xs) zero x e = let same : y ≡ x = cc in ap (λ z. Some (f z)) same
get_map f (y ∷ xs) (suc k) x e = get_map f xs k x e

-- what is told of the strip at position k is the word of the object there
words_behind : (drawn : List ℕ) (k o : ℕ) → slice_get drawn k ≡ Some o → (words : List (Vec Word Global)) (n : ℕ) (rows : List (Vec Word Global))
    → ((i : ℕ) → slice_get words (n + i) ≡ slice_get rows i) → (worlds : List WorldState) → HaveWords drawn worlds rows → (states : List State) → length states ≡ length worlds
    → words_told words k n states ≡ list_map (λ (w : WorldState). Some (word_at w o)) worlds
words_behind drawn k o here words n [] h [] have [] e = refl
words_behind drawn k o here words n [] h [] have (s ∷ states) e = absurd (omega (arith, e))
words_behind drawn k o here words n [] h (w ∷ worlds) have states e = absurd have
words_behind drawn k o here words n (row ∷ rows) h [] have states e = absurd have
words_behind drawn k o here words n (row ∷ rows) h (w ∷ worlds) have [] e = absurd (omega (arith, e))
words_behind drawn k o here words n (row ∷ rows) h (w ∷ worlds) have (s ∷ states) e =
    let at : n ≡ n + 0 = omega arith in
    let first : slice_get words n ≡ Some row = ap (slice_get words) at ∙ h 0 in
    let head : word_in words n k ≡ Some (word_at w o) =
    ap (λ x. word_among x k) first ∙ ap (λ l. slice_get l k) have.0 ∙ get_map (word_at w) drawn k o here in
    let tail = words_behind drawn k o here words (n + 1) rows
    (λ i. let next : n + 1 + i ≡ n + suc i = omega arith in ap (slice_get words) next ∙ h (suc i)) worlds have.1 states (omega (arith, e)) in
    ap (λ x. x ∷ words_told words k (n + 1) states) head ∙ ap (λ l. Some (word_at w o) ∷ l) tail

strips_worded : (drawn : List ℕ) (worlds : List WorldState) (words : List (Vec Word Global)) (states : List State) → HaveWords drawn worlds words → length states ≡ length worlds
    → (k : ℕ) (os : List ℕ) (ps : List Strip) → AreStrips words k states os ps → ((i : ℕ) → slice_get drawn (k + i) ≡ slice_get os i) → AreWorded worlds ps
strips_worded drawn worlds words states have long k [] [] x h = tt
strips_worded drawn worlds words states have long k [] (p ∷ ps) x h = absurd x
strips_worded drawn worlds words states have long k (o ∷ os) [] x h = absurd x
strips_worded drawn worlds words states have long k (o ∷ os) (p ∷ ps) x h =
    let at : k ≡ k + 0 = omega arith in
    let here : slice_get drawn k ≡ Some o = ap (slice_get drawn) at ∙ h 0 in
    let told = words_behind drawn k o here words 0 words (λ i. let same : 0 + i ≡ i = omega arith in ap (slice_get words) same) worlds have states long in (
      x.0.words_are ∙ told ∙ ap (λ (ob : ObjectId). list_map (λ (w : WorldState). Some (word_at w ob.0)) worlds) (sym x.0.object),
      strips_worded drawn worlds words states have long (k + 1) os ps x.1
          (λ i. let next : k + 1 + i ≡ k + suc i = omega arith in ap (slice_get drawn) next ∙ h (suc i)),
    )

strip_numbers : (words : List (Vec Word Global)) (k : ℕ) (states : List State) (os : List ℕ) (ps : List Strip) → AreStrips words k states os ps → strip_objects ps ≡ os
strip_numbers words k states [] [] x = refl
strip_numbers words k states [] (p ∷ ps) x = absurd x
strip_numbers words k states (o ∷ os) [] x = absurd x
strip_numbers words k states (o ∷ os) (p ∷ ps) x =
    ap (λ (ob : ObjectId). ob.0 ∷ strip_objects ps) x.0.object ∙ ap (λ l. o ∷ l) (strip_numbers words (k + 1) states os ps x.1)

pub all_worded : (drawn : List ℕ) (worlds : List WorldState) (words : List (Vec Word Global)) (states : List State) (os : List ℕ) (ps : List Strip)
    → HaveWords drawn worlds words → length states ≡ length worlds → AreStrips words 0 states os ps → strip_objects ps ≡ drawn → AreWorded worlds ps
all_worded drawn worlds words states os ps have long x same =
    let these : drawn ≡ os = sym same ∙ strip_numbers words 0 states os ps x in
    strips_worded drawn worlds words states have long 0 os ps x
    (λ i. let at : 0 + i ≡ i = omega arith in ap (slice_get drawn) at ∙ ap (λ l. slice_get l i) these)
