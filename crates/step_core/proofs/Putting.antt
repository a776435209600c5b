-- Numbers that are put behind others, one part after another.
use Rattle.std.specs.Prelude.{◌≡◌, ◌<◌, ◌≤◌, ℕ, ◌+◌, suc, List, [], ◌∷◌, ◌++◌, length, Option, None}
use Rattle.std.proofs.Common.{refl, add-one, ap, sym, ◌∙◌, subst, get_or, drop}
use Rattle.std.proofs.Math.Seq.{drop-cons}
use Rattle.std.proofs.lemmas.List.{append_assoc, append-nil, drop_all}
use Rattle.lock_word.specs.declared.ThreadId.{ThreadId}
use Rattle.lock_word.specs.declared.Word.{Word}
use Rattle.fat_monitor.specs.FatState.{FatState}
use Rattle.fat_monitor.specs.Numbers.{BeginsWith}
use Rattle.fat_monitor.proofs.Fronts.{front_more, front_then}
use Rattle.thread_index.specs.Indices.{holder_at}
use Rattle.step_core.specs.declared.places.Place.{Place}
use Rattle.step_core.specs.World.{WorldState}
use Rattle.step_core.specs.Numbers.{berths_numbers, holder_numbers, place_numbers, words_numbers}

pub front_put : (xs ys zs more : List ℕ) → more ≡ ys ++ zs → BeginsWith ys xs → BeginsWith more xs
front_put xs ys zs more e a = front_then xs ys more a (subst (λ (l : List ℕ). BeginsWith l ys) (sym e) (front_more ys zs))

-- the next word of a row
pub put_word : (words : List Word) (i n : ℕ) (d : Word) (before more whole : List ℕ) → i < length words → n ≡ (get_or words i d).0 → more ≡ before ++ n ∷ []
    → before ++ words_numbers (drop i words) ≡ whole → more ++ words_numbers (drop (i + 1) words) ≡ whole
put_word words i n d before more whole lt is m h =
    let e : words_numbers (drop i words) ≡ n ∷ words_numbers (drop (i + 1) words) = rw (add-one, drop-cons words i d) (ap (λ (k : ℕ). k ∷ words_numbers (drop (suc i) words)) (sym is)) in
    ap (λ (l : List ℕ). l ++ words_numbers (drop (i + 1) words)) m ∙ (append_assoc before (n ∷ []) (words_numbers (drop (i + 1) words)) ∙ (ap (λ (l : List ℕ). before ++ l) (sym e) ∙ h))

pub all_words : (words : List Word) (i : ℕ) (before whole : List ℕ) → length words ≤ i → before ++ words_numbers (drop i words) ≡ whole → before ≡ whole
all_words words i before whole le h = sym (append-nil before) ∙ (ap (λ (l : List Word). before ++ words_numbers l) (sym (drop_all i words le)) ∙ h)

-- the next berth with its place
pub put_berth : (f : FatState) (hs : List (Option ThreadId)) (ps : List Place) (i : ℕ) (d : Place) (before between more whole : List ℕ) → i < length hs → i < length ps
    → between ≡ before ++ holder_numbers f (holder_at hs i) → more ≡ between ++ place_numbers (get_or ps i d) → before ++ berths_numbers f (drop i hs) (drop i ps) ≡ whole
    → more ++ berths_numbers f (drop (i + 1) hs) (drop (i + 1) ps) ≡ whole
put_berth f hs ps i d before between more whole here there b m h =
    let held : List ℕ = holder_numbers f (holder_at hs i) in
    let placed : List ℕ = place_numbers (get_or ps i d) in
    let rest : List ℕ = berths_numbers f (drop (i + 1) hs) (drop (i + 1) ps) in
    let e : berths_numbers f (drop i hs) (drop i ps) ≡ held ++ (placed ++ rest) = rw (add-one, drop-cons hs i None, drop-cons ps i d) refl in
    ap (λ (l : List ℕ). l ++ rest) (m ∙ ap (λ (l : List ℕ). l ++ placed) b) ∙ (append_assoc (before ++ held) placed rest ∙ (append_assoc before held (placed ++ rest)
    ∙ (ap (λ (l : List ℕ). before ++ l) (sym e) ∙ h)))

-- each place has a berth
pub berth_there : (w v : WorldState) (ps : List Place) (i : ℕ) → i < length ps → ps ≡ w.places → length w.places ≡ length w.berths → w ≡ v → i < length v.berths
berth_there w v ps i lt is berthed same =
    subst (λ (x : WorldState). i < length x.berths) same (subst (λ (n : ℕ). i < n) berthed (subst (λ (l : List Place). i < length l) is lt))
