-- Spans with a column more.
use Rattle.std.proofs.Common.{◌≡◌, ℕ, zero, suc, ◌+◌, ◌-◌, ◌<◌, ◌≤◌, List, [], ◌∷◌, ◌++◌, length, take, drop, get_or, Option, refl, sym, ap, ◌∙◌, subst, arith, append_assoc, length-append, length-take}
use Rattle.std.proofs.Math.ListN.{set}
use Rattle.std.proofs.lemmas.List.{take_more_set}
use Rattle.pictures.proofs.Nexts.{drop_next, same_next, take_next}
use Rattle.std.specs.Prelude.{Vec}
use Rattle.std.specs.declared.alloc.Global.{Global}
use Rattle.lock_word.specs.declared.Word.{Word}
use Rattle.step_core.specs.Machine.{State}
use Rattle.pictures.specs.declared.picture.Strip.{Strip}
use Rattle.pictures.specs.declared.picture.StripSpan.{StripSpan}
use Rattle.pictures.specs.declared.arrows.LastOwner.{LastOwner}
use Rattle.pictures.specs.declared.picture.Arrow.{Arrow}
use Rattle.pictures.specs.Arrows.{hand_over, hand_overs, last_after}
use Rattle.pictures.specs.Spans.{repeated, IsMarkedStrip, AllMarkedStrips, strip_covered, word_in}

pub repeated_more : {A : Type 0} (n : ℕ) (x : A) → repeated (suc n) x ≡ repeated n x ++ x ∷ []
repeated_more zero x = refl
repeated_more (suc n) x = ap (λ l. x ∷ l) (repeated_more n x)

pub repeated_sum : {A : Type 0} (n k : ℕ) (x : A) → repeated (n + k) x ≡ repeated n x ++ repeated k x
repeated_sum zero k x =
    let e : 0 + k ≡ k = omega arith in
    ap (λ i. repeated i x) e
repeated_sum (suc n) k x =
    let e : suc n + k ≡ suc (n + k) = omega arith in
    ap (λ i. repeated i x) e ∙ ap (λ l. x ∷ l) (repeated_sum n k x)

-- there are none where all are there
pub repeated_none : {A : Type 0} (n k : ℕ) (x : A) → n ≤ k → repeated (n - k) x ≡ []
repeated_none n k x all =
    let e : n - k ≡ 0 = omega (arith, all) in
    ap (λ i. repeated i x) e

pub AllMarkedStrips-more : (s : State) (words : List (Vec Word Global)) (n i k : ℕ) (ls ms : List Strip) (l m : Strip)
    → AllMarkedStrips s words n i ls ms → k ≡ i + length ms → IsMarkedStrip s (word_in words n k) l m
    → AllMarkedStrips s words n i (ls ++ l ∷ []) (ms ++ m ∷ [])
AllMarkedStrips-more s words n i k [] [] l m p e q =
    let same : k ≡ i = omega (arith, e) in
    (subst (λ x. IsMarkedStrip s (word_in words n x) l m) same q, tt)
AllMarkedStrips-more s words n i k [] (j ∷ ms) l m p e q = absurd p
AllMarkedStrips-more s words n i k (j ∷ ls) [] l m p e q = absurd p
AllMarkedStrips-more s words n i k (j ∷ ls) (h ∷ ms) l m p e q =
    (p.0, AllMarkedStrips-more s words n (i + 1) k ls ms l m p.1 (omega (arith, e)) q)

-- one more strip of a list is written, where those from it on are still as they were
pub strips_written : (s : State) (words : List (Vec Word Global)) (n : ℕ) (xs ys : List Strip) (i : ℕ) (d y : Strip)
    → i < length xs → i < length ys → drop i ys ≡ drop i xs
    → AllMarkedStrips s words n 0 (take i xs) (take i ys) → IsMarkedStrip s (word_in words n i) (get_or ys i d) y
    → AllMarkedStrips s words n 0 (take (i + 1) xs) (take (i + 1) (set ys i y))
strips_written s words n xs ys i d y here there e p q =
    let at : i ≡ 0 + length (take i ys) = omega (arith, there, length-take i ys) in
    rw (take_next xs i d here, take_more_set ys i y there)
    (AllMarkedStrips-more s words n 0 i (take i xs) (take i ys) (get_or xs i d) y p at (subst (λ x. IsMarkedStrip s (word_in words n i) x y) (same_next xs ys i d here there e).0 q))

-- ---- the columns of a strip that are left

length_repeated : {A : Type 0} (n : ℕ) (x : A) → length (repeated n x) ≡ n
length_repeated zero x = refl
length_repeated (suc n) x = ap suc (length_repeated n x)

covered_length : (s : StripSpan) (ss : List StripSpan) → length (strip_covered (s ∷ ss)) ≡ s.columns + length (strip_covered ss)
covered_length s ss = length-append (repeated s.columns s.held) (strip_covered ss) ∙ ap (λ n. n + length (strip_covered ss)) (length_repeated s.columns s.held)

pub columns_left : (spans : List StripSpan) (i n : ℕ) (d : StripSpan) → i < length spans
    → n + length (strip_covered (drop i spans)) ≡ n + (get_or spans i d).columns + length (strip_covered (drop (i + 1) spans))
columns_left spans i n d within =
    let e = ap (λ l. length (strip_covered l)) (drop_next spans i d within) ∙ covered_length (get_or spans i d) (drop (i + 1) spans) in
    omega (arith, e)

pub hand_overs_left : (arrows : List Arrow) (last : Option LastOwner) (spans : List StripSpan) (i n : ℕ) (d : StripSpan) → i < length spans
    → (arrows ++ hand_over last n (get_or spans i d).held.owner)
    ++ hand_overs (last_after last (n + (get_or spans i d).columns) (get_or spans i d).held.owner) (n + (get_or spans i d).columns) (drop (i + 1) spans)
    ≡ arrows ++ hand_overs last n (drop i spans)
hand_overs_left arrows last spans i n d within =
    append_assoc arrows (hand_over last n (get_or spans i d).held.owner) _
    ∙ ap (λ l. arrows ++ l) (sym (ap (hand_overs last n) (drop_next spans i d within)))
