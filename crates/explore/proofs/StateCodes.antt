-- A code is of one state.
use native.Mathlib.Omega.{arith}
use Rattle.std.proofs.Common.{◌≡◌, ◌∙◌, sym, ap, refl, ℕ, ◌<◌, ◌^◌, nat_lt, suc, Bool, true, false, if◌then◌else◌, List, [], ◌∷◌, ◌++◌, length, take, drop, get_or, ◌+◌, Option, Some, None}
use Rattle.std.proofs.Common.{append_assoc, append-nil, ◌≤◌, ◌*◌, ◌&&◌}
use Rattle.std.specs.Prelude.{map}
use Rattle.std.specs.Int.{w32, w64, to_le_bytes, from_le_bytes}
use Rattle.std.proofs.lemmas.Nat.{from_le_bytes-to_le_bytes_4, from_le_bytes-to_le_bytes_8}
use Rattle.std.proofs.lemmas.Bool.{ltb-true}
use Rattle.fat_monitor.specs.declared.actions.Reply.{Reply}
use Rattle.fat_monitor.specs.Numbers.{reply_number}
use Rattle.step_core.specs.World.{WorldState}
use Rattle.step_core.specs.Numbers.{numbers_of, IsNumbered}
use Rattle.explore.specs.States.{ProgramState}
use Rattle.explore.specs.Codes.{answer_number, front_numbers, shares, alone_long, alone, dense, code_of, AreSmall, IsCoded}

abbrev first : List ℕ → ℕ
first [] = 0
first (n ∷ ns) = n

abbrev rest : List ℕ → List ℕ
rest [] = []
rest (n ∷ ns) = ns

pub small_all : (xs : List ℕ) → ((k : ℕ) → get_or xs k 0 < 2 ^ 64) → AreSmall xs
small_all [] h = tt
small_all (x ∷ xs) h = (h 0, small_all xs (λ k. h (suc k)))

-- ---- numbers one behind the other

bytes_apart : (x y : ℕ) (a b : List ℕ) → x < 2 ^ 64 → y < 2 ^ 64 → to_le_bytes w64 x ++ a ≡ to_le_bytes w64 y ++ b → (x ≡ y) × (a ≡ b)
bytes_apart x y a b hx hy e =
    let l : to_le_bytes w64 x ≡ to_le_bytes w64 y = ap (λ (ns : List ℕ). take 8 ns) e in (
      sym (from_le_bytes-to_le_bytes_8 x hx) ∙ ap (λ (ns : List ℕ). from_le_bytes w64 ns) l ∙ from_le_bytes-to_le_bytes_8 y hy,
      ap (λ (ns : List ℕ). drop 8 ns) e,
    )

short_apart : (x y : ℕ) (a b : List ℕ) → x < 2 ^ 32 → y < 2 ^ 32 → to_le_bytes w32 x ++ a ≡ to_le_bytes w32 y ++ b → (x ≡ y) × (a ≡ b)
short_apart x y a b hx hy e =
    let l : to_le_bytes w32 x ≡ to_le_bytes w32 y = ap (λ (ns : List ℕ). take 4 ns) e in (
      sym (from_le_bytes-to_le_bytes_4 x hx) ∙ ap (λ (ns : List ℕ). from_le_bytes w32 ns) l ∙ from_le_bytes-to_le_bytes_4 y hy,
      ap (λ (ns : List ℕ). drop 4 ns) e,
    )

below_short : (n : ℕ) → nat_lt n 4294967296 ≡ true → n < 2 ^ 32
below_short n h = let lt = ltb-true n 4294967296 h in omega (arith, lt)

long_apart : (x y : ℕ) (a b : List ℕ) → x < 2 ^ 64 → y < 2 ^ 64 → alone_long x ++ a ≡ alone_long y ++ b → (x ≡ y) × (a ≡ b)
long_apart x y a b hx hy e = by (nat_lt x 4294967296) (nat_lt y 4294967296) refl refl e
  where
    by : (p q : Bool) → nat_lt x 4294967296 ≡ p → nat_lt y 4294967296 ≡ q
        → (if p then 241 ∷ to_le_bytes w32 x else 242 ∷ to_le_bytes w64 x) ++ a
        ≡ (if q then 241 ∷ to_le_bytes w32 y else 242 ∷ to_le_bytes w64 y) ++ b → (x ≡ y) × (a ≡ b)
    by true true hp hq g = short_apart x y a b (below_short x hp) (below_short y hq) (ap rest g)
    by true false hp hq g = absurd (let f : 241 ≡ 242 = ap first g in omega (arith, f))
    by false true hp hq g = absurd (let f : 242 ≡ 241 = ap first g in omega (arith, f))
    by false false hp hq g = bytes_apart x y a b hx hy (ap rest g)

-- a long number begins with a byte of its own
abbrev IsBetween : ℕ → ℕ → ℕ → Type 0
IsBetween least n most = (least ≤ n) × (n ≤ most)

long_first : (y : ℕ) (b : List ℕ) → IsBetween 241 (first (alone_long y ++ b)) 242
long_first y b = by (nat_lt y 4294967296)
  where
    by : (q : Bool) → IsBetween 241 (first ((if q then 241 ∷ to_le_bytes w32 y else 242 ∷ to_le_bytes w64 y) ++ b)) 242
    by true = (omega arith, omega arith)
    by false = (omega arith, omega arith)

alone_first : (y : ℕ) (b : List ℕ) → IsBetween 240 (first (alone y ++ b)) 242
alone_first y b = by (nat_lt y 256)
  where
    by : (q : Bool) → IsBetween 240 (first ((if q then 240 ∷ y ∷ [] else alone_long y) ++ b)) 242
    by true = (omega arith, omega arith)
    by false = (let l = long_first y b in let low = l.0 in let high = l.1 in (omega (arith, low), high))

alone_apart : (x y : ℕ) (a b : List ℕ) → x < 2 ^ 64 → y < 2 ^ 64 → alone x ++ a ≡ alone y ++ b → (x ≡ y) × (a ≡ b)
alone_apart x y a b hx hy e = by (nat_lt x 256) (nat_lt y 256) e
  where
    by : (p q : Bool)
        → (if p then 240 ∷ x ∷ [] else alone_long x) ++ a ≡ (if q then 240 ∷ y ∷ [] else alone_long y) ++ b → (x ≡ y) × (a ≡ b)
    by true true g = (ap (λ (ns : List ℕ). first (rest ns)) g, ap (λ (ns : List ℕ). rest (rest ns)) g)
    by true false g = absurd (let f : 240 ≡ first (alone_long y ++ b) = ap first g in let l = (long_first y b).0 in omega (arith, f, l))
    by false true g = absurd (let f : first (alone_long x ++ a) ≡ 240 = ap first g in let l = (long_first x a).0 in omega (arith, f, l))
    by false false g = long_apart x y a b hx hy g

-- two numbers that share a byte are small
both_small : (a b : ℕ) → shares a b ≡ true → (a < 15) × (b < 16)
both_small a b e = by (nat_lt a 15) (nat_lt b 16) refl refl e
  where
    by : (p q : Bool) → nat_lt a 15 ≡ p → nat_lt b 16 ≡ q → (p && q) ≡ true → (a < 15) × (b < 16)
    by true true hp hq g = (ltb-true a 15 hp, ltb-true b 16 hq)
    by true false hp hq g = absurd (cc)
    by false q hp hq g = absurd (cc)

-- no number begins as the end does
not_end : (y : ℕ) (ys b : List ℕ) → first (dense (y ∷ ys) ++ b) < 255
not_end y [] b = let l = (alone_first y b).1 in omega (arith, l)
not_end y (z ∷ ys) b = by (shares y z) refl
  where
    by : (q : Bool) → shares y z ≡ q → first ((if q then (16 * y + z) ∷ dense ys else alone y ++ dense (z ∷ ys)) ++ b) < 255
    by true h = (let s = both_small y z h in let low = s.0 in let high = s.1 in omega (arith, low, high))
    by false h = (let l = (alone_first y (dense (z ∷ ys) ++ b)).1 in
        let f = ap first (append_assoc (alone y) (dense (z ∷ ys)) b) in omega (arith, l, f))

-- neither list begins with a shared byte
both_alone : (x y : ℕ) (xs ys a b : List ℕ) → x < 2 ^ 64 → y < 2 ^ 64
    → (dense xs ++ 255 ∷ a ≡ dense ys ++ 255 ∷ b → (xs ≡ ys) × (a ≡ b))
    → (alone x ++ dense xs) ++ 255 ∷ a ≡ (alone y ++ dense ys) ++ 255 ∷ b → (x ∷ xs ≡ y ∷ ys) × (a ≡ b)
both_alone x y xs ys a b hx hy more e =
    let h = alone_apart x y (dense xs ++ 255 ∷ a) (dense ys ++ 255 ∷ b) hx hy
    (sym (append_assoc (alone x) (dense xs) (255 ∷ a)) ∙ e ∙ append_assoc (alone y) (dense ys) (255 ∷ b)) in
    let t = more h.1 in
    (ap (λ (n : ℕ). n ∷ xs) h.0 ∙ ap (λ (ns : List ℕ). y ∷ ns) t.0, t.1)

-- one begins with a shared byte, and the other does not
one_shares : (x w y : ℕ) (xs ys a b : List ℕ) → shares x w ≡ true → ((16 * x + w) ∷ xs) ++ a ≡ (alone y ++ ys) ++ b → ⊥
one_shares x w y xs ys a b h e = absurd (
    let s = both_small x w h in
    let low = s.0 in
    let high = s.1 in
    let f : 16 * x + w ≡ first ((alone y ++ ys) ++ b) = ap first e in
    let g = ap first (append_assoc (alone y) ys b) in
    let l = (alone_first y (ys ++ b)).0 in
    omega (arith, low, high, f, g, l))

-- the bytes up to the end are of one list
dense_split : (xs ys a b : List ℕ) → AreSmall xs → AreSmall ys → dense xs ++ 255 ∷ a ≡ dense ys ++ 255 ∷ b → (xs ≡ ys) × (a ≡ b)
dense_split [] [] a b hx hy e = (refl, ap rest e)
dense_split [] (y ∷ ys) a b hx hy e =
    absurd (let l = not_end y ys (255 ∷ b) in let f : 255 ≡ first (dense (y ∷ ys) ++ 255 ∷ b) = ap first e in omega (arith, l, f))
dense_split (x ∷ xs) [] a b hx hy e =
    absurd (let l = not_end x xs (255 ∷ a) in let f : first (dense (x ∷ xs) ++ 255 ∷ a) ≡ 255 = ap first e in omega (arith, l, f))
dense_split (x ∷ []) (y ∷ []) a b hx hy e =
    both_alone x y [] [] a b hx.0 hy.0 (λ g. dense_split [] [] a b tt tt g)
    (rw (append-nil (alone x), append-nil (alone y)) e)
dense_split (x ∷ []) (y ∷ z ∷ ys) a b hx hy e = by (shares y z) refl e (λ f. dense_split [] (z ∷ ys) a b tt hy.1 f)
  where
    by : (q : Bool) → shares y z ≡ q
        → alone x ++ 255 ∷ a ≡ (if q then (16 * y + z) ∷ dense ys else alone y ++ dense (z ∷ ys)) ++ 255 ∷ b
        → (dense [] ++ 255 ∷ a ≡ dense (z ∷ ys) ++ 255 ∷ b → ([] ≡ z ∷ ys) × (a ≡ b)) → (x ∷ [] ≡ y ∷ z ∷ ys) × (a ≡ b)
    by true h g more = absurd (one_shares y z x (dense ys) [] (255 ∷ b) (255 ∷ a) h (rw (append-nil (alone x)) (sym g)))
    by false h g more = both_alone x y [] (z ∷ ys) a b hx.0 hy.0 more (rw (append-nil (alone x)) g)
dense_split (x ∷ w ∷ xs) (y ∷ []) a b hx hy e = by (shares x w) refl e (λ f. dense_split (w ∷ xs) [] a b hx.1 tt f)
  where
    by : (p : Bool) → shares x w ≡ p
        → (if p then (16 * x + w) ∷ dense xs else alone x ++ dense (w ∷ xs)) ++ 255 ∷ a ≡ alone y ++ 255 ∷ b
        → (dense (w ∷ xs) ++ 255 ∷ a ≡ dense [] ++ 255 ∷ b → (w ∷ xs ≡ []) × (a ≡ b)) → (x ∷ w ∷ xs ≡ y ∷ []) × (a ≡ b)
    by true h g more = absurd (one_shares x w y (dense xs) [] (255 ∷ a) (255 ∷ b) h (rw (append-nil (alone y)) g))
    by false h g more = both_alone x y (w ∷ xs) [] a b hx.0 hy.0 more (rw (append-nil (alone y)) g)
dense_split (x ∷ w ∷ xs) (y ∷ z ∷ ys) a b hx hy e =
    by (shares x w) (shares y z) refl refl e (λ f. dense_split xs ys a b hx.1.1 hy.1.1 f)
    (λ f. dense_split (w ∷ xs) (z ∷ ys) a b hx.1 hy.1 f)
  where
    by : (p q : Bool) → shares x w ≡ p → shares y z ≡ q
        → (if p then (16 * x + w) ∷ dense xs else alone x ++ dense (w ∷ xs)) ++ 255 ∷ a
        ≡ (if q then (16 * y + z) ∷ dense ys else alone y ++ dense (z ∷ ys)) ++ 255 ∷ b
        → (dense xs ++ 255 ∷ a ≡ dense ys ++ 255 ∷ b → (xs ≡ ys) × (a ≡ b))
        → (dense (w ∷ xs) ++ 255 ∷ a ≡ dense (z ∷ ys) ++ 255 ∷ b → (w ∷ xs ≡ z ∷ ys) × (a ≡ b))
        → (x ∷ w ∷ xs ≡ y ∷ z ∷ ys) × (a ≡ b)
    by true true hp hq g two one =
        let s = both_small x w hp in
        let t = both_small y z hq in
        let s0 = s.0 in let s1 = s.1 in let t0 = t.0 in let t1 = t.1 in
        let f : 16 * x + w ≡ 16 * y + z = ap first g in
        let same : x ≡ y = omega (arith, f, s0, s1, t0, t1) in
        let next : w ≡ z = omega (arith, f, s0, s1, t0, t1) in
        let more = two (ap rest g) in
        (ap (λ (n : ℕ). n ∷ w ∷ xs) same ∙ ap (λ (n : ℕ). y ∷ n ∷ xs) next ∙ ap (λ (ns : List ℕ). y ∷ z ∷ ns) more.0, more.1)
    by true false hp hq g two one = absurd (one_shares x w y (dense xs) (dense (z ∷ ys)) (255 ∷ a) (255 ∷ b) hp g)
    by false true hp hq g two one = absurd (one_shares y z x (dense ys) (dense (w ∷ xs)) (255 ∷ b) (255 ∷ a) hq (sym g))
    by false false hp hq g two one = both_alone x y (w ∷ xs) (z ∷ ys) a b hx.0 hy.0 one g

-- ---- the numbers of a state

-- two replies with one number are the same
abbrev pub RepliesApart : Type 0
RepliesApart = (r s : Reply) → reply_number r ≡ reply_number s → r ≡ s

-- and so are two worlds, whatever stands behind
abbrev pub WorldsApart : Type 0
WorldsApart = (v w : WorldState) (a b : List ℕ) → IsNumbered v → IsNumbered w → numbers_of v ++ a ≡ numbers_of w ++ b → (v ≡ w) × (a ≡ b)

answer_apart : RepliesApart → (x y : Option Reply) → answer_number x ≡ answer_number y → x ≡ y
answer_apart h None None e = refl
answer_apart h None (Some r) e = absurd (omega (arith, e))
answer_apart h (Some r) None e = absurd (omega (arith, e))
answer_apart h (Some r) (Some s) e = ap Some (h r s (omega (arith, e)))

answers_apart : RepliesApart → (xs ys : List (Option Reply)) → map answer_number xs ≡ map answer_number ys → xs ≡ ys
answers_apart h [] [] e = refl
answers_apart h [] (y ∷ ys) e = absurd (let l = ap (λ (ns : List ℕ). length ns) e in omega (arith, l))
answers_apart h (x ∷ xs) [] e = absurd (let l = ap (λ (ns : List ℕ). length ns) e in omega (arith, l))
answers_apart h (x ∷ xs) (y ∷ ys) e =
    ap (λ (o : Option Reply). o ∷ xs) (answer_apart h x y (ap first e)) ∙ ap (λ (os : List (Option Reply)). y ∷ os) (answers_apart h xs ys (ap rest e))

-- a code is of one state
pub states_apart : RepliesApart → WorldsApart → (s t : ProgramState) → IsCoded s → IsCoded t → code_of s ≡ code_of t → s ≡ t
states_apart replies worlds s t hs ht e =
    let numbers = dense_split (front_numbers s) (front_numbers t) (map answer_number s.replies) (map answer_number t.replies) hs.small ht.small e in
    let w = worlds s.world t.world _ _ hs.numbered ht.numbered numbers.0 in
    let told : s.told ≡ t.told = ap first w.1 in
    let nexts : s.nexts ≡ t.nexts = ap (λ (ns : List ℕ). rest (rest ns)) w.1 in
    let answers = answers_apart replies s.replies t.replies numbers.1 in
    ap (λ (x : WorldState). record { world = x; nexts = s.nexts; replies = s.replies; told = s.told }) w.0
    ∙ ap (λ (x : List ℕ). record { world = t.world; nexts = x; replies = s.replies; told = s.told }) nexts
    ∙ ap (λ (x : List (Option Reply)). record { world = t.world; nexts = t.nexts; replies = x; told = s.told }) answers
    ∙ ap (λ (x : ℕ). record { world = t.world; nexts = t.nexts; replies = t.replies; told = x }) told
