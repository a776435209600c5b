-- Bytes without a line feed, and the first line of bytes.
use Rattle.std.proofs.Common.{◌≡◌, ℕ, suc, ◌+◌, ◌<◌, ◌≤◌, List, [], ◌∷◌, ◌++◌, length, get_or, take, drop, Bool, true, false, ◌==◌, nat_lt, cond, Option, None, Some, refl, sym, ap, ◌∙◌, subst, arith, append_assoc}
use Rattle.std.specs.List.{position, position_or_len}
use Rattle.std.proofs.lemmas.Bool.{eqb-true, eq-eqb, ltb-true, ltb-false}
use Rattle.std.proofs.lemmas.List.Sums.{split_at_first, fails_before_first, passes_at_first}
use Rattle.std.proofs.lemmas.List.{get_or-take, length-take-le}
use Rattle.std.proofs.lemmas.Option.{cond_some}
use Rattle.history_check.specs.Histories.{NoFeed, lines_text}

pub NoFeed-append : (xs ys : List ℕ) → NoFeed xs → NoFeed ys → NoFeed (xs ++ ys)
NoFeed-append [] ys p q = q
NoFeed-append (x ∷ xs) ys p q = (p.0, NoFeed-append xs ys p.1 q)

head_same : (x y : ℕ) (xs ys : List ℕ) → x ∷ xs ≡ y ∷ ys → x ≡ y
head_same x y xs ys e = cc

tail_same : (x y : ℕ) (xs ys : List ℕ) → x ∷ xs ≡ y ∷ ys → xs ≡ ys
tail_same x y xs ys e = cc

no_head : (x : ℕ) (xs : List ℕ) → [] ≡ x ∷ xs → ⊥
no_head x xs e = cc

-- the first line of bytes is one alone
pub same_line : (a b xs ys : List ℕ) → NoFeed a → NoFeed b → a ++ (10 ∷ xs) ≡ b ++ (10 ∷ ys) → (a ≡ b) × (xs ≡ ys)
same_line [] [] xs ys p q e = (refl, tail_same 10 10 xs ys e)
same_line [] (b ∷ bs) xs ys p q e = absurd (q.0 (sym (head_same 10 b xs (bs ++ (10 ∷ ys)) e)))
same_line (a ∷ more) [] xs ys p q e = absurd (p.0 (head_same a 10 (more ++ (10 ∷ xs)) ys e))
same_line (a ∷ cs) (b ∷ bs) xs ys p q e =
    let more = same_line cs bs xs ys p.1 q.1 (tail_same a b (cs ++ (10 ∷ xs)) (bs ++ (10 ∷ ys)) e) in
    let same : a ≡ b = head_same a b (cs ++ (10 ∷ xs)) (bs ++ (10 ∷ ys)) e in
    (joined a b cs bs same more.0, more.1)
  where
    joined : (a b : ℕ) (cs bs : List ℕ) → a ≡ b → cs ≡ bs → a ∷ cs ≡ b ∷ bs
    joined a b cs bs e f = cc

-- bytes that begin with so many that are no line feed have no shorter first line
pub no_shorter : (xs ys line after : List ℕ) → NoFeed xs → xs ++ ys ≡ line ++ (10 ∷ after) → length xs ≤ length line
no_shorter [] ys line after p e = omega arith
no_shorter (x ∷ xs) ys [] after p e = absurd (p.0 (head_same x 10 (xs ++ ys) after e))
no_shorter (x ∷ xs) ys (b ∷ line) after p e =
    let more = no_shorter xs ys line after p.1 (tail_same x b (xs ++ ys) (line ++ (10 ∷ after)) e) in omega (arith, more)

pub no_feed_no_line : (xs line after : List ℕ) → NoFeed xs → xs ≡ line ++ (10 ∷ after) → ⊥
no_feed_no_line [] [] after p e = no_head 10 after e
no_feed_no_line [] (b ∷ line) after p e = no_head b (line ++ (10 ∷ after)) e
no_feed_no_line (x ∷ xs) [] after p e = p.0 (head_same x 10 xs after e)
no_feed_no_line (x ∷ xs) (b ∷ line) after p e = no_feed_no_line xs line after p.1 (tail_same x b xs (line ++ (10 ∷ after)) e)

pub has_feed : (line after : List ℕ) → NoFeed (line ++ (10 ∷ after)) → ⊥
has_feed line after p = no_feed_no_line (line ++ (10 ∷ after)) line after p refl

NoFeed-each : (xs : List ℕ) → ((k : ℕ) → k < length xs → (get_or xs k 0 == 10) ≡ false) → NoFeed xs
NoFeed-each [] each = tt
NoFeed-each (x ∷ xs) each = (λ e. yes_no (x == 10) (eq-eqb x 10 e) (each 0 (omega arith)), NoFeed-each xs (λ k within. each (suc k) (omega (arith, within))))
  where
    yes_no : (b : Bool) → b ≡ true → b ≡ false → ⊥
    yes_no b p q = cc

no_feed_below : (bs : List ℕ) (i : ℕ) → i ≤ length bs → i ≤ position_or_len (λ b. b == 10) bs → NoFeed (take i bs)
no_feed_below bs i within le =
    NoFeed-each (take i bs) (λ k below. let small : k < i = omega (arith, below, length-take-le i bs within) in
    ap (λ (x : ℕ). x == 10) (get_or-take i bs k 0 small) ∙ fails_before_first (λ b. b == 10) bs k 0 (omega (arith, small, le)))

-- the position of the first line feed: the line before it, and what follows
pub cut_at : (bs : List ℕ) (i : ℕ) → position (λ b. b == 10) bs ≡ Some i → (i < length bs) × NoFeed (take i bs) × (bs ≡ take i bs ++ (10 ∷ drop (i + 1) bs))
cut_at bs i e =
    let found = cond_some (nat_lt (position_or_len (λ b. b == 10) bs) (length bs)) (position_or_len (λ b. b == 10) bs) i e in
    let within : position_or_len (λ b. b == 10) bs < length bs = ltb-true (position_or_len (λ b. b == 10) bs) (length bs) found.0 in
    let there : get_or bs (position_or_len (λ b. b == 10) bs) 0 ≡ 10 = eqb-true _ _ (passes_at_first (λ b. b == 10) bs 0 within) in
    let split : bs ≡ take (position_or_len (λ b. b == 10) bs) bs ++ (get_or bs (position_or_len (λ b. b == 10) bs) 0 ∷ drop (position_or_len (λ b. b == 10) bs + 1) bs) = split_at_first (λ b. b == 10) bs 0 within in (
      subst (λ (k : ℕ). k < length bs) found.1 within,
      no_feed_below bs i (subst (λ (k : ℕ). k ≤ length bs) found.1 (omega (arith, within))) (subst (λ (k : ℕ). k ≤ position_or_len (λ b. b == 10) bs) found.1 (omega arith)),
      subst (λ (k : ℕ). bs ≡ take k bs ++ (10 ∷ drop (k + 1) bs)) found.1 (split ∙ ap (λ (x : ℕ). take (position_or_len (λ b. b == 10) bs) bs ++ (x ∷ drop (position_or_len (λ b. b == 10) bs + 1) bs)) there),
    )

pub no_feed_at : (bs : List ℕ) → position (λ b. b == 10) bs ≡ None → NoFeed bs
no_feed_at bs e = NoFeed-each bs (λ k within. fails_before_first (λ b. b == 10) bs k 0 (omega (arith, within, le_from (nat_lt (position_or_len (λ b. b == 10) bs) (length bs)) refl e)))
  where
    some_none : (n : ℕ) → ◌≡◌ {A = Option ℕ} (Some n) None → ⊥
    some_none n e = cc

    le_from : (t : Bool) → nat_lt (position_or_len (λ b. b == 10) bs) (length bs) ≡ t → cond t (Some (position_or_len (λ b. b == 10) bs)) None ≡ None → length bs ≤ position_or_len (λ b. b == 10) bs
    le_from true is wrong = absurd (some_none _ wrong)
    le_from false is wrong = ltb-false (position_or_len (λ b. b == 10) bs) (length bs) is

pub lines_text-append : (ls more : List (List ℕ)) → lines_text (ls ++ more) ≡ lines_text ls ++ lines_text more
lines_text-append [] more = refl
lines_text-append (l ∷ ls) more =
    ap (λ (t : List ℕ). l ++ (10 ∷ t)) (lines_text-append ls more) ∙ sym (append_assoc l (10 ∷ lines_text ls) (lines_text more))

-- one more line
pub lines_text-one : (ls : List (List ℕ)) (l after : List ℕ) → lines_text ls ++ (l ++ (10 ∷ after)) ≡ lines_text (ls ++ l ∷ []) ++ after
lines_text-one ls l after =
    ap (λ (t : List ℕ). lines_text ls ++ t) (sym (append_assoc l (10 ∷ []) after)) ∙ sym (append_assoc (lines_text ls) (l ++ (10 ∷ [])) after)
    ∙ ap (λ (t : List ℕ). t ++ after) (sym (lines_text-append ls (l ∷ [])))
