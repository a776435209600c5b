-- What came has one answer, and more bytes do not change it.
use Rattle.std.proofs.Common.{◌≡◌, ℕ, ◌+◌, ◌<◌, ◌≤◌, List, [], ◌∷◌, ◌++◌, length, Option, None, Some, refl, sym, ap, ◌∙◌, subst, arith, inl, inr, ◌⊎◌, append_assoc, append-nil, length-append}
use Rattle.step_core.specs.declared.machine.Move.{Move}
use Rattle.step_core.specs.Machine.{State, opening, Steps, Run}
use Rattle.history_moves.specs.Lines.{IsFirst, IsMove}
use Rattle.history_check.specs.Histories.{NoFeed, IsLine, lines_text, Spell, LeadTo, IsWellFormed, IsUnlawfulLine, LineLeads, IsRunOf, IsOpen, IsBadMove, IsBroken}
use Rattle.history_moves.proofs.LineLaws.{one_line_move, one_line_first}
use Rattle.jls_check.proofs.OneNext.{one_next}
use Rattle.history_check.proofs.Lines.{same_line, no_feed_no_line}

-- ---- what the lower layers give

IsFirst-one : (l : List ℕ) (m n : ℕ) → IsFirst l m → IsFirst l n → m ≡ n
IsFirst-one l m n p q = one_line_first l m n p q

IsMove-one : (l : List ℕ) (m n : Move) → IsMove l m → IsMove l n → m ≡ n
IsMove-one l m n p q = one_line_move l m n p q

Steps-one : (m : Move) (s a b : State) → Steps s m a → Steps s m b → a ≡ b
Steps-one m s a b p q = one_next m s a b p q

-- ---- lines, from one state to another

abbrev Walk : Option State → List (List ℕ) → Option State → Type 0
Walk p [] q = q ≡ p
Walk p (l ∷ ls) q = (mid : Option State) × IsLine l × LineLeads p l mid × Walk mid ls q

walk_moves : (ls : List (List ℕ)) (ms : List Move) (s q : State) → Spell ls ms → Run s ms q → Walk (Some s) ls (Some q)
walk_moves [] [] s q p r = ap (λ (x : State). Some x) r
walk_moves [] (m ∷ ms) s q p r = absurd p
walk_moves (l ∷ ls) [] s q p r = absurd p
walk_moves (l ∷ ls) (m ∷ ms) s q p r = (Some r.0, p.0, (m, p.1, r.1), walk_moves ls ms r.0 q p.2 r.2)

walk_from : (ls : List (List ℕ)) (q : Option State) → LeadTo ls q → Walk None ls q
walk_from [] None p = refl
walk_from [] (Some s) p = absurd p
walk_from (first ∷ ls) None p = absurd p
walk_from (first ∷ ls) (Some s) p = (Some (opening p.0), p.2, (p.0, p.3, refl), walk_moves ls p.1 (opening p.0) s p.4 p.5)

LineLeads-one : (p : Option State) (l : List ℕ) (a b : Option State) → LineLeads p l a → LineLeads p l b → a ≡ b
LineLeads-one None l None b f g = absurd f
LineLeads-one None l (Some a) None f g = absurd g
LineLeads-one None l (Some a) (Some b) f g = ap (λ (x : State). Some x) (f.2 ∙ ap opening (IsFirst-one l f.0 g.0 f.1 g.1) ∙ sym g.2)
LineLeads-one (Some s) l None b f g = absurd f
LineLeads-one (Some s) l (Some a) None f g = absurd g
LineLeads-one (Some s) l (Some a) (Some b) f g =
    ap (λ (x : State). Some x) (Steps-one g.0 s a b (subst (λ (m : Move). Steps s m a) (IsMove-one l f.0 g.0 f.1 g.1) f.2) g.2)

-- a line that follows stands at the front of the rest
abbrev Ahead : Option State → List ℕ → Type 0
Ahead q rest = (l after : List ℕ) × (next : Option State) × IsLine l × (rest ≡ l ++ (10 ∷ after)) × LineLeads q l next

abbrev Compared : ℕ → Option State → List ℕ → ℕ → Option State → List ℕ → Type 0
Compared m p r n q t = ((m ≡ n) × (p ≡ q) × (r ≡ t)) ⊎ (Ahead p r ⊎ Ahead q t)

compare : (p : Option State) (v w : List (List ℕ)) (a b : Option State) (r t : List ℕ) → Walk p v a → Walk p w b → lines_text v ++ r ≡ lines_text w ++ t
    → Compared (length v) a r (length w) b t
compare p [] [] a b r t x y e = inl (refl, x ∙ sym y, e)
compare p [] (l ∷ ls) a b r t x y e =
    inr (inl (l, lines_text ls ++ t, y.0, y.1, e ∙ append_assoc l (10 ∷ lines_text ls) t, subst (λ (z : Option State). LineLeads z l y.0) (sym x) y.2))
compare p (l ∷ ls) [] a b r t x y e =
    inr (inr (l, lines_text ls ++ r, x.0, x.1, sym e ∙ append_assoc l (10 ∷ lines_text ls) r, subst (λ (z : Option State). LineLeads z l x.0) (sym y) x.2))
compare p (k ∷ ks) (l ∷ ls) a b r t x y e =
    let same = same_line k l (lines_text ks ++ r) (lines_text ls ++ t) x.1.0 y.1.0 (sym (append_assoc k (10 ∷ lines_text ks) r) ∙ e ∙ append_assoc l (10 ∷ lines_text ls) t) in
    let mids = LineLeads-one p l x.0 y.0 (subst (λ (z : List ℕ). LineLeads p z x.0) same.0 x.2) y.2 in
    more (compare y.0 ks ls a b r t (subst (λ (z : Option State). Walk z ks a) mids x.3) y.3 same.1)
  where
    more : Compared (length ks) a r (length ls) b t → Compared (length (k ∷ ks)) a r (length (l ∷ ls)) b t
    more (inl s) = inl (omega (arith, s.0), s.1, s.2)
    more (inr s) = inr s

compared : (came : List ℕ) (v w : List (List ℕ)) (a b : Option State) (r t : List ℕ) → LeadTo v a → LeadTo w b → came ≡ lines_text v ++ r → came ≡ lines_text w ++ t
    → Compared (length v) a r (length w) b t
compared came v w a b r t x y e f = compare None v w a b r t (walk_from v a x) (walk_from w b y) (sym e ∙ f)

well_formed : (q next : Option State) (l : List ℕ) → LineLeads q l next → IsWellFormed q l
well_formed None None l f = absurd f
well_formed None (Some s) l f = (f.0, f.1)
well_formed (Some s) None l f = absurd f
well_formed (Some s) (Some next) l f = (f.0, f.1)

unlawful_formed : (q : Option State) (l : List ℕ) → IsUnlawfulLine q l → IsWellFormed q l
unlawful_formed None l f = absurd f
unlawful_formed (Some s) l f = (f.0, f.1)

lawful : (q next : Option State) (l : List ℕ) → IsUnlawfulLine q l → LineLeads q l next → ⊥
lawful None next l u f = absurd u
lawful (Some s) None l u f = absurd f
lawful (Some s) (Some next) l u f = u.2 next (subst (λ (m : Move). Steps s m next) (IsMove-one l f.0 u.0 f.1 u.1) f.2)

-- ---- a fault has no right line where it stands, nor has the end

bad_ahead : (came : List ℕ) (e : Type 0) (n : ℕ) (b : IsBadMove came e n) → Ahead b.reached b.rest → ⊥
bad_ahead came e n b x = b.bad x.0 x.1 x.3 x.4 (well_formed b.reached x.2 x.0 x.5)

broken_ahead : (came : List ℕ) (n : ℕ) (b : IsBroken came n) → Ahead b.reached (b.line ++ (10 ∷ b.after)) → ⊥
broken_ahead came n b x =
    let same = same_line b.line x.0 b.after x.1 b.fits.0 x.3.0 x.4 in
    lawful b.reached x.2 x.0 (subst (IsUnlawfulLine b.reached) same.0 b.unlawful) x.5

open_ahead : (q : Option State) (rest : List ℕ) → NoFeed rest → Ahead q rest → ⊥
open_ahead q rest clean x = no_feed_no_line rest x.0 x.1 clean x.4

-- ---- one answer

either : {P Q R X : Type 0} → P ⊎ (Q ⊎ R) → (P → X) → (Q → ⊥) → (R → ⊥) → X
either (inl p) f g h = f p
either (inr (inl q)) f g h = absurd (g q)
either (inr (inr r)) f g h = absurd (h r)

pub bad_bad : (came : List ℕ) (m n : ℕ) → IsBadMove came (Unit {0}) m → IsBadMove came (Unit {0}) n → m ≡ n
bad_bad came m n a b =
    either (compared came a.whole b.whole a.reached b.reached a.rest b.rest a.right b.right a.parts b.parts)
    (λ s. a.number ∙ ap (λ (k : ℕ). k + 1) s.0 ∙ sym b.number) (bad_ahead came (Unit {0}) m a) (bad_ahead came (Unit {0}) n b)

pub broken_broken : (came : List ℕ) (m n : ℕ) → IsBroken came m → IsBroken came n → m ≡ n
broken_broken came m n a b =
    either (compared came a.whole b.whole a.reached b.reached (a.line ++ (10 ∷ a.after)) (b.line ++ (10 ∷ b.after)) a.right b.right a.parts b.parts)
    (λ s. a.number ∙ ap (λ (k : ℕ). k + 1) s.0 ∙ sym b.number) (broken_ahead came m a) (broken_ahead came n b)

pub bad_broken : (came : List ℕ) (m n : ℕ) → IsBadMove came (Unit {0}) m → IsBroken came n → ⊥
bad_broken came m n a b =
    either (compared came a.whole b.whole a.reached b.reached a.rest (b.line ++ (10 ∷ b.after)) a.right b.right a.parts b.parts)
    (λ s. a.bad b.line b.after b.fits s.2 (unlawful_formed a.reached b.line (subst (λ (q : Option State). IsUnlawfulLine q b.line) (sym s.1) b.unlawful)))
    (bad_ahead came (Unit {0}) m a) (broken_ahead came n b)

run_leads : (came : List ℕ) (ms : List Move) (r : IsRunOf came ms) → LeadTo (r.first ∷ r.lines) (Some r.state)
run_leads came ms r = (r.objects, ms, r.first_line, r.first_is, r.spelled, r.run)

no_feed_here : NoFeed []
no_feed_here = tt

pub bad_run : (came : List ℕ) (n : ℕ) (ms : List Move) → IsBadMove came (Unit {0}) n → IsRunOf came ms → ⊥
bad_run came n ms a r =
    either (compared came a.whole (r.first ∷ r.lines) a.reached (Some r.state) a.rest [] a.right (run_leads came ms r) a.parts (r.parts ∙ sym (append-nil (lines_text (r.first ∷ r.lines)))))
    (λ s. none_there a.there s.0 s.2) (bad_ahead came (Unit {0}) n a) (open_ahead (Some r.state) [] no_feed_here)
  where
    none_there : (0 < length a.rest) ⊎ (a.whole ≡ []) → length a.whole ≡ length (r.first ∷ r.lines) → a.rest ≡ [] → ⊥
    none_there (inl some) same none = omega (arith, some, ap length none)
    none_there (inr empty) same none = omega (arith, ap length empty, same)

pub broken_run : (came : List ℕ) (n : ℕ) (ms : List Move) → IsBroken came n → IsRunOf came ms → ⊥
broken_run came n ms a r =
    either (compared came a.whole (r.first ∷ r.lines) a.reached (Some r.state) (a.line ++ (10 ∷ a.after)) [] a.right (run_leads came ms r) a.parts (r.parts ∙ sym (append-nil (lines_text (r.first ∷ r.lines)))))
    (λ s. no_feed_no_line [] a.line a.after no_feed_here (sym s.2)) (broken_ahead came n a) (open_ahead (Some r.state) [] no_feed_here)

pub bad_open : (came : List ℕ) (n : ℕ) → IsBadMove came ⊥ n → IsOpen came → ⊥
bad_open came n a o =
    either (compared came a.whole o.3.whole a.reached o.1 a.rest o.2 a.right o.3.right a.parts o.3.parts)
    (λ s. not_enough a.enough s.2) (bad_ahead came ⊥ n a) (open_ahead o.1 o.2 o.3.short.0)
  where
    not_enough : (NoFeed a.rest → ⊥) ⊎ ((4096 ≤ length a.rest) ⊎ ⊥) → a.rest ≡ o.2 → ⊥
    not_enough (inl feed) same = feed (subst NoFeed (sym same) o.3.short.0)
    not_enough (inr (inl long)) same = omega (arith, long, ap length same, o.3.short.1)
    not_enough (inr (inr never)) same = never

pub broken_open : (came : List ℕ) (n : ℕ) → IsBroken came n → IsOpen came → ⊥
broken_open came n a o =
    either (compared came a.whole o.3.whole a.reached o.1 (a.line ++ (10 ∷ a.after)) o.2 a.right o.3.right a.parts o.3.parts)
    (λ s. no_feed_no_line o.2 a.line a.after o.3.short.0 (sym s.2)) (broken_ahead came n a) (open_ahead o.1 o.2 o.3.short.0)

-- a run has one list of moves
one_spelling : (ls ks : List (List ℕ)) (ms ns : List Move) → Spell ls ms → Spell ks ns → lines_text ls ≡ lines_text ks → ms ≡ ns
one_spelling [] [] [] [] p q e = refl
one_spelling [] [] [] (n ∷ ns) p q e = absurd q
one_spelling [] [] (m ∷ ms) ns p q e = absurd p
one_spelling [] (k ∷ ks) ms ns p q e = absurd (no_feed_no_line [] k (lines_text ks) no_feed_here e)
one_spelling (l ∷ ls) [] ms ns p q e = absurd (no_feed_no_line [] l (lines_text ls) no_feed_here (sym e))
one_spelling (l ∷ ls) (k ∷ ks) [] ns p q e = absurd p
one_spelling (l ∷ ls) (k ∷ ks) (m ∷ ms) [] p q e = absurd q
one_spelling (l ∷ ls) (k ∷ ks) (m ∷ ms) (n ∷ ns) p q e =
    let same = same_line l k (lines_text ls) (lines_text ks) p.0.0 q.0.0 e in
    joined m n ms ns (IsMove-one k m n (subst (λ (x : List ℕ). IsMove x m) same.0 p.1) q.1) (one_spelling ls ks ms ns p.2 q.2 same.1)
  where
    joined : (m n : Move) (ms ns : List Move) → m ≡ n → ms ≡ ns → m ∷ ms ≡ n ∷ ns
    joined m n ms ns e f = cc

pub run_run : (came : List ℕ) (ms ns : List Move) → IsRunOf came ms → IsRunOf came ns → ms ≡ ns
run_run came ms ns a b =
    one_spelling a.lines b.lines ms ns a.spelled b.spelled (same_line a.first b.first (lines_text a.lines) (lines_text b.lines) a.first_line.0 b.first_line.0 (sym a.parts ∙ b.parts)).1

-- ---- more bytes

pub broken_more : (came more : List ℕ) (n : ℕ) → IsBroken came n → IsBroken (came ++ more) n
broken_more came more n b = record {
  whole = b.whole;
  reached = b.reached;
  line = b.line;
  after = b.after ++ more;
  number = b.number;
  right = b.right;
  parts = ap (λ (l : List ℕ). l ++ more) b.parts ∙ append_assoc (lines_text b.whole) (b.line ++ (10 ∷ b.after)) more ∙ ap (λ (l : List ℕ). lines_text b.whole ++ l) (append_assoc b.line (10 ∷ b.after) more);
  fits = b.fits;
  unlawful = b.unlawful;
}

-- whether the first line is within the front
feed_within : (rest more line after : List ℕ) → NoFeed line → rest ++ more ≡ line ++ (10 ∷ after)
    → ((b : List ℕ) × (rest ≡ line ++ (10 ∷ b))) ⊎ (NoFeed rest × (length rest ≤ length line))
feed_within [] more line after clean e = inr (tt, omega arith)
feed_within (x ∷ rest) more [] after clean e = inl (rest, ap (λ (b : ℕ). b ∷ rest) (head_of e))
  where
    head_of : x ∷ (rest ++ more) ≡ 10 ∷ after → x ≡ 10
    head_of e = cc
feed_within (x ∷ rest) more (l ∷ line) after clean e = later (feed_within rest more line after clean.1 (tail_of e)) (head_of e)
  where
    tail_of : x ∷ (rest ++ more) ≡ l ∷ (line ++ (10 ∷ after)) → rest ++ more ≡ line ++ (10 ∷ after)
    tail_of e = cc

    head_of : x ∷ (rest ++ more) ≡ l ∷ (line ++ (10 ∷ after)) → x ≡ l
    head_of e = cc

    later : ((b : List ℕ) × (rest ≡ line ++ (10 ∷ b))) ⊎ (NoFeed rest × (length rest ≤ length line)) → x ≡ l
        → ((b : List ℕ) × (x ∷ rest ≡ l ∷ (line ++ (10 ∷ b)))) ⊎ (NoFeed (x ∷ rest) × (length (x ∷ rest) ≤ length (l ∷ line)))
    later (inl p) same = inl (p.0, joined same p.1)
      where
        joined : x ≡ l → rest ≡ line ++ (10 ∷ p.0) → x ∷ rest ≡ l ∷ (line ++ (10 ∷ p.0))
        joined e f = cc
    later (inr p) same = inr ((λ e. clean.0 (sym same ∙ e), p.0), omega (arith, p.1))

NoFeed-front : (xs ys : List ℕ) → NoFeed (xs ++ ys) → NoFeed xs
NoFeed-front [] ys p = tt
NoFeed-front (x ∷ xs) ys p = (p.0, NoFeed-front xs ys p.1)

pub bad_more : (came more : List ℕ) (n : ℕ) → IsBadMove came ⊥ n → IsBadMove (came ++ more) ⊥ n
bad_more came more n b = record {
  whole = b.whole;
  reached = b.reached;
  rest = b.rest ++ more;
  number = b.number;
  right = b.right;
  parts = ap (λ (l : List ℕ). l ++ more) b.parts ∙ append_assoc (lines_text b.whole) b.rest more;
  there = there_more b.there b.enough;
  enough = enough_more b.enough;
  bad = λ line after fits same is. bad_line line after fits is (feed_within b.rest more line after fits.0 same) b.enough;
}
  where
    some : (xs : List ℕ) → (NoFeed xs → ⊥) ⊎ ((4096 ≤ length xs) ⊎ ⊥) → 0 < length xs
    some [] (inl feed) = absurd (feed tt)
    some [] (inr (inl long)) = absurd (omega arith)
    some [] (inr (inr never)) = absurd never
    some (x ∷ xs) enough = omega arith

    there_more : (0 < length b.rest) ⊎ (b.whole ≡ []) → (NoFeed b.rest → ⊥) ⊎ ((4096 ≤ length b.rest) ⊎ ⊥) → (0 < length (b.rest ++ more)) ⊎ (b.whole ≡ [])
    there_more there enough = inl (omega (arith, length-append b.rest more, some b.rest enough))

    enough_more : (NoFeed b.rest → ⊥) ⊎ ((4096 ≤ length b.rest) ⊎ ⊥) → (NoFeed (b.rest ++ more) → ⊥) ⊎ ((4096 ≤ length (b.rest ++ more)) ⊎ ⊥)
    enough_more (inl feed) = inl (λ clean. feed (NoFeed-front b.rest more clean))
    enough_more (inr (inl long)) = inr (inl (omega (arith, long, length-append b.rest more)))
    enough_more (inr (inr never)) = absurd never

    bad_line : (line after : List ℕ) → IsLine line → IsWellFormed b.reached line → ((t : List ℕ) × (b.rest ≡ line ++ (10 ∷ t))) ⊎ (NoFeed b.rest × (length b.rest ≤ length line))
        → (NoFeed b.rest → ⊥) ⊎ ((4096 ≤ length b.rest) ⊎ ⊥) → ⊥
    bad_line line after fits is (inl p) enough = b.bad line p.0 fits p.1 is
    bad_line line after fits is (inr p) (inl feed) = feed p.0
    bad_line line after fits is (inr p) (inr (inl long)) = omega (arith, long, p.1, fits.1)
    bad_line line after fits is (inr p) (inr (inr never)) = never
