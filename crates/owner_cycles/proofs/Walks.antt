-- Walks, where each leads to one other at most, and the cycles that they close.
use Rattle.std.specs.Prelude.{◌≡◌, ◌⊎◌, ℕ, ◌<◌, ◌≤◌, List, [], ◌∷◌, ◌++◌, Option, Some, None}
use Rattle.std.specs.List.{AllByRecursion, Contains}
use Rattle.std.proofs.Common.{refl, inl, inr, sym, ap, subst, ◌∙◌, arith, suc}
use Rattle.std.proofs.lemmas.Option.{same_Some}
use Rattle.step_core.specs.Cycles.{LeadsThrough, AreDistinct, IsCycleOf}
use Rattle.owner_cycles.specs.Rows.{IsIn, Goes, IsOnCycle}

-- ---- lists

module _ {A : Type 0} where
  pub in_left : (x : A) (xs ys : List A) → IsIn x xs → IsIn x (xs ++ ys)
  in_left x [] ys h = absurd h
  in_left x (y ∷ xs) ys (inl e) = inl e
  in_left x (y ∷ xs) ys (inr h) = inr (in_left x xs ys h)

  pub in_right : (x : A) (xs ys : List A) → IsIn x ys → IsIn x (xs ++ ys)
  in_right x [] ys h = h
  in_right x (y ∷ xs) ys h = inr (in_right x xs ys h)

  pub in_cases : (x : A) (xs ys : List A) → IsIn x (xs ++ ys) → IsIn x xs ⊎ IsIn x ys
  in_cases x [] ys h = inr h
  in_cases x (y ∷ xs) ys (inl e) = inl (inl e)
  in_cases x (y ∷ xs) ys (inr h) = by_case (in_cases x xs ys h)
    where
      by_case : IsIn x xs ⊎ IsIn x ys → IsIn x (y ∷ xs) ⊎ IsIn x ys
      by_case (inl a) = inl (inr a)
      by_case (inr b) = inr b

  pub in_split : (x : A) (xs : List A) → IsIn x xs → (front : List A) × (rest : List A) × (xs ≡ front ++ x ∷ rest)
  in_split x [] h = absurd h
  in_split x (y ∷ xs) (inl e) = ([], xs, ap (λ (z : A). z ∷ xs) (sym e))
  in_split x (y ∷ xs) (inr h) = let s = in_split x xs h in (y ∷ s.0, s.1, ap (λ (l : List A). y ∷ l) s.2)

  pub all_in : (P : A → Type 0) (x : A) (xs : List A) → AllByRecursion P xs → IsIn x xs → P x
  all_in P x [] all h = absurd h
  all_in P x (y ∷ xs) all (inl e) = subst P (sym e) all.0
  all_in P x (y ∷ xs) all (inr h) = all_in P x xs all.1 h

  pub all_from : {P : A → Type 0} (xs : List A) → ((x : A) → IsIn x xs → P x) → AllByRecursion P xs
  all_from [] h = tt
  all_from (x ∷ xs) h = (h x (inl refl), all_from xs (λ y i. h y (inr i)))

  apart : (x : A) (xs ys : List A) → AreDistinct (xs ++ ys) → IsIn x xs → IsIn x ys → ⊥
  apart x [] ys d h i = h
  apart x (y ∷ xs) ys d (inl e) i = all_in _ x (xs ++ ys) d.0 (in_right x xs ys i) (sym e)
  apart x (y ∷ xs) ys d (inr h) i = apart x xs ys d.1 h i

  pub distinct_push : (x : A) (xs : List A) → AreDistinct xs → (IsIn x xs → ⊥) → AreDistinct (xs ++ x ∷ [])
  distinct_push x [] d new = (tt, tt)
  distinct_push x (y ∷ xs) d new = (
    all_from (xs ++ x ∷ []) (λ z i. by_case z (in_cases z xs (x ∷ []) i)),
    distinct_push x xs d.1 (λ i. new (inr i)),
  )
    where
      by_case : (z : A) → IsIn z xs ⊎ IsIn z (x ∷ []) → y ≡ z → ⊥
      by_case z (inl i) e = all_in _ z xs d.0 i e
      by_case z (inr (inl i)) e = new (inl (sym (e ∙ i)))
      by_case z (inr (inr none)) e = none

  pub in_push : (x y : A) (xs : List A) → IsIn x (xs ++ y ∷ []) → IsIn x xs ⊎ (x ≡ y)
  in_push x y xs h = by_case (in_cases x xs (y ∷ []) h)
    where
      by_case : IsIn x xs ⊎ IsIn x (y ∷ []) → IsIn x xs ⊎ (x ≡ y)
      by_case (inl i) = inl i
      by_case (inr (inl e)) = inr e
      by_case (inr (inr none)) = absurd none

  pub in_end : (x : A) (xs : List A) → IsIn x (xs ++ x ∷ [])
  in_end x xs = in_right x xs (x ∷ []) (inl refl)

  pub in_front : (x y : A) (xs : List A) → IsIn x xs → IsIn x (xs ++ y ∷ [])
  in_front x y xs h = in_left x xs (y ∷ []) h

  pub contains_in : (x : A) (xs : List A) → IsIn x xs → Contains xs x
  contains_in x [] h = absurd h
  contains_in x (y ∷ xs) (inl e) = (0, omega arith, sym e)
  contains_in x (y ∷ xs) (inr h) = let c = contains_in x xs h in (suc c.0, omega (arith, c.1), c.2)

-- ---- walks

module _ {A : Type 0} (f : A → Option A) where
  goes_join : (from mid to : Option A) (xs ys : List A) → Goes f from xs mid → Goes f mid ys to → Goes f from (xs ++ ys) to
  goes_join from mid to [] ys g h = subst (λ (o : Option A). Goes f o ys to) g h
  goes_join from mid to (x ∷ xs) ys g h = (g.0, goes_join (f x) mid to xs ys g.1 h)

  pub goes_split : (from to : Option A) (xs ys : List A) → Goes f from (xs ++ ys) to → (mid : Option A) × Goes f from xs mid × Goes f mid ys to
  goes_split from to [] ys g = (from, refl, g)
  goes_split from to (x ∷ xs) ys g = let s = goes_split (f x) to xs ys g.1 in (s.0, (g.0, s.1), s.2)

  pub goes_push : (from : Option A) (v : A) (xs : List A) → Goes f from xs (Some v) → Goes f from (xs ++ v ∷ []) (f v)
  goes_push from v xs g = goes_join from (Some v) (f v) xs (v ∷ []) g (refl, refl)

  -- whom one on a cycle leads to is on a cycle too
  pub forward : (v u : A) → IsOnCycle f v → f v ≡ Some u → IsOnCycle f u
  forward v u ([], g) e = let same : v ≡ u = same_Some v u (g ∙ e) in subst (IsOnCycle f) same ([], g)
  forward v u (x ∷ xs, g) e =
      let same : x ≡ u = same_Some x u (sym g.0 ∙ e) in
      subst (IsOnCycle f) same (xs ++ v ∷ [], subst (λ (o : Option A). Goes f (f x) (xs ++ v ∷ []) o) g.0 (goes_push (f x) v xs g.1))

  -- a set that no step leaves is left by no walk
  stays_within : (part : List A) → ((x y : A) → IsIn x part → f x ≡ Some y → IsIn y part)
      → (from : Option A) (xs : List A) (v : A) → ((y : A) → from ≡ Some y → IsIn y part) → Goes f from xs (Some v) → IsIn v part
  stays_within part closed from [] v h g = h v (sym g)
  stays_within part closed from (x ∷ xs) v h g = stays_within part closed (f x) xs v (λ y e. closed x y (h x g.0) e) g.1

  -- each of a path leads to one of it, but the last
  goes_on : (from to : Option A) (xs : List A) (x : A) → Goes f from xs to → IsIn x xs → (f x ≡ to) ⊎ ((y : A) × (f x ≡ Some y) × IsIn y xs)
  goes_on from to [] x g h = absurd h
  goes_on from to (z ∷ []) x g (inl e) = inl (ap f e ∙ sym g.1)
  goes_on from to (z ∷ w ∷ ws) x g (inl e) = inr (w, ap f e ∙ g.1.0, inr (inl refl))
  goes_on from to (z ∷ zs) x g (inr h) = by_case (goes_on (f z) to zs x g.1 h)
    where
      by_case : (f x ≡ to) ⊎ ((y : A) × (f x ≡ Some y) × IsIn y zs) → (f x ≡ to) ⊎ ((y : A) × (f x ≡ Some y) × IsIn y (z ∷ zs))
      by_case (inl e) = inl e
      by_case (inr (y, e, i)) = inr (y, e, inr i)

  -- ---- a ring: a walk that ends where it began

  ring_closed : (v : A) (rest : List A) → Goes f (Some v) (v ∷ rest) (Some v) → (x y : A) → IsIn x (v ∷ rest) → f x ≡ Some y → IsIn y (v ∷ rest)
  ring_closed v rest g x y i e = by_case (goes_on (Some v) (Some v) (v ∷ rest) x g i)
    where
      by_case : (f x ≡ Some v) ⊎ ((z : A) × (f x ≡ Some z) × IsIn z (v ∷ rest)) → IsIn y (v ∷ rest)
      by_case (inl h) = inl (same_Some y v (sym e ∙ h))
      by_case (inr (z, h, j)) = subst (λ (w : A). IsIn w (v ∷ rest)) (same_Some z y (sym h ∙ e)) j

  -- whoever is on a cycle and leads into the ring is of it
  pub ring_entered : (v : A) (rest : List A) → Goes f (Some v) (v ∷ rest) (Some v) → (x y : A) → IsOnCycle f x → f x ≡ Some y → IsIn y (v ∷ rest) → IsIn x (v ∷ rest)
  ring_entered v rest g x y (path, back) e i =
      stays_within (v ∷ rest) (ring_closed v rest g) (f x) path x (λ z h. subst (λ (w : A). IsIn w (v ∷ rest)) (same_Some y z (sym e ∙ h)) i) back

  -- from each of the ring a walk leads to its first
  ring_back : (v : A) (rest : List A) → Goes f (Some v) (v ∷ rest) (Some v) → (x : A) → IsIn x (v ∷ rest) → (path : List A) × Goes f (f x) path (Some v)
  ring_back v rest g x i =
      let s = in_split x (v ∷ rest) i in
      let t = goes_split (Some v) (Some v) s.0 (x ∷ s.1) (subst (λ (l : List A). Goes f (Some v) l (Some v)) s.2 g) in
      (s.1, t.2.1)

  pub ring_on_cycle : (v : A) (rest : List A) → Goes f (Some v) (v ∷ rest) (Some v) → (x : A) → IsIn x (v ∷ rest) → IsOnCycle f x
  ring_on_cycle v rest g x i =
      let s = in_split x (v ∷ rest) i in
      let t = goes_split (Some v) (Some v) s.0 (x ∷ s.1) (subst (λ (l : List A). Goes f (Some v) l (Some v)) s.2 g) in
      (s.1 ++ s.0, goes_join (f x) (Some v) (Some x) s.1 s.0 t.2.1 (subst (λ (o : Option A). Goes f (Some v) s.0 o) t.2.0 t.1))

  -- ---- what is on no cycle

  pub off_cycle : (from to : Option A) (xs : List A) → Goes f from xs to → ((x : A) → IsIn x xs → f x ≡ to → IsOnCycle f x → ⊥) → (x : A) → IsIn x xs → IsOnCycle f x → ⊥
  off_cycle from to [] g barred x i on = i
  off_cycle from to (z ∷ []) g barred x (inl e) on = barred x (inl e) (ap f e ∙ sym g.1) on
  off_cycle from to (z ∷ []) g barred x (inr none) on = none
  off_cycle from to (z ∷ w ∷ ws) g barred x (inl e) on =
      off_cycle (f z) to (w ∷ ws) g.1 (λ y j. barred y (inr j)) w (inl refl) (forward x w on (ap f e ∙ g.1.0))
  off_cycle from to (z ∷ w ∷ ws) g barred x (inr i) on = off_cycle (f z) to (w ∷ ws) g.1 (λ y j. barred y (inr j)) x i on

  pub none_leads_back : (v : A) → f v ≡ None → IsOnCycle f v → ⊥
  none_leads_back v e ([], g) = let never : ◌≡◌ {A = Option A} (Some v) None = g ∙ e in absurd (cc)
  none_leads_back v e (x ∷ xs, g) = let never : ◌≡◌ {A = Option A} None (Some x) = sym e ∙ g.0 in absurd (cc)

  -- whoever leads into a ring from beside it is on no cycle
  pub beside_ring : (front rest : List A) (from : Option A) (v : A) → AreDistinct (front ++ v ∷ rest) → Goes f from (front ++ v ∷ rest) (Some v) → (x : A) → IsIn x front → IsOnCycle f x → ⊥
  beside_ring front rest from v distinct g =
      let s = goes_split from (Some v) front (v ∷ rest) g in
      let ring : Goes f (Some v) (v ∷ rest) (Some v) = (refl, s.2.1) in
      off_cycle from s.0 front s.1 (λ x i e on. apart x front (v ∷ rest) distinct i (ring_entered v rest ring x v on (e ∙ s.2.0) (inl refl)))

  pub ring_of_path : (front rest : List A) (from : Option A) (v : A) → Goes f from (front ++ v ∷ rest) (Some v) → Goes f (Some v) (v ∷ rest) (Some v)
  ring_of_path front rest from v g = let s = goes_split from (Some v) front (v ∷ rest) g in (refl, s.2.1)

  -- ---- cycles

  leads_goes : (v b : A) (xs : List A) → LeadsThrough f v xs b → Goes f (f v) xs (Some b)
  leads_goes v b [] l = sym l
  leads_goes v b (x ∷ xs) l = (l.0, leads_goes x b xs l.1)

  goes_leads : (v b : A) (xs : List A) → Goes f (f v) xs (Some b) → LeadsThrough f v xs b
  goes_leads v b [] g = sym g
  goes_leads v b (x ∷ xs) g = (g.0, goes_leads x b xs g.1)

  pub cycle_from_ring : (number : A → ℕ) (v : A) (rest : List A) → Goes f (Some v) (v ∷ rest) (Some v) → AreDistinct (v ∷ rest) → ((x : A) → IsIn x rest → number v < number x)
      → IsCycleOf number f (v ∷ rest)
  cycle_from_ring number v rest g distinct low = (goes_leads v v rest g.1, distinct, all_from rest low)

  pub cycle_ring : (number : A → ℕ) (v : A) (rest : List A) → IsCycleOf number f (v ∷ rest) → Goes f (Some v) (v ∷ rest) (Some v)
  cycle_ring number v rest c = (refl, leads_goes v v rest c.0)

  same_way : (v : A) (from : Option A) (xs ys : List A) → (IsIn v xs → ⊥) → (IsIn v ys → ⊥) → Goes f from xs (Some v) → Goes f from ys (Some v) → xs ≡ ys
  same_way v from [] [] p q g h = refl
  same_way v from [] (y ∷ ys) p q g h = absurd (q (inl (same_Some v y (g ∙ h.0))))
  same_way v from (x ∷ xs) [] p q g h = absurd (p (inl (same_Some v x (h ∙ g.0))))
  same_way v from (x ∷ xs) (y ∷ ys) p q g h =
      let e : x ≡ y = same_Some x y (sym g.0 ∙ h.0) in
      let rest : xs ≡ ys = same_way v (f x) xs ys (λ i. p (inr i)) (λ i. q (inr i)) g.1 (subst (λ (z : A). Goes f (f z) ys (Some v)) (sym e) h.1) in
      ap (λ (z : A). z ∷ xs) e ∙ ap (λ (l : List A). y ∷ l) rest

  -- a number at most that of each of a cycle is that of its first
  first_lowest : (number : A → ℕ) (v x : A) (rest : List A) → IsCycleOf number f (v ∷ rest) → IsIn x (v ∷ rest) → number v ≤ number x
  first_lowest number v x rest c (inl e) = let same : number x ≡ number v = ap number e in omega (arith, same)
  first_lowest number v x rest c (inr i) = let low : number v < number x = all_in _ x rest c.2 i in omega (arith, low)

  -- two cycles that share one are one
  pub one_cycle : (number : A → ℕ) → ((x y : A) → number x ≡ number y → x ≡ y) → (v w : A) (xs ys : List A) → IsCycleOf number f (v ∷ xs) → IsCycleOf number f (w ∷ ys)
      → IsIn v (w ∷ ys) → (v ∷ xs) ≡ (w ∷ ys)
  one_cycle number exact v w xs ys c d i =
      let ring : Goes f (Some v) (v ∷ xs) (Some v) = cycle_ring number v xs c in
      let other : Goes f (Some w) (w ∷ ys) (Some w) = cycle_ring number w ys d in
      let back = ring_back w ys other v i in
      let there : IsIn w (v ∷ xs) = stays_within (v ∷ xs) (ring_closed v xs ring) (f v) back.0 w (λ y e. ring_closed v xs ring v y (inl refl) e) back.1 in
      let low : number w ≤ number v = first_lowest number w v ys d i in
      let high : number v ≤ number w = first_lowest number v w xs c there in
      let same : v ≡ w = exact v w (omega (arith, low, high)) in
      let rest : xs ≡ ys =
      same_way v (f v) xs ys (λ j. all_in _ v xs c.1.0 j refl) (λ j. all_in _ v ys (subst (λ (z : A). AllByRecursion (λ y. z ≡ y → ⊥) ys) (sym same) d.1.0) j refl) ring.1
      (subst (λ (z : A). Goes f (f z) ys (Some z)) (sym same) other.1) in
      ap (λ (z : A). z ∷ xs) same ∙ ap (λ (l : List A). w ∷ l) rest
