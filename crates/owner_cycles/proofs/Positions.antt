-- The cycles of a row of positions are those of the threads at these positions.
use Rattle.std.specs.Prelude.{◌≡◌, ◌⊎◌, ℕ, ◌<◌, List, [], ◌∷◌, ◌++◌, map, Option, Some, None, length, slice_index_or}
use Rattle.std.specs.List.{AllByRecursion, Contains}
use Rattle.std.proofs.Common.{refl, inl, inr, sym, ap, subst, ◌∙◌, arith, zero, suc, ◌+◌, get_or}
use Rattle.std.proofs.lemmas.List.{get_or-map, get_or_append_left, length-map}
use Rattle.std.proofs.Math.Seq.{get_or-append_seam}
use Rattle.lock_word.specs.declared.ThreadId.{ThreadId}
use Rattle.step_core.specs.Machine.{State, Thread}
use Rattle.step_core.specs.Cycles.{next, owner_but, wanted_by, LeadsThrough, AreDistinct, IsCycleOf, AreCyclesOf, AscendByFirst, first_number, AreCycles}
use Rattle.owner_cycles.specs.Rows.{leads_to, IsRow, IsIn, AreCyclesOfRow}
use Rattle.owner_cycles.specs.Threads.{IsLive, Ascend, thread_at_position, IsPosition, IsRowOf, HasPositions, AreNexts}
use Rattle.owner_cycles.proofs.Walks.{all_in, all_from, contains_in}
use Rattle.owner_cycles.proofs.RowWalks.{leads_within}

-- ---- lists

pub in_by_position : {A : Type 0} (xs : List A) (k : ℕ) (d : A) → k < length xs → IsIn (get_or xs k d) xs
in_by_position [] k d within = absurd (omega (arith, within))
in_by_position (x ∷ xs) zero d within = inl refl
in_by_position (x ∷ xs) (suc k) d within = inr (in_by_position xs k d (omega (arith, within)))

pub in_contains : {A : Type 0} (xs : List A) (x : A) → Contains xs x → IsIn x xs
in_contains xs x (k, within, e) = subst (λ y. IsIn y xs) e (in_by_position xs k x within)

pub in_map : {A B : Type 0} (g : A → B) (x : A) (xs : List A) → IsIn x xs → IsIn (g x) (map g xs)
in_map g x [] i = absurd i
in_map g x (y ∷ xs) (inl e) = inl (ap g e)
in_map g x (y ∷ xs) (inr i) = inr (in_map g x xs i)

pub from_map : {A B : Type 0} (g : A → B) (y : B) (xs : List A) → IsIn y (map g xs) → (x : A) × IsIn x xs × (y ≡ g x)
from_map g y [] i = absurd i
from_map g y (x ∷ xs) (inl e) = (x, inl refl, e)
from_map g y (x ∷ xs) (inr i) = let h = from_map g y xs i in (h.0, inr h.1, h.2)

pub three_ways : (a b : ℕ) → (a < b) ⊎ ((a ≡ b) ⊎ (b < a))
three_ways zero zero = inr (inl refl)
three_ways zero (suc b) = inl (omega arith)
three_ways (suc a) zero = inr (inr (omega arith))
three_ways (suc a) (suc b) = by_case (three_ways a b)
  where
    by_case : (a < b) ⊎ ((a ≡ b) ⊎ (b < a)) → (suc a < suc b) ⊎ ((suc a ≡ suc b) ⊎ (suc b < suc a))
    by_case (inl h) = inl (omega (arith, h))
    by_case (inr (inl h)) = inr (inl (ap suc h))
    by_case (inr (inr h)) = inr (inr (omega (arith, h)))

-- ---- threads by rising number

pub rises : (ts : List ThreadId) → Ascend ts → (i j : ℕ) → i < j → j < length ts → (thread_at_position ts i).0 < (thread_at_position ts j).0
rises [] up i j below within = absurd (omega (arith, within))
rises (t ∷ ts) up i zero below within = absurd (omega (arith, below))
rises (t ∷ ts) up zero (suc j) below within = all_in (λ u. t.0 < u.0) (thread_at_position ts j) ts up.0 (in_by_position ts j (record { 0 = 0 }) (omega (arith, within)))
rises (t ∷ ts) up (suc i) (suc j) below within = rises ts up.1 i j (omega (arith, below)) (omega (arith, within))

pub position_in : (ts : List ThreadId) (t : ThreadId) → IsIn t ts → (k : ℕ) × (k < length ts) × (thread_at_position ts k ≡ t)
position_in [] t i = absurd i
position_in (u ∷ ts) t (inl e) = (0, omega arith, sym e)
position_in (u ∷ ts) t (inr i) = let h = position_in ts t i in (suc h.0, omega (arith, h.1), h.2)

abbrev number : ThreadId → ℕ
number t = t.0

abbrev itself : ℕ → ℕ
itself k = k

module _ (f : ThreadId → Option ThreadId) (ts : List ThreadId) (row : List (Option ℕ)) (up : Ascend ts) (is : IsRowOf f ts row) where
  below : (i j : ℕ) → i < length ts → j < length ts → (thread_at_position ts i).0 < (thread_at_position ts j).0 → i < j
  below i j in_i in_j h = by_case (three_ways i j)
    where
      by_case : (i < j) ⊎ ((i ≡ j) ⊎ (j < i)) → i < j
      by_case (inl e) = e
      by_case (inr (inl e)) = let same : (thread_at_position ts i).0 ≡ (thread_at_position ts j).0 = ap (λ (k : ℕ). (thread_at_position ts k).0) e in absurd (omega (arith, same, h))
      by_case (inr (inr e)) = let other : (thread_at_position ts j).0 < (thread_at_position ts i).0 = rises ts up j i e in_i in absurd (omega (arith, other, h))

  one_position : (i j : ℕ) → i < length ts → j < length ts → thread_at_position ts i ≡ thread_at_position ts j → i ≡ j
  one_position i j in_i in_j e = by_case (three_ways i j)
    where
      same : (thread_at_position ts i).0 ≡ (thread_at_position ts j).0
      same = ap number e

      by_case : (i < j) ⊎ ((i ≡ j) ⊎ (j < i)) → i ≡ j
      by_case (inl h) = let other : (thread_at_position ts i).0 < (thread_at_position ts j).0 = rises ts up i j h in_j in absurd (omega (arith, other, same))
      by_case (inr (inl h)) = h
      by_case (inr (inr h)) = let other : (thread_at_position ts j).0 < (thread_at_position ts i).0 = rises ts up j i h in_i in absurd (omega (arith, other, same))

  positioned : (o : Option ThreadId) (j : ℕ) → IsPosition ts o (Some j) → (j < length ts) × (o ≡ Some (thread_at_position ts j))
  positioned None j h = absurd (cc)
  positioned (Some t) j h = (h.0, ap (λ (u : ThreadId). Some u) (sym h.1))

  row_within : (i j : ℕ) → leads_to row i ≡ Some j → i < length ts
  row_within i j e = subst (λ (n : ℕ). i < n) is.0 (leads_within row i j e)

  row_leads : (i j : ℕ) → leads_to row i ≡ Some j → (j < length ts) × (f (thread_at_position ts i) ≡ Some (thread_at_position ts j))
  row_leads i j e = positioned (f (thread_at_position ts i)) j (subst (IsPosition ts (f (thread_at_position ts i))) e (is.1 i (row_within i j e)))

  pub row_is : IsRow row
  row_is i j e = subst (λ (n : ℕ). j < n) (sym is.0) ((row_leads i j e).0)

  leads_row : (i j : ℕ) → i < length ts → j < length ts → f (thread_at_position ts i) ≡ Some (thread_at_position ts j) → leads_to row i ≡ Some j
  leads_row i j in_i in_j e = by_position (leads_to row i) refl (subst (λ (o : Option ThreadId). IsPosition ts o (leads_to row i)) e (is.1 i in_i))
    where
      by_position : (o : Option ℕ) → leads_to row i ≡ o → IsPosition ts (Some (thread_at_position ts j)) o → leads_to row i ≡ Some j
      by_position None there h = absurd (h (in_by_position ts j (record { 0 = 0 }) in_j))
      by_position (Some k) there h = there ∙ ap (λ (n : ℕ). Some n) (one_position k j h.0 in_j h.1)

  -- ---- a cycle of positions is one of threads

  leads_map : (a b : ℕ) (xs : List ℕ) → LeadsThrough (leads_to row) a xs b → LeadsThrough f (thread_at_position ts a) (map (thread_at_position ts) xs) (thread_at_position ts b)
  leads_map a b [] l = (row_leads a b l).1
  leads_map a b (x ∷ xs) l = ((row_leads a x l.0).1, leads_map x b xs l.1)

  leads_range : (a b : ℕ) (xs : List ℕ) → LeadsThrough (leads_to row) a xs b → (x : ℕ) → IsIn x (a ∷ xs) → x < length ts
  leads_range a b [] l x (inl e) = subst (λ (n : ℕ). n < length ts) (sym e) (row_within a b l)
  leads_range a b [] l x (inr none) = absurd none
  leads_range a b (y ∷ ys) l x (inl e) = subst (λ (n : ℕ). n < length ts) (sym e) (row_within a y l.0)
  leads_range a b (y ∷ ys) l x (inr i) = leads_range y b ys l.1 x i

  pub cycle_range : (c : List ℕ) → IsCycleOf itself (leads_to row) c → (x : ℕ) → IsIn x c → x < length ts
  cycle_range [] is x i = absurd i
  cycle_range (v ∷ vs) is x i = leads_range v v vs is.0 x i

  distinct_map : (xs : List ℕ) → ((x : ℕ) → IsIn x xs → x < length ts) → AreDistinct xs → AreDistinct (map (thread_at_position ts) xs)
  distinct_map [] within d = tt
  distinct_map (x ∷ xs) within d = (
    all_from (map (thread_at_position ts) xs) (λ t i e. apart t (from_map (thread_at_position ts) t xs i) e),
    distinct_map xs (λ y i. within y (inr i)) d.1,
  )
    where
      apart : (t : ThreadId) → (y : ℕ) × IsIn y xs × (t ≡ thread_at_position ts y) → thread_at_position ts x ≡ t → ⊥
      apart t (y, i, h) e = all_in _ y xs d.0 i (one_position x y (within x (inl refl)) (within y (inr i)) (e ∙ h))

  cycle_map : (c : List ℕ) → IsCycleOf itself (leads_to row) c → IsCycleOf number f (map (thread_at_position ts) c)
  cycle_map [] is = absurd is
  cycle_map (v ∷ vs) is = (
    leads_map v v vs is.0,
    distinct_map (v ∷ vs) (cycle_range (v ∷ vs) is) is.1,
    all_from (map (thread_at_position ts) vs) (λ t i. low t (from_map (thread_at_position ts) t vs i)),
  )
    where
      low : (t : ThreadId) → (y : ℕ) × IsIn y vs × (t ≡ thread_at_position ts y) → (thread_at_position ts v).0 < t.0
      low t (y, i, h) =
          subst (λ (u : ThreadId). (thread_at_position ts v).0 < u.0) (sym h) (rises ts up v y (all_in _ y vs is.2 i) (cycle_range (v ∷ vs) is y (inr i)))

  -- ---- and a cycle of threads is one of positions

  positions_of : (cs : List ThreadId) → ((t : ThreadId) → IsIn t cs → IsIn t ts) → (ps : List ℕ) × (map (thread_at_position ts) ps ≡ cs) × ((p : ℕ) → IsIn p ps → p < length ts)
  positions_of [] h = ([], refl, λ p i. absurd i)
  positions_of (c ∷ cs) h =
      let one = position_in ts c (h c (inl refl)) in
      let more = positions_of cs (λ t i. h t (inr i)) in
      (one.0 ∷ more.0, ap (λ (u : ThreadId). u ∷ map (thread_at_position ts) more.0) one.2 ∙ ap (λ (l : List ThreadId). c ∷ l) more.1, λ p i. inside one.0 one.1 more.0 more.2 p i)
    where
      inside : (k : ℕ) → k < length ts → (ps : List ℕ) → ((p : ℕ) → IsIn p ps → p < length ts) → (p : ℕ) → IsIn p (k ∷ ps) → p < length ts
      inside k within ps all p (inl e) = subst (λ (n : ℕ). n < length ts) (sym e) within
      inside k within ps all p (inr i) = all p i

  leads_unmap : (a b : ℕ) (xs : List ℕ) → a < length ts → b < length ts → ((x : ℕ) → IsIn x xs → x < length ts) → LeadsThrough f (thread_at_position ts a) (map (thread_at_position ts) xs) (thread_at_position ts b)
      → LeadsThrough (leads_to row) a xs b
  leads_unmap a b [] in_a in_b within l = leads_row a b in_a in_b l
  leads_unmap a b (x ∷ xs) in_a in_b within l = (leads_row a x in_a (within x (inl refl)) l.0, leads_unmap x b xs (within x (inl refl)) in_b (λ y i. within y (inr i)) l.1)

  distinct_unmap : (xs : List ℕ) → AreDistinct (map (thread_at_position ts) xs) → AreDistinct xs
  distinct_unmap [] d = tt
  distinct_unmap (x ∷ xs) d = (all_from xs (λ y i e. all_in _ (thread_at_position ts y) (map (thread_at_position ts) xs) d.0 (in_map (thread_at_position ts) y xs i) (ap (thread_at_position ts) e)), distinct_unmap xs d.1)

  cycle_unmap : (c : List ℕ) → ((x : ℕ) → IsIn x c → x < length ts) → IsCycleOf number f (map (thread_at_position ts) c) → IsCycleOf itself (leads_to row) c
  cycle_unmap [] within is = absurd is
  cycle_unmap (v ∷ vs) within is = (
    leads_unmap v v vs (within v (inl refl)) (within v (inl refl)) (λ x i. within x (inr i)) is.0,
    distinct_unmap (v ∷ vs) is.1,
    all_from vs (λ x i. below v x (within v (inl refl)) (within x (inr i)) (all_in _ (thread_at_position ts x) (map (thread_at_position ts) vs) is.2 (in_map (thread_at_position ts) x vs i))),
  )

  -- ---- so all of them are

  first_map : (c d : List ℕ) → IsCycleOf itself (leads_to row) c → IsCycleOf itself (leads_to row) d → first_number itself c < first_number itself d
      → first_number number (map (thread_at_position ts) c) < first_number number (map (thread_at_position ts) d)
  first_map [] d is other h = absurd is
  first_map (v ∷ vs) [] is other h = absurd other
  first_map (v ∷ vs) (w ∷ ws) is other h = rises ts up v w h (cycle_range (w ∷ ws) other w (inl refl))

  order_map : (lists : List (List ℕ)) → AllByRecursion (IsCycleOf itself (leads_to row)) lists → AscendByFirst itself lists → AscendByFirst number (map (map (thread_at_position ts)) lists)
  order_map [] all o = tt
  order_map (c ∷ cs) all o = (all_from (map (map (thread_at_position ts)) cs) (λ d i. later d (from_map (map (thread_at_position ts)) d cs i)), order_map cs all.1 o.1)
    where
      later : (d : List ThreadId) → (e : List ℕ) × IsIn e cs × (d ≡ map (thread_at_position ts) e) → first_number number (map (thread_at_position ts) c) < first_number number d
      later d (e, i, h) =
          subst (λ (l : List ThreadId). first_number number (map (thread_at_position ts) c) < first_number number l) (sym h) (first_map c e all.0 (all_in _ e cs all.1 i) (all_in _ e cs o.0 i))

  pub cycles_map : ((t u : ThreadId) → f t ≡ Some u → IsIn t ts) → (lists : List (List ℕ)) → AreCyclesOfRow row lists → AreCyclesOf number f (map (map (thread_at_position ts)) lists)
  cycles_map live lists all = record {
    sound = all_from (map (map (thread_at_position ts)) lists) (λ c i. sound c (from_map (map (thread_at_position ts)) c lists i));
    complete = complete;
    order = order_map lists all.sound all.order;
  }
    where
      sound : (c : List ThreadId) → (e : List ℕ) × IsIn e lists × (c ≡ map (thread_at_position ts) e) → IsCycleOf number f c
      sound c (e, i, h) = subst (IsCycleOf number f) (sym h) (cycle_map e (all_in _ e lists all.sound i))

      leads_live : (a b : ThreadId) (xs : List ThreadId) → LeadsThrough f a xs b → (t : ThreadId) → IsIn t (a ∷ xs) → IsIn t ts
      leads_live a b [] l t (inl e) = subst (λ (u : ThreadId). IsIn u ts) (sym e) (live a b l)
      leads_live a b [] l t (inr none) = absurd none
      leads_live a b (x ∷ xs) l t (inl e) = subst (λ (u : ThreadId). IsIn u ts) (sym e) (live a x l.0)
      leads_live a b (x ∷ xs) l t (inr i) = leads_live x b xs l.1 t i

      complete : (c : List ThreadId) → IsCycleOf number f c → Contains (map (map (thread_at_position ts)) lists) c
      complete [] c = absurd c
      complete (v ∷ vs) c =
          let ps = positions_of (v ∷ vs) (leads_live v v vs c.0) in
          let there : Contains lists ps.0 = all.complete ps.0 (cycle_unmap ps.0 ps.2 (subst (IsCycleOf number f) (sym ps.1) c)) in
          contains_in (v ∷ vs) (map (map (thread_at_position ts)) lists)
          (subst (λ (l : List ThreadId). IsIn l (map (map (thread_at_position ts)) lists)) ps.1 (in_map (map (thread_at_position ts)) ps.0 lists (in_contains lists ps.0 there)))

-- ---- the cycles of owners

next_is_live : (s : State) (t u : ThreadId) → next s t ≡ Some u → IsLive s t
next_is_live s t u e = by_thread (s.thread t) refl e
  where
    by_thread : (x : Option Thread) → s.thread t ≡ x → owner_but s t (wanted_by x) ≡ Some u → IsLive s t
    by_thread None there h = absurd (cc)
    by_thread (Some x) there h = (x, there)

pub cycles_of_owners : (s : State) (ts : List ThreadId) (row : List (Option ℕ)) (lists : List (List ℕ)) → Ascend ts → ((t : ThreadId) → IsLive s t → IsIn t ts) → IsRowOf (next s) ts row → AreCyclesOfRow row lists
    → AreCycles s (map (map (thread_at_position ts)) lists)
cycles_of_owners s ts row lists rising live is all = cycles_map (next s) ts row rising is (λ t u e. live t (next_is_live s t u e)) lists all

pub positions_within : (s : State) (ts : List ThreadId) (row : List (Option ℕ)) (lists : List (List ℕ)) → Ascend ts → IsRowOf (next s) ts row → AreCyclesOfRow row lists
    → (list : List ℕ) (position : ℕ) → IsIn list lists → IsIn position list → position < length ts
positions_within s ts row lists rising is all list position i j = cycle_range (next s) ts row rising is list (all_in _ list lists all.sound i) position j

-- one thread more
pub row_more : (f : ℕ → Option ThreadId) (ts : List ThreadId) (row : List (Option ℕ)) (i : ℕ) (p : Option ℕ) → length row ≡ i
    → ((k : ℕ) → k < i → IsPosition ts (f k) (slice_index_or row k None)) → IsPosition ts (f i) p
    → (k : ℕ) → k < i + 1 → IsPosition ts (f k) (slice_index_or (row ++ p ∷ []) k None)
row_more f ts row i p long before one k under = by_case (three_ways k i)
  where
    by_case : (k < i) ⊎ ((k ≡ i) ⊎ (i < k)) → IsPosition ts (f k) (slice_index_or (row ++ p ∷ []) k None)
    by_case (inl h) = rw (get_or_append_left row (p ∷ []) None k (omega (arith, h, long))) (before k h)
    by_case (inr (inl h)) =
        let here : k ≡ length row = h ∙ sym long in
        let last : slice_index_or (row ++ p ∷ []) k None ≡ p = ap (λ (n : ℕ). slice_index_or (row ++ p ∷ []) n None) here ∙ get_or-append_seam row p [] None in
        subst (λ (o : Option ℕ). IsPosition ts (f k) o) (sym last) (subst (λ (n : ℕ). IsPosition ts (f n) p) (sym h) one)
    by_case (inr (inr h)) = absurd (omega (arith, h, under))

next_at : (f : ThreadId → Option ThreadId) (ts : List ThreadId) (k : ℕ) → k < length ts → slice_index_or (map f ts) k None ≡ f (thread_at_position ts k)
next_at f ts k within = get_or-map f ts k (record { 0 = 0 }) None within

-- the positions of the next ones are the row of the threads
pub row_of_nexts : (s : State) (ts : List ThreadId) (nexts : List (Option ThreadId)) (row : List (Option ℕ)) → AreNexts s ts nexts → HasPositions ts nexts row → IsRowOf (next s) ts row
row_of_nexts s ts nexts row are has =
    let long : length nexts ≡ length ts = ap length are.nexts_are ∙ length-map ts (next s) in (
      has.0 ∙ long,
      λ k within. subst (λ (o : Option ThreadId). IsPosition ts o (slice_index_or row k None))
          (ap (λ (l : List (Option ThreadId)). slice_index_or l k None) are.nexts_are ∙ next_at (next s) ts k within)
          (has.1 k (omega (arith, within, long))),
    )
