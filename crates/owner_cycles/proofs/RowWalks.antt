-- The two walks over a row: which of its numbers are on no cycle, and which cycles there are.
use Rattle.std.specs.Prelude.{◌≡◌, ◌⊎◌, ℕ, ◌<◌, ◌≤◌, Bool, true, List, [], ◌∷◌, ◌++◌, Option, Some, None, length, slice_index_or}
use Rattle.std.specs.List.{Contains}
use Rattle.std.proofs.Common.{refl, inl, inr, sym, ap, subst, ◌∙◌, arith, zero, suc, ◌+◌}
use Rattle.std.proofs.lemmas.Bool.{cases_eq}
use Rattle.std.proofs.lemmas.Option.{same_Some}
use Rattle.std.proofs.lemmas.List.{get_or_past}
use Rattle.step_core.specs.Cycles.{AreDistinct, IsCycleOf, AscendByFirst, first_number}
use Rattle.owner_cycles.specs.Rows.{leads_to, IsRow, IsIn, Goes, IsOnCycle, is_seen, IsWalk, IsRing, AreCleared, AreOffCycles, AreCyclesOfRow, with_path}
use Rattle.owner_cycles.proofs.Walks.{in_right, in_cases, in_split, in_push, in_end, in_front, all_in, all_from, contains_in, forward, ring_entered, ring_on_cycle, ring_of_path, off_cycle, none_leads_back, beside_ring, cycle_from_ring, cycle_ring, one_cycle}

-- whether a number is of a list
in_or_not : (v : ℕ) (xs : List ℕ) → IsIn v xs ⊎ (IsIn v xs → ⊥)
in_or_not v [] = inr (λ i. i)
in_or_not v (x ∷ xs) = by_number (cases_eq v x) (in_or_not v xs)
  where
    by_number : (v ≡ x) ⊎ (v ≡ x → ⊥) → IsIn v xs ⊎ (IsIn v xs → ⊥) → IsIn v (x ∷ xs) ⊎ (IsIn v (x ∷ xs) → ⊥)
    by_number (inl same) more = inl (inl same)
    by_number (inr other) (inl i) = inl (inr i)
    by_number (inr other) (inr not_in) = inr neither
      where
        neither : (v ≡ x) ⊎ IsIn v xs → ⊥
        neither (inl e) = other e
        neither (inr i) = not_in i

module _ (row : List (Option ℕ)) where
  -- what leads somewhere is of the row
  pub leads_within : (v u : ℕ) → leads_to row v ≡ Some u → v < length row
  leads_within v u e = by_number (leq_or v (length row))
    where
      leq_or : (a b : ℕ) → (a < b) ⊎ (b ≤ a)
      leq_or a zero = inr (omega arith)
      leq_or zero (suc b) = inl (omega arith)
      leq_or (suc a) (suc b) = by_case (leq_or a b)
        where
          by_case : (a < b) ⊎ (b ≤ a) → (suc a < suc b) ⊎ (suc b ≤ suc a)
          by_case (inl h) = inl (omega (arith, h))
          by_case (inr h) = inr (omega (arith, h))

      by_number : (v < length row) ⊎ (length row ≤ v) → v < length row
      by_number (inl h) = h
      by_number (inr h) = let never : ◌≡◌ {A = Option ℕ} None (Some u) = sym (get_or_past row v None h) ∙ e in absurd (cc)

  on_within : (v : ℕ) → IsOnCycle (leads_to row) v → v < length row
  on_within v ([], g) = leads_within v v (sym g)
  on_within v (x ∷ xs, g) = leads_within v x g.0

  path_within : IsRow row → (from to : Option ℕ) (xs : List ℕ) → ((y : ℕ) → from ≡ Some y → y < length row) → Goes (leads_to row) from xs to → (x : ℕ) → IsIn x xs → x < length row
  path_within is from to [] h g x i = absurd i
  path_within is from to (z ∷ zs) h g x (inl e) = subst (λ (n : ℕ). n < length row) (sym e) (h z g.0)
  path_within is from to (z ∷ zs) h g x (inr i) = path_within is (leads_to row z) to zs (λ y e. is z y e) g.1 x i

  -- the last of a path leads to its end
  last_leads : (from to : Option ℕ) (x : ℕ) (xs : List ℕ) → Goes (leads_to row) from (x ∷ xs) to → (y : ℕ) × IsIn y (x ∷ xs) × (leads_to row y ≡ to)
  last_leads from to x [] g = (x, inl refl, sym g.1)
  last_leads from to x (z ∷ zs) g = let l = last_leads (leads_to row x) to z zs g.1 in (l.0, inr l.1, l.2)

  -- nobody who is on a cycle and was not seen leads to one who was
  Entered : List Bool → Type 0
  Entered seen = (v u : ℕ) → leads_to row v ≡ Some u → is_seen seen u ≡ true → IsOnCycle (leads_to row) v → is_seen seen v ≡ true

abbrev AllSeen : List Bool → ℕ → Type 0
AllSeen seen i = (v : ℕ) → v < i → is_seen seen v ≡ true

-- a walk from i sees i
sees_start : (f : ℕ → Option ℕ) (before after : List Bool) (i : ℕ) (path : List ℕ) (to : Option ℕ) → IsWalk f before after i path to → is_seen after i ≡ true
sees_start f before after i [] to w = w.1 i w.0.goes
sees_start f before after i (x ∷ xs) to w = w.0.marked i (inl (same_Some i x w.0.goes.0))

sees_more : (f : ℕ → Option ℕ) (before after : List Bool) (i : ℕ) (path : List ℕ) (to : Option ℕ) → IsWalk f before after i path to → AllSeen before i → AllSeen after (i + 1)
sees_more f before after i path to w all v within = by_number (cases_eq v i)
  where
    by_number : (v ≡ i) ⊎ (v ≡ i → ⊥) → is_seen after v ≡ true
    by_number (inl same) = subst (λ (n : ℕ). is_seen after n ≡ true) (sym same) (sees_start f before after i path to w)
    by_number (inr other) = w.0.grown v (all v (omega (arith, within, other)))

-- ---- the first walk

-- what the ring of a path is
record RingOf (f : ℕ → Option ℕ) (path ring : List ℕ) : Type 0 where
  of_path : (x : ℕ) → IsIn x ring → IsIn x path
  on : (x : ℕ) → IsIn x ring → IsOnCycle f x
  all : (x : ℕ) → IsIn x path → IsOnCycle f x → IsIn x ring
  entered : (x y : ℕ) → IsOnCycle f x → f x ≡ Some y → IsIn y ring → IsIn x ring

no_ring : (f : ℕ → Option ℕ) (path ring : List ℕ) → ring ≡ [] → ((x : ℕ) → IsIn x path → IsOnCycle f x → ⊥) → RingOf f path ring
no_ring f path ring e off = record {
  of_path = λ x i. absurd (subst (IsIn x) e i);
  on = λ x i. absurd (subst (IsIn x) e i);
  all = λ x i on. absurd (off x i on);
  entered = λ x y on h i. absurd (subst (IsIn y) e i);
}

ring_of : (row : List (Option ℕ)) (before after : List Bool) (i : ℕ) (path ring : List ℕ) (to : Option ℕ) → IsWalk (leads_to row) before after i path to
    → ((v u : ℕ) → leads_to row v ≡ Some u → is_seen before u ≡ true → IsOnCycle (leads_to row) v → is_seen before v ≡ true)
    → IsRing to path ring → RingOf (leads_to row) path ring
ring_of row before after i path ring None w entered e =
    no_ring (leads_to row) path ring e (off_cycle (leads_to row) (Some i) None path w.0.goes (λ x j h on. none_leads_back (leads_to row) x h on))
ring_of row before after i path ring (Some v) w entered (inl (e, off)) =
    no_ring (leads_to row) path ring e
    (off_cycle (leads_to row) (Some i) (Some v) path w.0.goes (λ x j h on. w.0.fresh x j (entered x v h (by_case (w.0.only v (w.1 v refl))) on)))
  where
    by_case : (is_seen before v ≡ true) ⊎ IsIn v path → is_seen before v ≡ true
    by_case (inl h) = h
    by_case (inr j) = absurd (off j)
ring_of row before after i path ring (Some v) w entered (inr (front, rest, e, whole)) =
    subst (λ (l : List ℕ). RingOf (leads_to row) path l) (sym e) (subst (λ (l : List ℕ). RingOf (leads_to row) l (v ∷ rest)) (sym whole) (record {
      of_path = λ x j. in_right x front (v ∷ rest) j;
      on = ring_on_cycle (leads_to row) v rest ring_goes;
      all = λ x j on. by_part x on (in_cases x front (v ∷ rest) j);
      entered = ring_entered (leads_to row) v rest ring_goes;
    }))
  where
    goes : Goes (leads_to row) (Some i) (front ++ v ∷ rest) (Some v)
    goes = subst (λ (l : List ℕ). Goes (leads_to row) (Some i) l (Some v)) whole w.0.goes

    ring_goes : Goes (leads_to row) (Some v) (v ∷ rest) (Some v)
    ring_goes = ring_of_path (leads_to row) front rest (Some i) v goes

    by_part : (x : ℕ) → IsOnCycle (leads_to row) x → IsIn x front ⊎ IsIn x (v ∷ rest) → IsIn x (v ∷ rest)
    by_part x on (inl j) = absurd (beside_ring (leads_to row) front rest (Some i) v (subst AreDistinct whole w.0.distinct) goes x j on)
    by_part x on (inr j) = j

-- the first walk so far: of the numbers that were seen, just those on no cycle are off
pub record AreJudged (row : List (Option ℕ)) (seen marks : List Bool) (i : ℕ) : Type 0 where
  pub seen_long : length seen ≡ length row
  pub marks_long : length marks ≡ length row
  pub before : (v : ℕ) → v < i → is_seen seen v ≡ true
  pub entered : (v u : ℕ) → leads_to row v ≡ Some u → is_seen seen u ≡ true → IsOnCycle (leads_to row) v → is_seen seen v ≡ true
  pub off : (v : ℕ) → is_seen seen v ≡ true → is_seen marks v ≡ true → IsOnCycle (leads_to row) v → ⊥
  pub on : (v : ℕ) → v < length row → (is_seen marks v ≡ true → ⊥) → IsOnCycle (leads_to row) v

pub judged_more : (row : List (Option ℕ)) (seen after off cleared : List Bool) (i : ℕ) (path ring : List ℕ) (to : Option ℕ) → AreJudged row seen off i → IsWalk (leads_to row) seen after i path to
    → IsRing to path ring → AreCleared off cleared ring → AreJudged row after cleared (i + 1)
judged_more row seen after off cleared i path ring to j w r c = record {
  seen_long = w.0.long ∙ j.seen_long;
  marks_long = c.long ∙ j.marks_long;
  before = sees_more (leads_to row) seen after i path to w j.before;
  entered = λ v u leads there on. by_entered v u leads on (w.0.only u there);
  off = λ v there h on. by_off v h on (w.0.only v there);
  on = λ v within h. by_on v within h (in_or_not v ring);
}
  where
    of : RingOf (leads_to row) path ring
    of = ring_of row seen after i path ring to w j.entered r

    by_entered : (v u : ℕ) → leads_to row v ≡ Some u → IsOnCycle (leads_to row) v → (is_seen seen u ≡ true) ⊎ IsIn u path → is_seen after v ≡ true
    by_entered v u leads on (inl h) = w.0.grown v (j.entered v u leads h on)
    by_entered v u leads on (inr h) = w.0.marked v (of.of_path v (of.entered v u on leads (of.all u h (forward (leads_to row) v u on leads))))

    by_off : (v : ℕ) → is_seen cleared v ≡ true → IsOnCycle (leads_to row) v → (is_seen seen v ≡ true) ⊎ IsIn v path → ⊥
    by_off v h on (inl there) = j.off v there (sym (c.kept v (λ part. c.cleared v part h)) ∙ h) on
    by_off v h on (inr there) = c.cleared v (of.all v there on) h

    by_on : (v : ℕ) → v < length row → (is_seen cleared v ≡ true → ⊥) → IsIn v ring ⊎ (IsIn v ring → ⊥) → IsOnCycle (leads_to row) v
    by_on v within h (inl part) = of.on v part
    by_on v within h (inr other) = j.on v within (λ there. h (c.kept v other ∙ there))

-- the part that is cleared is of the row
pub ring_within : (row : List (Option ℕ)) → IsRow row → (before after : List Bool) (i : ℕ) (path ring : List ℕ) (to : Option ℕ) → i < length row → IsWalk (leads_to row) before after i path to
    → IsRing to path ring → (v : ℕ) → IsIn v ring → v < length row
ring_within row is before after i path ring None within w e v j = absurd (subst (IsIn v) e j)
ring_within row is before after i path ring (Some u) within w (inl (e, off)) v j = absurd (subst (IsIn v) e j)
ring_within row is before after i path ring (Some u) within w (inr (front, rest, e, whole)) v j =
    path_within row is (Some i) (Some u) path (λ y same. subst (λ (n : ℕ). n < length row) (same_Some i y same) within) w.0.goes v
    (subst (IsIn v) (sym whole) (in_right v front (u ∷ rest) (subst (IsIn v) e j)))

-- ---- the second walk

-- the second walk so far: the cycles of what was seen
pub record AreListed (row : List (Option ℕ)) (seen : List Bool) (lists : List (List ℕ)) (i : ℕ) : Type 0 where
  pub long : length seen ≡ length row
  pub before : (v : ℕ) → v < i → is_seen seen v ≡ true
  pub on : (v : ℕ) → v < length row → (is_seen seen v ≡ true → ⊥) → IsOnCycle (leads_to row) v
  pub entered : (v u : ℕ) → leads_to row v ≡ Some u → is_seen seen u ≡ true → IsOnCycle (leads_to row) v → is_seen seen v ≡ true
  pub found : (v : ℕ) → is_seen seen v ≡ true → IsOnCycle (leads_to row) v → (c : List ℕ) × IsIn c lists × IsIn v c
  pub cycles : (c : List ℕ) → IsIn c lists → IsCycleOf (λ (v : ℕ). v) (leads_to row) c × (first_number (λ (v : ℕ). v) c < i)
  pub order : AscendByFirst (λ (v : ℕ). v) lists

pub listed_none : (row : List (Option ℕ)) (off : List Bool) → AreOffCycles row off → AreListed row off [] 0
listed_none row off o = record {
  long = o.long;
  before = λ v within. absurd (omega (arith, within));
  on = o.on;
  entered = λ v u leads there on. absurd (o.off u there (forward (leads_to row) v u on leads));
  found = λ v there on. absurd (o.off v there on);
  cycles = λ c i. absurd i;
  order = tt;
}

-- a walk from a number that was seen
pub listed_skip : (row : List (Option ℕ)) (seen after : List Bool) (lists : List (List ℕ)) (i : ℕ) (path : List ℕ) (to : Option ℕ) → AreListed row seen lists i
    → IsWalk (leads_to row) seen after i path to → path ≡ [] → AreListed row after lists (i + 1)
listed_skip row seen after lists i path to l w e = record {
  long = w.0.long ∙ l.long;
  before = sees_more (leads_to row) seen after i path to w l.before;
  on = λ v within h. l.on v within (λ there. h (w.0.grown v there));
  entered = λ v u leads there on. w.0.grown v (l.entered v u leads (was u there) on);
  found = λ v there on. l.found v (was v there) on;
  cycles = λ c j. ((l.cycles c j).0, let low : first_number (λ (v : ℕ). v) c < i = (l.cycles c j).1 in omega (arith, low));
  order = l.order;
}
  where
    was : (v : ℕ) → is_seen after v ≡ true → is_seen seen v ≡ true
    was v there = by_case (w.0.only v there)
      where
        by_case : (is_seen seen v ≡ true) ⊎ IsIn v path → is_seen seen v ≡ true
        by_case (inl h) = h
        by_case (inr j) = absurd (subst (IsIn v) e j)

ascend_push : (lists : List (List ℕ)) (c : List ℕ) → AscendByFirst (λ (v : ℕ). v) lists → ((d : List ℕ) → IsIn d lists → first_number (λ (v : ℕ). v) d < first_number (λ (v : ℕ). v) c)
    → AscendByFirst (λ (v : ℕ). v) (lists ++ c ∷ [])
ascend_push [] c order low = (tt, tt)
ascend_push (d ∷ ds) c order low = (all_from (ds ++ c ∷ []) (λ e j. by_case e (in_push e c ds j)), ascend_push ds c order.1 (λ e j. low e (inr j)))
  where
    by_case : (e : List ℕ) → IsIn e ds ⊎ (e ≡ c) → first_number (λ (v : ℕ). v) d < first_number (λ (v : ℕ). v) e
    by_case e (inl j) = all_in _ e ds order.0 j
    by_case e (inr same) = subst (λ (l : List ℕ). first_number (λ (v : ℕ). v) d < first_number (λ (v : ℕ). v) l) (sym same) (low d (inl refl))

-- a walk from one that was not: all of its path are on cycles, so it closes where it began
module _ (row : List (Option ℕ)) (is : IsRow row) (seen after : List Bool) (lists : List (List ℕ)) (i : ℕ) (x : ℕ) (xs : List ℕ) (to : Option ℕ)
    (l : AreListed row seen lists i) (w : IsWalk (leads_to row) seen after i (x ∷ xs) to) (within : i < length row) where
  inside : (v : ℕ) → IsIn v (x ∷ xs) → v < length row
  inside = path_within row is (Some i) to (x ∷ xs) (λ y same. subst (λ (n : ℕ). n < length row) (same_Some i y same) within) w.0.goes

  all_on : (v : ℕ) → IsIn v (x ∷ xs) → IsOnCycle (leads_to row) v
  all_on v j = l.on v (inside v j) (w.0.fresh v j)

  began : x ≡ i
  began = sym (same_Some i x w.0.goes.0)

  closes : (o : Option ℕ) → to ≡ o → to ≡ Some x
  closes None e = let last = last_leads row (Some i) to x xs w.0.goes in absurd (none_leads_back (leads_to row) last.0 (last.2 ∙ e) (all_on last.0 last.1))
  closes (Some v) e = e ∙ ap (λ (n : ℕ). Some n) (by_case (w.0.only v (w.1 v e)))
    where
      by_split : (front rest : List ℕ) → (x ∷ xs) ≡ front ++ v ∷ rest → v ≡ x
      by_split [] rest same = sym (first_one same)
        where
          first_one : {a b : ℕ} {as' bs : List ℕ} → (a ∷ as') ≡ (b ∷ bs) → a ≡ b
          first_one h = ap (λ (k : List ℕ). slice_index_or k 0 0) h
      by_split (z ∷ zs) rest same =
          let goes : Goes (leads_to row) (Some i) ((z ∷ zs) ++ v ∷ rest) (Some v) =
          subst (λ (o : Option ℕ). Goes (leads_to row) (Some i) ((z ∷ zs) ++ v ∷ rest) o) e (subst (λ (k : List ℕ). Goes (leads_to row) (Some i) k to) same w.0.goes) in
          absurd (beside_ring (leads_to row) (z ∷ zs) rest (Some i) v (subst AreDistinct same w.0.distinct) goes z (inl refl)
          (all_on z (subst (IsIn z) (sym same) (inl refl))))

      by_case : (is_seen seen v ≡ true) ⊎ IsIn v (x ∷ xs) → v ≡ x
      by_case (inl h) =
          let last = last_leads row (Some i) to x xs w.0.goes in
          absurd (w.0.fresh last.0 last.1 (l.entered last.0 v (last.2 ∙ e) h (all_on last.0 last.1)))
      by_case (inr j) = let s = in_split v (x ∷ xs) j in by_split s.0 s.1 s.2

  ring_goes : Goes (leads_to row) (Some x) (x ∷ xs) (Some x)
  ring_goes = (refl, subst (λ (o : Option ℕ). Goes (leads_to row) (leads_to row x) xs o) (closes to refl) w.0.goes.1)

  new_cycle : IsCycleOf (λ (v : ℕ). v) (leads_to row) (x ∷ xs)
  new_cycle = cycle_from_ring (leads_to row) (λ (v : ℕ). v) x xs ring_goes w.0.distinct low
    where
      low : (v : ℕ) → IsIn v xs → x < v
      low v j = by_number (cases_eq v i) (order v i)
        where
          order : (a b : ℕ) → (a < b) ⊎ (b ≤ a)
          order a zero = inr (omega arith)
          order zero (suc b) = inl (omega arith)
          order (suc a) (suc b) = by_order (order a b)
            where
              by_order : (a < b) ⊎ (b ≤ a) → (suc a < suc b) ⊎ (suc b ≤ suc a)
              by_order (inl h) = inl (omega (arith, h))
              by_order (inr h) = inr (omega (arith, h))

          by_number : (v ≡ i) ⊎ (v ≡ i → ⊥) → (v < i) ⊎ (i ≤ v) → x < v
          by_number (inl same) h = absurd (all_in _ v xs w.0.distinct.0 j (began ∙ sym same))
          by_number (inr other) (inl h) = absurd (w.0.fresh v (inr j) (l.before v h))
          by_number (inr other) (inr h) = let first : x ≡ i = began in omega (arith, first, other, h)

  pub listed_more : AreListed row after (lists ++ (x ∷ xs) ∷ []) (i + 1)
  listed_more = record {
    long = w.0.long ∙ l.long;
    before = sees_more (leads_to row) seen after i (x ∷ xs) to w l.before;
    on = λ v inside h. l.on v inside (λ there. h (w.0.grown v there));
    entered = λ v u leads there on. by_entered v u leads on (w.0.only u there);
    found = λ v there on. by_found v on (w.0.only v there);
    cycles = λ c j. by_cycle c (in_push c (x ∷ xs) lists j);
    order = ascend_push lists (x ∷ xs) l.order (λ d j. let low : first_number (λ (v : ℕ). v) d < i = (l.cycles d j).1 in let first : x ≡ i = began in omega (arith, low, first));
  }
    where
      by_entered : (v u : ℕ) → leads_to row v ≡ Some u → IsOnCycle (leads_to row) v → (is_seen seen u ≡ true) ⊎ IsIn u (x ∷ xs) → is_seen after v ≡ true
      by_entered v u leads on (inl h) = w.0.grown v (l.entered v u leads h on)
      by_entered v u leads on (inr h) = w.0.marked v (ring_entered (leads_to row) x xs ring_goes v u on leads h)

      by_found : (v : ℕ) → IsOnCycle (leads_to row) v → (is_seen seen v ≡ true) ⊎ IsIn v (x ∷ xs) → (c : List ℕ) × IsIn c (lists ++ (x ∷ xs) ∷ []) × IsIn v c
      by_found v on (inl h) = let f = l.found v h on in (f.0, in_front f.0 (x ∷ xs) lists f.1, f.2)
      by_found v on (inr h) = (x ∷ xs, in_end (x ∷ xs) lists, h)

      by_cycle : (c : List ℕ) → IsIn c lists ⊎ (c ≡ (x ∷ xs)) → IsCycleOf (λ (v : ℕ). v) (leads_to row) c × (first_number (λ (v : ℕ). v) c < i + 1)
      by_cycle c (inl j) = ((l.cycles c j).0, let low : first_number (λ (v : ℕ). v) c < i = (l.cycles c j).1 in omega (arith, low))
      by_cycle c (inr same) =
          subst (λ (k : List ℕ). IsCycleOf (λ (v : ℕ). v) (leads_to row) k × (first_number (λ (v : ℕ). v) k < i + 1)) (sym same)
          (new_cycle, let first : x ≡ i = began in omega (arith, first))

pub listed_next : (row : List (Option ℕ)) → IsRow row → (seen after : List Bool) (lists : List (List ℕ)) (i : ℕ) (path : List ℕ) (to : Option ℕ) → AreListed row seen lists i
    → IsWalk (leads_to row) seen after i path to → i < length row → AreListed row after (with_path lists path) (i + 1)
listed_next row is seen after lists i [] to l w within = listed_skip row seen after lists i [] to l w refl
listed_next row is seen after lists i (x ∷ xs) to l w within = listed_more row is seen after lists i x xs to l w within

pub listed_all : (row : List (Option ℕ)) (seen : List Bool) (lists : List (List ℕ)) (i : ℕ) → length row ≤ i → AreListed row seen lists i → AreCyclesOfRow row lists
listed_all row seen lists i all l = record {
  sound = all_from lists (λ c j. (l.cycles c j).0);
  complete = complete;
  order = l.order;
}
  where
    one : (v : ℕ) (vs : List ℕ) → IsCycleOf (λ (n : ℕ). n) (leads_to row) (v ∷ vs) → (d : List ℕ) → IsIn d lists → IsIn v d → (v ∷ vs) ≡ d
    one v vs c [] j h = absurd h
    one v vs c (w ∷ ws) j h = one_cycle (leads_to row) (λ (n : ℕ). n) (λ a b e. e) v w vs ws c ((l.cycles (w ∷ ws) j).0) h

    complete : (c : List ℕ) → IsCycleOf (λ (n : ℕ). n) (leads_to row) c → Contains lists c
    complete [] c = absurd c
    complete (v ∷ vs) c =
        let on : IsOnCycle (leads_to row) v = ring_on_cycle (leads_to row) v vs (cycle_ring (leads_to row) (λ (n : ℕ). n) v vs c) v (inl refl) in
        let within : v < length row = on_within row v on in
        let there = l.found v (l.before v (omega (arith, within, all))) on in
        contains_in (v ∷ vs) lists (subst (λ (d : List ℕ). IsIn d lists) (sym (one v vs c there.0 there.1 there.2)) there.1)
