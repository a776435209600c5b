-- What slots and positions show, and what stays of that when they change.
use Rattle.std.specs.Prelude.{◌≡◌, ◌⊎◌, ℕ, zero, suc, ◌<◌, ◌==◌, List, [], ◌∷◌, ◌++◌, Option, Some, None, cond, length, slice_get, slice_set, slice_index_or, map as list_map}
use Rattle.std.proofs.Common.{refl, ap, sym, ◌∙◌, inl, inr, subst, arith}
use Rattle.std.proofs.lemmas.Bool.{cases_eq, eq-eqb, ne_eqb}
use Rattle.std.proofs.lemmas.Option.{same_Some, slice_get_past, slice_get_within, slice_get-map, slice_get_read}
use Rattle.std.proofs.lemmas.Map.Made.{lookup-map_values}
use Rattle.std.specs.Option.{option_map}
use Rattle.std.specs.Map.{lookup, keys_of}
use Rattle.std.specs.List.Sorted.{IsStrictlySortedBy}
use Rattle.std.specs.BTreeMap.{is_at}
use Rattle.std.specs.Ordering.{nat_cmp}
use Rattle.std.specs.Cmp.{nat_cmp_total}
use Rattle.std.specs.FinMap as map
use Rattle.std.specs.FinMap.{same_map, nat_cmp-IsAntisymmetric}
use Rattle.lock_word.specs.declared.ObjectId.{ObjectId}
use Rattle.fat_monitor.proofs.PostMaps.{get-insert_by}
use Rattle.jls_check.specs.declared.threads.ThreadRecord.{ThreadRecord}
use Rattle.jls_check.specs.declared.slots.Slot.{Slot}
use Rattle.jls_check.specs.LiveThreads.{live_in, notified_record, all_back}
use Rattle.jls_check.specs.Slots.{record_in, records_in, LeadToSlots, HavePositions, notified_slot}
use Rattle.jls_check.proofs.LiveMaps.{get_shown, get-all_back, at_key, len_shown}

-- ---- slots as a function of the position, and positions as one of the number

abbrev pub Leads : (ℕ → Option Slot) → (ℕ → Option ℕ) → Type 0
Leads a p = (t k : ℕ) → p t ≡ Some k → (s : Slot) × (a k ≡ Some s) × (s.number ≡ t)

abbrev pub Haves : (ℕ → Option Slot) → (ℕ → Option ℕ) → Type 0
Haves a p = (k : ℕ) (s : Slot) → a k ≡ Some s → p s.number ≡ Some k

abbrev pub value_at : (ℕ → Option Slot) → (ℕ → Option ℕ) → ℕ → Option ThreadRecord
value_at a p q = option_map (λ k. record_in (a k)) (p q)

-- the slot at the position of a number is the number's
number_at : (a : ℕ → Option Slot) (p : ℕ → Option ℕ) (t k : ℕ) (s : Slot) → Leads a p → p t ≡ Some k → a k ≡ Some s → s.number ≡ t
number_at a p t k s leads found e =
    ap (λ (x : Slot). x.number) (same_Some _ _ (sym e ∙ (leads t k found).1)) ∙ (leads t k found).2

-- two numbers with one position are one
one_position : (a : ℕ → Option Slot) (p : ℕ → Option ℕ) (t q k : ℕ) → Leads a p → p t ≡ Some k → p q ≡ Some k → q ≡ t
one_position a p t q k leads found e = sym (leads q k e).2 ∙ number_at a p t k (leads q k e).0 leads found (leads q k e).1

-- ---- a slot is put at a position that is nobody's, or its number's

module _ (a a' : ℕ → Option Slot) (p p' : ℕ → Option ℕ) (k : ℕ) (new : Slot)
    (leads : Leads a p)
    (haves : Haves a p)
    (alone : (q : ℕ) → p q ≡ Some k → q ≡ new.number)
    (mine : (j : ℕ) → p new.number ≡ Some j → j ≡ k)
    (put : a' k ≡ Some new)
    (others : (j : ℕ) → (j ≡ k → ⊥) → a' j ≡ a j)
    (led : p' new.number ≡ Some k)
    (rest : (q : ℕ) → (q ≡ new.number → ⊥) → p' q ≡ p q) where
  -- another number's position is another one
  elsewhere : (q j : ℕ) → (q ≡ new.number → ⊥) → p q ≡ Some j → a' j ≡ a j
  elsewhere q j other e = others j (λ same. other (alone q (e ∙ ap (λ (i : ℕ). Some i) same)))

  pub value-put : (q : ℕ) → value_at a' p' q ≡ cond (q == new.number) (Some new.kept) (value_at a p q)
  value-put q = by (cases_eq q new.number)
    where
      stays : (q ≡ new.number → ⊥) → (o : Option ℕ) → p q ≡ o → option_map (λ k. record_in (a' k)) o ≡ option_map (λ k. record_in (a k)) o
      stays other None e = refl
      stays other (Some j) e = rw (elsewhere q j other e) refl

      by : (q ≡ new.number) ⊎ (q ≡ new.number → ⊥) → value_at a' p' q ≡ cond (q == new.number) (Some new.kept) (value_at a p q)
      by (inl same) = rw (eq-eqb q new.number same, same, led, put) refl
      by (inr other) = rw (ne_eqb q new.number other, rest q other) (stays other (p q) refl)

  pub leads-put : Leads a' p'
  leads-put q j e = by (cases_eq q new.number)
    where
      by : (q ≡ new.number) ⊎ (q ≡ new.number → ⊥) → (s : Slot) × (a' j ≡ Some s) × (s.number ≡ q)
      by (inl same) = let at : k ≡ j = same_Some k j (sym led ∙ ap p' (sym same) ∙ e) in (new, rw (← at) put, sym same)
      by (inr other) =
          let was : p q ≡ Some j = sym (rest q other) ∙ e in
          ((leads q j was).0, elsewhere q j other was ∙ (leads q j was).1, (leads q j was).2)

  pub haves-put : Haves a' p'
  haves-put j s e = by (cases_eq j k)
    where
      by : (j ≡ k) ⊎ (j ≡ k → ⊥) → p' s.number ≡ Some j
      by (inl same) =
          let is : new ≡ s = same_Some new s (sym put ∙ ap a' (sym same) ∙ e) in
          ap (λ (x : Slot). p' x.number) (sym is) ∙ led ∙ ap (λ (i : ℕ). Some i) (sym same)
      by (inr other) =
          let was : p s.number ≡ Some j = haves j s (sym (others j other) ∙ e) in
          rest s.number (λ same. other (mine j (ap p (sym same) ∙ was))) ∙ was

-- ---- a number loses its position, and the slot there goes

module _ (a a' : ℕ → Option Slot) (p p' : ℕ → Option ℕ) (t k : ℕ)
    (leads : Leads a p)
    (haves : Haves a p)
    (found : p t ≡ Some k)
    (gone : a' k ≡ None)
    (others : (j : ℕ) → (j ≡ k → ⊥) → a' j ≡ a j)
    (led : p' t ≡ None)
    (rest : (q : ℕ) → (q ≡ t → ⊥) → p' q ≡ p q) where
  aside : (q j : ℕ) → (q ≡ t → ⊥) → p q ≡ Some j → a' j ≡ a j
  aside q j other e = others j (λ same. other (one_position a p t q k leads found (e ∙ ap (λ (i : ℕ). Some i) same)))

  pub value-drop : (q : ℕ) → value_at a' p' q ≡ cond (q == t) None (value_at a p q)
  value-drop q = by (cases_eq q t)
    where
      stays : (q ≡ t → ⊥) → (o : Option ℕ) → p q ≡ o → option_map (λ k. record_in (a' k)) o ≡ option_map (λ k. record_in (a k)) o
      stays other None e = refl
      stays other (Some j) e = rw (aside q j other e) refl

      by : (q ≡ t) ⊎ (q ≡ t → ⊥) → value_at a' p' q ≡ cond (q == t) None (value_at a p q)
      by (inl same) = rw (eq-eqb q t same, same, led) refl
      by (inr other) = rw (ne_eqb q t other, rest q other) (stays other (p q) refl)

  pub leads-drop : Leads a' p'
  leads-drop q j e = by (cases_eq q t)
    where
      by : (q ≡ t) ⊎ (q ≡ t → ⊥) → (s : Slot) × (a' j ≡ Some s) × (s.number ≡ q)
      by (inl same) = absurd (let never : None ≡ Some j = sym led ∙ ap p' (sym same) ∙ e in cc)
      by (inr other) =
          let was : p q ≡ Some j = sym (rest q other) ∙ e in
          ((leads q j was).0, aside q j other was ∙ (leads q j was).1, (leads q j was).2)

  pub haves-drop : Haves a' p'
  haves-drop j s e = by (cases_eq j k)
    where
      by : (j ≡ k) ⊎ (j ≡ k → ⊥) → p' s.number ≡ Some j
      by (inl same) = absurd (let never : None ≡ Some s = sym gone ∙ ap a' (sym same) ∙ e in cc)
      by (inr other) =
          let was : p s.number ≡ Some j = haves j s (sym (others j other) ∙ e) in
          rest s.number (λ same. other (same_Some j k (sym was ∙ ap p same ∙ found))) ∙ was

-- ---- lists of slots

pub set_here : (xs : List Slot) (k : ℕ) (x y : Slot) → slice_get xs k ≡ Some y → slice_get (slice_set xs k x) k ≡ Some x
set_here [] k x y e = absurd (cc)
set_here (z ∷ zs) zero x y e = refl
set_here (z ∷ zs) (suc k) x y e = set_here zs k x y e

pub set_elsewhere : (xs : List Slot) (k : ℕ) (x : Slot) (j : ℕ) → (j ≡ k → ⊥) → slice_get (slice_set xs k x) j ≡ slice_get xs j
set_elsewhere [] k x j other = refl
set_elsewhere (z ∷ zs) zero x zero other = absurd (other refl)
set_elsewhere (z ∷ zs) zero x (suc j) other = refl
set_elsewhere (z ∷ zs) (suc k) x zero other = refl
set_elsewhere (z ∷ zs) (suc k) x (suc j) other = set_elsewhere zs k x j (λ e. other (ap suc e))

push_here : (xs : List Slot) (x : Slot) → slice_get (xs ++ x ∷ []) (length xs) ≡ Some x
push_here [] x = refl
push_here (z ∷ zs) x = push_here zs x

push_elsewhere : (xs : List Slot) (x : Slot) (j : ℕ) → (j ≡ length xs → ⊥) → slice_get (xs ++ x ∷ []) j ≡ slice_get xs j
push_elsewhere [] x zero other = absurd (other refl)
push_elsewhere [] x (suc j) other = refl
push_elsewhere (z ∷ zs) x zero other = refl
push_elsewhere (z ∷ zs) x (suc j) other = push_elsewhere zs x j (λ e. other (ap suc e))

-- ---- what slots and positions show

abbrev pub position_in : List (ℕ × ℕ) → ℕ → Option ℕ
position_in positions q = lookup (is_at (nat_cmp q)) positions

pub get_records : (slots : List Slot) (positions : List (ℕ × ℕ)) (q : ℕ) → map.get (records_in slots positions) q ≡ value_at (slice_get slots) (position_in positions) q
get_records slots positions q =
    get_shown (list_map (λ e. (e.0, record_in (slice_get slots e.1))) positions) q
    ∙ lookup-map_values (λ k. record_in (slice_get slots k)) (is_at (nat_cmp q)) positions

-- the record of a number that has a position, and of one that has none
pub record_found : (slots : List Slot) (positions : List (ℕ × ℕ)) (t k : ℕ) (s : Slot) → position_in positions t ≡ Some k → slice_get slots k ≡ Some s → map.get (records_in slots positions) t ≡ Some s.kept
record_found slots positions t k s found there = rw (get_records slots positions t, found, there) refl

pub no_record : (slots : List Slot) (positions : List (ℕ × ℕ)) (t : ℕ) → position_in positions t ≡ None → map.get (records_in slots positions) t ≡ None
no_record slots positions t none = rw (get_records slots positions t, none) refl

-- a number without a record has no position
pub no_position : (slots : List Slot) (positions : List (ℕ × ℕ)) (t : ℕ) → map.get (records_in slots positions) t ≡ None → position_in positions t ≡ None
no_position slots positions t none = by (position_in positions t) (sym (get_records slots positions t) ∙ none)
  where
    by : (o : Option ℕ) → option_map (λ k. record_in (slice_get slots k)) o ≡ None → o ≡ None
    by None e = refl
    by (Some k) e = absurd (cc)

-- a position has a slot
pub slot_there : (slots : List Slot) (positions : List (ℕ × ℕ)) (t k : ℕ) → LeadToSlots slots positions → position_in positions t ≡ Some k → slice_get slots k ≡ None → ⊥
slot_there slots positions t k leads found none = let never : None ≡ Some (leads t k found).0 = sym none ∙ (leads t k found).1 in absurd (cc)

pub position_within : (slots : List Slot) (positions : List (ℕ × ℕ)) (t k : ℕ) → LeadToSlots slots positions → position_in positions t ≡ Some k → k < length slots
position_within slots positions t k leads found = slice_get_within slots k (leads t k found).0 (leads t k found).1

-- the slot that was read there
pub slot_read : (slots : List Slot) (positions : List (ℕ × ℕ)) (t k : ℕ) (s : Slot) → LeadToSlots slots positions → position_in positions t ≡ Some k → s ≡ slice_index_or slots k s → slice_get slots k ≡ Some s
slot_read slots positions t k s leads found is = slice_get_read slots (length slots) k s refl (position_within slots positions t k leads found) is

-- without a live thread there is no record
pub no_live : (r : Option ThreadRecord) → live_in r ≡ None → r ≡ None
no_live None e = refl
no_live (Some x) e = absurd (cc)

-- as many records as positions
mapped_keys : (f : ℕ → ThreadRecord) (es : List (ℕ × ℕ)) → keys_of (list_map (λ e. (e.0, f e.1)) es) ≡ keys_of es
mapped_keys f [] = refl
mapped_keys f (e ∷ es) = ap (λ ks. e.0 ∷ ks) (mapped_keys f es)

mapped_length : (f : ℕ → ThreadRecord) (es : List (ℕ × ℕ)) → length {A = ℕ × ThreadRecord} (list_map (λ e. (e.0, f e.1)) es) ≡ length es
mapped_length f [] = refl
mapped_length f (e ∷ es) = ap suc (mapped_length f es)

pub len_records : (slots : List Slot) (positions : List (ℕ × ℕ)) → IsStrictlySortedBy nat_cmp (keys_of positions) → map.len (records_in slots positions) ≡ length positions
len_records slots positions ordered =
    let f : ℕ → ThreadRecord = λ k. record_in (slice_get slots k) in
    len_shown (list_map (λ e. (e.0, f e.1)) positions) (subst (IsStrictlySortedBy nat_cmp) (sym (mapped_keys f positions)) ordered) ∙ mapped_length f positions

-- ---- a slot is written

module _ (slots : List Slot) (positions : List (ℕ × ℕ)) (t k : ℕ) (old new : Slot)
    (leads : LeadToSlots slots positions)
    (haves : HavePositions slots positions)
    (found : position_in positions t ≡ Some k)
    (there : slice_get slots k ≡ Some old)
    (same : new.number ≡ old.number) where
  of_t : new.number ≡ t
  of_t = same ∙ number_at (slice_get slots) (position_in positions) t k old leads found there

  alone_there : (q : ℕ) → position_in positions q ≡ Some k → q ≡ new.number
  alone_there q e = one_position (slice_get slots) (position_in positions) t q k leads found e ∙ sym of_t

  led_there : position_in positions new.number ≡ Some k
  led_there = ap (position_in positions) of_t ∙ found

  mine_there : (j : ℕ) → position_in positions new.number ≡ Some j → j ≡ k
  mine_there j e = same_Some j k (sym e ∙ led_there)

  pub leads-written : LeadToSlots (slice_set slots k new) positions
  leads-written =
      leads-put (slice_get slots) (slice_get (slice_set slots k new)) (position_in positions) (position_in positions) k new leads haves alone_there mine_there
      (set_here slots k new old there) (set_elsewhere slots k new) led_there (λ q other. refl)

  pub haves-written : HavePositions (slice_set slots k new) positions
  haves-written =
      haves-put (slice_get slots) (slice_get (slice_set slots k new)) (position_in positions) (position_in positions) k new leads haves alone_there mine_there
      (set_here slots k new old there) (set_elsewhere slots k new) led_there (λ q other. refl)

  at_written : (q : ℕ) → map.get (records_in (slice_set slots k new) positions) q ≡ map.get (map.insert (records_in slots positions) t new.kept) q
  at_written q =
      get_records (slice_set slots k new) positions q
      ∙ value-put (slice_get slots) (slice_get (slice_set slots k new)) (position_in positions) (position_in positions) k new leads haves alone_there mine_there
      (set_here slots k new old there) (set_elsewhere slots k new) led_there (λ p other. refl) q
      ∙ ap (λ n. cond (q == n) (Some new.kept) (value_at (slice_get slots) (position_in positions) q)) of_t
      ∙ ap (λ o. cond (q == t) (Some new.kept) o) (sym (get_records slots positions q))
      ∙ sym (get-insert_by (records_in slots positions) t new.kept q)

  pub records-written : records_in (slice_set slots k new) positions ≡ map.insert (records_in slots positions) t new.kept
  records-written = same_map nat_cmp_total nat_cmp-IsAntisymmetric _ _ at_written

-- ---- a slot is added at the end

module _ (slots : List Slot) (positions positions' : List (ℕ × ℕ)) (new : Slot)
    (leads : LeadToSlots slots positions)
    (haves : HavePositions slots positions)
    (none : position_in positions new.number ≡ None)
    (updates : (q : ℕ) → position_in positions' q ≡ cond (is_at (nat_cmp new.number) q) (Some (length slots)) (position_in positions q)) where
  alone_new : (q : ℕ) → position_in positions q ≡ Some (length slots) → q ≡ new.number
  alone_new q e = absurd (slot_there slots positions q (length slots) leads e (slice_get_past slots (length slots) (omega arith)))

  mine_new : (j : ℕ) → position_in positions new.number ≡ Some j → j ≡ length slots
  mine_new j e = absurd (let never : None ≡ Some j = sym none ∙ e in cc)

  led_new : position_in positions' new.number ≡ Some (length slots)
  led_new = updates new.number ∙ ap (λ b. cond b (Some (length slots)) (position_in positions new.number)) (at_key new.number new.number ∙ eq-eqb new.number new.number refl)

  rest_new : (q : ℕ) → (q ≡ new.number → ⊥) → position_in positions' q ≡ position_in positions q
  rest_new q other = updates q ∙ ap (λ b. cond b (Some (length slots)) (position_in positions q)) (at_key new.number q ∙ ne_eqb q new.number other)

  pub leads-added : LeadToSlots (slots ++ new ∷ []) positions'
  leads-added =
      leads-put (slice_get slots) (slice_get (slots ++ new ∷ [])) (position_in positions) (position_in positions') (length slots) new leads haves alone_new mine_new
      (push_here slots new) (push_elsewhere slots new) led_new rest_new

  pub haves-added : HavePositions (slots ++ new ∷ []) positions'
  haves-added =
      haves-put (slice_get slots) (slice_get (slots ++ new ∷ [])) (position_in positions) (position_in positions') (length slots) new leads haves alone_new mine_new
      (push_here slots new) (push_elsewhere slots new) led_new rest_new

  at_added : (q : ℕ) → map.get (records_in (slots ++ new ∷ []) positions') q ≡ map.get (map.insert (records_in slots positions) new.number new.kept) q
  at_added q =
      get_records (slots ++ new ∷ []) positions' q
      ∙ value-put (slice_get slots) (slice_get (slots ++ new ∷ [])) (position_in positions) (position_in positions') (length slots) new leads haves alone_new mine_new
      (push_here slots new) (push_elsewhere slots new) led_new rest_new q
      ∙ ap (λ o. cond (q == new.number) (Some new.kept) o) (sym (get_records slots positions q))
      ∙ sym (get-insert_by (records_in slots positions) new.number new.kept q)

  pub records-added : records_in (slots ++ new ∷ []) positions' ≡ map.insert (records_in slots positions) new.number new.kept
  records-added = same_map nat_cmp_total nat_cmp-IsAntisymmetric _ _ at_added

-- ---- every slot is written

module _ (slots : List Slot) (positions : List (ℕ × ℕ)) (o : ObjectId) where
  pub leads-notified : LeadToSlots slots positions → LeadToSlots (list_map (notified_slot o) slots) positions
  leads-notified leads t k e =
      let s = leads t k e in
      (notified_slot o s.0, slice_get-map (notified_slot o) slots k ∙ ap (option_map (notified_slot o)) s.1, s.2)

  pub haves-notified : HavePositions slots positions → HavePositions (list_map (notified_slot o) slots) positions
  haves-notified haves k s e = by (slice_get slots k) refl (sym (slice_get-map (notified_slot o) slots k) ∙ e)
    where
      by : (x : Option Slot) → slice_get slots k ≡ x → option_map (notified_slot o) x ≡ Some s → position_in positions s.number ≡ Some k
      by None is e = absurd (cc)
      by (Some x) is e = ap (λ (y : Slot). position_in positions y.number) (sym (same_Some (notified_slot o x) s e)) ∙ haves k x is

  value-notified : LeadToSlots slots positions → (q : ℕ) → value_at (slice_get (list_map (notified_slot o) slots)) (position_in positions) q ≡ option_map (notified_record o) (value_at (slice_get slots) (position_in positions) q)
  value-notified leads q = by (position_in positions q) refl
    where
      by : (x : Option ℕ) → position_in positions q ≡ x
          → option_map (λ k. record_in (slice_get (list_map (notified_slot o) slots) k)) x ≡ option_map (notified_record o) (option_map (λ k. record_in (slice_get slots k)) x)
      by None is = refl
      by (Some k) is = rw (slice_get-map (notified_slot o) slots k, (leads q k is).1) refl

  pub records-notified : LeadToSlots slots positions → records_in (list_map (notified_slot o) slots) positions ≡ all_back (records_in slots positions) o
  records-notified leads = same_map nat_cmp_total nat_cmp-IsAntisymmetric _ _ (λ q.
      get_records (list_map (notified_slot o) slots) positions q ∙ value-notified leads q
      ∙ ap (option_map (notified_record o)) (sym (get_records slots positions q)) ∙ sym (get-all_back (records_in slots positions) o q))
