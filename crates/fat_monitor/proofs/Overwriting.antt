-- Records that are written over those of the same threads.
use Rattle.std.specs.Prelude.{◌≡◌, ◌⊎◌, ◌≤◌, ℕ, zero, suc, ◌+◌, List, [], ◌∷◌, Option, Some, None, IsSome, is_some, false, cond, count_by, nat_eq}
use Rattle.std.proofs.Common.{refl, ap, sym, ◌∙◌, inl, inr, arith, get_or, Contains}
use Rattle.std.proofs.lemmas.Bool.{cases_eq}
use Rattle.std.proofs.lemmas.List.Sums.{sum_by-cons}
use Rattle.std.proofs.lemmas.Option.{same_Some}
use Rattle.std.specs.Option.{option_map}
use Rattle.std.specs.Map.{lookup}
use Rattle.std.specs.Cmp.{nat_cmp_total}
use Rattle.std.specs.FinMap.{same_map, nat_cmp-IsAntisymmetric}
use Rattle.slab.specs.Slab.{Slab, get, Updates, entries, slab_len}
use Rattle.slab.proofs.SlabLemmas.{Contains-cons, Contains-cons_cases, Contains-entries}
use Rattle.fat_monitor.specs.declared.actions.Post.TheVariants.{Out}
use Rattle.fat_monitor.specs.declared.posts.Record.{Record}
use Rattle.fat_monitor.specs.Slots.{value_in, values_of, posted_in, LeadsTo, LeadToRecords, HaveKeys, AreWrittenOver}
use Rattle.fat_monitor.proofs.PostMaps.{get-values_of}

-- ---- one record after the other

-- those of the records that are left are still to be written, and the others are
pub record AreBeingWritten (records old now : Slab Record) (left : List (ℕ × Record)) : Type 0 where
  pub listed : (k : ℕ) (r : Record) → Contains left (k, r) → get records k ≡ Some r
  pub done : (k : ℕ) (r : Record) → get records k ≡ Some r → Contains left (k, r) ⊎ (LeadsTo old r.thread.0 k × (get now k ≡ Some r))
  pub kept : (t k : ℕ) → LeadsTo now t k → LeadsTo old t k
  pub others : (k : ℕ) → get records k ≡ None → get now k ≡ get old k

pub AreBeingWritten-first : (records old : Slab Record) (left : List (ℕ × Record)) → left ≡ entries records → AreBeingWritten records old old left
AreBeingWritten-first records old left all = record {
  listed = λ k r there. (Contains-entries records k r).0 (rw all at there);
  done = λ k r found. inl (rw all ((Contains-entries records k r).1 found));
  kept = λ t k led. led;
  others = λ k none. refl;
}

module _ (records old now new : Slab Record) (left rest : List (ℕ × Record)) (key : ℕ) (r : Record)
    (was : AreBeingWritten records old now left)
    (head : left ≡ (key, r) ∷ rest)
    (led : LeadsTo now r.thread.0 key)
    (written : Updates now new key (Some r)) where
  -- the record that is written stands under its key
  of_key : get records key ≡ Some r
  of_key = was.listed key r (rw head (zero, omega arith, refl))

  same_record : (k : ℕ) (s : Record) → k ≡ key → get records k ≡ Some s → r ≡ s
  same_record k s same found = same_Some r s (sym of_key ∙ ap (λ (j : ℕ). get records j) (sym same) ∙ found)

  stays : (k : ℕ) (s : Record) → (k ≡ key) ⊎ (k ≡ key → ⊥) → get records k ≡ Some s → get now k ≡ Some s → get new k ≡ Some s
  stays k s (inl same) found there = ap (λ (j : ℕ). get new j) same ∙ written.changed ∙ ap (λ (x : Record). Some x) (same_record k s same found)
  stays k s (inr other) found there = written.others k other ∙ there

  here : (k : ℕ) (s : Record) → key ≡ k → r ≡ s → LeadsTo old s.thread.0 k × (get new k ≡ Some s)
  here k s of_k of_s = rw (← of_k, ← of_s) (was.kept r.thread.0 key led, written.changed)

  done_now : (k : ℕ) (s : Record) → get records k ≡ Some s → Contains left (k, s) ⊎ (LeadsTo old s.thread.0 k × (get now k ≡ Some s))
      → Contains rest (k, s) ⊎ (LeadsTo old s.thread.0 k × (get new k ≡ Some s))
  done_now k s found (inl there) =
      elim (Contains-cons_cases _ _ _ (rw head at there)) [
        | inl same ↦ inr (here k s (ap (λ e. e.0) same) (ap (λ e. e.1) same))
        | inr later ↦ inl later
      ]
  done_now k s found (inr before) = inr (before.0, stays k s (cases_eq k key) found before.1)

  kept_now : (t k : ℕ) → (k ≡ key) ⊎ (k ≡ key → ⊥) → LeadsTo new t k → LeadsTo old t k
  kept_now t k (inl same) leads =
      let is : Some r ≡ Some leads.0 = sym written.changed ∙ ap (λ (j : ℕ). get new j) (sym same) ∙ leads.1 in
      let of_t : r.thread.0 ≡ t = ap (λ (x : Record). x.thread.0) (same_Some _ _ is) ∙ leads.2 in
      rw (← of_t, same) (was.kept r.thread.0 key led)
  kept_now t k (inr other) leads = was.kept t k (leads.0, sym (written.others k other) ∙ leads.1, leads.2)

  pub AreBeingWritten-next : AreBeingWritten records old new rest
  AreBeingWritten-next = record {
    listed = λ k s there. was.listed k s (rw head (Contains-cons _ _ _ there));
    done = λ k s found. done_now k s found (was.done k s found);
    kept = λ t k. kept_now t k (cases_eq k key);
    others = λ k none. written.others k (λ same. absurd (let e : None ≡ Some r = sym none ∙ ap (λ (j : ℕ). get records j) same ∙ of_key in cc)) ∙ was.others k none;
  }

pub AreWrittenOver-last : (records old new : Slab Record) (left : List (ℕ × Record)) → left ≡ [] → AreBeingWritten records old new left → AreWrittenOver records old new
AreWrittenOver-last records old new left none being = record {
  led = λ k r found. (done_at k r found).0;
  written = λ k r found. (done_at k r found).1;
  others = being.others;
}
  where
    done_at : (k : ℕ) (r : Record) → get records k ≡ Some r → LeadsTo old r.thread.0 k × (get new k ≡ Some r)
    done_at k r found =
        elim (being.done k r found) [
          | inl there ↦ absurd (let e = rw none at there in omega (arith, e.1))
          | inr done ↦ done
        ]

-- ---- as many slots with a value

module _ {X : Type 0} where
  counted : (x : Option X) (xs : List (Option X)) → count_by is_some (x ∷ xs) ≡ cond (is_some x) 1 0 + count_by is_some xs
  counted x xs = sum_by-cons (λ o. cond (is_some o) 1 0) x xs

  -- where each slot with a value has one in the other list too, that has no fewer
  no_fewer : (xs ys : List (Option X)) → ((k : ℕ) → IsSome (get_or xs k None) → IsSome (get_or ys k None)) → count_by is_some xs ≤ count_by is_some ys
  no_fewer [] ys h = omega arith
  no_fewer (None ∷ xs) [] h = omega (arith, no_fewer xs [] (λ k. h (suc k)), counted None xs)
  no_fewer (Some x ∷ xs) [] h = absurd (let e = h 0 refl in cc)
  no_fewer (None ∷ xs) (None ∷ ys) h = omega (arith, no_fewer xs ys (λ k. h (suc k)), counted None xs, counted None ys)
  no_fewer (None ∷ xs) (Some y ∷ ys) h = omega (arith, no_fewer xs ys (λ k. h (suc k)), counted None xs, counted (Some y) ys)
  no_fewer (Some x ∷ xs) (None ∷ ys) h = absurd (let e = h 0 refl in cc)
  no_fewer (Some x ∷ xs) (Some y ∷ ys) h = omega (arith, no_fewer xs ys (λ k. h (suc k)), counted (Some x) xs, counted (Some y) ys)

  -- and where it has as many, it has no other
  pub no_other : (xs ys : List (Option X)) → ((k : ℕ) → IsSome (get_or xs k None) → IsSome (get_or ys k None)) → count_by is_some xs ≡ count_by is_some ys
      → (k : ℕ) → get_or xs k None ≡ None → get_or ys k None ≡ None
  no_other xs [] h same k none = refl
  no_other [] (Some y ∷ ys) h same k none = absurd (omega (arith, same, counted (Some y) ys))
  no_other [] (None ∷ ys) h same zero none = refl
  no_other [] (None ∷ ys) h same (suc k) none = no_other [] ys (λ j some. absurd (cc)) (omega (arith, same, counted None ys)) k refl
  no_other (None ∷ xs) (Some y ∷ ys) h same k none = absurd (omega (arith, no_fewer xs ys (λ j. h (suc j)), same, counted None xs, counted (Some y) ys))
  no_other (None ∷ xs) (None ∷ ys) h same zero none = refl
  no_other (None ∷ xs) (None ∷ ys) h same (suc k) none = no_other xs ys (λ j. h (suc j)) (omega (arith, same, counted None xs, counted None ys)) k none
  no_other (Some x ∷ xs) (None ∷ ys) h same k none = absurd (let e = h 0 refl in cc)
  no_other (Some x ∷ xs) (Some y ∷ ys) h same zero none = absurd (cc)
  no_other (Some x ∷ xs) (Some y ∷ ys) h same (suc k) none = no_other xs ys (λ j. h (suc j)) (omega (arith, same, counted (Some x) xs, counted (Some y) ys)) k none

-- ---- records of the same threads

module _ (records over new : Slab Record) (ks ks' : List (ℕ × ℕ))
    (keyed : LeadToRecords records ks)
    (recorded : HaveKeys records ks)
    (keyed' : LeadToRecords over ks')
    (recorded' : HaveKeys over ks')
    (as_many : slab_len over ≡ slab_len records)
    (done : AreWrittenOver records over new) where
  led_some : (k : ℕ) (o : Option Record) → get records k ≡ o → IsSome o → IsSome (get over k)
  led_some k None e some = absurd (cc)
  led_some k (Some r) e some = rw ((done.led k r e).1) refl

  vacant : (k : ℕ) → get records k ≡ None → get over k ≡ None
  vacant k none = no_other records.slots over.slots (λ j some. led_some j (get records j) refl some) (sym as_many) k none

  same_slot : (k : ℕ) → get new k ≡ get records k
  same_slot k = by (get records k) refl
    where
      by : (o : Option Record) → get records k ≡ o → get new k ≡ get records k
      by None e = done.others k e ∙ vacant k e ∙ sym e
      by (Some r) e = done.written k r e ∙ sym e

  -- the same threads have the same keys
  key_there : (q k : ℕ) → lookup (nat_eq q) ks ≡ Some k → lookup (nat_eq q) ks' ≡ Some k
  key_there q k e =
      let at = keyed q k e in
      let over_at = done.led k at.0 at.1 in
      ap (λ (j : ℕ). lookup (nat_eq j) ks') (sym (over_at.2 ∙ at.2)) ∙ recorded' k over_at.0 over_at.1

  key_back : (q k : ℕ) → lookup (nat_eq q) ks' ≡ Some k → lookup (nat_eq q) ks ≡ Some k
  key_back q k e = by (get records k) refl
    where
      by : (o : Option Record) → get records k ≡ o → lookup (nat_eq q) ks ≡ Some k
      by None none = absurd (let n : None ≡ Some (keyed' q k e).0 = sym (vacant k none) ∙ (keyed' q k e).1 in cc)
      by (Some r) found =
          let over_at = done.led k r found in
          let one : over_at.0 ≡ (keyed' q k e).0 = same_Some _ _ (sym over_at.1 ∙ (keyed' q k e).1) in
          let of_q : q ≡ r.thread.0 = sym (keyed' q k e).2 ∙ ap (λ (x : Record). x.thread.0) (sym one) ∙ over_at.2 in
          ap (λ (j : ℕ). lookup (nat_eq j) ks) of_q ∙ recorded k r found

  same_key : (q : ℕ) → lookup (nat_eq q) ks' ≡ lookup (nat_eq q) ks
  same_key q = by (lookup (nat_eq q) ks') refl (lookup (nat_eq q) ks) refl
    where
      by : (o : Option ℕ) → lookup (nat_eq q) ks' ≡ o → (p : Option ℕ) → lookup (nat_eq q) ks ≡ p → lookup (nat_eq q) ks' ≡ lookup (nat_eq q) ks
      by (Some k) e p f = e ∙ sym (key_back q k e)
      by None e None f = e ∙ sym f
      by None e (Some k) f = key_there q k f ∙ sym f

  pub LeadToRecords-over : LeadToRecords new ks'
  LeadToRecords-over q k e = let at = keyed q k (key_back q k e) in (at.0, same_slot k ∙ at.1, at.2)

  pub HaveKeys-over : HaveKeys new ks'
  HaveKeys-over k r e = key_there r.thread.0 k (recorded k r (sym (same_slot k) ∙ e))

  same_values : {X : Type 0} (read : Record → X) (none : X) → values_of read none new ks' ≡ values_of read none records ks
  same_values read none =
      same_map nat_cmp_total nat_cmp-IsAntisymmetric (values_of read none new ks') (values_of read none records ks)
      (λ q. rw (get-values_of read none new ks' q, get-values_of read none records ks q, same_key q) (by_key (lookup (nat_eq q) ks)))
    where
      by_key : (o : Option ℕ) → option_map (λ k. value_in read none (get new k)) o ≡ option_map (λ k. value_in read none (get records k)) o
      by_key None = refl
      by_key (Some k) = rw (same_slot k) refl

  pub posted_in-over : posted_in new ks' ≡ posted_in records ks
  posted_in-over = rw (same_values (λ r. r.post) Out, same_values (λ r. r.node.0) 0, same_values (λ r. r.flag) false, same_values (λ r. r.owned) 0) refl
