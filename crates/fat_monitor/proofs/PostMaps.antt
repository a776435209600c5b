-- What slots and keys show of the attached threads.
use Rattle.std.specs.Prelude.{◌≡◌, ◌⊎◌, ℕ, zero, suc, ◌+◌, ◌==◌, List, [], ◌∷◌, Option, Some, None, nat_eq, map as list_map, Bool, true, false, if◌then◌else◌, IsSome, is_some}
use Rattle.std.proofs.Common.{refl, ap, sym, ◌∙◌, inl, inr}
use Rattle.std.proofs.lemmas.Option.{same_Some}
use Rattle.std.specs.Map.{lookup, keys_of}
use Rattle.std.specs.List.{IsDistinct, AllByRecursion}
use Rattle.std.proofs.lemmas.Map.Keys.{IsDistinct-head, IsDistinct-tail}
use Rattle.std.proofs.Common.{get_or-set_same, get_or-set_other, get_or, length, ◌<◌, arith}
use Rattle.std.specs.Option.{option_map}
use Rattle.std.specs.Ordering.{nat_cmp}
use Rattle.std.specs.Cmp.{unsigned_tied, nat_cmp_total}
use Rattle.std.specs.FinMap as map
use Rattle.std.specs.FinMap.{get-from_entries, get-insert, get-remove, len-empty, len-insert, same_map, nat_cmp-IsAntisymmetric}
use Rattle.std.specs.FinMap.Entries.{find}
use Rattle.std.proofs.lemmas.Bool.{cases_eq, eq-eqb, ne_eqb}
use Rattle.lock_word.specs.declared.ThreadId.{ThreadId}
use Rattle.wait_lines.specs.declared.links.Node.{Node}
use Rattle.slab.specs.Slab.{Slab, get, with_value, Updates}
use Rattle.fat_monitor.specs.declared.actions.Post.{Post}
use Rattle.fat_monitor.specs.declared.actions.Post.TheVariants.{Out}
use Rattle.fat_monitor.specs.declared.posts.Record.{Record}
use Rattle.fat_monitor.specs.Slots.{value_in, values_of, posted_in, LeadToRecords, HaveKeys}

found_by_test : {X Y : Type 0} (f : X → Y) (b : Bool) (v : X) (l : Option X) (r : Option Y) → r ≡ option_map f l
    → (if b then Some (f v) else r) ≡ option_map f (if b then Some v else l)
found_by_test f true v l r e = refl
found_by_test f false v l r e = e

find-mapped : {X Y : Type 0} (f : X → Y) (q : ℕ) (es : List (ℕ × X)) → find nat_cmp q (list_map (λ e. (e.0, f e.1)) es) ≡ option_map f (lookup (nat_eq q) es)
find-mapped f q [] = refl
find-mapped f q (e ∷ es) =
    rw (unsigned_tied q e.0) (found_by_test f (q == e.0) e.1 (lookup (nat_eq q) es) (find nat_cmp q (list_map (λ x. (x.0, f x.1)) es)) (find-mapped f q es))

-- ---- maps

-- a map at the key that was inserted, and at another
pub get-insert_by : {X : Type 0} (m : map.FinMap nat_cmp X) (k : ℕ) (v : X) (q : ℕ) → map.get (map.insert m k v) q ≡ (if q == k then Some v else map.get m q)
get-insert_by m k v q = get-insert nat_cmp_total m k v q ∙ ap (λ b. if b then Some v else map.get m q) (unsigned_tied q k)

pub get-remove_by : {X : Type 0} (m : map.FinMap nat_cmp X) (k q : ℕ) → map.get (map.remove m k) q ≡ (if q == k then None else map.get m q)
get-remove_by m k q = get-remove nat_cmp_total m k q ∙ ap (λ b. if b then None else map.get m q) (unsigned_tied q k)

-- a key that was new is gone with its value
pub remove_insert : {X : Type 0} (m : map.FinMap nat_cmp X) (k : ℕ) (v : X) → map.get m k ≡ None → map.remove (map.insert m k v) k ≡ m
remove_insert m k v fresh = same_map nat_cmp_total nat_cmp-IsAntisymmetric (map.remove (map.insert m k v) k) m (λ q. at q (cases_eq q k))
  where
    at : (q : ℕ) → (q ≡ k) ⊎ (q ≡ k → ⊥) → map.get (map.remove (map.insert m k v) k) q ≡ map.get m q
    at q (inl same) = rw (get-remove_by (map.insert m k v) k q, eq-eqb q k same, same, fresh) refl
    at q (inr other) = rw (get-remove_by (map.insert m k v) k q, ne_eqb q k other, get-insert_by m k v q, ne_eqb q k other) refl

-- to write the value that is there changes nothing
pub insert_same : {X : Type 0} (m : map.FinMap nat_cmp X) (k : ℕ) (v : X) → map.get m k ≡ Some v → map.insert m k v ≡ m
insert_same m k v there = same_map nat_cmp_total nat_cmp-IsAntisymmetric (map.insert m k v) m (λ q. at q (cases_eq q k))
  where
    at : (q : ℕ) → (q ≡ k) ⊎ (q ≡ k → ⊥) → map.get (map.insert m k v) q ≡ map.get m q
    at q (inl same) = rw (get-insert_by m k v q, eq-eqb q k same, same, there) refl
    at q (inr other) = rw (get-insert_by m k v q, ne_eqb q k other) refl

-- ---- what is read of records

module _ {X : Type 0} (read : Record → X) (none : X) (records : Slab Record) (keys : List (ℕ × ℕ)) where
  -- the value of a thread is read of the slot of its key
  pub get-values_of : (q : ℕ) → map.get (values_of read none records keys) q ≡ option_map (λ k. value_in read none (get records k)) (lookup (nat_eq q) keys)
  get-values_of q =
      get-from_entries nat_cmp_total (list_map (λ e. (e.0, value_in read none (get records e.1))) keys) q ∙ find-mapped (λ k. value_in read none (get records k)) q keys

  pub value-values_of : (t key : ℕ) (r : Record) → lookup (nat_eq t) keys ≡ Some key → get records key ≡ Some r → map.get (values_of read none records keys) t ≡ Some (read r)
  value-values_of t key r found at = rw (get-values_of t, found, at) refl

  pub no_value-values_of : (t : ℕ) → lookup (nat_eq t) keys ≡ None → map.get (values_of read none records keys) t ≡ None
  no_value-values_of t absent = rw (get-values_of t, absent) refl

  -- a thread with a key has a value, and one without has none
  pub valued : (q : ℕ) → is_some (lookup (nat_eq q) keys) ≡ true → IsSome (map.get (values_of read none records keys) q)
  valued q h = rw (get-values_of q) (by_key (lookup (nat_eq q) keys) h)
    where
      by_key : (o : Option ℕ) → is_some o ≡ true → IsSome (option_map (λ k. value_in read none (get records k)) o)
      by_key None h = absurd (cc)
      by_key (Some k) h = refl

  pub unvalued : (q : ℕ) → is_some (lookup (nat_eq q) keys) ≡ false → map.get (values_of read none records keys) q ≡ None
  unvalued q h = rw (get-values_of q) (by_key (lookup (nat_eq q) keys) h)
    where
      by_key : (o : Option ℕ) → is_some o ≡ false → option_map (λ k. value_in read none (get records k)) o ≡ None
      by_key None h = refl
      by_key (Some k) h = absurd (cc)

-- a test for a key that failed found none
pub keyless : (o : Option ℕ) → is_some o ≡ false → o ≡ None
keyless None h = refl
keyless (Some k) h = absurd (cc)

-- a thread without a key has no post
pub not_posted : (records : Slab Record) (keys : List (ℕ × ℕ)) (q : ℕ) → is_some (lookup (nat_eq q) keys) ≡ false → IsSome (map.get (posted_in records keys).posts q) → ⊥
not_posted records keys q h some = let n : is_some {T = Post} None ≡ true = rw (unvalued (λ r. r.post) Out records keys q h) at some in absurd (cc)

-- a thread with a post has a key
pub posted_key : (records : Slab Record) (keys : List (ℕ × ℕ)) (q : ℕ) → IsSome (map.get (posted_in records keys).posts q) → IsSome (lookup (nat_eq q) keys)
posted_key records keys q some = at (is_some (lookup (nat_eq q) keys)) refl
  where
    at : (b : Bool) → is_some (lookup (nat_eq q) keys) ≡ b → IsSome (lookup (nat_eq q) keys)
    at true h = h
    at false h = absurd (not_posted records keys q h some)

-- the record of a thread that has a key
pub record_of : (s : Slab Record) (ks : List (ℕ × ℕ)) (t key : ℕ) (r : Record) → LeadToRecords s ks → lookup (nat_eq t) ks ≡ Some key → get s key ≡ Some r → r.thread.0 ≡ t
record_of s ks t key r keyed found e =
    ap (λ (x : Record). x.thread.0) (same_Some _ _ (sym e ∙ (keyed t key found).1)) ∙ (keyed t key found).2

-- two threads with one key are one
one_record : (s : Slab Record) (ks : List (ℕ × ℕ)) (t q key k : ℕ) → LeadToRecords s ks → lookup (nat_eq t) ks ≡ Some key → lookup (nat_eq q) ks ≡ Some k → k ≡ key → q ≡ t
one_record s ks t q key k keyed found e same =
    sym (record_of s ks q k (keyed q k e).0 keyed e (keyed q k e).1) ∙ record_of s ks t key (keyed q k e).0 keyed found (ap (λ (j : ℕ). get s j) (sym same) ∙ (keyed q k e).1)

-- ---- one thread more

module _ (s s' : Slab Record) (ks ks' : List (ℕ × ℕ)) (t key : ℕ) (new : Record)
    (keyed : LeadToRecords s ks)
    (vacant : get s key ≡ None)
    (put : Updates s s' key (Some new))
    (led : (q : ℕ) → lookup (nat_eq q) ks' ≡ (if t == q then Some key else lookup (nat_eq q) ks)) where
  -- a stored key is not the vacant one
  stored : (k q : ℕ) → lookup (nat_eq q) ks ≡ Some k → get s' k ≡ get s k
  stored k q e = put.others k (λ same. absurd (let h : None ≡ Some (keyed q k e).0 = sym vacant ∙ ap (λ (j : ℕ). get s j) (sym same) ∙ (keyed q k e).1 in cc))

  other_value : {X : Type 0} (read : Record → X) (none : X) (q : ℕ) (o : Option ℕ) → lookup (nat_eq q) ks ≡ o
      → option_map (λ k. value_in read none (get s' k)) o ≡ option_map (λ k. value_in read none (get s k)) o
  other_value read none q None e = refl
  other_value read none q (Some k) e = rw (stored k q e) refl

  value_at : {X : Type 0} (read : Record → X) (none : X) (q : ℕ) → (q ≡ t) ⊎ (q ≡ t → ⊥)
      → map.get (values_of read none s' ks') q ≡ map.get (map.insert (values_of read none s ks) t (read new)) q
  value_at read none q (inl same) =
      rw (get-values_of read none s' ks' q, led q, eq-eqb t q (sym same), put.changed, get-insert_by (values_of read none s ks) t (read new) q, eq-eqb q t same) refl
  value_at read none q (inr other) =
      rw (get-values_of read none s' ks' q, led q, ne_eqb t q (λ e. other (sym e)), get-insert_by (values_of read none s ks) t (read new) q, ne_eqb q t other, get-values_of read none s ks q)
      (other_value read none q (lookup (nat_eq q) ks) refl)

  values_of-put : {X : Type 0} (read : Record → X) (none : X) → values_of read none s' ks' ≡ map.insert (values_of read none s ks) t (read new)
  values_of-put read none =
      same_map nat_cmp_total nat_cmp-IsAntisymmetric (values_of read none s' ks') (map.insert (values_of read none s ks) t (read new)) (λ q. value_at read none q (cases_eq q t))

  pub posted_in-put : posted_in s' ks' ≡ record {
    posts = map.insert (posted_in s ks).posts t new.post;
    nodes = map.insert (posted_in s ks).nodes t new.node.0;
    flags = map.insert (posted_in s ks).flags t new.flag;
    owned = map.insert (posted_in s ks).owned t new.owned;
  }
  posted_in-put = rw (values_of-put (λ r. r.post) Out, values_of-put (λ r. r.node.0) 0, values_of-put (λ r. r.flag) false, values_of-put (λ r. r.owned) 0) refl

  leads_at : new.thread.0 ≡ t → (q k : ℕ) → (q ≡ t) ⊎ (q ≡ t → ⊥) → lookup (nat_eq q) ks' ≡ Some k → (r : Record) × (get s' k ≡ Some r) × (r.thread.0 ≡ q)
  leads_at of_t q k (inl same) e =
      let at : key ≡ k = same_Some key k (rw (led q, eq-eqb t q (sym same)) at e) in
      (new, rw (← at) put.changed, of_t ∙ sym same)
  leads_at of_t q k (inr other) e =
      let was : lookup (nat_eq q) ks ≡ Some k = rw (led q, ne_eqb t q (λ e. other (sym e))) at e in
      ((keyed q k was).0, stored k q was ∙ (keyed q k was).1, (keyed q k was).2)

  pub LeadToRecords-put : new.thread.0 ≡ t → LeadToRecords s' ks'
  LeadToRecords-put of_t q k e = leads_at of_t q k (cases_eq q t) e

-- each record has its key
module _ (s s' : Slab Record) (ks ks' : List (ℕ × ℕ)) (t key : ℕ) (new : Record)
    (recorded : HaveKeys s ks)
    (unknown : lookup (nat_eq t) ks ≡ None)
    (put : Updates s s' key (Some new))
    (led : (q : ℕ) → lookup (nat_eq q) ks' ≡ (if t == q then Some key else lookup (nat_eq q) ks)) where
  key_with : new.thread.0 ≡ t → (k : ℕ) (r : Record) → (k ≡ key) ⊎ (k ≡ key → ⊥) → get s' k ≡ Some r → lookup (nat_eq r.thread.0) ks' ≡ Some k
  key_with of_t k r (inl same) e =
      let is : Some new ≡ Some r = sym put.changed ∙ ap (λ (j : ℕ). get s' j) (sym same) ∙ e in
      let at : t ≡ r.thread.0 = sym of_t ∙ ap (λ (x : Record). x.thread.0) (same_Some _ _ is) in
      rw (led r.thread.0, eq-eqb t r.thread.0 at, same) refl
  key_with of_t k r (inr other) e =
      let was : lookup (nat_eq r.thread.0) ks ≡ Some k = recorded k r (sym (put.others k other) ∙ e) in
      let another : t ≡ r.thread.0 → ⊥ = λ same. absurd (let none : None ≡ Some k = sym unknown ∙ ap (λ (j : ℕ). lookup (nat_eq j) ks) same ∙ was in cc) in
      rw (led r.thread.0, ne_eqb t r.thread.0 another) was

  pub HaveKeys-put : new.thread.0 ≡ t → HaveKeys s' ks'
  HaveKeys-put of_t k r e = key_with of_t k r (cases_eq k key) e

-- ---- one thread less

module _ (s s' : Slab Record) (ks ks' : List (ℕ × ℕ)) (t key : ℕ)
    (keyed : LeadToRecords s ks)
    (found : lookup (nat_eq t) ks ≡ Some key)
    (dropped : Updates s s' key None)
    (led : (q : ℕ) → lookup (nat_eq q) ks' ≡ (if t == q then None else lookup (nat_eq q) ks)) where
  -- another thread's key is another one
  kept : (k q : ℕ) → (q ≡ t → ⊥) → lookup (nat_eq q) ks ≡ Some k → get s' k ≡ get s k
  kept k q other e = dropped.others k (λ same. other (one_record s ks t q key k keyed found e same))

  value_kept : {X : Type 0} (read : Record → X) (none : X) (q : ℕ) → (q ≡ t → ⊥) → (o : Option ℕ) → lookup (nat_eq q) ks ≡ o
      → option_map (λ k. value_in read none (get s' k)) o ≡ option_map (λ k. value_in read none (get s k)) o
  value_kept read none q other None e = refl
  value_kept read none q other (Some k) e = rw (kept k q other e) refl

  value_after : {X : Type 0} (read : Record → X) (none : X) (q : ℕ) → (q ≡ t) ⊎ (q ≡ t → ⊥)
      → map.get (values_of read none s' ks') q ≡ map.get (map.remove (values_of read none s ks) t) q
  value_after read none q (inl same) =
      rw (get-values_of read none s' ks' q, led q, eq-eqb t q (sym same), get-remove_by (values_of read none s ks) t q, eq-eqb q t same) refl
  value_after read none q (inr other) =
      rw (get-values_of read none s' ks' q, led q, ne_eqb t q (λ e. other (sym e)), get-remove_by (values_of read none s ks) t q, ne_eqb q t other, get-values_of read none s ks q)
      (value_kept read none q other (lookup (nat_eq q) ks) refl)

  values_of-drop : {X : Type 0} (read : Record → X) (none : X) → values_of read none s' ks' ≡ map.remove (values_of read none s ks) t
  values_of-drop read none =
      same_map nat_cmp_total nat_cmp-IsAntisymmetric (values_of read none s' ks') (map.remove (values_of read none s ks) t) (λ q. value_after read none q (cases_eq q t))

  pub posted_in-drop : posted_in s' ks' ≡ record {
    posts = map.remove (posted_in s ks).posts t;
    nodes = map.remove (posted_in s ks).nodes t;
    flags = map.remove (posted_in s ks).flags t;
    owned = map.remove (posted_in s ks).owned t;
  }
  posted_in-drop = rw (values_of-drop (λ r. r.post) Out, values_of-drop (λ r. r.node.0) 0, values_of-drop (λ r. r.flag) false, values_of-drop (λ r. r.owned) 0) refl

  leads_after : (q k : ℕ) → (q ≡ t) ⊎ (q ≡ t → ⊥) → lookup (nat_eq q) ks' ≡ Some k → (r : Record) × (get s' k ≡ Some r) × (r.thread.0 ≡ q)
  leads_after q k (inl same) e = let never : None ≡ Some k = rw (led q, eq-eqb t q (sym same)) at e in absurd (cc)
  leads_after q k (inr other) e =
      let was : lookup (nat_eq q) ks ≡ Some k = rw (led q, ne_eqb t q (λ e. other (sym e))) at e in
      ((keyed q k was).0, kept k q other was ∙ (keyed q k was).1, (keyed q k was).2)

  pub LeadToRecords-drop : LeadToRecords s' ks'
  LeadToRecords-drop q k e = leads_after q k (cases_eq q t) e

-- each record has its key
module _ (s s' : Slab Record) (ks ks' : List (ℕ × ℕ)) (t key : ℕ)
    (recorded : HaveKeys s ks)
    (found : lookup (nat_eq t) ks ≡ Some key)
    (dropped : Updates s s' key None)
    (led : (q : ℕ) → lookup (nat_eq q) ks' ≡ (if t == q then None else lookup (nat_eq q) ks)) where
  key_without : (k : ℕ) (r : Record) → (k ≡ key) ⊎ (k ≡ key → ⊥) → get s' k ≡ Some r → lookup (nat_eq r.thread.0) ks' ≡ Some k
  key_without k r (inl same) e = absurd (let gone : None ≡ Some r = sym dropped.changed ∙ ap (λ (j : ℕ). get s' j) (sym same) ∙ e in cc)
  key_without k r (inr other) e =
      let was : lookup (nat_eq r.thread.0) ks ≡ Some k = recorded k r (sym (dropped.others k other) ∙ e) in
      let another : t ≡ r.thread.0 → ⊥ = λ same. other (same_Some k key (sym was ∙ ap (λ (j : ℕ). lookup (nat_eq j) ks) (sym same) ∙ found)) in
      rw (led r.thread.0, ne_eqb t r.thread.0 another) was

  pub HaveKeys-drop : HaveKeys s' ks'
  HaveKeys-drop k r e = key_without k r (cases_eq k key) e

-- ---- the record of a thread is written

module _ (s s' : Slab Record) (ks : List (ℕ × ℕ)) (t key : ℕ) (old new : Record)
    (keyed : LeadToRecords s ks)
    (recorded : HaveKeys s ks)
    (found : lookup (nat_eq t) ks ≡ Some key)
    (there : get s key ≡ Some old)
    (written : Updates s s' key (Some new)) where
  -- another thread's key is another one
  same_slot : (k q : ℕ) → (q ≡ t → ⊥) → lookup (nat_eq q) ks ≡ Some k → get s' k ≡ get s k
  same_slot k q other e = written.others k (λ same. other (one_record s ks t q key k keyed found e same))

  same_value : {X : Type 0} (read : Record → X) (none : X) (q : ℕ) → (q ≡ t → ⊥) → (o : Option ℕ) → lookup (nat_eq q) ks ≡ o
      → option_map (λ k. value_in read none (get s' k)) o ≡ option_map (λ k. value_in read none (get s k)) o
  same_value read none q other None e = refl
  same_value read none q other (Some k) e = rw (same_slot k q other e) refl

  value_written : {X : Type 0} (read : Record → X) (none : X) (q : ℕ) → (q ≡ t) ⊎ (q ≡ t → ⊥)
      → map.get (values_of read none s' ks) q ≡ map.get (map.insert (values_of read none s ks) t (read new)) q
  value_written read none q (inl same) =
      rw (get-values_of read none s' ks q, get-insert_by (values_of read none s ks) t (read new) q, eq-eqb q t same, same, found, written.changed) refl
  value_written read none q (inr other) =
      rw (get-values_of read none s' ks q, get-insert_by (values_of read none s ks) t (read new) q, ne_eqb q t other, get-values_of read none s ks q)
      (same_value read none q other (lookup (nat_eq q) ks) refl)

  values_of-write : {X : Type 0} (read : Record → X) (none : X) → values_of read none s' ks ≡ map.insert (values_of read none s ks) t (read new)
  values_of-write read none =
      same_map nat_cmp_total nat_cmp-IsAntisymmetric (values_of read none s' ks) (map.insert (values_of read none s ks) t (read new)) (λ q. value_written read none q (cases_eq q t))

  -- what is read as before stays
  values_of-kept : {X : Type 0} (read : Record → X) (none : X) → read new ≡ read old → values_of read none s' ks ≡ values_of read none s ks
  values_of-kept read none same =
      values_of-write read none ∙ insert_same (values_of read none s ks) t (read new) (value-values_of read none s ks t key old found there ∙ ap (λ x. Some x) (sym same))

  -- a write of a record, by what it changes
  kept_node : new.node ≡ old.node → values_of (λ r. r.node.0) 0 s' ks ≡ values_of (λ r. r.node.0) 0 s ks
  kept_node same = values_of-kept (λ r. r.node.0) 0 (ap (λ (n : Node). n.0) same)

  pub posted_in-set : new.flag ≡ old.flag → new.node ≡ old.node → new.owned ≡ old.owned → posted_in s' ks ≡ record (posted_in s ks) { posts = map.insert (posted_in s ks).posts t new.post }
  posted_in-set same at own = rw (values_of-write (λ r. r.post) Out, kept_node at, values_of-kept (λ r. r.flag) false same, values_of-kept (λ r. r.owned) 0 own) refl

  pub posted_in-park : new.flag ≡ old.flag → new.owned ≡ old.owned
      → posted_in s' ks ≡ record (posted_in s ks) { posts = map.insert (posted_in s ks).posts t new.post; nodes = map.insert (posted_in s ks).nodes t new.node.0 }
  posted_in-park same own = rw (values_of-write (λ r. r.post) Out, values_of-write (λ r. r.node.0) 0, values_of-kept (λ r. r.flag) false same, values_of-kept (λ r. r.owned) 0 own) refl

  pub posted_in-set_flag : new.post ≡ old.post → new.node ≡ old.node → new.owned ≡ old.owned → posted_in s' ks ≡ record (posted_in s ks) { flags = map.insert (posted_in s ks).flags t new.flag }
  posted_in-set_flag same at own = rw (values_of-kept (λ r. r.post) Out same, kept_node at, values_of-write (λ r. r.flag) false, values_of-kept (λ r. r.owned) 0 own) refl

  pub posted_in-set_owned : new.post ≡ old.post → new.node ≡ old.node → new.flag ≡ old.flag → posted_in s' ks ≡ record (posted_in s ks) { owned = map.insert (posted_in s ks).owned t new.owned }
  posted_in-set_owned same at flagged = rw (values_of-kept (λ r. r.post) Out same, kept_node at, values_of-kept (λ r. r.flag) false flagged, values_of-write (λ r. r.owned) 0) refl

  -- the record stays its thread's
  of_thread : new.thread ≡ old.thread → new.thread.0 ≡ t
  of_thread same = ap (λ (x : ThreadId). x.0) same ∙ record_of s ks t key old keyed found there

  leads_still : new.thread ≡ old.thread → (q k : ℕ) → (q ≡ t) ⊎ (q ≡ t → ⊥) → lookup (nat_eq q) ks ≡ Some k → (r : Record) × (get s' k ≡ Some r) × (r.thread.0 ≡ q)
  leads_still is q k (inl same) e =
      let at : key ≡ k = same_Some key k (sym found ∙ ap (λ (j : ℕ). lookup (nat_eq j) ks) (sym same) ∙ e) in
      (new, rw (← at) written.changed, of_thread is ∙ sym same)
  leads_still is q k (inr other) e = ((keyed q k e).0, same_slot k q other e ∙ (keyed q k e).1, (keyed q k e).2)

  pub LeadToRecords-write : new.thread ≡ old.thread → LeadToRecords s' ks
  LeadToRecords-write is q k e = leads_still is q k (cases_eq q t) e

  key_still : new.thread ≡ old.thread → (k : ℕ) (r : Record) → (k ≡ key) ⊎ (k ≡ key → ⊥) → get s' k ≡ Some r → lookup (nat_eq r.thread.0) ks ≡ Some k
  key_still is k r (inl same) e =
      let now : Some new ≡ Some r = sym written.changed ∙ ap (λ (j : ℕ). get s' j) (sym same) ∙ e in
      let of_t : t ≡ r.thread.0 = sym (of_thread is) ∙ ap (λ (x : Record). x.thread.0) (same_Some _ _ now) in
      rw (← of_t, same) found
  key_still is k r (inr other) e = recorded k r (sym (written.others k other) ∙ e)

  pub HaveKeys-write : new.thread ≡ old.thread → HaveKeys s' ks
  HaveKeys-write is k r e = key_still is k r (cases_eq k key) e

-- a key with a value is within the slots
key_within : (slots : List (Option Record)) (k : ℕ) (r : Record) → get_or slots k None ≡ Some r → k < length slots
key_within [] k r e = absurd (cc)
key_within (x ∷ xs) zero r e = omega arith
key_within (x ∷ xs) (suc k) r e = let l = key_within xs k r e in omega arith

-- a write through `get_mut` changes the slot of its key
pub Updates-with_value : (s : Slab Record) (k : ℕ) (r : Record) (new : Record) → get s k ≡ Some r → Updates s (with_value s k new) k (Some new)
Updates-with_value s k r new e = record {
  changed = get_or-set_same s.slots k (Some new) None (key_within s.slots k r e);
  others = λ j other. get_or-set_other s.slots k j (Some new) None other;
}

-- ---- the count

-- as many threads are attached as there are keys
no_key : (q : ℕ) (es : List (ℕ × ℕ)) → AllByRecursion (λ y. nat_eq q y ≡ false) (keys_of es) → lookup (nat_eq q) es ≡ None
no_key q [] h = refl
no_key q (e ∷ es) h = rw (h.0) (no_key q es h.1)

pub len-posts : (records : Slab Record) (ks : List (ℕ × ℕ)) → IsDistinct nat_eq (keys_of ks) → map.len (posted_in records ks).posts ≡ length ks
len-posts records [] h = len-empty nat_cmp Post
len-posts records (e ∷ es) h =
    let none = no_value-values_of (λ r. r.post) Out records es e.0 (no_key e.0 es (IsDistinct-head nat_eq e.0 (keys_of es) h)) in
    let more = len-insert nat_cmp_total (posted_in records es).posts e.0 (value_in (λ r. r.post) Out (get records e.1)) in
    let rest = len-posts records es (IsDistinct-tail nat_eq e.0 (keys_of es) h) in
    let l : map.len (posted_in records (e ∷ es)).posts ≡ length es + 1 = rw (none, rest) at more in
    omega arith

-- what is read of the records is there for the same threads, whatever is read
pub same_threads : {X Y : Type 0} (f : Record → X) (x : X) (g : Record → Y) (y : Y) (records : Slab Record) (keys : List (ℕ × ℕ)) (q : ℕ) → is_some (map.get (values_of f x records keys) q) ≡ is_some (map.get (values_of g y records keys) q)
same_threads f x g y records keys q =
    rw (get-values_of f x records keys q, get-values_of g y records keys q) (by_key (lookup (nat_eq q) keys))
  where
    by_key : (o : Option ℕ) → is_some (option_map (λ k. value_in f x (get records k)) o) ≡ is_some (option_map (λ k. value_in g y (get records k)) o)
    by_key None = refl
    by_key (Some k) = refl
