-- What entries by number show, and all threads of a wait set that are back.
use Rattle.std.specs.Prelude.{◌≡◌, ◌⊎◌, ℕ, ◌==◌, List, [], ◌∷◌, Some, Bool, true, false, cond, map as list_map}
use Rattle.std.specs.Option.{option_map}
use Rattle.std.specs.Map.{lookup}
use Rattle.std.specs.BTreeMap.{is_at}
use Rattle.std.specs.Ordering.{nat_cmp, is_eq}
use Rattle.std.specs.Cmp.{unsigned_tied, nat_cmp_total}
use Rattle.std.specs.FinMap as map
use Rattle.std.specs.FinMap.{get-from_entries, same_map, nat_cmp-IsAntisymmetric}
use Rattle.std.specs.FinMap.Entries.{find}
use Rattle.std.proofs.Common.{refl, ap, sym, ◌∙◌, inl, inr, subst}
use Rattle.std.proofs.lemmas.Bool.{cases_eq, ne_eqb}
use Rattle.std.proofs.lemmas.Map.Made.{lookup-map_values}
use Rattle.std.specs.FinMap.{get-entries, get-from_sorted, entries-from_sorted, entries_sorted, len-entries}
use Rattle.std.specs.FinMap.Entries.{is_sorted, below_all}
use Rattle.std.specs.List.{AllByRecursion}
use Rattle.std.specs.List.Sorted.{IsStrictlySortedBy}
use Rattle.std.specs.Map.{keys_of}
use Rattle.std.specs.Ordering.{is_lt}
use Rattle.std.specs.declared.cmp.Ordering.TheVariants.{Less}
use Rattle.std.specs.Prelude.{T, ◌&&◌, length}
use Rattle.lock_word.specs.declared.ObjectId.{ObjectId}
use Rattle.jls_check.specs.LiveThreads.{LiveThreads, notified_record, all_back}

find-lookup : {X : Type 0} (q : ℕ) (es : List (ℕ × X)) → find nat_cmp q es ≡ lookup (is_at (nat_cmp q)) es
find-lookup q [] = refl
find-lookup q (e ∷ es) = ap (λ o. cond (is_eq (nat_cmp q e.0)) (Some e.1) o) (find-lookup q es)

-- the map that entries show has at a number what the entries have there
pub get_shown : {X : Type 0} (es : List (ℕ × X)) (q : ℕ) → map.get {R = nat_cmp} (map.from_entries es) q ≡ lookup (is_at (nat_cmp q)) es
get_shown es q = get-from_entries nat_cmp_total es q ∙ find-lookup q es

-- the map that entries show
abbrev pub shown_map : {X : Type 0} → List (ℕ × X) → map.FinMap nat_cmp X
shown_map es = map.from_entries es

-- the test of a look for a number
pub at_key : (k q : ℕ) → is_at (nat_cmp k) q ≡ (q == k)
at_key k q = unsigned_tied k q ∙ by (cases_eq q k)
  where
    by : (q ≡ k) ⊎ (q ≡ k → ⊥) → (k == q) ≡ (q == k)
    by (inl same) = rw (same) refl
    by (inr other) = rw (ne_eqb q k other, ne_eqb k q (λ e. other (sym e))) refl

-- a value that is written anew from each value
pub get_mapped : {X : Type 0} (f : X → X) (es : List (ℕ × X)) (q : ℕ)
    → map.get (shown_map (list_map (λ e. (e.0, f e.1)) es)) q ≡ option_map f (lookup (is_at (nat_cmp q)) es)
get_mapped f es q = get_shown (list_map (λ e. (e.0, f e.1)) es) q ∙ lookup-map_values f (is_at (nat_cmp q)) es

-- every thread is written anew where all leave a wait set
pub get-all_back : (l : LiveThreads) (o : ObjectId) (q : ℕ) → map.get (all_back l o) q ≡ option_map (notified_record o) (map.get l q)
get-all_back l o q =
    get_mapped (notified_record o) (map.entries l) q
    ∙ ap (option_map (notified_record o)) (sym (find-lookup q (map.entries l)) ∙ sym (get-entries l q))

-- ---- in order

mapped_below : {X : Type 0} (f : X → X) (k : ℕ) (es : List (ℕ × X)) → below_all nat_cmp k (list_map (λ e. (e.0, f e.1)) es) ≡ below_all nat_cmp k es
mapped_below f k [] = refl
mapped_below f k (e ∷ es) = ap (λ b. is_lt (nat_cmp k e.0) && b) (mapped_below f k es)

-- values that are written anew leave the keys in order
mapped_sorted : {X : Type 0} (f : X → X) (es : List (ℕ × X)) → is_sorted nat_cmp (list_map (λ e. (e.0, f e.1)) es) ≡ is_sorted nat_cmp es
mapped_sorted f [] = refl
mapped_sorted f (e ∷ es) =
    ap (λ b. b && is_sorted nat_cmp (list_map (λ x. (x.0, f x.1)) es)) (mapped_below f e.0 es)
    ∙ ap (λ b. below_all nat_cmp e.0 es && b) (mapped_sorted f es)

-- a map shows the entries that it has
entries_shown : {X : Type 0} (es : List (ℕ × X)) → T (is_sorted nat_cmp es) → map.entries (shown_map es) ≡ es
entries_shown es ordered =
    ap map.entries (same_map nat_cmp_total nat_cmp-IsAntisymmetric (shown_map es) (map.from_sorted es) (λ q.
    get-from_entries nat_cmp_total es q ∙ sym (get-from_sorted nat_cmp es q ordered)))
    ∙ entries-from_sorted nat_cmp es ordered

first_below : (b c : Bool) → b ≡ true → T c → T (b && c)
first_below true c e h = h
first_below false c e h = absurd (cc)

below : {X : Type 0} (k : ℕ) (es : List (ℕ × X)) → AllByRecursion (λ q. nat_cmp k q ≡ Less) (keys_of es) → T (below_all nat_cmp k es)
below k [] h = tt
below k (e ∷ es) h = first_below (is_lt (nat_cmp k e.0)) (below_all nat_cmp k es) (ap is_lt h.0) (below k es h.1)

sorted : {X : Type 0} (es : List (ℕ × X)) → IsStrictlySortedBy nat_cmp (keys_of es) → T (is_sorted nat_cmp es)
unfolding IsStrictlySortedBy
sorted [] h = tt
sorted (e ∷ es) h = both (below_all nat_cmp e.0 es) (is_sorted nat_cmp es) (below e.0 es h.0) (sorted es h.1)
  where
    both : (b c : Bool) → T b → T c → T (b && c)
    both true c p q = q
    both false c p q = absurd p

-- and has as many
pub len_shown : {X : Type 0} (es : List (ℕ × X)) → IsStrictlySortedBy nat_cmp (keys_of es) → map.len (shown_map es) ≡ length es
len_shown es ordered = len-entries (shown_map es) ∙ ap length (entries_shown es (sorted es ordered))

pub entries-all_back : (l : LiveThreads) (o : ObjectId) → map.entries (all_back l o) ≡ list_map (λ e. (e.0, notified_record o e.1)) (map.entries l)
entries-all_back l o =
    entries_shown (list_map (λ e. (e.0, notified_record o e.1)) (map.entries l)) (subst T (sym (mapped_sorted (notified_record o) (map.entries l))) (entries_sorted l))
