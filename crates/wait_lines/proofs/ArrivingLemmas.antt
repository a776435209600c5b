-- Who stands in the lines after a thread came to a node, and after a node more.
use Rattle.std.specs.Prelude.{◌≡◌, ◌≢◌, ◌⊎◌, ℕ, zero, suc, ◌+◌, ◌<◌, ◌≤◌, ◌==◌, not, Bool, true, false, cond, List, [], ◌∷◌, ◌++◌, length, map as list_map, filter, sum_by, count_by, slice_index_or, slice_set, Some}
use Rattle.std.specs.Ordering.{nat_cmp, eq_by_cmp}
use Rattle.std.specs.Cmp.{nat_cmp_total}
use Rattle.std.specs.FinMap as map
use Rattle.std.specs.FinMap.{get-insert, same_map, nat_cmp-IsAntisymmetric}
use Rattle.std.proofs.Common.{refl, sym, ap, ◌∙◌, inl, inr, arith, append-nil, length-append}
use Rattle.std.proofs.lemmas.Bool.{cases_lt, eq-eqb, eqb-true}
use Rattle.std.proofs.lemmas.List.{map-append, length-map, get_or-set_other, get_or-set_same, get_or_append_left, get_or_past}
use Rattle.std.proofs.lemmas.List.Elements.{filter-append}
use Rattle.std.proofs.lemmas.List.Sums.{sum_by-cons, sum_by-append}
use Rattle.lock_word.specs.declared.ThreadId.{ThreadId}
use Rattle.wait_lines.specs.declared.Role.TheVariants.{Entry}
use Rattle.wait_lines.specs.Lines.{Key, key, StandsAt, Stands, StandsNowhere, is_thread}
use Rattle.wait_lines.specs.Rows.{times_number, times_in_rows, row_at}
use Rattle.wait_lines.specs.Arrivals.{Arrival, is_in, threads_in, lines_of, nodes_of, arrival, arrivals_in}
use Rattle.wait_lines.proofs.ThreadLemmas.{is_same}
use Rattle.wait_lines.proofs.ArrivalLemmas.{others, is_in-key, is_in-itself, Stands-found, others-fewer}
use Rattle.wait_lines.proofs.RowLemmas.{times-cons}
use Rattle.wait_lines.proofs.NodeThreadLemmas.{IsThere, tie, tied, there-node, count-cons}

-- ---- a thread comes to a node that stands in no row

row-with_thread : (ts : List ThreadId) (k : Key) (n : ℕ) (t : ThreadId) (r : List ℕ) → times_number n r ≡ 0 → list_map (arrival (slice_set ts n t) k) r ≡ list_map (arrival ts k) r
row-with_thread ts k n t [] out = refl
row-with_thread ts k n t (m ∷ ms) out = at (m == n) refl (row-with_thread ts k n t ms)
  where
    at : (b : Bool) → (m == n) ≡ b → (times_number n ms ≡ 0 → list_map (arrival (slice_set ts n t) k) ms ≡ list_map (arrival ts k) ms)
        → arrival (slice_set ts n t) k m ∷ list_map (arrival (slice_set ts n t) k) ms ≡ arrival ts k m ∷ list_map (arrival ts k) ms
    at true e again = let f = times-cons n m ms ∙ ap (λ b. cond {A = ℕ} b 1 0 + times_number n ms) e in absurd (omega arith)
    at false e again =
        let f = times-cons n m ms ∙ ap (λ b. cond {A = ℕ} b 1 0 + times_number n ms) e in
        let rest = again (omega arith) in
        let same : slice_index_or (slice_set ts n t) m (record { 0 = 0 }) ≡ slice_index_or ts m (record { 0 = 0 }) = get_or-set_other ts n m t (record { 0 = 0 }) (λ x. let yes = eq-eqb m n x in cc) in
        ap (λ (u : ThreadId). let x : Arrival = record { thread = u; monitor = k.0; role = k.1; node = m } in x ∷ list_map (arrival (slice_set ts n t) k) ms) same
        ∙ ap (λ l. arrival ts k m ∷ l) rest

arrivals-with_thread : (ts : List ThreadId) (ks : List Key) (n : ℕ) (t : ThreadId) (rs : List (List ℕ)) → times_in_rows n rs ≡ 0 → arrivals_in (slice_set ts n t) ks rs ≡ arrivals_in ts ks rs
arrivals-with_thread ts [] n t rs out = refl
arrivals-with_thread ts (k ∷ ks) n t [] out = refl
arrivals-with_thread ts (k ∷ ks) n t (r ∷ rs) out =
    let e = sum_by-cons (times_number n) r rs in
    ap (λ l. l ++ arrivals_in (slice_set ts n t) ks rs) (row-with_thread ts k n t r (omega arith))
    ∙ ap (λ l. list_map (arrival ts k) r ++ l) (arrivals-with_thread ts ks n t rs (omega arith))

-- nobody stands in a line with no record
row-none : (ts : List ThreadId) (k q : Key) (r : List ℕ) → (k ≡ q → r ≡ []) → filter (is_in q.0 q.1) (list_map (arrival ts k) r) ≡ []
row-none ts k q [] empty = refl
row-none ts k q (m ∷ ms) empty = at (is_in q.0 q.1 (arrival ts k m)) refl (row-none ts k q ms (λ e. absurd (let no : m ∷ ms ≡ [] = empty e in cc)))
  where
    at : (b : Bool) → is_in q.0 q.1 (arrival ts k m) ≡ b → filter (is_in q.0 q.1) (list_map (arrival ts k) ms) ≡ []
        → cond b (arrival ts k m ∷ filter (is_in q.0 q.1) (list_map (arrival ts k) ms)) (filter (is_in q.0 q.1) (list_map (arrival ts k) ms)) ≡ []
    at true e again = absurd (let no : m ∷ ms ≡ [] = empty (sym (is_in-key q.0 q.1 (arrival ts k m) e)) in cc)
    at false e again = again

-- where the records with this key, if any, have empty rows
abbrev pub NoneBut : List Key → List (List ℕ) → Key → ℕ → Type 0
NoneBut ks rs q k = (i : ℕ) → i < length ks → i ≢ k → slice_index_or ks i (key 0 Entry) ≡ q → row_at rs i ≡ []

arrivals-none : (ts : List ThreadId) (ks : List Key) (q : Key) (rs : List (List ℕ)) → ((i : ℕ) → i < length ks → slice_index_or ks i (key 0 Entry) ≡ q → row_at rs i ≡ [])
    → threads_in (arrivals_in ts ks rs) q.0 q.1 ≡ []
arrivals-none ts [] q rs none = refl
arrivals-none ts (k ∷ ks) q [] none = refl
arrivals-none ts (k ∷ ks) q (r ∷ rs) none =
    ap (list_map (λ (x : Arrival). x.thread)) (filter-append (is_in q.0 q.1) (list_map (arrival ts k) r) (arrivals_in ts ks rs)
    ∙ ap (λ l. l ++ filter (is_in q.0 q.1) (arrivals_in ts ks rs)) (row-none ts k q r (λ e. none 0 (omega arith) e)))
    ∙ arrivals-none ts ks q rs (λ i l e. none (suc i) (omega arith) e)

-- the arrivals with one more between
abbrev pub Between : List Arrival → List Arrival → Arrival → Type 0
Between before after a =
    (xs : List Arrival) × (ys : List Arrival) × (before ≡ xs ++ ys) × (after ≡ xs ++ a ∷ ys) × (threads_in ys a.monitor a.role ≡ [])

append-assoc : (xs ys zs : List Arrival) → (xs ++ ys) ++ zs ≡ xs ++ (ys ++ zs)
append-assoc [] ys zs = refl
append-assoc (x ∷ xs) ys zs = ap (λ l. x ∷ l) (append-assoc xs ys zs)

pub arrivals-joined : (ts : List ThreadId) (ks : List Key) (rs : List (List ℕ)) (n : ℕ) (t : ThreadId) (k : ℕ) (q : Key) → times_in_rows n rs ≡ 0 → n < length ts → k < length ks → length ks ≡ length rs
    → (row_at rs k ≡ []) ⊎ (slice_index_or ks k (key 0 Entry) ≡ q) → NoneBut ks rs q k
    → Between (arrivals_in ts ks rs) (arrivals_in (slice_set ts n t) (slice_set ks k q) (slice_set rs k (row_at rs k ++ n ∷ []))) (record { thread = t; monitor = q.0; role = q.1; node = n })
arrivals-joined ts [] rs n t k q out here l even fits none = absurd (omega arith)
arrivals-joined ts (j ∷ ks) [] n t k q out here l even fits none = absurd (omega arith)
arrivals-joined ts (j ∷ ks) (r ∷ rs) n t zero q out here l even fits none = (
  list_map (arrival ts j) r,
  arrivals_in ts ks rs,
  refl,
  ap (λ x. x ++ arrivals_in (slice_set ts n t) ks rs) (map-append (arrival (slice_set ts n t) q) r (n ∷ []))
      ∙ append-assoc (list_map (arrival (slice_set ts n t) q) r) (arrival (slice_set ts n t) q n ∷ []) (arrivals_in (slice_set ts n t) ks rs)
      ∙ ap (λ l. l ++ arrival (slice_set ts n t) q n ∷ arrivals_in (slice_set ts n t) ks rs) (row-with_thread ts q n t r (let e = sum_by-cons (times_number n) r rs in omega arith) ∙ keyed fits)
      ∙ ap (λ (u : ThreadId). let x : Arrival = record { thread = u; monitor = q.0; role = q.1; node = n } in list_map (arrival ts j) r ++ x ∷ arrivals_in (slice_set ts n t) ks rs) (get_or-set_same ts n t (record { 0 = 0 }) here)
      ∙ ap (λ l. let x : Arrival = record { thread = t; monitor = q.0; role = q.1; node = n } in list_map (arrival ts j) r ++ x ∷ l) (arrivals-with_thread ts ks n t rs (let e = sum_by-cons (times_number n) r rs in omega arith)),
  arrivals-none ts ks q rs (λ i l e. none (suc i) (omega arith) (λ x. absurd (omega arith)) e),
)
  where
    keyed : (r ≡ []) ⊎ (j ≡ q) → list_map (arrival ts q) r ≡ list_map (arrival ts j) r
    keyed (inl empty) = ap (list_map (arrival ts q)) empty ∙ ap (list_map (arrival ts j)) (sym empty)
    keyed (inr same) = ap (λ (k : Key). list_map (arrival ts k) r) (sym same)
arrivals-joined ts (j ∷ ks) (r ∷ rs) n t (suc k) q out here l even fits none =
    after (arrivals-joined ts ks rs n t k q (let e = sum_by-cons (times_number n) r rs in omega arith) here (omega arith) (omega arith) fits (λ i l x e. none (suc i) (omega arith) (λ y. x (omega arith)) e))
  where
    a : Arrival
    a = record { thread = t; monitor = q.0; role = q.1; node = n }

    after : Between (arrivals_in ts ks rs) (arrivals_in (slice_set ts n t) (slice_set ks k q) (slice_set rs k (row_at rs k ++ n ∷ []))) (record { thread = t; monitor = q.0; role = q.1; node = n })
        → Between (arrivals_in ts (j ∷ ks) (r ∷ rs)) (arrivals_in (slice_set ts n t) (j ∷ slice_set ks k q) (r ∷ slice_set rs k (row_at rs k ++ n ∷ []))) (record { thread = t; monitor = q.0; role = q.1; node = n })
    after b = (
      list_map (arrival ts j) r ++ b.0,
      b.1,
      ap (λ l. list_map (arrival ts j) r ++ l) b.2 ∙ sym (append-assoc (list_map (arrival ts j) r) b.0 b.1),
      ap (λ l. l ++ arrivals_in (slice_set ts n t) (slice_set ks k q) (slice_set rs k (row_at rs k ++ n ∷ []))) (row-with_thread ts j n t r (let e = sum_by-cons (times_number n) r rs in omega arith))
          ∙ ap (λ l. list_map (arrival ts j) r ++ l) b.3 ∙ sym (append-assoc (list_map (arrival ts j) r) b.0 _),
      b.4,
    )

-- ---- the nodes with one more

get-insert_between : (xs ys : List Arrival) (a : Arrival) → count_by (λ (x : Arrival). is_thread a.thread x.thread) (xs ++ ys) ≡ 0 → (q : ℕ)
    → map.get (nodes_of (xs ++ a ∷ ys)) q ≡ cond (eq_by_cmp nat_cmp q a.thread.0) (Some a.node) (map.get (nodes_of (xs ++ ys)) q)
get-insert_between [] ys a none q = get-insert nat_cmp_total (nodes_of ys) a.thread.0 a.node q
get-insert_between (x ∷ xs) ys a none q =
    let e = count-cons (λ (x : Arrival). is_thread a.thread x.thread) x (xs ++ ys) in
    get-insert nat_cmp_total (nodes_of (xs ++ a ∷ ys)) x.thread.0 x.node q
    ∙ ap (λ o. cond (eq_by_cmp nat_cmp q x.thread.0) (Some x.node) o) (get-insert_between xs ys a (omega arith) q)
    ∙ swap (eq_by_cmp nat_cmp q x.thread.0) refl (eq_by_cmp nat_cmp q a.thread.0) refl (is_thread a.thread x.thread) refl
    ∙ ap (λ o. cond (eq_by_cmp nat_cmp q a.thread.0) (Some a.node) o) (sym (get-insert nat_cmp_total (nodes_of (xs ++ ys)) x.thread.0 x.node q))
  where
    swap : (b : Bool) → eq_by_cmp nat_cmp q x.thread.0 ≡ b → (d : Bool) → eq_by_cmp nat_cmp q a.thread.0 ≡ d → (f : Bool) → is_thread a.thread x.thread ≡ f
        → cond b (Some x.node) (cond d (Some a.node) (map.get (nodes_of (xs ++ ys)) q)) ≡ cond d (Some a.node) (cond b (Some x.node) (map.get (nodes_of (xs ++ ys)) q))
    swap b e d g true h =
        let c = count-cons (λ (x : Arrival). is_thread a.thread x.thread) x (xs ++ ys) ∙ ap (λ b. cond {A = ℕ} b 1 0 + count_by (λ (x : Arrival). is_thread a.thread x.thread) (xs ++ ys)) h in absurd (omega arith)
    swap true e true g false h = absurd (let yes = eq-eqb x.thread.0 a.thread.0 (sym (tie q x.thread.0 e) ∙ tie q a.thread.0 g) in cc)
    swap true e false g false h = refl
    swap false e true g false h = refl
    swap false e false g false h = refl

pub nodes_of-insert : (xs ys : List Arrival) (a : Arrival) → count_by (λ (x : Arrival). is_thread a.thread x.thread) (xs ++ ys) ≡ 0 → nodes_of (xs ++ a ∷ ys) ≡ map.insert (nodes_of (xs ++ ys)) a.thread.0 a.node
nodes_of-insert xs ys a none =
    same_map nat_cmp_total nat_cmp-IsAntisymmetric (nodes_of (xs ++ a ∷ ys)) (map.insert (nodes_of (xs ++ ys)) a.thread.0 a.node) (λ q.
    get-insert_between xs ys a none q ∙ sym (get-insert nat_cmp_total (nodes_of (xs ++ ys)) a.thread.0 a.node q))

pub count-between : (u : ThreadId) (xs ys : List Arrival) (a : Arrival)
    → count_by (λ (x : Arrival). is_thread u x.thread) (xs ++ a ∷ ys) ≡ count_by (λ (x : Arrival). is_thread u x.thread) (xs ++ ys) + cond {A = ℕ} (is_thread u a.thread) 1 0
count-between u [] ys a = let e = count-cons (λ (x : Arrival). is_thread u x.thread) a ys in omega arith
count-between u (x ∷ xs) ys a =
    let e = count-cons (λ (x : Arrival). is_thread u x.thread) x (xs ++ a ∷ ys) in let f = count-cons (λ (x : Arrival). is_thread u x.thread) x (xs ++ ys) in
    let h = count-between u xs ys a in omega arith

pub length-arrivals : (ts : List ThreadId) (ks : List Key) (rs : List (List ℕ)) → length ks ≡ length rs → length (arrivals_in ts ks rs) ≡ sum_by length rs
length-arrivals ts [] [] even = refl
length-arrivals ts [] (r ∷ rs) even = absurd (omega arith)
length-arrivals ts (k ∷ ks) [] even = absurd (omega arith)
length-arrivals ts (k ∷ ks) (r ∷ rs) even =
    let e = sum_by-cons length r rs in let h = length-arrivals ts ks rs (omega arith) in
    let l = length-append (list_map (arrival ts k) r) (arrivals_in ts ks rs) in let f = length-map r (arrival ts k) in
    omega arith

length-others : (t : ThreadId) (xs : List Arrival) → length (others t xs) + count_by (λ (a : Arrival). is_thread t a.thread) xs ≡ length xs
length-others t [] = refl
length-others t (a ∷ xs) = at (is_thread t a.thread) refl (length-others t xs)
  where
    at : (b : Bool) → is_thread t a.thread ≡ b → length (others t xs) + count_by (λ (a : Arrival). is_thread t a.thread) xs ≡ length xs
        → length (cond (not b) (a ∷ others t xs) (others t xs)) + count_by (λ (a : Arrival). is_thread t a.thread) (a ∷ xs) ≡ length (a ∷ xs)
    at true e again =
        let y = count-cons (λ (a : Arrival). is_thread t a.thread) a xs ∙ ap (λ b. cond {A = ℕ} b 1 0 + count_by (λ (a : Arrival). is_thread t a.thread) xs) e in omega arith
    at false e again =
        let y = count-cons (λ (a : Arrival). is_thread t a.thread) a xs ∙ ap (λ b. cond {A = ℕ} b 1 0 + count_by (λ (a : Arrival). is_thread t a.thread) xs) e in omega arith

pub count-nowhere : (t : ThreadId) (xs : List Arrival) → StandsNowhere (lines_of xs) t → count_by (λ (a : Arrival). is_thread t a.thread) xs ≡ 0
count-nowhere t xs nowhere = at (cases_lt 0 (count_by (λ (a : Arrival). is_thread t a.thread) xs))
  where
    at : (0 < count_by (λ (a : Arrival). is_thread t a.thread) xs) ⊎ (count_by (λ (a : Arrival). is_thread t a.thread) xs ≤ 0) → count_by (λ (a : Arrival). is_thread t a.thread) xs ≡ 0
    at (inl some) = let l = length-others t xs in let s = Stands-found t xs (omega arith) in absurd (nowhere s.0 s.1 s.2)
    at (inr none) = omega arith

-- ---- the threads of a line

abbrev pub thread_at : List ThreadId → ℕ → ThreadId
thread_at ts n = slice_index_or ts n (record { 0 = 0 })

row-all : (ts : List ThreadId) (k q : Key) (r : List ℕ) → k ≡ q → list_map (λ (x : Arrival). x.thread) (filter (is_in q.0 q.1) (list_map (arrival ts k) r)) ≡ list_map (thread_at ts) r
row-all ts k q [] same = refl
row-all ts k q (m ∷ ms) same =
    ap (λ b. list_map (λ (x : Arrival). x.thread) (cond b (arrival ts k m ∷ filter (is_in q.0 q.1) (list_map (arrival ts k) ms)) (filter (is_in q.0 q.1) (list_map (arrival ts k) ms))))
    (is_in-itself q.0 q.1 (arrival ts k m) (sym same))
    ∙ ap (λ l. thread_at ts m ∷ l) (row-all ts k q ms same)

pub threads-row : (ts : List ThreadId) (ks : List Key) (rs : List (List ℕ)) (k : ℕ) (q : Key) → k < length ks → length ks ≡ length rs → slice_index_or ks k (key 0 Entry) ≡ q → NoneBut ks rs q k
    → threads_in (arrivals_in ts ks rs) q.0 q.1 ≡ list_map (thread_at ts) (row_at rs k)
threads-row ts [] rs k q l even same none = absurd (omega arith)
threads-row ts (j ∷ ks) [] k q l even same none = absurd (omega arith)
threads-row ts (j ∷ ks) (r ∷ rs) zero q l even same none =
    ap (list_map (λ (x : Arrival). x.thread)) (filter-append (is_in q.0 q.1) (list_map (arrival ts j) r) (arrivals_in ts ks rs))
    ∙ map-append (λ (x : Arrival). x.thread) (filter (is_in q.0 q.1) (list_map (arrival ts j) r)) (filter (is_in q.0 q.1) (arrivals_in ts ks rs))
    ∙ ap (λ x. list_map (λ (x : Arrival). x.thread) (filter (is_in q.0 q.1) (list_map (arrival ts j) r)) ++ x) (arrivals-none ts ks q rs (λ i l e. none (suc i) (omega arith) (λ x. absurd (omega arith)) e))
    ∙ append-nil _ ∙ row-all ts j q r same
threads-row ts (j ∷ ks) (r ∷ rs) (suc k) q l even same none =
    ap (list_map (λ (x : Arrival). x.thread)) (filter-append (is_in q.0 q.1) (list_map (arrival ts j) r) (arrivals_in ts ks rs)
    ∙ ap (λ l. l ++ filter (is_in q.0 q.1) (arrivals_in ts ks rs)) (row-none ts j q r (λ e. none 0 (omega arith) (λ x. absurd (omega arith)) e)))
    ∙ threads-row ts ks rs k q (omega arith) (omega arith) same (λ i l x e. none (suc i) (omega arith) (λ y. x (omega arith)) e)

pub threads-nowhere : (ts : List ThreadId) (ks : List Key) (rs : List (List ℕ)) (q : Key) → ((i : ℕ) → i < length ks → slice_index_or ks i (key 0 Entry) ≡ q → row_at rs i ≡ [])
    → threads_in (arrivals_in ts ks rs) q.0 q.1 ≡ []
threads-nowhere ts ks rs q none = arrivals-none ts ks q rs none

-- ---- one more node and one more record, which stand alone

row-more : (ts : List ThreadId) (u : ThreadId) (k : Key) (r : List ℕ) → times_number (length ts) r ≡ 0 → list_map (arrival (ts ++ u ∷ []) k) r ≡ list_map (arrival ts k) r
row-more ts u k [] out = refl
row-more ts u k (m ∷ ms) out = at (m == length ts) refl (row-more ts u k ms) (cases_lt m (length ts))
  where
    w : ThreadId
    w = u

    at : (b : Bool) → (m == length ts) ≡ b → (times_number (length ts) ms ≡ 0 → list_map (arrival (ts ++ u ∷ []) k) ms ≡ list_map (arrival ts k) ms)
        → (m < length ts) ⊎ (length ts ≤ m) → arrival (ts ++ u ∷ []) k m ∷ list_map (arrival (ts ++ u ∷ []) k) ms ≡ arrival ts k m ∷ list_map (arrival ts k) ms
    at true e again side = let f = times-cons (length ts) m ms ∙ ap (λ b. cond {A = ℕ} b 1 0 + times_number (length ts) ms) e in absurd (omega arith)
    at false e again side =
        let f = times-cons (length ts) m ms ∙ ap (λ b. cond {A = ℕ} b 1 0 + times_number (length ts) ms) e in
        let rest = again (omega arith) in
        ap (λ (u : ThreadId). let x : Arrival = record { thread = u; monitor = k.0; role = k.1; node = m } in x ∷ list_map (arrival (ts ++ w ∷ []) k) ms) (same side)
        ∙ ap (λ l. arrival ts k m ∷ l) rest
      where
        same : (m < length ts) ⊎ (length ts ≤ m) → slice_index_or (ts ++ u ∷ []) m (record { 0 = 0 }) ≡ slice_index_or ts m (record { 0 = 0 })
        same (inl l) = get_or_append_left ts (u ∷ []) (record { 0 = 0 }) m l
        same (inr past) =
            let l = length-append ts (u ∷ []) in
            let other : m ≢ length ts = (λ x. let yes = eq-eqb m (length ts) x in cc) in
            let more : length (ts ++ u ∷ []) ≤ m = omega (arith, other) in
            get_or_past (ts ++ u ∷ []) m (record { 0 = 0 }) more ∙ sym (get_or_past ts m (record { 0 = 0 }) past)

arrivals-more_threads : (ts : List ThreadId) (u : ThreadId) (ks : List Key) (rs : List (List ℕ)) → times_in_rows (length ts) rs ≡ 0 → arrivals_in (ts ++ u ∷ []) ks rs ≡ arrivals_in ts ks rs
arrivals-more_threads ts u [] rs out = refl
arrivals-more_threads ts u (k ∷ ks) [] out = refl
arrivals-more_threads ts u (k ∷ ks) (r ∷ rs) out =
    let e = sum_by-cons (times_number (length ts)) r rs in
    ap (λ l. l ++ arrivals_in (ts ++ u ∷ []) ks rs) (row-more ts u k r (omega arith))
    ∙ ap (λ l. list_map (arrival ts k) r ++ l) (arrivals-more_threads ts u ks rs (omega arith))

arrivals-more_lines : (ts : List ThreadId) (ks : List Key) (q : Key) (rs : List (List ℕ)) → length ks ≡ length rs → arrivals_in ts (ks ++ q ∷ []) (rs ++ [] ∷ []) ≡ arrivals_in ts ks rs
arrivals-more_lines ts [] q [] even = refl
arrivals-more_lines ts [] q (r ∷ rs) even = absurd (omega arith)
arrivals-more_lines ts (k ∷ ks) q [] even = absurd (omega arith)
arrivals-more_lines ts (k ∷ ks) q (r ∷ rs) even = ap (λ l. list_map (arrival ts k) r ++ l) (arrivals-more_lines ts ks q rs (omega arith))

pub arrivals-more : (ts : List ThreadId) (u : ThreadId) (ks : List Key) (q : Key) (rs : List (List ℕ)) → length ks ≡ length rs → times_in_rows (length ts) rs ≡ 0
    → arrivals_in (ts ++ u ∷ []) (ks ++ q ∷ []) (rs ++ [] ∷ []) ≡ arrivals_in ts ks rs
arrivals-more ts u ks q rs even out = arrivals-more_lines (ts ++ u ∷ []) ks q rs even ∙ arrivals-more_threads ts u ks rs out

-- ---- who is a member stands at its node

pub there-is_counted : (xs : List Arrival) (t : ThreadId) (n : ℕ) → IsThere xs t n → 1 ≤ count_by (λ (a : Arrival). is_thread t a.thread) xs
there-is_counted [] t n there = absurd there
there-is_counted (a ∷ xs) t n (inl here) =
    let e = count-cons (λ (a : Arrival). is_thread t a.thread) a xs ∙ ap (λ b. cond {A = ℕ} b 1 0 + count_by (λ (a : Arrival). is_thread t a.thread) xs) (is_same t a.thread here.0) in omega arith
there-is_counted (a ∷ xs) t n (inr later) = let e = count-cons (λ (a : Arrival). is_thread t a.thread) a xs in let h = there-is_counted xs t n later in omega arith

pub there-stands : (xs : List Arrival) (t : ThreadId) (n : ℕ) → count_by (λ (a : Arrival). is_thread t a.thread) xs ≤ 1 → IsThere xs t n → StandsAt (nodes_of xs) t n
there-stands [] t n solo there = absurd there
there-stands (a ∷ xs) t n solo (inl here) =
    get-insert nat_cmp_total (nodes_of xs) a.thread.0 a.node t.0
    ∙ ap (λ (u : ThreadId). cond (eq_by_cmp nat_cmp t.0 u.0) (Some a.node) (map.get (nodes_of xs) t.0)) here.0
    ∙ ap (λ b. cond b (Some a.node) (map.get (nodes_of xs) t.0)) (tied t.0) ∙ ap (λ (k : ℕ). Some k) here.1
there-stands (a ∷ xs) t n solo (inr later) =
    at (eq_by_cmp nat_cmp t.0 a.thread.0) refl (there-stands xs t n (let e = count-cons (λ (a : Arrival). is_thread t a.thread) a xs in omega arith) later)
  where
    at : (b : Bool) → eq_by_cmp nat_cmp t.0 a.thread.0 ≡ b → StandsAt (nodes_of xs) t n → StandsAt (nodes_of (a ∷ xs)) t n
    at true e again =
        let f = count-cons (λ (a : Arrival). is_thread t a.thread) a xs ∙ ap (λ b. cond {A = ℕ} b 1 0 + count_by (λ (a : Arrival). is_thread t a.thread) xs) (eq-eqb a.thread.0 t.0 (sym (tie t.0 a.thread.0 e))) in
        let g = there-is_counted xs t n later in absurd (omega arith)
    at false e again = get-insert nat_cmp_total (nodes_of xs) a.thread.0 a.node t.0 ∙ ap (λ b. cond b (Some a.node) (map.get (nodes_of xs) t.0)) e ∙ again

-- a node in a row has its thread there
there-row : (ts : List ThreadId) (k : Key) (n : ℕ) (r : List ℕ) (ys : List Arrival) → 1 ≤ times_number n r → IsThere (list_map (arrival ts k) r ++ ys) (thread_at ts n) n
there-row ts k n [] ys l = absurd (omega arith)
there-row ts k n (m ∷ ms) ys l = at (m == n) refl (there-row ts k n ms ys)
  where
    at : (b : Bool) → (m == n) ≡ b → (1 ≤ times_number n ms → IsThere (list_map (arrival ts k) ms ++ ys) (thread_at ts n) n) → IsThere (arrival ts k m ∷ list_map (arrival ts k) ms ++ ys) (thread_at ts n) n
    at true e again = inl (ap (thread_at ts) (eqb-true m n e), eqb-true m n e)
    at false e again = let f = times-cons n m ms ∙ ap (λ b. cond {A = ℕ} b 1 0 + times_number n ms) e in inr (again (omega arith))

there-after : (xs ys : List Arrival) (t : ThreadId) (n : ℕ) → IsThere ys t n → IsThere (xs ++ ys) t n
there-after [] ys t n h = h
there-after (x ∷ xs) ys t n h = inr (there-after xs ys t n h)

pub there-in_row : (ts : List ThreadId) (ks : List Key) (rs : List (List ℕ)) (k n : ℕ) → k < length ks → length ks ≡ length rs → 1 ≤ times_number n (row_at rs k) → IsThere (arrivals_in ts ks rs) (thread_at ts n) n
there-in_row ts [] rs k n l even h = absurd (omega arith)
there-in_row ts (j ∷ ks) [] k n l even h = absurd (omega arith)
there-in_row ts (j ∷ ks) (r ∷ rs) zero n l even h = there-row ts j n r (arrivals_in ts ks rs) h
there-in_row ts (j ∷ ks) (r ∷ rs) (suc k) n l even h = there-after (list_map (arrival ts j) r) (arrivals_in ts ks rs) (thread_at ts n) n (there-in_row ts ks rs k n (omega arith) (omega arith) h)

-- where no row has the thread, nobody is it
row-no : (ts : List ThreadId) (t : ThreadId) (k : Key) (r : List ℕ) → count_by (λ (u : ThreadId). is_thread t u) (list_map (thread_at ts) r) ≡ count_by (λ (a : Arrival). is_thread t a.thread) (list_map (arrival ts k) r)
row-no ts t k [] = refl
row-no ts t k (m ∷ ms) =
    let e = sum_by-cons (λ (u : ThreadId). cond {A = ℕ} (is_thread t u) 1 0) (thread_at ts m) (list_map (thread_at ts) ms) in
    let f = count-cons (λ (a : Arrival). is_thread t a.thread) (arrival ts k m) (list_map (arrival ts k) ms) in
    let h = row-no ts t k ms in omega arith

pub count-none : (ts : List ThreadId) (t : ThreadId) (ks : List Key) (rs : List (List ℕ)) → ((k : ℕ) → k < length ks → count_by (λ (u : ThreadId). is_thread t u) (list_map (thread_at ts) (row_at rs k)) ≡ 0)
    → count_by (λ (a : Arrival). is_thread t a.thread) (arrivals_in ts ks rs) ≡ 0
count-none ts t [] rs none = refl
count-none ts t (k ∷ ks) [] none = refl
count-none ts t (k ∷ ks) (r ∷ rs) none =
    let e = sum_by-append (λ (a : Arrival). cond {A = ℕ} (is_thread t a.thread) 1 0) (list_map (arrival ts k) r) (arrivals_in ts ks rs) in
    let f = row-no ts t k r in let z = none 0 (omega arith) in let h = count-none ts t ks rs (λ i l. none (suc i) (omega arith)) in omega arith

pub stands-somewhere : (xs : List Arrival) (t : ThreadId) (n : ℕ) → StandsAt (nodes_of xs) t n → Stands (lines_of xs) t
stands-somewhere xs t n h = let c = there-is_counted xs t n (there-node xs t n h) in let l = length-others t xs in Stands-found t xs (omega arith)

pub nowhere-count : (xs : List Arrival) (t : ThreadId) → count_by (λ (a : Arrival). is_thread t a.thread) xs ≡ 0 → StandsNowhere (lines_of xs) t
nowhere-count xs t none m r h = let l = length-others t xs in let f = others-fewer t xs (m, r, h) in absurd (omega arith)
