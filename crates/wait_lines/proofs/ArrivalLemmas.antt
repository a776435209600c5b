-- The lines that arrivals show, after one more and without those of a thread.
use Rattle.std.specs.Prelude.{◌≡◌, ◌≢◌, ◌⊎◌, ℕ, ◌<◌, ◌≤◌, ◌==◌, Bool, true, false, cond, not, List, [], ◌∷◌, ◌++◌, map as list_map, length, filter, Contains}
use Rattle.std.proofs.Common.{refl, sym, ap, ◌∙◌, subst, inl, inr, arith, append-nil}
use Rattle.std.proofs.lemmas.Bool.{eq-eqb, eqb-true, and_parts, and_from, cases_lt}
use Rattle.std.proofs.lemmas.List.{map-append}
use Rattle.std.proofs.lemmas.List.Elements.{filter-append}
use Rattle.std.proofs.lemmas.List.Sums.{length-filter, count_by-le-length}
use Rattle.lock_word.specs.declared.ThreadId.{ThreadId}
use Rattle.wait_lines.specs.declared.Role.{Role}
use Rattle.wait_lines.specs.Lines.{Key, key, role_number, line, StandsIn, Stands, is_thread, without, after_join, after_leave, total_count, IsFilled, IsOrderly}
use Rattle.wait_lines.specs.Arrivals.{Arrival, is_in, threads_in, lines_of, standing_of}
use Rattle.wait_lines.proofs.LineLemmas.{same_role, key-same, cases_key, line-key, line-empty, line-with_line_same, line-with_line_other, IsFilled-empty, IsFilled-with_line, same_lines, total_count-empty, total_count-with_line, IsOrderly-after_leave}
use Rattle.wait_lines.proofs.ThreadLemmas.{same_thread, is_same, Contains-cons_cases, Contains-cons_first, Contains-cons_later, without-absent}

pub is_in-key : (m : ℕ) (r : Role) (a : Arrival) → is_in m r a ≡ true → key m r ≡ key a.monitor a.role
is_in-key m r a e =
    let both = and_parts (a.monitor == m) (role_number a.role == role_number r) e in
    key-same m a.monitor r a.role (sym (eqb-true a.monitor m both.0)) (sym (same_role a.role r (eqb-true (role_number a.role) (role_number r) both.1)))

pub is_in-itself : (m : ℕ) (r : Role) (a : Arrival) → key m r ≡ key a.monitor a.role → is_in m r a ≡ true
is_in-itself m r a e =
    and_from (a.monitor == m) (role_number a.role == role_number r) (eq-eqb a.monitor m (ap (λ (k : Key). k.0) (sym e))) (eq-eqb (role_number a.role) (role_number r) (ap (λ (k : Key). role_number k.1) (sym e)))

-- the lines that arrivals show
pub line-lines_of : (arrivals : List Arrival) (m : ℕ) (r : Role) → line (lines_of arrivals) m r ≡ threads_in arrivals m r
line-lines_of [] m r = line-empty m r
line-lines_of (a ∷ rest) m r = at (is_in m r a) refl (line-lines_of rest m r)
  where
    at : (b : Bool) → is_in m r a ≡ b → line (lines_of rest) m r ≡ threads_in rest m r
        → line (lines_of (a ∷ rest)) m r ≡ list_map (λ (x : Arrival). x.thread) (cond b (a ∷ filter (is_in m r) rest) (filter (is_in m r) rest))
    at true e again =
        let same = is_in-key m r a e in
        line-key (lines_of (a ∷ rest)) a.monitor m a.role r same
        ∙ line-with_line_same (lines_of rest) a.monitor a.role (a.thread ∷ line (lines_of rest) a.monitor a.role)
        ∙ ap (λ l. a.thread ∷ l) (sym (line-key (lines_of rest) a.monitor m a.role r same) ∙ again)
    at false e again =
        line-with_line_other (lines_of rest) a.monitor m a.role r (a.thread ∷ line (lines_of rest) a.monitor a.role) (λ same. let yes = is_in-itself m r a same in cc)
        ∙ again

pub IsFilled-lines_of : (arrivals : List Arrival) → IsFilled (lines_of arrivals)
IsFilled-lines_of [] = IsFilled-empty
IsFilled-lines_of (a ∷ rest) = IsFilled-with_line (lines_of rest) a.monitor a.role (a.thread ∷ line (lines_of rest) a.monitor a.role) (IsFilled-lines_of rest)

pub total_count-lines_of : (arrivals : List Arrival) → total_count (lines_of arrivals) ≡ length arrivals
total_count-lines_of [] = total_count-empty
total_count-lines_of (a ∷ rest) =
    let again = total_count-lines_of rest in
    let e = total_count-with_line (lines_of rest) a.monitor a.role (a.thread ∷ line (lines_of rest) a.monitor a.role) in
    omega arith

-- ---- one more

-- ---- without those of a thread

-- the arrivals of other threads
abbrev pub others : ThreadId → List Arrival → List Arrival
others t arrivals = filter (λ a. not (is_thread t a.thread)) arrivals

threads_in-others : (t : ThreadId) (arrivals : List Arrival) (m : ℕ) (r : Role) → threads_in (others t arrivals) m r ≡ without t (threads_in arrivals m r)
threads_in-others t [] m r = refl
threads_in-others t (a ∷ rest) m r = at (is_thread t a.thread) (is_in m r a) refl refl (threads_in-others t rest m r)
  where
    at : (gone here : Bool) → is_thread t a.thread ≡ gone → is_in m r a ≡ here → threads_in (others t rest) m r ≡ without t (threads_in rest m r)
        → list_map (λ (x : Arrival). x.thread) (filter (is_in m r) (cond (not gone) (a ∷ others t rest) (others t rest)))
        ≡ without t (list_map (λ (x : Arrival). x.thread) (cond here (a ∷ filter (is_in m r) rest) (filter (is_in m r) rest)))
    at true true e f again = rw e again
    at true false e f again = again
    at false true e f again = rw (e, f) (ap (λ l. a.thread ∷ l) again)
    at false false e f again = rw f again

-- to drop a thread's arrivals is to leave the line that it stands in
pub lines_of-others : (t : ThreadId) (arrivals : List Arrival) (reservations m : ℕ) (r : Role) → IsOrderly (standing_of arrivals reservations) → StandsIn (lines_of arrivals) t m r
    → lines_of (others t arrivals) ≡ after_leave (lines_of arrivals) t m r
lines_of-others t arrivals reservations m r orderly stands =
    same_lines _ _ (IsFilled-lines_of (others t arrivals)) (IsFilled-with_line (lines_of arrivals) m r _ (IsFilled-lines_of arrivals)) (λ n q.
    line-lines_of (others t arrivals) n q ∙ threads_in-others t arrivals n q ∙ ap (without t) (sym (line-lines_of arrivals n q)) ∙ at n q (cases_key m n r q))
  where
    at : (n : ℕ) (q : Role) → (key n q ≡ key m r) ⊎ (key n q ≢ key m r) → without t (line (lines_of arrivals) n q) ≡ line (after_leave (lines_of arrivals) t m r) n q
    at n q (inl same) =
        ap (without t) (line-key (lines_of arrivals) m n r q same)
        ∙ sym (line-key (after_leave (lines_of arrivals) t m r) m n r q same ∙ line-with_line_same (lines_of arrivals) m r (without t (line (lines_of arrivals) m r)))
    at n q (inr other) =
        without-absent t (line (lines_of arrivals) n q) (λ h. let there = orderly.one_line t n m q r h stands in other (key-same n m q r there.0 there.1))
        ∙ sym (line-with_line_other (lines_of arrivals) m n r q (without t (line (lines_of arrivals) m r)) other)

length-others : (t : ThreadId) (arrivals : List Arrival) → length (others t arrivals) ≤ length arrivals
length-others t arrivals =
    let e = length-filter (λ (a : Arrival). not (is_thread t a.thread)) arrivals in
    let l = count_by-le-length (λ (a : Arrival). not (is_thread t a.thread)) arrivals in omega arith

-- where all arrivals are of others, they are the arrivals
pub others-all : (t : ThreadId) (arrivals : List Arrival) → length arrivals ≤ length (others t arrivals) → others t arrivals ≡ arrivals
others-all t [] h = refl
others-all t (a ∷ rest) h = at (is_thread t a.thread) (others-all t rest) h
  where
    at : (gone : Bool) → (length rest ≤ length (others t rest) → others t rest ≡ rest) → length (a ∷ rest) ≤ length (cond (not gone) (a ∷ others t rest) (others t rest))
        → cond (not gone) (a ∷ others t rest) (others t rest) ≡ a ∷ rest
    at true again h = let l = length-others t rest in absurd (omega arith)
    at false again h = ap (λ l. a ∷ l) (again (omega arith))

-- a thread with an arrival stands in a line
found : (t : ThreadId) (arrivals : List Arrival) → length (others t arrivals) < length arrivals → (m : ℕ) × (r : Role) × Contains (threads_in arrivals m r) t
found t [] h = absurd (omega arith)
found t (a ∷ rest) h = at (is_thread t a.thread) refl (found t rest) h
  where
    stands : (m : ℕ) (r : Role) (here : Bool) → Contains (threads_in rest m r) t → Contains (list_map (λ (x : Arrival). x.thread) (cond here (a ∷ filter (is_in m r) rest) (filter (is_in m r) rest))) t
    stands m r true h = Contains-cons_later a.thread (threads_in rest m r) t h
    stands m r false h = h

    at : (gone : Bool) → is_thread t a.thread ≡ gone → (length (others t rest) < length rest → (m : ℕ) × (r : Role) × Contains (threads_in rest m r) t)
        → length (cond (not gone) (a ∷ others t rest) (others t rest)) < length (a ∷ rest) → (m : ℕ) × (r : Role) × Contains (threads_in (a ∷ rest) m r) t
    at true e again h =
        let here = is_in-itself a.monitor a.role a refl in (
          a.monitor,
          a.role,
          subst (λ b. Contains (list_map (λ (x : Arrival). x.thread) (cond b (a ∷ filter (is_in a.monitor a.role) rest) (filter (is_in a.monitor a.role) rest))) t) (sym here)
              (Contains-cons_first a.thread (threads_in rest a.monitor a.role) t (same_thread t a.thread (eqb-true a.thread.0 t.0 e))),
        )
    at false e again h = let there = again (omega arith) in (there.0, there.1, stands there.0 there.1 (is_in there.0 there.1 a) there.2)

pub Stands-found : (t : ThreadId) (arrivals : List Arrival) → length (others t arrivals) < length arrivals → Stands (lines_of arrivals) t
Stands-found t arrivals h = let there = found t arrivals h in (there.0, there.1, subst (λ l. Contains l t) (sym (line-lines_of arrivals there.0 there.1)) there.2)

-- and a thread that stands in a line has an arrival
fewer : (t : ThreadId) (arrivals : List Arrival) (m : ℕ) (r : Role) → Contains (threads_in arrivals m r) t → length (others t arrivals) < length arrivals
fewer t [] m r h = let l : h.0 < 0 = h.1 in absurd (omega arith)
fewer t (a ∷ rest) m r h = at (is_thread t a.thread) (is_in m r a) refl (fewer t rest m r) h
  where
    later : is_thread t a.thread ≡ false → (Contains (threads_in rest m r) t → length (others t rest) < length rest)
        → (a.thread ≡ t) ⊎ Contains (threads_in rest m r) t → length (others t rest) < length rest
    later e again (inl same) = let yes = is_same t a.thread same in absurd (cc)
    later e again (inr h) = again h

    at : (gone here : Bool) → is_thread t a.thread ≡ gone → (Contains (threads_in rest m r) t → length (others t rest) < length rest)
        → Contains (list_map (λ (x : Arrival). x.thread) (cond here (a ∷ filter (is_in m r) rest) (filter (is_in m r) rest))) t
        → length (cond (not gone) (a ∷ others t rest) (others t rest)) < length (a ∷ rest)
    at true here e again h = let l = length-others t rest in omega arith
    at false true e again h = let l = later e again (Contains-cons_cases a.thread (threads_in rest m r) t h) in omega arith
    at false false e again h = let l = again h in omega arith

pub others-fewer : (t : ThreadId) (arrivals : List Arrival) → Stands (lines_of arrivals) t → length (others t arrivals) < length arrivals
others-fewer t arrivals stands = fewer t arrivals stands.0 stands.1 (subst (λ l. Contains l t) (line-lines_of arrivals stands.0 stands.1) stands.2)

-- ---- what is kept

-- to drop a thread's arrivals leaves the lines in order
pub IsOrderly-others : (t : ThreadId) (arrivals : List Arrival) (reservations : ℕ) → IsOrderly (standing_of arrivals reservations) → IsOrderly (standing_of (others t arrivals) reservations)
IsOrderly-others t arrivals reservations orderly = at (cases_lt (length (others t arrivals)) (length arrivals))
  where
    at : (length (others t arrivals) < length arrivals) ⊎ (length arrivals ≤ length (others t arrivals)) → IsOrderly (standing_of (others t arrivals) reservations)
    at (inl fewer) =
        let stands = Stands-found t arrivals fewer in
        subst (λ l. IsOrderly (record { lines = l; reservations = reservations })) (sym (lines_of-others t arrivals reservations stands.0 stands.1 orderly stands.2))
        (IsOrderly-after_leave (standing_of arrivals reservations) t stands.0 stands.1 orderly)
    at (inr all) = subst (λ l. IsOrderly (standing_of l reservations)) (sym (others-all t arrivals all)) orderly

-- ---- one more, before others of other lines

threads_in-append : (xs ys : List Arrival) (m : ℕ) (r : Role) → threads_in (xs ++ ys) m r ≡ threads_in xs m r ++ threads_in ys m r
threads_in-append xs ys m r =
    ap (list_map (λ (x : Arrival). x.thread)) (filter-append (is_in m r) xs ys)
    ∙ map-append (λ (x : Arrival). x.thread) (filter (is_in m r) xs) (filter (is_in m r) ys)

pub lines_of-insert : (xs ys : List Arrival) (a : Arrival) → threads_in ys a.monitor a.role ≡ [] → lines_of (xs ++ a ∷ ys) ≡ after_join (lines_of (xs ++ ys)) a.thread a.monitor a.role
lines_of-insert xs ys a none =
    same_lines _ _ (IsFilled-lines_of (xs ++ a ∷ ys)) (IsFilled-with_line (lines_of (xs ++ ys)) a.monitor a.role _ (IsFilled-lines_of (xs ++ ys))) (λ m r.
    line-lines_of (xs ++ a ∷ ys) m r ∙ threads_in-append xs (a ∷ ys) m r ∙ at m r (is_in m r a) refl)
  where
    at : (m : ℕ) (r : Role) (b : Bool) → is_in m r a ≡ b
        → threads_in xs m r ++ list_map (λ (x : Arrival). x.thread) (cond b (a ∷ filter (is_in m r) ys) (filter (is_in m r) ys)) ≡ line (after_join (lines_of (xs ++ ys)) a.thread a.monitor a.role) m r
    at m r true e =
        let same = is_in-key m r a e in
        let here : threads_in ys m r ≡ [] = ap (λ (k : Key). threads_in ys k.0 k.1) same ∙ none in
        ap (λ l. threads_in xs m r ++ a.thread ∷ l) here
        ∙ ap (λ l. l ++ a.thread ∷ []) (sym (append-nil (threads_in xs m r)) ∙ ap (λ l. threads_in xs m r ++ l) (sym here) ∙ sym (threads_in-append xs ys m r) ∙ sym (line-lines_of (xs ++ ys) m r) ∙ line-key (lines_of (xs ++ ys)) a.monitor m a.role r same)
        ∙ sym (line-key (after_join (lines_of (xs ++ ys)) a.thread a.monitor a.role) a.monitor m a.role r same
        ∙ line-with_line_same (lines_of (xs ++ ys)) a.monitor a.role (line (lines_of (xs ++ ys)) a.monitor a.role ++ a.thread ∷ []))
    at m r false e =
        sym (threads_in-append xs ys m r) ∙ sym (line-lines_of (xs ++ ys) m r)
        ∙ sym (line-with_line_other (lines_of (xs ++ ys)) a.monitor m a.role r (line (lines_of (xs ++ ys)) a.monitor a.role ++ a.thread ∷ []) (λ same. let yes = is_in-itself m r a same in cc))
