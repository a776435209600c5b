-- The record of a line, its threads, and the node of a thread, as they are found.
use Rattle.std.specs.Prelude.{◌≡◌, ◌≢◌, ◌⊎◌, ℕ, zero, suc, ◌+◌, ◌<◌, ◌≤◌, ◌==◌, ◌&&◌, Bool, true, false, cond, List, [], ◌∷◌, length, map as list_map, sum_by, count_by, slice_index_or, slice_get, Option, Some, None, IfSome, IfNone, ◌-◌}
use Rattle.std.proofs.Common.{refl, sym, ap, ◌∙◌, subst, inl, inr, arith}
use Rattle.std.proofs.lemmas.Bool.{eqb-true, and_parts, and_from, eq-eqb}
use Rattle.std.proofs.lemmas.List.{length-map, get_or-map}
use Rattle.std.proofs.lemmas.List.Sums.{sum_by-cons}
use Rattle.std.proofs.lemmas.Option.{slice_get-get_or}
use Rattle.lock_word.specs.declared.ThreadId.{ThreadId}
use Rattle.wait_lines.specs.declared.Role.{Role}
use Rattle.wait_lines.specs.declared.Role.TheVariants.{Entry}
use Rattle.wait_lines.specs.declared.links.Node.{Node}
use Rattle.wait_lines.specs.declared.links.Stop.{Stop}
use Rattle.wait_lines.specs.declared.links.Stop.TheVariants.{At, End, Free}
use Rattle.wait_lines.specs.declared.links.Spot.{Spot}
use Rattle.wait_lines.specs.declared.links.Ends.{Ends}
use Rattle.wait_lines.specs.Lines.{Key, key, StandsAt, Stands, StandsNowhere, role_number, is_thread, line}
use Rattle.wait_lines.specs.Links.{Chart, node, alone, unused, spot_at, ends_at, behind_of, before_of, unlinked, with_thread, with_key, is_node, is_of, BeginsAt, IsThere as AtHand}
use Rattle.wait_lines.specs.Rings.{Walk, AreRings, IsNoNode}
use Rattle.wait_lines.specs.Walks.{then_from, threads_from, then_node, node_from}
use Rattle.wait_lines.specs.Rows.{rows_of, row_at, times_number}
use Rattle.wait_lines.specs.Arrivals.{Arrival, lines_of, nodes_of, threads_of, keys_of, arrivals_of, tail_of, IsKept}
use Rattle.wait_lines.proofs.LinkLemmas.{there-behind}
use Rattle.wait_lines.proofs.RowLemmas.{times-cons, length-row, end_at-IsEnd}
use Rattle.wait_lines.proofs.ArrivalLemmas.{line-lines_of}
use Rattle.wait_lines.proofs.LineLemmas.{key-same, same_role}
use Rattle.wait_lines.proofs.ThreadLemmas.{same_thread}
use Rattle.wait_lines.proofs.NodeThreadLemmas.{IsThere as IsMember}
use Rattle.wait_lines.proofs.ArrivingLemmas.{NoneBut, thread_at, there-stands, there-in_row, count-none, stands-somewhere, nowhere-count, threads-row, threads-nowhere}
use Rattle.wait_lines.proofs.RecordLemmas.{walk-to_row, row-full, row-empty}
use Rattle.wait_lines.proofs.JoiningLemmas.{taken}

-- ---- the record that was found

pub key-shown : (c : Chart) (k : ℕ) → k < length c.ends → slice_index_or (keys_of c) k (key 0 Entry) ≡ key (ends_at c k).monitor (ends_at c k).role
key-shown c k there = get_or-map (λ (e : Ends). key e.monitor e.role) c.ends k (unused (End k)) (key 0 Entry) there

pub is_of-parts : (m : ℕ) (r : Role) (e : Ends) → is_of m r e ≡ true → (key e.monitor e.role ≡ key m r) × (is_node e.first ≡ true)
is_of-parts m r e whole =
    let both = and_parts ((e.monitor == m) && (role_number e.role == role_number r)) (is_node e.first) whole in
    let keys = and_parts (e.monitor == m) (role_number e.role == role_number r) both.0 in
    (key-same e.monitor m e.role r (eqb-true e.monitor m keys.0) (same_role e.role r (eqb-true (role_number e.role) (role_number r) keys.1)), both.1)

pub is_of-from : (m : ℕ) (r : Role) (e : Ends) → key e.monitor e.role ≡ key m r → is_node e.first ≡ true → is_of m r e ≡ true
is_of-from m r e same full =
    and_from ((e.monitor == m) && (role_number e.role == role_number r)) (is_node e.first)
    (and_from (e.monitor == m) (role_number e.role == role_number r) (eq-eqb e.monitor m (ap (λ (k : Key). k.0) same)) (eq-eqb (role_number e.role) (role_number r) (ap (λ (k : Key). role_number k.1) same))) full

-- what a look-up says of a record
abbrev pub IsLineFor : Chart → ℕ → Role → ℕ → Type 0
IsLineFor c m r k = (is_of m r (ends_at c k) ≡ true) ⊎ ((is_node (ends_at c k).first ≡ false) × ((i : ℕ) → i < length c.ends → is_of m r (ends_at c i) ≡ false))

module _ (c : Chart) (m : ℕ) (r : Role) (k : ℕ) (h : IsKept c) (there : k < length c.ends) where
  pub line_for-fits : IsLineFor c m r k → (row_at (tail_of (rows_of c)) k ≡ []) ⊎ (slice_index_or (keys_of c) k (key 0 Entry) ≡ key m r)
  line_for-fits (inl of) = inr (key-shown c k there ∙ (is_of-parts m r (ends_at c k) of).0)
  line_for-fits (inr vacant) = inl (row-empty c h k there vacant.0)

  some : (l : List ℕ) → l ≢ [] → 0 < length l
  some [] other = absurd (other refl)
  some (n ∷ ns) other = omega arith

  pub line_for-none : IsLineFor c m r k → NoneBut (keys_of c) (tail_of (rows_of c)) (key m r) k
  line_for-none (inl of) i i_in other same = at (is_node (ends_at c i).first) refl
    where
      i_there : i < length c.ends
      i_there = let l = length-map c.ends (λ (e : Ends). key e.monitor e.role) in omega arith

      at : (b : Bool) → is_node (ends_at c i).first ≡ b → row_at (tail_of (rows_of c)) i ≡ []
      at true e =
          let parts = is_of-parts m r (ends_at c k) of in
          absurd (other (h.one i k i_in (let l = length-map c.ends (λ (e : Ends). key e.monitor e.role) in omega arith) (same ∙ sym parts.0 ∙ sym (key-shown c k there))
          (some (row_at (tail_of (rows_of c)) i) (row-full c h i i_there e)) (some (row_at (tail_of (rows_of c)) k) (row-full c h k there parts.1))))
      at false e = row-empty c h i i_there e
  line_for-none (inr vacant) i i_in other same = at (is_node (ends_at c i).first) refl
    where
      i_there : i < length c.ends
      i_there = let l = length-map c.ends (λ (e : Ends). key e.monitor e.role) in omega arith

      at : (b : Bool) → is_node (ends_at c i).first ≡ b → row_at (tail_of (rows_of c)) i ≡ []
      at true e = absurd (let yes = is_of-from m r (ends_at c i) (sym (key-shown c i i_there) ∙ same) e in let no = vacant.1 i i_there in cc)
      at false e = row-empty c h i i_there e

pub no-node : (s : Stop) → ((x : Node) → s ≡ At x → ⊥) → is_node s ≡ false
no-node (At n) none = absurd (none n refl)
no-node (End k) none = refl
no-node Free none = refl

-- the chart after the four steps of a join
pub taken-is : (c d1 d2 d3 : Chart) (n : ℕ) (t : ThreadId) (k m : ℕ) (r : Role) → d1 ≡ unlinked c (node n) → d2 ≡ with_thread d1 n t → d3 ≡ with_key d2 k m r → d3 ≡ taken c n t k m r
taken-is c d1 d2 d3 n t k m r e f g = g ∙ ap (λ (d : Chart). with_key d k m r) (f ∙ ap (λ (d : Chart). with_thread d n t) e)

-- ---- a line by its links

threads-walk : (c : Chart) (l : ℕ) (p : Stop) (ns : List ℕ) (z : Stop) → AreRings (behind_of c) (before_of c) → AtHand c p → IsNoNode z → Walk (behind_of c) p ns z → length ns ≤ l
    → threads_from l c.spots (behind_of c p) ≡ list_map (thread_at (threads_of c)) ns
threads-walk c l p [] z rings there end w short = ap (threads_from l c.spots) w ∙ none l z end
  where
    none : (l : ℕ) (z : Stop) → IsNoNode z → threads_from l c.spots z ≡ []
    none zero z end = refl
    none (suc l) (At n) end = absurd (end n.0 refl)
    none (suc l) (End k) end = refl
    none (suc l) Free end = refl
threads-walk c zero p (n ∷ ns) z rings there end w short = absurd (omega arith)
threads-walk c (suc l) p (n ∷ ns) z rings there end w short =
    let here : n < length c.spots = subst (AtHand c) w.0 (there-behind c p rings there) in
    ap (threads_from (suc l) c.spots) w.0
    ∙ ap (λ o. then_from o (threads_from l c.spots)) (slice_get-get_or c.spots n (alone (node n)) here)
    ∙ ap (λ (u : ThreadId). u ∷ threads_from l c.spots (behind_of c (node n))) (sym (get_or-map (λ (s : Spot). s.thread) c.spots n (alone (node n)) (record { 0 = 0 }) here))
    ∙ ap (λ ts. thread_at (threads_of c) n ∷ ts) (threads-walk c l (node n) ns z rings here end w.1 (omega arith))

pub line-walk : (c : Chart) (m : ℕ) (r : Role) (s : Stop) → IsKept c → BeginsAt c m r s → threads_from (length c.spots) c.spots s ≡ line (lines_of (arrivals_of c)) m r
line-walk c m r s h (inl found) =
    let k = found.0 in
    let there = found.1 in
    let many = h.linked.many in
    let even : length (keys_of c) ≡ length c.ends = length-map c.ends (λ (e : Ends). key e.monitor e.role) in
    let rows : row_at (rows_of c) (suc k) ≡ row_at (tail_of (rows_of c)) k = refl in
    let short : length (row_at (tail_of (rows_of c)) k) ≤ sum_by length (rows_of c) = length-row (suc k) (rows_of c) (omega arith) in
    let total = h.linked.total in
    ap (threads_from (length c.spots) c.spots) found.3
    ∙ threads-walk c (length c.spots) (End k) (row_at (tail_of (rows_of c)) k) (End k) h.linked.rings there (end_at-IsEnd (suc k)) (walk-to_row c h k there) (omega arith)
    ∙ sym (threads-row (threads_of c) (keys_of c) (tail_of (rows_of c)) k (key m r) (omega arith) (omega arith)
    (key-shown c k there ∙ (is_of-parts m r (ends_at c k) found.2).0) (line_for-none c m r k h there (inl found.2)))
    ∙ sym (line-lines_of (arrivals_of c) m r)
line-walk c m r s h (inr absent) =
    ap (threads_from (length c.spots) c.spots) absent.0
    ∙ none (length c.spots)
    ∙ sym (threads-nowhere (threads_of c) (keys_of c) (tail_of (rows_of c)) (key m r) (λ i i_in same. empty i (let l = length-map c.ends (λ (e : Ends). key e.monitor e.role) in omega arith) same))
    ∙ sym (line-lines_of (arrivals_of c) m r)
  where
    none : (l : ℕ) → threads_from l c.spots Free ≡ []
    none zero = refl
    none (suc l) = refl

    empty : (i : ℕ) → i < length c.ends → slice_index_or (keys_of c) i (key 0 Entry) ≡ key m r → row_at (tail_of (rows_of c)) i ≡ []
    empty i there same = at (is_node (ends_at c i).first) refl
      where
        at : (b : Bool) → is_node (ends_at c i).first ≡ b → row_at (tail_of (rows_of c)) i ≡ []
        at true e = absurd (let yes = is_of-from m r (ends_at c i) (sym (key-shown c i there) ∙ same) e in let no = absent.1 i there in cc)
        at false e = row-empty c h i there e

-- ---- the node of a thread, by walking

-- the node that is found stands in the walk, and where none is found no node of it has the thread
abbrev pub FoundIn : Chart → ThreadId → List ℕ → Option Node → Type 0
FoundIn c t ns None = count_by (λ (u : ThreadId). is_thread t u) (list_map (thread_at (threads_of c)) ns) ≡ 0
FoundIn c t ns (Some n) = (1 ≤ times_number n.0 ns) × (thread_at (threads_of c) n.0 ≡ t)

found-walk : (c : Chart) (t : ThreadId) (l : ℕ) (p : Stop) (ns : List ℕ) (z : Stop) → AreRings (behind_of c) (before_of c) → AtHand c p → IsNoNode z → Walk (behind_of c) p ns z → length ns ≤ l
    → FoundIn c t ns (node_from l c.spots t (behind_of c p))
found-walk c t l p [] z rings there end w short = subst (λ s. FoundIn c t [] (node_from l c.spots t s)) (sym w) (none l z end)
  where
    none : (l : ℕ) (z : Stop) → IsNoNode z → FoundIn c t [] (node_from l c.spots t z)
    none zero z end = refl
    none (suc l) (At n) end = absurd (end n.0 refl)
    none (suc l) (End k) end = refl
    none (suc l) Free end = refl
found-walk c t zero p (n ∷ ns) z rings there end w short = absurd (omega arith)
found-walk c t (suc l) p (n ∷ ns) z rings there end w short =
    let here : n < length c.spots = subst (AtHand c) w.0 (there-behind c p rings there) in
    subst (λ s. FoundIn c t (n ∷ ns) (node_from (suc l) c.spots t s)) (sym w.0)
    (subst (λ o. FoundIn c t (n ∷ ns) (then_node t (record { 0 = n }) o (node_from l c.spots t))) (sym (slice_get-get_or c.spots n (alone (node n)) here))
    (at (is_thread t (spot_at c n).thread) refl (get_or-map (λ (s : Spot). s.thread) c.spots n (alone (node n)) (record { 0 = 0 }) here)
    (node_from l c.spots t (behind_of c (node n))) (found-walk c t l (node n) ns z rings here end w.1 (omega arith))))
  where
    at : (b : Bool) → is_thread t (spot_at c n).thread ≡ b → thread_at (threads_of c) n ≡ (spot_at c n).thread → (o : Option Node) → FoundIn c t ns o
        → FoundIn c t (n ∷ ns) (cond b (Some (record { 0 = n })) o)
    at true e same o again =
        (let f = times-cons n n ns ∙ ap (λ b. cond {A = ℕ} b 1 0 + times_number n ns) (eq-eqb n n refl) in omega arith, same ∙ same_thread t (spot_at c n).thread (eqb-true (spot_at c n).thread.0 t.0 e))
    at false e same None again =
        let f = sum_by-cons (λ (u : ThreadId). cond {A = ℕ} (is_thread t u) 1 0) (thread_at (threads_of c) n) (list_map (thread_at (threads_of c)) ns) in
        let g : cond {A = ℕ} (is_thread t (thread_at (threads_of c) n)) 1 0 ≡ 0 = ap (λ u. cond {A = ℕ} (is_thread t u) 1 0) same ∙ ap (λ b. cond {A = ℕ} b 1 0) e in
        omega arith
    at false e same (Some m) again = (let f = times-cons m.0 n ns in let h = again.0 in omega arith, again.1)

module _ (c : Chart) (t : ThreadId) (h : IsKept c) where
  sizes_here : (length (keys_of c) ≡ length c.ends) × (length (tail_of (rows_of c)) ≡ length c.ends)
  sizes_here = (length-map c.ends (λ (e : Ends). key e.monitor e.role), let many = h.linked.many in omega arith)

  found-row : (k : ℕ) → k < length c.ends → FoundIn c t (row_at (tail_of (rows_of c)) k) (node_from (length c.spots) c.spots t (ends_at c k).first)
  found-row k there =
      let short : length (row_at (tail_of (rows_of c)) k) ≤ sum_by length (rows_of c) = length-row (suc k) (rows_of c) (let many = h.linked.many in omega arith) in
      let total = h.linked.total in
      found-walk c t (length c.spots) (End k) (row_at (tail_of (rows_of c)) k) (End k) h.linked.rings there (end_at-IsEnd (suc k)) (walk-to_row c h k there) (omega arith)

  pub found-stands : (k : ℕ) (n : Node) → k < length c.ends → node_from (length c.spots) c.spots t (ends_at c k).first ≡ Some n → StandsAt (nodes_of (arrivals_of c)) t n.0
  found-stands k n there e =
      let f : FoundIn c t (row_at (tail_of (rows_of c)) k) (Some n) = subst (FoundIn c t (row_at (tail_of (rows_of c)) k)) e (found-row k there) in
      there-stands (arrivals_of c) t n.0 (h.solo t)
      (subst (λ u. IsMember (arrivals_of c) u n.0) f.1
      (there-in_row (threads_of c) (keys_of c) (tail_of (rows_of c)) k n.0 (let x = sizes_here.0 in omega arith) (sizes_here.0 ∙ sym sizes_here.1) f.0))

  pub none-stands : ((k : ℕ) → k < length c.ends → node_from (length c.spots) c.spots t (ends_at c k).first ≡ None) → count_by (λ (a : Arrival). is_thread t a.thread) (arrivals_of c) ≡ 0
  none-stands none =
      count-none (threads_of c) t (keys_of c) (tail_of (rows_of c)) (λ k l.
      let there : k < length c.ends = (let x = sizes_here.0 in omega arith) in
      subst (FoundIn c t (row_at (tail_of (rows_of c)) k)) (none k there) (found-row k there))

-- ---- one step of the walk

pub threads_from-step : (l : ℕ) (spots : List Spot) (p : Stop) (n : Node) (s : Spot) (left : List ThreadId) → threads_from l spots p ≡ left → p ≡ At n → (l ≡ 0 → ⊥) → slice_get spots n.0 ≡ Some s → left ≡ s.thread ∷ threads_from (l - 1) spots s.behind
threads_from-step zero spots p n s left seen here some found = absurd (some refl)
threads_from-step (suc l) spots p n s left seen here some found =
    sym seen ∙ ap (threads_from (suc l) spots) here ∙ ap (λ o. then_from o (threads_from l spots)) found
    ∙ ap (λ k. s.thread ∷ threads_from k spots s.behind) (let e : l ≡ suc l - 1 = omega arith in e)

pub node_from-step : (l : ℕ) (spots : List Spot) (t : ThreadId) (n : Node) (s : Spot) → 0 < l → slice_get spots n.0 ≡ Some s → is_thread t s.thread ≡ false → node_from l spots t (At n) ≡ node_from (l - 1) spots t s.behind
node_from-step zero spots t n s low e other = absurd (omega arith)
node_from-step (suc l) spots t n s low e other =
    ap (λ o. then_node t n o (node_from l spots t)) e ∙ ap (λ b. cond b (Some n) (node_from l spots t s.behind)) other
    ∙ ap (λ k. node_from k spots t s.behind) (let e : l ≡ suc l - 1 = omega arith in e)

pub found-found : (c : Chart) (t : ThreadId) (h : IsKept c) (o : Option Node) → IfSome o (λ n. (k : ℕ) × (k < length c.ends) × (node_from (length c.spots) c.spots t (ends_at c k).first ≡ Some n)) → IfSome o (λ n. StandsAt (nodes_of (arrivals_of c)) t n.0)
found-found c t h None f = f
found-found c t h (Some n) f = found-stands c t h f.0 n f.1 f.2

pub found-somewhere : (c : Chart) (t : ThreadId) (o : Option Node) → IfSome o (λ n. StandsAt (nodes_of (arrivals_of c)) t n.0) → IfSome o (λ n. Stands (lines_of (arrivals_of c)) t)
found-somewhere c t None f = f
found-somewhere c t (Some n) f = stands-somewhere (arrivals_of c) t n.0 f

pub none-nowhere : (c : Chart) (t : ThreadId) (h : IsKept c) (o : Option Node) → IfNone o ((k : ℕ) → k < length c.ends → node_from (length c.spots) c.spots t (ends_at c k).first ≡ None) → IfNone o (StandsNowhere (lines_of (arrivals_of c)) t)
none-nowhere c t h None f = nowhere-count (arrivals_of c) t (none-stands c t h f)
none-nowhere c t h (Some n) f = f

pub none-at : (c : Chart) (t : ThreadId) (o : Option Node) → IfNone o (StandsNowhere (lines_of (arrivals_of c)) t) → IfNone o ((n : ℕ) → ¬ StandsAt (nodes_of (arrivals_of c)) t n)
none-at c t None f = λ n at. let s = stands-somewhere (arrivals_of c) t n at in f s.0 s.1 s.2
none-at c t (Some n) f = f
