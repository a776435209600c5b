-- What was visited, and what a search has found in the end.
use native.Mathlib.Omega.{arith}
use Rattle.std.proofs.Common.{◌≡◌, ◌⊎◌, inl, inr, ◌∙◌, subst, sym, ap, refl, ℕ, zero, suc, ◌+◌, ◌<◌, ◌≤◌, List, [], ◌∷◌, ◌++◌, length, Option, Some, None, Bool, true, false, length-append}
use Rattle.explore_java.specs.declared.codes.Code.{Code}
use Rattle.std.proofs.Common.{get_or, ◌-◌, append_assoc}
use Rattle.std.specs.Prelude.{reverse}
use Rattle.std.proofs.lemmas.List.{reverse-append}
use Rattle.std.proofs.lemmas.Option.{slice_get-get_or}
use Rattle.std.specs.Option.{unwrap_or}
use Rattle.std.specs.Prelude.{slice_index_or, if◌then◌else◌}
use Rattle.std.specs.Prelude.{◌==◌}
use Rattle.std.proofs.lemmas.Bool.{cases_lt, eqb-true, eq-eqb}
use Rattle.std.proofs.lemmas.List.{get_or_append_left}
use Rattle.std.proofs.Math.Seq.{get_or-append_seam}
use Rattle.explore.specs.declared.programs.Program.{Program}
use Rattle.step_core.specs.declared.machine.Move.{Move}
use Rattle.explore_java.specs.declared.found.Node.{Node}
use Rattle.explore_java.specs.JavaStates.{JavaProgramState, after, played, played_from, opening}
use Rattle.explore_java.specs.JavaFound.{witness_at, witnesses, witnesses_from, grown, IsAt, IsEnd, AreEnds, AreStates, AreParents, FindsAll, HasMore, HasParent, node_at}
use Rattle.explore_java.specs.JavaStates.{code_of, IsProper}
use Rattle.explore_java.specs.JavaSearches.{IsSearch, IsNear, StaysIn, IsClosed, IsVisited, AreFoundFrom, AllFoundFrom, AreTried, behind}
use Rattle.explore_java.specs.JavaFound.{made_among, steps_before}
use Rattle.explore_java.specs.Moves.{moves_in}
use Rattle.explore_java.proofs.Choosing.{all_found, is_end, none_made, some_made, few_moves}
use Rattle.explore_java.proofs.Searching.{stays_more, witness_before, witness_last}
use Rattle.explore_java.proofs.Trying.{stays_still, stays_then, behind_stays, found_stays, at_stays}

-- ---- visited

pub closed_next : (p : Program) (a b : List (List Move)) (n : ℕ) (s : JavaProgramState)
    → IsClosed p a n → StaysIn a b → n < length a → IsAt p a n s → AllFoundFrom p b (behind b n) s → IsClosed p b (n + 1)
closed_next p a b n s closed stays lt here all = λ k r below leads c t made. pick k r below leads c t made (cases_lt k n)
  where
    pick : (k : ℕ) (r : JavaProgramState) → k < n + 1 → IsAt p b k r → (c : Move) (t : JavaProgramState) → after p r c ≡ Some t
        → (k < n) ⊎ (n ≤ k) → IsNear p b t (behind b k)
    pick k r below leads c t made (inl before) =
        let old : IsAt p a k r = rw (sym (stays.same k (omega (arith, before, lt)))) leads in
        subst (λ (d : ℕ). IsNear p b t d) (behind_stays a b k stays (omega (arith, before, lt))) (found_stays p a b (behind a k) t stays (closed k r before old c t made))
    pick k r below leads c t made (inr past) =
        let same : k ≡ n = omega (arith, below, past) in
        let now : IsAt p b n s = at_stays p a b n s stays lt here in
        let one : s ≡ r = ap (λ (o : Option JavaProgramState). unwrap_or o r) (sym now ∙ subst (λ (m : ℕ). IsAt p b m r) same leads) in
        subst (λ (m : ℕ). IsNear p b t (behind b m)) (sym same) (all c t (subst (λ (x : JavaProgramState). after p x c ≡ Some t) (sym one) made))

-- a state that is no end leaves the ends that there were
pub ends_stay : (p : Program) (a b : List (List Move)) (n : ℕ) (ends : List ℕ) (s : JavaProgramState)
    → AreEnds p a n ends → StaysIn a b → n < length a → IsAt p a n s → (IsEnd p s → ⊥) → AreEnds p b (n + 1) ends
ends_stay p a b n ends s h stays lt here not_end = record {
  each = λ i within.
      let e = h.each i within in
      (e.0, at_stays p a b (slice_index_or ends i 0) e.0 stays (let x = e.3 in omega (arith, x, lt)) e.1, e.2, (let x = e.3 in omega (arith, x)));
  rising = h.rising;
  every = λ k r below leads end. pick k r below leads end (cases_lt k n);
}
  where
    pick : (k : ℕ) (r : JavaProgramState) → k < n + 1 → IsAt p b k r → IsEnd p r → (k < n) ⊎ (n ≤ k)
        → (i : ℕ) × (i < length ends) × (slice_index_or ends i 0 ≡ k)
    pick k r below leads end (inl before) =
        let old : IsAt p a k r = rw (sym (stays.same k (omega (arith, before, lt)))) leads in
        h.every k r before old end
    pick k r below leads end (inr past) =
        let same : k ≡ n = omega (arith, below, past) in
        let now : IsAt p b n s = at_stays p a b n s stays lt here in
        let one : s ≡ r = ap (λ (o : Option JavaProgramState). unwrap_or o r) (sym now ∙ subst (λ (m : ℕ). IsAt p b m r) same leads) in
        absurd (not_end (subst (λ (x : JavaProgramState). IsEnd p x) (sym one) end))

-- and one that is an end is noted
pub ends_more : (p : Program) (a b : List (List Move)) (n : ℕ) (ends : List ℕ) (s : JavaProgramState)
    → AreEnds p a n ends → StaysIn a b → n < length a → IsAt p a n s → IsEnd p s → AreEnds p b (n + 1) (ends ++ n ∷ [])
ends_more p a b n ends s h stays lt here is = record {
  each = λ i within. one_of i within (cases_lt i (length ends));
  rising = λ i j below within. rise i j below within (cases_lt j (length ends));
  every = λ k r below leads end. pick k r below leads end (cases_lt k n);
}
  where
    kept : (i : ℕ) → i < length ends → slice_index_or (ends ++ n ∷ []) i 0 ≡ slice_index_or ends i 0
    kept i before = get_or_append_left ends (n ∷ []) 0 i before

    rise : (i j : ℕ) → i < j → j < length (ends ++ n ∷ []) → (j < length ends) ⊎ (length ends ≤ j)
        → slice_index_or (ends ++ n ∷ []) i 0 < slice_index_or (ends ++ n ∷ []) j 0
    rise i j below within (inl before) =
        let a = kept i (omega (arith, below, before)) in
        let b = kept j before in
        let h = h.rising i j below before in
        omega (arith, a, b, h)
    rise i j below within (inr past) =
        let l = length-append ends (n ∷ []) in
        let here : j ≡ length ends = omega (arith, l, within, past) in
        let first : i < length ends = omega (arith, below, here) in
        let a = kept i first in
        let b : slice_index_or (ends ++ n ∷ []) j 0 ≡ n = ap (λ (k : ℕ). slice_index_or (ends ++ n ∷ []) k 0) here ∙ get_or-append_seam ends n [] 0 in
        let x = (h.each i first).3 in
        omega (arith, a, b, x)

    one_of : (i : ℕ) → i < length (ends ++ n ∷ []) → (i < length ends) ⊎ (length ends ≤ i)
        → (r : JavaProgramState) × IsAt p b (slice_index_or (ends ++ n ∷ []) i 0) r × IsEnd p r × (slice_index_or (ends ++ n ∷ []) i 0 < n + 1)
    one_of i within (inl before) =
        let e = h.each i before in
        let same : slice_index_or (ends ++ n ∷ []) i 0 ≡ slice_index_or ends i 0 = get_or_append_left ends (n ∷ []) 0 i before in
        let x = e.3 in
        rw same (e.0, at_stays p a b (slice_index_or ends i 0) e.0 stays (omega (arith, x, lt)) e.1, e.2, omega (arith, x))
    one_of i within (inr past) =
        let l = length-append ends (n ∷ []) in
        let here_i : i ≡ length ends = omega (arith, l, within, past) in
        let same : slice_index_or (ends ++ n ∷ []) i 0 ≡ n = ap (λ (k : ℕ). slice_index_or (ends ++ n ∷ []) k 0) here_i ∙ get_or-append_seam ends n [] 0 in
        rw same (s, at_stays p a b n s stays lt here, is, omega arith)

    pick : (k : ℕ) (r : JavaProgramState) → k < n + 1 → IsAt p b k r → IsEnd p r → (k < n) ⊎ (n ≤ k)
        → (i : ℕ) × (i < length (ends ++ n ∷ [])) × (slice_index_or (ends ++ n ∷ []) i 0 ≡ k)
    pick k r below leads end (inl before) =
        let old : IsAt p a k r = rw (sym (stays.same k (omega (arith, before, lt)))) leads in
        let f = h.every k r before old end in
        let x = f.1 in
        let l = length-append ends (n ∷ []) in
        (f.0, omega (arith, l, x), get_or_append_left ends (n ∷ []) 0 f.0 x ∙ f.2)
    pick k r below leads end (inr past) =
        let same : k ≡ n = omega (arith, below, past) in
        let l = length-append ends (n ∷ []) in
        (length ends, omega (arith, l), get_or-append_seam ends n [] 0 ∙ sym same)

-- the first of those that wait is taken
pub first_taken : (p : Program) (keys : List Code) (ws : List (List Move)) (queue rest : List JavaProgramState) (n : ℕ) (s : JavaProgramState)
    → IsSearch p keys ws queue n → queue ≡ s ∷ rest → IsSearch p keys ws rest (n + 1)
first_taken p keys ws queue rest n s h e = record {
  counted = h.counted;
  waiting = (let l = ap (λ (q : List JavaProgramState). length q) e in let w = h.waiting in omega (arith, l, w));
  known = h.known;
  distinct = h.distinct;
  queued = λ j r leads.
      let here : IsAt p ws (n + suc j) r = h.queued (suc j) r (rw e leads) in
      subst (λ (m : ℕ). IsAt p ws m r) (omega arith) here;
  rising = h.rising;
  near = λ k lt.
      let l = ap (λ (q : List JavaProgramState). length q) e in let w = h.waiting in
      let one : n + 1 - 1 ≡ n = omega arith in
      let a = h.near k lt in
      let b = h.rising (n - 1) n (omega arith) (omega (arith, l, w)) in
      subst (λ (j : ℕ). length (witness_at ws k) ≤ length (witness_at ws j) + 1) (sym one) (omega (arith, a, b));
}

pub first_here : (p : Program) (keys : List Code) (ws : List (List Move)) (queue rest : List JavaProgramState) (n : ℕ) (s : JavaProgramState)
    → IsSearch p keys ws queue n → queue ≡ s ∷ rest → IsAt p ws n s
first_here p keys ws queue rest n s h e =
    let here : IsAt p ws (n + 0) s = h.queued 0 s (rw e refl) in
    subst (λ (m : ℕ). IsAt p ws m s) (omega arith) here

first_within : (p : Program) (keys : List Code) (ws : List (List Move)) (queue rest : List JavaProgramState) (n : ℕ) (s : JavaProgramState)
    → IsSearch p keys ws queue n → queue ≡ s ∷ rest → n < length ws
first_within p keys ws queue rest n s h e =
    let l = ap (λ (q : List JavaProgramState). length q) e in let w = h.waiting in omega (arith, l, w)

-- ---- counted

steps_stay : (p : Program) (a b : List (List Move)) (n : ℕ) → StaysIn a b → n ≤ length a → steps_before p a n ≡ steps_before p b n
steps_stay p a b zero stays le = refl
steps_stay p a b (suc n) stays le =
    let h = steps_stay p a b n stays (omega (arith, le)) in
    let same = stays.same n (omega (arith, le)) in
    rw (h, same) refl

-- the steps of one state more
steps_next : (p : Program) (a b : List (List Move)) (n : ℕ) (s : JavaProgramState) (steps made : ℕ)
    → StaysIn a b → n < length a → IsAt p a n s → steps ≡ steps_before p a n
    → made ≡ made_among p s (moves_in p s) (length (moves_in p s)) → steps + made ≡ steps_before p b (n + 1)
steps_next p a b n s steps made stays lt here before counted =
    let one : n + 1 ≡ suc n = omega arith in
    let h = steps_stay p a b n stays (omega (arith, lt)) in
    let there : played p (witness_at b n) ≡ Some s = at_stays p a b n s stays lt here in
    rw (one, before, h, counted, there) refl

-- one state more was visited
pub visited_next : (p : Program) (keys keys' : List Code) (ws ws' : List (List Move)) (queue rest queue' : List JavaProgramState) (ends ends' : List ℕ) (steps made n : ℕ) (s : JavaProgramState) (ms : List Move)
    → IsVisited p keys ws queue ends steps n → queue ≡ s ∷ rest → IsProper p s → ms ≡ moves_in p s
    → IsSearch p keys' ws' queue' (n + 1) → StaysIn ws ws' → AreTried p ws' (behind ws' n) s ms (length ms) made
    → ends' ≡ (if made == 0 then ends ++ n ∷ [] else ends)
    → IsVisited p keys' ws' queue' ends' (steps + made) (n + 1)
visited_next p keys keys' ws ws' queue rest queue' ends ends' steps made n s ms v e proper all search stays tried noted =
    let lt = first_within p keys ws queue rest n s v.search e in
    let here = first_here p keys ws queue rest n s v.search e in
    let total = tried.counted ∙ ap (λ (xs : List Move). made_among p s xs (length xs)) all in
    record {
      search = search;
      closed = closed_next p ws ws' n s v.closed stays lt here
          (all_found p ws' (behind ws' n) s proper (subst (λ (xs : List Move). AreFoundFrom p ws' (behind ws' n) s xs (length xs)) all tried.found));
      noted = by (made == 0) refl noted lt here total;
      counted = steps_next p ws ws' n s steps made stays lt here v.counted total;
      few = (let x = v.few in let y = tried.few in let l = ap (λ (xs : List Move). length xs) all in let m = few_moves p s in omega (arith, x, y, l, m));
    }
  where
    by : (end : Bool) → (made == 0) ≡ end → ends' ≡ (if end then ends ++ n ∷ [] else ends) → n < length ws → IsAt p ws n s
        → made ≡ made_among p s (moves_in p s) (length (moves_in p s)) → AreEnds p ws' (n + 1) ends'
    by true is noted lt here total =
        let none : made ≡ 0 = eqb-true made 0 is in
        rw noted (ends_more p ws ws' n ends s v.noted stays lt here
        (is_end p s proper (none_made p s (moves_in p s) (length (moves_in p s)) (sym total ∙ none))))
    by false is noted lt here total =
        rw noted (ends_stay p ws ws' n ends s v.noted stays lt here
        (λ end. some_made p s (moves_in p s) (length (moves_in p s)) end (λ zero. let g = eq-eqb made 0 (total ∙ zero) in cc)))

-- ---- found in the end

pub none_leads : (p : Program) (cs : List Move) (s : JavaProgramState) → played_from p cs None ≡ Some s → ⊥
none_leads p [] s e = absurd (cc)
none_leads p (c ∷ cs) s e = absurd (cc)

complete_from : (p : Program) (ws : List (List Move)) (n : ℕ) → IsClosed p ws n → n ≡ length ws
    → (cs : List Move) (o s : JavaProgramState) (d : ℕ) → IsNear p ws o d → played_from p cs (Some o) ≡ Some s → IsNear p ws s (d + length cs)
complete_from p ws n closed all [] o s d f e =
    let same : o ≡ s = ap (λ (x : Option JavaProgramState). unwrap_or x s) e in
    let near = f.3 in
    (f.0, f.1, subst (λ (x : JavaProgramState). IsAt p ws f.0 x) same f.2, omega (arith, near))
complete_from p ws n closed all (c ∷ cs) o s d f e =
    by (after p o c) refl e (λ r near g. complete_from p ws n closed all cs r s (d + 1) near g)
  where
    longer : (a b : ℕ) (r : JavaProgramState) → a ≤ b → IsNear p ws r a → IsNear p ws r b
    longer a b r le x = (let near = x.3 in (x.0, x.1, x.2, omega (arith, near, le)))

    by : (x : Option JavaProgramState) → after p o c ≡ x → played_from p cs x ≡ Some s
        → ((r : JavaProgramState) → IsNear p ws r (d + 1) → played_from p cs (Some r) ≡ Some s → IsNear p ws s (d + 1 + length cs)) → IsNear p ws s (d + length (c ∷ cs))
    by None h g rest = absurd (none_leads p cs s g)
    by (Some r) h g rest =
        let lt = f.1 in let near = f.3 in
        longer (d + 1 + length cs) (d + length (c ∷ cs)) s (omega arith)
        (rest r (longer (behind ws f.0) (d + 1) r (omega (arith, near)) (closed f.0 o (omega (arith, lt, all)) f.2 c r h)) g)

first_stays : (ws : List (List Move)) (ns : List Node) → StaysIn ws (witnesses_from ws ns)
first_stays ws [] = stays_still ws
first_stays ws (n ∷ ns) = stays_then ws (grown ws n) (witnesses_from (grown ws n) ns) (stays_more ws _) (first_stays (grown ws n) ns)

-- ---- the way back from a state

length_from : (ws : List (List Move)) (ns : List Node) → length (witnesses_from ws ns) ≡ length ws + length ns
length_from ws [] = omega arith
length_from ws (n ∷ ns) =
    let h = length_from (grown ws n) ns in let l = length-append ws ((witness_at ws n.parent ++ n.made ∷ []) ∷ []) in
    omega (arith, h, l)

pub length_witnesses : (ns : List Node) → length (witnesses ns) ≡ length ns + 1
length_witnesses ns = let h = length_from ([] ∷ []) ns in omega (arith, h)

-- the witness of a state is that of its parent, and its move
back_from : (ws : List (List Move)) (ns : List Node) (k : ℕ) → k < length ns → (node_at ns k).parent < length ws + k
    → witness_at (witnesses_from ws ns) (length ws + k) ≡ witness_at (witnesses_from ws ns) (node_at ns k).parent ++ (node_at ns k).made ∷ []
back_from ws [] k lt below = absurd (omega (arith, lt))
back_from ws (n ∷ ns) zero lt below =
    let stays = first_stays (grown ws n) ns in
    let l = length-append ws ((witness_at ws n.parent ++ n.made ∷ []) ∷ []) in
    let p : witness_at (witnesses_from (grown ws n) ns) n.parent ≡ witness_at ws n.parent =
    stays.same n.parent (omega (arith, l, below)) ∙ witness_before ws _ n.parent (omega (arith, below)) in
    let q : witness_at (witnesses_from (grown ws n) ns) (length ws) ≡ witness_at ws n.parent ++ n.made ∷ [] =
    stays.same (length ws) (omega (arith, l)) ∙ witness_last ws _ in
    let z : length ws + 0 ≡ length ws = omega arith in
    rw z (q ∙ ap (λ (cs : List Move). cs ++ n.made ∷ []) (sym p))
back_from ws (n ∷ ns) (suc k) lt below =
    let l = length-append ws ((witness_at ws n.parent ++ n.made ∷ []) ∷ []) in
    let h = back_from (grown ws n) ns k (omega (arith, lt)) (omega (arith, l, below)) in
    let e : length (grown ws n) + k ≡ length ws + suc k = omega (arith, l) in
    rw e at h

pub witness_back : (ns : List Node) (k : ℕ) → AreParents ns → k < length ns
    → witness_at (witnesses ns) (k + 1) ≡ witness_at (witnesses ns) (node_at ns k).parent ++ (node_at ns k).made ∷ []
witness_back ns k parents lt =
    let below = parents k lt in
    let h = back_from ([] ∷ []) ns k lt (omega (arith, below)) in
    let e : 1 + k ≡ k + 1 = omega arith in
    rw e at h

pub witness_first : (ns : List Node) → witness_at (witnesses ns) 0 ≡ []
witness_first ns = (first_stays ([] ∷ []) ns).same 0 (omega arith)

-- each witness but the first is behind an earlier one
all_parents : (ns : List Node) → AreParents ns → (k : ℕ) → 0 < k → k < length (witnesses ns) → HasParent (witnesses ns) k
all_parents ns parents k some within =
    let l = length_witnesses ns in
    let lt : k - 1 < length ns = omega (arith, l, some, within) in
    let one : k - 1 + 1 ≡ k = omega (arith, some) in
    let below = parents (k - 1) lt in
    let node : Node = node_at ns (k - 1) in
    record {
      parent = node.parent;
      made = node.made;
      earlier = omega (arith, below, some);
      moves = subst (λ (j : ℕ). witness_at (witnesses ns) j ≡ witness_at (witnesses ns) node.parent ++ node.made ∷ []) one
          (witness_back ns (k - 1) parents lt);
    }

-- ---- what a search has found

-- what is known are states, no two the same
pub are_states : (p : Program) (keys : List Code) (ns : List Node) (queue : List JavaProgramState) (n : ℕ)
    → AreParents ns → IsSearch p keys (witnesses ns) queue n → AreStates p (witnesses ns)
are_states p keys ns queue n parents h = record {
  first = witness_first ns;
  parents = all_parents ns parents;
  sound = λ k lt. (let r = h.known k lt in (r.0, r.1.leads, r.1.proper));
  distinct = λ j k s below lt a b.
      let x = h.known j (omega (arith, below, lt)) in
      let y = h.known k lt in
      let xs : x.0 ≡ s = ap (λ (o : Option JavaProgramState). unwrap_or o s) (sym x.1.leads ∙ a) in
      let ys : y.0 ≡ s = ap (λ (o : Option JavaProgramState). unwrap_or o s) (sym y.1.leads ∙ b) in
      let codes : code_of p x.0 ≡ code_of p y.0 = ap (λ (r : JavaProgramState). code_of p r) (xs ∙ sym ys) in
      h.distinct j k x.1.keyed.0 y.1.keyed.0 below x.1.keyed.1 y.1.keyed.1 (x.1.keyed.2 ∙ codes ∙ sym y.1.keyed.2);
}

-- more states were found than were visited, while some wait
pub has_more : (p : Program) (keys : List Code) (ns : List Node) (queue : List JavaProgramState) (ends : List ℕ) (steps n : ℕ)
    → AreParents ns → IsVisited p keys (witnesses ns) queue ends steps n → 0 < length queue → HasMore p n
has_more p keys ns queue ends steps n parents v some =
    let w = v.search.waiting in
    (witnesses ns, omega (arith, w, some), are_states p keys ns queue n parents v.search)

-- more states were found than were asked for
pub over : (p : Program) (keys : List Code) (ns : List Node) (queue : List JavaProgramState) (ends : List ℕ) (steps n most : ℕ)
    → AreParents ns → IsVisited p keys (witnesses ns) queue ends steps n → most < length (witnesses ns) → HasMore p most
over p keys ns queue ends steps n most parents v more = (witnesses ns, more, are_states p keys ns queue n parents v.search)

-- and no more, once no state waits to be visited
pub few : (p : Program) (keys : List Code) (ns : List Node) (ends : List ℕ) (steps n most : ℕ)
    → IsVisited p keys (witnesses ns) [] ends steps n → n ≤ most → length (witnesses ns) ≤ most
few p keys ns ends steps n most v le = let w = v.search.waiting in omega (arith, w, le)

-- all is found once no state waits to be visited
pub finds_all : (p : Program) (keys : List Code) (ns : List Node) (ends : List ℕ) (steps n : ℕ)
    → AreParents ns → IsVisited p keys (witnesses ns) [] ends steps n
    → FindsAll p (record { witnesses = witnesses ns; ends = ends; steps = steps })
finds_all p keys ns ends steps n parents v =
    let ws : List (List Move) = witnesses ns in
    let w = v.search.waiting in
    let all : n ≡ length ws = omega (arith, w) in
    let first = first_stays ([] ∷ []) ns in
    let x = first.more in
    let begin : IsNear p ws (opening p) 0 =
    (0, omega (arith, x), ap (λ (c : List Move). played p c) (first.same 0 (omega arith)), ap_le (ap (λ (c : List Move). length c) (first.same 0 (omega arith)))) in
    let states = are_states p keys ns [] n parents v.search in
    record {
      states = states;
      complete = λ cs s e. (let f = complete_from p ws n v.closed all cs (opening p) s 0 begin e in (f.0, f.1, f.2));
      shortest = λ k cs s lt at e.
          let f = complete_from p ws n v.closed all cs (opening p) s 0 begin e in
          let near = f.3 in
          let same = one_number f.0 k s states f.1 f.2 lt at in
          subst (λ (j : ℕ). length (witness_at ws j) ≤ length cs) same (omega (arith, near));
      rising = v.search.rising;
      ends = subst (λ (m : ℕ). AreEnds p ws m ends) all v.noted;
      steps = v.counted ∙ ap (λ (m : ℕ). steps_before p ws m) all;
    }
  where
    ap_le : {m : ℕ} → m ≡ 0 → m ≤ 0
    ap_le e = omega (arith, e)

    one_number : (j k : ℕ) (s : JavaProgramState) → AreStates p (witnesses ns) → j < length (witnesses ns) → IsAt p (witnesses ns) j s → k < length (witnesses ns) → IsAt p (witnesses ns) k s → j ≡ k
    one_number j k s states a b c d = by (cases_lt j k) (cases_lt k j)
      where
        by : (j < k) ⊎ (k ≤ j) → (k < j) ⊎ (j ≤ k) → j ≡ k
        by (inl lt) other = absurd (states.distinct j k s lt c b d)
        by (inr le) (inl lt) = absurd (states.distinct k j s lt a d b)
        by (inr le) (inr ge) = omega (arith, le, ge)

-- a node more, whose parent was there
pub parents_more : (ns : List Node) (n : Node) → AreParents ns → n.parent ≤ length ns → AreParents (ns ++ n ∷ [])
parents_more ns n h le = λ i lt. by i lt (cases_lt i (length ns))
  where
    by : (i : ℕ) → i < length (ns ++ n ∷ []) → (i < length ns) ⊎ (length ns ≤ i) → (node_at (ns ++ n ∷ []) i).parent ≤ i
    by i lt (inl below) =
        let e : node_at (ns ++ n ∷ []) i ≡ node_at ns i = get_or_append_left ns (n ∷ []) _ i below in
        rw e (h i below)
    by i lt (inr past) =
        let l = length-append ns (n ∷ []) in
        let here : i ≡ length ns = omega (arith, l, lt, past) in
        let e : node_at (ns ++ n ∷ []) (length ns) ≡ n = get_or-append_seam ns n [] _ in
        rw (here, e) le

default_free : (ns : List Node) (i : ℕ) (d e : Node) → i < length ns → get_or ns i d ≡ get_or ns i e
default_free ns i d e lt = ap (λ (o : Option Node). unwrap_or o d) (sym (slice_get-get_or ns i d lt) ∙ slice_get-get_or ns i e lt)

-- one step on the way back
pub walked : (ns : List Node) (at : ℕ) (node : Node) (cs all : List Move) → AreParents ns → 0 < at → at < length (witnesses ns)
    → node ≡ get_or ns (at - 1) node → all ≡ witness_at (witnesses ns) at ++ reverse cs
    → (node.parent < at) × (node.parent < length (witnesses ns))
    × (all ≡ witness_at (witnesses ns) node.parent ++ reverse (cs ++ node.made ∷ []))
walked ns at node cs all parents some within e h =
    let l = length_witnesses ns in
    let lt : at - 1 < length ns = omega (arith, l, some, within) in
    let one : at - 1 + 1 ≡ at = omega (arith, some) in
    let same : node ≡ node_at ns (at - 1) = e ∙ default_free ns (at - 1) node _ lt in
    let below : (node_at ns (at - 1)).parent ≤ at - 1 = parents (at - 1) lt in
    let p : node.parent ≡ (node_at ns (at - 1)).parent = ap (λ (n : Node). n.parent) same in
    let back : witness_at (witnesses ns) (at - 1 + 1) ≡ witness_at (witnesses ns) node.parent ++ node.made ∷ [] =
    rw same (witness_back ns (at - 1) parents lt) in
    let here : witness_at (witnesses ns) at ≡ witness_at (witnesses ns) node.parent ++ node.made ∷ [] =
    subst (λ (k : ℕ). witness_at (witnesses ns) k ≡ witness_at (witnesses ns) node.parent ++ node.made ∷ []) one back in (
      omega (arith, below, p, some),
      omega (arith, below, p, some, within),
      h ∙ ap (λ (ys : List Move). ys ++ reverse cs) here
          ∙ append_assoc (witness_at (witnesses ns) node.parent) (node.made ∷ []) (reverse cs)
          ∙ ap (λ (ys : List Move). witness_at (witnesses ns) node.parent ++ ys) (sym (reverse-append cs (node.made ∷ []))),
    )

-- the state that was taken last has a number
pub within_search : (p : Program) (keys : List Code) (ws : List (List Move)) (queue : List JavaProgramState) (at : ℕ)
    → IsSearch p keys ws queue (at + 1) → at < length ws
within_search p keys ws queue at h = let w = h.waiting in omega (arith, w)

-- and is proper
pub proper_here : (p : Program) (keys : List Code) (ws : List (List Move)) (queue : List JavaProgramState) (at : ℕ) (s : JavaProgramState)
    → IsSearch p keys ws queue (at + 1) → IsAt p ws at s → IsProper p s
proper_here p keys ws queue at s h here =
    let r = h.known at (within_search p keys ws queue at h) in
    let same : r.0 ≡ s = ap (λ (o : Option JavaProgramState). unwrap_or o s) (sym r.1.leads ∙ here) in
    subst (λ (t : JavaProgramState). IsProper p t) same r.1.proper
