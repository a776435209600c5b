-- Members whose keys are in order are those that a list of keys finds, where there are as many.
use Rattle.std.proofs.Common.{◌≡◌, ℕ, ◌≤◌, List, [], ◌∷◌, length, Some, None, String, Global, Ordering, Less, Equal, Greater, string_bytes, string_cmp, nat_cmp, refl, sym, ap, ◌∙◌, subst, arith}
use Rattle.std.proofs.lemmas.Cmp.{nat_list_cmp_total}
use Rattle.std.proofs.lemmas.Map.Text.{is_eq-slice_cmp}
use Rattle.std.proofs.lemmas.Slice.Eq.{bytes_eq-Decides}
use Rattle.std.specs.Ordering.{is_eq}
use Rattle.std.specs.Cmp.Lexicographic.{slice_cmp}
use Rattle.std.specs.List.{AllByRecursion}
use Rattle.std.specs.List.Sorted.{IsStrictlySortedBy}
use Rattle.std.specs.Map.{keys_of}
use Rattle.std.specs.Ordering.{match_ordering, ordering_reverse}
use Rattle.serde_json.specs.Data.{Data, Members, no_members, member}
use Rattle.serde_json.specs.Find.{get_member}
use Rattle.serde_json.specs.View.{members_view}
use Rattle.serde_json.proofs.Views.{Entry}
use Rattle.history_moves.specs.Members.{count, IsBelow, AreInOrder}

pub count-members_view : (es : List Entry) → count (members_view es) ≡ length es
count-members_view [] = refl
count-members_view (e ∷ es) = rw (count-members_view es) (omega arith)

below_keys : (k : String Global) (es : List Entry) → AllByRecursion (λ y. string_cmp k y ≡ Less) (keys_of es) → IsBelow (string_bytes k) (members_view es)
below_keys k [] h = tt
below_keys k (e ∷ es) h = (h.0, below_keys k es h.1)

pub order_of_view : (es : List Entry) → IsStrictlySortedBy string_cmp (keys_of es) → AreInOrder (members_view es)
unfolding IsStrictlySortedBy
order_of_view [] h = tt
order_of_view (e ∷ es) h = (below_keys e.0 es h.0, order_of_view es h.1)

-- these members are found among those
abbrev pub AllFound : Members → Members → Type 0
AllFound no_members ms = Unit {0}
AllFound (member k d ns) ms = (get_member k ms ≡ Some d) × AllFound ns ms

turned : (k l : List ℕ) → slice_cmp nat_cmp k l ≡ Less → slice_cmp nat_cmp l k ≡ Greater
turned k l h = nat_list_cmp_total.antisymm l k ∙ ap ordering_reverse h

-- keys above the first one are found among the others
past_first : (k : List ℕ) (d : Data) (ns ms : Members) → IsBelow k ns → AllFound ns (member k d ms) → AllFound ns ms
past_first k d no_members ms below found = tt
past_first k d (member l e ns) ms below found =
    (sym (ap (λ (o : Ordering). match_ordering o (get_member l ms) (Some d) (get_member l ms)) (turned k l below.0)) ∙ found.0, past_first k d ns ms below.1 found.1)

pub below_all : (k l : List ℕ) (ns : Members) → slice_cmp nat_cmp k l ≡ Less → IsBelow l ns → IsBelow k ns
below_all k l no_members h below = tt
below_all k l (member m d ns) h below = (nat_list_cmp_total.trans k l m h below.0, below_all k l ns h below.1)

pub absent : (q : List ℕ) (ms : Members) → IsBelow q ms → get_member q ms ≡ None
absent q no_members below = refl
absent q (member k d ms) below = ap (λ (o : Ordering). match_ordering o (get_member q ms) (Some d) (get_member q ms)) below.0 ∙ absent q ms below.1

abbrev Fewer : Members → Members → Type 0
Fewer ns ms = (count ns ≤ count ms) × (count ns ≡ count ms → ms ≡ ns)

pub same_key : (q k : List ℕ) → slice_cmp nat_cmp q k ≡ Equal → q ≡ k
same_key q k is = (bytes_eq-Decides q k).0 (sym (is_eq-slice_cmp q k) ∙ ap is_eq is)

fewer_step : (k q : List ℕ) (d e : Data) (ms ns : Members) (o : Ordering) → slice_cmp nat_cmp q k ≡ o → AreInOrder (member k d ms) → AreInOrder (member q e ns)
    → AllFound (member q e ns) (member k d ms)
    → (AllFound ns ms → Fewer ns ms) → (AllFound (member q e ns) ms → Fewer (member q e ns) ms) → Fewer (member q e ns) (member k d ms)
fewer_step k q d e ms ns Less is below order found rest whole =
    let none : get_member q (member k d ms) ≡ None =
    ap (λ (o : Ordering). match_ordering o (get_member q ms) (Some d) (get_member q ms)) is ∙ absent q ms (below_all q k ms is below.0) in
    absurd (none_some e (sym none ∙ found.0))
  where
    none_some : (e : Data) → None ≡ Some e → ⊥
    none_some e h = cc
fewer_step k q d e ms ns Equal is below order found rest whole =
    let same : q ≡ k = same_key q k is in
    let value : Some d ≡ Some e = sym (ap (λ (o : Ordering). match_ordering o (get_member q ms) (Some d) (get_member q ms)) is) ∙ found.0 in
    let others = rest (past_first k d ns ms (subst (λ (l : List ℕ). IsBelow l ns) same order.0) found.1) in
    (omega (arith, others.0), λ h. joined k q d e ms ns same value (others.1 (omega (arith, h))))
  where
    joined : (k q : List ℕ) (d e : Data) (ms ns : Members) → q ≡ k → Some d ≡ Some e → ms ≡ ns → member k d ms ≡ member q e ns
    joined k q d e ms ns a b c = cc
fewer_step k q d e ms ns Greater is below order found rest whole =
    let first : get_member q ms ≡ Some e = sym (ap (λ (o : Ordering). match_ordering o (get_member q ms) (Some d) (get_member q ms)) is) ∙ found.0 in
    let above : slice_cmp nat_cmp k q ≡ Less = nat_list_cmp_total.antisymm k q ∙ ap ordering_reverse is in
    let others = whole (first, past_first k d ns ms (below_all k q ns above order.0) found.1) in
    (omega (arith, others.0), λ h. absurd (omega (arith, others.0, h)))

fewer : (ms ns : Members) → AreInOrder ms → AreInOrder ns → AllFound ns ms → Fewer ns ms
fewer no_members no_members below order found = (omega arith, λ _. refl)
fewer no_members (member q e ns) below order found = absurd (none_some e found.0)
  where
    none_some : (e : Data) → None ≡ Some e → ⊥
    none_some e h = cc
fewer (member k d ms) no_members below order found = (omega arith, λ h. absurd (omega (arith, h)))
fewer (member k d ms) (member q e ns) below order found =
    fewer_step k q d e ms ns (slice_cmp nat_cmp q k) refl below order found (λ f. fewer ms ns below.1 order.1 f) (λ f. fewer ms (member q e ns) below.1 order f)

pub same_members : (ms ns : Members) → AreInOrder ms → AreInOrder ns → count ms ≡ count ns → AllFound ns ms → ms ≡ ns
same_members ms ns below order as_many found = (fewer ms ns below order found).1 (sym as_many)
