-- Where the owner of an object stays, so does what every thread owns.
use Rattle.std.specs.Prelude.{◌≡◌, ◌⊎◌, ℕ, ◌+◌, ◌-◌, ◌<◌, ◌≤◌, if◌then◌else◌, cond, MatchOption, length, Option, Some, None, get_or, slice_set}
use Rattle.std.proofs.Common.{refl, ap, sym, ◌∙◌, inl, inr, subst, arith}
use Rattle.std.proofs.lemmas.Bool.{cases_eq, eq-eqb, ne_eqb, lt-ltb}
use Rattle.std.proofs.lemmas.List.{get_or_default}
use Rattle.std.specs.Cmp.{nat_cmp_total}
use Rattle.std.specs.FinMap as map
use Rattle.std.specs.FinMap.{same_map, nat_cmp-IsAntisymmetric}
use Rattle.lock_word.specs.declared.ThreadId.{ThreadId}
use Rattle.lock_word.specs.declared.ObjectId.{ObjectId}
use Rattle.fat_monitor.proofs.PostMaps.{get-insert_by}
use Rattle.jls_check.specs.declared.threads.ThreadRecord.{ThreadRecord}
use Rattle.jls_check.specs.declared.monitors.Held.{Held}
use Rattle.jls_check.specs.declared.monitors.ObjectRecord.{ObjectRecord}
use Rattle.jls_check.specs.LiveThreads.{LiveThreads, owned_in, owned_of, with_owned_in, owning_one_less, owning_one_more}
use Rattle.jls_check.specs.Monitors.{untouched, waiting_in}
use Rattle.jls_check.specs.MachineState.{MachineState, with_held, held_at, IsSound}
use Rattle.jls_check.proofs.States.{written}
use Rattle.jls_check.proofs.Soundness.{owner_there}

-- who loses one object and gains one owns as many as before
one_back : (l : LiveThreads) (t : ThreadId) → 1 ≤ owned_of l t → owning_one_more (owning_one_less l (Some t)) (Some t) ≡ l
one_back l t some = by (map.get l t.0) refl
  where
    by : (x : Option ThreadRecord) → map.get l t.0 ≡ x → owning_one_more (owning_one_less l (Some t)) (Some t) ≡ l
    by None e =
        let none : owned_of l t ≡ 0 = ap owned_in e in
        absurd (omega arith)
    by (Some r) e =
        let counted : owned_of l t ≡ r.owned = ap owned_in e in
        let less : ThreadRecord = record { live = r.live; owned = r.owned - 1 } in
        let more : ThreadRecord = record { live = r.live; owned = r.owned - 1 + 1 } in
        let m : LiveThreads = map.insert l t.0 less in
        let one : owning_one_less l (Some t) ≡ m = ap (λ (x : Option ThreadRecord). with_owned_in l t (owned_in x - 1) x) e in
        let there : map.get m t.0 ≡ Some less = get-insert_by l t.0 less t.0 ∙ ap (λ b. cond b (Some less) (map.get l t.0)) (eq-eqb t.0 t.0 refl) in
        let two : owning_one_more m (Some t) ≡ map.insert m t.0 more = ap (λ (x : Option ThreadRecord). with_owned_in m t (owned_in x + 1) x) there in
        let same : r.owned - 1 + 1 ≡ r.owned = omega arith in
        ap (λ (k : LiveThreads). owning_one_more k (Some t)) one ∙ two
        ∙ ap (λ (n : ℕ). map.insert m t.0 (record { live = r.live; owned = n })) same
        ∙ same_map nat_cmp_total nat_cmp-IsAntisymmetric _ _ (λ q. at r e less q (cases_eq q t.0))
      where
        at : (r : ThreadRecord) → map.get l t.0 ≡ Some r → (less : ThreadRecord) (q : ℕ) → (q ≡ t.0) ⊎ (q ≡ t.0 → ⊥)
            → map.get (map.insert (map.insert l t.0 less) t.0 r) q ≡ map.get l q
        at r e less q (inl same) =
            get-insert_by (map.insert l t.0 less) t.0 r q ∙ rw (eq-eqb q t.0 same, same) (sym e)
        at r e less q (inr other) =
            get-insert_by (map.insert l t.0 less) t.0 r q
            ∙ ap (λ b. cond b (Some r) (map.get (map.insert l t.0 less) q)) (ne_eqb q t.0 other)
            ∙ get-insert_by l t.0 less q ∙ ap (λ b. cond b (Some less) (map.get l q)) (ne_eqb q t.0 other)

-- so the threads stay where an object is written that keeps its owner
pub owner_stays : (v : MachineState) (o : ObjectId) (h : Held) → IsSound v → o.0 < length v.objects
    → (r q : ObjectRecord) → r ≡ get_or v.objects o.0 r → q ≡ get_or v.objects o.0 q → r.held.owner ≡ h.owner
    → record v { objects = slice_set v.objects o.0 (record { held = h; waiting = q.waiting }) } ≡ with_held v o h
owner_stays v o h sound there r q e f is = sym (ap (λ b. if b then written v o h else v) (lt-ltb o.0 (length v.objects) there) ∙ here)
  where
    same : (held_at v o).owner ≡ h.owner
    same = ap (λ (x : ObjectRecord). x.held.owner) (sym (e ∙ get_or_default v.objects o.0 r untouched there)) ∙ is

    by : (a : Option ThreadId) → (held_at v o).owner ≡ a → owning_one_more (owning_one_less v.threads (held_at v o).owner) a ≡ v.threads
    by None e = ap (λ (x : Option ThreadId). owning_one_less v.threads x) e
    by (Some t) e =
        ap (λ (x : Option ThreadId). owning_one_more (owning_one_less v.threads x) (Some t)) e
        ∙ one_back v.threads t (subst (λ (x : Option ThreadId). MatchOption x (Unit {0}) (λ u. 1 ≤ owned_of v.threads u)) e (owner_there v sound o there))

    threads : owning_one_more (owning_one_less v.threads (held_at v o).owner) h.owner ≡ v.threads
    threads = by h.owner same

    waits_there : waiting_in v.objects o ≡ q.waiting
    waits_there = sym (ap (λ (x : ObjectRecord). x.waiting) (f ∙ get_or_default v.objects o.0 q untouched there))

    here : written v o h ≡ record v { objects = slice_set v.objects o.0 (record { held = h; waiting = q.waiting }) }
    here = λ i. record v { threads = threads i; objects = slice_set v.objects o.0 (record { held = h; waiting = waits_there i }) }
