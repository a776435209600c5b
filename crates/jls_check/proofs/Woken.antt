-- A thread that leaves a wait set before the others do changes nothing of what is left of it.
use Rattle.std.specs.Prelude.{◌≡◌, ◌⊎◌, get_or, slice_set, ℕ, zero, suc, ◌-◌, ◌==◌, Bool, true, false, if◌then◌else◌, List, [], ◌∷◌, Option, Some, None}
use Rattle.std.specs.Option.{option_map}
use Rattle.std.specs.Cmp.{nat_cmp_total}
use Rattle.std.specs.FinMap as map
use Rattle.std.specs.FinMap.{get-entries, same_map, nat_cmp-IsAntisymmetric}
use Rattle.std.proofs.Common.{refl, ap, sym, ◌∙◌, inl, inr}
use Rattle.std.proofs.lemmas.Bool.{cases_eq, eqb-true, eq-eqb, ne_eqb}
use Rattle.std.proofs.lemmas.Option.{same_Some}
use Rattle.lock_word.specs.declared.ThreadId.{ThreadId}
use Rattle.lock_word.specs.declared.ObjectId.{ObjectId}
use Rattle.fat_monitor.specs.declared.actions.Why.TheVariants as why
use Rattle.fat_monitor.proofs.PostMaps.{get-insert_by}
use Rattle.step_core.specs.declared.machine.Doing.{Doing}
use Rattle.step_core.specs.declared.machine.Doing.TheVariants.{Waits, Back}
use Rattle.step_core.specs.Machine.{waits_on, after_notify_all}
use Rattle.jls_check.specs.declared.threads.Live.{Live}
use Rattle.jls_check.specs.declared.threads.ThreadRecord.{ThreadRecord}
use Rattle.jls_check.specs.declared.monitors.ObjectRecord.{ObjectRecord}
use Rattle.jls_check.specs.LiveThreads.{LiveThreads, live_in, live_of, owned_in, owned_of, with_live, does_wait, some_waits, notified_record, all_back}
use Rattle.jls_check.specs.Monitors.{untouched, waiting_in, with_waiting, joined}
use Rattle.jls_check.specs.MachineState.{MachineState, IsSound, left_by, put}
use Rattle.jls_check.specs.Taking.{all_left}
use Rattle.jls_check.specs.Emptied.{emptied}
use Rattle.jls_check.proofs.AllBack.{unmoved}
use Rattle.jls_check.proofs.Counts.{none_passes}
use Rattle.jls_check.proofs.Guards.{flipped}
use Rattle.jls_check.proofs.LiveMaps.{get-all_back}
use Rattle.jls_check.proofs.Soundness.{nobody_counted}

-- ---- the objects

abbrev counted : List ObjectRecord → ℕ → ℕ → List ObjectRecord
counted os k n = slice_set os k (record { held = (get_or os k untouched).held; waiting = n })

counted_again : (os : List ObjectRecord) (k n m : ℕ) → counted (counted os k n) k m ≡ counted os k m
counted_again [] k n m = refl
counted_again (r ∷ os) zero n m = refl
counted_again (r ∷ os) (suc k) n m = ap (λ (l : List ObjectRecord). r ∷ l) (counted_again os k n m)

counted_same : (os : List ObjectRecord) (k n : ℕ) → (get_or os k untouched).waiting ≡ n → counted os k n ≡ os
counted_same [] k n e = refl
counted_same (r ∷ os) zero n e = ap (λ (w : ℕ). (let q : ObjectRecord = record { held = r.held; waiting = w } in q) ∷ os) (sym e)
counted_same (r ∷ os) (suc k) n e = ap (λ (l : List ObjectRecord). r ∷ l) (counted_same os k n e)

-- ---- the threads

woken_threads : (l : LiveThreads) (t : ThreadId) (flag : Bool) (o p : ObjectId) (n : ℕ) (d : Option ℕ)
    → live_of l t ≡ Some (record { flag = flag; act = Waits p n d }) → waits_on (Waits p n d) o ≡ true
    → all_back (with_live l t (record { flag = flag; act = Back p n why.Notified })) o ≡ all_back l o
woken_threads l t flag o p n d e same = same_map nat_cmp_total nat_cmp-IsAntisymmetric _ _ (λ q.
    get-all_back (with_live l t back) o q
    ∙ ap (option_map (notified_record o)) (get-insert_by l t.0 (record { live = back; owned = owned_of l t }) q)
    ∙ by q (cases_eq q t.0) ∙ sym (get-all_back l o q))
  where
    back : Live
    back = record { flag = flag; act = Back p n why.Notified }

    here : (x : Option ThreadRecord) → live_in x ≡ Some (record { flag = flag; act = Waits p n d })
        → Some (notified_record o (record { live = record { flag = flag; act = Back p n why.Notified }; owned = owned_in x })) ≡ option_map (notified_record o) x
    here None e = absurd (cc)
    here (Some r) e =
        let live : r.live ≡ record { flag = flag; act = Waits p n d } = same_Some _ _ e in
        ap (λ (a : Doing). Some (let z : ThreadRecord = record { live = record { flag = flag; act = a }; owned = r.owned } in z)) (sym (ap (λ (b : Bool). if b then Back p n why.Notified else Waits p n d) same))
        ∙ ap (λ (x : Live). Some (let z : ThreadRecord = record { live = record { flag = x.flag; act = after_notify_all o x.act }; owned = r.owned } in z)) (sym live)

    by : (q : ℕ) → (q ≡ t.0) ⊎ (q ≡ t.0 → ⊥) → option_map (notified_record o) (if q == t.0 then Some (record { live = record { flag = flag; act = Back p n why.Notified }; owned = owned_of l t }) else map.get l q) ≡ option_map (notified_record o) (map.get l q)
    by q (inl is) = rw (eq-eqb q t.0 is) (here (map.get l t.0) e ∙ ap (λ (k : ℕ). option_map (notified_record o) (map.get l k)) (sym is))
    by q (inr other) = rw (ne_eqb q t.0 other) refl

-- ---- all of it

pub woken : (v : MachineState) (t : ThreadId) (flag : Bool) (o p : ObjectId) (n : ℕ) (d : Option ℕ)
    → live_of v.threads t ≡ Some (record { flag = flag; act = Waits p n d }) → p.0 ≡ o.0
    → emptied (put v t flag (Back p n why.Notified)) o ≡ emptied v o
woken v t flag o p n d e is = λ i. record v {
  threads = woken_threads v.threads t flag o p n d e (eq-eqb p.0 o.0 is) i;
  objects = objects i;
}
  where
    objects : with_waiting (joined (left_by v.objects (live_of v.threads t)) (Back p n why.Notified)) o 0 ≡ with_waiting v.objects o 0
    objects =
        ap (λ (x : Option Live). with_waiting (left_by v.objects x) o 0) e
        ∙ ap (λ (k : ℕ). counted (counted v.objects k ((get_or v.objects k untouched).waiting - 1)) o.0 0) is
        ∙ counted_again v.objects o.0 _ 0

pub unemptied : (v : MachineState) (o : ObjectId) → IsSound v → (waiting_in v.objects o == 0) ≡ true → emptied v o ≡ v
unemptied v o sound none = λ i. record v { threads = threads i; objects = counted_same v.objects o.0 0 (eqb-true _ 0 none) i }
  where
    idle : some_waits v.threads o ≡ false
    idle = flipped (some_waits v.threads o) (sym (nobody_counted v sound o) ∙ none)

    at : (q : ℕ) (x : Option ThreadRecord) → map.get v.threads q ≡ x → option_map (notified_record o) x ≡ x
    at q None e = refl
    at q (Some r) e =
        ap (λ (a : Doing). Some (let z : ThreadRecord = record { live = record { flag = r.live.flag; act = a }; owned = r.owned } in z))
        (unmoved o r.live.act (none_passes (does_wait o) q (map.entries v.threads) r idle (sym (get-entries v.threads q) ∙ e)))

    threads : all_back v.threads o ≡ v.threads
    threads = same_map nat_cmp_total nat_cmp-IsAntisymmetric _ _ (λ q. get-all_back v.threads o q ∙ at q (map.get v.threads q) refl)

pub all_left_is : (v : MachineState) (o : ObjectId) → IsSound v → emptied v o ≡ all_left v o
all_left_is v o sound = by (waiting_in v.objects o == 0) refl
  where
    by : (b : Bool) → (waiting_in v.objects o == 0) ≡ b → emptied v o ≡ (if b then v else record v { threads = all_back v.threads o; objects = with_waiting v.objects o 0 })
    by true e = unemptied v o sound e
    by false e = refl
