-- What the tests say that decide whether a move is lawful.
use Rattle.std.specs.Prelude.{◌≡◌, Bool, true, false, not, ◌&&◌, if◌then◌else◌, ℕ, ℤ, pos, int_le, Option, Some, None, T}
use Rattle.std.proofs.Common.{refl, ap, sym, ◌∙◌, subst}
use Rattle.std.proofs.lemmas.Bool.{and_parts, eqb-true, eq-eqb}
use lib.Signed.{le_z_yes}
use Rattle.std.proofs.lemmas.Option.{same_Some}
use Rattle.lock_word.specs.declared.ThreadId.{ThreadId}
use Rattle.step_core.specs.Machine.{AreGood}
use Rattle.jls_check.specs.Monitors.{is_owned_by}
use Rattle.jls_check.specs.Taking.{is_good}

-- ---- what a guard says

pub guarded : {A : Type 0} (b : Bool) (x w : A) → (if b then Some x else None) ≡ Some w → (b ≡ true) × (x ≡ w)
guarded true x w e = (refl, same_Some x w e)
guarded false x w e = absurd (cc)

pub guarded_not : {A : Type 0} (b : Bool) (x w : A) → (if b then None else Some x) ≡ Some w → (b ≡ false) × (x ≡ w)
guarded_not true x w e = absurd (cc)
guarded_not false x w e = (refl, same_Some x w e)

pub refused : {A : Type 0} (b : Bool) (x : A) → (if b then Some x else None) ≡ None → b ≡ true → ⊥
refused true x e h = cc
refused false x e h = cc

pub refused_not : {A : Type 0} (b : Bool) (x : A) → (if b then None else Some x) ≡ None → b ≡ true
refused_not true x e = refl
refused_not false x e = absurd (cc)

is_true : (b : Bool) → T b → b ≡ true
is_true true h = refl
is_true false h = absurd h

pub both_true : (a b : Bool) → a ≡ true → b ≡ true → (a && b) ≡ true
both_true a b e h = rw (e, h) refl

pub flipped : (b : Bool) → not b ≡ true → b ≡ false
flipped true e = absurd (cc)
flipped false e = refl

pub good_time : (millis nanos : ℤ) → is_good millis nanos ≡ true → AreGood millis nanos
good_time millis nanos e =
    let p = and_parts (int_le (pos 0) millis && int_le (pos 0) nanos) (int_le nanos (pos 999999)) e in
    let q = and_parts (int_le (pos 0) millis) (int_le (pos 0) nanos) p.0 in
    (le_z_yes (subst T (sym q.0) tt), le_z_yes (subst T (sym q.1) tt), le_z_yes (subst T (sym p.1) tt))

pub time_good : (millis nanos : ℤ) → AreGood millis nanos → is_good millis nanos ≡ true
time_good millis nanos (a, b, c) =
    both_true (int_le (pos 0) millis && int_le (pos 0) nanos) (int_le nanos (pos 999999))
    (both_true (int_le (pos 0) millis) (int_le (pos 0) nanos) (is_true (int_le (pos 0) millis) a.le) (is_true (int_le (pos 0) nanos) b.le))
    (is_true (int_le nanos (pos 999999)) c.le)

pub never : {A : Type 0} (b : Bool) → b ≡ true → b ≡ false → A
never true e h = absurd (cc)
never false e h = absurd (cc)

-- ---- owners

pub owner_is : (o : Option ThreadId) (t : ThreadId) → is_owned_by o t ≡ true → o ≡ Some t
owner_is None t e = absurd (cc)
owner_is (Some u) t e = ap (λ (n : ℕ). let x : ThreadId = record { 0 = n } in Some x) (eqb-true u.0 t.0 e)

pub owner_yes : (o : Option ThreadId) (t : ThreadId) → o ≡ Some t → is_owned_by o t ≡ true
owner_yes o t e = ap (λ p. is_owned_by p t) e ∙ eq-eqb t.0 t.0 refl

pub owner_not : (o : Option ThreadId) (t : ThreadId) → is_owned_by o t ≡ false → o ≡ Some t → ⊥
owner_not o t e h = let never : true ≡ false = sym (owner_yes o t h) ∙ e in cc
