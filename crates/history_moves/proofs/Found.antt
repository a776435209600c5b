-- What is known of data where a member is found.
use Rattle.std.proofs.Common.{◌≡◌, ℕ, ◌^◌, ◌<◌, List, Option, Some, None, is_some, option_map, option_and_then, Bool, true, false, cond, nat_lt, if◌then◌else◌, ℤ, pos, negsuc, refl, ap, ◌∙◌, subst, codes}
use Rattle.std.specs.Str.{bytes_eq}
use Rattle.std.proofs.lemmas.Bool.{ltb-true}
use Rattle.std.proofs.lemmas.Option.{cond_some}
use Rattle.std.proofs.lemmas.Slice.Eq.{bytes_eq-Decides}
use Rattle.serde_json.specs.Data.{Data, Num, null, boolean, number, string, array, object, unsigned, negative, float, Members}
use Rattle.serde_json.specs.Find.{get_member, as_str, as_number, as_u64, as_null}
use Rattle.lock_word.specs.declared.ThreadId.{ThreadId}
use Rattle.lock_word.specs.declared.ObjectId.{ObjectId}
use Rattle.history_moves.specs.Moves.{of_number, of_signed, of_chosen, ChosenFits, FitsLong, FitsInt}
use Rattle.history_moves.specs.Members.{number_at, signed_of, small_signed, thread_number, object_at, chosen_at}

pub mapped : {A B : Type 0} (f : A → B) (o : Option A) (y : B) → option_map f o ≡ Some y → (x : A) × (o ≡ Some x) × (f x ≡ y)
mapped f None y e = absurd (cc)
mapped f (Some x) y e = (x, refl, cc)

pub bound : {A B : Type 0} (f : A → Option B) (o : Option A) (y : B) → option_and_then f o ≡ Some y → (x : A) × (o ≡ Some x) × (f x ≡ Some y)
bound f None y e = absurd (cc)
bound f (Some x) y e = (x, refl, e)

pub by_cond : {A : Type 0} (b : Bool) (x y z : A) (P : Type 0) → cond b x y ≡ z → (b ≡ true → x ≡ z → P) → (b ≡ false → y ≡ z → P) → P
by_cond true x y z P e f g = f refl e
by_cond false x y z P e f g = g refl e

pub none_some : {A : Type 0} (x : A) (P : Type 0) → None ≡ Some x → P
none_some x P e = absurd (cc)

pub same_some : {A : Type 0} (x y : A) → Some x ≡ Some y → x ≡ y
same_some x y e = cc

pub same_word : (v w : List ℕ) → bytes_eq v w ≡ true → v ≡ w
same_word v w = (bytes_eq-Decides v w).0

pub text_is : (o : Option Data) (s : List ℕ) → option_and_then as_str o ≡ Some s → o ≡ Some (string s)
text_is None s e = none_some s _ e
text_is (Some null) s e = none_some s _ e
text_is (Some (boolean b)) s e = none_some s _ e
text_is (Some (number n)) s e = none_some s _ e
text_is (Some (string t)) s e = ap (λ (l : List ℕ). Some (string l)) (same_some t s e)
text_is (Some (array ds)) s e = none_some s _ e
text_is (Some (object ms)) s e = none_some s _ e

pub whole_is : (o : Option Data) (n : ℕ) → option_and_then as_u64 (option_and_then as_number o) ≡ Some n → o ≡ Some (of_number n)
whole_is None s e = none_some s _ e
whole_is (Some null) s e = none_some s _ e
whole_is (Some (boolean b)) s e = none_some s _ e
whole_is (Some (number (unsigned m))) s e = ap (λ (k : ℕ). Some (of_number k)) (same_some m s e)
whole_is (Some (number (negative z))) s e = none_some s _ e
whole_is (Some (number (float x))) s e = none_some s _ e
whole_is (Some (string t)) s e = none_some s _ e
whole_is (Some (array ds)) s e = none_some s _ e
whole_is (Some (object ms)) s e = none_some s _ e

pub number_is : (key : List ℕ) (ms : Members) (n : ℕ) → number_at key (object ms) ≡ Some n → (get_member key ms ≡ Some (of_number n)) × (n < 2 ^ 32)
number_is key ms n e =
    let m = bound (λ n. if nat_lt n (2 ^ 32) then Some n else None) (option_and_then as_u64 (option_and_then as_number (get_member key ms))) n e in
    let c = cond_some (nat_lt m.0 (2 ^ 32)) m.0 n m.2 in
    (whole_is (get_member key ms) m.0 m.1 ∙ ap (λ (k : ℕ). Some (of_number k)) c.1, subst (λ (k : ℕ). k < 2 ^ 32) c.1 (ltb-true m.0 (2 ^ 32) c.0))

pub thread_is : (key : List ℕ) (ms : Members) (t : ThreadId) → thread_number key (object ms) ≡ Some t → (get_member key ms ≡ Some (of_number t.0)) × (t.0 < 2 ^ 32)
thread_is key ms t e =
    let n = mapped (λ (n : ℕ). let x : ThreadId = record { 0 = n } in x) (number_at key (object ms)) t e in
    let p = number_is key ms n.0 n.1 in
    subst (λ (t : ThreadId). (get_member key ms ≡ Some (of_number t.0)) × (t.0 < 2 ^ 32)) n.2 p

pub object_is : (ms : Members) (t : ObjectId) → object_at (object ms) ≡ Some t → (get_member (codes "object") ms ≡ Some (of_number t.0)) × (t.0 < 2 ^ 32)
object_is ms t e =
    let n = mapped (λ (n : ℕ). let x : ObjectId = record { 0 = n } in x) (number_at (codes "object") (object ms)) t e in
    let p = number_is (codes "object") ms n.0 n.1 in
    subst (λ (t : ObjectId). (get_member (codes "object") ms ≡ Some (of_number t.0)) × (t.0 < 2 ^ 32)) n.2 p

pub signed_num : (n : Num) (z : ℤ) → signed_of n ≡ Some z → (number n ≡ of_signed z) × FitsLong z
signed_num (unsigned n) z e =
    let c = cond_some (nat_lt n (2 ^ 63)) (pos n) z e in
    subst (λ (z : ℤ). (number (unsigned n) ≡ of_signed z) × FitsLong z) c.1 (refl, ltb-true n (2 ^ 63) c.0)
signed_num (negative (pos n)) z e = none_some z _ e
signed_num (negative (negsuc n)) z e = subst (λ (z : ℤ). (number (negative (negsuc n)) ≡ of_signed z) × FitsLong z) (same_some (negsuc n) z e) (refl, tt)
signed_num (float x) z e = none_some z _ e

pub signed_in : (o : Option Data) (z : ℤ) → option_and_then signed_of (option_and_then as_number o) ≡ Some z → (o ≡ Some (of_signed z)) × FitsLong z
signed_in None z e = none_some z _ e
signed_in (Some null) z e = none_some z _ e
signed_in (Some (boolean b)) z e = none_some z _ e
signed_in (Some (number n)) z e = let p = signed_num n z e in (ap (λ (d : Data). Some d) p.0, p.1)
signed_in (Some (string s)) z e = none_some z _ e
signed_in (Some (array ds)) z e = none_some z _ e
signed_in (Some (object ms)) z e = none_some z _ e

pub small_is : (z y : ℤ) → small_signed z ≡ Some y → (z ≡ y) × FitsInt y
small_is (pos n) y e = let c = cond_some (nat_lt n (2 ^ 31)) (pos n) y e in (c.1, subst FitsInt c.1 (ltb-true n (2 ^ 31) c.0))
small_is (negsuc n) y e = let c = cond_some (nat_lt n (2 ^ 31)) (negsuc n) y e in (c.1, subst FitsInt c.1 (ltb-true n (2 ^ 31) c.0))

false_true : false ≡ true → ⊥
false_true e = cc

null_is : (x : Data) → is_some (as_null x) ≡ true → x ≡ null
null_is null e = refl
null_is (boolean b) e = absurd (false_true e)
null_is (number n) e = absurd (false_true e)
null_is (string s) e = absurd (false_true e)
null_is (array ds) e = absurd (false_true e)
null_is (object ms) e = absurd (false_true e)

pub chosen_is : (ms : Members) (u : Option ThreadId) → chosen_at (object ms) ≡ Some u → (get_member (codes "chosen") ms ≡ Some (of_chosen u)) × ChosenFits u
chosen_is ms u e =
    let x = bound (λ x. if is_some (as_null x) then Some None else option_map (λ u. Some u) (thread_number (codes "chosen") (object ms))) (get_member (codes "chosen") ms) u e in
    by_cond (is_some (as_null x.0)) _ _ _ _ x.2
    (λ is s. subst (λ (u : Option ThreadId). (get_member (codes "chosen") ms ≡ Some (of_chosen u)) × ChosenFits u) (same_some None u s) (x.1 ∙ ap (λ (d : Data). Some d) (null_is x.0 is), tt))
    (λ _ s. let t = mapped (λ (u : ThreadId). Some u) (thread_number (codes "chosen") (object ms)) u s in
    let p = thread_is (codes "chosen") ms t.0 t.1 in
    subst (λ (u : Option ThreadId). (get_member (codes "chosen") ms ≡ Some (of_chosen u)) × ChosenFits u) t.2 p)
