-- A move is read exactly where the data are it.
use Rattle.std.proofs.Common.{◌≡◌, ℕ, ◌<◌, List, Option, Some, None, Bool, true, false, ◌&&◌, ◌==◌, cond, nat_lt, if◌then◌else◌, refl, sym, ap, ◌∙◌, subst, codes, IfSome, IfNone}
use Rattle.std.specs.Str.{bytes_eq}
use Rattle.std.proofs.lemmas.Bool.{and_parts, ltb-true, eqb-true}
use Rattle.std.proofs.lemmas.Option.{cond_some}
use Rattle.serde_json.specs.Data.{Data, null, boolean, number, string, array, object, Members}
use Rattle.serde_json.specs.Find.{get_member}
use Rattle.step_core.specs.declared.machine.Move.{Move}
use Rattle.step_core.specs.declared.machine.Move.TheVariants as move
use Rattle.history_moves.specs.Moves.{data_of, of_number, time_members, objects_members, first_data, Fits, IsMoveData, IsFirstData}
use Rattle.history_moves.specs.Members.{count, AreInOrder, IsOrderedData, text_at, whole_at, now_at, thread_at}
use Rattle.history_moves.specs.Reading.{thread_move, move_named, move_from, objects_at, first_from}
use Rattle.history_moves.proofs.Found.{mapped, bound, by_cond, none_some, same_some, same_word, text_is, whole_is, thread_is}
use Rattle.history_moves.proofs.MemberLaws.{same_members}
use Rattle.history_moves.proofs.Shapes.{Holds, done, named, thread_holds}
use Rattle.history_moves.proofs.Again.{move_again, first_again}

move_holds : (ms : Members) (n : ℕ) (name : List ℕ) (m : Move) → AreInOrder ms → count ms ≡ n → get_member (codes "move") ms ≡ Some (string name) → move_named n (object ms) name ≡ Some m → Holds ms m
move_holds ms n name m order many name_is e =
    by_cond (n == 2 && bytes_eq name (codes "Time")) _ _ _ _ e
    (λ is s. let p = and_parts (n == 2) _ is in
    let now = mapped (λ now. move.Time now) (now_at (object ms)) m s in
    subst (Holds ms) now.2
    (done ms (time_members now.0) (move.Time now.0) refl order ((refl, tt), (tt, tt)) (many ∙ eqb-true n 2 p.0)
    (named ms (codes "move") name (codes "Time") name_is (same_word name (codes "Time") p.1), (whole_is (get_member (codes "now") ms) now.0 now.1, tt)) tt))
    (λ _ rest. let t = bound (thread_move n (object ms) name) (thread_at (object ms)) m rest in
    let p = thread_is (codes "thread") ms t.0 t.1 in
    thread_holds ms n name t.0 m (record { order = order; many = many; name_is = name_is; thread_is = p.0; small = p.1 }) t.2)

pub move_takes : (d : Data) (m : Move) → IsOrderedData d → move_from d ≡ Some m → (d ≡ data_of m) × Fits m
unfolding move_from
move_takes null m order e = none_some m _ e
move_takes (boolean b) m order e = none_some m _ e
move_takes (number x) m order e = none_some m _ e
move_takes (string s) m order e = none_some m _ e
move_takes (array ds) m order e = none_some m _ e
move_takes (object ms) m order e =
    let name = bound (move_named (count ms) (object ms)) (text_at (codes "move") (object ms)) m e in
    move_holds ms (count ms) name.0 m order refl (text_is (get_member (codes "move") ms) name.0 name.1) name.2

pub some_found : (d : Data) (o : Option Move) → o ≡ move_from d → IfSome o (λ _. IsOrderedData d) → IfSome o (IsMoveData d)
some_found d None e order = tt
some_found d (Some m) e order = move_takes d m order (sym e)

pub none_found : (d : Data) (o : Option Move) → o ≡ move_from d → IfNone o ((m : Move) → IsMoveData d m → ⊥)
none_found d None e = λ m is. none_some m ⊥ (e ∙ ap move_from is.0 ∙ move_again m is.1)
none_found d (Some m) e = tt

pub one_move : (d : Data) (m n : Move) → IsMoveData d m → IsMoveData d n → m ≡ n
one_move d m n p q = same_some m n (sym (move_again m p.1) ∙ ap move_from (sym p.0 ∙ q.0) ∙ move_again n q.1)

-- ---- the first line

first_holds : (ms : Members) (n : ℕ) → AreInOrder ms → count ms ≡ 1 → objects_at (object ms) ≡ Some n → (object ms ≡ first_data n) × (n < 65536)
first_holds ms n order many e =
    let m = bound (λ n. if nat_lt n 65536 then Some n else None) (whole_at (codes "objects") (object ms)) n e in
    let c = cond_some (nat_lt m.0 65536) m.0 n m.2 in (
      ap object (same_members ms (objects_members n) order (tt, tt) many (whole_is (get_member (codes "objects") ms) m.0 m.1 ∙ ap (λ (k : ℕ). Some (of_number k)) c.1, tt)),
      subst (λ (k : ℕ). k < 65536) c.1 (ltb-true m.0 65536 c.0),
    )

pub first_takes : (d : Data) (n : ℕ) → IsOrderedData d → first_from d ≡ Some n → (d ≡ first_data n) × (n < 65536)
unfolding first_from
first_takes null n order e = none_some n _ e
first_takes (boolean b) n order e = none_some n _ e
first_takes (number x) n order e = none_some n _ e
first_takes (string s) n order e = none_some n _ e
first_takes (array ds) n order e = none_some n _ e
first_takes (object ms) n order e =
    let c = cond_some_in (count ms == 1) (objects_at (object ms)) n e in first_holds ms n order (eqb-true (count ms) 1 c.0) c.1
  where
    cond_some_in : (t : Bool) (o : Option ℕ) (n : ℕ) → cond t o None ≡ Some n → (t ≡ true) × (o ≡ Some n)
    cond_some_in true o n e = (refl, e)
    cond_some_in false o n e = none_some n _ e

pub some_first : (d : Data) (o : Option ℕ) → o ≡ first_from d → IfSome o (λ _. IsOrderedData d) → IfSome o (IsFirstData d)
some_first d None e order = tt
some_first d (Some n) e order = first_takes d n order (sym e)

pub none_first : (d : Data) (o : Option ℕ) → o ≡ first_from d → IfNone o ((n : ℕ) → IsFirstData d n → ⊥)
none_first d None e = λ n is. none_some n ⊥ (e ∙ ap first_from is.0 ∙ first_again n is.1)
none_first d (Some n) e = tt

pub one_first : (d : Data) (m n : ℕ) → IsFirstData d m → IsFirstData d n → m ≡ n
one_first d m n p q = same_some m n (sym (first_again m p.1) ∙ ap first_from (sym p.0 ∙ q.0) ∙ first_again n q.1)
