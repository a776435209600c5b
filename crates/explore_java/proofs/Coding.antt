-- A code is of one state of a program.
use native.Mathlib.Omega.{arith}
use Rattle.std.proofs.Common.{◌≡◌, ◌∙◌, ap, refl, ℕ, List, [], ◌∷◌, ◌++◌, length, Option, Some, None}
use Rattle.std.specs.Prelude.{map}
use Rattle.fat_monitor.specs.declared.actions.Reply.{Reply}
use Rattle.fat_monitor.specs.Numbers.{reply_number}
use Rattle.fat_monitor.proofs.Fronts.{first, behind}
use Rattle.jls_check.specs.MachineState.{MachineState}
use Rattle.jls_check.specs.Numbers.{AreBelow, numbers_of}
use Rattle.explore.specs.Codes.{answer_number}
use Rattle.explore.specs.declared.programs.Program.{Program}
use Rattle.explore_java.specs.JavaStates.{JavaProgramState, IsProper, code_of, count_of}

-- two replies with one number are the same
abbrev pub RepliesApart : Type 0
RepliesApart = (r s : Reply) → reply_number r ≡ reply_number s → r ≡ s

-- and so are two machines, whatever stands behind
abbrev pub MachinesApart : Type 0
MachinesApart = (n : ℕ) (v w : MachineState) (a b : List ℕ) → AreBelow n v → AreBelow n w → numbers_of n v ++ a ≡ numbers_of n w ++ b → (v ≡ w) × (a ≡ b)

answer_apart : RepliesApart → (x y : Option Reply) → answer_number x ≡ answer_number y → x ≡ y
answer_apart h None None e = refl
answer_apart h None (Some r) e = absurd (omega (arith, e))
answer_apart h (Some r) None e = absurd (omega (arith, e))
answer_apart h (Some r) (Some s) e = ap Some (h r s (omega (arith, e)))

answers_apart : RepliesApart → (xs ys : List (Option Reply)) → map answer_number xs ≡ map answer_number ys → xs ≡ ys
answers_apart h [] [] e = refl
answers_apart h [] (y ∷ ys) e = absurd (let l = ap (λ (ns : List ℕ). length ns) e in omega (arith, l))
answers_apart h (x ∷ xs) [] e = absurd (let l = ap (λ (ns : List ℕ). length ns) e in omega (arith, l))
answers_apart h (x ∷ xs) (y ∷ ys) e =
    ap (λ (o : Option Reply). o ∷ xs) (answer_apart h x y (ap first e)) ∙ ap (λ (os : List (Option Reply)). y ∷ os) (answers_apart h xs ys (ap behind e))

-- two lists of one length are told apart, whatever stands behind
lists_apart : (xs ys a b : List ℕ) → length xs ≡ length ys → xs ++ a ≡ ys ++ b → (xs ≡ ys) × (a ≡ b)
lists_apart [] [] a b many e = (refl, e)
lists_apart [] (y ∷ ys) a b many e = absurd (omega (arith, many))
lists_apart (x ∷ xs) [] a b many e = absurd (omega (arith, many))
lists_apart (x ∷ xs) (y ∷ ys) a b many e =
    let more = lists_apart xs ys a b (omega (arith, many)) (ap behind e) in
    (ap (λ (n : ℕ). n ∷ xs) (ap first e) ∙ ap (λ (ns : List ℕ). y ∷ ns) more.0, more.1)

pub states_apart : RepliesApart → MachinesApart → (p : Program) (s t : JavaProgramState) → IsProper p s → IsProper p t → code_of p s ≡ code_of p t → s ≡ t
states_apart replies machines p s t hs ht e =
    let m = machines (count_of p) s.machine t.machine _ _ hs.below ht.below e in
    let told : s.told ≡ t.told = ap first m.1 in
    let many : length s.nexts ≡ length t.nexts = ap first (ap behind m.1) in
    let lists = lists_apart s.nexts t.nexts _ _ many (ap behind (ap behind m.1)) in
    let answers = answers_apart replies s.replies t.replies lists.1 in
    ap (λ (x : MachineState). record { machine = x; nexts = s.nexts; replies = s.replies; told = s.told }) m.0
    ∙ ap (λ (x : List ℕ). record { machine = t.machine; nexts = x; replies = s.replies; told = s.told }) lists.0
    ∙ ap (λ (x : List (Option Reply)). record { machine = t.machine; nexts = t.nexts; replies = x; told = s.told }) answers
    ∙ ap (λ (x : ℕ). record { machine = t.machine; nexts = t.nexts; replies = t.replies; told = x }) told
