-- What is written of a dump.
use Rattle.std.proofs.Common.{◌≡◌, ℕ, List, take, subst, ◌∙◌, Option, None, Some}
use Rattle.std.specs.Prelude.{Result, Ok, Err, OnOk, OnErr, IfSome, IsErrOf}
use Rattle.std.specs.Io.KnownBytes.{Appends}
use Rattle.text_streams.specs.declared.faults.FileFault.{FileFault}
use Rattle.dump.specs.Dumps.{IsDumpOf}

dump_of_left : (left : Option (List ℕ)) (read bytes text : List ℕ) → IfSome left (λ input. read ≡ input) → bytes ≡ read → IsDumpOf bytes text → IfSome left (λ input. IsDumpOf input text)
dump_of_left None read bytes text all same is = tt
dump_of_left (Some input) read bytes text all same is = subst (λ (b : List ℕ). IsDumpOf b text) (same ∙ all) is

pub dump_written : {T : Type 0} (r : Result T FileFault) (left held holds : Option (List ℕ)) (read bytes text dump : List ℕ) → IfSome left (λ input. read ≡ input) → bytes ≡ read
    → IsDumpOf bytes dump → text ≡ dump → OnOk r (Appends held holds text) → OnOk r ((d : List ℕ) × IfSome left (λ input. IsDumpOf input d) × Appends held holds d)
dump_written (Ok x) left held holds read bytes text dump all same is e a = (dump, dump_of_left left read bytes dump all same is, subst (λ (l : List ℕ). Appends held holds l) e a)
dump_written (Err x) left held holds read bytes text dump all same is e a = tt

pub dump_cut : {T : Type 0} (r : Result T FileFault) (fault : FileFault) (left held holds : Option (List ℕ)) (read bytes text dump : List ℕ) → IfSome left (λ input. read ≡ input) → bytes ≡ read
    → IsDumpOf bytes dump → text ≡ dump → OnErr r ((n : ℕ) × Appends held holds (take n text)) → IsErrOf r fault
    → (d : List ℕ) × IfSome left (λ input. IsDumpOf input d) × (n : ℕ) × Appends held holds (take n d)
dump_cut (Ok x) fault left held holds read bytes text dump all same is e a failed = absurd (ok_err x fault failed)
  where
    ok_err : {T : Type 0} (x : T) (f : FileFault) → ◌≡◌ {A = Result T FileFault} (Ok x) (Err f) → ⊥
    ok_err x f e = cc
dump_cut (Err x) fault left held holds read bytes text dump all same is e a failed =
    (dump, dump_of_left left read bytes dump all same is, a.0, subst (λ (l : List ℕ). Appends held holds (take a.0 l)) e a.1)
