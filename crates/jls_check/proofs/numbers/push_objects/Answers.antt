use Rattle.std.proofs.Common.{◌≡◌, ◌<◌, ◌≤◌, ◌∙◌, ◌++◌, ◌+◌, ℕ, List, add-one, ap, drop, get_or, length, sym}
use Rattle.std.proofs.Math.Seq.{drop-cons}
use Rattle.std.proofs.lemmas.List.{append_assoc, append-nil, drop_all}
use Rattle.fat_monitor.proofs.Fronts.{front_then}
use Rattle.jls_check.specs.declared.monitors.ObjectRecord.{ObjectRecord}
use Rattle.jls_check.specs.Numbers.{object_numbers, objects_numbers}
use Rattle.jls_check.proofs.numbers.push_objects.Goals as goal

-- the next object
put_object : (os : List ObjectRecord) (i : ℕ) (d : ObjectRecord) (before more whole : List ℕ) → i < length os → more ≡ before ++ object_numbers (get_or os i d)
    → before ++ objects_numbers (drop i os) ≡ whole → more ++ objects_numbers (drop (i + 1) os) ≡ whole
put_object os i d before more whole lt m h =
    let one : List ℕ = object_numbers (get_or os i d) in
    let rest : List ℕ = objects_numbers (drop (i + 1) os) in
    let e : objects_numbers (drop i os) ≡ one ++ rest = rw (drop-cons os i d) (ap (λ (j : ℕ). one ++ objects_numbers (drop j os)) (sym (add-one i))) in
    ap (λ (l : List ℕ). l ++ rest) m ∙ (append_assoc before one rest ∙ (ap (λ (l : List ℕ). before ++ l) (sym e) ∙ h))

all_put : (os : List ObjectRecord) (i : ℕ) (before whole : List ℕ) → length os ≤ i → before ++ objects_numbers (drop i os) ≡ whole → before ≡ whole
all_put os i before whole le h = sym (append-nil before) ∙ (ap (λ (l : List ObjectRecord). before ++ objects_numbers l) (sym (drop_all i os le)) ∙ h)

pub objects-preserved : goal.objects-preserved
objects-preserved c =
    let i = c.objects.invariant in (
      put_object c.args.objects.now c.objects.object-index _ c.objects.numbers.items c.push_object.new.numbers.items _ c.objects-test.true c.in_ok-push_object.ensures.written i.0,
      front_then c.args.numbers.now.items c.objects.numbers.items c.push_object.new.numbers.items i.1 c.push_object.ensures.front,
    )

pub returns-in_err-push_object-clause-front : goal.returns-in_err-push_object-clause-front
returns-in_err-push_object-clause-front c =
    front_then c.args.numbers.now.items c.objects.numbers.items c.push_object.new.numbers.items c.objects.invariant.1 c.push_object.ensures.front

pub returns : goal.returns
returns c = record {
  written = all_put c.args.objects.now c.objects.object-index c.objects.numbers.items _ c.objects-test.false c.objects.invariant.0;
  front = c.objects.invariant.1;
}
