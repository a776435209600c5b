use Rattle.std.proofs.Common.{◌≡◌, ◌∙◌, ◌++◌, ℕ, suc, ◌+◌, List, ap, sym, arith}
use Rattle.std.proofs.Common.{append-nil}
use Rattle.std.specs.FinMap as map
use Rattle.std.proofs.lemmas.List.{append_assoc}
use Rattle.fat_monitor.proofs.Fronts.{front_same, front_then}
use Rattle.jls_check.specs.LiveThreads.{LiveThreads}
use Rattle.jls_check.specs.Numbers.{record_numbers, threads_numbers}
use Rattle.jls_check.proofs.machine.Machine.push_threads.Goals as goal

-- the next thread
put_thread : (l : LiveThreads) (k : ℕ) (before now more : List ℕ) → now ≡ before ++ threads_numbers l k
    → more ≡ now ++ record_numbers (map.get l k) → more ≡ before ++ threads_numbers l (k + 1)
put_thread l k before now more h m =
    let one : suc k ≡ k + 1 = omega arith in
    m ∙ ap (λ (ns : List ℕ). ns ++ record_numbers (map.get l k)) h
    ∙ append_assoc before (threads_numbers l k) (record_numbers (map.get l k))
    ∙ ap (λ (n : ℕ). before ++ threads_numbers l n) one

all_put : (l : LiveThreads) (k n : ℕ) (before now : List ℕ) → now ≡ before ++ threads_numbers l k → k ≡ n → now ≡ before ++ threads_numbers l n
all_put l k n before now h e = h ∙ ap (λ (m : ℕ). before ++ threads_numbers l m) e

pub threads-init : goal.threads-init
threads-init c = (sym (append-nil c.args.numbers.now.items), front_same c.args.numbers.now.items)

pub threads-preserved : goal.threads-preserved
threads-preserved c =
    let i = c.threads.invariant in (
      put_thread c.args.self.now.threads c.threads.thread c.args.numbers.now.items c.threads.numbers.items c.push_record.new.numbers.items i.0
          (rw (← c.self.view_is) (rw c.kept.ensures at c.in_ok-push_record.ensures.written)),
      front_then c.args.numbers.now.items c.threads.numbers.items c.push_record.new.numbers.items i.1 c.push_record.ensures.front,
    )

pub returns-in_err-push_record-clause-front : goal.returns-in_err-push_record-clause-front
returns-in_err-push_record-clause-front c =
    front_then c.args.numbers.now.items c.threads.numbers.items c.push_record.new.numbers.items c.threads.invariant.1 c.push_record.ensures.front

pub returns-clause-written : goal.returns-clause-written
returns-clause-written c =
    let past = c.threads-test.false in
    let end = c.threads.auto.thread-end in
    all_put c.args.self.now.threads c.threads.thread c.args.threads c.args.numbers.now.items c.threads.numbers.items c.threads.invariant.0
    (omega (arith, past, end))

pub returns-clause-front : goal.returns-clause-front
returns-clause-front c = c.threads.invariant.1
