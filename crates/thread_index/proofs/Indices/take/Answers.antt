use Rattle.std.proofs.Common.{◌≡◌, List, Option, Some, None, sym, subst, rules}
use Rattle.lock_word.specs.declared.ThreadId.{ThreadId}
use Rattle.thread_index.specs.Indices.{berth_of, free_berth, IsOneToOne}
use Rattle.thread_index.proofs.Berths.{IsOneToOne-taken}
use Rattle.thread_index.proofs.Indices.take.Goals as goal

pub returns-in_err-berth-clause-known : goal.returns-in_err-berth-clause-known
returns-in_err-berth-clause-known c = search rules

pub returns-in_err-berth-clause-no_index : goal.returns-in_err-berth-clause-no_index
returns-in_err-berth-clause-no_index c = search rules

pub returns-in_err-berth-clause-one_to_one : goal.returns-in_err-berth-clause-one_to_one
returns-in_err-berth-clause-one_to_one c = search rules

pub returns-clause-one_to_one : goal.returns-clause-one_to_one
returns-clause-one_to_one c =
    let unknown : berth_of c.args.self.now c.args.id ≡ None = search rules in
    let free : free_berth c.args.self.now ≡ Some c.in_ok-berth.berth = search rules in
    subst (λ (xs : List (Option ThreadId)). IsOneToOne xs) (sym c.in_ok-put.ensures.value)
    (IsOneToOne-taken c.args.self.now c.args.id _ c.berth_of.ensures.one_to_one unknown free)
