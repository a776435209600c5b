use Rattle.std.proofs.Common.{sym, ◌∙◌, None}
use Rattle.std.proofs.lemmas.List.{get_or_past}
use Rattle.thread_index.proofs.Wholes.{one_to_one-shown, few-shown, holder_of-shown, holder_of-none}
use Rattle.thread_index.proofs.Indices.id_of.Goals as goal

pub returns-in_err-checked_sub-clause-holder : goal.returns-in_err-checked_sub-clause-holder
returns-in_err-checked_sub-clause-holder c =
    c.from_residual.ensures ∙ sym (holder_of-none c.args.self.now c.args.index c.in_err-checked_sub.ensures)

pub returns-in_err-checked_sub-clause-one_to_one : goal.returns-in_err-checked_sub-clause-one_to_one
returns-in_err-checked_sub-clause-one_to_one c = one_to_one-shown _ _ _ _ _ c.self.invariant c.self.view_is

pub returns-in_err-checked_sub-clause-length : goal.returns-in_err-checked_sub-clause-length
returns-in_err-checked_sub-clause-length c = few-shown _ _ _ _ _ c.self.invariant c.self.view_is

pub returns-in_err-get-clause-holder : goal.returns-in_err-get-clause-holder
returns-in_err-get-clause-holder c =
    c.from_residual-in_err-get.ensures
    ∙ sym (holder_of-shown _ _ _ _ _ _ _ _ c.self.invariant c.self.view_is c.in_ok-checked_sub.ensures c.from.ensures
    ∙ get_or_past c.self.inside.holders.items _ None (rw c.deref.ensures.value at c.in_err-get.ensures.lookup.3))

pub returns-in_err-get-clause-one_to_one : goal.returns-in_err-get-clause-one_to_one
returns-in_err-get-clause-one_to_one c = one_to_one-shown _ _ _ _ _ c.self.invariant c.self.view_is

pub returns-in_err-get-clause-length : goal.returns-in_err-get-clause-length
returns-in_err-get-clause-length c = few-shown _ _ _ _ _ c.self.invariant c.self.view_is

pub returns-clause-holder : goal.returns-clause-holder
returns-clause-holder c =
    (rw c.deref.ensures.value at (c.in_ok-get.ensures.lookup.3.1 None))
    ∙ sym (holder_of-shown _ _ _ _ _ _ _ _ c.self.invariant c.self.view_is c.in_ok-checked_sub.ensures c.from.ensures)

pub returns-clause-one_to_one : goal.returns-clause-one_to_one
returns-clause-one_to_one c = one_to_one-shown _ _ _ _ _ c.self.invariant c.self.view_is

pub returns-clause-length : goal.returns-clause-length
returns-clause-length c = few-shown _ _ _ _ _ c.self.invariant c.self.view_is
