use Rattle.std.proofs.Common.{◌≡◌, ◌∙◌, sym, ap, Some, None, arith, subst, List, slice_index_or, true, IsSome}
use Rattle.wait_lines.specs.declared.Role.TheVariants.{Waiting as WaitSet}
use Rattle.fat_monitor.specs.declared.monitors.Monitor.{Monitor}
use Rattle.fat_monitor.specs.declared.actions.Reply.TheVariants.{Notified}
use Rattle.fat_monitor.specs.FatState.{FatState, IsSound, monitor_at, first_of, unbound, is_owned_by}
use Rattle.fat_monitor.proofs.Effects.{first_waiting}
use Rattle.fat_monitor.proofs.Soundness.{after_removals-first, after_removals-none, length-wait_set, monitors-after_removal_first}
use Rattle.fat_monitor.proofs.Steps.{owned_by, replies_at}
use Rattle.fat_monitor.proofs.monitors.Fats.notify_all.Goals as goal

pub returns-then-not-is_owner : goal.returns-then-not-is_owner
returns-then-not-is_owner c = rw (← c.if-not-is_owner.ensures) (c.reply_with.ensures _)

pub call_back-requires : goal.call_back-requires
call_back-requires c =
    let f = c.loop-first.self in
    let first : first_of f c.args.monitor WaitSet ≡ Some c.in-Some.first = rw (← c.self-in-loop-first.view_is) (sym c.in-Some.ensures.first) in
    let waits = first_waiting f c.args.monitor c.in-Some.first (subst (λ (f : FatState). IsSound f) c.self-in-loop-first.view_is c.self-in-loop-first.invariant.sound) first in
    record { waits = (c.args.monitor, waits.0, waits.1, waits.2) }

-- the first of the wait set
first : (c : goal.After-call_back) → first_of c.loop-first.self c.args.monitor WaitSet ≡ Some c.in-Some.first
first c = rw (← c.self-in-loop-first.view_is) (sym c.in-Some.ensures.first)

sound : (c : goal.After-call_back) → IsSound c.loop-first.self
sound c = subst (λ (f : FatState). IsSound f) c.self-in-loop-first.view_is c.self-in-loop-first.invariant.sound

-- the monitor still has the owner that it had
owned : (c : goal.After-call_back) → IsSome (monitor_at c.loop-first.self c.args.monitor).owner
owned c =
    let f = c.loop-first.self in
    let same : monitor_at f c.args.monitor ≡ monitor_at c.args.self.now c.args.monitor = ap (λ (ms : List Monitor). slice_index_or ms c.args.monitor unbound) c.loop-first.invariant.monitors in
    let owns : is_owned_by (monitor_at f c.args.monitor).owner c.args.thread ≡ true = rw (same) (sym c.if-not-is_owner.ensures) in
    owned_by (monitor_at f c.args.monitor).owner c.args.thread owns

pub loop-first-smaller : goal.loop-first-smaller
loop-first-smaller c =
    let fewer = length-wait_set c.loop-first.self c.in-Some.first c.args.monitor (sound c) (owned c) (first c) in
    rw (c.call_back.ensures.after) (omega arith)

pub loop-first-preserved : goal.loop-first-preserved
loop-first-preserved c =
    let f = c.loop-first.self in
    rw (c.call_back.ensures.after) (record {
      removed = sym (after_removals-first f c.in-Some.first c.args.monitor (sound c) (owned c) (first c)) ∙ c.loop-first.invariant.removed;
      monitors = monitors-after_removal_first f c.in-Some.first c.args.monitor (sound c) (owned c) (first c) ∙ c.loop-first.invariant.monitors;
    })

pub returns : goal.returns
returns c =
    let f = c.loop-first.self in
    let none : first_of f c.args.monitor WaitSet ≡ None = rw (← c.self-in-loop-first.view_is) (sym c.in_default.ensures.first) in
    let all = sym (after_removals-none f c.args.monitor none) ∙ c.loop-first.invariant.removed in
    rw (← c.if-not-is_owner.ensures) (replies_at c.reply_with-2.result Notified _ _ c.reply_with-2.ensures all)
