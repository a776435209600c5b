-- Which call, step and split numbers name.
use Rattle.std.specs.Prelude.{ℕ, ◌==◌, if◌then◌else◌, Option, Some, None}
use Rattle.lock_word.specs.declared.ThreadId.{ThreadId}
use Rattle.lock_word.specs.declared.ObjectId.{ObjectId}
use Rattle.lock_word.specs.declared.Split.{Split}
use Rattle.lock_word.specs.declared.Split.TheVariants.{Wide, Deep}
use Rattle.fast_path.specs.declared.calls.Call.{Call}
use Rattle.fast_path.specs.declared.calls.Call.TheVariants as call
use Rattle.step_core.specs.declared.steps.Step.{Step}
use Rattle.step_core.specs.declared.steps.Step.TheVariants as step
use Rattle.nadkhoy_c.specs.declared.plain.PlainCall.{PlainCall}
use Rattle.nadkhoy_c.specs.declared.plain.PlainStep.{PlainStep}

abbrev pub object : ℕ → ObjectId
object n = record { 0 = n }

abbrev pub thread : ℕ → ThreadId
thread n = record { 0 = n }

abbrev pub call_from_numbers : PlainCall → Option Call
call_from_numbers p =
    if p.kind == 1 then Some (call.Enter (object p.target))
    else (if p.kind == 2 then Some (call.Exit (object p.target))
    else (if p.kind == 3 then Some (call.Wait (object p.target) p.millis p.nanos)
    else (if p.kind == 4 then Some (call.Notify (object p.target))
    else (if p.kind == 5 then Some (call.NotifyAll (object p.target))
    else (if p.kind == 6 then Some (call.Holds (object p.target))
    else (if p.kind == 7 then Some (call.Interrupt (thread p.target))
    else (if p.kind == 8 then Some call.Interrupted
    else (if p.kind == 9 then Some (call.IsInterrupted (thread p.target))
    else (if p.kind == 10 then Some call.End
    else None)))))))))

-- a step that begins this call, if it is one
abbrev pub begin_of : ThreadId → Option Call → Option Step
begin_of t None = None
begin_of t (Some c) = Some (step.Begin t c)

abbrev pub step_from_numbers : PlainStep → Option Step
step_from_numbers p =
    if p.kind == 1 then Some (step.Attach (thread p.thread))
    else (if p.kind == 2 then begin_of (thread p.thread) (call_from_numbers p.call)
    else (if p.kind == 3 then Some (step.Go (thread p.thread))
    else (if p.kind == 4 then Some (step.Expire (thread p.thread))
    else (if p.kind == 5 then Some (step.Spurious (thread p.thread))
    else (if p.kind == 6 then Some (step.Tick p.moment)
    else None)))))

abbrev pub split_of : ℕ → Option Split
split_of n = if n == 1 then Some Wide else (if n == 2 then Some Deep else None)
