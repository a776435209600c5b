-- Want of memory in a step.
use Rattle.std.specs.Prelude.{Bool, true, false}
use Rattle.fat_monitor.specs.declared.actions.Cause.{Cause}
use Rattle.fat_monitor.specs.declared.actions.Cause.TheVariants as cause
use Rattle.step_core.specs.declared.steps.Atomic.{Atomic}
use Rattle.step_core.specs.declared.steps.Atomic.TheVariants as atomic

abbrev pub is_memory : Cause → Bool
is_memory cause.Memory = true
is_memory c = false

-- no monitor could be bound for want of memory
abbrev pub wants_memory : Atomic → Bool
wants_memory (atomic.NotBound o c) = is_memory c
wants_memory a = false
