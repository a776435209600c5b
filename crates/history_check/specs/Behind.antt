-- The state of the abstract machine behind a checker.
use Rattle.step_core.specs.Machine.{State}
use Rattle.jls_check.specs.MachineState.{MachineState, state}

unfoldable pub state_of : MachineState → State
state_of m = state m
