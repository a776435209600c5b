-- What a checker says of a move.
use Rattle.step_core.specs.declared.machine.Move.{Move}
use Rattle.step_core.specs.declared.machine.Move.TheVariants as move
use Rattle.step_core.specs.Machine.{State, Steps}

-- from s the machine may not make this move
abbrev pub IsUnlawful : State → Move → Type 0
IsUnlawful s m = (next : State) → Steps s m next → ⊥

abbrev pub IsAttach : Move → Type 0
IsAttach (move.Attach t) = Unit {0}
IsAttach m = ⊥
