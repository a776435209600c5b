-- How the program ends.
use Rattle.std.specs.Prelude.{◌≡◌, ◌⊎◌, ℕ, []}
use Rattle.clap.specs.Kinds.{Kinds, IsAmong}
use Rattle.clap.specs.declared.error.kind.ErrorKind.{ErrorKind}
use Rattle.clap.specs.declared.error.kind.ErrorKind.TheVariants.{InvalidValue, UnknownArgument, InvalidSubcommand}
use Rattle.clap.specs.declared.error.kind.ErrorKind.TheVariants.{NoEquals, ValueValidation, TooManyValues, TooFewValues}
use Rattle.clap.specs.declared.error.kind.ErrorKind.TheVariants.{WrongNumberOfValues, ArgumentConflict}
use Rattle.clap.specs.declared.error.kind.ErrorKind.TheVariants.{MissingRequiredArgument, MissingSubcommand}
use Rattle.clap.specs.declared.error.kind.ErrorKind.TheVariants.{DisplayHelp, DisplayHelpOnMissingArgumentOrSubcommand}
use Rattle.clap.specs.declared.error.kind.ErrorKind.TheVariants.{DisplayVersion, Io, Format, OutOfMemory}
use Rattle.explore_runs.specs.declared.faults.ExploreTextFault.{ExploreTextFault}
use Rattle.explore_runs.specs.declared.faults.ExploreTextFault.TheVariants as exploring
use Rattle.live_runs.specs.Faults.{out_of_memory}
use Rattle.live_runs.specs.declared.faults.RunFault.TheVariants.{File}
use Rattle.command_line.specs.declared.ends.TaskFault.{TaskFault}
use Rattle.command_line.specs.declared.ends.TaskFault.TheVariants.{Run, TooManyStates, TooManyColumns}
use Rattle.command_line.specs.declared.ends.TaskFault.TheVariants.{TooManyLanes, NoSuchColumn}
use Rattle.drawing.specs.declared.faults.DrawFault.{DrawFault}
use Rattle.drawing.specs.declared.faults.DrawFault.TheVariants as drawing
use Rattle.command_line.specs.declared.ends.ProgramEnd.{ProgramEnd}
use Rattle.command_line.specs.declared.ends.ProgramEnd.TheVariants.{Done, Shown, Failed, Misused}

-- the fault of an order to explore
abbrev pub fault_of_exploring : ExploreTextFault → TaskFault
fault_of_exploring (exploring.File fault) = Run (File fault)
fault_of_exploring (exploring.TooManyStates most) = TooManyStates most

-- the fault of an order to draw
abbrev pub fault_of_drawing : DrawFault → TaskFault
fault_of_drawing (drawing.File fault) = Run (File fault)
fault_of_drawing drawing.TooManyColumns = TooManyColumns
fault_of_drawing drawing.TooManyLanes = TooManyLanes
fault_of_drawing (drawing.NoSuchColumn n) = NoSuchColumn n

-- the exit status
abbrev pub status_of : ProgramEnd → ℕ
status_of Done = 0
status_of Shown = 0
status_of (Failed fault) = 1
status_of Misused = 2

-- how the program ends where a parse of its words gives no order
abbrev pub end_for : ErrorKind → ProgramEnd
end_for OutOfMemory = Failed (Run out_of_memory)
end_for DisplayHelp = Shown
end_for DisplayVersion = Shown
end_for InvalidValue = Misused
end_for UnknownArgument = Misused
end_for InvalidSubcommand = Misused
end_for NoEquals = Misused
end_for ValueValidation = Misused
end_for TooManyValues = Misused
end_for TooFewValues = Misused
end_for WrongNumberOfValues = Misused
end_for ArgumentConflict = Misused
end_for MissingRequiredArgument = Misused
end_for MissingSubcommand = Misused
end_for DisplayHelpOnMissingArgumentOrSubcommand = Misused
end_for Io = Misused
end_for Format = Misused

-- how an order ends: it was carried out, or not
abbrev pub IsOfOrder : ProgramEnd → Type 0
IsOfOrder Done = Unit {0}
IsOfOrder Shown = ⊥
IsOfOrder (Failed fault) = Unit {0}
IsOfOrder Misused = ⊥

-- How the program ends where its words may be refused for one of these kinds: for none, then they are an order; or they
-- were refused, for one of the kinds or for want of memory.
abbrev pub EndsFor : Kinds → ProgramEnd → Type 0
EndsFor kinds end =
    ((kinds ≡ []) × IsOfOrder end)
    ⊎ ((k : ErrorKind) × ((k ≡ OutOfMemory) ⊎ IsAmong k kinds) × (end ≡ end_for k))
