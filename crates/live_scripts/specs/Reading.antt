-- What reading a live script gives.
use Rattle.std.specs.Prelude.{◌≡◌, List, Result, Ok, Err}
use Rattle.text_streams.specs.declared.faults.FileFault.{FileFault}
use Rattle.text_streams.specs.declared.faults.FileFault.TheVariants as faults
use Rattle.script_text.specs.declared.lines.Line.{Line}

-- these lines, unless memory ran out
abbrev pub GivesLive : Result (List Line) FileFault → List Line → Type 0
GivesLive (Ok found) ls = found ≡ ls
GivesLive (Err e) ls = e ≡ faults.Memory
