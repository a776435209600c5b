-- Why nothing was drawn.
use Rattle.text_streams.specs.declared.faults.FileFault.TheVariants as faults
use Rattle.drawing.specs.declared.faults.DrawFault.{DrawFault}
use Rattle.drawing.specs.declared.faults.DrawFault.TheVariants.{File}

abbrev pub out_of_memory : DrawFault
out_of_memory = File faults.Memory
