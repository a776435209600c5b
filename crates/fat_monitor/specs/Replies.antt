-- What is replied to a question.
use Rattle.std.specs.Prelude.{Bool, true, false}
use Rattle.fat_monitor.specs.declared.actions.Reply.{Reply}
use Rattle.fat_monitor.specs.declared.actions.Reply.TheVariants.{Yes, No}

abbrev pub yes_or_no : Bool → Reply
yes_or_no true = Yes
yes_or_no false = No
