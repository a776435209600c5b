use Rattle.std.proofs.Common.{rules}
use Rattle.pictures.proofs.same.are_same_words.Goals as goal

pub returns-in-Some-Some : goal.returns-in-Some-Some
returns-in-Some-Some c = search rules
