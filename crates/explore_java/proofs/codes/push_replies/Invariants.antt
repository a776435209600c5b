use Rattle.std.proofs.Common.{◌≡◌, ◌++◌, take}
use Rattle.std.specs.Prelude.{map}
use Rattle.explore.specs.Codes.{answer_number}
use Rattle.explore_java.proofs.codes.push_replies.Given as goal

abbrev pub invariant-replies : goal.invariant-replies
invariant-replies l = l.numbers.items ≡ l.initial.numbers.items ++ map answer_number (take l.reply-index l.replies)
