use Rattle.std.proofs.Common.{◌≡◌, ◌++◌, string_bytes}
use Rattle.picture_text.specs.Marks.{replies_below}
use Rattle.picture_text.specs.Nodes.{node_text}
use Rattle.picture_text.proofs.marks.put_replies.Given as goal

abbrev pub invariant-replies : goal.invariant-replies
invariant-replies l = string_bytes l.text ≡ string_bytes l.fn.text ++ node_text (replies_below l.naming l.layout l.thread l.top l.replies l.number)
