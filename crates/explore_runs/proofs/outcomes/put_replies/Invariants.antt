use Rattle.std.proofs.Common.{◌≡◌, ◌++◌, string_bytes}
use Rattle.explore_runs.specs.Outcomes.{replies_text}
use Rattle.explore_runs.proofs.outcomes.put_replies.Given as goal

abbrev pub invariant-calls : goal.invariant-calls
invariant-calls l = string_bytes l.text ≡ string_bytes l.fn.text ++ replies_text l.replies l.start l.call
