use Rattle.std.proofs.Common.{◌≡◌, ◌++◌, take, string_bytes}
use Rattle.live_runs.specs.Texts.{answers_text}
use Rattle.live_runs.proofs.texts.put_answers.Given as goal

abbrev pub invariant-answers : goal.invariant-answers
invariant-answers l = string_bytes l.text ≡ string_bytes l.fn.text ++ answers_text (take l.answer-index l.answers)
