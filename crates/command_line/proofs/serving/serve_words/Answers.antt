use Rattle.std.proofs.Common.{rules}
use Rattle.command_line.proofs.serving.serve_words.Goals as goal

pub returns-in-Err-carry_out : goal.returns-in-Err-carry_out
returns-in-Err-carry_out g c = search rules
