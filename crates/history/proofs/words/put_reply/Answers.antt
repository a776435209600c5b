use Rattle.std.proofs.Common.{string_bytes, codes, [], ◌∷◌, arith}
use Rattle.std.proofs.lemmas.Grind.{common_steps}
use Rattle.fat_monitor.specs.Names.{reply_name}
use Rattle.history.proofs.DigitText.{pushed_three}
use Rattle.history.proofs.words.put_reply.Goals as goal

pub returns-in-Interrupted : goal.returns-in-Interrupted
returns-in-Interrupted c =
    pushed_three c.push_str-in-Interrupted.result (string_bytes c.args.report.now) _ (codes " = ") (reply_name c.args.reply) (10 ∷ []) (string_bytes c.push_str-in-Interrupted.new.self) (rw c.in-Interrupted.is)
    c.push_str-in-Interrupted.ensures.bytes

pub returns-in-IllegalMonitorState : goal.returns-in-IllegalMonitorState
returns-in-IllegalMonitorState c =
    pushed_three c.push_str-in-IllegalMonitorState.result (string_bytes c.args.report.now) _ (codes " = ") (reply_name c.args.reply) (10 ∷ []) (string_bytes c.push_str-in-IllegalMonitorState.new.self) (rw c.in-IllegalMonitorState.is)
    c.push_str-in-IllegalMonitorState.ensures.bytes

pub returns-in-IllegalArgument : goal.returns-in-IllegalArgument
returns-in-IllegalArgument c =
    pushed_three c.push_str-in-IllegalArgument.result (string_bytes c.args.report.now) _ (codes " = ") (reply_name c.args.reply) (10 ∷ []) (string_bytes c.push_str-in-IllegalArgument.new.self) (rw c.in-IllegalArgument.is)
    c.push_str-in-IllegalArgument.ensures.bytes

pub returns-in-Exited : goal.returns-in-Exited
returns-in-Exited c = grind (arith, common_steps)
