use Rattle.std.proofs.Common.{ap, ap₂, ◌∙◌, ◌||◌}
use Rattle.std.proofs.lemmas.Result.{IfOk-weaker}
use Rattle.clap.specs.Simple.{App, app_of, with_subcommand}
use Rattle.command_line.proofs.orders.with_draw_command.Goals as goal

pub returns-clause-words : goal.returns-clause-words
returns-clause-words c = IfOk-weaker c.subcommand.result _ _ (λ m h. h.shape c.in_ok-command.ensures.local ∙ ap (λ (a : App). with_subcommand (app_of c.args.program) a.top) c.in_ok-command.ensures.words) c.subcommand.ensures

pub returns-clause-local : goal.returns-clause-local
returns-clause-local c = IfOk-weaker c.subcommand.result _ _ (λ m h. h.globals ∙ ap₂ (λ x y. x || y) c.requires c.in_ok-command.ensures.local) c.subcommand.ensures
