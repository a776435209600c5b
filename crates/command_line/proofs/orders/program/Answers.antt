use Rattle.std.proofs.Common.{ap, ◌∙◌}
use Rattle.std.proofs.lemmas.Result.{IfOk-weaker}
use Rattle.clap.specs.Simple.{with_subcommand}
use Rattle.std.specs.Prelude.{codes}
use Rattle.command_line.specs.Orders.{draw_words, explore_words, file_words, moves_words}
use Rattle.command_line.proofs.orders.program.Goals as goal

pub returns-clause-words : goal.returns-clause-words
returns-clause-words c =
    let run = c.in_ok-with_run.ensures.words ∙ ap (λ a. with_subcommand a (moves_words (codes "run")).top) c.in_ok-bare_program.ensures.words in
    let check = c.in_ok-with_check.ensures.words ∙ ap (λ a. with_subcommand a (file_words (codes "check")).top) run in
    let dump = c.in_ok-with_dump.ensures.words ∙ ap (λ a. with_subcommand a (file_words (codes "dump")).top) check in
    let live = c.in_ok-with_live.ensures.words ∙ ap (λ a. with_subcommand a (file_words (codes "live")).top) dump in
    let explore = c.in_ok-with_explore.ensures.words ∙ ap (λ a. with_subcommand a explore_words.top) live in
    IfOk-weaker c.with_draw_command.result _ _ (λ m h. h ∙ ap (λ a. with_subcommand a draw_words.top) explore) c.with_draw_command.ensures.words
