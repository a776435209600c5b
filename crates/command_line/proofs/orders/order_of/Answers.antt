use Rattle.std.proofs.Common.{ap, codes, ◌∙◌, refl}
use Rattle.clap.specs.Matches.{found_of}
use Rattle.clap.proofs.WalkLemmas.{first_value-rows}
use Rattle.command_line.specs.Orders.{count_in, is_set}
use Rattle.command_line.proofs.orders.order_of.Goals as goal

pub returns-clause-task : goal.returns-clause-task
returns-clause-task c =
    let found = found_of c.args.matches.now in
    let any = c.is_set-any.ensures ∙ ap is_set (c.get_str.ensures ∙ first_value-rows found (codes "any")) in
    let moves = c.is_set-moves.ensures ∙ ap is_set (c.get_str-2.ensures ∙ first_value-rows found (codes "moves")) in
    let states = c.count_in-states.ensures ∙ ap count_in (c.get_str-3.ensures ∙ first_value-rows found (codes "states")) in
    let from = c.count_in-from.ensures ∙ ap count_in (c.get_str-4.ensures ∙ first_value-rows found (codes "from")) in
    let to = c.count_in-to.ensures ∙ ap count_in (c.get_str-5.ensures ∙ first_value-rows found (codes "to")) in
    c.task_of.ensures ∙ rw (any, moves, states, from, to) refl

pub returns-clause-file : goal.returns-clause-file
returns-clause-file c =
    c.get_str-6.ensures ∙ first_value-rows (found_of c.args.matches.now) (codes "file")
