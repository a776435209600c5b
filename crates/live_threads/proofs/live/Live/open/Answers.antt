use Rattle.std.proofs.Common.{◌∙◌, sym, arith}
use Rattle.live_threads.proofs.Rows.{length_new, rest_new, held_new}
use Rattle.live_threads.proofs.live.Live.open.Goals as goal

pub with_parkers-requires-clause-len : goal.with_parkers-requires-clause-len
with_parkers-requires-clause-len g c =
    length_new c.in_ok-turns.turns c.args.passes c.in_ok-turns.passes.items c.in_ok-turns.ensures.passes ∙ sym c.in_ok-bells.ensures

pub with_parkers-requires-clause-rest : goal.with_parkers-requires-clause-rest
with_parkers-requires-clause-rest g c = rest_new c.in_ok-turns.turns c.args.passes c.in_ok-turns.passes.items c.in_ok-turns.ensures.passes

pub with_parkers-requires-clause-room : goal.with_parkers-requires-clause-room
with_parkers-requires-clause-room g c =
    let count = length_new c.in_ok-turns.turns c.args.passes c.in_ok-turns.passes.items c.in_ok-turns.ensures.passes in
    let room = c.in_ok-row.ensures.capacity in omega arith

pub returns-clause-passes : goal.returns-clause-passes
returns-clause-passes g c =
    held_new c.in_ok-turns.turns c.args.passes c.in_ok-turns.passes.items c.with_parkers.result.items c.in_ok-turns.ensures.passes c.with_parkers.ensures
