use Rattle.std.specs.Prelude.{List, length}
use Rattle.std.proofs.Common.{arith, ap, ◌∙◌}
use Rattle.header_words.specs.Passes.{PassValue}
use Rattle.live_turns.proofs.Rows.{length-new_passes}
use Rattle.live_turns.proofs.turns.Turns.open.Goals as goal

pub with_owns-requires-clause-len : goal.with_owns-requires-clause-len
with_owns-requires-clause-len g c =
    let n = ap (λ (ps : List PassValue). length ps) c.in-Ok.ensures.passes ∙ length-new_passes c.in-Ok.headers 1 c.args.passes in
    let m = c.in_ok-desk.ensures.owns in
    let ok = c.in-Ok.words.ok in
    omega arith

pub with_owns-requires-clause-room : goal.with_owns-requires-clause-room
with_owns-requires-clause-room g c =
    let n = ap (λ (ps : List PassValue). length ps) c.in-Ok.ensures.passes ∙ length-new_passes c.in-Ok.headers 1 c.args.passes in
    let m = c.in_ok-row.ensures.capacity in
    let ok = c.in-Ok.words.ok in
    let from = c.from.ensures in
    omega arith
