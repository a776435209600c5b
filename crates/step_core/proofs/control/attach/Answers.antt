use Rattle.std.proofs.Common.{arith, ◌≡◌, ◌<◌, ◌-◌, refl, false, length, count_by}
use Rattle.std.specs.Prelude.{is_some}
use Rattle.step_core.proofs.CodeOfGo.{undone, free_counted}
use Rattle.step_core.proofs.control.attach.Goals as goal

pub returns-in-Err-Memory-attach : goal.returns-in-Err-Memory-attach
returns-in-Err-Memory-attach c =
    let back : c.give.new.self ≡ c.args.indices.now =
    undone c.args.indices.now c.take.new.self c.give.new.self c.args.thread (c.in-Ok.index - 1) c.in-Ok.ensures.unknown c.in-Ok.ensures.free c.in-Ok.ensures.taken c.give.ensures.given in
    λ split words. (false, rw (back, c.in-Err-Memory-attach.ensures.err, c.in-Ok.ensures.unknown, c.in-Ok.ensures.free) refl)

pub attach-requires : goal.attach-requires
attach-requires c =
    let fewer : count_by is_some c.args.indices.now < length c.args.indices.now = free_counted c.args.indices.now (c.in-Ok.index - 1) c.in-Ok.ensures.free in
    let counted = c.requires.counted in
    let few = c.requires.few in omega arith
