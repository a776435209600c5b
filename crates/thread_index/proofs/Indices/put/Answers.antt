use Rattle.std.proofs.Common.{arith, refl, ◌∙◌}
use Rattle.std.proofs.lemmas.Result.{err_from_is_err_and}
use Rattle.thread_index.proofs.Paddings.{padded-slice_set}
use Rattle.thread_index.proofs.Wholes.{free_berth-next, free_bit, IsWhole-more, IsWhole-taken}
use Rattle.thread_index.proofs.Indices.put.Goals as goal

pub make_room-requires-clause-next : goal.make_room-requires-clause-next
make_room-requires-clause-next c =
    let position = free_berth-next _ _ _ _ _ _ c.self.invariant c.self.view_is c.requires.free in
    omega (arith, position.0, c.self.invariant.room)

pub make_room-requires-clause-few : goal.make_room-requires-clause-few
make_room-requires-clause-few c =
    let position = free_berth-next _ _ _ _ _ _ c.self.invariant c.self.view_is c.requires.free in
    omega (arith, position.1, c.self.invariant.kept.few)

pub write_down-requires : goal.write_down-requires
write_down-requires c = (free_berth-next _ _ _ _ _ _ c.self.invariant c.self.view_is c.requires.free).0

pub invariant_of-self-in_err-write_down : goal.invariant_of-self-in_err-write_down
invariant_of-self-in_err-write_down c =
    (IsWhole-more _ _ _ _ _ _ _ c.self.inside.berths c.self.inside.berths c.self.invariant c.self.view_is c.requires.free
    c.in_ok-make_room.ensures.ok c.make_room.ensures.longer c.make_room.ensures.bits c.write_down.ensures.same c.write_down.ensures.few refl).1

pub returns-in_err-write_down-clause-value : goal.returns-in_err-write_down-clause-value
returns-in_err-write_down-clause-value c =
    let more = IsWhole-more _ _ _ _ _ _ _ c.self.inside.berths c.self.inside.berths c.self.invariant c.self.view_is c.requires.free
    c.in_ok-make_room.ensures.ok c.make_room.ensures.longer c.make_room.ensures.bits c.write_down.ensures.same c.write_down.ensures.few refl in
    let error = err_from_is_err_and c.from_residual-in_err-write_down.result c.from_residual-in_err-write_down.ensures.1 in
    rw error.1 more.0

pub invariant_of-self-in_err-insert : goal.invariant_of-self-in_err-insert
invariant_of-self-in_err-insert c =
    (IsWhole-more _ _ _ _ _ _ _ c.self.inside.berths c.insert.new.self c.self.invariant c.self.view_is c.requires.free
    c.in_ok-make_room.ensures.ok c.make_room.ensures.longer c.make_room.ensures.bits c.write_down.ensures.same c.write_down.ensures.few c.in_err-insert.ensures.err).1

pub returns-in_err-insert-clause-value : goal.returns-in_err-insert-clause-value
returns-in_err-insert-clause-value c =
    let more = IsWhole-more _ _ _ _ _ _ _ c.self.inside.berths c.insert.new.self c.self.invariant c.self.view_is c.requires.free
    c.in_ok-make_room.ensures.ok c.make_room.ensures.longer c.make_room.ensures.bits c.write_down.ensures.same c.write_down.ensures.few c.in_err-insert.ensures.err in
    let error = err_from_is_err_and c.from_residual-in_err-insert.result c.from_residual-in_err-insert.ensures.1 in
    rw error.1 more.0

pub take-requires-clause-free : goal.take-requires-clause-free
take-requires-clause-free c = c.make_room.ensures.bits c.args.berth ∙ free_bit _ _ _ _ _ _ c.self.invariant c.self.view_is c.requires.free

pub invariant_of-self-2 : goal.invariant_of-self-2
invariant_of-self-2 c =
    let more = IsWhole-more _ _ _ _ _ _ _ c.self.inside.berths c.self.inside.berths c.self.invariant c.self.view_is c.requires.free
    c.in_ok-make_room.ensures.ok c.make_room.ensures.longer c.make_room.ensures.bits c.write_down.ensures.same c.write_down.ensures.few refl in
    IsWhole-taken _ _ _ _ _ _ _ c.self.inside.berths _ more.1 more.0 c.in_ok-write_down.ensures.ok c.requires.unknown c.requires.free
    c.take.ensures.bits c.take.ensures.length c.in_ok-insert.ensures.updates

pub returns-clause-value : goal.returns-clause-value
returns-clause-value c =
    let more = IsWhole-more _ _ _ _ _ _ _ c.self.inside.berths c.self.inside.berths c.self.invariant c.self.view_is c.requires.free
    c.in_ok-make_room.ensures.ok c.make_room.ensures.longer c.make_room.ensures.bits c.write_down.ensures.same c.write_down.ensures.few refl in
    c.note.ensures ∙ padded-slice_set _ _ _ _ _ more.0 c.in_ok-write_down.ensures.ok

pub note-requires : goal.note-requires
note-requires c =
    let position = free_berth-next _ _ _ _ _ _ c.self.invariant c.self.view_is c.requires.free in
    omega (arith, position.1, c.self.invariant.kept.few)
