use Rattle.std.proofs.Common.{arith, subst, sym}
use Rattle.jls_check.specs.MachineState.{IsSound}
use Rattle.jls_check.specs.View.{machine_in}
use Rattle.jls_check.proofs.Soundness.{few_gained_as, owner_there_as, written_sound_as, held_sound}
use Rattle.jls_check.proofs.SameOwner.{owner_stays}
use Rattle.jls_check.proofs.machine.Machine.hold.Goals as goal

pub lose-requires : goal.lose-requires
lose-requires c =
    let there = rw (c.len.ensures) at c.if-position-len.false in
    let long = c.self.inside.objects.ok in
    owner_there_as (machine_in c.self.inside) c.self.invariant c.args.object (omega (arith, there, long)) c.index.result.now c.index.ensures

pub gain-requires : goal.gain-requires
gain-requires c =
    let there = rw (c.len.ensures) at c.if-position-len.false in
    let long = c.self.inside.objects.ok in
    few_gained_as (machine_in c.self.inside) c.args.object c.args.held.owner c.self.invariant (omega (arith, there, long)) c.index.result.now c.index.ensures c.lose.new.self c.lose.ensures

pub invariant_of-self-2 : goal.invariant_of-self-2
invariant_of-self-2 c =
    let there = rw (c.len.ensures) at c.if-position-len.false in
    let long = c.self.inside.objects.ok in
    written_sound_as (machine_in c.self.inside) c.args.object c.args.held c.self.invariant (rw (← c.self.view_is) at c.requires) (omega (arith, there, long))
    c.index.result.now c.index_mut.result.now c.index.ensures c.index_mut.ensures.value c.gain.new.self (rw (c.lose.ensures) at c.gain.ensures)

pub invariant_of-self : goal.invariant_of-self
invariant_of-self c =
    let there = rw (c.len.ensures) at c.if-position-len.false in
    let long = c.self.inside.objects.ok in
    subst IsSound (sym (owner_stays (machine_in c.self.inside) c.args.object c.args.held c.self.invariant (omega (arith, there, long))
    c.index.result.now c.index_mut.result.now c.index.ensures c.index_mut.ensures.value (c.is_same_owner.ensures.0 c.if-is_same_owner.true)))
    (held_sound (machine_in c.self.inside) c.args.object c.args.held c.self.invariant (rw (← c.self.view_is) at c.requires))

pub returns-then-is_same_owner : goal.returns-then-is_same_owner
returns-then-is_same_owner c =
    let there = rw (c.len.ensures) at c.if-position-len.false in
    let long = c.self.inside.objects.ok in
    rw (← c.self.view_is) (owner_stays (machine_in c.self.inside) c.args.object c.args.held c.self.invariant (omega (arith, there, long))
    c.index.result.now c.index_mut.result.now c.index.ensures c.index_mut.ensures.value (c.is_same_owner.ensures.0 c.if-is_same_owner.true))
