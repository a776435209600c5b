use Rattle.std.proofs.lemmas.List.{with_items_is}
use Rattle.std.proofs.Common.{arith, ap, ◌∙◌, sym, length}
use Rattle.std.proofs.lemmas.Grind.{common_steps}
use Rattle.jls_check.specs.View.{machine_in}
use Rattle.jls_check.proofs.States.{length-put}
use Rattle.jls_check.proofs.Soundness.{put_sound_as, waited_there, room_there}
use Rattle.jls_check.proofs.machine.Machine.put.Goals as goal

pub count_waits-requires-clause-waited : goal.count_waits-requires-clause-waited
count_waits-requires-clause-waited c = rw (c.deref_mut.ensures.value, c.set-was.ensures.was) (waited_there (machine_in c.self.inside) c.args.thread c.self.invariant)

pub count_waits-requires-clause-room : goal.count_waits-requires-clause-room
count_waits-requires-clause-room c =
    rw (c.deref_mut.ensures.value, c.set-was.ensures.was) (room_there (machine_in c.self.inside) c.args.thread c.self.invariant
    (rw (c.count.ensures.count) at c.count.ensures.small) c.args.act (rw (← c.self.view_is) at c.requires.there))

pub invariant_of-self : goal.invariant_of-self
invariant_of-self c =
    let exact = rw (c.deref_mut.ensures.value, c.set-was.ensures.was) at c.count_waits.ensures in
    let long = ap length exact ∙ length-put (machine_in c.self.inside) c.args.thread c.args.flag c.args.act in
    let whole = sym (ap length c.deref_mut.ensures.value) ∙ c.deref_mut.ensures.len in
    rw (c.set-was.ensures.set, with_items_is c.self.inside.objects c.count_waits.new.objects (long ∙ whole)) (put_sound_as (machine_in c.self.inside) c.args.thread
    c.self.invariant c.args.flag c.args.act (rw (← c.self.view_is) at c.requires.there) (rw (← c.self.view_is) at c.requires.ends) c.count_waits.new.objects exact)

pub returns : goal.returns
returns c = grind (arith, common_steps)
