use Rattle.std.proofs.Common.{IsSome, ap, sym, ◌∙◌, refl, subst, length}
use Rattle.std.proofs.lemmas.Option.{slice_get_read}
use Rattle.std.specs.Option.{option_copied_mut}
use Rattle.jls_check.proofs.slots.follow.Goals as goal

pub returns : goal.returns
returns c =
    let there = slice_get_read c.args.slots.now (length c.args.slots.now) c.args.position c.in-Some.slot.now refl c.in-Some.ensures.lookup.3.0 c.in-Some.ensures.lookup.1 in
    let value = sym (ap option_copied_mut c.in-Some-get_mut.is) ∙ c.get_mut.ensures.value in
    rw (there) ((c.get_mut.follows.holds c.args.position).3 (subst IsSome value refl))
