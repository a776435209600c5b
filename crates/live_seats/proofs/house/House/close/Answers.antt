use Rattle.std.proofs.Common.{◌∙◌, subst}
use Rattle.header_words.specs.Passes.{Opening}
use Rattle.live_turns.specs.Ends.{IsHandedBack, TellsEnd, numbers_of}
use Rattle.live_turns.specs.Numbers.{HasEach}
use Rattle.live_seats.proofs.house.House.close.Goals as goal

pub returns-in-Err-WrongPass-clause-refused : goal.returns-in-Err-WrongPass-clause-refused
returns-in-Err-WrongPass-clause-refused g c =
    let kept : IsHandedBack c.self.inside.turns c.args.passes.items c.in-Err-WrongPass.field-0 = c.in-Err-WrongPass.ensures.back in
    let told : TellsEnd c.self.inside.turns.count c.args.passes.items c.in-Err-WrongPass.field-0 = c.in-Err-WrongPass.ensures.fault in
    let back = subst (IsHandedBack c.self.inside.turns c.args.passes.items) c.in-Err-WrongPass.field-0-is kept in
    let fault = subst (TellsEnd c.self.inside.turns.count c.args.passes.items) c.in-Err-WrongPass.field-0-is told in
    (back.0 ∙ c.self.view_is, back.1, subst (λ (z : Opening). HasEach z.count (numbers_of c.args.passes.items) → ⊥) c.self.view_is fault)
