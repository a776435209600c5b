use Rattle.std.proofs.Common.{arith, ◌∙◌, sym, subst, All, false, List, map}
use Rattle.std.proofs.lemmas.Grind.{common_steps}
use Rattle.header_words.specs.Passes.{Opening}
use Rattle.live_turns.specs.Ways.{Belongs, PassState}
use Rattle.live_turns.specs.Ends.{Disagrees, IsHandedBack, IsTornFrom}
use Rattle.live_threads.specs.Ends.{at_rest}
use Rattle.live_threads.proofs.Ends.{belong_states, holdings_again, no_wrong}
use Rattle.live_threads.proofs.live.Live.close_all.Goals as goal

pub close-requires-clause-belong : goal.close-requires-clause-belong
close-requires-clause-belong g c =
    subst (λ (o : Opening). All (λ (t : PassState). Belongs o false t.holding) c.take_apart.new.turns.items) (sym c.self.view_is)
    (belong_states c.args.self c.args.passes.items c.take_apart.new.turns.items c.take_apart.ensures.turns c.take_apart.ensures.rest c.requires.belong)

pub unreachable-requires : goal.unreachable-requires
unreachable-requires g c =
    no_wrong c.args.self c.self.inside.turns c.args.passes.items c.take_apart.new.turns.items _ c.in-Err-WrongPass.field-0 c.self.view_is c.take_apart.ensures.turns c.in-Err-WrongPass.field-0-is tt c.requires.each
    c.in-Err-WrongPass.ensures.fault

pub returns-in-Err-Memory-clause-back : goal.returns-in-Err-Memory-clause-back
returns-in-Err-Memory-clause-back g c =
    let back = subst (IsHandedBack c.self.inside.turns c.take_apart.new.turns.items) c.in-Err-Memory.field-0-is c.in-Err-Memory.ensures.back in
    (back.0 ∙ c.self.view_is, c.with_parkers-passes.ensures ∙ holdings_again c.args.passes.items c.take_apart.new.turns.items c.in-Err-Memory.turns.items c.take_apart.ensures.turns back.1)

pub returns-in-Err-Torn-clause-torn : goal.returns-in-Err-Torn-clause-torn
returns-in-Err-Torn-clause-torn g c =
    let torn = subst (IsTornFrom c.self.inside.turns g.L.Crew.monitors c.take_apart.new.turns.items) c.in-Err-Torn.field-0-is c.in-Err-Torn.ensures.torn in
    subst (λ (z : Opening). Disagrees z g.L.Crew.monitors (map at_rest c.args.passes.items)) c.self.view_is
    (subst (λ (ts : List PassState). Disagrees c.self.inside.turns g.L.Crew.monitors ts) c.take_apart.ensures.turns torn)

pub with_parkers-passes-requires-clause-len : goal.with_parkers-passes-requires-clause-len
with_parkers-passes-requires-clause-len g c = grind (arith, common_steps)

pub with_parkers-passes-requires-clause-room : goal.with_parkers-passes-requires-clause-room
with_parkers-passes-requires-clause-room g c = grind (arith, common_steps)
