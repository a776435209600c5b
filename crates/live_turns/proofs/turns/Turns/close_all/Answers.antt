use Rattle.std.proofs.Common.{ap, List, map, length, ◌∙◌, sym, subst, All, false, ◌≡◌}
use Rattle.header_words.specs.Passes.{PassValue, Opening}
use Rattle.header_words.specs.Faults.{IsHandedBack}
use Rattle.live_turns.specs.Ends.{IsEnd, count_of, words_of}
use Rattle.live_turns.specs.Ways.{PassState}
use Rattle.live_turns.proofs.Ends.{all_there, belong_words, without_words, no_wrong, both_ok, end_of, torn_ends, torn_from}
use Rattle.live_turns.proofs.turns.Turns.close_all.Goals as goal

pub close-requires-clause-belong : goal.close-requires-clause-belong
close-requires-clause-belong g c =
    subst (λ (o : Opening). All (λ (p : PassValue). p.opening ≡ o) c.take_apart.new.words.items) (sym c.self.view_is)
    (subst (All (λ (p : PassValue). p.opening ≡ c.args.self)) (sym c.take_apart.ensures.words) (belong_words c.args.self c.args.passes.items c.requires.belong))

pub close-requires-clause-without : goal.close-requires-clause-without
close-requires-clause-without g c = subst (All (λ (p : PassValue). p.has_gate ≡ false)) (sym c.take_apart.ensures.words) (without_words c.args.self c.args.passes.items c.requires.belong)

pub unreachable-requires : goal.unreachable-requires
unreachable-requires g c =
    no_wrong c.args.self c.self.inside.headers c.args.passes.items c.take_apart.new.words.items _ c.in-Err-WrongPass.field-0 c.self.view_is c.take_apart.ensures.words c.in-Err-WrongPass.field-0-is tt c.requires.each
    c.in-Err-WrongPass.ensures.fault

pub returns-in-Ok-clause-end : goal.returns-in-Ok-clause-end
returns-in-Ok-clause-end g c =
    both_ok _ _ (IsEnd c.args.self g.L.Crew.monitors c.args.passes.items) c.end.result c.end.ensures.end c.end.ensures.replays
    (λ x end replays. end_of c.args.self c.self.inside.headers g.L.Crew.monitors c.args.passes.items c.take_apart.new.rests.items c.take_apart.new.words.items c.in-Ok.words c.args.counts c.into_inner.result.book x
    c.self.view_is c.take_apart.ensures.words c.take_apart.ensures.rests (c.into_inner.result.passes ∙ c.requires.crew.1) c.into_inner.result.monitors (rw c.into_inner.ensures c.in-Ok.ensures.words) c.requires.counts end replays)

pub returns-in-Ok-clause-fault : goal.returns-in-Ok-clause-fault
returns-in-Ok-clause-fault g c = torn_ends c.args.self.count c.args.passes.items c.end.result c.requires.each c.end.ensures.torn

pub returns-in-Ok-clause-torn : goal.returns-in-Ok-clause-torn
returns-in-Ok-clause-torn g c =
    torn_from c.args.self g.L.Crew.monitors c.args.passes.items c.take_apart.new.rests.items c.into_inner.result.book c.end.result c.take_apart.ensures.rests (c.into_inner.result.passes ∙ c.requires.crew.1)
    c.into_inner.result.monitors c.end.ensures.other c.end.ensures.told c.end.ensures.total c.end.ensures.torn

pub end-requires-clause-parts : goal.end-requires-clause-parts
end-requires-clause-parts g c = all_there c.args.self.count g.L.Ledger.parts c.args.passes.items c.take_apart.new.rests.items c.take_apart.ensures.rests c.requires.each c.requires.crew.0

pub end-requires-clause-counts : goal.end-requires-clause-counts
end-requires-clause-counts g c = c.requires.counts ∙ sym (ap (λ (ps : List PassState). map count_of ps) c.take_apart.ensures.rests)

pub take_apart-requires-clause-room : goal.take_apart-requires-clause-room
take_apart-requires-clause-room g c = c.requires.room.0

pub take_apart-requires-clause-space : goal.take_apart-requires-clause-space
take_apart-requires-clause-space g c = c.requires.room.1

pub take_apart-requires-clause-none : goal.take_apart-requires-clause-none
take_apart-requires-clause-none g c = c.requires.none

pub put_together-requires-clause-same : goal.put_together-requires-clause-same
put_together-requires-clause-same g c =
    let back = subst (IsHandedBack c.self.inside.headers c.take_apart.new.words.items) c.in-Err-Memory.field-0-is c.in-Err-Memory.ensures.back in
    back.1 ∙ (c.take_apart.ensures.words ∙ sym (ap (λ (ps : List PassState). map words_of ps) c.take_apart.ensures.rests))

pub put_together-requires-clause-none : goal.put_together-requires-clause-none
put_together-requires-clause-none g c = c.take_apart.ensures.empty

pub put_together-requires-clause-room : goal.put_together-requires-clause-room
put_together-requires-clause-room g c = rw c.take_apart.ensures.rests c.take_apart.ensures.room

pub invariant_of-turns : goal.invariant_of-turns
invariant_of-turns g c =
    let back = subst (IsHandedBack c.self.inside.headers c.take_apart.new.words.items) c.in-Err-Memory.field-0-is c.in-Err-Memory.ensures.back in
    subst (λ (z : Opening). (c.self.inside.objects ≡ length z.lows) × (c.self.inside.passes ≡ z.count)) (sym back.0) c.self.invariant

pub returns-in-Err-Memory-clause-end : goal.returns-in-Err-Memory-clause-end
returns-in-Err-Memory-clause-end g c = tt

pub returns-in-Err-Memory-clause-fault : goal.returns-in-Err-Memory-clause-fault
returns-in-Err-Memory-clause-fault g c = c.requires.each

pub returns-in-Err-Memory-clause-torn : goal.returns-in-Err-Memory-clause-torn
returns-in-Err-Memory-clause-torn g c = tt

pub returns-in-Err-Memory-clause-back : goal.returns-in-Err-Memory-clause-back
returns-in-Err-Memory-clause-back g c =
    let back = subst (IsHandedBack c.self.inside.headers c.take_apart.new.words.items) c.in-Err-Memory.field-0-is c.in-Err-Memory.ensures.back in
    (back.0 ∙ c.self.view_is, c.put_together.ensures ∙ c.take_apart.ensures.rests)
