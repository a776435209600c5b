use Rattle.std.proofs.Common.{◌∙◌, ap, sym, subst, map, All, false}
use Rattle.header_words.specs.Passes.{Opening}
use Rattle.live_turns.specs.Ways.{PassState, Belongs}
use Rattle.live_seats.specs.Ends.{thread_of}
use Rattle.live_seats.specs.Unclosed.{IsToldOf, IsRefused}
use Rattle.live_seats.proofs.Finishing.{house_is, last_is, all_are, all_belong, end_moves, tear_moves, told_stays, rest_belongs}
use Rattle.live_seats.proofs.closing.close_house.Goals as goal

pub close-requires-clause-belong : goal.close-requires-clause-belong
close-requires-clause-belong g c =
    let more = c.take-2.ensures.more in
    let same = house_is c.take.result c.args.home.now c.in-Some.house c.args.pass.holding.words.opening c.take.ensures.value c.in-Some.is c.requires.there in
    let all = all_are c.args.rest.items more.0 _ _ c.args.pass more.1 c.push_reserved.ensures.items in
    all_belong c.in-Some.house c.args.rest.items more.0 c.push_reserved.new.self.items c.args.pass all
    (subst (λ (z : Opening). All (λ (p : PassState). Belongs z false p.holding) c.args.rest.items) (sym same) c.requires.all) more.2 (sym same, c.requires.gate)

pub returns-in-Ok-clause-end : goal.returns-in-Ok-clause-end
returns-in-Ok-clause-end g c =
    let more = c.take-2.ensures.more in
    let same = house_is c.take.result c.args.home.now c.in-Some.house c.args.pass.holding.words.opening c.take.ensures.value c.in-Some.is c.requires.there in
    let all = all_are c.args.rest.items more.0 _ _ c.args.pass more.1 c.push_reserved.ensures.items in
    let ends = end_moves g.L.Crew.monitors c.in-Ok.closed c.note_threads.new.threads.items c.in-Some.house c.args.pass.holding.words.opening c.push_reserved.new.self.items _ same all
    (c.in-Ok.ensures.each, c.in-Ok.ensures.end, c.note_threads.ensures ∙ ap (map thread_of) c.as_slice.ensures.value) in
    (more.0, ends.0, ends.1, ends.2)

pub returns-in-Some-pop-clause-waits : goal.returns-in-Some-pop-clause-waits
returns-in-Some-pop-clause-waits g c =
    let more = c.take-2.ensures.more in
    let same = house_is c.take.result c.args.home.now c.in-Some.house c.args.pass.holding.words.opening c.take.ensures.value c.in-Some.is c.requires.there in
    let all = all_are c.args.rest.items more.0 _ _ c.args.pass more.1 c.push_reserved.ensures.items in
    let refused = subst (IsRefused c.in-Some.house g.L.Crew.monitors c.push_reserved.new.self.items) c.in-Err-Back.field-0-is c.in-Err-Back.ensures.refused in
    let popped = sym refused.1 ∙ c.in-Some-pop.ensures.items in (
      sym (last_is _ _ _ _ (sym all ∙ popped)).1,
      told_stays c.in-Err-Back.told c.args.pass.holding.words.opening.count c.args.rest.items more.0 c.push_reserved.new.self.items c.pop.new.self.items c.args.pass c.in-Some-pop.pass all popped
          (subst (λ (z : Opening). IsToldOf c.in-Err-Back.told z.count c.push_reserved.new.self.items) same refused.2),
      rest_belongs c.args.pass.holding.words.opening c.args.rest.items more.0 c.pop.new.self.items c.args.pass c.in-Some-pop.pass (sym popped ∙ all) c.requires.all
          (subst (λ (z : Opening). All (λ (p : PassState). Belongs z false p.holding) more.0) same more.2),
    )

pub returns-in-Err-Torn-clause-waits : goal.returns-in-Err-Torn-clause-waits
returns-in-Err-Torn-clause-waits g c =
    let more = c.take-2.ensures.more in
    let same = house_is c.take.result c.args.home.now c.in-Some.house c.args.pass.holding.words.opening c.take.ensures.value c.in-Some.is c.requires.there in
    let all = all_are c.args.rest.items more.0 _ _ c.args.pass more.1 c.push_reserved.ensures.items in
    let torn = tear_moves g.L.Crew.monitors c.in-Some.house c.args.pass.holding.words.opening c.push_reserved.new.self.items _ same all
    (subst (IsRefused c.in-Some.house g.L.Crew.monitors c.push_reserved.new.self.items) c.in-Err-Torn.field-0-is c.in-Err-Torn.ensures.refused) in
    (more.0, torn.0, torn.1)
