use Rattle.std.proofs.Common.{◌≡◌, ◌∙◌, sym, ap}
use Rattle.header_words.specs.Passes.{Opening}
use Rattle.live_turns.specs.Numbers.{HasEach}
use Rattle.live_turns.proofs.Ends.{ok_always}
use Rattle.live_threads.specs.Ends.{numbers_of}
use Rattle.live_threads.proofs.Ends.{each_at}
use Rattle.live_threads.proofs.live.Live.close.Goals as goal

pub returns-then-not-has_each-clause-fault : goal.returns-then-not-has_each-clause-fault
returns-then-not-has_each-clause-fault g c = λ each.
    let count : c.passes.result ≡ c.args.self.count = c.passes.ensures ∙ ap (λ (o : Opening). o.count) c.self.view_is in
    c.has_each.ensures.missing c.if-not-has_each.true (each_at c.args.self.count c.passes.result c.args.passes.items c.deref.result.now (sym count) (sym c.deref.ensures.value) each)

pub returns-in_default-clause-fault : goal.returns-in_default-clause-fault
returns-in_default-clause-fault g c =
    let count : c.passes.result ≡ c.args.self.count = c.passes.ensures ∙ ap (λ (o : Opening). o.count) c.self.view_is in
    each_at c.passes.result c.args.self.count c.deref.result.now c.args.passes.items count c.deref.ensures.value (c.has_each.ensures.found c.if-not-has_each.false)

pub close_all-requires-clause-each : goal.close_all-requires-clause-each
close_all-requires-clause-each g c =
    let count : c.passes.result ≡ c.args.self.count = c.passes.ensures ∙ ap (λ (o : Opening). o.count) c.self.view_is in
    each_at c.passes.result c.args.self.count c.deref.result.now c.args.passes.items count c.deref.ensures.value (c.has_each.ensures.found c.if-not-has_each.false)

pub returns-clause-all : goal.returns-clause-all
returns-clause-all g c =
    let count : c.passes.result ≡ c.args.self.count = c.passes.ensures ∙ ap (λ (o : Opening). o.count) c.self.view_is in
    ok_always (HasEach c.args.self.count (numbers_of c.args.passes.items)) c.close_all.result
    (each_at c.passes.result c.args.self.count c.deref.result.now c.args.passes.items count c.deref.ensures.value (c.has_each.ensures.found c.if-not-has_each.false))
