use Rattle.std.specs.Prelude.{◌≡◌, ◌<◌, ◌+◌, ℕ, Bool, length, true, false}
use Rattle.std.proofs.Common.{arith, rules, refl, ap, sym, ◌∙◌, subst}
use Rattle.fast_path.specs.declared.calls.MonitorCall.{MonitorCall}
use Rattle.fast_path.specs.declared.calls.Operation.{Operation}
use Rattle.fast_path.specs.declared.Next.TheVariants as next
use Rattle.fat_monitor.specs.declared.actions.Reply.TheVariants as reply
use Rattle.header_words.specs.Passes.{Opening, PassValue, depth_at}
use Rattle.step_core.specs.declared.places.Place.TheVariants.{Idle, InCall}
use Rattle.step_core.specs.declared.places.Stage.TheVariants.{Begun, Taking, Storing}
use Rattle.step_core.specs.declared.paths.Point.{Point}
use Rattle.step_core.specs.declared.paths.Point.TheVariants.{At, Said}
use Rattle.step_core.specs.Go.{entering}
use Rattle.live_turns.specs.Points.{Knows}
use Rattle.live_turns.specs.Ways.{Belongs, Holding, PassState, VisitsBook, Went}
use Rattle.live_turns.proofs.Going.{went_then}
use Rattle.live_turns.proofs.Words.{cas_fact, free_depth, bind_depth, first_way}
use Rattle.live_turns.proofs.turns.Turns.start_on.Goals as goal

-- the object is one of the service
there : (o objects : ℕ) (z w : Opening) → o < objects → objects ≡ length z.lows → z ≡ w → o < length w.lows
there o objects z w lt is same = subst (λ (v : Opening). o < length v.lows) same (subst (λ (n : ℕ). o < n) is lt)

two_visits : (p q r : PassValue) → VisitsBook 0 p q → VisitsBook 0 q r → VisitsBook 0 p r
two_visits p q r a b = omega arith

-- what a pass knows that has met another thread
knows_begun : (z : Opening) (gate : Bool) (p : Holding) (s : Point) (c : MonitorCall) (k : Bool) → s ≡ At (InCall (Begun c k)) → Belongs z gate p → c.object.0 < length z.lows → Knows s p
knows_begun z gate p s c k is belongs lt = subst (λ (t : Point). Knows t p) (sym is) (subst (λ (w : Opening). c.object.0 < length w.lows) (sym belongs.0) lt)

knows_idle : (p : Holding) (s : Point) → s ≡ At Idle → Knows s p
knows_idle p s is = subst (λ (t : Point). Knows t p) (sym is) tt

pub load-lock-requires : goal.load-lock-requires
load-lock-requires g c = record {
  belongs = subst (λ (p : PassState). Belongs c.args.self.now false p.holding) (sym c.pass.view_is) c.requires.belongs;
  object = there c.args.call.object.0 c.self.inside.objects c.self.inside.headers c.args.self.now c.if-object-self.false c.self.invariant.0 c.self.view_is;
}

pub store-requires-clause-belongs : goal.store-requires-clause-belongs
store-requires-clause-belongs g c = c.load-lock.ensures.belongs

pub store-requires-clause-object : goal.store-requires-clause-object
store-requires-clause-object g c = there c.args.call.object.0 c.self.inside.objects c.self.inside.headers c.args.self.now c.if-object-self.false c.self.invariant.0 c.self.view_is

pub store-requires-clause-thin : goal.store-requires-clause-thin
store-requires-clause-thin g c = c.load-lock.ensures.thin

pub store-requires-clause-fits : goal.store-requires-clause-fits
store-requires-clause-fits g c = c.load-lock.ensures.fits

pub store-requires-clause-calls : goal.store-requires-clause-calls
store-requires-clause-calls g c = rw (← c.index.ensures) (sym c.next.ensures ∙ c.in-Store.is)

pub exchange-requires-clause-belongs : goal.exchange-requires-clause-belongs
exchange-requires-clause-belongs g c = c.load-lock.ensures.belongs

pub exchange-requires-clause-object : goal.exchange-requires-clause-object
exchange-requires-clause-object g c = there c.args.call.object.0 c.self.inside.objects c.self.inside.headers c.args.self.now c.if-object-self.false c.self.invariant.0 c.self.view_is

pub exchange-requires-clause-free : goal.exchange-requires-clause-free
exchange-requires-clause-free g c =
    free_depth c.load-lock.new.hand.words.index (depth_at c.load-lock.new.hand.words c.args.call.object.0) c.load-lock.result c.load-lock.ensures.thin
    (cas_fact c.args.call.operation c.load-lock.result c.in-Cas.field-0 c.index.result (sym c.next.ensures ∙ c.in-Cas.is)).0

pub returns-then-exchange-clause-went : goal.returns-then-exchange-clause-went
returns-then-exchange-clause-went g c =
    rw (← c.pass.view_is) (went_then (At (InCall (Begun c.args.call false))) (At (InCall (Taking c.args.call.object false))) (Said reply.Entered) c.pass.inside.hand c.load-lock.new.hand c.exchange.new.hand
    (first_way c.args.call false c.load-lock.result (next.Cas c.in-Cas.field-0) c.index.result c.pass.inside.hand c.load-lock.new.hand (c.load-lock.ensures.went c.args.call false refl) c.index.ensures c.load-lock.ensures.index (sym c.in-Cas.is ∙ c.next.ensures))
    c.if-exchange.ensures.won)

pub returns-else-exchange-clause-went : goal.returns-else-exchange-clause-went
returns-else-exchange-clause-went g c =
    rw (← c.pass.view_is) (subst (λ (s : Point). Went (At (InCall (Begun c.args.call false))) s c.pass.inside.hand c.exchange.new.hand) (sym (c.stay_contended.ensures
    ∙ ap (λ (p : Operation). At (InCall (Begun (record { object = c.args.call.object; operation = p }) true)))
    (cas_fact c.args.call.operation c.load-lock.result c.in-Cas.field-0 c.index.result (sym c.next.ensures ∙ c.in-Cas.is)).1))
    (went_then (At (InCall (Begun c.args.call false))) (At (InCall (Taking c.args.call.object false))) (At (InCall (Begun (entering c.args.call.object) true))) c.pass.inside.hand c.load-lock.new.hand c.exchange.new.hand
    (first_way c.args.call false c.load-lock.result (next.Cas c.in-Cas.field-0) c.index.result c.pass.inside.hand c.load-lock.new.hand (c.load-lock.ensures.went c.args.call false refl) c.index.ensures c.load-lock.ensures.index (sym c.in-Cas.is ∙ c.next.ensures))
    c.if-exchange.ensures.lost))

pub invariant_of-pass-in-Bind : goal.invariant_of-pass-in-Bind
invariant_of-pass-in-Bind g c =
    let holds : depth_at c.load-lock.new.hand.words c.args.call.object.0 ≡ c.count.result + 1 = rw c.count.ensures (bind_depth c.args.call.operation c.load-lock.result c.load-lock.new.hand.words.index (depth_at c.load-lock.new.hand.words c.args.call.object.0)
    (rw (← c.index.ensures) (sym c.next.ensures ∙ c.in-Bind.is)) c.load-lock.ensures.thin) in
    subst (λ (s : Point). Knows s c.load-lock.new.hand) (sym c.stay_binding.ensures) (search rules, holds, search rules)

pub returns-in-Reply-clause-went : goal.returns-in-Reply-clause-went
returns-in-Reply-clause-went g c =
    rw (← c.pass.view_is) (first_way c.args.call false c.load-lock.result (next.Reply c.in-Reply.reply) c.index.result c.pass.inside.hand c.load-lock.new.hand (c.load-lock.ensures.went c.args.call false refl) c.index.ensures c.load-lock.ensures.index (sym c.in-Reply.is ∙ c.next.ensures))

pub returns-in-Store-clause-went : goal.returns-in-Store-clause-went
returns-in-Store-clause-went g c =
    rw (← c.pass.view_is) (went_then (At (InCall (Begun c.args.call false))) (At (InCall (Storing c.args.call c.in-Store.new))) (Said c.store.result) c.pass.inside.hand c.load-lock.new.hand c.store.new.hand
    (first_way c.args.call false c.load-lock.result (next.Store c.in-Store.new) c.index.result c.pass.inside.hand c.load-lock.new.hand (c.load-lock.ensures.went c.args.call false refl) c.index.ensures c.load-lock.ensures.index (sym c.in-Store.is ∙ c.next.ensures))
    c.store.ensures.went)

pub returns-in-Spin-clause-went : goal.returns-in-Spin-clause-went
returns-in-Spin-clause-went g c =
    rw (← c.pass.view_is) (subst (λ (s : Point). Went (At (InCall (Begun c.args.call false))) s c.pass.inside.hand c.load-lock.new.hand) (sym c.stay_contended-in-Spin.ensures)
    (first_way c.args.call false c.load-lock.result next.Spin c.index.result c.pass.inside.hand c.load-lock.new.hand (c.load-lock.ensures.went c.args.call false refl) c.index.ensures c.load-lock.ensures.index (sym c.in-Spin.is ∙ c.next.ensures)))

pub returns-in-Bind-clause-went : goal.returns-in-Bind-clause-went
returns-in-Bind-clause-went g c =
    rw (← c.pass.view_is) (subst (λ (s : Point). Went (At (InCall (Begun c.args.call false))) s c.pass.inside.hand c.load-lock.new.hand) (sym c.stay_binding.ensures)
    (rw c.count.ensures (first_way c.args.call false c.load-lock.result next.Bind c.index.result c.pass.inside.hand c.load-lock.new.hand (c.load-lock.ensures.went c.args.call false refl) c.index.ensures c.load-lock.ensures.index (sym c.in-Bind.is ∙ c.next.ensures))))

pub returns-in-Fat-clause-went : goal.returns-in-Fat-clause-went
returns-in-Fat-clause-went g c =
    rw (← c.pass.view_is) (subst (λ (s : Point). Went (At (InCall (Begun c.args.call false))) s c.pass.inside.hand c.load-lock.new.hand) (sym c.stay_acting.ensures)
    (first_way c.args.call false c.load-lock.result (next.Fat c.in-Fat.monitor) c.index.result c.pass.inside.hand c.load-lock.new.hand (c.load-lock.ensures.went c.args.call false refl) c.index.ensures c.load-lock.ensures.index (sym c.in-Fat.is ∙ c.next.ensures)))

pub returns-in-Reply-clause-belongs : goal.returns-in-Reply-clause-belongs
returns-in-Reply-clause-belongs g c = c.load-lock.ensures.belongs

pub returns-in-Reply-clause-rests : goal.returns-in-Reply-clause-rests
returns-in-Reply-clause-rests g c = ap (λ (p : PassState). p.point) c.pass.view_is ∙ c.requires.idle

pub returns-in-Reply-clause-there : goal.returns-in-Reply-clause-there
returns-in-Reply-clause-there g c = there c.args.call.object.0 c.self.inside.objects c.self.inside.headers c.args.self.now c.if-object-self.false c.self.invariant.0 c.self.view_is

pub returns-in-Reply-clause-fault : goal.returns-in-Reply-clause-fault
returns-in-Reply-clause-fault g c = tt

pub returns-in-Reply-clause-did : goal.returns-in-Reply-clause-did
returns-in-Reply-clause-did g c =
    subst (λ (p : PassState). VisitsBook 0 p.holding.words c.load-lock.new.hand.words) c.pass.view_is c.load-lock.ensures.visit

pub returns-in-Store-clause-belongs : goal.returns-in-Store-clause-belongs
returns-in-Store-clause-belongs g c = c.store.ensures.belongs

pub returns-in-Store-clause-rests : goal.returns-in-Store-clause-rests
returns-in-Store-clause-rests g c = ap (λ (p : PassState). p.point) c.pass.view_is ∙ c.requires.idle

pub returns-in-Store-clause-there : goal.returns-in-Store-clause-there
returns-in-Store-clause-there g c = there c.args.call.object.0 c.self.inside.objects c.self.inside.headers c.args.self.now c.if-object-self.false c.self.invariant.0 c.self.view_is

pub returns-in-Store-clause-fault : goal.returns-in-Store-clause-fault
returns-in-Store-clause-fault g c = tt

pub returns-in-Store-clause-did : goal.returns-in-Store-clause-did
returns-in-Store-clause-did g c =
    subst (λ (p : PassState). VisitsBook 0 p.holding.words c.store.new.hand.words) c.pass.view_is (two_visits c.pass.inside.hand.words c.load-lock.new.hand.words c.store.new.hand.words c.load-lock.ensures.visit c.store.ensures.visit)

pub invariant_of-pass-in-Store : goal.invariant_of-pass-in-Store
invariant_of-pass-in-Store g c = knows_idle c.store.new.hand c.pass.inside.point (ap (λ (p : PassState). p.point) c.pass.view_is ∙ c.requires.idle)

pub returns-then-exchange-clause-belongs : goal.returns-then-exchange-clause-belongs
returns-then-exchange-clause-belongs g c = c.exchange.ensures.belongs

pub returns-then-exchange-clause-rests : goal.returns-then-exchange-clause-rests
returns-then-exchange-clause-rests g c = ap (λ (p : PassState). p.point) c.pass.view_is ∙ c.requires.idle

pub returns-then-exchange-clause-there : goal.returns-then-exchange-clause-there
returns-then-exchange-clause-there g c = there c.args.call.object.0 c.self.inside.objects c.self.inside.headers c.args.self.now c.if-object-self.false c.self.invariant.0 c.self.view_is

pub returns-then-exchange-clause-fault : goal.returns-then-exchange-clause-fault
returns-then-exchange-clause-fault g c = tt

pub returns-then-exchange-clause-did : goal.returns-then-exchange-clause-did
returns-then-exchange-clause-did g c =
    subst (λ (p : PassState). VisitsBook 0 p.holding.words c.exchange.new.hand.words) c.pass.view_is (two_visits c.pass.inside.hand.words c.load-lock.new.hand.words c.exchange.new.hand.words c.load-lock.ensures.visit c.exchange.ensures.visit)

pub invariant_of-pass-then-exchange : goal.invariant_of-pass-then-exchange
invariant_of-pass-then-exchange g c = knows_idle c.exchange.new.hand c.pass.inside.point (ap (λ (p : PassState). p.point) c.pass.view_is ∙ c.requires.idle)

pub returns-else-exchange-clause-belongs : goal.returns-else-exchange-clause-belongs
returns-else-exchange-clause-belongs g c = c.exchange.ensures.belongs

pub returns-else-exchange-clause-rests : goal.returns-else-exchange-clause-rests
returns-else-exchange-clause-rests g c = (_, c.stay_contended.ensures)

pub returns-else-exchange-clause-there : goal.returns-else-exchange-clause-there
returns-else-exchange-clause-there g c = there c.args.call.object.0 c.self.inside.objects c.self.inside.headers c.args.self.now c.if-object-self.false c.self.invariant.0 c.self.view_is

pub returns-else-exchange-clause-fault : goal.returns-else-exchange-clause-fault
returns-else-exchange-clause-fault g c = tt

pub returns-else-exchange-clause-did : goal.returns-else-exchange-clause-did
returns-else-exchange-clause-did g c =
    subst (λ (p : PassState). VisitsBook 0 p.holding.words c.exchange.new.hand.words) c.pass.view_is (two_visits c.pass.inside.hand.words c.load-lock.new.hand.words c.exchange.new.hand.words c.load-lock.ensures.visit c.exchange.ensures.visit)

pub invariant_of-pass-in-Cas : goal.invariant_of-pass-in-Cas
invariant_of-pass-in-Cas g c =
    knows_begun c.args.self.now false c.exchange.new.hand c.stay_contended.new.point c.args.call true c.stay_contended.ensures c.exchange.ensures.belongs (there c.args.call.object.0 c.self.inside.objects c.self.inside.headers c.args.self.now c.if-object-self.false c.self.invariant.0 c.self.view_is)

pub returns-in-Spin-clause-belongs : goal.returns-in-Spin-clause-belongs
returns-in-Spin-clause-belongs g c = c.load-lock.ensures.belongs

pub returns-in-Spin-clause-rests : goal.returns-in-Spin-clause-rests
returns-in-Spin-clause-rests g c = (_, c.stay_contended-in-Spin.ensures)

pub returns-in-Spin-clause-there : goal.returns-in-Spin-clause-there
returns-in-Spin-clause-there g c = there c.args.call.object.0 c.self.inside.objects c.self.inside.headers c.args.self.now c.if-object-self.false c.self.invariant.0 c.self.view_is

pub returns-in-Spin-clause-fault : goal.returns-in-Spin-clause-fault
returns-in-Spin-clause-fault g c = tt

pub returns-in-Spin-clause-did : goal.returns-in-Spin-clause-did
returns-in-Spin-clause-did g c =
    subst (λ (p : PassState). VisitsBook 0 p.holding.words c.load-lock.new.hand.words) c.pass.view_is c.load-lock.ensures.visit

pub invariant_of-pass-in-Spin : goal.invariant_of-pass-in-Spin
invariant_of-pass-in-Spin g c =
    knows_begun c.args.self.now false c.load-lock.new.hand c.stay_contended-in-Spin.new.point c.args.call true c.stay_contended-in-Spin.ensures c.load-lock.ensures.belongs (there c.args.call.object.0 c.self.inside.objects c.self.inside.headers c.args.self.now c.if-object-self.false c.self.invariant.0 c.self.view_is)

pub returns-in-Bind-clause-belongs : goal.returns-in-Bind-clause-belongs
returns-in-Bind-clause-belongs g c = c.load-lock.ensures.belongs

pub returns-in-Bind-clause-rests : goal.returns-in-Bind-clause-rests
returns-in-Bind-clause-rests g c = (_, c.stay_binding.ensures)

pub returns-in-Bind-clause-there : goal.returns-in-Bind-clause-there
returns-in-Bind-clause-there g c = there c.args.call.object.0 c.self.inside.objects c.self.inside.headers c.args.self.now c.if-object-self.false c.self.invariant.0 c.self.view_is

pub returns-in-Bind-clause-fault : goal.returns-in-Bind-clause-fault
returns-in-Bind-clause-fault g c = tt

pub returns-in-Bind-clause-did : goal.returns-in-Bind-clause-did
returns-in-Bind-clause-did g c =
    subst (λ (p : PassState). VisitsBook 0 p.holding.words c.load-lock.new.hand.words) c.pass.view_is c.load-lock.ensures.visit

pub returns-in-Fat-clause-belongs : goal.returns-in-Fat-clause-belongs
returns-in-Fat-clause-belongs g c = c.load-lock.ensures.belongs

pub returns-in-Fat-clause-rests : goal.returns-in-Fat-clause-rests
returns-in-Fat-clause-rests g c = (_, c.stay_acting.ensures)

pub returns-in-Fat-clause-there : goal.returns-in-Fat-clause-there
returns-in-Fat-clause-there g c = there c.args.call.object.0 c.self.inside.objects c.self.inside.headers c.args.self.now c.if-object-self.false c.self.invariant.0 c.self.view_is

pub returns-in-Fat-clause-fault : goal.returns-in-Fat-clause-fault
returns-in-Fat-clause-fault g c = tt

pub returns-in-Fat-clause-did : goal.returns-in-Fat-clause-did
returns-in-Fat-clause-did g c =
    subst (λ (p : PassState). VisitsBook 0 p.holding.words c.load-lock.new.hand.words) c.pass.view_is c.load-lock.ensures.visit
