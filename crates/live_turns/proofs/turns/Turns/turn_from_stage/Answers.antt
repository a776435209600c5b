use Rattle.std.specs.Prelude.{◌≡◌, ◌<◌, Bool, ℕ, length, Ok}
use Rattle.std.proofs.Common.{refl, sym, subst}
use Rattle.lock_word.specs.declared.ObjectId.{ObjectId}
use Rattle.fast_path.specs.declared.calls.MonitorCall.{MonitorCall}
use Rattle.fast_path.specs.declared.calls.InterruptCall.{InterruptCall}
use Rattle.header_words.specs.Passes.{Opening}
use Rattle.step_core.specs.declared.places.Place.TheVariants.{InCall}
use Rattle.step_core.specs.declared.places.Stage.{Stage}
use Rattle.step_core.specs.declared.places.Stage.TheVariants.{Begun, Taking, Storing, Binding, Acting, Won, Bound, Inflated, Direct}
use Rattle.step_core.specs.declared.paths.Point.TheVariants.{At}
use Rattle.live_turns.specs.Points.{IsTurnFrom, KnowsStage}
use Rattle.live_turns.specs.Ways.{Holding}
use Rattle.live_turns.proofs.turns.Turns.turn_from_stage.Goals as goal

-- a call rests at no other stage
no_other : (s : Stage) (p : Holding) → KnowsStage s p → ((c : MonitorCall) (k : Bool) → s ≡ Begun c k → ⊥) → ((c : MonitorCall) (n : ℕ) → s ≡ Binding c n → ⊥)
    → ((c : MonitorCall) (m : ℕ) → s ≡ Acting c m → ⊥) → ((o : ObjectId) → s ≡ Won o → ⊥) → ((c : InterruptCall) → s ≡ Direct c → ⊥) → ⊥
no_other (Begun c k) p h begun binding acting won direct = begun c k refl
no_other (Taking o k) p h begun binding acting won direct = absurd h
no_other (Storing c l) p h begun binding acting won direct = absurd h
no_other (Binding c n) p h begun binding acting won direct = binding c n refl
no_other (Acting c m) p h begun binding acting won direct = acting c m refl
no_other (Won o) p h begun binding acting won direct = won o refl
no_other (Bound c k m) p h begun binding acting won direct = absurd h
no_other (Inflated c m) p h begun binding acting won direct = absurd h
no_other (Direct c) p h begun binding acting won direct = direct c refl

pub turn_from_load-requires : goal.turn_from_load-requires
turn_from_load-requires g c =
    let knows : KnowsStage (Begun c.in-Begun.call c.in-Begun.contended) c.args.hand.now = subst (λ (s : Stage). KnowsStage s c.args.hand.now) c.in-Begun.is c.requires.knows in
    record {
      belongs = c.requires.belongs;
      object = subst (λ (z : Opening). c.in-Begun.call.object.0 < length z.lows) c.requires.belongs.0 knows;
    }

pub turn_from_bind-requires : goal.turn_from_bind-requires
turn_from_bind-requires g c =
    let knows : KnowsStage (Binding c.in-Binding.call c.in-Binding.count) c.args.hand.now = subst (λ (s : Stage). KnowsStage s c.args.hand.now) c.in-Binding.is c.requires.knows in
    record {
      belongs = c.requires.belongs;
      object = subst (λ (z : Opening). c.in-Binding.call.object.0 < length z.lows) c.requires.belongs.0 knows.0;
      holds = knows.1;
      few = knows.2;
    }

pub turn_from_action_apart-requires : goal.turn_from_action_apart-requires
turn_from_action_apart-requires g c = record {
  belongs = c.requires.belongs;
  published = subst (λ (s : Stage). KnowsStage s c.args.hand.now) c.in-Acting.is c.requires.knows;
}

pub turn_from_won-requires : goal.turn_from_won-requires
turn_from_won-requires g c =
    let knows : KnowsStage (Won c.in-Won.object) c.args.hand.now = subst (λ (s : Stage). KnowsStage s c.args.hand.now) c.in-Won.is c.requires.knows in
    record {
      belongs = c.requires.belongs;
      object = subst (λ (z : Opening). c.in-Won.object.0 < length z.lows) c.requires.belongs.0 knows.0;
      holds = knows.1;
    }

pub turn_from_direct-requires : goal.turn_from_direct-requires
turn_from_direct-requires g c = record { belongs = c.requires.belongs }

pub unreachable-requires : goal.unreachable-requires
unreachable-requires g c =
    no_other c.args.stage c.args.hand.now c.requires.knows c.in_default.not-Begun c.in_default.not-Binding c.in_default.not-Acting c.in_default.not-Won c.in_default.not-Direct

pub returns-in-Begun : goal.returns-in-Begun
returns-in-Begun g c =
    subst (λ (s : Stage). IsTurnFrom c.args.self.now (At (InCall s)) c.turn_from_load.result c.args.hand.now c.turn_from_load.new.hand) (sym c.in-Begun.is) c.turn_from_load.ensures

pub returns-in-Binding : goal.returns-in-Binding
returns-in-Binding g c =
    subst (λ (s : Stage). IsTurnFrom c.args.self.now (At (InCall s)) c.turn_from_bind.result c.args.hand.now c.turn_from_bind.new.hand) (sym c.in-Binding.is) c.turn_from_bind.ensures

pub returns-in-Acting : goal.returns-in-Acting
returns-in-Acting g c =
    subst (λ (s : Stage). IsTurnFrom c.args.self.now (At (InCall s)) c.turn_from_action_apart.result c.args.hand.now c.turn_from_action_apart.new.hand) (sym c.in-Acting.is) c.turn_from_action_apart.ensures

pub returns-in-Won : goal.returns-in-Won
returns-in-Won g c =
    subst (λ (s : Stage). IsTurnFrom c.args.self.now (At (InCall s)) (Ok c.turn_from_won.result) c.args.hand.now c.turn_from_won.new.hand) (sym c.in-Won.is) c.turn_from_won.ensures

pub returns-in-Direct : goal.returns-in-Direct
returns-in-Direct g c =
    subst (λ (s : Stage). IsTurnFrom c.args.self.now (At (InCall s)) c.turn_from_direct.result c.args.hand.now c.turn_from_direct.new.hand) (sym c.in-Direct.is) c.turn_from_direct.ensures
