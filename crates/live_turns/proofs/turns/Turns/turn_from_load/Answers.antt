use Rattle.std.proofs.Common.{refl, sym, ◌∙◌}
use Rattle.lock_word.specs.Layout.{count_of}
use Rattle.fast_path.specs.declared.Next.TheVariants as next
use Rattle.header_words.specs.Passes.{depth_at}
use Rattle.step_core.specs.declared.places.Place.TheVariants.{InCall}
use Rattle.step_core.specs.declared.places.Stage.TheVariants.{Begun, Taking, Storing, Binding, Acting}
use Rattle.step_core.specs.declared.paths.Point.TheVariants.{At, Said}
use Rattle.live_turns.proofs.Going.{went_then}
use Rattle.live_turns.proofs.TurnLaws.{said_turn, contended_turn, turn_behind_load}
use Rattle.live_turns.proofs.Visits.{reply_loaded, loaded_after}
use Rattle.live_turns.proofs.Words.{cas_fact, free_depth, bind_depth, first_way}
use Rattle.live_turns.proofs.turns.Turns.turn_from_load.Goals as goal

pub acquire-requires-clause-free : goal.acquire-requires-clause-free
acquire-requires-clause-free g c =
    free_depth c.load-lock.new.hand.words.index (depth_at c.load-lock.new.hand.words c.args.call.object.0) c.load-lock.result c.load-lock.ensures.thin
    (cas_fact c.args.call.operation c.load-lock.result c.in-Cas.field-0 c.index.result (sym c.next.ensures ∙ c.in-Cas.is)).0

pub turn_from_bind-requires-clause-holds : goal.turn_from_bind-requires-clause-holds
turn_from_bind-requires-clause-holds g c =
    rw c.count.ensures (bind_depth c.args.call.operation c.load-lock.result c.load-lock.new.hand.words.index (depth_at c.load-lock.new.hand.words c.args.call.object.0)
    (rw (← c.index.ensures) (sym c.next.ensures ∙ c.in-Bind.is)) c.load-lock.ensures.thin)

pub returns-in-Reply : goal.returns-in-Reply
returns-in-Reply g c =
    said_turn c.args.self.now c.args.call c.args.contended c.in-Reply.reply c.said.result c.args.hand.now c.load-lock.new.hand c.said.ensures c.load-lock.ensures.belongs
    (first_way c.args.call c.args.contended c.load-lock.result (next.Reply c.in-Reply.reply) c.index.result c.args.hand.now c.load-lock.new.hand (c.load-lock.ensures.went c.args.call c.args.contended refl) c.index.ensures c.load-lock.ensures.index (sym c.in-Reply.is ∙ c.next.ensures))
    (reply_loaded c.args.call.operation c.load-lock.result c.index.result c.in-Reply.reply c.args.hand.now.words c.load-lock.new.hand.words (sym c.next.ensures ∙ c.in-Reply.is))

pub returns-in-Spin : goal.returns-in-Spin
returns-in-Spin g c =
    contended_turn c.args.self.now c.args.call c.args.contended c.at.result c.args.hand.now c.load-lock.new.hand c.at.ensures c.load-lock.ensures.belongs c.requires.object
    (first_way c.args.call c.args.contended c.load-lock.result (next.Spin) c.index.result c.args.hand.now c.load-lock.new.hand (c.load-lock.ensures.went c.args.call c.args.contended refl) c.index.ensures c.load-lock.ensures.index (sym c.in-Spin.is ∙ c.next.ensures))
    (c.load-lock.ensures.event, c.load-lock.ensures.visit)

pub returns-in-Cas : goal.returns-in-Cas
returns-in-Cas g c = record {
  belongs = c.acquire.ensures.belongs;
  went =
      went_then (At (InCall (Begun c.args.call c.args.contended))) (At (InCall (Taking c.args.call.object c.args.contended))) c.acquire.result.point c.args.hand.now c.load-lock.new.hand c.acquire.new.hand
      (first_way c.args.call c.args.contended c.load-lock.result (next.Cas c.in-Cas.field-0) c.index.result c.args.hand.now c.load-lock.new.hand (c.load-lock.ensures.went c.args.call c.args.contended refl) c.index.ensures c.load-lock.ensures.index (sym c.in-Cas.is ∙ c.next.ensures))
      c.acquire.ensures.went;
  knows = c.acquire.ensures.knows;
  halted = tt;
  did =
      loaded_after c.acquire.result.gate_taken c.acquire.result.point c.args.hand.now.words c.load-lock.new.hand.words c.acquire.new.hand.words c.load-lock.ensures.visit c.load-lock.ensures.event c.acquire.ensures.loaded;
  looked = tt;
}

pub returns-in-Store : goal.returns-in-Store
returns-in-Store g c =
    said_turn c.args.self.now c.args.call c.args.contended c.store.result c.said-in-Store.result c.args.hand.now c.store.new.hand c.said-in-Store.ensures c.store.ensures.belongs
    (went_then (At (InCall (Begun c.args.call c.args.contended))) (At (InCall (Storing c.args.call c.in-Store.new))) (Said c.store.result) c.args.hand.now c.load-lock.new.hand c.store.new.hand
    (first_way c.args.call c.args.contended c.load-lock.result (next.Store c.in-Store.new) c.index.result c.args.hand.now c.load-lock.new.hand (c.load-lock.ensures.went c.args.call c.args.contended refl) c.index.ensures c.load-lock.ensures.index (sym c.in-Store.is ∙ c.next.ensures))
    c.store.ensures.went)
    (c.store.ensures.loaded c.args.hand.now.words)

pub returns-in-Bind : goal.returns-in-Bind
returns-in-Bind g c =
    turn_behind_load c.args.self.now c.args.call c.args.contended (Binding c.args.call (count_of c.load-lock.result)) c.turn_from_bind.result c.args.hand.now c.load-lock.new.hand c.turn_from_bind.new.hand
    (first_way c.args.call c.args.contended c.load-lock.result (next.Bind) c.index.result c.args.hand.now c.load-lock.new.hand (c.load-lock.ensures.went c.args.call c.args.contended refl) c.index.ensures c.load-lock.ensures.index (sym c.in-Bind.is ∙ c.next.ensures))
    c.load-lock.ensures.visit refl (rw c.count.ensures at c.turn_from_bind.ensures)

pub returns-in-Fat : goal.returns-in-Fat
returns-in-Fat g c =
    turn_behind_load c.args.self.now c.args.call c.args.contended (Acting c.args.call c.in-Fat.monitor) c.turn_from_action_apart.result c.args.hand.now c.load-lock.new.hand c.turn_from_action_apart.new.hand
    (first_way c.args.call c.args.contended c.load-lock.result (next.Fat c.in-Fat.monitor) c.index.result c.args.hand.now c.load-lock.new.hand (c.load-lock.ensures.went c.args.call c.args.contended refl) c.index.ensures c.load-lock.ensures.index (sym c.in-Fat.is ∙ c.next.ensures))
    c.load-lock.ensures.visit refl c.turn_from_action_apart.ensures
