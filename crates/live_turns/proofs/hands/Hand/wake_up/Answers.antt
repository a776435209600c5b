use Rattle.std.specs.Prelude.{◌≡◌}
use Rattle.std.proofs.Common.{refl, ◌∙◌, ap, sym}
use Rattle.live_book.specs.Log.{thread_numbered}
use Rattle.live_turns.specs.Ways.{Holding}
use Rattle.live_turns.proofs.Going.{awake_way}
use Rattle.live_turns.proofs.hands.Hand.wake_up.Goals as goal

pub returns-clause-went : goal.returns-clause-went
returns-clause-went g c =
    let p : Holding = record { words = c.self.inside.words; own = c.self.inside.own.list.items } in
    let q : Holding = record { words = c.self.inside.words; own = c.note_own_action.new.own.list.items } in
    let me : c.thread-me.result ≡ thread_numbered c.self.inside.words.index = c.thread-me.ensures.value ∙ ap (λ (h : Holding). thread_numbered h.words.index) (sym c.self.view_is) in
    let did = rw c.in-Some.is at c.in_ok-done.ensures.own in
    rw (← c.self.view_is) (awake_way c.args.expired c.in-Some.done.answer c.woken.result.point p q did.1 c.woken.ensures.point refl (rw me at did.0))
