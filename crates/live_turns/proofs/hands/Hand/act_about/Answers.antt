use Rattle.std.specs.Prelude.{◌≡◌}
use Rattle.std.proofs.Common.{refl, ◌∙◌, ap, sym}
use Rattle.live_book.specs.Log.{thread_numbered}
use Rattle.live_turns.specs.Ways.{Holding}
use Rattle.live_turns.proofs.AtDesk.{acted_about}
use Rattle.live_turns.proofs.hands.Hand.act_about.Goals as goal

pub returns : goal.returns
returns g c =
    let p : Holding = record { words = c.self.inside.words; own = c.self.inside.own.list.items } in
    let q : Holding = record { words = c.self.inside.words; own = c.note_action_apart.new.own.list.items } in
    let me : c.thread-me.result ≡ thread_numbered c.self.inside.words.index = c.thread-me.ensures.value ∙ ap (λ (h : Holding). thread_numbered h.words.index) (sym c.self.view_is) in
    let noted = rw (c.action_about.ensures, c.deref_mut.ensures.value) at c.note_action_apart.ensures in
    rw (← c.self.view_is) (acted_about c.args.call c.thread-me.result c.note_action_apart.result c.told.result c.args.desk.now.value.book c.note_action_apart.new.self.book p q me refl noted c.told.ensures)
