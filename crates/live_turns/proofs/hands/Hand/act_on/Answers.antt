use Rattle.std.specs.Prelude.{◌≡◌}
use Rattle.std.proofs.Common.{refl, ◌∙◌, ap, sym, subst}
use Rattle.fast_path.specs.declared.calls.Operation.{Operation}
use Rattle.fast_path.specs.declared.calls.Operation.TheVariants as op
use Rattle.step_core.specs.Go.{action_on}
use Rattle.live_book.specs.Log.{thread_numbered}
use Rattle.live_turns.specs.Asked.{IsActionNoted}
use Rattle.live_turns.specs.Ways.{Holding}
use Rattle.live_turns.proofs.Asking.{on_names_bound}
use Rattle.live_turns.proofs.AtDesk.{acted_on, acted_late}
use Rattle.live_turns.proofs.hands.Hand.act_on.Goals as goal

pub note_action-requires-clause-named : goal.note_action-requires-clause-named
note_action-requires-clause-named g c =
    rw c.deref_mut.ensures.value (on_names_bound c.args.desk.now.value.book.fats op.Enter c.args.monitor c.args.call.object.0 c.requires.binds)

pub note_action-requires-in-Exit-clause-named : goal.note_action-requires-in-Exit-clause-named
note_action-requires-in-Exit-clause-named g c =
    rw c.deref_mut-in-Exit.ensures.value (on_names_bound c.args.desk.now.value.book.fats op.Exit c.args.monitor c.args.call.object.0 c.requires.binds)

pub note_action_apart-requires-clause-named : goal.note_action_apart-requires-clause-named
note_action_apart-requires-clause-named g c =
    rw (c.action_on-action.ensures, c.deref_mut-in_default.ensures.value) (on_names_bound c.args.desk.now.value.book.fats c.args.call.operation c.args.monitor c.args.call.object.0 c.requires.binds)

pub returns-in-Enter-clause-acting : goal.returns-in-Enter-clause-acting
returns-in-Enter-clause-acting g c =
    let p : Holding = record { words = c.self.inside.words; own = c.self.inside.own.list.items } in
    let q : Holding = record { words = c.self.inside.words; own = c.note_action.new.own.list.items } in
    let me : c.thread-me.result ≡ thread_numbered c.self.inside.words.index = c.thread-me.ensures.value ∙ ap (λ (h : Holding). thread_numbered h.words.index) (sym c.self.view_is) in
    let noted = subst (λ (o : Operation). IsActionNoted c.thread-me.result (action_on o c.args.monitor) c.note_action.result c.args.desk.now.value.book c.note_action.new.self.book p.own q.own) (sym c.in-Enter.is) (rw c.deref_mut.ensures.value at c.note_action.ensures) in
    rw (← c.self.view_is) (acted_on c.args.call c.args.monitor c.thread-me.result c.note_action.result c.told.result c.args.desk.now.value.book c.note_action.new.self.book p q me refl noted c.told.ensures)

pub returns-in-Enter-clause-inflated : goal.returns-in-Enter-clause-inflated
returns-in-Enter-clause-inflated g c =
    let p : Holding = record { words = c.self.inside.words; own = c.self.inside.own.list.items } in
    let q : Holding = record { words = c.self.inside.words; own = c.note_action.new.own.list.items } in
    let me : c.thread-me.result ≡ thread_numbered c.self.inside.words.index = c.thread-me.ensures.value ∙ ap (λ (h : Holding). thread_numbered h.words.index) (sym c.self.view_is) in
    let noted = subst (λ (o : Operation). IsActionNoted c.thread-me.result (action_on o c.args.monitor) c.note_action.result c.args.desk.now.value.book c.note_action.new.self.book p.own q.own) (sym c.in-Enter.is) (rw c.deref_mut.ensures.value at c.note_action.ensures) in
    rw (← c.self.view_is) (acted_late c.args.call c.args.monitor c.thread-me.result c.note_action.result c.told.result c.args.desk.now.value.book c.note_action.new.self.book p q me refl noted c.told.ensures)

pub returns-in-Exit-clause-acting : goal.returns-in-Exit-clause-acting
returns-in-Exit-clause-acting g c =
    let p : Holding = record { words = c.self.inside.words; own = c.self.inside.own.list.items } in
    let q : Holding = record { words = c.self.inside.words; own = c.note_action-in-Exit.new.own.list.items } in
    let me : c.thread-me.result ≡ thread_numbered c.self.inside.words.index = c.thread-me.ensures.value ∙ ap (λ (h : Holding). thread_numbered h.words.index) (sym c.self.view_is) in
    let noted = subst (λ (o : Operation). IsActionNoted c.thread-me.result (action_on o c.args.monitor) c.note_action-in-Exit.result c.args.desk.now.value.book c.note_action-in-Exit.new.self.book p.own q.own) (sym c.in-Exit.is) (rw c.deref_mut-in-Exit.ensures.value at c.note_action-in-Exit.ensures) in
    rw (← c.self.view_is) (acted_on c.args.call c.args.monitor c.thread-me.result c.note_action-in-Exit.result c.told-in-Exit.result c.args.desk.now.value.book c.note_action-in-Exit.new.self.book p q me refl noted c.told-in-Exit.ensures)

pub returns-in-Exit-clause-inflated : goal.returns-in-Exit-clause-inflated
returns-in-Exit-clause-inflated g c =
    let p : Holding = record { words = c.self.inside.words; own = c.self.inside.own.list.items } in
    let q : Holding = record { words = c.self.inside.words; own = c.note_action-in-Exit.new.own.list.items } in
    let me : c.thread-me.result ≡ thread_numbered c.self.inside.words.index = c.thread-me.ensures.value ∙ ap (λ (h : Holding). thread_numbered h.words.index) (sym c.self.view_is) in
    let noted = subst (λ (o : Operation). IsActionNoted c.thread-me.result (action_on o c.args.monitor) c.note_action-in-Exit.result c.args.desk.now.value.book c.note_action-in-Exit.new.self.book p.own q.own) (sym c.in-Exit.is) (rw c.deref_mut-in-Exit.ensures.value at c.note_action-in-Exit.ensures) in
    rw (← c.self.view_is) (acted_late c.args.call c.args.monitor c.thread-me.result c.note_action-in-Exit.result c.told-in-Exit.result c.args.desk.now.value.book c.note_action-in-Exit.new.self.book p q me refl noted c.told-in-Exit.ensures)

pub returns-in_default-clause-acting : goal.returns-in_default-clause-acting
returns-in_default-clause-acting g c =
    let p : Holding = record { words = c.self.inside.words; own = c.self.inside.own.list.items } in
    let q : Holding = record { words = c.self.inside.words; own = c.note_action_apart.new.own.list.items } in
    let me : c.thread-me.result ≡ thread_numbered c.self.inside.words.index = c.thread-me.ensures.value ∙ ap (λ (h : Holding). thread_numbered h.words.index) (sym c.self.view_is) in
    let noted = rw (c.action_on-action.ensures, c.deref_mut-in_default.ensures.value) at c.note_action_apart.ensures in
    rw (← c.self.view_is) (acted_on c.args.call c.args.monitor c.thread-me.result c.note_action_apart.result c.told-in_default.result c.args.desk.now.value.book c.note_action_apart.new.self.book p q me refl noted c.told-in_default.ensures)

pub returns-in_default-clause-inflated : goal.returns-in_default-clause-inflated
returns-in_default-clause-inflated g c =
    let p : Holding = record { words = c.self.inside.words; own = c.self.inside.own.list.items } in
    let q : Holding = record { words = c.self.inside.words; own = c.note_action_apart.new.own.list.items } in
    let me : c.thread-me.result ≡ thread_numbered c.self.inside.words.index = c.thread-me.ensures.value ∙ ap (λ (h : Holding). thread_numbered h.words.index) (sym c.self.view_is) in
    let noted = rw (c.action_on-action.ensures, c.deref_mut-in_default.ensures.value) at c.note_action_apart.ensures in
    rw (← c.self.view_is) (acted_late c.args.call c.args.monitor c.thread-me.result c.note_action_apart.result c.told-in_default.result c.args.desk.now.value.book c.note_action_apart.new.self.book p q me refl noted c.told-in_default.ensures)
