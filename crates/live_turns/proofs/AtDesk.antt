-- What a pass that has the gate did at the desk.
use Rattle.std.specs.Prelude.{◌≡◌, ℕ, [], ◌∷◌, ◌++◌, Result, Ok, Err}
use Rattle.std.proofs.Common.{sym, subst}
use Rattle.lock_word.specs.declared.ThreadId.{ThreadId}
use Rattle.fat_monitor.specs.Acting.{outcome_of}
use Rattle.fat_monitor.specs.declared.actions.Action.{Action}
use Rattle.fat_monitor.specs.declared.actions.Answer.{Answer}
use Rattle.fat_monitor.specs.declared.actions.Answer.TheVariants as answer
use Rattle.fat_monitor.specs.declared.actions.Done.{Done}
use Rattle.fast_path.specs.declared.calls.MonitorCall.{MonitorCall}
use Rattle.fast_path.specs.declared.calls.InterruptCall.{InterruptCall}
use Rattle.step_core.specs.declared.places.Place.TheVariants.{InCall}
use Rattle.step_core.specs.declared.places.Stage.TheVariants.{Acting, Inflated, Direct}
use Rattle.step_core.specs.declared.paths.Point.{Point}
use Rattle.step_core.specs.declared.paths.Point.TheVariants.{At}
use Rattle.step_core.specs.Go.{action_on, action_about}
use Rattle.step_core.specs.Path.{point_told}
use Rattle.live_book.specs.Book.{BookState}
use Rattle.live_book.specs.Log.{thread_numbered}
use Rattle.live_book.specs.declared.deeds.Deed.TheVariants as deed
use Rattle.live_book.specs.declared.faults.LiveFault.{LiveFault}
use Rattle.live_turns.specs.declared.standings.Turned.{Turned}
use Rattle.live_turns.specs.Asked.{IsActionNoted, IsAtDesk, IsDeskFault, Tells}
use Rattle.live_turns.specs.Points.{RestsAtPost}
use Rattle.live_turns.specs.Ways.{by, Holding, Went}
use Rattle.live_turns.proofs.Answering.{on_answers, about_answers}
use Rattle.live_turns.proofs.Asking.{told_on, told_about}
use Rattle.live_turns.proofs.Going.{act_way, late_act_way, direct_way}

told_rests : (x : Answer) → RestsAtPost (point_told x)
told_rests (answer.Reply r) = tt
told_rests answer.Parked = tt
told_rests answer.Quiet = tt

-- an action that was noted, and is told by the turn of a call that stands at this point
at_desk : (s : Point) (me : ThreadId) (a : Action) (r : Result Done LiveFault) (x : Result Turned LiveFault) (b b' : BookState) (p q : Holding) → me ≡ thread_numbered p.words.index → q.words ≡ p.words
    → IsActionNoted me a r b b' p.own q.own → Tells r x
    → ((d : Done) (t : Turned) → (outcome_of b.fats me a).answer ≡ Ok d → t.point ≡ point_told d.answer → q.own ≡ p.own ++ by (thread_numbered p.words.index) (deed.Acted a d.answer) ∷ [] → Went s t.point p q)
    → IsAtDesk s x b b' p q
at_desk s me a (Ok d) (Ok t) b b' p q is words noted tells way = record {
  words = words;
  bound = noted.bound;
  went = way d t noted.told tells.0 (subst (λ (u : ThreadId). q.own ≡ p.own ++ by u (deed.Acted a d.answer) ∷ []) is noted.noted);
  rests = (tells.1, subst RestsAtPost (sym tells.0) (told_rests d.answer));
  none = tt;
  fault = tt;
}
at_desk s me a (Ok d) (Err g) b b' p q is words noted tells way = absurd tells
at_desk s me a (Err f) (Ok t) b b' p q is words noted tells way = absurd tells
at_desk s me a (Err f) (Err g) b b' p q is words noted tells way = record {
  words = words;
  bound = noted.bound;
  went = tt;
  rests = tt;
  none = noted.none;
  fault = subst IsDeskFault (sym tells) noted.fault;
}

pub acted_on : (c : MonitorCall) (m : ℕ) (me : ThreadId) (r : Result Done LiveFault) (x : Result Turned LiveFault) (b b' : BookState) (p q : Holding) → me ≡ thread_numbered p.words.index → q.words ≡ p.words
    → IsActionNoted me (action_on c.operation m) r b b' p.own q.own → Tells r x → IsAtDesk (At (InCall (Acting c m))) x b b' p q
acted_on c m me r x b b' p q is words noted tells =
    at_desk (At (InCall (Acting c m))) me (action_on c.operation m) r x b b' p q is words noted tells
    (λ d t e told own. act_way c m d.answer t.point p q (told_on b.fats me c.operation m d e) (on_answers b.fats me c.operation m d e) told words own)

pub acted_late : (c : MonitorCall) (m : ℕ) (me : ThreadId) (r : Result Done LiveFault) (x : Result Turned LiveFault) (b b' : BookState) (p q : Holding) → me ≡ thread_numbered p.words.index → q.words ≡ p.words
    → IsActionNoted me (action_on c.operation m) r b b' p.own q.own → Tells r x → IsAtDesk (At (InCall (Inflated c m))) x b b' p q
acted_late c m me r x b b' p q is words noted tells =
    at_desk (At (InCall (Inflated c m))) me (action_on c.operation m) r x b b' p q is words noted tells
    (λ d t e told own. late_act_way c m d.answer t.point p q (told_on b.fats me c.operation m d e) (on_answers b.fats me c.operation m d e) told words own)

pub acted_about : (c : InterruptCall) (me : ThreadId) (r : Result Done LiveFault) (x : Result Turned LiveFault) (b b' : BookState) (p q : Holding) → me ≡ thread_numbered p.words.index → q.words ≡ p.words
    → IsActionNoted me (action_about c) r b b' p.own q.own → Tells r x → IsAtDesk (At (InCall (Direct c))) x b b' p q
acted_about c me r x b b' p q is words noted tells =
    at_desk (At (InCall (Direct c))) me (action_about c) r x b b' p q is words noted tells
    (λ d t e told own. direct_way c d.answer t.point p q (told_about b.fats me c d e) (about_answers b.fats me c d e) told words own)
