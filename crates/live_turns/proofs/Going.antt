-- Ways of a call, one after another.
use Rattle.std.specs.Prelude.{◌≡◌, ℕ, ◌+◌, ◌<◌, ◌≤◌, ◌%◌, Bool, true, false, List, [], ◌∷◌, ◌++◌, length}
use Rattle.std.proofs.Common.{refl, arith, sym, ◌∙◌, ap, subst}
use Rattle.std.proofs.lemmas.List.{append_assoc, append-nil}
use Rattle.lock_word.specs.declared.Word.{Word}
use Rattle.lock_word.specs.declared.ObjectId.{ObjectId}
use Rattle.lock_word.specs.declared.Lock.TheVariants.{Thin, Fat}
use Rattle.lock_word.specs.declared.Split.TheVariants.{Wide}
use Rattle.lock_word.specs.Layout.{lock_of, with_lock, word_of}
use Rattle.lock_word.proofs.Words.{lock_of-word_of}
use Rattle.fat_monitor.specs.declared.actions.Action.TheVariants as action
use Rattle.fat_monitor.specs.declared.actions.Answer.{Answer}
use Rattle.fat_monitor.specs.declared.actions.Answer.TheVariants as answer
use Rattle.fat_monitor.specs.declared.actions.Cause.{Cause}
use Rattle.fat_monitor.specs.declared.actions.Cause.TheVariants as cause
use Rattle.fat_monitor.specs.declared.actions.Reply.TheVariants as reply
use Rattle.fast_path.specs.declared.calls.MonitorCall.{MonitorCall}
use Rattle.fast_path.specs.declared.calls.InterruptCall.{InterruptCall}
use Rattle.header_words.specs.declared.event.EventKind.{EventKind}
use Rattle.header_words.specs.declared.event.EventKind.TheVariants as word
use Rattle.header_words.specs.Events.{event}
use Rattle.header_words.specs.Passes.{Opening, PassValue, MakesEvent}
use Rattle.step_core.specs.declared.places.Place.TheVariants.{InCall, AtPost}
use Rattle.step_core.specs.declared.places.Stage.TheVariants.{Begun, Binding, Acting, Won, Bound, Inflated, Direct}
use Rattle.step_core.specs.declared.paths.Point.{Point}
use Rattle.step_core.specs.declared.paths.Point.TheVariants.{At, Expired, Said}
use Rattle.step_core.specs.declared.steps.Atomic.{Atomic}
use Rattle.step_core.specs.declared.steps.Atomic.TheVariants as atomic
use Rattle.step_core.specs.Go.{action_on, action_about, entering}
use Rattle.step_core.specs.Path.{IsBindCause, IsTold, Follows, Leads, point_after, point_published, point_told, point_waited}
use Rattle.live_book.specs.declared.deeds.Deed.TheVariants as deed
use Rattle.live_book.specs.declared.faults.LiveFault.{LiveFault}
use Rattle.live_book.specs.declared.faults.LiveFault.TheVariants as fault
use Rattle.live_book.specs.Log.{thread_numbered}
use Rattle.live_turns.specs.Asked.{own_action, IsAwake}
use Rattle.live_turns.specs.Points.{GivenUpOn, GivenUpAbout, names_stranger}
use Rattle.live_turns.specs.Ways.{by, Holding, stored_kind, event_of, events_of, deed_of, deeds_of, MayAnswer, IsLiveStep, AreLiveSteps, Went, Halted, MayHalt, TakesGate, GivesGate, parked}

Leads-append : (me : ℕ) (s t u : Point) (es fs : List Atomic) → Leads Wide me s es t → Leads Wide me t fs u → Leads Wide me s (es ++ fs) u
Leads-append me s t u [] fs h k = subst (λ (x : Point). Leads Wide me x fs u) (sym h) k
Leads-append me s t u (a ∷ es) fs h k = (h.0, Leads-append me (point_after Wide me s a) t u es fs h.1 k)

live-append : (es fs : List Atomic) → AreLiveSteps es → AreLiveSteps fs → AreLiveSteps (es ++ fs)
live-append [] fs h k = k
live-append (a ∷ es) fs h k = (h.0, live-append es fs h.1 k)

events-append : (me : ℕ) (es fs : List Atomic) → events_of me (es ++ fs) ≡ events_of me es ++ events_of me fs
events-append me [] fs = refl
events-append me (a ∷ es) fs = ap (λ xs. event_of me a ++ xs) (events-append me es fs) ∙ sym (append_assoc (event_of me a) (events_of me es) (events_of me fs))

deeds-append : (me : ℕ) (s t : Point) (es fs : List Atomic) → Leads Wide me s es t → deeds_of me s (es ++ fs) ≡ deeds_of me s es ++ deeds_of me t fs
deeds-append me s t [] fs h = ap (λ (x : Point). deeds_of me x fs) h
deeds-append me s t (a ∷ es) fs h = ap (λ xs. deed_of me s a ++ xs) (deeds-append me (point_after Wide me s a) t es fs h.1) ∙ sym (append_assoc (deed_of me s a) (deeds_of me (point_after Wide me s a) es) (deeds_of me t fs))

pub went_then : (s t u : Point) (p q r : Holding) → Went s t p q → Went t u q r → Went s u p r
went_then s t u p q r h k =
    let me = p.words.index in
    let leads : Leads Wide me t k.steps u = subst (λ (i : ℕ). Leads Wide i t k.steps u) h.index k.leads in
    record {
      opening = k.opening ∙ h.opening;
      index = k.index ∙ h.index;
      has_gate = k.has_gate ∙ h.has_gate;
      steps = h.steps ++ k.steps;
      leads = Leads-append me s t u h.steps k.steps h.leads leads;
      live = live-append h.steps k.steps h.live k.live;
      mine = k.mine ∙ (ap (λ (i : ℕ). q.words.mine ++ events_of i k.steps) h.index ∙ (ap (λ xs. xs ++ events_of me k.steps) h.mine
          ∙ (append_assoc p.words.mine (events_of me h.steps) (events_of me k.steps) ∙ ap (λ xs. p.words.mine ++ xs) (sym (events-append me h.steps k.steps)))));
      own = k.own ∙ (ap (λ (i : ℕ). q.own ++ deeds_of i t k.steps) h.index ∙ (ap (λ xs. xs ++ deeds_of me t k.steps) h.own
          ∙ (append_assoc p.own (deeds_of me s h.steps) (deeds_of me t k.steps) ∙ ap (λ xs. p.own ++ xs) (sym (deeds-append me s t h.steps k.steps h.leads)))));
    }

-- one step on a word
pub went_event : (s : Point) (a : Atomic) (o : ℕ) (d : EventKind) (n : ℕ) (p q : Holding) → Follows Wide p.words.index s a → IsLiveStep a → event_of p.words.index a ≡ event p.words.index o d ∷ [] → deed_of p.words.index s a ≡ []
    → MakesEvent o d n p.words q.words → q.own ≡ p.own → Went s (point_after Wide p.words.index s a) p q
went_event s a o d n p q follows live is none made own = record {
  opening = made.opening;
  index = made.index;
  has_gate = made.has_gate;
  steps = a ∷ [];
  leads = (follows, refl);
  live = (live, tt);
  mine = made.mine ∙ ap (λ xs. p.words.mine ++ xs) (sym is ∙ sym (append-nil (event_of p.words.index a)));
  own = own ∙ (sym (append-nil p.own) ∙ ap (λ xs. p.own ++ xs) (sym none ∙ sym (append-nil (deed_of p.words.index s a))));
}

-- one step at the book, or a bind that is refused
pub went_deed : (s : Point) (a : Atomic) (p q : Holding) → Follows Wide p.words.index s a → IsLiveStep a → event_of p.words.index a ≡ []
    → q.words ≡ p.words → q.own ≡ p.own ++ deed_of p.words.index s a → Went s (point_after Wide p.words.index s a) p q
went_deed s a p q follows live none same own = record {
  opening = ap (λ (k : PassValue). k.opening) same;
  index = ap (λ (k : PassValue). k.index) same;
  has_gate = ap (λ (k : PassValue). k.has_gate) same;
  steps = a ∷ [];
  leads = (follows, refl);
  live = (live, tt);
  mine = ap (λ (k : PassValue). k.mine) same ∙ (sym (append-nil p.words.mine) ∙ ap (λ xs. p.words.mine ++ xs) (sym none ∙ sym (append-nil (event_of p.words.index a))));
  own = own ∙ ap (λ xs. p.own ++ xs) (sym (append-nil (deed_of p.words.index s a)));
}

pub went_same : (s : Point) (p q : Holding) → q.words ≡ p.words → q.own ≡ p.own → Went s s p q
went_same s p q words own = record {
  opening = ap (λ (k : PassValue). k.opening) words;
  index = ap (λ (k : PassValue). k.index) words;
  has_gate = ap (λ (k : PassValue). k.has_gate) words;
  steps = [];
  leads = refl;
  live = tt;
  mine = ap (λ (k : PassValue). k.mine) words ∙ sym (append-nil p.words.mine);
  own = own ∙ sym (append-nil p.own);
}

-- what was done while the pass had the gate: the taking and the giving add nothing
pub went_held : (s t : Point) (p p' q' q : Holding) → p.words.has_gate ≡ false → TakesGate p p' → Went s t p' q' → GivesGate q' q → Went s t p q
went_held s t p p' q' q out took h gave =
    let new = took.0.pass in
    let index : p'.words.index ≡ p.words.index = ap (λ (k : PassValue). k.index) new in
    let mine : p'.words.mine ≡ p.words.mine = ap (λ (k : PassValue). k.mine) new in
    let back = gave.0 in
    record {
      opening = ap (λ (k : PassValue). k.opening) back ∙ (h.opening ∙ ap (λ (k : PassValue). k.opening) new);
      index = ap (λ (k : PassValue). k.index) back ∙ (h.index ∙ index);
      has_gate = ap (λ (k : PassValue). k.has_gate) back ∙ sym out;
      steps = h.steps;
      leads = subst (λ (i : ℕ). Leads Wide i s h.steps t) index h.leads;
      live = h.live;
      mine = ap (λ (k : PassValue). k.mine) back ∙ (h.mine ∙ (ap (λ xs. xs ++ events_of p'.words.index h.steps) mine ∙ ap (λ (i : ℕ). p.words.mine ++ events_of i h.steps) index));
      own = gave.1 ∙ (h.own ∙ (ap (λ xs. xs ++ deeds_of p'.words.index s h.steps) took.1 ∙ ap (λ (i : ℕ). p.own ++ deeds_of i s h.steps) index));
    }

pub halted_then : (f : LiveFault) (s t : Point) (p q r : Holding) → Went s t p q → Halted f t q r → Halted f s p r
halted_then f s t p q r w k = record { point = k.point; last = k.last; went = went_then s t k.point p q r w k.went }

pub halted_held : (f : LiveFault) (s : Point) (p p' q' q : Holding) → p.words.has_gate ≡ false → TakesGate p p' → Halted f s p' q' → GivesGate q' q → Halted f s p q
halted_held f s p p' q' q out took k gave = record { point = k.point; last = k.last; went = went_held s k.point p p' q' q out took k.went gave }

pub halted_here : (f : LiveFault) (s : Point) (p q : Holding) → MayHalt f s → q.words ≡ p.words → q.own ≡ p.own → Halted f s p q
halted_here f s p q last words own = record { point = s; last = last; went = went_same s p q words own }

-- a call was given up behind its start
pub given_up_on : (z : Opening) (c : MonitorCall) (t : Point) (f : LiveFault) (p q r : Holding) → c.object.0 < length z.lows → Went (At (InCall (Begun c false))) t p q → Halted f t q r → GivenUpOn z c f p r
given_up_on z c t fault.NoObject p q r lt w k = absurd k.last
given_up_on z c t fault.Backwards p q r lt w k = (lt, halted_then fault.Backwards (At (InCall (Begun c false))) t p q r w k)
given_up_on z c t fault.RecordFull p q r lt w k = (lt, halted_then fault.RecordFull (At (InCall (Begun c false))) t p q r w k)
given_up_on z c t fault.Torn p q r lt w k = (lt, halted_then fault.Torn (At (InCall (Begun c false))) t p q r w k)
given_up_on z c t fault.NoThread p q r lt w k = (lt, halted_then fault.NoThread (At (InCall (Begun c false))) t p q r w k)

pub given_up_about : (z : Opening) (c : InterruptCall) (t : Point) (f : LiveFault) (p q r : Holding) → names_stranger z c ≡ false → Went (At (InCall (Direct c))) t p q → Halted f t q r → GivenUpAbout z c f p r
given_up_about z c t fault.NoThread p q r out w k = absurd k.last
given_up_about z c t fault.Backwards p q r out w k = (out, halted_then fault.Backwards (At (InCall (Direct c))) t p q r w k)
given_up_about z c t fault.RecordFull p q r out w k = (out, halted_then fault.RecordFull (At (InCall (Direct c))) t p q r w k)
given_up_about z c t fault.Torn p q r out w k = (out, halted_then fault.Torn (At (InCall (Direct c))) t p q r w k)
given_up_about z c t fault.NoObject p q r out w k = (out, halted_then fault.NoObject (At (InCall (Direct c))) t p q r w k)

-- The ways of single steps of a call.

-- an action of a call's own: what it came to is what it told
pub act_way : (c : MonitorCall) (m : ℕ) (x : Answer) (t : Point) (p q : Holding) → IsTold x → MayAnswer (action_on c.operation m) x → t ≡ point_told x → q.words ≡ p.words
    → q.own ≡ p.own ++ by (thread_numbered p.words.index) (deed.Acted (action_on c.operation m) x) ∷ [] → Went (At (InCall (Acting c m))) t p q
act_way c m x t p q told live is same own =
    subst (λ (u : Point). Went (At (InCall (Acting c m))) u p q) (sym is)
    (went_deed (At (InCall (Acting c m))) (atomic.Acted (action_on c.operation m) x) p q (refl, told) live refl same own)

pub late_act_way : (c : MonitorCall) (m : ℕ) (x : Answer) (t : Point) (p q : Holding) → IsTold x → MayAnswer (action_on c.operation m) x → t ≡ point_told x → q.words ≡ p.words
    → q.own ≡ p.own ++ by (thread_numbered p.words.index) (deed.Acted (action_on c.operation m) x) ∷ [] → Went (At (InCall (Inflated c m))) t p q
late_act_way c m x t p q told live is same own =
    subst (λ (u : Point). Went (At (InCall (Inflated c m))) u p q) (sym is)
    (went_deed (At (InCall (Inflated c m))) (atomic.Acted (action_on c.operation m) x) p q (refl, told) live refl same own)

pub direct_way : (c : InterruptCall) (x : Answer) (t : Point) (p q : Holding) → IsTold x → MayAnswer (action_about c) x → t ≡ point_told x → q.words ≡ p.words
    → q.own ≡ p.own ++ by (thread_numbered p.words.index) (deed.Acted (action_about c) x) ∷ [] → Went (At (InCall (Direct c))) t p q
direct_way c x t p q told live is same own =
    subst (λ (u : Point). Went (At (InCall (Direct c))) u p q) (sym is)
    (went_deed (At (InCall (Direct c))) (atomic.Acted (action_about c) x) p q (refl, told) live refl same own)

-- what a parked thread did itself
pub awake_way : (e : Bool) (x : Answer) (t : Point) (p q : Holding) → IsAwake e x → t ≡ point_waited x → q.words ≡ p.words
    → q.own ≡ p.own ++ by (thread_numbered p.words.index) (deed.Acted (own_action x) x) ∷ [] → Went (parked e) t p q
awake_way false (answer.Reply r) t p q may is same own =
    subst (λ (u : Point). Went (At AtPost) u p q) (sym is) (went_deed (At AtPost) (atomic.Acted action.Collect (answer.Reply r)) p q tt may refl same own)
awake_way true (answer.Reply r) t p q may is same own =
    subst (λ (u : Point). Went Expired u p q) (sym is) (went_deed Expired (atomic.Acted action.Collect (answer.Reply r)) p q tt may refl same own)
awake_way false answer.Quiet t p q may is same own =
    subst (λ (u : Point). Went (At AtPost) u p q) (sym is) (went_deed (At AtPost) (atomic.Acted action.Expire answer.Quiet) p q tt tt refl same own)
awake_way true answer.Quiet t p q may is same own = absurd (cc)
awake_way e answer.Parked t p q may is same own = absurd may

-- the store of the word of a monitor
pub publish_way : (c : MonitorCall) (won : Bool) (m n : ℕ) (p q : Holding) → m ≤ 8388607 → 1 ≤ p.words.index → p.words.index ≤ 32767
    → MakesEvent c.object.0 (word.Publish m) n p.words q.words → q.own ≡ p.own
    → Went (At (InCall (Bound c won m))) (point_published c won m) p q
publish_way c won m n p q few one most made own =
    let old : Word = record { 0 = word_of Wide (Thin p.words.index 0) 0 } in
    let was : lock_of Wide old.0 ≡ Thin p.words.index 0 = lock_of-word_of Wide (Thin p.words.index 0) 0 (one, most, omega arith) (omega arith) in
    let byte : old.0 % 256 < 256 = omega arith in
    let shown : lock_of Wide (with_lock Wide old.0 (Fat m)) ≡ Fat m = lock_of-word_of Wide (Fat m) (old.0 % 256) few byte in
    went_event (At (InCall (Bound c won m))) (atomic.Stored c.object old (record { 0 = with_lock Wide old.0 (Fat m) })) c.object.0 (word.Publish m) n p q
    (refl, (0, was), refl) tt
    (ap (λ x. event p.words.index c.object.0 (stored_kind (lock_of Wide old.0) x) ∷ []) shown)
    refl made own

pub bound_way : (c : MonitorCall) (n m : ℕ) (p q : Holding) → q.words ≡ p.words
    → q.own ≡ p.own ++ by (thread_numbered p.words.index) (deed.Bound c.object (n + 1) m) ∷ []
    → Went (At (InCall (Binding c n))) (At (InCall (Bound c false m))) p q
bound_way c n m p q same own = went_deed (At (InCall (Binding c n))) (atomic.Bound c.object m) p q refl tt refl same own

pub won_bound_way : (o : ObjectId) (m : ℕ) (p q : Holding) → q.words ≡ p.words
    → q.own ≡ p.own ++ by (thread_numbered p.words.index) (deed.Bound o 1 m) ∷ []
    → Went (At (InCall (Won o))) (At (InCall (Bound (entering o) true m))) p q
won_bound_way o m p q same own = went_deed (At (InCall (Won o))) (atomic.Bound o m) p q refl tt refl same own

pub refused_way : (c : MonitorCall) (n : ℕ) (x : Cause) (p q : Holding) → x ≡ cause.NoMonitor → q.words ≡ p.words → q.own ≡ p.own
    → Went (At (InCall (Binding c n))) (Said (reply.Refused x)) p q
refused_way c n x p q is same own =
    went_deed (At (InCall (Binding c n))) (atomic.NotBound c.object x) p q (refl, subst IsBindCause (sym is) tt) is refl same (own ∙ sym (append-nil p.own))

-- a contended enter drops the inflation
pub dropped_way : (o : ObjectId) (p q : Holding) → q.words ≡ p.words → q.own ≡ p.own
    → Went (At (InCall (Won o))) (Said reply.Entered) p q
dropped_way o p q same own =
    went_deed (At (InCall (Won o))) (atomic.NotBound o cause.NoMonitor) p q (refl, tt) refl refl same (own ∙ sym (append-nil p.own))

-- an inflation: the bind, and the store of the word of the monitor that it gave
pub inflated_way : (c : MonitorCall) (n m k : ℕ) (p q u : Holding) → k ≡ m → q.words ≡ p.words
    → q.own ≡ p.own ++ by (thread_numbered p.words.index) (deed.Bound c.object (n + 1) m) ∷ []
    → Went (At (InCall (Bound c false k))) (At (InCall (Inflated c k))) q u → Went (At (InCall (Binding c n))) (At (InCall (Inflated c k))) p u
inflated_way c n m k p q u e same own published =
    went_then (At (InCall (Binding c n))) (At (InCall (Bound c false k))) (At (InCall (Inflated c k))) p q u
    (subst (λ (i : ℕ). Went (At (InCall (Binding c n))) (At (InCall (Bound c false i))) p q) (sym e) (bound_way c n m p q same own)) published

pub settled_way : (o : ObjectId) (m k : ℕ) (p q u : Holding) → k ≡ m → q.words ≡ p.words
    → q.own ≡ p.own ++ by (thread_numbered p.words.index) (deed.Bound o 1 m) ∷ []
    → Went (At (InCall (Bound (entering o) true k))) (Said reply.Entered) q u → Went (At (InCall (Won o))) (Said reply.Entered) p u
settled_way o m k p q u e same own published =
    went_then (At (InCall (Won o))) (At (InCall (Bound (entering o) true k))) (Said reply.Entered) p q u
    (subst (λ (i : ℕ). Went (At (InCall (Won o))) (At (InCall (Bound (entering o) true i))) p q) (sym e) (won_bound_way o m p q same own)) published
