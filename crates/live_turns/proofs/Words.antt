-- The ways of the steps on words.
use Rattle.std.specs.Prelude.{◌≡◌, ◌<◌, ◌≤◌, ℕ, ◌+◌, ◌-◌, ◌%◌, ◌==◌, ◌↔◌, Bool, true, false, if◌then◌else◌, nat_lt, [], ◌∷◌}
use Rattle.std.proofs.Common.{refl, zero, suc, arith, sym, ◌∙◌, ap, subst}
use Rattle.std.proofs.lemmas.Bool.{cond_both, ltb-true, ltb-false}
use Rattle.lock_word.specs.declared.Word.{Word}
use Rattle.lock_word.specs.declared.ObjectId.{ObjectId}
use Rattle.lock_word.specs.declared.Lock.{Lock}
use Rattle.lock_word.specs.declared.Lock.TheVariants.{Free, Thin, Fat}
use Rattle.lock_word.specs.declared.Split.TheVariants.{Wide}
use Rattle.lock_word.specs.Layout.{lock_of, with_lock, word_of, Fits, count_of}
use Rattle.lock_word.proofs.Words.{free, lock_of-word_of}
use Rattle.fat_monitor.specs.Acting.{are_good}
use Rattle.fat_monitor.specs.declared.actions.Reply.TheVariants as reply
use Rattle.fast_path.specs.declared.calls.MonitorCall.{MonitorCall}
use Rattle.fast_path.specs.declared.calls.Operation.{Operation}
use Rattle.fast_path.specs.declared.calls.Operation.TheVariants as op
use Rattle.fast_path.specs.declared.Next.{Next}
use Rattle.fast_path.specs.declared.Next.TheVariants as next
use Rattle.fast_path.specs.Table.{next_of, when_free, when_own, when_anothers}
use Rattle.fast_path.proofs.Tables.{store_own, bind_own, own_of_bind}
use Rattle.header_words.specs.declared.event.EventKind.{EventKind}
use Rattle.header_words.specs.declared.event.EventKind.TheVariants as word
use Rattle.header_words.specs.Events.{event}
use Rattle.header_words.specs.Passes.{PassValue, MakesEvent, depth_at}
use Rattle.step_core.specs.declared.places.Place.TheVariants.{InCall}
use Rattle.step_core.specs.declared.places.Stage.TheVariants.{Begun, Taking, Storing}
use Rattle.step_core.specs.declared.paths.Point.TheVariants.{At, Said}
use Rattle.step_core.specs.declared.steps.Atomic.TheVariants as atomic
use Rattle.step_core.specs.Go.{entering, stored_reply}
use Rattle.step_core.specs.Path.{point_next, point_taken}
use Rattle.live_turns.specs.Ways.{Holding, stored_kind, Went}
use Rattle.live_turns.proofs.Going.{went_event}

-- a load of a word with this lock
pub load_way : (c : MonitorCall) (k : Bool) (o : ObjectId) (w : Word) (l : Lock) (p q : Holding) → c.object ≡ o → l ≡ lock_of Wide w.0
    → MakesEvent o.0 (word.Load w.0) w.0 p.words q.words → q.own ≡ p.own
    → Went (At (InCall (Begun c k))) (point_next c k l (next_of Wide c.operation l p.words.index)) p q
load_way c k o w l p q same is made own =
    subst (λ (x : Lock). Went (At (InCall (Begun c k))) (point_next c k x (next_of Wide c.operation x p.words.index)) p q) (sym is)
    (went_event (At (InCall (Begun c k))) (atomic.Load o w) o.0 (word.Load w.0) w.0 p q (sym same) tt refl refl made own)

-- an exchange that won
pub win_way : (o : ObjectId) (k : Bool) (n : ℕ) (p q : Holding) → MakesEvent o.0 word.Win n p.words q.words → q.own ≡ p.own
    → Went (At (InCall (Taking o k))) (point_taken o k (atomic.Won o (record { 0 = 0 }) (record { 0 = with_lock Wide 0 (Thin p.words.index 0) }))) p q
win_way o k n p q made own =
    went_event (At (InCall (Taking o k))) (atomic.Won o (record { 0 = 0 }) (record { 0 = with_lock Wide 0 (Thin p.words.index 0) })) o.0 word.Win n p q
    (refl, free Wide 0 (omega arith), refl) tt refl refl made own

-- an exchange that lost, to some word that is not free
pub lose_way : (o : ObjectId) (k : Bool) (n : ℕ) (p q : Holding) → MakesEvent o.0 word.Lose n p.words q.words → q.own ≡ p.own
    → Went (At (InCall (Taking o k))) (At (InCall (Begun (entering o) true))) p q
lose_way o true n p q made own =
    went_event (At (InCall (Taking o true))) (atomic.Lost o (record { 0 = 2147483648 })) o.0 word.Lose n p q
    (refl, (λ e. let f : lock_of Wide 2147483648 ≡ Fat 0 = refl in let never = sym f ∙ e in cc)) tt refl refl made own
lose_way o false n p q made own =
    went_event (At (InCall (Taking o false))) (atomic.Lost o (record { 0 = 2147483648 })) o.0 word.Lose n p q
    (refl, (λ e. let f : lock_of Wide 2147483648 ≡ Fat 0 = refl in let never = sym f ∙ e in cc)) tt refl refl made own

-- a store over the pass's own thin word
store_way : (c : MonitorCall) (l : Lock) (n k : ℕ) (d : EventKind) (p q : Holding) → Fits Wide (Thin p.words.index n) → Fits Wide l
    → next_of Wide c.operation (Thin p.words.index n) p.words.index ≡ next.Store l → stored_kind (Thin p.words.index n) l ≡ d
    → MakesEvent c.object.0 d k p.words q.words → q.own ≡ p.own → Went (At (InCall (Storing c l))) (Said (stored_reply c.operation)) p q
store_way c l n k d p q old new calls is made own =
    let x : Word = record { 0 = word_of Wide (Thin p.words.index n) 0 } in
    let was : lock_of Wide x.0 ≡ Thin p.words.index n = lock_of-word_of Wide (Thin p.words.index n) 0 old (omega arith) in
    let byte : x.0 % 256 < 256 = omega arith in
    let shown : lock_of Wide (with_lock Wide x.0 l) ≡ l = lock_of-word_of Wide l (x.0 % 256) new byte in
    went_event (At (InCall (Storing c l))) (atomic.Stored c.object x (record { 0 = with_lock Wide x.0 l })) c.object.0 d k p q
    (refl, (n, was, calls), refl) tt
    (ap (λ y. event p.words.index c.object.0 (stored_kind (lock_of Wide x.0) y) ∷ []) shown
    ∙ (ap (λ y. event p.words.index c.object.0 (stored_kind y l) ∷ []) was ∙ ap (λ y. event p.words.index c.object.0 y ∷ []) is))
    refl made own

-- What a store leaves is by the operation: one lock more, or one less.
pub nest_fact : (old l : Lock) (me : ℕ) → next_of Wide op.Enter old me ≡ next.Store l → (n : ℕ) × (old ≡ Thin me n) × (n < 255) × (l ≡ Thin me (n + 1))
nest_fact old l me e = store_own Wide op.Enter old l me e

pub unnest_fact : (old l : Lock) (me : ℕ) → next_of Wide op.Exit old me ≡ next.Store l → (n : ℕ) × (old ≡ Thin me n) × (l ≡ (if nat_lt 0 n then Thin me (n - 1) else Free))
unnest_fact old l me e = store_own Wide op.Exit old l me e

pub release_fact : (old : Lock) (me : ℕ) → next_of Wide op.Exit old me ≡ next.Store Free → old ≡ Thin me 0
release_fact old me e =
    let f = unnest_fact old Free me e in
    cond_both (nat_lt 0 f.0) (Thin me (f.0 - 1)) Free (λ (x : Lock). Free ≡ x → old ≡ Thin me 0) (λ lt h. absurd (cc))
    (λ no_more h. let none : f.0 ≡ 0 = (let le = ltb-false 0 f.0 no_more in omega arith) in f.1 ∙ ap (λ k. Thin me k) none) f.2

pub less_fact : (old : Lock) (i d me : ℕ) → next_of Wide op.Exit old me ≡ next.Store (Thin i d) → (n : ℕ) × (old ≡ Thin me (n + 1)) × (Thin i d ≡ Thin me n)
less_fact old i d me e =
    let f = unnest_fact old (Thin i d) me e in
    cond_both (nat_lt 0 f.0) (Thin me (f.0 - 1)) Free (λ (x : Lock). Thin i d ≡ x → (n : ℕ) × (old ≡ Thin me (n + 1)) × (Thin i d ≡ Thin me n))
    (λ more h. let one : f.0 ≡ f.0 - 1 + 1 = (let lt = ltb-true 0 f.0 more in omega arith) in (f.0 - 1, f.1 ∙ ap (λ k. Thin me k) one, h))
    (λ no_more h. absurd (cc)) f.2

-- an exchange is called for by the free word, and by an enter
pub cas_fact : (p : Operation) (old l : Lock) (me : ℕ) → next_of Wide p old me ≡ next.Cas l → (old ≡ Free) × (p ≡ op.Enter)
cas_fact p Free l me e = (refl, by_operation p e)
  where
    by_operation : (p : Operation) → when_free p me ≡ next.Cas l → p ≡ op.Enter
    by_operation op.Enter e = refl
    by_operation op.Exit e = absurd (cc)
    by_operation (op.Wait millis nanos) e = absurd (cc)
    by_operation op.Notify e = absurd (cc)
    by_operation op.NotifyAll e = absurd (cc)
    by_operation op.Holds e = absurd (cc)
cas_fact p (Fat m) l me e = absurd (cc)
cas_fact p (Thin i n) l me e = absurd (cond_both (i == me) (when_own Wide p me n) (when_anothers p) (λ (x : Next). x ≡ next.Cas l → ⊥) (λ _. own p) (λ _. other p) e)
  where
    own : (p : Operation) → when_own Wide p me n ≡ next.Cas l → ⊥
    own op.Enter = cond_both (nat_lt n 255) (next.Store (Thin me (n + 1))) next.Bind (λ (x : Next). x ≡ next.Cas l → ⊥) (λ _ h. absurd (cc)) (λ _ h. absurd (cc))
    own op.Exit = cond_both (nat_lt 0 n) (next.Store (Thin me (n - 1))) (next.Store Free) (λ (x : Next). x ≡ next.Cas l → ⊥) (λ _ h. absurd (cc)) (λ _ h. absurd (cc))
    own (op.Wait millis nanos) = cond_both (are_good millis nanos) next.Bind (next.Reply reply.IllegalArgument) (λ (x : Next). x ≡ next.Cas l → ⊥) (λ _ h. absurd (cc)) (λ _ h. absurd (cc))
    own op.Notify = λ h. absurd (cc)
    own op.NotifyAll = λ h. absurd (cc)
    own op.Holds = λ h. absurd (cc)

    other : (p : Operation) → when_anothers p ≡ next.Cas l → ⊥
    other op.Enter = λ h. absurd (cc)
    other op.Exit = λ h. absurd (cc)
    other (op.Wait millis nanos) = λ h. absurd (cc)
    other op.Notify = λ h. absurd (cc)
    other op.NotifyAll = λ h. absurd (cc)
    other op.Holds = λ h. absurd (cc)

-- A pass that holds an object d times by its word, and the lock of that word.
abbrev pub Shows : ℕ → ℕ → Lock → Type 0
Shows me d old = (n : ℕ) → (d ≡ n + 1) ↔ (old ≡ Thin me n)

pub nest_depth : (p : Operation) (old l : Lock) (me d : ℕ) → p ≡ op.Enter → next_of Wide p old me ≡ next.Store l → Shows me d old → (n : ℕ) × (d ≡ n + 1) × (n < 255)
nest_depth p old l me d is e shows =
    let f = nest_fact old l me (subst (λ (x : Operation). next_of Wide x old me ≡ next.Store l) is e) in (f.0, (shows f.0).1 f.1, f.2)

pub release_depth : (p : Operation) (old l : Lock) (me d : ℕ) → p ≡ op.Exit → l ≡ Free → next_of Wide p old me ≡ next.Store l → Shows me d old → d ≡ 1
release_depth p old l me d is new e shows =
    (shows 0).1 (release_fact old me (subst (λ (x : Operation). next_of Wide x old me ≡ next.Store Free) is (subst (λ (x : Lock). next_of Wide p old me ≡ next.Store x) new e)))

pub unnest_depth : (p : Operation) (old l : Lock) (i k me d : ℕ) → p ≡ op.Exit → l ≡ Thin i k → next_of Wide p old me ≡ next.Store l → Shows me d old → (n : ℕ) × (d ≡ n + 1 + 1)
unnest_depth p old l i k me d is new e shows =
    let f = less_fact old i k me (subst (λ (x : Operation). next_of Wide x old me ≡ next.Store (Thin i k)) is (subst (λ (x : Lock). next_of Wide p old me ≡ next.Store x) new e)) in
    (f.0, (shows (f.0 + 1)).1 f.1)

-- the stores
pub nest_way : (c : MonitorCall) (old l : Lock) (k : ℕ) (p q : Holding) → c.operation ≡ op.Enter → Fits Wide old → next_of Wide c.operation old p.words.index ≡ next.Store l
    → MakesEvent c.object.0 word.Nest k p.words q.words → q.own ≡ p.own → Went (At (InCall (Storing c l))) (Said reply.Entered) p q
nest_way c old l k p q is fits e made own =
    let f = nest_fact old l p.words.index (subst (λ (x : Operation). next_of Wide x old p.words.index ≡ next.Store l) is e) in
    let wide : Fits Wide (Thin p.words.index f.0) = subst (λ (x : Lock). Fits Wide x) f.1 fits in
    let new : Fits Wide (Thin p.words.index (f.0 + 1)) = (wide.0, wide.1, (let lt : f.0 < 255 = f.2 in omega arith)) in
    let deed : stored_kind (Thin p.words.index f.0) (Thin p.words.index (f.0 + 1)) ≡ word.Nest = grind arith in
    subst (λ (x : Operation). Went (At (InCall (Storing c l))) (Said (stored_reply x)) p q) is
    (store_way c l f.0 k word.Nest p q wide (subst (λ (x : Lock). Fits Wide x) (sym f.3) new) (subst (λ (x : Lock). next_of Wide c.operation x p.words.index ≡ next.Store l) f.1 e)
    (subst (λ (x : Lock). stored_kind (Thin p.words.index f.0) x ≡ word.Nest) (sym f.3) deed) made own)

pub release_way : (c : MonitorCall) (old l : Lock) (k : ℕ) (p q : Holding) → c.operation ≡ op.Exit → l ≡ Free → Fits Wide old → next_of Wide c.operation old p.words.index ≡ next.Store l
    → MakesEvent c.object.0 word.Release k p.words q.words → q.own ≡ p.own → Went (At (InCall (Storing c l))) (Said reply.Exited) p q
release_way c old l k p q is new fits e made own =
    let f = release_fact old p.words.index (subst (λ (x : Operation). next_of Wide x old p.words.index ≡ next.Store Free) is (subst (λ (x : Lock). next_of Wide c.operation old p.words.index ≡ next.Store x) new e)) in
    subst (λ (x : Operation). Went (At (InCall (Storing c l))) (Said (stored_reply x)) p q) is
    (store_way c l 0 k word.Release p q (subst (λ (x : Lock). Fits Wide x) f fits) (subst (λ (x : Lock). Fits Wide x) (sym new) tt)
    (subst (λ (x : Lock). next_of Wide c.operation x p.words.index ≡ next.Store l) f e) (subst (λ (x : Lock). stored_kind (Thin p.words.index 0) x ≡ word.Release) (sym new) refl) made own)

pub unnest_way : (c : MonitorCall) (old l : Lock) (i d k : ℕ) (p q : Holding) → c.operation ≡ op.Exit → l ≡ Thin i d → Fits Wide old → next_of Wide c.operation old p.words.index ≡ next.Store l
    → MakesEvent c.object.0 word.Unnest k p.words q.words → q.own ≡ p.own → Went (At (InCall (Storing c l))) (Said reply.Exited) p q
unnest_way c old l i d k p q is new fits e made own =
    let f = less_fact old i d p.words.index (subst (λ (x : Operation). next_of Wide x old p.words.index ≡ next.Store (Thin i d)) is (subst (λ (x : Lock). next_of Wide c.operation old p.words.index ≡ next.Store x) new e)) in
    let wide : Fits Wide (Thin p.words.index (f.0 + 1)) = subst (λ (x : Lock). Fits Wide x) f.1 fits in
    let less : Fits Wide (Thin p.words.index f.0) = (wide.0, wide.1, (let le : f.0 + 1 ≤ 255 = wide.2 in omega arith)) in
    let same : l ≡ Thin p.words.index f.0 = new ∙ f.2 in
    let deed : stored_kind (Thin p.words.index (f.0 + 1)) (Thin p.words.index f.0) ≡ word.Unnest = grind arith in
    subst (λ (x : Operation). Went (At (InCall (Storing c l))) (Said (stored_reply x)) p q) is
    (store_way c l (f.0 + 1) k word.Unnest p q wide (subst (λ (x : Lock). Fits Wide x) (sym same) less)
    (subst (λ (x : Lock). next_of Wide c.operation x p.words.index ≡ next.Store l) f.1 e)
    (subst (λ (x : Lock). stored_kind (Thin p.words.index (f.0 + 1)) x ≡ word.Unnest) (sym same) deed) made own)

-- the depth of a pass, and the lock of the word that it loaded
pub load_shows : (o w : ℕ) (l : Lock) (n : ℕ) (p q : PassValue) → l ≡ lock_of Wide w → MakesEvent o (word.Load w) n p q
    → ((c : ℕ) → (depth_at p o ≡ c + 1) ↔ (lock_of Wide w ≡ Thin p.index c)) → Shows q.index (depth_at q o) l
load_shows o w l n p q is made shows c = (
  (λ d. is ∙ ((shows c).0 (sym made.new_depth ∙ d) ∙ ap (λ i. Thin i c) (sym made.index))),
  (λ e. made.new_depth ∙ (shows c).1 (sym is ∙ (e ∙ ap (λ i. Thin i c) made.index))),
)

-- a pass whose word is free, or is thin with its own index
pub free_depth : (me d : ℕ) (l : Lock) → Shows me d l → l ≡ Free → d ≡ 0
free_depth me zero l shows is = refl
free_depth me (suc n) l shows is = let never = sym is ∙ (shows n).0 (omega arith) in absurd (cc)

pub bind_depth : (p : Operation) (l : Lock) (me d : ℕ) → next_of Wide p l me ≡ next.Bind → Shows me d l → d ≡ count_of l + 1
bind_depth p l me d e shows =
    let f = own_of_bind Wide p l me (bind_own Wide p l me e) in (shows f.0).1 f.1 ∙ ap (λ (x : Lock). count_of x + 1) (sym f.1)

-- what the loaded word calls for
pub first_way : (c : MonitorCall) (k : Bool) (l : Lock) (n : Next) (me : ℕ) (p q : Holding) → Went (At (InCall (Begun c k))) (point_next c k l (next_of Wide c.operation l p.words.index)) p q
    → me ≡ q.words.index → q.words.index ≡ p.words.index → n ≡ next_of Wide c.operation l me → Went (At (InCall (Begun c k))) (point_next c k l n) p q
first_way c k l n me p q went is same calls =
    subst (λ (x : Next). Went (At (InCall (Begun c k))) (point_next c k l x) p q) (ap (λ i. next_of Wide c.operation l i) (sym same ∙ sym is) ∙ sym calls) went
