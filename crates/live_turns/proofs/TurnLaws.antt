-- A whole turn, put together from what was done at the word, or while the pass had the gate.
use Rattle.std.specs.Prelude.{◌≡◌, ◌<◌, Bool, true, false, None, length, Result, Ok, Err, IfOk, IfErr}
use Rattle.std.proofs.Common.{refl, sym, subst}
use Rattle.fat_monitor.specs.declared.actions.Reply.{Reply}
use Rattle.fast_path.specs.declared.calls.MonitorCall.{MonitorCall}
use Rattle.header_words.specs.Passes.{Opening, PassValue}
use Rattle.step_core.specs.declared.places.Place.TheVariants.{Idle, InCall, Ending, AtPost}
use Rattle.step_core.specs.declared.places.Stage.{Stage}
use Rattle.step_core.specs.declared.places.Stage.TheVariants.{Begun, Taking, Storing, Binding, Acting, Won, Bound, Inflated, Direct}
use Rattle.step_core.specs.declared.paths.Point.{Point}
use Rattle.step_core.specs.declared.paths.Point.TheVariants.{At, Expired, Said}
use Rattle.live_book.specs.declared.faults.LiveFault.{LiveFault}
use Rattle.live_turns.specs.declared.standings.Turned.{Turned}
use Rattle.live_turns.specs.Points.{IsTurnFrom, Knows, Loaded, RestsAtPost, TurnedFrom, TurnedStage, Visited, is_at_book, rests_at_book}
use Rattle.live_turns.specs.Ways.{Belongs, TakesGate, GivesGate, Halted, Holding, VisitsBook, Went, parked}
use Rattle.live_turns.proofs.Going.{went_same, went_held, halted_held}
use Rattle.live_turns.proofs.Gates.{ok_after, err_after}
use Rattle.live_turns.proofs.Visits.{same_visit, held_visit, ok_loaded_at, err_visit}

-- what a turn of a call does that rests at the book
stage_at_book : (s : Stage) (b : Bool) (t : Point) (p q : PassValue) → rests_at_book s ≡ true → Visited b t p q → TurnedStage s b t p q
stage_at_book (Begun c k) b t p q at h = absurd (cc)
stage_at_book (Taking o k) b t p q at h = absurd (cc)
stage_at_book (Storing c l) b t p q at h = absurd (cc)
stage_at_book (Binding c n) b t p q at h = h
stage_at_book (Acting c m) b t p q at h = h
stage_at_book (Won o) b t p q at h = h
stage_at_book (Bound c w m) b t p q at h = absurd (cc)
stage_at_book (Inflated c m) b t p q at h = absurd (cc)
stage_at_book (Direct c) b t p q at h = h

turned_at_book : (s : Point) (b : Bool) (t : Point) (p q : PassValue) → is_at_book s ≡ true → Visited b t p q → TurnedFrom s b t p q
turned_at_book (Said r) b t p q at h = absurd (cc)
turned_at_book (At Idle) b t p q at h = absurd (cc)
turned_at_book (At (InCall s)) b t p q at h = stage_at_book s b t p q at h
turned_at_book (At AtPost) b t p q at h = h
turned_at_book (At (Ending n)) b t p q at h = absurd (cc)
turned_at_book Expired b t p q at h = h

-- no more is known of a call that has its reply, or has parked
knows_at_post : (t : Point) (q : Holding) → RestsAtPost t → Knows t q
knows_at_post (Said r) q h = tt
knows_at_post (At Idle) q h = tt
knows_at_post (At (InCall s)) q h = absurd h
knows_at_post (At AtPost) q h = tt
knows_at_post (At (Ending n)) q h = absurd h
knows_at_post Expired q h = tt

pub knows_parked : (e : Bool) (q : Holding) → Knows (parked e) q
knows_parked true q = tt
knows_parked false q = tt

pub parked_at_book : (e : Bool) → is_at_book (parked e) ≡ true
parked_at_book true = refl
parked_at_book false = refl

-- a turn at the book, where another pass had the gate
pub turned_away : (z : Opening) (s : Point) (t : Turned) (p q : Holding) → Belongs z false p → t ≡ record { point = s; gate_taken = true; granted = None } → is_at_book s ≡ true → Knows s p → q ≡ p
    → IsTurnFrom z s (Ok t) p q
turned_away z s t p q here is at knows same =
    subst (λ (x : Turned). IsTurnFrom z s (Ok x) p q) (sym is) (subst (λ (h : Holding). IsTurnFrom z s (Ok (record { point = s; gate_taken = true; granted = None })) p h) (sym same) (record {
      belongs = here;
      went = went_same s p p refl refl;
      knows = knows;
      halted = tt;
      did = turned_at_book s true s p.words p.words at (at, same_visit p.words p.words refl);
      looked = tt;
    }))

-- and one that took the gate, and gave it back
pub held_turn : (z : Opening) (s : Point) (r : Result Turned LiveFault) (p p' q' q : Holding) → Belongs z false p → TakesGate p p' → VisitsBook 0 p'.words q'.words → GivesGate q' q → Belongs z false q
    → is_at_book s ≡ true → IfOk r (λ t. Went s t.point p' q') → IfErr r (λ f. Halted f s p' q') → IfOk r (λ t. (t.gate_taken ≡ false) × RestsAtPost t.point) → IsTurnFrom z s r p q
held_turn z s (Ok t) p p' q' q here took visit gave back at went halted rests = record {
  belongs = back;
  went = went_held s t.point p p' q' q here.1 took went gave;
  knows = knows_at_post t.point q rests.1;
  halted = tt;
  did = turned_at_book s t.gate_taken t.point p.words q.words at (subst (λ (b : Bool). Visited b t.point p.words q.words) (sym rests.0) (rests.1, held_visit p p' q' q took visit gave));
  looked = tt;
}
held_turn z s (Err f) p p' q' q here took visit gave back at went halted rests = record {
  belongs = back;
  went = tt;
  knows = tt;
  halted = halted_held f s p p' q' q here.1 took halted gave;
  did = tt;
  looked = held_visit p p' q' q took visit gave;
}

-- a turn of which the load says enough: the call has its reply, or has met another thread
pub said_turn : (z : Opening) (c : MonitorCall) (k : Bool) (r : Reply) (t : Turned) (p q : Holding) → t ≡ record { point = Said r; gate_taken = false; granted = None } → Belongs z false q
    → Went (At (InCall (Begun c k))) (Said r) p q → Loaded false (Said r) p.words q.words → IsTurnFrom z (At (InCall (Begun c k))) (Ok t) p q
said_turn z c k r t p q is here went loaded =
    subst (λ (x : Turned). IsTurnFrom z (At (InCall (Begun c k))) (Ok x) p q) (sym is) (record { belongs = here; went = went; knows = tt; halted = tt; did = loaded; looked = tt })

pub contended_turn : (z : Opening) (c : MonitorCall) (k : Bool) (t : Turned) (p q : Holding) → t ≡ record { point = At (InCall (Begun c true)); gate_taken = false; granted = None } → Belongs z false q
    → c.object.0 < length z.lows → Went (At (InCall (Begun c k))) (At (InCall (Begun c true))) p q → Loaded false (At (InCall (Begun c true))) p.words q.words → IsTurnFrom z (At (InCall (Begun c k))) (Ok t) p q
contended_turn z c k t p q is here lt went loaded =
    subst (λ (x : Turned). IsTurnFrom z (At (InCall (Begun c k))) (Ok x) p q) (sym is)
    (record { belongs = here; went = went; knows = subst (λ (o : Opening). c.object.0 < length o.lows) (sym here.0) lt; halted = tt; did = loaded; looked = tt })

-- and one that goes on at the book
visited_stage : (s : Stage) (b : Bool) (t : Point) (p q : PassValue) → rests_at_book s ≡ true → TurnedStage s b t p q → Visited b t p q
visited_stage (Begun c k) b t p q at h = absurd (cc)
visited_stage (Taking o k) b t p q at h = absurd h
visited_stage (Storing c l) b t p q at h = absurd h
visited_stage (Binding c n) b t p q at h = h
visited_stage (Acting c m) b t p q at h = h
visited_stage (Won o) b t p q at h = h
visited_stage (Bound c w m) b t p q at h = absurd h
visited_stage (Inflated c m) b t p q at h = absurd h
visited_stage (Direct c) b t p q at h = h

pub turn_behind_load : (z : Opening) (c : MonitorCall) (k : Bool) (s : Stage) (r : Result Turned LiveFault) (p q u : Holding) → Went (At (InCall (Begun c k))) (At (InCall s)) p q → VisitsBook 0 p.words q.words
    → rests_at_book s ≡ true → IsTurnFrom z (At (InCall s)) r q u → IsTurnFrom z (At (InCall (Begun c k))) r p u
turn_behind_load z c k s (Ok t) p q u went visit at turn = record {
  belongs = turn.belongs;
  went = ok_after (Ok t) (At (InCall (Begun c k))) (At (InCall s)) p q u went turn.went;
  knows = turn.knows;
  halted = tt;
  did = ok_loaded_at (Ok t) p.words q.words u.words visit (visited_stage s t.gate_taken t.point q.words u.words at turn.did);
  looked = tt;
}
turn_behind_load z c k s (Err f) p q u went visit at turn = record {
  belongs = turn.belongs;
  went = tt;
  knows = tt;
  halted = err_after (Err f) (At (InCall (Begun c k))) (At (InCall s)) p q u went turn.halted;
  did = tt;
  looked = err_visit (Err f) p.words q.words u.words visit turn.looked;
}
