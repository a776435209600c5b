-- Lanes that lag behind the columns, and are brought up to them where a move touches their threads.
use Rattle.std.proofs.Common.{◌≡◌, ℕ, suc, ◌-◌, ◌≤◌, Bool, true, false, List, [], ◌∷◌, ◌++◌, length, length-append, map, refl, sym, ap, ◌∙◌, append_assoc, append-nil, arith}
use Rattle.std.proofs.lemmas.List.{map-append}
use Rattle.std.specs.List.{AllZip}
use Rattle.std.specs.Option.{option_map}
use Rattle.lock_word.specs.declared.ThreadId.{ThreadId}
use Rattle.step_core.specs.declared.machine.Move.{Move}
use Rattle.step_core.specs.Machine.{State, Steps}
use Rattle.pictures.specs.declared.columns.Column.{Column}
use Rattle.pictures.specs.declared.late.LateLane.{LateLane}
use Rattle.pictures.specs.declared.picture.Lane.{Lane}
use Rattle.pictures.specs.Late.{IsBrought, IsFinished, IsKept, IsLate, IsOpenLane, said_through}
use Rattle.pictures.specs.Made.{calls_made, replies_made}
use Rattle.pictures.specs.Pictures.{AreLanes, IsLane}
use Rattle.pictures.specs.Spans.{covered, live_as, repeated, said_of}
use Rattle.pictures.specs.Touched.{is_touched, touched_by}
use Rattle.pictures.proofs.Made.{own_calls_are, own_replies_are}
use Rattle.pictures.proofs.MoreColumns.{repeated_more, repeated_none}
use Rattle.pictures.proofs.Touches.{untouched}
use Rattle.pictures.proofs.Zips.{zip_map, zip_same, zip_then}

-- ---- one move after another

kept_same : (n : ℕ) (s : State) (l : LateLane) → IsKept n s s l l
kept_same n s l = record { thread = refl; calls = refl; replies = refl; within = λ h. h; said = refl }

kept_then : (n : ℕ) (s mid s' : State) (l m k : LateLane) → IsKept n s mid l m → IsKept n mid s' m k → IsKept n s s' l k
kept_then n s mid s' l m k p q = record {
  thread = q.thread ∙ p.thread;
  calls = q.calls ∙ p.calls;
  replies = q.replies ∙ p.replies;
  within = λ h. q.within (p.within h);
  said = q.said ∙ p.said;
}

pub lanes_same : (n : ℕ) (s : State) (ls : List LateLane) → AllZip (IsKept n s s) ls ls
lanes_same n s ls = zip_same (IsKept n s s) ls (kept_same n s)

pub lanes_then : (n : ℕ) (s mid s' : State) (ls ms ks : List LateLane) → AllZip (IsKept n s mid) ls ms → AllZip (IsKept n mid s') ms ks → AllZip (IsKept n s s') ls ks
lanes_then n s mid s' ls ms ks p q = zip_then (IsKept n s mid) (IsKept n mid s') (IsKept n s s') ls ms ks (kept_then n s mid s') p q

-- ---- a move

-- a lane that covers the columns in front says the same of them whatever its thread does
covers : (n : ℕ) (s s' : State) (m : LateLane) → n ≤ m.covered → said_through n s' m ≡ said_through n s m
covers n s s' m all =
    ap (λ r. covered m.lane.spans.items ++ r) (repeated_none n m.covered (said_of m.lane.thread s') all ∙ sym (repeated_none n m.covered (said_of m.lane.thread s) all))

stays : (n : ℕ) (s s' : State) (m : LateLane) → s'.thread m.lane.thread ≡ s.thread m.lane.thread → said_through n s' m ≡ said_through n s m
stays n s s' m e = ap (λ x. covered m.lane.spans.items ++ repeated (n - m.covered) (option_map live_as x)) e

kept_by : (n : ℕ) (s s' : State) (l m : LateLane) → IsKept n s s l m → said_through n s' m ≡ said_through n s m → IsKept n s s' l m
kept_by n s s' l m p e = record { thread = p.thread; calls = p.calls; replies = p.replies; within = p.within; said = e ∙ p.said }

lane_stepped : (n : ℕ) (s s' : State) (made : Move) → Steps s made s' → (l m : LateLane) → IsBrought n s (touched_by s made) l m → IsKept n s s' l m
lane_stepped n s s' made step l m p = kept_by n s s' l m p.kept (by_touch (is_touched s (touched_by s made) l.lane.thread) refl)
  where
    by_touch : (b : Bool) → is_touched s (touched_by s made) l.lane.thread ≡ b → said_through n s' m ≡ said_through n s m
    by_touch true e = covers n s s' m (p.done e)
    by_touch false e =
        let other = ap (λ t. is_touched s (touched_by s made) t) p.kept.thread ∙ e in
        stays n s s' m (untouched s s' made m.lane.thread step other)

pub lanes_stepped : (n : ℕ) (s s' : State) (made : Move) (ls ms : List LateLane) → Steps s made s' → AllZip (IsBrought n s (touched_by s made)) ls ms → AllZip (IsKept n s s') ls ms
lanes_stepped n s s' made ls ms step p = zip_map (IsBrought n s (touched_by s made)) (IsKept n s s') ls ms (lane_stepped n s s' made step) p

-- ---- columns

lane_opened : (cs : List Column) (s : State) (t : ThreadId) (l : LateLane) → IsOpenLane (calls_made 0 cs) (replies_made 0 cs) t l → IsLate cs [] s t l
lane_opened cs s t l p = record {
  thread = p.thread;
  within = omega (arith, p.none);
  said = ap (λ x. covered x ++ repeated (0 - l.covered) (said_of l.lane.thread s)) p.spans ∙ repeated_none 0 l.covered (said_of l.lane.thread s) (omega arith);
  calls = p.calls_are ∙ own_calls_are t 0 cs;
  replies = p.replies_are ∙ own_replies_are t 0 cs;
}

pub lanes_opened : (cs : List Column) (s : State) (ts : List ThreadId) (ls : List LateLane) → AllZip (IsOpenLane (calls_made 0 cs) (replies_made 0 cs)) ts ls → AllZip (IsLate cs [] s) ts ls
lanes_opened cs s ts ls p = zip_map (IsOpenLane (calls_made 0 cs) (replies_made 0 cs)) (IsLate cs [] s) ts ls (lane_opened cs s) p

lane_more : (cs : List Column) (states : List State) (now next : State) (t : ThreadId) (l m : LateLane) → IsLate cs states now t l → IsKept (length states) now next l m
    → IsLate cs (states ++ next ∷ []) next t m
lane_more cs states now next t l m p q =
    let few : m.covered ≤ length states = q.within p.within in
    let longer : length (states ++ next ∷ []) - m.covered ≡ suc (length states - m.covered) = omega (arith, few, length-append states (next ∷ [])) in
    record {
      thread = q.thread ∙ p.thread;
      within = omega (arith, few, length-append states (next ∷ []));
      said = ap (λ i. covered m.lane.spans.items ++ repeated i (said_of m.lane.thread next)) longer
          ∙ ap (λ r. covered m.lane.spans.items ++ r) (repeated_more (length states - m.covered) (said_of m.lane.thread next))
          ∙ sym (append_assoc (covered m.lane.spans.items) (repeated (length states - m.covered) (said_of m.lane.thread next)) (said_of m.lane.thread next ∷ []))
          ∙ ap (λ r. r ++ said_of m.lane.thread next ∷ []) (q.said ∙ p.said)
          ∙ ap (λ u. map (said_of t) states ++ said_of u next ∷ []) (q.thread ∙ p.thread)
          ∙ sym (map-append (said_of t) states (next ∷ []));
      calls = q.calls ∙ p.calls;
      replies = q.replies ∙ p.replies;
    }

pub lanes_more : (cs : List Column) (states : List State) (now next : State) (ts : List ThreadId) (ls ms : List LateLane) → AllZip (IsLate cs states now) ts ls
    → AllZip (IsKept (length states) now next) ls ms → AllZip (IsLate cs (states ++ next ∷ []) next) ts ms
lanes_more cs states now next ts ls ms p q =
    zip_then (IsLate cs states now) (IsKept (length states) now next) (IsLate cs (states ++ next ∷ []) next) ts ls ms (lane_more cs states now next) p q

lane_finished : (cs : List Column) (states : List State) (now : State) (t : ThreadId) (l : LateLane) (m : Lane) → IsLate cs states now t l → IsFinished (length states) now l m
    → IsLane cs states t m
lane_finished cs states now t l m p q = record {
  thread = q.thread ∙ p.thread;
  spans = q.spans ∙ p.said;
  calls = q.calls ∙ p.calls;
  replies = q.replies ∙ p.replies;
}

pub lanes_finished : (cs : List Column) (states : List State) (now : State) (ts : List ThreadId) (ls : List LateLane) (ms : List Lane) → AllZip (IsLate cs states now) ts ls
    → AllZip (IsFinished (length states) now) ls ms → AreLanes cs states ts ms
lanes_finished cs states now [] [] [] p q = tt
lanes_finished cs states now [] [] (m ∷ ms) p q = absurd q
lanes_finished cs states now [] (l ∷ ls) ms p q = absurd p
lanes_finished cs states now (t ∷ ts) [] ms p q = absurd p
lanes_finished cs states now (t ∷ ts) (l ∷ ls) [] p q = absurd q
lanes_finished cs states now (t ∷ ts) (l ∷ ls) (m ∷ ms) p q = (lane_finished cs states now t l m p.0 q.0, lanes_finished cs states now ts ls ms p.1 q.1)

-- the lane, brought up to n columns, has them
pub finished : (n : ℕ) (s : State) (l m : LateLane) → IsKept n s s l m → n ≤ m.covered → IsFinished n s l m.lane
finished n s l m p all = record {
  thread = p.thread;
  calls = p.calls;
  replies = p.replies;
  spans = sym (ap (λ r. covered m.lane.spans.items ++ r) (repeated_none n m.covered (said_of m.lane.thread s) all) ∙ append-nil (covered m.lane.spans.items)) ∙ p.said;
}
