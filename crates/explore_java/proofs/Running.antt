-- What is played is a run that the program leaves to the machine, and every such run is played.
use native.Mathlib.Omega.{arith}
use Rattle.std.proofs.Common.{◌≡◌, ◌∙◌, subst, sym, ap, refl, ℕ, ◌-◌, ◌<◌, List, [], ◌∷◌, ◌++◌, length, Option, Some, None, Bool, true, false, append_assoc, append-nil, length-append, ◌≤◌}
use Rattle.std.specs.Prelude.{map}
use Rattle.std.specs.Option.{unwrap_or}
use Rattle.lock_word.specs.declared.ThreadId.{ThreadId}
use Rattle.fast_path.specs.declared.calls.Call.{Call}
use Rattle.step_core.specs.declared.machine.Doing.{Doing}
use Rattle.step_core.specs.declared.machine.Move.{Move}
use Rattle.step_core.specs.declared.machine.Move.TheVariants as move
use Rattle.step_core.specs.Machine.{Is, Run, State, Steps, opening as opening_state}
use Rattle.step_core.proofs.Sound.AllSteps.{Run-append}
use Rattle.jls_check.specs.MachineState.{state}
use Rattle.jls_check.proofs.Judged.{takes_right}
use Rattle.jls_check.proofs.OneNext.{one_next}
use Rattle.explore.specs.declared.programs.Program.{Program}
use Rattle.explore.specs.States.{start_of, thread_of}
use Rattle.explore_java.specs.JavaFound.{FindsAll, FoundJavaStates, IsAt, IsEnd, end_at, witness_at}
use Rattle.explore_java.specs.JavaRuns.{IsFront, IsLeft, IsOutcomeOf, IsRunOf, Rests, Shows, NoneForWant, attaches_of, called_by, calls_in, calls_of, is_for_want, moments_in, returned_by, returns_in, threads_below, told_by, woken_by, woken_in}
use Rattle.explore_java.specs.JavaStates.{IsProper, JavaProgramState, after, count_of, opening, played, played_from, replies_of}
use Rattle.explore_java.proofs.Locks.{AreRight, opening_right, run_right}
use Rattle.explore_java.proofs.Resting.{IsOwn, at_rest, no_want}
use Rattle.explore_java.proofs.CallFronts.{front_of}
use Rattle.explore_java.specs.Moves.{moves_in}
use Rattle.explore_java.proofs.Choosing.{HasMove, after_taken, covers}
use Rattle.explore_java.proofs.Making.{noted_machine}
use Rattle.explore_java.proofs.Returning.{AreReturned, next_of}
use Rattle.explore_java.proofs.Playing.{IsPlay, attaches_run, attaches_want, begin_play, not_for_want, play_next, told_behind}
use Rattle.explore_java.proofs.Leaving.{KeepsTo, behind_left, left_behind, left_next, leads_on}
use Rattle.explore_java.proofs.ProperPlays.{AreProper, all_proper, found_proper}
use Rattle.explore_java.proofs.Replying.{begin_returned, returned_next}

no_lead : (p : Program) (ms : List Move) (t : JavaProgramState) → played_from p ms None ≡ Some t → ⊥
no_lead p [] t e = cc
no_lead p (m ∷ ms) t e = cc

-- a run in two parts
run_parts : (xs ys : List Move) (s t : State) → Run s (xs ++ ys) t → (u : State) × Run s xs u × Run u ys t
run_parts [] ys s t r = (s, refl, r)
run_parts (m ∷ xs) ys s t r = let rest = run_parts xs ys r.0 t r.2 in (rest.0, (r.0, r.1, rest.1), rest.2)

-- the same moves lead to one state
run_one : (ms : List Move) (s a b : State) → Run s ms a → Run s ms b → a ≡ b
run_one [] s a b p q = p ∙ sym q
run_one (m ∷ ms) s a b p q =
    run_one ms p.0 a b p.2 (subst (λ (u : State). Run u ms b) (one_next m s q.0 p.0 q.1 p.1) q.2)

want_behind : (ts : List ThreadId) (ms : List Move) → NoneForWant (map (λ (t : ThreadId). move.Attach t) ts ++ ms) → NoneForWant ms
want_behind [] ms h = h
want_behind (t ∷ ts) ms h = want_behind ts ms h.1

module _ (p : Program) where
  -- ---- a play is a run
  record IsRunTo (done todo : List Move) (s t : JavaProgramState) : Type 0 where
    play : IsPlay p (done ++ todo) t
    returned : AreReturned p (done ++ todo) t
    proper : IsProper p t
    run : Run (state s.machine) todo (state t.machine)

  run_from : (todo done : List Move) (s t : JavaProgramState) → IsPlay p done s → AreReturned p done s → AreProper p s todo → played_from p todo (Some s) ≡ Some t
      → IsRunTo done todo s t
  run_from [] done s t play returned right e =
      let same : s ≡ t = ap (λ (o : Option JavaProgramState). unwrap_or o t) e in
      record {
        play = subst (λ (ms : List Move). IsPlay p ms t) (sym (append-nil done)) (subst (λ (u : JavaProgramState). IsPlay p done u) same play);
        returned = subst (λ (ms : List Move). AreReturned p ms t) (sym (append-nil done)) (subst (λ (u : JavaProgramState). AreReturned p done u) same returned);
        proper = subst (λ (u : JavaProgramState). IsProper p u) same right;
        run = ap (λ (u : JavaProgramState). state u.machine) (sym same);
      }
  run_from (m ∷ todo) done s t play returned right e =
      by (after p s m) refl e (λ u next back h g. run_from todo (done ++ m ∷ []) u t next back (right.1 u h) g)
    where
      by : (o : Option JavaProgramState) → after p s m ≡ o → played_from p todo o ≡ Some t
          → ((u : JavaProgramState) → IsPlay p (done ++ m ∷ []) u → AreReturned p (done ++ m ∷ []) u → after p s m ≡ Some u → played_from p todo (Some u) ≡ Some t
          → IsRunTo (done ++ m ∷ []) todo u t)
          → IsRunTo done (m ∷ todo) s t
      by None h g rest = absurd (no_lead p todo t g)
      by (Some u) h g rest =
          let x = after_taken p s m u h in
          let proper = right.0 in
          let back = subst (λ (q : JavaProgramState). AreReturned p (done ++ m ∷ []) q) (sym x.noted)
          (returned_next p done s play proper returned m x.machine x.left (takes_right s.machine m x.machine proper.sound x.takes)) in
          let more = rest u (play_next p done s u m play h) back h g in
          let step : Steps (state s.machine) m (state u.machine) =
          subst (λ (v : State). Steps (state s.machine) m v) (sym (ap (λ (q : JavaProgramState). state q.machine) x.noted ∙ ap state (noted_machine s m x.machine)))
          (takes_right s.machine m x.machine proper.sound x.takes) in
          record {
            play = subst (λ (ms : List Move). IsPlay p ms t) (append_assoc done (m ∷ []) todo) more.play;
            returned = subst (λ (ms : List Move). AreReturned p ms t) (append_assoc done (m ∷ []) todo) more.returned;
            proper = more.proper;
            run = (state u.machine, step, more.run);
          }

  played_run : (ms : List Move) (t : JavaProgramState) → AreProper p (opening p) ms → played p ms ≡ Some t → IsRunTo [] ms (opening p) t
  played_run ms t right e = run_from ms [] (opening p) t (begin_play p) (begin_returned p) right e

  -- The moves that lead to a state are a run that the program may make, behind the attaches.
  pub play_is_run : (ms : List Move) (t : JavaProgramState) → AreProper p (opening p) ms → played p ms ≡ Some t → IsRunOf p (attaches_of p ++ ms) (state t.machine)
  play_is_run ms t right e =
      let r = played_run ms t right e in
      let play = r.play in
      record {
        run = Run-append (opening_state (length p.lows.items)) (attaches_of p) (state (opening p).machine) ms (state t.machine) (attaches_run p (count_of p)) r.run;
        attaches = (ms, refl, play.attaches);
        calls = λ k lt.
            front_of (calls_in (thread_of k) (attaches_of p ++ ms)) (calls_of p k) (next_of t k - start_of p k)
            (told_behind (called_by (thread_of k)) (λ u. refl) p ms ∙ (play.calls k lt).made);
        moments = front_of (moments_in (attaches_of p ++ ms)) p.moments.items t.told (told_behind told_by (λ u. refl) p ms ∙ play.moments);
        woken = λ never. told_behind woken_by (λ u. refl) p ms ∙ play.woken never;
      }

  pub play_wants : (ms : List Move) (t : JavaProgramState) → AreProper p (opening p) ms → played p ms ≡ Some t → NoneForWant (attaches_of p ++ ms)
  play_wants ms t right e = attaches_want (threads_below (count_of p)) ms (played_run ms t right e).play.wants

  -- in which the calls of each thread return with the replies of the state
  pub play_returns : (ms : List Move) (t : JavaProgramState) (k : ℕ) → AreProper p (opening p) ms → played p ms ≡ Some t → k < count_of p
      → returns_in (thread_of k) (attaches_of p ++ ms) ≡ replies_of p t k
  play_returns ms t k right e lt = told_behind (returned_by (thread_of k)) (λ u. refl) p ms ∙ ((played_run ms t right e).returned.threads k lt).said

  -- Behind it each move can be made that the machine may make and the program leaves to it, but for refusals for want,
  pub lawful_is_made : (ms : List Move) (t : JavaProgramState) → AreProper p (opening p) ms → played p ms ≡ Some t → (m : Move) (y : State)
      → IsLeft p (attaches_of p ++ ms) m → is_for_want m ≡ false → Steps (state t.machine) m y → (u : JavaProgramState) × (after p t m ≡ Some u) × (state u.machine ≡ y)
  lawful_is_made ms t right e m y left want h =
      let r = played_run ms t right e in
      leads_on p ms t r.play r.proper m y (behind_left p ms t r.play r.proper m left want) h

  -- and no other.
  pub made_is_lawful : (ms : List Move) (t u : JavaProgramState) → AreProper p (opening p) ms → played p ms ≡ Some t → (m : Move) → after p t m ≡ Some u
      → IsLeft p (attaches_of p ++ ms) m × (is_for_want m ≡ false) × Steps (state t.machine) m (state u.machine)
  made_is_lawful ms t u right e m made =
      let r = played_run ms t right e in
      let x = after_taken p t m u made in (
        left_behind p ms t r.play r.proper m x.left,
        not_for_want p t m x.left,
        subst (λ (v : State). Steps (state t.machine) m v) (sym (ap (λ (q : JavaProgramState). state q.machine) x.noted ∙ ap state (noted_machine t m x.machine)))
            (takes_right t.machine m x.machine r.proper.sound x.takes),
      )

  -- Each is among those that are counted there.
  pub move_is_counted : (ms : List Move) (t u : JavaProgramState) (m : Move) → AreProper p (opening p) ms → played p ms ≡ Some t → after p t m ≡ Some u
      → HasMove (moves_in p t) m
  move_is_counted ms t u m right here e = covers p t m u (played_run ms t right here).proper e

  -- and where it is an end, the machine can do nothing more that the program leaves to it
  pub end_is_stuck : (ms : List Move) (t : JavaProgramState) → AreProper p (opening p) ms → played p ms ≡ Some t → IsEnd p t
      → (m : Move) (y : State) → IsLeft p (attaches_of p ++ ms) m → is_for_want m ≡ false → Steps (state t.machine) m y → ⊥
  end_is_stuck ms t right e end m y left want h = let u = lawful_is_made ms t right e m y left want h in end m u.0 u.1

module _ (p : Program) (f : FoundJavaStates) (finds : FindsAll p f) where
  -- ---- a run is played
  record IsPlayed (done todo : List Move) (x : State) : Type 0 where
    to : JavaProgramState
    play : IsPlay p (done ++ todo) to
    shows : state to.machine ≡ x

  play_from : (todo done : List Move) (s : JavaProgramState) (x : State) → IsPlay p done s → KeepsTo p (done ++ todo) → NoneForWant todo → Run (state s.machine) todo x
      → IsPlayed done todo x
  play_from [] done s x play keeps wants r = record {
    to = s;
    play = subst (λ (ms : List Move). IsPlay p ms s) (sym (append-nil done)) play;
    shows = sym r;
  }
  play_from (m ∷ todo) done s x play keeps wants r =
      let proper = found_proper p f finds done s play.leads in
      let left = left_next p done s play proper m todo r.0 keeps wants.0 r.1 in
      let u = leads_on p done s play proper m r.0 left r.1 in
      let assoc = append_assoc done (m ∷ []) todo in
      let more = play_from todo (done ++ m ∷ []) u.0 x (play_next p done s u.0 m play u.1)
      (subst (λ (ms : List Move). KeepsTo p ms) (sym assoc) keeps) wants.1 (subst (λ (v : State). Run v todo x) (sym u.2) r.2) in
      record {
        to = more.to;
        play = subst (λ (ms : List Move). IsPlay p ms more.to) assoc more.play;
        shows = more.shows;
      }

  run_played : (ms : List Move) (x : State) → IsRunOf p ms x → NoneForWant ms → (rest : List Move) × (ms ≡ attaches_of p ++ rest) × IsPlayed [] rest x
  run_played ms x of wants =
      let rest : List Move = of.attaches.0 in
      let parts = run_parts (attaches_of p) rest (opening_state (length p.lows.items)) x (subst (λ (l : List Move). Run (opening_state (length p.lows.items)) l x) of.attaches.1 of.run) in
      let same : parts.0 ≡ state (opening p).machine = run_one (attaches_of p) _ parts.0 (state (opening p).machine) parts.1 (attaches_run p (count_of p)) in
      let keeps : KeepsTo p rest = record {
        calls = λ k lt.
            subst (λ (cs : List Call). IsFront cs (calls_of p k)) (told_behind (called_by (thread_of k)) (λ u. refl) p rest)
            (subst (λ (l : List Move). IsFront (calls_in (thread_of k) l) (calls_of p k)) of.attaches.1 (of.calls k lt));
        moments = subst (λ (ns : List ℕ). IsFront ns p.moments.items) (told_behind told_by (λ u. refl) p rest)
            (subst (λ (l : List Move). IsFront (moments_in l) p.moments.items) of.attaches.1 of.moments);
        woken = λ never. sym (told_behind woken_by (λ u. refl) p rest) ∙ ap woken_in (sym of.attaches.1) ∙ of.woken never;
        attaches = of.attaches.2;
      } in (
        rest,
        of.attaches.1,
        play_from rest [] (opening p) x (begin_play p) keeps
            (want_behind (threads_below (count_of p)) rest (subst (λ (l : List Move). NoneForWant l) of.attaches.1 wants))
            (subst (λ (v : State). Run v rest x) same parts.2),
      )

  -- the state of a played run shows what the run leads to
  shows_run : (ms : List Move) (x : State) (r : (rest : List Move) × (ms ≡ attaches_of p ++ rest) × IsPlayed [] rest x) → Shows p ms x r.2.to
  shows_run ms x r = record {
    machine = r.2.shows;
    replies = λ k lt. ap (returns_in (thread_of k)) r.1 ∙ play_returns p r.0 r.2.to k (all_proper p f finds r.0) r.2.play.leads lt;
  }

  -- what is found is found with no more moves
  no_longer : (ms rest : List Move) → ms ≡ attaches_of p ++ rest → (k : ℕ) → length (witness_at f.witnesses k) ≤ length rest
      → length (attaches_of p ++ witness_at f.witnesses k) ≤ length ms
  no_longer ms rest e k le =
      let all = ap (λ (l : List Move). length l) e in
      let one = length-append (attaches_of p) (witness_at f.witnesses k) in
      let two = length-append (attaches_of p) rest in
      omega (arith, all, one, two, le)

  -- Whatever run of the machine a program may make, without a refusal for want, leads to what is found.
  pub run_is_found : (ms : List Move) (x : State) → IsRunOf p ms x → NoneForWant ms
      → (k : ℕ) × (k < length f.witnesses) × (t : JavaProgramState) × IsAt p f.witnesses k t × Shows p ms x t
      × (length (attaches_of p ++ witness_at f.witnesses k) ≤ length ms)
  run_is_found ms x of wants =
      let r = run_played ms x of wants in
      let k = finds.complete r.0 r.2.to r.2.play.leads in
      (k.0, k.1, r.2.to, k.2, shows_run ms x r, no_longer ms r.0 r.1 k.0 (finds.shortest k.0 r.0 r.2.to k.1 k.2 r.2.play.leads))

  -- and where the machine can do nothing more, it is found among the ends
  pub outcome_is_end : (ms : List Move) (x : State) → IsOutcomeOf p ms x → NoneForWant ms
      → (i : ℕ) × (i < length f.ends) × (t : JavaProgramState) × IsAt p f.witnesses (end_at f i) t × Shows p ms x t
      × (length (attaches_of p ++ witness_at f.witnesses (end_at f i)) ≤ length ms)
  outcome_is_end ms x out wants =
      let r = run_played ms x out.of wants in
      let to = r.2.to in
      let play = r.2.play in
      let proper = found_proper p f finds r.0 to play.leads in
      let k = finds.complete r.0 to play.leads in
      let end : IsEnd p to = (λ m u e.
      let taken_so = after_taken p to m u e in
      out.stuck m (state taken_so.machine) (subst (λ (l : List Move). IsLeft p l m) (sym r.1) (left_behind p r.0 to play proper m taken_so.left))
      (subst (λ (v : State). Steps v m (state taken_so.machine)) r.2.shows (takes_right to.machine m taken_so.machine proper.sound taken_so.takes))) in
      let i = finds.ends.every k.0 to k.1 k.2 end in
      let le = no_longer ms r.0 r.1 k.0 (finds.shortest k.0 r.0 to k.1 k.2 play.leads) in (
        i.0,
        i.1,
        to,
        subst (λ (n : ℕ). IsAt p f.witnesses n to) (sym i.2) k.2,
        shows_run ms x r,
        subst (λ (n : ℕ). length (attaches_of p ++ witness_at f.witnesses n) ≤ length ms) (sym i.2) le,
      )

  -- an end that was found is an outcome, also where the machine may refuse calls for want
  module _ (i : ℕ) (t : JavaProgramState) (lt : i < length f.ends) (here : IsAt p f.witnesses (end_at f i) t) where
    abbrev pub ms : List Move
    ms = witness_at f.witnesses (end_at f i)

    abbrev pub x : State
    x = state t.machine

    end : IsEnd p t
    end =
        let each = finds.ends.each i lt in
        subst (λ (u : JavaProgramState). IsEnd p u) (ap (λ (o : Option JavaProgramState). unwrap_or o t) (sym each.1 ∙ here)) each.2

    right : AreProper p (opening p) ms
    right = all_proper p f finds ms

    of : IsRunOf p (attaches_of p ++ ms) x
    of = play_is_run p ms t right here

    lawful : AreRight x
    lawful = run_right (attaches_of p ++ ms) (opening_state (length p.lows.items)) x (opening_right (length p.lows.items)) of.run

    none : (m : Move) (y : State) → IsOwn m → Steps x m y → ⊥
    none m y own h = end_is_stuck p ms t right here end m y (own.1 p (attaches_of p ++ ms)) own.0 h

    pub found_end_is_outcome : IsOutcomeOf p (attaches_of p ++ ms) x
    found_end_is_outcome = record { of = of; stuck = λ m y left h. by m y left h (is_for_want m) refl }
      where
        by : (m : Move) (y : State) → IsLeft p (attaches_of p ++ ms) m → Steps x m y → (b : Bool) → is_for_want m ≡ b → ⊥
        by m y left h false want = end_is_stuck p ms t right here end m y left want h
        by m y left h true want = no_want x y m lawful none want h

    -- and so who is stuck there is stuck by the rules
    pub found_end_rests : (u : ThreadId) (flag : Bool) (d : Doing) → Is x u flag d → Rests p x u d
    found_end_rests u flag d is = at_rest x lawful none u flag p d (λ y may h. end_is_stuck p ms t right here end (move.Spurious u) y may refl h) is
