-- The moves that may be made in a state are all that can.
use native.Mathlib.Omega.{arith}
use Rattle.std.proofs.Common.{◌≡◌, ◌≤◌, ◌⊎◌, inl, inr, ◌∙◌, subst, sym, ap, refl, ℕ, zero, suc, ◌+◌, ◌*◌, ◌<◌, List, [], ◌∷◌, ◌++◌, length, Option, Some, None, Bool, true, false, if◌then◌else◌, length-append}
use Rattle.std.specs.Prelude.{is_some, slice_get}
use Rattle.std.specs.Option.{option_map, unwrap_or}
use Rattle.std.proofs.lemmas.Bool.{cases_lt, eq-eqb, eqb-true}
use Rattle.std.proofs.lemmas.List.{get_or_append_left}
use Rattle.std.proofs.lemmas.Slice.Eq.{bytes_eq-Decides}
use Rattle.lock_word.specs.declared.ThreadId.{ThreadId}
use Rattle.lock_word.specs.declared.ObjectId.{ObjectId}
use Rattle.fat_monitor.specs.declared.actions.Cause.{Cause}
use Rattle.fat_monitor.specs.declared.actions.Cause.TheVariants as cause
use Rattle.fat_monitor.specs.declared.actions.Reply.{Reply}
use Rattle.fat_monitor.specs.declared.actions.Reply.TheVariants as reply
use Rattle.fast_path.specs.declared.calls.Call.{Call}
use Rattle.fast_path.specs.declared.calls.Call.TheVariants as call
use Rattle.step_core.specs.declared.machine.Doing.{Doing}
use Rattle.step_core.specs.declared.machine.Doing.TheVariants.{Idle, Wants, Waits, Back}
use Rattle.step_core.specs.declared.machine.Doing.TheVariants as doing
use Rattle.step_core.specs.declared.machine.Move.{Move}
use Rattle.step_core.specs.declared.machine.Move.TheVariants as move
use Rattle.step_core.specs.Machine.{Is, IsAnswer, MayRefuse, Steps, Thread, owner_only}
use Rattle.jls_check.specs.declared.threads.Live.{Live}
use Rattle.jls_check.specs.LiveThreads.{live_in, live_of}
use Rattle.jls_check.specs.MachineState.{MachineState, state, thread_of}
use Rattle.jls_check.specs.Numbers.{call_numbers}
use Rattle.jls_check.specs.Taking.{takes}
use Rattle.jls_check.proofs.Judged.{takes_right}
use Rattle.jls_check.proofs.Apart.{call_apart}
use Rattle.explore.specs.declared.programs.Program.{Program}
use Rattle.explore_java.specs.JavaStates.{JavaProgramState, IsProper, after, count_of, is_call, is_left, is_moment, is_want, next_call, noted}
use Rattle.explore_java.specs.Moves.{begin_moves, call_moves, clock_moves, doing_moves, live_moves, moves_below, moves_in, notifies, thread_moves}
use Rattle.explore_java.specs.JavaFound.{IsEnd, first_attach, made_among, move_at}
use Rattle.explore_java.specs.JavaSearches.{AllFoundFrom, AreFoundFrom}

-- ---- a list has a move

abbrev pub HasMove : List Move → Move → Type 0
HasMove ms m = (i : ℕ) × (i < length ms) × (move_at ms i ≡ m)

has_next : (n m : Move) (ms : List Move) → HasMove ms m → HasMove (n ∷ ms) m
has_next n m ms h = let lt = h.1 in (suc h.0, omega (arith, lt), h.2)

has_left : (xs ys : List Move) (m : Move) → HasMove xs m → HasMove (xs ++ ys) m
has_left xs ys m h =
    let lt = h.1 in let l = length-append xs ys in
    (h.0, omega (arith, lt, l), get_or_append_left xs ys first_attach h.0 lt ∙ h.2)

has_right : (xs ys : List Move) (m : Move) → HasMove ys m → HasMove (xs ++ ys) m
has_right [] ys m h = h
has_right (x ∷ xs) ys m h = has_next x m (xs ++ ys) (has_right xs ys m h)

-- ---- what a state shows

live_act : (x : Option Live) (flag : Bool) (d : Doing) → option_map thread_of x ≡ Some (record { flag = flag; act = d }) → (y : Live) × (x ≡ Some y) × (y.act ≡ d)
live_act None flag d e = absurd (cc)
live_act (Some y) flag d e = (y, refl, ap (λ (o : Option Thread). (unwrap_or o (record { flag = flag; act = d })).act) e)

never : {A : Type 0} (x : A) → None ≡ Some x → ⊥
never x e = cc

-- a live thread is one of the program
pub live_below : (p : Program) (s : JavaProgramState) (t : ThreadId) (y : Live) → IsProper p s → live_of s.machine.threads t ≡ Some y → t.0 < count_of p
live_below p s t y proper e = by (cases_lt t.0 (count_of p))
  where
    by : (t.0 < count_of p) ⊎ (count_of p ≤ t.0) → t.0 < count_of p
    by (inl lt) = lt
    by (inr le) = absurd (never y (sym (ap live_in (proper.below t.0 le)) ∙ e))

has_below : (p : Program) (s : JavaProgramState) (n k : ℕ) (m : Move) → k < n → HasMove (thread_moves p s k) m → HasMove (moves_below p s n) m
has_below p s zero k m lt h = absurd (omega (arith, lt))
has_below p s (suc n) k m lt h = by (cases_lt k n) (λ below. has_below p s n k m below h)
  where
    by : (k < n) ⊎ (n ≤ k) → (k < n → HasMove (moves_below p s n) m) → HasMove (moves_below p s (suc n)) m
    by (inl below) more = has_left (moves_below p s n) (thread_moves p s n) m (more below)
    by (inr past) more =
        let same : k ≡ n = omega (arith, lt, past) in
        has_right (moves_below p s n) (thread_moves p s n) m (subst (λ (j : ℕ). HasMove (thread_moves p s j) m) same h)

-- what a thread may do that is doing this
by_thread : (p : Program) (s : JavaProgramState) (t : ThreadId) (flag : Bool) (d : Doing) (m : Move) → IsProper p s
    → Is (state s.machine) t flag d → HasMove (doing_moves p s t d) m → HasMove (moves_in p s) m
by_thread p s t flag d m proper is h =
    let x = live_act (live_of s.machine.threads t) flag d is in
    let lt = live_below p s t x.0 proper x.1 in
    let own : HasMove (thread_moves p s t.0) m =
    subst (λ (o : Option Live). HasMove (live_moves p s t o) m) (sym x.1) (subst (λ (e : Doing). HasMove (doing_moves p s t e) m) (sym x.2) h) in
    has_left (moves_below p s (count_of p)) (clock_moves (slice_get p.moments.items s.told)) m (has_below p s (count_of p) t.0 m lt own)

-- ---- each move

has_notify : (t u : ThreadId) (n : ℕ) → u.0 < n → HasMove (notifies t n) (move.Notify t (Some u))
has_notify t u zero lt = absurd (omega (arith, lt))
has_notify t u (suc n) lt = by (cases_lt u.0 n) (λ below. has_notify t u n below)
  where
    last : List Move
    last = move.Notify t (Some (record { 0 = n })) ∷ []

    by : (u.0 < n) ⊎ (n ≤ u.0) → (u.0 < n → HasMove (notifies t n) (move.Notify t (Some u))) → HasMove (notifies t (suc n)) (move.Notify t (Some u))
    by (inl below) more = has_left (notifies t n) last (move.Notify t (Some u)) (more below)
    by (inr past) more =
        let same : n ≡ u.0 = omega (arith, lt, past) in
        has_right (notifies t n) last (move.Notify t (Some u)) (0, omega arith, λ i. move.Notify t (Some (record { 0 = same i })))

behind_two : (a b m : Move) (ms : List Move) → HasMove ms m → HasMove (a ∷ b ∷ ms) m
behind_two a b m ms h = let lt = h.1 in (suc (suc h.0), omega (arith, lt), h.2)

illegal_has : (n : ℕ) (t : ThreadId) (c : Call) (o : ObjectId) → owner_only c ≡ Some o → HasMove (call_moves n t c) (move.Illegal t)
illegal_has n t (call.Enter p) o e = absurd (cc)
illegal_has n t (call.Exit p) o e = (1, omega arith, refl)
illegal_has n t (call.Wait p millis nanos) o e = (1, omega arith, refl)
illegal_has n t (call.Notify p) o e = (0, omega arith, refl)
illegal_has n t (call.NotifyAll p) o e = (1, omega arith, refl)
illegal_has n t (call.Holds p) o e = absurd (cc)
illegal_has n t (call.Interrupt u) o e = absurd (cc)
illegal_has n t call.Interrupted o e = absurd (cc)
illegal_has n t (call.IsInterrupted u) o e = absurd (cc)
illegal_has n t call.End o e = absurd (cc)

ask_has : (v : MachineState) (n : ℕ) (t : ThreadId) (c : Call) (answer : Bool) → IsAnswer (state v) t c answer → HasMove (call_moves n t c) (move.Ask t)
ask_has v n t (call.Enter p) answer h = absurd h
ask_has v n t (call.Exit p) answer h = absurd h
ask_has v n t (call.Wait p millis nanos) answer h = absurd h
ask_has v n t (call.Notify p) answer h = absurd h
ask_has v n t (call.NotifyAll p) answer h = absurd h
ask_has v n t (call.Holds p) answer h = (0, omega arith, refl)
ask_has v n t (call.Interrupt u) answer h = absurd h
ask_has v n t call.Interrupted answer h = absurd h
ask_has v n t (call.IsInterrupted u) answer h = (0, omega arith, refl)
ask_has v n t call.End answer h = absurd h

refuse_has : (v : MachineState) (n : ℕ) (t : ThreadId) (c : Call) (y : Cause) → (if is_want y then false else true) ≡ true → MayRefuse (state v) t c y → HasMove (call_moves n t c) (move.Refuse t y)
refuse_has v n t c cause.NoMonitor left h = absurd (cc)
refuse_has v n t c cause.Memory left h = absurd (cc)
refuse_has v n t (call.Enter p) cause.TooDeep left h = (1, omega arith, refl)
refuse_has v n t (call.Exit p) cause.TooDeep left h = absurd h
refuse_has v n t (call.Wait p millis nanos) cause.TooDeep left h = absurd h
refuse_has v n t (call.Notify p) cause.TooDeep left h = absurd h
refuse_has v n t (call.NotifyAll p) cause.TooDeep left h = absurd h
refuse_has v n t (call.Holds p) cause.TooDeep left h = absurd h
refuse_has v n t (call.Interrupt u) cause.TooDeep left h = absurd h
refuse_has v n t call.Interrupted cause.TooDeep left h = absurd h
refuse_has v n t (call.IsInterrupted u) cause.TooDeep left h = absurd h
refuse_has v n t call.End cause.TooDeep left h = absurd h
refuse_has v n t (call.Enter p) cause.StillOwner left h = absurd h
refuse_has v n t (call.Exit p) cause.StillOwner left h = absurd h
refuse_has v n t (call.Wait p millis nanos) cause.StillOwner left h = absurd h
refuse_has v n t (call.Notify p) cause.StillOwner left h = absurd h
refuse_has v n t (call.NotifyAll p) cause.StillOwner left h = absurd h
refuse_has v n t (call.Holds p) cause.StillOwner left h = absurd h
refuse_has v n t (call.Interrupt u) cause.StillOwner left h = absurd h
refuse_has v n t call.Interrupted cause.StillOwner left h = absurd h
refuse_has v n t (call.IsInterrupted u) cause.StillOwner left h = absurd h
refuse_has v n t call.End cause.StillOwner left h = (1, omega arith, refl)
refuse_has v n t (call.Enter p) cause.NoThread left h = absurd h
refuse_has v n t (call.Exit p) cause.NoThread left h = absurd h
refuse_has v n t (call.Wait p millis nanos) cause.NoThread left h = absurd h
refuse_has v n t (call.Notify p) cause.NoThread left h = absurd h
refuse_has v n t (call.NotifyAll p) cause.NoThread left h = absurd h
refuse_has v n t (call.Holds p) cause.NoThread left h = absurd h
refuse_has v n t (call.Interrupt u) cause.NoThread left h = (1, omega arith, refl)
refuse_has v n t call.Interrupted cause.NoThread left h = absurd h
refuse_has v n t (call.IsInterrupted u) cause.NoThread left h = (1, omega arith, refl)
refuse_has v n t call.End cause.NoThread left h = absurd h

-- equal numbers are those of one call
pub same_call : (c d : Call) → is_call c (Some d) ≡ true → c ≡ d
same_call c d e = (call_apart c d [] [] (ap (λ (l : List ℕ). l ++ []) ((bytes_eq-Decides (call_numbers c) (call_numbers d)).0 e))).0

call_has : (t : ThreadId) (c : Call) (o : Option Call) → is_call c o ≡ true → HasMove (begin_moves t o) (move.Call t c)
call_has t c None e = absurd (cc)
call_has t c (Some d) e = let same = same_call c d e in (0, omega arith, λ i. move.Call t (sym same i))

time_has : (now : ℕ) (o : Option ℕ) → is_moment now o ≡ true → HasMove (clock_moves o) (move.Time now)
time_has now None e = absurd (cc)
time_has now (Some m) e = let same = eqb-true now m e in (0, omega arith, λ i. move.Time (sym same i))

spurious_has : (t : ThreadId) (spurious : Bool) → spurious ≡ true → HasMove (move.Expire t ∷ (if spurious then move.Spurious t ∷ [] else [])) (move.Spurious t)
spurious_has t true e = (1, omega arith, refl)
spurious_has t false e = absurd (cc)

return_has : (p : Program) (s : JavaProgramState) (t : ThreadId) (r : Reply) (next : MachineState) → IsProper p s
    → Steps (state s.machine) (move.Return t r) (state next) → HasMove (moves_in p s) (move.Return t r)
return_has p s t reply.Entered next proper h = by_thread p s t h.0 _ _ proper h.1 (0, omega arith, refl)
return_has p s t reply.Exited next proper h = by_thread p s t h.0 _ _ proper h.1 (0, omega arith, refl)
return_has p s t reply.WaitOver next proper h = by_thread p s t h.0 _ _ proper h.1 (0, omega arith, refl)
return_has p s t reply.Interrupted next proper h = by_thread p s t h.0 _ _ proper h.1 (0, omega arith, refl)
return_has p s t reply.Notified next proper h = by_thread p s t h.0 _ _ proper h.1 (0, omega arith, refl)
return_has p s t reply.Yes next proper h = by_thread p s t h.0 _ _ proper h.1 (0, omega arith, refl)
return_has p s t reply.No next proper h = by_thread p s t h.0 _ _ proper h.1 (0, omega arith, refl)
return_has p s t reply.Done next proper h = by_thread p s t h.0 _ _ proper h.1 (0, omega arith, refl)
return_has p s t reply.Ended next proper h = by_thread p s t h.0 _ _ proper h.1 (0, omega arith, refl)
return_has p s t reply.IllegalMonitorState next proper h = by_thread p s t h.0 _ _ proper h.1 (0, omega arith, refl)
return_has p s t reply.IllegalArgument next proper h = by_thread p s t h.0 _ _ proper h.1 (0, omega arith, refl)
return_has p s t (reply.Refused c) next proper h = by_thread p s t h.0 _ _ proper h.1 (0, omega arith, refl)

-- a lawful move that is left is among them
move_has : (p : Program) (s : JavaProgramState) (m : Move) (next : MachineState) → IsProper p s → is_left p s m ≡ true
    → Steps (state s.machine) m (state next) → HasMove (moves_in p s) m
move_has p s (move.Attach t) next proper left h = absurd (cc)
move_has p s (move.Call t c) next proper left h = by_thread p s t h.0 Idle _ proper h.1 (call_has t c (next_call p s t.0) left)
move_has p s (move.Return t r) next proper left h = return_has p s t r next proper h
move_has p s (move.Lock t) next proper left h = by_thread p s t h.0 (Wants (call.Enter h.1)) _ proper h.2 (0, omega arith, refl)
move_has p s (move.Unlock t) next proper left h = by_thread p s t h.0 (Wants (call.Exit h.1)) _ proper h.3 (0, omega arith, refl)
move_has p s (move.Illegal t) next proper left h = by_thread p s t h.0 (Wants h.1) _ proper h.3 (illegal_has (count_of p) t h.1 h.2 h.4)
move_has p s (move.BadArgument t) next proper left h =
    by_thread p s t h.0 (Wants (call.Wait h.1 h.2 h.3)) _ proper h.4 (2, omega arith, refl)
move_has p s (move.Early t) next proper left h =
    by_thread p s t true (Wants (call.Wait h.0 h.1 h.2)) _ proper h.3 (3, omega arith, refl)
move_has p s (move.Wait t) next proper left h = by_thread p s t false (Wants (call.Wait h.0 h.1 h.2)) _ proper h.3 (0, omega arith, refl)
move_has p s (move.Notify t (Some u)) next proper left h =
    let x = live_act (live_of s.machine.threads u) h.4 (Waits h.1 h.5 h.6) h.7 in
    by_thread p s t h.0 (Wants (call.Notify h.1)) _ proper h.2 (behind_two (move.Illegal t) (move.Notify t None) (move.Notify t (Some u)) (notifies t (count_of p)) (has_notify t u (count_of p) (live_below p s u x.0 proper x.1)))
move_has p s (move.Notify t None) next proper left h =
    by_thread p s t h.0 (Wants (call.Notify h.1)) _ proper h.2 (1, omega arith, refl)
move_has p s (move.NotifyAll t) next proper left h = by_thread p s t h.0 (Wants (call.NotifyAll h.1)) _ proper h.2 (0, omega arith, refl)
move_has p s (move.Interrupt t) next proper left h = by_thread p s t h.0 (Wants (call.Interrupt h.1)) _ proper h.3 (0, omega arith, refl)
move_has p s (move.TestClear t) next proper left h = by_thread p s t h.0 (Wants call.Interrupted) _ proper h.1 (0, omega arith, refl)
move_has p s (move.Expire t) next proper left h = by_thread p s t h.0 (Waits h.1 h.2 (Some h.3)) _ proper h.4 (0, omega arith, refl)
move_has p s (move.Spurious t) next proper left h =
    by_thread p s t h.0 (Waits h.1 h.2 h.3) _ proper h.4 (spurious_has t p.spurious left)
move_has p s (move.Relock t) next proper left h = by_thread p s t h.0 (Back h.1 h.2 h.3) _ proper h.4 (0, omega arith, refl)
move_has p s (move.Ask t) next proper left h =
    by_thread p s t h.0 (Wants h.2) _ proper h.3 (ask_has s.machine (count_of p) t h.2 h.1 h.4)
move_has p s (move.Refuse t y) next proper left h =
    by_thread p s t h.0 (Wants h.1) _ proper h.2 (refuse_has s.machine (count_of p) t h.1 y left h.3)
move_has p s (move.End t) next proper left h = by_thread p s t h.0 (Wants call.End) _ proper h.1 (0, omega arith, refl)
move_has p s (move.Time now) next proper left h =
    has_right (moves_below p s (count_of p)) _ _ (time_has now (slice_get p.moments.items s.told) left)

-- ---- all that can be made

-- a move that leads somewhere is left, and the machine takes it
pub record IsTaken (p : Program) (s : JavaProgramState) (m : Move) (t : JavaProgramState) : Type 0 where
  pub left : is_left p s m ≡ true
  pub machine : MachineState
  pub takes : takes s.machine m ≡ Some machine
  pub noted : t ≡ noted s m machine

pub after_taken : (p : Program) (s : JavaProgramState) (m : Move) (t : JavaProgramState) → after p s m ≡ Some t → IsTaken p s m t
after_taken p s m t e = by (is_left p s m) refl (takes s.machine m) refl e
  where
    by : (b : Bool) → is_left p s m ≡ b → (o : Option MachineState) → takes s.machine m ≡ o
        → (if b then option_map (noted s m) o else None) ≡ Some t → IsTaken p s m t
    by false l o h g = absurd (cc)
    by true l None h g = absurd (cc)
    by true l (Some v) h g = record { left = l; machine = v; takes = h; noted = sym (ap (λ (x : Option JavaProgramState). unwrap_or x t) g) }

pub covers : (p : Program) (s : JavaProgramState) (m : Move) (t : JavaProgramState) → IsProper p s → after p s m ≡ Some t → HasMove (moves_in p s) m
covers p s m t proper e =
    let x = after_taken p s m t e in
    move_has p s m x.machine proper x.left (takes_right s.machine m x.machine proper.sound x.takes)

pub all_found : (p : Program) (ws : List (List Move)) (d : ℕ) (s : JavaProgramState) → IsProper p s
    → AreFoundFrom p ws d s (moves_in p s) (length (moves_in p s)) → AllFoundFrom p ws d s
all_found p ws d s proper found = λ m t e.
    let h = covers p s m t proper e in
    found h.0 t h.1 (subst (λ (n : Move). after p s n ≡ Some t) (sym h.2) e)

-- none of the first of these moves can be made
abbrev pub NoneMade : Program → JavaProgramState → List Move → ℕ → Type 0
NoneMade p s ms n = (i : ℕ) → i < n → after p s (move_at ms i) ≡ None

pub is_end : (p : Program) (s : JavaProgramState) → IsProper p s → NoneMade p s (moves_in p s) (length (moves_in p s)) → IsEnd p s
is_end p s proper none = λ m t e.
    let h = covers p s m t proper e in
    never t (sym (none h.0 h.1) ∙ subst (λ (n : Move). after p s n ≡ Some t) (sym h.2) e)

pub none_made : (p : Program) (s : JavaProgramState) (ms : List Move) (n : ℕ) → made_among p s ms n ≡ 0 → NoneMade p s ms n
none_made p s ms zero e = λ i lt. absurd (omega (arith, lt))
none_made p s ms (suc n) e = λ i lt. by i lt (cases_lt i n) (λ g. none_made p s ms n g i) (after p s (move_at ms n)) refl
  where
    by : (i : ℕ) → i < suc n → (i < n) ⊎ (n ≤ i) → (made_among p s ms n ≡ 0 → i < n → after p s (move_at ms i) ≡ None)
        → (o : Option JavaProgramState) → after p s (move_at ms n) ≡ o → after p s (move_at ms i) ≡ None
    by i lt (inl below) more o h = more (let g = e in omega (arith, g)) below
    by i lt (inr past) more None h = let same : i ≡ n = omega (arith, lt, past) in ap (λ (k : ℕ). after p s (move_at ms k)) same ∙ h
    by i lt (inr past) more (Some t) h =
        let one : made_among p s ms n + 1 ≡ 0 = ap (λ (x : Option JavaProgramState). made_among p s ms n + (if is_some x then 1 else 0)) (sym h) ∙ e in
        absurd (omega (arith, one))

pub some_made : (p : Program) (s : JavaProgramState) (ms : List Move) (n : ℕ) → IsEnd p s → (made_among p s ms n ≡ 0 → ⊥) → ⊥
some_made p s ms n end some = some (zero_made n)
  where
    zero_made : (k : ℕ) → made_among p s ms k ≡ 0
    zero_made zero = refl
    zero_made (suc k) = by (after p s (move_at ms k)) refl (zero_made k)
      where
        by : (o : Option JavaProgramState) → after p s (move_at ms k) ≡ o → made_among p s ms k ≡ 0
            → made_among p s ms k + (if is_some (after p s (move_at ms k)) then 1 else 0) ≡ 0
        by None h z = rw h (omega (arith, z))
        by (Some t) h z = absurd (end (move_at ms k) t h)

-- ---- there are few, and each is left

length_notifies : (t : ThreadId) (n : ℕ) → length (notifies t n) ≡ n
length_notifies t zero = refl
length_notifies t (suc n) = let h = length_notifies t n in let l = length-append (notifies t n) (move.Notify t (Some (record { 0 = n })) ∷ []) in omega (arith, h, l)

few_call : (n : ℕ) (t : ThreadId) (c : Call) → length (call_moves n t c) ≤ n + 4
few_call n t (call.Enter o) = omega arith
few_call n t (call.Exit o) = omega arith
few_call n t (call.Wait o millis nanos) = omega arith
few_call n t (call.Notify o) = let l = length_notifies t n in omega (arith, l)
few_call n t (call.NotifyAll o) = omega arith
few_call n t (call.Holds o) = omega arith
few_call n t (call.Interrupt u) = omega arith
few_call n t call.Interrupted = omega arith
few_call n t (call.IsInterrupted u) = omega arith
few_call n t call.End = omega arith

few_begin : (t : ThreadId) (o : Option Call) → length (begin_moves t o) ≤ 1
few_begin t None = omega arith
few_begin t (Some c) = omega arith

few_wait : (t : ThreadId) (spurious : Bool) → length (move.Expire t ∷ (if spurious then move.Spurious t ∷ [] else [])) ≤ 2
few_wait t true = omega arith
few_wait t false = omega arith

few_doing : (p : Program) (s : JavaProgramState) (t : ThreadId) (d : Doing) → length (doing_moves p s t d) ≤ count_of p + 4
few_doing p s t Idle = let h = few_begin t (next_call p s t.0) in omega (arith, h)
few_doing p s t (Wants c) = few_call (count_of p) t c
few_doing p s t (Waits o n d) = let h = few_wait t p.spurious in omega (arith, h)
few_doing p s t (Back o n w) = omega arith
few_doing p s t (doing.Has r) = omega arith

few_live : (p : Program) (s : JavaProgramState) (t : ThreadId) (o : Option Live) → length (live_moves p s t o) ≤ count_of p + 4
few_live p s t None = omega arith
few_live p s t (Some x) = few_doing p s t x.act

few_below : (p : Program) (s : JavaProgramState) (n : ℕ) → count_of p ≤ 64 → length (moves_below p s n) ≤ n * 68
few_below p s zero few = omega arith
few_below p s (suc n) few =
    let h = few_below p s n few in
    let g = few_live p s (record { 0 = n }) (live_of s.machine.threads (record { 0 = n })) in
    let l = length-append (moves_below p s n) (thread_moves p s n) in
    omega (arith, h, g, l, few)

few_clock : (o : Option ℕ) → length (clock_moves o) ≤ 1
few_clock None = omega arith
few_clock (Some now) = omega arith

-- each of at most 64 threads has 68 moves at most, and the clock has one
pub few_moves : (p : Program) (s : JavaProgramState) → length (moves_in p s) ≤ 4353
few_moves p s =
    let t : count_of p ≤ 64 = (let fit = p.threads_fit in let own = p.starts.ok.0 in omega (arith, fit, own)) in
    let h = few_below p s (count_of p) t in
    let g = few_clock (slice_get p.moments.items s.told) in
    let l = length-append (moves_below p s (count_of p)) (clock_moves (slice_get p.moments.items s.told)) in
    omega (arith, t, h, g, l)

-- each of these moves is left
abbrev AllLeft : Program → JavaProgramState → List Move → Type 0
AllLeft p s [] = Unit {0}
AllLeft p s (m ∷ ms) = (is_left p s m ≡ true) × AllLeft p s ms

left_append : (p : Program) (s : JavaProgramState) (xs ys : List Move) → AllLeft p s xs → AllLeft p s ys → AllLeft p s (xs ++ ys)
left_append p s [] ys h g = g
left_append p s (x ∷ xs) ys h g = (h.0, left_append p s xs ys h.1 g)

left_at : (p : Program) (s : JavaProgramState) (ms : List Move) (i : ℕ) → AllLeft p s ms → i < length ms → is_left p s (move_at ms i) ≡ true
left_at p s [] i h lt = absurd (omega (arith, lt))
left_at p s (m ∷ ms) zero h lt = h.0
left_at p s (m ∷ ms) (suc i) h lt = left_at p s ms i h.1 (omega (arith, lt))

notifies_left : (p : Program) (s : JavaProgramState) (t : ThreadId) (n : ℕ) → AllLeft p s (notifies t n)
notifies_left p s t zero = tt
notifies_left p s t (suc n) = left_append p s (notifies t n) (move.Notify t (Some (record { 0 = n })) ∷ []) (notifies_left p s t n) (refl, tt)

call_moves_left : (p : Program) (s : JavaProgramState) (n : ℕ) (t : ThreadId) (c : Call) → AllLeft p s (call_moves n t c)
call_moves_left p s n t (call.Enter o) = (refl, (refl, tt))
call_moves_left p s n t (call.Exit o) = (refl, (refl, tt))
call_moves_left p s n t (call.Wait o millis nanos) = (refl, (refl, (refl, (refl, tt))))
call_moves_left p s n t (call.Notify o) = (refl, (refl, notifies_left p s t n))
call_moves_left p s n t (call.NotifyAll o) = (refl, (refl, tt))
call_moves_left p s n t (call.Holds o) = (refl, tt)
call_moves_left p s n t (call.Interrupt u) = (refl, (refl, tt))
call_moves_left p s n t call.Interrupted = (refl, tt)
call_moves_left p s n t (call.IsInterrupted u) = (refl, (refl, tt))
call_moves_left p s n t call.End = (refl, (refl, tt))

pub own_call : (c : Call) → is_call c (Some c) ≡ true
own_call c = (bytes_eq-Decides (call_numbers c) (call_numbers c)).1 refl

begin_moves_left : (p : Program) (s : JavaProgramState) (t : ThreadId) (o : Option Call) → next_call p s t.0 ≡ o → AllLeft p s (begin_moves t o)
begin_moves_left p s t None e = tt
begin_moves_left p s t (Some c) e = (ap (is_call c) e ∙ own_call c, tt)

wait_moves_left : (p : Program) (s : JavaProgramState) (t : ThreadId) (b : Bool) → p.spurious ≡ b → AllLeft p s (move.Expire t ∷ (if b then move.Spurious t ∷ [] else []))
wait_moves_left p s t true e = (refl, (e, tt))
wait_moves_left p s t false e = (refl, tt)

doing_moves_left : (p : Program) (s : JavaProgramState) (t : ThreadId) (d : Doing) → AllLeft p s (doing_moves p s t d)
doing_moves_left p s t Idle = begin_moves_left p s t (next_call p s t.0) refl
doing_moves_left p s t (Wants c) = call_moves_left p s (count_of p) t c
doing_moves_left p s t (Waits o n d) = wait_moves_left p s t p.spurious refl
doing_moves_left p s t (Back o n w) = (refl, tt)
doing_moves_left p s t (doing.Has r) = (refl, tt)

live_moves_left : (p : Program) (s : JavaProgramState) (t : ThreadId) (o : Option Live) → AllLeft p s (live_moves p s t o)
live_moves_left p s t None = tt
live_moves_left p s t (Some x) = doing_moves_left p s t x.act

below_left : (p : Program) (s : JavaProgramState) (n : ℕ) → AllLeft p s (moves_below p s n)
below_left p s zero = tt
below_left p s (suc n) =
    left_append p s (moves_below p s n) (thread_moves p s n) (below_left p s n)
    (live_moves_left p s (record { 0 = n }) (live_of s.machine.threads (record { 0 = n })))

clock_left : (p : Program) (s : JavaProgramState) (o : Option ℕ) → slice_get p.moments.items s.told ≡ o → AllLeft p s (clock_moves o)
clock_left p s None e = tt
clock_left p s (Some now) e = (ap (is_moment now) e ∙ eq-eqb now now refl, tt)

pub moves_left : (p : Program) (s : JavaProgramState) (i : ℕ) → i < length (moves_in p s) → is_left p s (move_at (moves_in p s) i) ≡ true
moves_left p s i lt =
    left_at p s (moves_in p s) i
    (left_append p s (moves_below p s (count_of p)) (clock_moves (slice_get p.moments.items s.told)) (below_left p s (count_of p)) (clock_left p s (slice_get p.moments.items s.told) refl)) lt
