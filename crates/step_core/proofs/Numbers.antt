-- The numbers of a world tell it apart, whatever numbers stand behind them.
use Rattle.std.proofs.Common.{◌≡◌, ℕ, zero, suc, ◌+◌, Bool, true, false, List, [], ◌∷◌, ◌++◌, length, get_or, ℤ, pos, negsuc}
use Rattle.std.proofs.Common.{Option, Some, None, is_some, IsSome, refl, sym, ◌∙◌, ap, arith}
use Rattle.std.specs.Prelude.{slice_index, ◌<◌, ◌^◌, Result, Ok, Err, OnOk, ⊤}
use Rattle.std.specs.Option.{unwrap_or}
use Rattle.std.specs.Cmp.{nat_cmp_total}
use Rattle.std.specs.FinMap as map
use Rattle.std.specs.FinMap.{same_map, nat_cmp-IsAntisymmetric}
use Rattle.std.proofs.lemmas.Option.{same_Some}
use Rattle.std.proofs.lemmas.List.{get_or-append-add, length-append}
use Rattle.lock_word.specs.declared.ThreadId.{ThreadId}
use Rattle.lock_word.specs.declared.Word.{Word}
use Rattle.lock_word.specs.declared.Split.{Split}
use Rattle.lock_word.specs.declared.Split.TheVariants.{Wide, Deep}
use Rattle.lock_word.specs.declared.Lock.{Lock}
use Rattle.lock_word.specs.declared.Lock.TheVariants.{Free, Thin, Fat}
use Rattle.thread_index.specs.Indices.{berth_of, holder_at}
use Rattle.thread_index.proofs.Berths.{berth_found}
use Rattle.fat_monitor.specs.declared.actions.Post.{Post}
use Rattle.fat_monitor.specs.declared.actions.Post.TheVariants.{Out}
use Rattle.fat_monitor.specs.FatState.{FatState, flag_at, post_at, post_of, IsAttached}
use Rattle.fat_monitor.specs.Numbers.{fat_numbers}
use Rattle.fat_monitor.proofs.Fronts.{first, behind}
use Rattle.fat_monitor.proofs.Apart.{IsApart, IsReadBack, read_apart, truth_of, truth_back, record_apart, regrouped, fats_apart, IsSameButThreads}
use Rattle.fast_path.specs.declared.calls.Operation.{Operation}
use Rattle.fast_path.specs.declared.calls.Operation.TheVariants.{Enter, Exit, Wait, Notify, NotifyAll, Holds}
use Rattle.fast_path.specs.declared.calls.MonitorCall.{MonitorCall}
use Rattle.fast_path.specs.declared.calls.InterruptCall.{InterruptCall}
use Rattle.fast_path.specs.declared.calls.InterruptCall.TheVariants as about
use Rattle.step_core.specs.declared.places.Place.{Place}
use Rattle.step_core.specs.declared.places.Place.TheVariants.{Idle, InCall, Ending, AtPost}
use Rattle.step_core.specs.declared.places.Stage.{Stage}
use Rattle.step_core.specs.declared.places.Stage.TheVariants.{Begun, Taking, Storing, Binding, Acting, Won, Bound}
use Rattle.step_core.specs.declared.places.Stage.TheVariants.{Inflated, Direct}
use Rattle.step_core.specs.World.{WorldState}
use Rattle.step_core.specs.Sound.{IsSound}
use Rattle.step_core.specs.Numbers.{split_number, operation_numbers, call_numbers, place_numbers, holder_numbers, berths_numbers}
use Rattle.step_core.specs.Numbers.{words_numbers, numbers_of, IsNumbered}

-- ---- a place

abbrev signed_of : ℕ → ℕ → ℤ
signed_of zero n = pos n
signed_of (suc k) n = negsuc n

abbrev read_wait : List ℕ → Operation × List ℕ
read_wait ns =
    let more = behind (behind ns) in
    (Wait (signed_of (first ns) (first (behind ns))) (signed_of (first more) (first (behind more))), behind (behind more))

-- what is read behind the number of an operation
abbrev operation_readers : List (List ℕ → Operation × List ℕ)
operation_readers =
    (λ ns. (Enter, ns)) ∷ (λ ns. (Exit, ns)) ∷ read_wait ∷ (λ ns. (Notify, ns)) ∷ (λ ns. (NotifyAll, ns))
    ∷ (λ ns. (Holds, ns)) ∷ []

abbrev read_operation : List ℕ → Operation × List ℕ
read_operation ns = (get_or operation_readers (first ns) read_wait) (behind ns)

operation_back : IsReadBack operation_numbers read_operation
operation_back Enter rest = refl
operation_back Exit rest = refl
operation_back (Wait (pos m) (pos n)) rest = refl
operation_back (Wait (pos m) (negsuc n)) rest = refl
operation_back (Wait (negsuc m) (pos n)) rest = refl
operation_back (Wait (negsuc m) (negsuc n)) rest = refl
operation_back Notify rest = refl
operation_back NotifyAll rest = refl
operation_back Holds rest = refl

abbrev call_from : ℕ → Operation × List ℕ → MonitorCall × List ℕ
call_from object read = (record { object = record { 0 = object }; operation = read.0 }, read.1)

abbrev read_call : List ℕ → MonitorCall × List ℕ
read_call ns = call_from (first ns) (read_operation (behind ns))

call_back : IsReadBack call_numbers read_call
call_back c rest = ap (call_from c.object.0) (operation_back c.operation rest)

abbrev lock_from : ℕ → ℕ → ℕ → Lock
lock_from zero a b = Free
lock_from (suc zero) a b = Thin a b
lock_from (suc (suc k)) a b = Fat a

abbrev interrupt_from : ℕ → ℕ → InterruptCall
interrupt_from zero t = about.Interrupt (record { 0 = t })
interrupt_from (suc zero) t = about.Interrupted
interrupt_from (suc (suc k)) t = about.IsInterrupted (record { 0 = t })

abbrev with_call : (MonitorCall → Stage) → MonitorCall × List ℕ → Place × List ℕ
with_call stage read = (InCall (stage read.0), read.1)

-- what is read behind the number of a place
abbrev place_readers : List (List ℕ → Place × List ℕ)
place_readers =
    (λ ns. (Idle, ns))
    ∷ (λ ns. (AtPost, ns))
    ∷ (λ ns. (Ending (first ns), behind ns))
    ∷ (λ ns. with_call (λ c. Begun c (truth_of (first ns))) (read_call (behind ns)))
    ∷ (λ ns. (InCall (Taking (record { 0 = first (behind ns) }) (truth_of (first ns))), behind (behind ns)))
    ∷ (λ ns.
    with_call
    (λ c. Storing c (lock_from (first ns) (first (behind ns)) (first (behind (behind ns)))))
    (read_call (behind (behind (behind ns)))))
    ∷ (λ ns. with_call (λ c. Binding c (first ns)) (read_call (behind ns)))
    ∷ (λ ns. with_call (λ c. Acting c (first ns)) (read_call (behind ns)))
    ∷ (λ ns. (InCall (Won (record { 0 = first ns })), behind ns))
    ∷ (λ ns. with_call (λ c. Bound c (truth_of (first ns)) (first (behind ns))) (read_call (behind (behind ns))))
    ∷ (λ ns. with_call (λ c. Inflated c (first ns)) (read_call (behind ns)))
    ∷ (λ ns. (InCall (Direct (interrupt_from (first ns) (first (behind ns)))), behind (behind ns)))
    ∷ []

abbrev read_place : List ℕ → Place × List ℕ
read_place ns = (get_or place_readers (first ns) (λ ms. (Idle, ms))) (behind ns)

place_back : IsReadBack place_numbers read_place
place_back Idle rest = refl
place_back AtPost rest = refl
place_back (Ending n) rest = refl
place_back (InCall (Begun c contended)) rest =
    λ i. with_call (λ d. Begun d (truth_back contended i)) (call_back c rest i)
place_back (InCall (Taking o contended)) rest = λ i. (InCall (Taking o (truth_back contended i)), rest)
place_back (InCall (Storing c Free)) rest = ap (with_call (λ d. Storing d Free)) (call_back c rest)
place_back (InCall (Storing c (Thin a b))) rest = ap (with_call (λ d. Storing d (Thin a b))) (call_back c rest)
place_back (InCall (Storing c (Fat m))) rest = ap (with_call (λ d. Storing d (Fat m))) (call_back c rest)
place_back (InCall (Binding c n)) rest = ap (with_call (λ d. Binding d n)) (call_back c rest)
place_back (InCall (Acting c m)) rest = ap (with_call (λ d. Acting d m)) (call_back c rest)
place_back (InCall (Won o)) rest = refl
place_back (InCall (Bound c won m)) rest =
    λ i. with_call (λ d. Bound d (truth_back won i) m) (call_back c rest i)
place_back (InCall (Inflated c m)) rest = ap (with_call (λ d. Inflated d m)) (call_back c rest)
place_back (InCall (Direct (about.Interrupt t))) rest = refl
place_back (InCall (Direct about.Interrupted)) rest = refl
place_back (InCall (Direct (about.IsInterrupted t))) rest = refl

place_apart : IsApart place_numbers
place_apart = read_apart place_numbers read_place place_back

-- ---- the berths

-- a thread has the same record in both
abbrev HasSameRecord : FatState → FatState → ThreadId → Type 0
HasSameRecord f g t = (flag_at f t ≡ flag_at g t) × (post_at f t ≡ post_at g t)

record IsSameHolder (f g : FatState) (h k : Option ThreadId) (a b : List ℕ) : Type 0 where
  holder : h ≡ k
  recorded : (t : ThreadId) → h ≡ Some t → HasSameRecord f g t
  rest : a ≡ b

holder_apart : (f g : FatState) (h k : Option ThreadId) (a b : List ℕ) → holder_numbers f h ++ a ≡ holder_numbers g k ++ b → IsSameHolder f g h k a b
holder_apart f g None None a b e = record { holder = refl; recorded = λ t h. absurd (cc); rest = ap behind e }
holder_apart f g None (Some u) a b e = absurd (let h = ap first e in omega arith)
holder_apart f g (Some t) None a b e = absurd (let h = ap first e in omega arith)
holder_apart f g (Some t) (Some u) a b e =
    let number : t.0 ≡ u.0 = let h = ap first e in omega arith in
    let thread : t ≡ u = λ i. record { 0 = number i } in
    let both = record_apart (flag_at f t, post_at f t) (flag_at g u, post_at g u) a b (ap behind e) in
    record {
      holder = ap Some thread;
      recorded = λ v h. of v thread (same_Some t v h) both.0;
      rest = both.1;
    }
  where
    of : (v : ThreadId) → t ≡ u → t ≡ v → ◌≡◌ {A = Bool × Post} (flag_at f t, post_at f t) (flag_at g u, post_at g u) → HasSameRecord f g v
    of v thread here both = (
      ap (flag_at f) (sym here) ∙ ap (λ p. p.0) both ∙ ap (flag_at g) (sym thread ∙ here),
      ap (post_at f) (sym here) ∙ ap (λ p. p.1) both ∙ ap (post_at g) (sym thread ∙ here),
    )

record AreSameBerths (f g : FatState) (hs ks : List (Option ThreadId)) (ps qs : List Place) (a b : List ℕ) : Type 0 where
  holders : hs ≡ ks
  places : ps ≡ qs
  recorded : (k : ℕ) (t : ThreadId) → holder_at hs k ≡ Some t → HasSameRecord f g t
  rest : a ≡ b

berths_apart : (f g : FatState) (hs ks : List (Option ThreadId)) (ps qs : List Place) (a b : List ℕ)
    → length hs ≡ length ks → length ps ≡ length hs → length qs ≡ length ks
    → berths_numbers f hs ps ++ a ≡ berths_numbers g ks qs ++ b → AreSameBerths f g hs ks ps qs a b
berths_apart f g [] [] [] [] a b many here there e =
    record { holders = refl; places = refl; recorded = λ k t h. absurd (cc); rest = e }
berths_apart f g [] [] [] (q ∷ qs) a b many here there e = absurd (omega arith)
berths_apart f g [] [] (p ∷ ps) qs a b many here there e = absurd (omega arith)
berths_apart f g [] (k ∷ ks) ps qs a b many here there e = absurd (omega arith)
berths_apart f g (h ∷ hs) [] ps qs a b many here there e = absurd (omega arith)
berths_apart f g (h ∷ hs) (k ∷ ks) [] qs a b many here there e = absurd (omega arith)
berths_apart f g (h ∷ hs) (k ∷ ks) (p ∷ ps) [] a b many here there e = absurd (omega arith)
berths_apart f g (h ∷ hs) (k ∷ ks) (p ∷ ps) (q ∷ qs) a b many here there e =
    let split = regrouped (holder_numbers f h) (place_numbers p ++ berths_numbers f hs ps) (holder_numbers g k) (place_numbers q ++ berths_numbers g ks qs) a b e in
    let one = holder_apart f g h k _ _ split in
    let place = place_apart p q _ _ (regrouped (place_numbers p) (berths_numbers f hs ps) (place_numbers q) (berths_numbers g ks qs) a b one.rest) in
    let more = berths_apart f g hs ks ps qs a b (omega arith) (omega arith) (omega arith) place.1 in
    record {
      holders = λ i. one.holder i ∷ more.holders i;
      places = λ i. place.0 i ∷ more.places i;
      recorded = at one more;
      rest = more.rest;
    }
  where
    at : {c d : List ℕ} → IsSameHolder f g h k c d → AreSameBerths f g hs ks ps qs a b → (j : ℕ) (t : ThreadId) → holder_at (h ∷ hs) j ≡ Some t → HasSameRecord f g t
    at one more zero t held = one.recorded t held
    at one more (suc j) t held = more.recorded j t held

-- ---- the words

words_apart : (xs ys : List Word) (a b : List ℕ) → length xs ≡ length ys → words_numbers xs ++ a ≡ words_numbers ys ++ b → (xs ≡ ys) × (a ≡ b)
words_apart [] [] a b many e = (refl, e)
words_apart [] (y ∷ ys) a b many e = absurd (omega arith)
words_apart (x ∷ xs) [] a b many e = absurd (omega arith)
words_apart (x ∷ xs) (y ∷ ys) a b many e =
    let word : x.0 ≡ y.0 = ap first e in
    let more = words_apart xs ys a b (omega arith) (ap behind e) in
    (λ i. record { 0 = word i } ∷ more.0 i, more.1)

-- ---- the fat state

same_option : {X : Type 0} (o p : Option X) (d : X) → is_some o ≡ is_some p → (IsSome o → unwrap_or o d ≡ unwrap_or p d) → o ≡ p
same_option None None d both same = refl
same_option None (Some y) d both same = absurd (cc)
same_option (Some x) None d both same = absurd (cc)
same_option (Some x) (Some y) d both same = ap Some (same refl)

same_truth : (a b : Bool) → (a ≡ true → b ≡ true) → (b ≡ true → a ≡ true) → a ≡ b
same_truth false false forth back = refl
same_truth false true forth back = back refl
same_truth true b forth back = sym (forth refl)

-- exactly the threads that have berths are attached
attached_where_berthed : (w : WorldState) (t : ThreadId) → IsSound w → is_some (post_of w.fats t) ≡ is_some (berth_of w.berths t)
attached_where_berthed w t sound = same_truth _ _ (sound.live t) (sound.attached t)

module _ (v w : WorldState) (first_numbered : IsNumbered v) (second_numbered : IsNumbered w)
    (holders : v.berths ≡ w.berths)
    (recorded : (k : ℕ) (t : ThreadId) → holder_at v.berths k ≡ Some t → HasSameRecord v.fats w.fats t) where
  both_attached : (t : ThreadId) → is_some (post_of v.fats t) ≡ is_some (post_of w.fats t)
  both_attached t =
      attached_where_berthed v t first_numbered.sound
      ∙ ap (λ (hs : List (Option ThreadId)). is_some (berth_of hs t)) holders
      ∙ sym (attached_where_berthed w t second_numbered.sound)

  of_attached : (t : ThreadId) → IsAttached v.fats t → HasSameRecord v.fats w.fats t
  of_attached t attached = at (berth_of v.berths t) refl (first_numbered.sound.live t attached)
    where
      at : (o : Option ℕ) → berth_of v.berths t ≡ o → IsSome o → HasSameRecord v.fats w.fats t
      at None e some = absurd (cc)
      at (Some k) e some = recorded k t (berth_found v.berths t k e).1

  same_threads : v.fats.threads ≡ w.fats.threads
  same_threads = same_map nat_cmp_total nat_cmp-IsAntisymmetric _ _ (λ q. at (record { 0 = q }))
    where
      at : (t : ThreadId) → map.get v.fats.threads t.0 ≡ map.get w.fats.threads t.0
      at t = same_option _ _ Out (both_attached t) (λ some. (of_attached t some).1)

  same_flags : v.fats.flags ≡ w.fats.flags
  same_flags = same_map nat_cmp_total nat_cmp-IsAntisymmetric _ _ (λ q. at (record { 0 = q }))
    where
      at : (t : ThreadId) → map.get v.fats.flags t.0 ≡ map.get w.fats.flags t.0
      at t =
          same_option _ _ false
          (first_numbered.flagged t.0 ∙ both_attached t ∙ sym (second_numbered.flagged t.0))
          (λ some. (of_attached t (sym (first_numbered.flagged t.0) ∙ some)).0)

  same_fats : IsSameButThreads v.fats w.fats → v.fats ≡ w.fats
  same_fats same =
      λ i. record {
        monitors = same.monitors i;
        threads = same_threads i;
        flags = same_flags i;
        standing = same.standing i;
        moment = same.moment i;
        limit = same.limit i;
        spare = same.spare i;
      }

-- ---- worlds

abbrev split_from : ℕ → Split
split_from zero = Wide
split_from (suc k) = Deep

split_back : (s : Split) → split_from (split_number s) ≡ s
split_back Wide = refl
split_back Deep = refl

pub worlds_apart : (v w : WorldState) (a b : List ℕ) → IsNumbered v → IsNumbered w → numbers_of v ++ a ≡ numbers_of w ++ b → (v ≡ w) × (a ≡ b)
worlds_apart v w a b numbered numbered' e =
    let split : v.split ≡ w.split = sym (split_back v.split) ∙ ap split_from (ap first e) ∙ split_back w.split in
    let many : length v.berths ≡ length w.berths = ap first (ap behind (ap behind e)) in
    let words = words_apart v.words w.words _ _ (ap first (ap behind e))
    (regrouped (words_numbers v.words) (berths_numbers v.fats v.berths v.places ++ fat_numbers v.fats) (words_numbers w.words) (berths_numbers w.fats w.berths w.places ++ fat_numbers w.fats) a b (ap behind (ap behind (ap behind e)))) in
    let berths = berths_apart v.fats w.fats v.berths w.berths v.places w.places _ _ many numbered.sound.berthed numbered'.sound.berthed
    (regrouped (berths_numbers v.fats v.berths v.places) (fat_numbers v.fats) (berths_numbers w.fats w.berths w.places) (fat_numbers w.fats) a b words.1) in
    let fats = fats_apart v.fats w.fats a b numbered.sound.fats numbered'.sound.fats berths.rest in
    let same = same_fats v w numbered numbered' berths.holders berths.recorded fats.0 in (
      λ i. record { split = split i; words = words.0 i; berths = berths.holders i; places = berths.places i; fats = same i },
      fats.1,
    )

-- numbers that were put into a list of 64-bit numbers have 64 bits
pub fits_when_put : {E : Type 0} (r : Result ⊤ E) (all old ns : List ℕ) → ((k d : ℕ) → k < length all → get_or all k d < 2 ^ 64)
    → OnOk r (all ≡ old ++ ns) → OnOk r ((k : ℕ) → k < length ns → slice_index ns k < 2 ^ 64)
fits_when_put (Ok x) all old ns fit put =
    λ k h.
    let long : length all ≡ length old + length ns = ap length put ∙ length-append old ns in
    let there : slice_index all (length old + k) < 2 ^ 64 = fit (length old + k) 0 (omega arith) in
    rw (put, get_or-append-add old ns k 0) at there
fits_when_put (Err e) all old ns fit put = tt
