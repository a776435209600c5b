-- What always holds of a book, at the start and after each of its methods.
use Rattle.std.specs.Prelude.{◌≡◌, ℕ, zero, suc, ◌+◌, ◌-◌, ◌<◌, ◌≤◌, [], ◌∷◌, length, Some, Result, Ok, Err, true, false, nat_lt}
use Rattle.std.proofs.Common.{refl, sym, ap, ◌∙◌, arith, subst, length-append}
use Rattle.std.proofs.Math.Nat.{le-max_right}
use Rattle.std.proofs.lemmas.Bool.{lt-ltb, le-ltb}
use Rattle.lock_word.specs.declared.ThreadId.{ThreadId}
use Rattle.lock_word.specs.declared.ObjectId.{ObjectId}
use Rattle.fat_monitor.specs.declared.actions.Action.{Action}
use Rattle.fat_monitor.specs.declared.actions.Action.TheVariants as action
use Rattle.fat_monitor.specs.declared.actions.Done.{Done}
use Rattle.fat_monitor.specs.declared.actions.ActFault.{ActFault}
use Rattle.fat_monitor.specs.declared.actions.Post.TheVariants.{Out}
use Rattle.fat_monitor.specs.FatState.{FatState, IsSound, opened, with_moment, bound_with, wait_count}
use Rattle.fat_monitor.specs.Acting.{outcome_of, MayAct, NamesBound}
use Rattle.fat_monitor.proofs.Counts.{sum-insert, sum-empty}
use Rattle.fat_monitor.proofs.Effects.{attached-outcome_of}
use Rattle.fat_monitor.proofs.MonitorEffects.{length-outcome_of, limit-outcome_of, spare-outcome_of}
use Rattle.live_book.specs.declared.faults.BookFault.TheVariants as fault
use Rattle.live_book.specs.declared.deeds.Deed.TheVariants.{Bound, Acted, Ticked}
use Rattle.live_book.specs.Log.{IsForBook, IsThreadOf, Replays, with_threads, nothing_bound}
use Rattle.live_book.specs.Places.{kept_by, kept_by_threads, kept_of, need, gained, freed}
use Rattle.live_book.specs.Book.{BookState, IsBook, opening_book, free_of, with_deed, after_bind, after_act, after_tick, act_answer, told}
use Rattle.live_book.proofs.Weights.{kept-bound_with}
use Rattle.live_book.proofs.Keeping.{KeepsWith, keeps_with}
use Rattle.live_book.proofs.Refusals.{done_after, done_answer}
use Rattle.live_book.proofs.Replaying.{replays_more, limit-with_threads, monitors-with_threads, attached-with_threads}

-- ---- the start

kept-with_threads : (n limit : ℕ) → kept_by_threads (with_threads n (opened limit)) ≤ 0
kept-with_threads zero limit = let none = sum-empty kept_by in omega arith
kept-with_threads (suc n) limit =
    let before = kept-with_threads n limit in
    let one = sum-insert kept_by (with_threads n (opened limit)).threads (suc n) Out in
    omega arith

pub kept-nothing_bound : (passes limit : ℕ) → 0 ≡ kept_of (nothing_bound passes limit)
kept-nothing_bound passes limit =
    let threads = kept-with_threads passes limit in
    let monitors : (with_threads passes (opened limit)).monitors ≡ [] = monitors-with_threads passes (opened limit) in
    rw monitors (omega arith)

pub IsBook-opening_book : (monitors passes places : ℕ) → IsSound (nothing_bound passes monitors) → IsBook (opening_book monitors passes places)
IsBook-opening_book monitors passes places sound = record {
  replays = ap (λ (n : ℕ). nothing_bound passes n) (limit-with_threads passes (opened monitors));
  fits = let none = kept-nothing_bound passes monitors in omega arith;
  attached = attached-with_threads passes monitors;
  spare = let same = limit-with_threads passes (opened monitors) in let m = le-max_right (with_threads passes (opened monitors)).spare monitors in omega arith;
  sound = sound;
}

-- ---- one deed more

pub IsBook-bind : (b : BookState) (t : ThreadId) (o : ObjectId) (n : ℕ) → IsBook b → IsThreadOf b.passes t → 1 ≤ n → n ≤ 256 → length b.fats.monitors < b.fats.limit → 1 + n ≤ free_of b
    → IsSound (bound_with b.fats o t n) → IsBook (after_bind b t o n)
IsBook-bind b t o n is of low high more room sound = record {
  replays = replays_more b.passes (nothing_bound b.passes b.fats.limit) b.log b.fats (record { thread = t; deed = Bound o n (length b.fats.monitors) }) is.replays of (refl, more, low, high);
  fits = let len = length-append b.log ((record { thread = t; deed = Bound o n (length b.fats.monitors) }) ∷ []) in let kept = kept-bound_with b.fats o t n in let was = is.fits in omega arith;
  attached = is.attached;
  spare = let len = length-append b.fats.monitors ((record { object = o; owner = Some t; holds = n }) ∷ []) in let was = is.spare in omega arith;
  sound = sound;
}

pub IsBook-act : (b : BookState) (t : ThreadId) (a : Action) (d : Done) → IsBook b → IsThreadOf b.passes t → IsForBook a → MayAct b.fats t a → NamesBound b.fats a → (outcome_of b.fats t a).answer ≡ Ok d
    → need b.fats t a ≤ free_of b → IsSound (outcome_of b.fats t a).after → IsBook (after_act b t a d.answer)
IsBook-act b t a d is of for may bound told room sound =
    let keeps = keeps_with b.fats t a d is.sound for may bound told in record {
      replays =
          subst (λ (n : ℕ). Replays b.passes (nothing_bound b.passes n) (after_act b t a d.answer).log (outcome_of b.fats t a).after) (sym (limit-outcome_of b.fats t a))
          (replays_more b.passes (nothing_bound b.passes b.fats.limit) b.log b.fats (record { thread = t; deed = Acted a d.answer }) is.replays of (for, may, bound, d, told, refl));
      fits =
          let len = length-append b.log ((record { thread = t; deed = Acted a d.answer }) ∷ []) in let kept = keeps.kept in let needs = keeps.needs in let was = is.fits in omega arith;
      attached = λ u.
          let still = attached-outcome_of b.fats t u a is.sound may (no_end a for) in
          let was = is.attached u in
          ((λ h. was.0 (still.0 h)), (λ h. still.1 (was.1 h)));
      spare = let len = length-outcome_of b.fats t a in let limit = limit-outcome_of b.fats t a in let room = spare-outcome_of b.fats t a in let was = is.spare in omega arith;
      sound = sound;
    }
  where
    no_end : (x : Action) → IsForBook x → x ≡ action.End → ⊥
    no_end x h e = let never : IsForBook action.End = subst IsForBook e h in never

pub IsBook-tick : (b : BookState) (t : ThreadId) (now : ℕ) → IsBook b → IsThreadOf b.passes t → b.fats.moment ≤ now → 1 ≤ free_of b → IsSound (with_moment b.fats now) → IsBook (after_tick b t now)
IsBook-tick b t now is of later room sound = record {
  replays = replays_more b.passes (nothing_bound b.passes b.fats.limit) b.log b.fats (record { thread = t; deed = Ticked now }) is.replays of later;
  fits = let len = length-append b.log ((record { thread = t; deed = Ticked now }) ∷ []) in let was = is.fits in omega arith;
  attached = is.attached;
  spare = is.spare;
  sound = sound;
}

-- What an action with this answer, which left the fat state g, changes of a book b and of the number of kept places: that
-- number has this much more and this much less.
pub record ActsOn (b : BookState) (t : ThreadId) (a : Action) (d : Done) (g : FatState) (kept more less : ℕ) : Type 0 where
  pub within : less ≤ kept + more
  pub place : length b.log + 1 ≤ b.places
  pub kept_now : kept + more - less ≡ kept_of g
  pub is : IsBook (with_deed b t (Acted a d.answer) g)

pub acts_on : (b now : BookState) (t : ThreadId) (a : Action) (d : Done) (g : FatState) (kept free needs more less waited waiting : ℕ) → b ≡ now → IsBook b → kept ≡ kept_of b.fats
    → IsThreadOf now.passes t → IsForBook a → MayAct now.fats t a → NamesBound now.fats a → free ≡ free_of now → needs ≡ need now.fats t a → needs ≤ free
    → record { answer = Ok d; after = g } ≡ outcome_of b.fats t a → IsSound g → waited ≡ wait_count b.fats.threads → waiting ≡ wait_count g.threads
    → more ≡ gained a d.answer → less ≡ freed a d.answer waited waiting → ActsOn b t a d g kept more less
acts_on b now t a d g kept free needs more less waited waiting same is kept_as of for may bound free_as needs_as enough table sound waited_as waiting_as more_as less_as =
    let may_b : MayAct b.fats t a = subst (λ (k : BookState). MayAct k.fats t a) (sym same) may in
    let bound_b : NamesBound b.fats a = subst (λ (k : BookState). NamesBound k.fats a) (sym same) bound in
    let of_b : IsThreadOf b.passes t = subst (λ (k : BookState). IsThreadOf k.passes t) (sym same) of in
    let told : (outcome_of b.fats t a).answer ≡ Ok d = done_answer b.fats g t a (Ok d) table in
    let after : g ≡ (outcome_of b.fats t a).after = done_after b.fats g t a (Ok d) table in
    let keeps : KeepsWith b.fats t a g d.answer = subst (λ (x : FatState). KeepsWith b.fats t a x d.answer) (sym after) (keeps_with b.fats t a d is.sound for may_b bound_b told) in
    let free_b : free ≡ free_of b = free_as ∙ ap free_of (sym same) in
    let needs_b : needs ≡ need b.fats t a = needs_as ∙ ap (λ (k : BookState). need k.fats t a) (sym same) in
    let less_b : less ≡ freed a d.answer (wait_count b.fats.threads) (wait_count g.threads) =
    less_as ∙ ap (λ (n : ℕ). freed a d.answer n waiting) waited_as ∙ ap (λ (n : ℕ). freed a d.answer (wait_count b.fats.threads) n) waiting_as in
    let kept_g = keeps.kept in
    let needs_g = keeps.needs in
    let fits = is.fits in record {
      within = omega arith;
      place = omega arith;
      kept_now = omega arith;
      is =
          subst (λ (x : FatState). IsBook (with_deed b t (Acted a d.answer) x)) (sym after)
          (IsBook-act b t a d is of_b for may_b bound_b told (omega arith) (subst (λ (x : FatState). IsSound x) after sound));
    }

-- ---- what an action answers

-- where the record has fewer free places than the action needs
pub act_answer-full : (b : BookState) (t : ThreadId) (a : Action) (free needs : ℕ) → free ≡ free_of b → needs ≡ need b.fats t a → free < needs → Err fault.RecordFull ≡ act_answer b t a
act_answer-full b t a free needs free_as needs_as few =
    let full : nat_lt (free_of b) (need b.fats t a) ≡ true = lt-ltb (free_of b) (need b.fats t a) (omega arith) in rw full refl

-- and where it has as many
pub act_answer-told : (f : FatState) (b : BookState) (t : ThreadId) (a : Action) (g : FatState) (r : Result Done ActFault) (free needs : ℕ) → f ≡ b.fats → free ≡ free_of b → needs ≡ need b.fats t a → needs ≤ free
    → record { answer = r; after = g } ≡ outcome_of f t a → told r ≡ act_answer b t a
act_answer-told f b t a g r free needs same free_as needs_as enough table =
    let room : nat_lt (free_of b) (need b.fats t a) ≡ false = le-ltb (free_of b) (need b.fats t a) (omega arith) in
    rw room (ap told (sym (done_answer f g t a r table) ∙ ap (λ (k : FatState). (outcome_of k t a).answer) same))
