-- What tells places and posts apart, and a load that leaves its thread where it is.
use native.Mathlib.Omega.{arith}
use Rattle.std.proofs.Common.{◌≡◌, ◌∙◌, ◌⊎◌, inl, inr, sym, ap, refl, ℕ, ◌<◌, Bool, true, false, Option, Some, None, Result, Ok, Err}
use Rattle.lock_word.specs.declared.ThreadId.{ThreadId}
use Rattle.lock_word.specs.declared.ObjectId.{ObjectId}
use Rattle.lock_word.specs.declared.Lock.{Lock}
use Rattle.lock_word.specs.declared.Lock.TheVariants.{Free, Thin, Fat}
use Rattle.fat_monitor.specs.Acting.{after_removal, after_sending_back, after_settling, reply_back, outcome_of}
use Rattle.fat_monitor.specs.FatState.{FatState, monitor_at, post_of, with_owner}
use Rattle.fat_monitor.specs.declared.actions.ActFault.{ActFault}
use Rattle.fat_monitor.specs.declared.actions.Action.{Action}
use Rattle.fat_monitor.specs.declared.actions.Answer.{Answer}
use Rattle.fat_monitor.specs.declared.actions.Answer.TheVariants as answer
use Rattle.fat_monitor.specs.declared.actions.Cause.{Cause}
use Rattle.fat_monitor.specs.declared.actions.Done.{Done}
use Rattle.fat_monitor.specs.declared.actions.Post.TheVariants.{Waiting, Back, Granted}
use Rattle.fat_monitor.specs.declared.actions.Why.{Why}
use Rattle.fat_monitor.proofs.LineEffects.{post-with_post_same}
use Rattle.fast_path.specs.declared.Next.{Next}
use Rattle.fast_path.specs.declared.Next.TheVariants as next
use Rattle.fast_path.specs.declared.calls.Call.{Call}
use Rattle.fast_path.specs.declared.calls.MonitorCall.{MonitorCall}
use Rattle.fast_path.specs.declared.calls.Operation.{Operation}
use Rattle.fast_path.specs.declared.calls.Operation.TheVariants as op
use Rattle.step_core.specs.Go.{after_act, after_bind, after_load, after_publish, after_take, after_told, place_after}
use Rattle.step_core.specs.World.{WorldState}
use Rattle.step_core.specs.declared.places.Place.{Place}
use Rattle.step_core.specs.declared.places.Place.TheVariants.{Idle, InCall, Ending, AtPost}
use Rattle.step_core.specs.declared.places.Stage.{Stage}
use Rattle.step_core.specs.declared.places.Stage.TheVariants.{Begun, Taking, Storing, Binding, Acting, Won, Bound, Inflated, Direct}

-- ---- places, told apart

abbrev pub stage_number : Stage → ℕ
stage_number (Begun c b) = 3
stage_number (Taking o b) = 4
stage_number (Storing c l) = 5
stage_number (Binding c n) = 6
stage_number (Acting c m) = 7
stage_number (Won o) = 8
stage_number (Bound c won m) = 9
stage_number (Inflated c m) = 10
stage_number (Direct c) = 11

abbrev pub place_number : Place → ℕ
place_number Idle = 0
place_number AtPost = 1
place_number (Ending n) = 2
place_number (InCall s) = stage_number s

-- how many words were loaded by a thread that is to end
abbrev pub loaded_words : Place → ℕ
loaded_words (Ending n) = n
loaded_words Idle = 0
loaded_words (InCall x) = 0
loaded_words AtPost = 0

-- an action leaves its thread in no call, or at its post
pub acted_number : (w : WorldState) (t : ThreadId) (c : Call) (a : Action) → place_number (after_act w t c a).place < 2
acted_number w t c a = by (outcome_of w.fats t a).answer (outcome_of w.fats t a).after
  where
    answered : (x : Answer) → place_number (place_after x) < 2
    answered (answer.Reply r) = omega arith
    answered answer.Parked = omega arith
    answered answer.Quiet = omega arith

    by : (r : Result Done ActFault) (f : FatState) → place_number (after_told w t c a r f).place < 2
    by (Ok d) f = answered d.answer
    by (Err e) f = omega arith

pub taken_number : (w : WorldState) (k : ℕ) (t : ThreadId) (o : ObjectId) (b : Bool) (l : Lock) → place_number (after_take w k t o b l).place ≡ 4 → ⊥
taken_number w k t o true Free e = absurd (omega (arith, e))
taken_number w k t o false Free e = absurd (omega (arith, e))
taken_number w k t o b (Thin i c) e = absurd (omega (arith, e))
taken_number w k t o b (Fat m) e = absurd (omega (arith, e))

pub bound_number : (w : WorldState) (t : ThreadId) (c : MonitorCall) (won : Bool) (n : ℕ) (x : Option Cause)
    → (place_number (after_bind w t c won n x).place ≡ 0) ⊎ (place_number (after_bind w t c won n x).place ≡ 9)
bound_number w t c won n None = inr refl
bound_number w t c true n (Some x) = inl refl
bound_number w t c false n (Some x) = inl refl

pub published_number : (w : WorldState) (t : ThreadId) (c : MonitorCall) (won : Bool) (m : ℕ) → place_number (after_publish w t c won m).place ≡ 9 → ⊥
published_number w t c true m e = absurd (omega (arith, e))
published_number w t c false m e = absurd (omega (arith, e))

pub neither : {x : ℕ} (n : ℕ) → (x ≡ 0) ⊎ (x ≡ 9) → x ≡ n → (n ≡ 0 → ⊥) → (n ≡ 9 → ⊥) → ⊥
neither n (inl none) e not_none not_bound = not_none (sym e ∙ none)
neither n (inr bound) e not_none not_bound = not_bound (sym e ∙ bound)

-- ---- a load that leaves its thread where it is

-- it found the thin word of another thread, for an enter
abbrev pub Spins : Operation → Lock → ℕ → Type 0
Spins o l me = (o ≡ op.Enter) × ((i n : ℕ) × (l ≡ Thin i n) × (i ≡ me → ⊥))

pub loaded_spin : (w : WorldState) (t : ThreadId) (c : MonitorCall) (b : Bool) (n : Next) → place_number (after_load w t c b n).place ≡ 3 → n ≡ next.Spin
loaded_spin w t c b (next.Reply r) e = absurd (omega (arith, e))
loaded_spin w t c b (next.Cas l) e = absurd (omega (arith, e))
loaded_spin w t c b (next.Store l) e = absurd (omega (arith, e))
loaded_spin w t c b next.Bind e = absurd (omega (arith, e))
loaded_spin w t c b (next.Fat m) e = absurd (omega (arith, e))
loaded_spin w t c b next.Spin e = refl

-- ---- posts

-- who is taken out of a wait set has another post
pub removal_moves : (f : FatState) (t : ThreadId) (y : Why) (m n : ℕ) (d : Option ℕ) → post_of f t ≡ Some (Waiting m n d)
    → after_removal f t y (Waiting m n d) ≡ f → ⊥
removal_moves f t y m n d post same = by (monitor_at f m).owner same
  where
    by : (o : Option ThreadId) → after_sending_back f t m (Back m n y) o ≡ f → ⊥
    by (Some u) e =
        let there : post_of (after_sending_back f t m (Back m n y) (Some u)) t ≡ Some (Back m n y) = post-with_post_same f t (Back m n y) in
        let never = sym there ∙ ap (λ (g : FatState). post_of g t) e ∙ post in
        cc
    by None e =
        let freed : FatState = with_owner (after_settling f t (Back m n y)) m (Some t) n in
        let there : post_of (after_sending_back f t m (Back m n y) None) t ≡ Some (Granted (reply_back y)) = post-with_post_same freed t (Granted (reply_back y)) in
        let never = sym there ∙ ap (λ (g : FatState). post_of g t) e ∙ post in
        cc
