-- Lists of steps whose calls name threads that are not there, by other numbers.
use Rattle.std.proofs.Common.{◌≡◌, ◌∙◌, sym, ap, refl, subst, ℕ, Bool, true, if◌then◌else◌, List, [], ◌∷◌, ◌++◌, map, Option, None, Result, Ok, Err}
use Rattle.std.specs.Option.{option_to_list, unwrap_or}
use Rattle.lock_word.specs.declared.ThreadId.{ThreadId}
use Rattle.fat_monitor.specs.declared.actions.Reply.{Reply}
use Rattle.step_core.specs.Requests.{world_after}
use Rattle.step_core.specs.Sound.{IsSound}
use Rattle.step_core.specs.Step.{AfterStep, step_of}
use Rattle.step_core.specs.World.{WorldState}
use Rattle.step_core.specs.declared.steps.Did.{Did}
use Rattle.step_core.specs.declared.steps.Fault.{Fault}
use Rattle.step_core.specs.declared.steps.Request.TheVariants as request
use Rattle.step_core.specs.declared.steps.Step.{Step}
use Rattle.step_core.specs.declared.steps.Step.TheVariants as step
use Rattle.step_core.proofs.Relaying.Requests.{then_right}
use Rattle.explore.specs.Replies.{reply_in}
use Rattle.explore.specs.States.{did_in}
use Rattle.explore_runs.specs.Steps.{AreAccepted, granted, is_step_of, replies_told, reply_told}
use Rattle.explore_runs.proofs.Berthed.{IsManned, manned_next, only_ours}
use Rattle.explore_runs.proofs.Renumbering.{AreForOthers, IsNoAttach, Numbers, renumbered, renumbered_step, step_alike, told_of}

abbrev pub AreNoAttaches : List Step → Type 0
AreNoAttaches [] = Unit {0}
AreNoAttaches (x ∷ xs) = IsNoAttach x × AreNoAttaches xs

abbrev with_numbers : Numbers → List Step → List Step
with_numbers r xs = map (renumbered_step r) xs

-- With other numbers the steps are accepted too, lead to the same world with these numbers, and have the same replies.
pub record AreAlike (r : Numbers) (w : WorldState) (xs : List Step) : Type 0 where
  pub accepted : AreAccepted (renumbered r w) (with_numbers r xs)
  pub leads : world_after (renumbered r w) (granted (with_numbers r xs)) ≡ renumbered r (world_after w (granted xs))
  pub replies : (t : ThreadId) → replies_told (renumbered r w) (with_numbers r xs) t ≡ replies_told w xs t

accepted_too : (a b : Result Did Fault) → told_of b ≡ told_of a → (d : Did) → a ≡ Ok d → (e : Did) × (b ≡ Ok e)
accepted_too (Ok x) (Ok y) h d g = (y, refl)
accepted_too (Ok x) (Err f) h d g = absurd (cc)
accepted_too (Err f) b h d g = absurd (cc)

same_reply : (a b : Result Did Fault) → told_of b ≡ told_of a → reply_in (did_in b) ≡ reply_in (did_in a)
same_reply (Ok x) (Ok y) h = ap (λ (o : Option (Option Reply)). unwrap_or o None) h
same_reply (Ok x) (Err f) h = absurd (cc)
same_reply (Err f) (Ok y) h = absurd (cc)
same_reply (Err f) (Err g) h = refl

same_thread : (r : Numbers) (t : ThreadId) (x : Step) → is_step_of t (renumbered_step r x) ≡ is_step_of t x
same_thread r t (step.Attach u) = refl
same_thread r t (step.Begin u c) = refl
same_thread r t (step.Go u) = refl
same_thread r t (step.Expire u) = refl
same_thread r t (step.Spurious u) = refl
same_thread r t (step.Tick now) = refl

same_told : (r : Numbers) (t : ThreadId) (x : Step) (a b : Result Did Fault) → told_of b ≡ told_of a → reply_told t (renumbered_step r x) b ≡ reply_told t x a
same_told r t x a b h =
    ap (λ (mine : Bool). if mine then option_to_list (reply_in (did_in b)) else []) (same_thread r t x)
    ∙ ap (λ (o : Option Reply). if is_step_of t x then option_to_list o else []) (same_reply a b h)

pub all_alike : (n : ℕ) (r : Numbers) (w : WorldState) (xs : List Step) → AreForOthers n r → IsSound w → IsManned n w → AreNoAttaches xs → AreAccepted w xs → AreAlike r w xs
all_alike n r w [] others sound manned none accepted = record { accepted = tt; leads = refl; replies = λ t. refl }
all_alike n r w (x ∷ xs) others sound manned none accepted =
    let a : AfterStep = step_of true w x in
    let b : AfterStep = step_of true (renumbered r w) (renumbered_step r x) in
    let one = step_alike n r w x others (only_ours n w sound manned) none.0 in
    let rest = all_alike n r a.after xs others (then_right w sound (request.Step x, true)).0 (manned_next n w x sound manned none.0) none.1 accepted.1 in
    record {
      accepted = (
        accepted_too a.answer b.answer one.told accepted.0.0 accepted.0.1,
        subst (λ (v : WorldState). AreAccepted v (with_numbers r xs)) (sym one.world) rest.accepted,
      );
      leads = ap (λ (v : WorldState). world_after v (granted (with_numbers r xs))) one.world ∙ rest.leads;
      replies = λ t.
          ap (λ (rs : List Reply). rs ++ replies_told b.after (with_numbers r xs) t) (same_told r t x a.answer b.answer one.told)
          ∙ ap (λ (v : WorldState). reply_told t x a.answer ++ replies_told v (with_numbers r xs) t) one.world
          ∙ ap (λ (rs : List Reply). reply_told t x a.answer ++ rs) (rest.replies t);
    }
