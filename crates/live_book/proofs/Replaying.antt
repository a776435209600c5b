-- Logs that stay legal, and what all threads attached means.
use Rattle.std.specs.Prelude.{◌≡◌, ◌⊎◌, ℕ, zero, suc, ◌+◌, ◌≤◌, ◌↔◌, List, [], ◌∷◌, ◌++◌, None}
use Rattle.std.proofs.Common.{refl, sym, ap, ◌∙◌, arith, subst, inl, inr}
use Rattle.std.specs.Ordering.{nat_cmp}
use Rattle.std.specs.FinMap.{get-empty}
use Rattle.std.proofs.lemmas.Bool.{cases_eq, eq-eqb, ne_eqb}
use Rattle.fat_monitor.specs.declared.actions.Post.{Post}
use Rattle.fat_monitor.proofs.PostMaps.{get-insert_by}
use Rattle.lock_word.specs.declared.ThreadId.{ThreadId}
use Rattle.fat_monitor.specs.FatState.{FatState, IsAttached, opened, with_thread, post_of, thread_count}
use Rattle.fat_monitor.specs.declared.actions.Post.TheVariants.{Out}
use Rattle.fat_monitor.proofs.Effects.{count-with_thread}
use Rattle.live_book.specs.declared.deeds.Logged.{Logged}
use Rattle.live_book.specs.Log.{IsLegal, IsThreadOf, Replays, after_deed, thread_numbered, with_threads}

-- one legal deed more
pub replays_more : (passes : ℕ) (f : FatState) (es : List Logged) (g : FatState) (e : Logged) → Replays passes f es g → IsThreadOf passes e.thread → IsLegal g e.thread e.deed
    → Replays passes f (es ++ e ∷ []) (after_deed g e.thread e.deed)
replays_more passes f [] g e same of legal = (of, subst (λ (x : FatState). IsLegal x e.thread e.deed) (sym same) legal, ap (λ (x : FatState). after_deed x e.thread e.deed) same)
replays_more passes f (d ∷ es) g e h of legal = (h.0, h.1, replays_more passes (after_deed f d.thread d.deed) es g e h.2 of legal)

pub limit-with_threads : (n : ℕ) (f : FatState) → (with_threads n f).limit ≡ f.limit
limit-with_threads zero f = refl
limit-with_threads (suc n) f = limit-with_threads n f

pub monitors-with_threads : (n : ℕ) (f : FatState) → (with_threads n f).monitors ≡ f.monitors
monitors-with_threads zero f = refl
monitors-with_threads (suc n) f = monitors-with_threads n f

-- the threads of one attach more
pub next_thread : (f g : FatState) (n k limit : ℕ) → f ≡ with_threads n (opened limit) → k ≡ n → g ≡ with_thread f (thread_numbered (k + 1)) → post_of f (thread_numbered (k + 1)) ≡ None → thread_count f ≤ n
    → (g ≡ with_threads (n + 1) (opened limit)) × (thread_count g ≤ n + 1)
next_thread f g n k limit is same new fresh few =
    let one : k + 1 ≡ suc n = omega arith in
    let two : n + 1 ≡ suc n = omega arith in
    let more : thread_count (with_thread f (thread_numbered (k + 1))) ≡ thread_count f + 1 = count-with_thread f (thread_numbered (k + 1)) fresh in (
      new
          ∙ (ap (λ (j : ℕ). with_thread f (thread_numbered j)) one
          ∙ (ap (λ (h : FatState). with_thread h (thread_numbered (suc n))) is ∙ ap (λ (j : ℕ). with_threads j (opened limit)) (sym two))),
      rw (new, more) (omega arith),
    )

-- just those threads are attached
pub attached-with_threads : (n limit : ℕ) (t : ThreadId) → IsAttached (with_threads n (opened limit)) t ↔ IsThreadOf n t
attached-with_threads zero limit t = ((λ some. absurd (let none = get-empty {X = Post} nat_cmp t.0 in cc)), (λ of. absurd (let low = of.0 in let high = of.1 in omega arith)))
attached-with_threads (suc n) limit t = at (cases_eq t.0 (suc n)) (attached-with_threads n limit t)
  where
    f : FatState
    f = with_threads n (opened limit)

    at : (t.0 ≡ suc n) ⊎ (t.0 ≡ suc n → ⊥) → IsAttached f t ↔ IsThreadOf n t → IsAttached (with_threads (suc n) (opened limit)) t ↔ IsThreadOf (suc n) t
    at (inl same) again = (
      (λ some. (omega arith, omega arith)),
      (λ of. rw (get-insert_by f.threads (suc n) Out t.0, eq-eqb t.0 (suc n) same) refl),
    )
    at (inr other) again = (
      (λ some.
          let was : IsAttached f t = rw (get-insert_by f.threads (suc n) Out t.0, ne_eqb t.0 (suc n) other) at some in
          let of = again.0 was in let low = of.0 in let high = of.1 in (omega arith, omega arith)),
      (λ of.
          let low = of.0 in
          let high = of.1 in
          let less : t.0 ≤ n = omega (arith, other) in
          rw (get-insert_by f.threads (suc n) Out t.0, ne_eqb t.0 (suc n) other) (again.1 (low, less))),
    )
