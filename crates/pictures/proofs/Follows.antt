-- Moves that were played, and those that are left.
use Rattle.std.proofs.Common.{◌≡◌, ℕ, List, [], ◌∷◌, ◌++◌, Option, Some, None, refl, sym, ap, ◌∙◌, subst, append_assoc, append-nil}
use Rattle.lock_word.specs.declared.ThreadId.{ThreadId}
use Rattle.step_core.specs.declared.machine.Move.{Move}
use Rattle.step_core.specs.Machine.{State, Steps, Run}
use Rattle.step_core.specs.Step.{moves_made}
use Rattle.jls_check.proofs.OneNext.{one_next}
use Rattle.pictures.specs.declared.picture.Arrow.{Arrow}
use Rattle.pictures.specs.Arrows.{arrows_of, Tells, TellsOne, IsLawful}

-- the front was played from s to now, with these arrows, and what is left is lawful
pub record IsPlayed (us : List ThreadId) (n : ℕ) (s : State) (front left : List (Option Move)) (now : State) (before after : List Arrow) : Type 0 where
  pub here : List Arrow
  pub told : Tells us n s (moves_made front) now here
  pub added : after ≡ before ++ here
  pub end : State
  pub run : Run now (moves_made left) end

pub played_none : (us : List ThreadId) (n : ℕ) (s end : State) (left : List (Option Move)) (before : List Arrow) → Run s (moves_made left) end
    → IsPlayed us n s [] left s before before
played_none us n s end left before run = record { here = []; told = (refl, refl); added = sym (append-nil before); end = end; run = run }

pub next_lawful : (us : List ThreadId) (n : ℕ) (s now : State) (front left : List (Option Move)) (m : Option Move) (before after : List Arrow)
    → IsPlayed us n s front (m ∷ left) now before after → IsLawful now m
next_lawful us n s now front left None before after p = tt
next_lawful us n s now front left (Some m) before after p = (p.run.0, p.run.1)

Tells-more : (us : List ThreadId) (n : ℕ) (s mid next : State) (ms : List Move) (m : Move) (here : List Arrow) → Tells us n s ms mid here → Steps mid m next
    → Tells us n s (ms ++ m ∷ []) next (here ++ arrows_of us n mid m)
Tells-more us n s mid next [] m here p step =
    subst (λ x. Tells us n s (m ∷ []) next x) (ap (λ l. l ++ arrows_of us n mid m) (sym p.1))
    (subst (λ x. Tells us n s (m ∷ []) next (arrows_of us n x m)) (sym p.0)
    (next, [], subst (λ x. Steps x m next) p.0 step, (refl, refl), sym (append-nil (arrows_of us n s m))))
Tells-more us n s mid next (k ∷ ms) m here p step = (
  p.0,
  p.1 ++ arrows_of us n mid m,
  p.2,
  Tells-more us n p.0 mid next ms m p.1 p.3 step,
  ap (λ l. l ++ arrows_of us n mid m) p.4 ∙ append_assoc (arrows_of us n s k) p.1 (arrows_of us n mid m),
)

made-more : (front : List (Option Move)) (m : Move) → moves_made (front ++ Some m ∷ []) ≡ moves_made front ++ m ∷ []
made-more [] m = refl
made-more (None ∷ front) m = made-more front m
made-more (Some k ∷ front) m = ap (λ l. k ∷ l) (made-more front m)

made-none : (front : List (Option Move)) → moves_made (front ++ None ∷ []) ≡ moves_made front
made-none [] = refl
made-none (None ∷ front) = made-none front
made-none (Some k ∷ front) = ap (λ l. k ∷ l) (made-none front)

pub played_more : (us : List ThreadId) (n : ℕ) (s now next : State) (front left : List (Option Move)) (m : Option Move) (before after later : List Arrow)
    → IsPlayed us n s front (m ∷ left) now before after → TellsOne us n now m next after later
    → IsPlayed us n s (front ++ m ∷ []) left next before later
played_more us n s now next front left None before after later p t = record {
  here = p.here;
  told = subst (λ l. Tells us n s l next p.here) (sym (made-none front)) (subst (λ x. Tells us n s (moves_made front) x p.here) (sym t.0) p.told);
  added = t.1 ∙ p.added;
  end = p.end;
  run = subst (λ x. Run x (moves_made left) p.end) (sym t.0) p.run;
}
played_more us n s now next front left (Some m) before after later p t = record {
  here = p.here ++ arrows_of us n now m;
  told = subst (λ l. Tells us n s l next (p.here ++ arrows_of us n now m)) (sym (made-more front m)) (Tells-more us n s now next (moves_made front) m p.here p.told t.0);
  added = t.1 ∙ ap (λ l. l ++ arrows_of us n now m) p.added ∙ append_assoc before p.here (arrows_of us n now m);
  end = p.end;
  run = subst (λ x. Run x (moves_made left) p.end) (one_next m now p.run.0 next p.run.1 t.0) p.run.2;
}
