use Rattle.std.proofs.Common.{List, ℕ, ◌≡◌, ◌∷◌, ◌++◌, IfSome, sym, subst, ap, ◌∙◌, codes}
use Rattle.history_moves.specs.Texts.{Reads}
use Rattle.history_moves.proofs.quick.call_move.Goals as goal

pub returns-in-Some : goal.returns-in-Some
returns-in-Some c =
    let parts : c.args.rest.now ≡ c.in_ok-verb.verb.now ++ (codes "\",\"move\":\"Call\"" ++ c.in-Some.after.now) = c.in_ok-verb.ensures ∙ ap (λ (l : List ℕ). c.in_ok-verb.verb.now ++ 34 ∷ l) c.in-Some.ensures in
    subst (λ (l : List ℕ). IfSome c.plain_call_move.result (Reads (codes "{\"call\":\"" ++ l))) (sym parts) c.plain_call_move.ensures
