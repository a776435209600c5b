use Rattle.std.proofs.Common.{List, ℕ, option_map, sym, ap, ◌∙◌}
use Rattle.std.specs.Borrow.{Bor}
use Rattle.history_moves.proofs.GatheredLaws.{name_in}
use Rattle.history_moves.proofs.TokenLaws.{named_move, nameless}
use Rattle.history_moves.proofs.spelled.gathered.GatheredMembers.made_move.Goals as goal

pub returns-in_err-self : goal.returns-in_err-self
returns-in_err-self c = λ counted.
    let g = c.args.self.now in
    c.from_residual.ensures ∙ nameless g (ap (option_map (λ (s : Bor (List ℕ)). s.now)) (sym c.in_err-self.was) ∙ name_in g)

pub returns : goal.returns
returns c = λ counted.
    let g = c.args.self.now in
    c.move_named.ensures ∙ named_move g c.in_ok-self.field-0.now counted (ap (option_map (λ (s : Bor (List ℕ)). s.now)) (sym c.in_ok-self.was) ∙ name_in g)
