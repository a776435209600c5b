use Rattle.std.proofs.Common.{sym, ap, ◌∙◌, Some, option_map, MatchOption, subst}
use Rattle.serde_json.specs.Data.{Members}
use Rattle.std.specs.Prelude.{Option, ℕ}
use Rattle.history_moves.specs.Members.{count, AreInOrder}
use Rattle.history_moves.proofs.MemberLaws.{count-members_view, order_of_view}
use Rattle.history_moves.proofs.values.members.count_in.Goals as goal

pub returns-clause-count : goal.returns-clause-count
returns-clause-count c =
    ap (λ (n : ℕ). Some n) (c.len.ensures.len ∙ sym (count-members_view c.in_ok-members.members.now.entries)) ∙ ap (option_map count) c.in_ok-members.ensures

pub returns-clause-ordered : goal.returns-clause-ordered
returns-clause-ordered c =
    subst (λ (o : Option Members). MatchOption o (Unit {0}) AreInOrder) c.in_ok-members.ensures (order_of_view c.in_ok-members.members.now.entries c.len.ensures.ordered)
