use Rattle.std.proofs.Common.{sym, ap, subst}
use Rattle.history_moves.specs.GatheredMembers.{Takes, key_text, scalar_data}
use Rattle.history_moves.specs.declared.spelled.gathered.Scalar.{Scalar}
use Rattle.history_moves.proofs.GatheredLaws.{null_taken}
use Rattle.history_moves.proofs.spelled.gathered.GatheredMembers.take.Goals as goal

pub returns-in-Text : goal.returns-in-Text
returns-in-Text c =
    λ done. subst (λ (s : Scalar). Takes c.args.self.now (key_text c.args.key) (scalar_data s) c.add_text.new.self) (sym c.in-Text.is) (c.add_text.ensures done)

pub returns-in-Number : goal.returns-in-Number
returns-in-Number c =
    λ done. subst (λ (s : Scalar). Takes c.args.self.now (key_text c.args.key) (scalar_data s) c.add_number.new.self) (sym c.in-Number.is) (c.add_number.ensures done)

pub returns-in-Chosen : goal.returns-in-Chosen
returns-in-Chosen c = λ done. null_taken c.args.self.now (key_text c.args.key) c.args.value _ _ c.in-Null.is (ap key_text c.in-Chosen.is) (c.fill.ensures done)
