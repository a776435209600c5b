use Rattle.std.proofs.Common.{ap, ◌∙◌, sym, option_and_then}
use Rattle.history_moves.specs.GatheredMembers.{short_signed}
use Rattle.history_moves.proofs.GatheredLaws.{nanos_in}
use Rattle.history_moves.proofs.spelled.gathered.GatheredMembersFields.nanos.Goals as goal

pub returns-in_err-self : goal.returns-in_err-self
returns-in_err-self c = c.from_residual.ensures ∙ sym (ap (option_and_then short_signed) c.in_err-self.was) ∙ nanos_in c.args.self.now

pub returns : goal.returns
returns c = c.short_signed.ensures ∙ sym (ap (option_and_then short_signed) c.in_ok-self.was) ∙ nanos_in c.args.self.now
