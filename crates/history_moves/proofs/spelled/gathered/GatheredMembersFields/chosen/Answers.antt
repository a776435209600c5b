use Rattle.std.proofs.Common.{ap, ◌∙◌, sym, option_and_then}
use Rattle.history_moves.specs.GatheredMembers.{choice}
use Rattle.history_moves.proofs.GatheredLaws.{chosen_in}
use Rattle.history_moves.proofs.spelled.gathered.GatheredMembersFields.chosen.Goals as goal

pub returns-in_err-self : goal.returns-in_err-self
returns-in_err-self c = c.from_residual.ensures ∙ sym (ap (option_and_then choice) c.in_err-self.was) ∙ chosen_in c.args.self.now

pub returns : goal.returns
returns c = c.choice.ensures ∙ sym (ap (option_and_then choice) c.in_ok-self.was) ∙ chosen_in c.args.self.now
