use Rattle.std.proofs.Common.{ap}
use Rattle.history_moves.specs.GatheredMembers.{key_text}
use Rattle.history_moves.proofs.GatheredLaws.{name_taken, verb_taken, reply_taken, cause_taken}
use Rattle.history_moves.proofs.spelled.gathered.GatheredMembers.add_text.Goals as goal

pub returns-in-Move : goal.returns-in-Move
returns-in-Move c = λ done. name_taken c.args.self.now (key_text c.args.key) c.args.text _ _ (ap key_text c.in-Move.is) (c.fill.ensures done)

pub returns-in-Call : goal.returns-in-Call
returns-in-Call c = λ done. verb_taken c.args.self.now (key_text c.args.key) c.args.text _ _ (ap key_text c.in-Call.is) (c.fill-in-Call.ensures done)

pub returns-in-Reply : goal.returns-in-Reply
returns-in-Reply c = λ done. reply_taken c.args.self.now (key_text c.args.key) c.args.text _ _ (ap key_text c.in-Reply.is) (c.fill-in-Reply.ensures done)

pub returns-in-Cause : goal.returns-in-Cause
returns-in-Cause c = λ done. cause_taken c.args.self.now (key_text c.args.key) c.args.text _ _ (ap key_text c.in-Cause.is) (c.fill-in-Cause.ensures done)
