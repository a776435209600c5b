use Rattle.std.proofs.Common.{Some, ap}
use Rattle.history_moves.specs.GatheredMembers.{key_text}
use Rattle.history_moves.proofs.GatheredLaws.{thread_taken, object_taken, target_taken, millis_taken, nanos_taken, chosen_taken, now_taken}
use Rattle.history_moves.proofs.spelled.gathered.GatheredMembers.add_number.Goals as goal

pub returns-in-Thread : goal.returns-in-Thread
returns-in-Thread c = λ done. thread_taken c.args.self.now (key_text c.args.key) c.args.number _ _ (ap key_text c.in-Thread.is) (c.fill.ensures done)

pub returns-in-Object : goal.returns-in-Object
returns-in-Object c = λ done. object_taken c.args.self.now (key_text c.args.key) c.args.number _ _ (ap key_text c.in-Object.is) (c.fill-in-Object.ensures done)

pub returns-in-Target : goal.returns-in-Target
returns-in-Target c = λ done. target_taken c.args.self.now (key_text c.args.key) c.args.number _ _ (ap key_text c.in-Target.is) (c.fill-in-Target.ensures done)

pub returns-in-Millis : goal.returns-in-Millis
returns-in-Millis c = λ done. millis_taken c.args.self.now (key_text c.args.key) c.args.number _ _ (ap key_text c.in-Millis.is) (c.fill-in-Millis.ensures done)

pub returns-in-Nanos : goal.returns-in-Nanos
returns-in-Nanos c = λ done. nanos_taken c.args.self.now (key_text c.args.key) c.args.number _ _ (ap key_text c.in-Nanos.is) (c.fill-in-Nanos.ensures done)

pub returns-in-Chosen : goal.returns-in-Chosen
returns-in-Chosen c = λ done. chosen_taken c.args.self.now (key_text c.args.key) (Some c.args.number) _ _ (ap key_text c.in-Chosen.is) (c.fill-in-Chosen.ensures done)

pub returns-in-Now : goal.returns-in-Now
returns-in-Now c = λ done. now_taken c.args.self.now (key_text c.args.key) c.args.number _ _ (ap key_text c.in-Now.is) (c.fill-in-Now.ensures done)
