use Rattle.std.proofs.Common.{sym, subst}
use Rattle.script_text.specs.Positions.{HasCome}
use Rattle.script_text.proofs.Coming.{come_step}
use Rattle.script_text.proofs.walking.ScriptReader.next_seldom.Goals as goal

pub returns-clause-told : goal.returns-clause-told
returns-clause-told c = λ bytes came names come.
    come_step bytes came names (record { count = c.self.inside.count; declaring = c.self.inside.declaring; rest = c.self.inside.rest.now }) c.in_ok-step.after.now c.in_ok-step.step
    (subst (HasCome bytes came names) (sym c.self.view_is) come) c.in_ok-step.ensures c.if-self-eq0.false
