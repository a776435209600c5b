use Rattle.std.proofs.Common.{Some, ap, sym, ◌∙◌}
use Rattle.step_core.specs.declared.machine.Doing.{Doing}
use Rattle.jls_check.specs.declared.threads.Live.{Live}
use Rattle.jls_check.specs.MachineState.{MachineState}
use Rattle.jls_check.specs.Emptied.{emptied}
use Rattle.jls_check.proofs.Woken.{woken}
use Rattle.jls_check.proofs.machine.Machine.wake_unless_elsewhere.Goals as goal

pub returns : goal.returns
returns c =
    let act = λ (a : Doing). Some (let x : Live = record { flag = c.in-Some.live.flag; act = a } in x) in
    ap (λ (v : MachineState). emptied v c.args.object) c.put.ensures
    ∙ woken c.args.self.now c.args.thread c.in-Some.live.flag c.args.object c.in-Waits.awaited c.in-Waits.holds c.in-Waits._deadline
    (rw (← c.self.view_is) (sym c.get.ensures ∙ c.in-Some.is) ∙ ap act c.in-Waits.is) c.if-awaited-object.false
