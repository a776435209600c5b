use Rattle.std.proofs.Common.{◌≡◌, sym, subst, ap, ◌∙◌}
use Rattle.jls_check.specs.MachineState.{MachineState}
use Rattle.jls_check.specs.Numbers.{AreBelow}
use Rattle.explore_java.specs.JavaStates.{JavaProgramState, count_of}
use Rattle.explore_java.proofs.Making.{below_stays, noted_machine}
use Rattle.explore_java.proofs.states.JavaState.make.Goals as goal

pub returns-in-Ok-clause-below : goal.returns-in-Ok-clause-below
returns-in-Ok-clause-below c =
    let p = c.args.program.now in
    let noted_in : JavaProgramState = record { machine = c.take.new.self; nexts = c.self.inside.nexts.items; replies = c.self.inside.replies.items; told = c.self.inside.told } in
    let own : c.args.self.now.machine ≡ c.self.inside.machine = ap (λ (s : JavaProgramState). s.machine) (sym c.self.view_is) in
    let stays = below_stays p c.args.self.now c.self.inside.machine c.take.new.self c.args.made c.requires.left
    (subst (λ (v : MachineState). AreBelow (count_of p) v) own c.requires.below) c.in-Ok.ensures.taken in
    subst (λ (v : MachineState). AreBelow (count_of p) v) (sym (ap (λ (s : JavaProgramState). s.machine) c.note.ensures ∙ noted_machine noted_in c.args.made c.take.new.self)) stays
