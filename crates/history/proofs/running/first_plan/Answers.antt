use Rattle.std.proofs.Common.{List, [], ℕ, ap, subst, sym}
use Rattle.std.proofs.lemmas.Result.{err_from_is_err_and}
use Rattle.script_text.specs.Positions.{HasCome}
use Rattle.history.specs.NameLists.{NameLists}
use Rattle.history.proofs.PlanSoFar.{first_so_far, no_first, other_first, world_first}
use Rattle.history.proofs.running.first_plan.Goals as goal

pub returns-in_err-line-clause-fault : goal.returns-in_err-line-clause-fault
returns-in_err-line-clause-fault c =
    let p = err_from_is_err_and c.from_residual.result c.from_residual.ensures.1 in
    let come = subst (λ (names : List (List ℕ)). HasCome c.args.lines.now.rest [] names c.args.lines.now) (sym (ap (λ (n : NameLists). n.objects) c.new-names.ensures)) c.requires in
    rw (p.1, p.2) (c.in_err-line.ensures.told c.args.lines.now.rest [] come)

pub unreachable-requires : goal.unreachable-requires
unreachable-requires c =
    let come = subst (λ (names : List (List ℕ)). HasCome c.args.lines.now.rest [] names c.args.lines.now) (sym (ap (λ (n : NameLists). n.objects) c.new-names.ensures)) c.requires in
    no_first c.args.lines.now.rest c.new-names.result.objects c.next.new.self c.in_ok-line.field-0 (c.in_ok-line.ensures.told c.args.lines.now.rest [] come) c.in_default.is

pub unreachable-requires-in_default-line : goal.unreachable-requires-in_default-line
unreachable-requires-in_default-line c =
    let come = subst (λ (names : List (List ℕ)). HasCome c.args.lines.now.rest [] names c.args.lines.now) (sym (ap (λ (n : NameLists). n.objects) c.new-names.ensures)) c.requires in
    other_first c.args.lines.now.rest c.new-names.result.objects c.next.new.self c.in_ok-line.field-0 c.in-Some.line (c.in_ok-line.ensures.told c.args.lines.now.rest [] come) c.in-Some.is
    c.in_default-line.not-World

pub new-requires-clause-monitors : goal.new-requires-clause-monitors
new-requires-clause-monitors c =
    let come = subst (λ (names : List (List ℕ)). HasCome c.args.lines.now.rest [] names c.args.lines.now) (sym (ap (λ (n : NameLists). n.objects) c.new-names.ensures)) c.requires in
    let world = world_first c.args.lines.now.rest c.new-names.result.objects c.next.new.self c.in_ok-line.field-0 c.in-Some.line c.in-World.monitors c.in-World.indices c.in-World.split
    (c.in_ok-line.ensures.told c.args.lines.now.rest [] come) c.in-Some.is c.in-World.is in
    world.right.0.0

pub new-requires-clause-some : goal.new-requires-clause-some
new-requires-clause-some c =
    let come = subst (λ (names : List (List ℕ)). HasCome c.args.lines.now.rest [] names c.args.lines.now) (sym (ap (λ (n : NameLists). n.objects) c.new-names.ensures)) c.requires in
    let world = world_first c.args.lines.now.rest c.new-names.result.objects c.next.new.self c.in_ok-line.field-0 c.in-Some.line c.in-World.monitors c.in-World.indices c.in-World.split
    (c.in_ok-line.ensures.told c.args.lines.now.rest [] come) c.in-Some.is c.in-World.is in
    world.right.0.1

pub new-requires-clause-few : goal.new-requires-clause-few
new-requires-clause-few c =
    let come = subst (λ (names : List (List ℕ)). HasCome c.args.lines.now.rest [] names c.args.lines.now) (sym (ap (λ (n : NameLists). n.objects) c.new-names.ensures)) c.requires in
    let world = world_first c.args.lines.now.rest c.new-names.result.objects c.next.new.self c.in_ok-line.field-0 c.in-Some.line c.in-World.monitors c.in-World.indices c.in-World.split
    (c.in_ok-line.ensures.told c.args.lines.now.rest [] come) c.in-Some.is c.in-World.is in
    world.right.0.2

pub returns-clause-plan : goal.returns-clause-plan
returns-clause-plan c =
    let none = ap (λ (n : NameLists). n.objects) c.new-names.ensures in
    let come = subst (λ (names : List (List ℕ)). HasCome c.args.lines.now.rest [] names c.args.lines.now) (sym none) c.requires in
    let world = world_first c.args.lines.now.rest c.new-names.result.objects c.next.new.self c.in_ok-line.field-0 c.in-Some.line c.in-World.monitors c.in-World.indices c.in-World.split
    (c.in_ok-line.ensures.told c.args.lines.now.rest [] come) c.in-Some.is c.in-World.is in
    first_so_far c.args.lines.now.rest c.in-World.monitors c.in-World.indices c.in-World.split c.new-names.result.objects c.new.result c.next.new.self world none c.new.ensures.world c.new.ensures.none c.new.ensures.no_steps
