use Rattle.std.proofs.Common.{rules, ◌≡◌, IfSome, subst, sym}
use Rattle.explore_runs.specs.declared.faults.ExploreTextFault.TheVariants as exploring
use Rattle.command_line.specs.Tasks.{HasTooManyStates}
use Rattle.command_line.proofs.Exploring.{caused}
use Rattle.command_line.proofs.serving.do_task.Goals as goal

pub returns-in_err-explore_text-in-Explore-clause-many : goal.returns-in_err-explore_text-in-Explore-clause-many
returns-in_err-explore_text-in-Explore-clause-many g c = λ n e.
    let told : c.in_err-explore_text-in-Explore.field-0.0 ≡ exploring.TooManyStates n =
    caused c.in_err-explore_text-in-Explore.field-0.0 n (search (rules, e)) in
    let many = c.explore_text.ensures.many n (search (rules, told)) in
    subst (λ t. IfSome (g.S.Source.left c.args.source.now) (λ input. HasTooManyStates t input n)) (sym c.in-Explore.is) many

pub returns-in_err-explore_java_text-in-ExploreJava-clause-many : goal.returns-in_err-explore_java_text-in-ExploreJava-clause-many
returns-in_err-explore_java_text-in-ExploreJava-clause-many g c = λ n e.
    let told : c.in_err-explore_java_text-in-ExploreJava.field-0.0 ≡ exploring.TooManyStates n =
    caused c.in_err-explore_java_text-in-ExploreJava.field-0.0 n (search (rules, e)) in
    let many = c.explore_java_text.ensures.many n (search (rules, told)) in
    subst (λ t. IfSome (g.S.Source.left c.args.source.now) (λ input. HasTooManyStates t input n)) (sym c.in-ExploreJava.is) many
