use native.Mathlib.Omega.{arith}
use Rattle.std.proofs.Common.{◌≡◌, ℕ, ◌+◌, List, length, ap, sym, subst, string_bytes}
use Rattle.std.specs.Prelude.{String}
use Rattle.std.specs.declared.alloc.Global.{Global}
use Rattle.explore_runs.specs.declared.tallies.Tally.{Tally}
use Rattle.explore_java.specs.JavaStates.{JavaProgramState}
use Rattle.explore_java.specs.JavaFound.{IsAt}
use Rattle.explore_runs.specs.JavaOutcomes.{IsJavaOutcome}
use Rattle.explore_runs.specs.JavaReports.{JavaEndsAs}
use Rattle.explore_runs.specs.Tallies.{OutcomeTally, outcome_tallies}
use Rattle.explore_runs.proofs.Tallying.{AreTalliedTo, few_tallied, none_tallied, one_tallied}
use Rattle.explore_runs.proofs.JavaTallying.{all_java_tallied}
use Rattle.explore_runs.proofs.java_reports.java_tallies_of.Goals as goal

pub ends-init : goal.ends-init
ends-init c =
    subst (λ (es : List (String Global × Tally)). AreTalliedTo (JavaEndsAs c.args.named.now.names c.args.named.now.program c.args.found.now) 0 (outcome_tallies es))
    (sym c.new-tallies.ensures.empty) (none_tallied (JavaEndsAs c.args.named.now.names c.args.named.now.program c.args.found.now))

pub count_end-requires-clause-few : goal.count_end-requires-clause-few
count_end-requires-clause-few c =
    few_tallied (JavaEndsAs c.args.named.now.names c.args.named.now.program c.args.found.now) c.ends.at (outcome_tallies c.ends.tallies.entries) c.ends.invariant

pub ends-preserved : goal.ends-preserved
ends-preserved c =
    let names = c.args.named.now.names in
    let p = c.args.named.now.program in
    let f = c.args.found.now in
    let text = c.in_ok-text.text in
    let new : JavaEndsAs names p f c.ends.at (string_bytes text) =
    subst (λ (k : ℕ). (s : JavaProgramState) × IsAt p f.witnesses k s × IsJavaOutcome names p s (string_bytes text)) c.java_end_in.ensures.end c.in_ok-text.ensures in
    subst (λ (ts : List OutcomeTally). AreTalliedTo (JavaEndsAs names p f) (c.ends.at + 1) ts) (sym c.in_ok-count_end.ensures)
    (one_tallied (JavaEndsAs names p f) c.ends.at (outcome_tallies c.ends.tallies.entries) (string_bytes text) c.ends.invariant new)

pub returns : goal.returns
returns c =
    let past = c.ends-test.false in
    let end = c.ends.auto.at-end in
    let l : length c.ends-at-end.result.now ≡ length c.args.found.now.ends = ap (λ (xs : List ℕ). length xs) c.ends-at-end.ensures in
    all_java_tallied c.args.named.now.names c.args.named.now.program c.args.found.now c.ends.at (outcome_tallies c.ends.tallies.entries) (omega (arith, past, end, l)) c.ends.invariant
