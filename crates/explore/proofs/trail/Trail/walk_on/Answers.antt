use native.Mathlib.Omega.{arith}
use Rattle.std.proofs.Common.{◌≡◌, ◌≤◌, ◌<◌, ℕ, length, List, [], ◌∷◌, ◌++◌, get_or, Some, refl, ap, ◌∙◌, length-append}
use Rattle.explore.specs.declared.trail.Reached.{Reached}
use Rattle.explore.specs.declared.programs.Choice.TheVariants as choice
use Rattle.explore.specs.States.{played}
use Rattle.explore.specs.Trails.{choices_along}
use Rattle.explore.proofs.Trailing.{leads_more, leads_nowhere, reached_more, along_more}
use Rattle.explore.proofs.Trying.{not_taken, taken}
use Rattle.explore.proofs.trail.Trail.walk_on.Goals as goal

pub returns-then-not-branch-clause-nowhere : goal.returns-then-not-branch-clause-nowhere
returns-then-not-branch-clause-nowhere c = λ _.
    let t = c.walking-test.true in
    let m = c.len.ensures in
    let n = c.len-in-walking.ensures in
    let lt : length c.walking.self.reached.items < length c.args.choices.now = omega (arith, t, m) in
    let here : c.len-in-walking.result ≡ length c.walking.self.reached.items = omega (arith, n) in
    let e = not_taken c.in_ok-make.field-0 _ c.make.new.self c.in_ok-make.ensures.made c.if-not-branch.true in
    leads_nowhere c.args.program.now c.args.choices.now c.walking.self.reached.items c.in_ok-state.state c.walking.invariant.same lt
    c.in_ok-state.ensures (rw here at e)

pub walking-smaller : goal.walking-smaller
walking-smaller c =
    let t = c.walking-test.true in
    let m = c.len.ensures in
    let l = ap length c.in_ok-push.ensures.items ∙ length-append c.walking.self.reached.items (_ ∷ []) in
    omega (arith, t, m, l)

pub walking-preserved : goal.walking-preserved
walking-preserved c =
    let t = c.walking-test.true in
    let m = c.len.ensures in
    let n = c.len-in-walking.ensures in
    let ms : List Reached = c.walking.self.reached.items in
    let reached : Reached = record { choice = get_or c.args.choices.now c.len-in-walking.result (choice.Begin 0); state = c.make.new.self } in
    let lt : length ms < length c.args.choices.now = omega (arith, t, m) in
    let here : c.len-in-walking.result ≡ length ms = omega (arith, n) in
    let e = taken c.in_ok-make.field-0 _ c.make.new.self c.make.new.self c.in_ok-make.ensures.made c.if-not-branch.false refl in
    let leads : played c.args.program.now (choices_along (ms ++ reached ∷ [])) ≡ Some reached.state =
    leads_more c.args.program.now ms reached c.in_ok-state.state c.in_ok-state.ensures e in
    let l = length-append ms (reached ∷ []) in
    let within : length (ms ++ reached ∷ []) ≤ length c.args.choices.now = omega (arith, lt, l) in
    rw c.in_ok-push.ensures.items (record {
      reached = reached_more c.args.program.now ms reached c.walking.invariant.reached leads;
      within = within;
      same = along_more c.args.choices.now ms reached c.walking.invariant.same lt
          (ap (λ (k : ℕ). get_or c.args.choices.now k (choice.Begin 0)) here);
    })
