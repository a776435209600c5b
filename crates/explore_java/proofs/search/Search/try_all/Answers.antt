use native.Mathlib.Omega.{arith}
use Rattle.std.proofs.Common.{◌≡◌, ◌∙◌, ◌<◌, ◌+◌, ap, not, true, List, length, None, refl, subst, sym, ℕ}
use Rattle.std.specs.Prelude.{IfSome}
use Rattle.step_core.specs.declared.machine.Move.{Move}
use Rattle.explore_java.specs.JavaFound.{move_at, witnesses}
use Rattle.explore_java.specs.JavaSearches.{AreTried, Leads, behind}
use Rattle.explore_java.specs.JavaStates.{JavaProgramState, after, is_left}
use Rattle.explore_java.proofs.Choosing.{moves_left}
use Rattle.explore_java.proofs.Finding.{within_search}
use Rattle.explore_java.proofs.Trying.{behind_stays, none_tried, stays_still, stays_then, tried_none, tried_some}
use Rattle.explore_java.proofs.search.Search.try_all.Goals.{else-is_none, then-is_none}
use Rattle.explore_java.proofs.search.Search.try_all.Goals as goal

pub trying-init : goal.trying-init
trying-init c = record {
  search = c.requires.search;
  stays = stays_still (witnesses c.args.self.now.nodes.items);
  spare = tt;
  tried = none_tried c.args.program.now (witnesses c.args.self.now.nodes.items) (behind (witnesses c.args.self.now.nodes.items) c.args.at) c.args.state.now c.args.moves.now;
}

pub try_move-requires-clause-left : goal.try_move-requires-clause-left
try_move-requires-clause-left c =
    let p = c.args.program.now in
    let lt = subst (λ (ms : List Move). c.trying.made-index < length ms) c.requires.all c.trying-test.true in
    let left : is_left p c.args.state.now (move_at c.args.moves.now c.trying.made-index) ≡ true =
    subst (λ (ms : List Move). is_left p c.args.state.now (move_at ms c.trying.made-index) ≡ true) (sym c.requires.all)
    (moves_left p c.args.state.now c.trying.made-index lt) in
    subst (λ (s : JavaProgramState). is_left p s (move_at c.args.moves.now c.trying.made-index) ≡ true) (sym c.in_ok-copy.ensures) left

pub trying-preserved : goal.trying-preserved
trying-preserved c =
    let p = c.args.program.now in
    let here = c.args.state.now in
    let old = witnesses c.trying.self.nodes.items in
    let new = witnesses c.try_move.new.self.nodes.items in
    let i = c.trying.made-index in
    let made = move_at c.args.moves.now i in
    let stays = c.in_ok-spare.ensures.stays in
    let copied = c.in_ok-copy.ensures in
    let lt = within_search p c.trying.self.codes.keys old c.trying.self.queue.items c.args.at c.trying.invariant.search in
    let same = behind_stays old new c.args.at stays lt in
    let before = c.trying.invariant.tried in
    record {
      search = c.in_ok-spare.ensures.search;
      stays = stays_then _ _ _ c.trying.invariant.stays stays;
      spare = subst (λ (s : JavaProgramState). IfSome c.in_ok-spare.spare (λ x. x ≡ s)) copied c.in_ok-spare.ensures.back;
      tried = elim c.if-is_none.branch [
        | then-is_none w ↦
            let leads = c.in_ok-spare.ensures.some (c.is_none.ensures ∙ ap not w.if-is_none.true) in
            subst (λ (n : ℕ). AreTried p new (behind new c.args.at) here c.args.moves.now (i + 1) n) (sym w.count-is)
            (tried_some p old new (behind old c.args.at) (behind new c.args.at) here c.args.moves.now i c.trying.count made
            stays same refl (subst (λ (s : JavaProgramState). Leads p new (behind new c.args.at) s made) copied leads) before)
        | else-is_none w ↦
            let none = c.in_ok-spare.ensures.none (c.is_none.ensures ∙ ap not w.if-is_none.false) in
            subst (λ (n : ℕ). AreTried p new (behind new c.args.at) here c.args.moves.now (i + 1) n) (sym w.count-is)
            (tried_none p old new (behind old c.args.at) (behind new c.args.at) here c.args.moves.now i c.trying.count made
            stays same refl (subst (λ (s : JavaProgramState). after p s made ≡ None) copied none) before)
      ];
    }

pub returns-clause-tried : goal.returns-clause-tried
returns-clause-tried c =
    let past = c.trying-test.false in
    let end = c.trying.auto.made-index-end in
    let all : c.trying.made-index ≡ length c.args.moves.now = omega (arith, past, end) in
    subst (λ (n : ℕ). AreTried c.args.program.now (witnesses c.trying.self.nodes.items) (behind (witnesses c.trying.self.nodes.items) c.args.at) c.args.state.now c.args.moves.now n c.trying.count) all c.trying.invariant.tried
