use Rattle.std.proofs.Common.{◌≡◌, None, Some, refl, sym, take, ◌∙◌}
use Rattle.std.proofs.lemmas.List.{take_more}
use Rattle.explore_java.specs.JavaFound.{first_attach, move_at}
use Rattle.explore_java.specs.JavaStates.{after}
use Rattle.explore_java.proofs.Choosing.{after_taken}
use Rattle.explore_java.proofs.Trying.{next_made, not_taken, played_more, taken}
use Rattle.explore_java.proofs.states.replay.Goals as goal

never : {A : Type 0} (x : A) → None ≡ Some x → ⊥
never x e = cc

pub make-requires-clause-left : goal.make-requires-clause-left
make-requires-clause-left c =
    let u = next_made c.args.program.now c.args.moves.now c.moves.made-index first_attach c.moves.state c.requires.0 c.moves-test.true c.moves.invariant.leads c.requires.1 in
    (after_taken c.args.program.now c.moves.state (move_at c.args.moves.now c.moves.made-index) u.0 u.1).left

pub unreachable-requires : goal.unreachable-requires
unreachable-requires c =
    let u = next_made c.args.program.now c.args.moves.now c.moves.made-index first_attach c.moves.state c.requires.0 c.moves-test.true c.moves.invariant.leads c.requires.1 in
    never u.0 (sym (not_taken c.make.result _ c.make.new.self c.make.ensures.made c.if-not-make.true) ∙ u.1)

pub moves-preserved : goal.moves-preserved
moves-preserved c =
    let p = c.args.program.now in
    let i = c.moves.made-index in
    let made : after p c.moves.state (move_at c.args.moves.now i) ≡ Some c.make.new.self =
    taken c.make.result _ c.make.new.self c.make.new.self c.make.ensures.made c.if-not-make.false refl in
    record {
      leads = rw (take_more c.args.moves.now i first_attach c.moves-test.true) (played_more p (take i c.args.moves.now) (move_at c.args.moves.now i) c.moves.state (Some c.make.new.self) c.moves.invariant.leads made);
      below = c.make.ensures.below;
    }
