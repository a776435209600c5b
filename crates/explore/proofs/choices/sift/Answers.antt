use Rattle.std.proofs.Common.{◌≡◌, ◌∙◌, Option, sym, ap}
use Rattle.lock_word.specs.declared.ThreadId.{ThreadId}
use Rattle.step_core.specs.declared.machine.Doing.{Doing}
use Rattle.step_core.specs.World.{WorldState}
use Rattle.explore.specs.Allowed.{doing_at}
use Rattle.explore.proofs.Sifting.{sifted_next}
use Rattle.explore.proofs.choices.sift.Goals as goal
use Rattle.explore.proofs.choices.sift.Goals.{then-next-thread, else-next-thread}

known_at : (w : WorldState) (d e : Option Doing) (t u : ThreadId) → t ≡ u → d ≡ e → e ≡ doing_at w u → d ≡ doing_at w t
known_at w d e t u same is known = is ∙ known ∙ ap (doing_at w) (sym same)

pub sifting-preserved : goal.sifting-preserved
sifting-preserved c = record {
  sifted = sifted_next c.args.program.now c.args.state.now c.args.choices.now c.sifting.possible.items c.note_choice.new.possible.items c.sifting.choice-index
      c.may_make-may.result c.sifting.invariant.sifted c.may_make-may.ensures c.in_ok-note_choice.ensures;
  known = elim c.if-next-thread.branch [
    | then-next-thread w ↦ known_at c.args.state.now.world _ _ _ _ w.thread-is w.doing-is (rw w.world-then-next-thread.ensures at w.doing-doing-then-next-thread.ensures.shown)
    | else-next-thread w ↦ known_at c.args.state.now.world _ _ _ _ w.thread-is w.doing-is c.sifting.invariant.known
  ];
}
