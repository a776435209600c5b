use Rattle.std.proofs.Common.{All, take, sym, subst}
use Rattle.std.proofs.lemmas.List.{take_all, take_more}
use Rattle.std.proofs.lemmas.List.Elements.{All-push}
use Rattle.live_turns.specs.Ends.{HasOwn}
use Rattle.live_turns.proofs.ending.all_agree.Goals as goal

pub loop-rest-preserved : goal.loop-rest-preserved
loop-rest-preserved g c =
    let log = c.args.log.now in
    let own : HasOwn log c.rest-item.result = rw (← c.rest.view_is) (rw (c.as_slice.ensures.value, c.rest.invariant.0) at (c.agrees.ensures.own c.if-not-agrees.false)) in
    subst (All (HasOwn log)) (sym (take_more c.args.rests.now c.loop-rest.rest-index c.rest-item.result c.loop-rest-test.true))
    (All-push (HasOwn log) (take c.loop-rest.rest-index c.args.rests.now) _ c.loop-rest.invariant (subst (HasOwn log) c.rest-item.is own))

pub returns : goal.returns
returns g c = record {
  own = λ _. subst (All (HasOwn c.args.log.now)) (take_all c.loop-rest.rest-index c.args.rests.now c.loop-rest-test.false) c.loop-rest.invariant;
  other = λ e. absurd (cc);
}
