use Rattle.std.proofs.lemmas.Grind.{common_steps}
use Rattle.std.proofs.Common.{◌≡◌, ◌-◌, ◌∙◌, true, Some, arith}
use Rattle.thread_index.specs.Indices.{berth_of}
use Rattle.step_core.specs.declared.places.Place.TheVariants.{InCall, Ending, AtPost}
use Rattle.step_core.specs.World.{WorldState}
use Rattle.step_core.specs.Ready.{world_of}
use Rattle.step_core.proofs.CodeOfGo.{berth_of_index, is_out, go_answer, go_sound, went_stage, look_at, end_at}
use Rattle.step_core.proofs.going.go.Goals as goal

pub go_from-requires-clause-out : goal.go_from-requires-clause-out
go_from-requires-clause-out c =
    let w : WorldState = world_of c.args.split c.args.words.now c.args.indices.now c.args.places.now c.args.fats.now in
    let berth : berth_of c.args.indices.now c.args.thread ≡ Some (c.in-Some.index - 1) = berth_of_index c.args.indices.now c.args.thread c.in-Some.index c.in-Some.ensures.index in
    is_out w c.requires (c.in-Some.index - 1) c.args.thread berth (InCall c.in-InCall.stage) c.in-InCall.is (λ e. cc)

pub end-requires-clause-out : goal.end-requires-clause-out
end-requires-clause-out c =
    let w : WorldState = world_of c.args.split c.args.words.now c.args.indices.now c.args.places.now c.args.fats.now in
    let berth : berth_of c.args.indices.now c.args.thread ≡ Some (c.in-Some.index - 1) = berth_of_index c.args.indices.now c.args.thread c.in-Some.index c.in-Some.ensures.index in
    is_out w c.requires (c.in-Some.index - 1) c.args.thread berth (Ending c.in-Ending.loaded) c.in-Ending.is (λ e. cc)

pub returns-in-InCall : goal.returns-in-InCall
returns-in-InCall c =
    let w : WorldState = world_of c.args.split c.args.words.now c.args.indices.now c.args.places.now c.args.fats.now in
    let berth : berth_of c.args.indices.now c.args.thread ≡ Some (c.in-Some.index - 1) = berth_of_index c.args.indices.now c.args.thread c.in-Some.index c.in-Some.ensures.index in
    let e = went_stage w (c.in-Some.index - 1) c.args.thread c.go_from.ensures.0 c.in-InCall.stage _ c.go_from.ensures.1 in
    record {
      sound = go_sound w c.requires (c.in-Some.index - 1) c.args.thread berth c.go_from.ensures.0 (InCall c.in-InCall.stage) c.in-InCall.is _ e;
      exact = (c.go_from.ensures.0, e ∙ go_answer w c.requires (c.in-Some.index - 1) c.args.thread berth c.go_from.ensures.0 (InCall c.in-InCall.stage) c.in-InCall.is);
    }

pub returns-in-Ending : goal.returns-in-Ending
returns-in-Ending c =
    let w : WorldState = world_of c.args.split c.args.words.now c.args.indices.now c.args.places.now c.args.fats.now in
    let berth : berth_of c.args.indices.now c.args.thread ≡ Some (c.in-Some.index - 1) = berth_of_index c.args.indices.now c.args.thread c.in-Some.index c.in-Some.ensures.index in
    let e = look_at true w (c.in-Some.index - 1) c.args.thread c.in-Ending.loaded c.if-loaded-words.true _ (c.look.ensures c.args.fats.now) in
    record {
      sound = go_sound w c.requires (c.in-Some.index - 1) c.args.thread berth true (Ending c.in-Ending.loaded) c.in-Ending.is _ e;
      exact = (true, e ∙ go_answer w c.requires (c.in-Some.index - 1) c.args.thread berth true (Ending c.in-Ending.loaded) c.in-Ending.is);
    }

pub returns-in-Ending-2 : goal.returns-in-Ending-2
returns-in-Ending-2 c =
    let w : WorldState = world_of c.args.split c.args.words.now c.args.indices.now c.args.places.now c.args.fats.now in
    let berth : berth_of c.args.indices.now c.args.thread ≡ Some (c.in-Some.index - 1) = berth_of_index c.args.indices.now c.args.thread c.in-Some.index c.in-Some.ensures.index in
    let e = c.end.ensures c.args.split c.args.words.now ∙ end_at true w (c.in-Some.index - 1) c.args.thread c.in-Ending.loaded c.if-loaded-words.false in
    record {
      sound = go_sound w c.requires (c.in-Some.index - 1) c.args.thread berth true (Ending c.in-Ending.loaded) c.in-Ending.is _ e;
      exact = (true, e ∙ go_answer w c.requires (c.in-Some.index - 1) c.args.thread berth true (Ending c.in-Ending.loaded) c.in-Ending.is);
    }

pub returns-in-AtPost : goal.returns-in-AtPost
returns-in-AtPost c =
    let w : WorldState = world_of c.args.split c.args.words.now c.args.indices.now c.args.places.now c.args.fats.now in
    let berth : berth_of c.args.indices.now c.args.thread ≡ Some (c.in-Some.index - 1) = berth_of_index c.args.indices.now c.args.thread c.in-Some.index c.in-Some.ensures.index in
    let e = c.collect.ensures c.args.split c.args.words.now c.args.indices.now in
    record {
      sound = go_sound w c.requires (c.in-Some.index - 1) c.args.thread berth true AtPost c.in-AtPost.is _ e;
      exact = (true, e ∙ go_answer w c.requires (c.in-Some.index - 1) c.args.thread berth true AtPost c.in-AtPost.is);
    }

pub go_from-requires-clause-ready : goal.go_from-requires-clause-ready
go_from-requires-clause-ready c = grind (arith, common_steps)

pub returns-in-Idle-clause-exact : goal.returns-in-Idle-clause-exact
returns-in-Idle-clause-exact c = grind (arith, common_steps)
