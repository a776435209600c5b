use Rattle.std.proofs.Common.{◌≡◌, true, rules, codes}
use Rattle.script_text.specs.Words.{is_name}
use Rattle.script_text.proofs.Fronts.{begin_front, verb_text}
use Rattle.script_text.proofs.quick.usual_step.Goals as goal

pub returns-in-Some : goal.returns-in-Some
returns-in-Some c =
    let right : is_name c.in_ok-thread.thread ≡ true = search rules in
    record {
      text = verb_text c.args.bytes.now (codes "go ") c.in-Some.rest.now _ c.in-Some.ensures c.in_ok-thread.ensures;
      fits = right;
    }

pub returns : goal.returns
returns c =
    let right : is_name c.in_ok-thread-2.thread ≡ true = search rules in
    begin_front c.args.bytes.now c.in_ok-behind.field-0.now c.in_ok-thread-2.thread c.in_ok-thread-2.rest.now c.in_ok-call.rest.now c.in_ok-call.call c.in_ok-behind.ensures c.in_ok-thread-2.ensures right c.in_ok-call.ensures
