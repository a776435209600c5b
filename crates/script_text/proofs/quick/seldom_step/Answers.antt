use Rattle.std.proofs.Common.{◌≡◌, true, rules, codes}
use Rattle.script_text.specs.Words.{is_name}
use Rattle.script_text.proofs.Fronts.{begin_front, verb_text}
use Rattle.script_text.proofs.quick.seldom_step.Goals as goal

pub returns-in-Some : goal.returns-in-Some
returns-in-Some c =
    let right : is_name c.in_ok-thread.thread ≡ true = search rules in
    begin_front c.args.bytes.now c.in-Some.rest.now c.in_ok-thread.thread c.in_ok-thread.rest.now c.in_ok-call.rest.now c.in_ok-call.call c.in-Some.ensures c.in_ok-thread.ensures right c.in_ok-call.ensures

pub returns-in-Some-behind : goal.returns-in-Some-behind
returns-in-Some-behind c =
    let right : is_name c.in_ok-thread-2.thread ≡ true = search rules in
    record {
      text = verb_text c.args.bytes.now (codes "attach ") c.in-Some-behind.rest.now _ c.in-Some-behind.ensures c.in_ok-thread-2.ensures;
      fits = right;
    }

pub returns-in-Some-behind-2 : goal.returns-in-Some-behind-2
returns-in-Some-behind-2 c =
    let right : is_name c.in_ok-thread-3.thread ≡ true = search rules in
    record {
      text = verb_text c.args.bytes.now (codes "expire ") c.in-Some-behind-2.rest.now _ c.in-Some-behind-2.ensures c.in_ok-thread-3.ensures;
      fits = right;
    }

pub returns : goal.returns
returns c =
    let right : is_name c.in_ok-thread-4.thread ≡ true = search rules in
    record {
      text = verb_text c.args.bytes.now (codes "spurious ") c.in_ok-behind.field-0.now _ c.in_ok-behind.ensures c.in_ok-thread-4.ensures;
      fits = right;
    }
