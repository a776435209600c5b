use Rattle.std.proofs.Common.{◌≡◌, true, rules, codes}
use Rattle.script_text.specs.Words.{is_name}
use Rattle.script_text.proofs.Fronts.{verb_text}
use Rattle.script_text.proofs.quick.seldom_call.Goals as goal

pub returns-in-Some : goal.returns-in-Some
returns-in-Some c = record { text = c.in-Some.ensures; fits = tt }

pub returns-in-Some-behind : goal.returns-in-Some-behind
returns-in-Some-behind c = record { text = c.in-Some-behind.ensures; fits = tt }

pub returns-in-Some-behind-2 : goal.returns-in-Some-behind-2
returns-in-Some-behind-2 c =
    let right : is_name c.in_ok-object.object ≡ true = search rules in
    record {
      text = verb_text c.args.bytes.now (codes "notify ") c.in-Some-behind-2.rest.now _ c.in-Some-behind-2.ensures c.in_ok-object.ensures;
      fits = right;
    }

pub returns-in-Some-behind-3 : goal.returns-in-Some-behind-3
returns-in-Some-behind-3 c =
    let right : is_name c.in_ok-object-2.object ≡ true = search rules in
    record {
      text = verb_text c.args.bytes.now (codes "notifyall ") c.in-Some-behind-3.rest.now _ c.in-Some-behind-3.ensures c.in_ok-object-2.ensures;
      fits = right;
    }

pub returns-in-Some-behind-4 : goal.returns-in-Some-behind-4
returns-in-Some-behind-4 c =
    let right : is_name c.in_ok-object-3.object ≡ true = search rules in
    record {
      text = verb_text c.args.bytes.now (codes "holds ") c.in-Some-behind-4.rest.now _ c.in-Some-behind-4.ensures c.in_ok-object-3.ensures;
      fits = right;
    }

pub returns-in-Some-behind-5 : goal.returns-in-Some-behind-5
returns-in-Some-behind-5 c =
    let right : is_name c.in_ok-target.target ≡ true = search rules in
    record {
      text = verb_text c.args.bytes.now (codes "interrupt ") c.in-Some-behind-5.rest.now _ c.in-Some-behind-5.ensures c.in_ok-target.ensures;
      fits = right;
    }

pub returns : goal.returns
returns c =
    let right : is_name c.in_ok-target-2.target ≡ true = search rules in
    record {
      text = verb_text c.args.bytes.now (codes "isinterrupted ") c.in_ok-behind.field-0.now _ c.in_ok-behind.ensures c.in_ok-target-2.ensures;
      fits = right;
    }
