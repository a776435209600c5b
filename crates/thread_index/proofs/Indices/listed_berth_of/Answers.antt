use Rattle.std.proofs.Common.{◌≡◌, rules}
use Rattle.thread_index.specs.Indices.{berth_of}
use Rattle.thread_index.proofs.Berths.{berth_of-within}
use Rattle.thread_index.proofs.Wholes.{one_to_one-shown, few-shown}
use Rattle.thread_index.proofs.Indices.listed_berth_of.Goals as goal

pub returns-clause-berth : goal.returns-clause-berth
returns-clause-berth c = search rules

pub returns-clause-within : goal.returns-clause-within
returns-clause-within c =
    let berth : c.map.result ≡ berth_of c.args.self.now c.args.id = search rules in berth_of-within _ _ _ berth

pub returns-clause-one_to_one : goal.returns-clause-one_to_one
returns-clause-one_to_one c = one_to_one-shown _ _ _ _ _ c.self.invariant c.self.view_is

pub returns-clause-length : goal.returns-clause-length
returns-clause-length c = few-shown _ _ _ _ _ c.self.invariant c.self.view_is
