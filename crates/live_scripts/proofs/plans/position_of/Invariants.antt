use Rattle.std.proofs.Common.{◌≡◌, ◌+◌, drop, map}
use Rattle.script_text.specs.Names.{position_of}
use Rattle.live_scripts.proofs.plans.position_of.Given as goal

abbrev pub invariant-names : goal.invariant-names
invariant-names l = record {
  position : l.position ≡ l.other-index;
  before : position_of (map (λ t. t.now) l.names) l.fn.name ≡ l.other-index + position_of (map (λ t. t.now) (drop l.other-index l.names)) l.fn.name;
}
