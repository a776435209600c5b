use Rattle.std.proofs.Common.{◌≡◌, ◌++◌, take, map, vec_items, string_bytes}
use Rattle.std.specs.List.{flat_map}
use Rattle.dump.specs.Reports.{cycle_text}
use Rattle.explore_runs.proofs.outcomes.put_cycle_lines.Given as goal

abbrev pub invariant-cycles : goal.invariant-cycles
invariant-cycles l = string_bytes l.text ≡ string_bytes l.fn.text ++ flat_map (cycle_text l.names) (map vec_items (take l.cycle-index l.cycles))
