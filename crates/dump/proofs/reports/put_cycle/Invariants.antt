use Rattle.std.proofs.Common.{◌≡◌, ◌++◌, ◌∷◌, take, string_bytes}
use Rattle.std.specs.Prelude.{codes}
use Rattle.std.specs.List.{flat_map}
use Rattle.lock_word.specs.declared.ThreadId.{ThreadId}
use Rattle.dump.specs.Reports.{thread_name}
use Rattle.dump.proofs.reports.put_cycle.Given as goal

abbrev pub invariant-threads : goal.invariant-threads
invariant-threads l = string_bytes l.text ≡ string_bytes l.fn.text ++ codes "cycle" ++ flat_map (λ (t : ThreadId). 32 ∷ thread_name l.names t) (take l.thread-index l.cycle)
