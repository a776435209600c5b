use Rattle.std.proofs.Common.{◌≡◌, ◌++◌, take, map, string_bytes, vec_items}
use Rattle.live_runs.specs.Texts.{each_text, thread_text}
use Rattle.live_runs.proofs.texts.put_threads.Given as goal

abbrev pub invariant-threads : goal.invariant-threads
invariant-threads l = string_bytes l.text ≡ string_bytes l.fn.text ++ each_text thread_text (map (λ t. t.now) (take l.position l.names)) (map (λ w. (vec_items w.0, w.1)) (take l.position l.workers))
