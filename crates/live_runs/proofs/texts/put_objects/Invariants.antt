use Rattle.std.proofs.Common.{◌≡◌, ◌++◌, take, map, string_bytes}
use Rattle.live_runs.specs.Texts.{each_text, object_text}
use Rattle.live_runs.proofs.texts.put_objects.Given as goal

abbrev pub invariant-objects : goal.invariant-objects
invariant-objects l = string_bytes l.text ≡ string_bytes l.fn.text ++ each_text object_text (map (λ t. t.now) (take l.position l.names)) (map (λ w. w.0) (take l.position l.words))
