use Rattle.std.proofs.Common.{◌≡◌, ◌++◌, ◌+◌, ◌<◌, ◌^◌, drop, length, None}
use Rattle.pictures.specs.Arrows.{hand_overs}
use Rattle.pictures.specs.Spans.{strip_covered}
use Rattle.pictures.proofs.arrows.put_hand_overs.Given as goal

abbrev pub invariant-spans : goal.invariant-spans
invariant-spans l = record {
  small : l.column + length (strip_covered (drop l.span-index l.spans)) < 2 ^ 32;
  arrows : l.arrows.items ++ hand_overs l.last l.column (drop l.span-index l.spans) ≡ l.fn.arrows.items ++ hand_overs None 0 l.spans;
}
