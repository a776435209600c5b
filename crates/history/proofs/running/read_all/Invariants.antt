use Rattle.std.proofs.Common.{◌≡◌, ◌-◌, vec_len}
use Rattle.std.specs.Io.KnownBytes.{Consumes}
use Rattle.history.proofs.running.read_all.Given as goal

-- what the source gave so far is what is kept
abbrev pub invariant-reading : goal.invariant-reading
invariant-reading g l = record {
  sum : g.S.Source.given l.source ≡ vec_len l.bytes;
  took : Consumes (g.S.Source.left l.fn.source) (g.S.Source.left l.source) l.bytes.items;
  whole : g.S.Source.has_failed l.source → g.S.Source.has_failed l.fn.source;
}

abbrev pub decreases-reading : goal.decreases-reading
decreases-reading g l = 16777217 - vec_len l.bytes
