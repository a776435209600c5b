use Rattle.std.proofs.Common.{◌≡◌, take, map, vec_len, vec_capacity}
use Rattle.live_seats.specs.Ends.{thread_of}
use Rattle.live_seats.proofs.closing.note_threads.Given as goal

abbrev pub invariant-loop-pass : goal.invariant-loop-pass
invariant-loop-pass g l = record {
  threads : l.threads.items ≡ map thread_of (take l.pass-index l.passes);
  len : vec_len l.threads ≡ l.pass-index;
  room : vec_capacity l.threads ≡ vec_capacity l.fn.threads;
}
