use Rattle.std.proofs.Common.{◌≡◌, ◌≤◌, length, take, vec_capacity}
use Rattle.live_threads.specs.Driving.{Answered}
use Rattle.live_threads.proofs.driving.work_through.Given as goal

abbrev pub invariant-loop-call : goal.invariant-loop-call
invariant-loop-call g l = record {
  number : l.number ≡ l.call-index;
  room : length l.call-items ≤ vec_capacity l.answers;
  here : l.pass.words.opening ≡ l.live;
  count : length l.answers.items ≡ l.call-index;
  answered : Answered l.live (take l.call-index l.call-items) l.answers.items l.fn.job.work.pass l.pass;
}
