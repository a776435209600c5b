use Rattle.std.proofs.Common.{◌≡◌, [], map, take}
use Rattle.live_scripts.specs.Rules.{Runs, attached_threads, most_threads}
use Rattle.live_scripts.proofs.rules.running_lines.Given as goal

abbrev pub invariant-lines : goal.invariant-lines
invariant-lines l = record {
  count : l.count ≡ l.line-index;
  most : l.most ≡ most_threads (take l.line-index l.lines);
  threads : map (λ t. t.now) l.threads.items ≡ attached_threads (take l.line-index l.lines);
  runs : Runs [] (take l.line-index l.lines);
}
