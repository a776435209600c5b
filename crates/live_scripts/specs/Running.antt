-- How many lines at the front of a script may run.
use Rattle.std.specs.Prelude.{◌≡◌, ◌<◌, ◌≤◌, ℕ, List, [], length, take, get_or, false}
use Rattle.script_text.specs.declared.lines.Line.{Line}
use Rattle.live_scripts.specs.Rules.{Runs, attached_threads, may_run}

pub record IsRunning (ls : List Line) (n : ℕ) (threads : List (List ℕ)) : Type 0 where
  pub within : n ≤ length ls
  pub runs : Runs [] (take n ls)
  pub attached : threads ≡ attached_threads (take n ls)
  pub stuck : (d : Line) → n < length ls → may_run (take n ls) (get_or ls n d) ≡ false
