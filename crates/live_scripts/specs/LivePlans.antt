-- The plan of a live script.
use Rattle.std.specs.Prelude.{◌≡◌, List, map}
use Rattle.script_text.specs.declared.lines.Line.{Line}
use Rattle.live_scripts.specs.declared.plans.LivePlan.{LivePlan}
use Rattle.live_scripts.specs.Rules.{attached_threads}
use Rattle.live_scripts.specs.Plans.{calls_of, lows_of, monitors_in, objects_of}

-- its numbers, its names, and the calls of each thread are those of these lines
pub record IsPlanOf (ls : List Line) (plan : LivePlan) : Type 0 where
  pub monitors : plan.monitors ≡ monitors_in ls
  pub threads : map (λ t. t.now) plan.threads.items ≡ attached_threads ls
  pub objects : map (λ t. t.now) plan.objects.items ≡ objects_of ls
  pub lows : plan.lows.items ≡ lows_of ls
  pub calls : map (λ v. v.items) plan.calls.items ≡ map (λ t. calls_of (objects_of ls) (attached_threads ls) t ls) (attached_threads ls)
