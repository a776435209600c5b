use Rattle.std.proofs.Common.{ap, arith, length, sym, ◌∙◌, rules}
use Rattle.std.proofs.lemmas.Grind.{common_steps}
use Rattle.std.proofs.lemmas.List.{length-map}
use Rattle.header_words.specs.Passes.{new_passes}
use Rattle.live_turns.specs.Ways.{new_holding}
use Rattle.live_turns.proofs.Rows.{length-new_passes}
use Rattle.live_scripts.specs.Rules.{attached_threads}
use Rattle.live_scripts.specs.Plans.{calls_of, objects_of}
use Rattle.live_runs.proofs.Plans.{few_lows, few_named, rows_are, threads_are}
use Rattle.live_runs.proofs.Workers.{calls_are}
use Rattle.live_runs.proofs.playing.play.Goals as goal

pub open-requires-clause-objects : goal.open-requires-clause-objects
open-requires-clause-objects g c = omega (arith, few_lows c.args.script.now c.requires.script, ap length c.deref.ensures.value, ap length c.requires.plan.lows)

pub open-requires-clause-few : goal.open-requires-clause-few
open-requires-clause-few g c = omega (arith, few_named c.args.script.now c.args.plan.threads.items c.requires.script c.requires.plan.threads, c.requires.threads)

pub works_of-requires : goal.works_of-requires
works_of-requires g c =
    rows_are (λ v. v.items) (λ t. calls_of (objects_of c.args.script.now) (attached_threads c.args.script.now) t c.args.script.now) c.args.plan.calls.items (attached_threads c.args.script.now) c.requires.plan.calls
    ∙ (sym (threads_are c.args.script.now c.args.plan.threads.items c.requires.plan.threads) ∙ (c.requires.threads
    ∙ sym (ap length c.in_ok-live.ensures.passes ∙ (length-map (new_passes c.in_ok-live.live 1 c.args.passes) new_holding ∙ length-new_passes c.in_ok-live.live 1 c.args.passes))))

pub drive_all-requires-clause-calls : goal.drive_all-requires-clause-calls
drive_all-requires-clause-calls g c κs within = calls_are c.in_ok-works.works.items c.args.plan.calls.items _ c.in_ok-works.ensures.calls c.requires.plan.calls

pub open-requires-clause-some : goal.open-requires-clause-some
open-requires-clause-some g c = grind (arith, common_steps)

pub drive_all-requires-clause-lows : goal.drive_all-requires-clause-lows
drive_all-requires-clause-lows g c κs within = search rules
