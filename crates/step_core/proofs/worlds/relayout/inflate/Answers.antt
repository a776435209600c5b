use Rattle.std.proofs.Common.{ℕ, ◌≡◌, ap, sym, ◌∙◌, length, slice_index_or, slice_set}
use Rattle.std.proofs.lemmas.Bool.{lt-ltb}
use Rattle.lock_word.specs.declared.Lock.TheVariants.{Thin, Fat}
use Rattle.lock_word.specs.Layout.{lock_of, with_lock}
use Rattle.fat_monitor.specs.Binding.{Binding}
use Rattle.step_core.specs.World.{low_word}
use Rattle.step_core.specs.Ready.{world_of}
use Rattle.step_core.proofs.Relaying.Inflating.{nobody_there, inflates, found_word}
use Rattle.step_core.proofs.worlds.relayout.inflate.Goals as goal

pub unreachable-requires : goal.unreachable-requires
unreachable-requires c =
    let word = found_word c.args.words.now.items c.args.object.0 c.index.result.now c.requires.here c.index.ensures in
    let thin : lock_of c.args.old (slice_index_or c.args.words.now.items c.args.object.0 (low_word 0)).0 ≡ Thin c.in-Thin.index c.in-Thin.count =
    rw word (sym c.lock_of.ensures ∙ c.in-Thin.is) in
    let held = c.requires.held c.in-Thin.index c.in-Thin.count thin in
    nobody_there c.args.indices.now c.in-Thin.index held.0 held.2 (sym c.id_of.ensures.holder ∙ c.in_default-id_of.is)

pub returns : goal.returns
returns c = λ places.
    let word = found_word c.args.words.now.items c.args.object.0 c.index.result.now c.requires.here c.index.ensures in
    let thin : lock_of c.args.old (slice_index_or c.args.words.now.items c.args.object.0 (low_word 0)).0 ≡ Thin c.in-Thin.index c.in-Thin.count =
    rw word (sym c.lock_of.ensures ∙ c.in-Thin.is) in
    let held = c.requires.held c.in-Thin.index c.in-Thin.count thin in
    let number : c.monitor-monitor.result ≡ length c.args.fats.now.monitors = c.monitor-monitor.ensures.value ∙ ap (λ (b : Binding). b.monitor) c.in-Ok.ensures.receipt in
    let low = found_word c.args.words.now.items c.args.object.0 c.index-2.result.now c.requires.here c.index-2.ensures in
    let number_written : c.with_lock.result.0 ≡ with_lock c.args.old (slice_index_or c.args.words.now.items c.args.object.0 (low_word 0)).0 (Fat (length c.args.fats.now.monitors)) =
    rw (low, ← number) c.with_lock.ensures in
    inflates (world_of c.args.old c.args.words.now.items c.args.indices.now places c.args.fats.now) c.args.new c.args.object.0 c.in-Thin.index c.in-Thin.count c.in-Some.owner
    _ c.bind.new.self thin held.0 (sym c.id_of.ensures.holder ∙ c.in-Some.is) (lt-ltb _ _ (rw c.greatest_count.ensures at c.if-count-greatest_count.false))
    (ap (λ (n : ℕ). slice_set c.args.words.now.items c.args.object.0 (record { 0 = n })) number_written) c.in-Ok.ensures.bound
