use Rattle.std.proofs.Common.{◌≡◌, ℕ, ◌+◌, ◌-◌, ◌*◌, ◌/◌, ◌<◌, ◌≤◌, sym, ap, ◌∙◌, subst, refl, inl, arith}
use Rattle.std.specs.Prelude.{slice_index}
use Rattle.header_words.specs.WideWords.{word_of}
use Rattle.lock_word.specs.declared.Lock.TheVariants.{Fat}
use Rattle.header_words.specs.declared.event.EventKind.TheVariants.{Publish}
use Rattle.header_words.specs.Events.{depth}
use Rattle.header_words.specs.Passes.{Opening, MakesEvent}
use Rattle.header_words.proofs.headers.Headers.publish.Goals as goal

-- the monitor is read back from its word
monitor_of : (m low : ℕ) → low < 256 → (2147483648 + m * 256 + low - 2147483648) / 256 ≡ m
monitor_of m low h = omega arith

pub note_then_store-requires-clause-legal : goal.note_then_store-requires-clause-legal
note_then_store-requires-clause-legal g c =
    let o : ℕ = c.object.result.0 in
    let byte : slice_index c.args.self.now.lows o < 256 = subst (λ (z : Opening). slice_index z.lows o < 256) c.self.view_is (c.self.invariant.bytes o) in
    let n : ℕ = depth o c.args.pass.now.mine in
    let holds : c.holds.result ≡ n = c.holds.ensures.value ∙ (c.requires.holds ∙ ap (λ x. depth x.0 c.args.pass.now.mine) (sym c.object.ensures)) in
    let low = c.holds.ensures.low in
    let is = monitor_of c.monitor-monitor.result (slice_index c.args.self.now.lows o) byte in
    let most = c.monitor-monitor.ensures.high in
    (inl c.requires.gate, n - 1, omega arith, (refl, subst (λ (x : ℕ). x ≤ 8388607) (sym is) most), ap Fat (sym is), refl)

pub returns : goal.returns
returns g c =
    let o : ℕ = c.object.result.0 in
    let byte : slice_index c.args.self.now.lows o < 256 = subst (λ (z : Opening). slice_index z.lows o < 256) c.self.view_is (c.self.invariant.bytes o) in
    let is = monitor_of c.monitor-monitor.result (slice_index c.args.self.now.lows o) byte in
    let made : MakesEvent o (Publish c.monitor-monitor.result) (word_of (Fat c.monitor-monitor.result) (slice_index c.args.self.now.lows o)) c.args.pass.now c.note_then_store.new.pass =
    subst (λ (m : ℕ). MakesEvent o (Publish m) (word_of (Fat c.monitor-monitor.result) (slice_index c.args.self.now.lows o)) c.args.pass.now c.note_then_store.new.pass) is c.note_then_store.ensures in
    subst (λ (z : ℕ × ℕ). MakesEvent z.0 (Publish z.1) (word_of (Fat z.1) (slice_index c.args.self.now.lows z.0)) c.args.pass.now c.note_then_store.new.pass) (λ k. (ap (λ x. x.0) c.object.ensures k, c.monitor-monitor.ensures.value k)) made
