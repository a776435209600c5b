use native.Mathlib.Omega.{arith}
use Rattle.std.proofs.Common.{◌≡◌, ◌∙◌, ℕ, ◌≤◌, length, ap, refl}
use Rattle.std.specs.Prelude.{vec_len}
use Rattle.step_core.specs.World.{WorldState}
use Rattle.explore.specs.declared.programs.Program.{Program}
use Rattle.explore.specs.States.{attached}
use Rattle.explore.proofs.Granted.{attached_more}
use Rattle.explore.proofs.states.first_world.Goals as goal

-- each thread was attached
all_attached : (p : Program) (o w : WorldState) (m n : ℕ) → w ≡ attached o n → m ≤ n → n ≤ m → m ≡ vec_len p.starts
    → w ≡ attached o (length p.starts.items)
all_attached p o w m n h below above all =
    let same : n ≡ length p.starts.items = omega (arith, below, above, all, p.starts.ok.0) in
    h ∙ ap (attached o) same

pub attaching-init : goal.attaching-init
attaching-init c = refl

pub attaching-preserved : goal.attaching-preserved
attaching-preserved c =
    attached_more _ _ _ c.attaching.thread c.in-Ok.ensures.exact.0 _ c.attaching.invariant c.in-Ok.ensures.exact.1

pub returns : goal.returns
returns c =
    rw (← c.deref.ensures.value, ← c.in_ok-world.ensures.world)
    (all_attached c.args.program.now c.in_ok-world.world c.attaching.world c.len-thread-end.result c.attaching.thread
    c.attaching.invariant c.attaching-test.false c.attaching.auto.thread-end c.len-thread-end.ensures)
