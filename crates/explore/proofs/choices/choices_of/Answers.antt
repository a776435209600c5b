use Rattle.std.proofs.Common.{◌≡◌, ◌∙◌, ℕ, ◌+◌, ◌≤◌, List, [], ◌∷◌, ◌++◌, length, add-one, ap, append_assoc, arith}
use Rattle.std.specs.Prelude.{vec_len}
use Rattle.explore.specs.declared.programs.Program.{Program}
use Rattle.explore.specs.declared.programs.Choice.{Choice}
use Rattle.explore.specs.declared.programs.Choice.TheVariants as choice
use Rattle.explore.specs.Found.{all_choices, choices_below}
use Rattle.explore.proofs.choices.choices_of.Goals as goal

-- behind the choices of the threads below a number, the four of one thread more
one_more : (n : ℕ) (v a b d e : List Choice) → v ≡ choices_below n → a ≡ v ++ choice.Begin n ∷ [] → b ≡ a ++ choice.Go n ∷ []
    → d ≡ b ++ choice.Expire n ∷ [] → e ≡ d ++ choice.Spurious n ∷ [] → e ≡ choices_below (n + 1)
one_more n v a b d e h begin go expire spurious = rw (spurious, expire, go, begin, h, add-one) (simp append_assoc)

pub threads-preserved : goal.threads-preserved
threads-preserved c =
    one_more c.threads.thread c.threads.choices.items c.push.new.self.items c.push-in-threads.new.self.items c.push-in-threads-2.new.self.items c.push-in-threads-3.new.self.items
    c.threads.invariant c.in_ok-push.ensures.items c.in_ok-push-2.ensures.items c.in_ok-push-3.ensures.items c.in_ok-push-4.ensures.items

-- and behind those of all threads, the clock's
clock_last : (p : Program) (m n : ℕ) (v e : List Choice) → v ≡ choices_below n → m ≤ n → n ≤ m → m ≡ vec_len p.starts
    → e ≡ v ++ choice.Tick ∷ [] → e ≡ all_choices p
clock_last p m n v e h below above all tick =
    let same : n ≡ length p.starts.items = omega (arith, below, above, all, p.starts.ok.0) in
    tick ∙ ap (λ (xs : List Choice). xs ++ choice.Tick ∷ []) (h ∙ ap choices_below same)

pub returns : goal.returns
returns c =
    clock_last c.args.program.now c.len-thread-end.result c.threads.thread c.threads.choices.items c.push-2.new.self.items
    c.threads.invariant c.threads-test.false c.threads.auto.thread-end c.len-thread-end.ensures c.in_ok-push-5.ensures.items
