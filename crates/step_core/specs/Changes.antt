-- The one change that an accepted step made, as its atomic step names it.
use Rattle.std.specs.Prelude.{◌≡◌, ◌≢◌, ℕ, ◌+◌, ◌<◌, length, slice_set, Some, Ok}
use Rattle.lock_word.specs.declared.ThreadId.{ThreadId}
use Rattle.lock_word.specs.declared.ObjectId.{ObjectId}
use Rattle.lock_word.specs.declared.Word.{Word}
use Rattle.lock_word.specs.declared.Lock.{Lock}
use Rattle.lock_word.specs.declared.Lock.TheVariants.{Free, Thin}
use Rattle.lock_word.specs.Layout.{lock_of, low_of}
use Rattle.thread_index.specs.Indices.{index_of}
use Rattle.fat_monitor.specs.declared.actions.Action.TheVariants as action
use Rattle.fat_monitor.specs.declared.actions.Answer.TheVariants as answer
use Rattle.fat_monitor.specs.declared.actions.Done.{Done}
use Rattle.fat_monitor.specs.FatState.{bound_with, with_thread, with_moment}
use Rattle.fat_monitor.specs.Acting.{outcome_of, MayAct, NamesBound}
use Rattle.step_core.specs.declared.steps.Atomic.{Atomic}
use Rattle.step_core.specs.declared.steps.Atomic.TheVariants.{Label, Load, Won, Lost, Stored, Bound, NotBound, Acted}
use Rattle.step_core.specs.declared.steps.Step.{Step}
use Rattle.step_core.specs.declared.steps.Step.TheVariants as step
use Rattle.step_core.specs.World.{WorldState, word_at, lock_at}

-- the words and the fat state stay
abbrev pub Same : WorldState → WorldState → Type 0
Same w w' = (w'.words ≡ w.words) × (w'.fats ≡ w.fats)

-- object o exists, and this is its word
abbrev pub Shows : WorldState → ObjectId → Word → Type 0
Shows w o x = (o.0 < length w.words) × (word_at w o.0 ≡ x)

-- this is the word of o then, with the low byte that it had; nothing else changes
abbrev pub Writes : WorldState → ObjectId → Word → WorldState → Type 0
Writes w o y w' =
    (low_of y.0 ≡ low_of (word_at w o.0).0) × (w'.words ≡ slice_set w.words o.0 y) × (w'.fats ≡ w.fats)

-- the lock is t's own thin one, with this count
abbrev pub IsOwn : WorldState → ThreadId → Lock → ℕ → Type 0
IsOwn w t l n = (i : ℕ) × (index_of w.berths t ≡ Some i) × (l ≡ Thin i n)

-- What a Go of t changed. A load and a lost exchange tell the word that is there. A won exchange turns the free
-- word into the thread's own, and a store a thin word of its own into another one. A bind adds a monitor with all
-- the holds of the thread's own thin word. An action on the fat monitors is one that the thread may make.
abbrev pub GoChanges : WorldState → ThreadId → Atomic → WorldState → Type 0
GoChanges w t (Load o x) w' = Shows w o x × Same w w'
GoChanges w t (Lost o x) w' = Shows w o x × (lock_of w.split x.0 ≢ Free) × Same w w'
GoChanges w t (Won o x y) w' =
    Shows w o x × (lock_of w.split x.0 ≡ Free) × IsOwn w t (lock_of w.split y.0) 0 × Writes w o y w'
GoChanges w t (Stored o x y) w' = Shows w o x × ((n : ℕ) × IsOwn w t (lock_of w.split x.0) n) × Writes w o y w'
GoChanges w t (Bound o m) w' =
    (o.0 < length w.words) × (m ≡ length w.fats.monitors)
    × ((n : ℕ) × IsOwn w t (lock_at w o.0) n × (w'.fats ≡ bound_with w.fats o t (n + 1)))
    × (w'.words ≡ w.words)
GoChanges w t (NotBound o cause) w' = (o.0 < length w.words) × Same w w'
GoChanges w t (Acted a x) w' =
    MayAct w.fats t a × NamesBound w.fats a
    × ((d : Done) × ((outcome_of w.fats t a).answer ≡ Ok d) × (d.answer ≡ x))
    × (w'.fats ≡ (outcome_of w.fats t a).after) × (w'.words ≡ w.words)
GoChanges w t Label w' = ⊥

-- What a step changed. An attach, a begin and the moment are told by a label.
abbrev pub Changes : WorldState → Step → Atomic → WorldState → Type 0
Changes w (step.Attach t) Label w' = (w'.words ≡ w.words) × (w'.fats ≡ with_thread w.fats t)
Changes w (step.Begin t c) Label w' = Same w w'
Changes w (step.Go t) a w' = GoChanges w t a w'
Changes w (step.Expire t) (Acted action.Expire answer.Quiet) w' =
    (w'.words ≡ w.words) × (w'.fats ≡ (outcome_of w.fats t action.Expire).after)
Changes w (step.Spurious t) (Acted action.Spurious answer.Quiet) w' =
    (w'.words ≡ w.words) × (w'.fats ≡ (outcome_of w.fats t action.Spurious).after)
Changes w (step.Tick now) Label w' = (w'.words ≡ w.words) × (w'.fats ≡ with_moment w.fats now)
Changes w s a w' = ⊥
