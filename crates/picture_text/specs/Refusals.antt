-- What a world refuses, each at its column.
use Rattle.std.specs.Prelude.{ℕ, zero, suc, ◌+◌, List, [], ◌∷◌, Option, None, Some, codes, slice_get}
use Rattle.lock_word.specs.declared.Split.{Split}
use Rattle.lock_word.specs.declared.Split.TheVariants.{Wide, Deep}
use Rattle.step_core.specs.declared.steps.Step.{Step}
use Rattle.step_core.specs.declared.steps.Step.TheVariants as step
use Rattle.step_core.specs.Names.{fault_name, relayout_fault_name}
use Rattle.pictures.specs.declared.columns.Refusal.{Refusal}
use Rattle.pictures.specs.declared.columns.Refusal.TheVariants as refusal
use Rattle.pictures.specs.declared.picture.RefusalMark.{RefusalMark}
use Rattle.picture_text.specs.declared.layout.Layout.{Layout}
use Rattle.picture_text.specs.declared.naming.Naming.{Naming}
use Rattle.picture_text.specs.Nodes.{Node, Words, Figure, Nothing, Then, in_turn}
use Rattle.picture_text.specs.Pieces.{group, title}
use Rattle.picture_text.specs.Layout.{x_at}
use Rattle.picture_text.specs.Marks.{column_node, cross_lines}
use Rattle.picture_text.specs.Naming.{call_text, thread_node}

-- a step as a script writes it
unfoldable pub step_node : Naming → Step → Node
step_node naming (step.Attach t) = Then (Words (codes "attach ")) (thread_node naming t)
step_node naming (step.Begin t c) =
    in_turn (Words (codes "begin ") ∷ thread_node naming t ∷ Words (codes " ") ∷ Words (call_text naming c) ∷ [])
step_node naming (step.Go t) = Then (Words (codes "go ")) (thread_node naming t)
step_node naming (step.Expire t) = Then (Words (codes "expire ")) (thread_node naming t)
step_node naming (step.Spurious t) = Then (Words (codes "spurious ")) (thread_node naming t)
step_node naming (step.Tick now) = Then (Words (codes "tick ")) (Figure now)

abbrev pub split_words : Split → List ℕ
split_words Wide = codes "relayout wide"
split_words Deep = codes "relayout deep"

-- what is refused
unfoldable pub asked_node : Naming → Refusal → Node
asked_node naming (refusal.Step s fault) = step_node naming s
asked_node naming (refusal.Relayout split fault) = Words (split_words split)

-- and why
unfoldable pub fault_words : Refusal → List ℕ
fault_words (refusal.Step s fault) = fault_name fault
fault_words (refusal.Relayout split fault) = relayout_fault_name fault

unfoldable pub told_node : Naming → Refusal → Node
told_node naming r = in_turn (asked_node naming r ∷ Words (codes " is refused: ") ∷ Words (fault_words r) ∷ [])

unfoldable pub refusal_title : Naming → Layout → RefusalMark → Node
refusal_title naming l mark = title (Then (told_node naming mark.refusal) (column_node l mark.column))

-- a cross at the top of the column, between the moments and the first lane
unfoldable pub refusal_node : Naming → Layout → RefusalMark → Node
refusal_node naming l mark = group (codes "refusal") (in_turn (
    refusal_title naming l mark ∷ cross_lines (x_at l mark.column + 1) 39 ∷ []))

abbrev pub refusal_in : Naming → Layout → Option RefusalMark → Node
refusal_in naming l None = Nothing
refusal_in naming l (Some mark) = refusal_node naming l mark

-- the refusal with a number
unfoldable pub refusal_at : Naming → Layout → List RefusalMark → ℕ → Node
refusal_at naming l refusals n = refusal_in naming l (slice_get refusals n)

-- the first refusals
abbrev pub refusals_below : Naming → Layout → List RefusalMark → ℕ → Node
refusals_below naming l refusals zero = Nothing
refusals_below naming l refusals (suc n) = Then (refusals_below naming l refusals n) (refusal_at naming l refusals n)
