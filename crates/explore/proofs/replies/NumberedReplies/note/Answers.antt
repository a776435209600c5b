use Rattle.std.proofs.Common.{◌∙◌, ◌+◌, ap, sym, ℕ, List, Some}
use Rattle.std.specs.Prelude.{map, slice_set}
use Rattle.std.proofs.lemmas.List.{map-set}
use Rattle.explore.specs.Codes.{answer_number}
use Rattle.explore.proofs.replies.NumberedReplies.note.Goals as goal

pub invariant_of-self : goal.invariant_of-self
invariant_of-self c =
    ap (λ (ns : List ℕ). slice_set ns c.args.at (c.number.result + 1)) c.self.invariant
    ∙ ap (λ (n : ℕ). slice_set (map answer_number c.self.inside.replies.items) c.args.at (n + 1)) c.number.ensures
    ∙ sym (map-set answer_number c.self.inside.replies.items c.args.at (Some c.args.reply))
