use Rattle.std.proofs.Common.{◌≡◌, ◌∙◌, ap, sym, rules, None}
use Rattle.std.specs.Prelude.{map, replicate}
use Rattle.explore.specs.Codes.{answer_number}
use Rattle.explore.proofs.Numbering.{no_replies}
use Rattle.explore.proofs.replies.NumberedReplies.none.Goals as goal

pub invariant_of-result : goal.invariant_of-result
invariant_of-result c =
    let zeros : c.in_ok-vec-2.field-0.items ≡ replicate c.args.count 0 = c.in_ok-vec-2.ensures.items_if_clones_equal (λ y e. search rules) in
    let nones : c.in_ok-vec.field-0.items ≡ replicate c.args.count None = c.in_ok-vec.ensures.items_if_clones_equal (λ y e. search rules) in
    zeros ∙ sym (no_replies c.args.count) ∙ ap (map answer_number) (sym nones)
