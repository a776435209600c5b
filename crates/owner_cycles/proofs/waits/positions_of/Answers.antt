use Rattle.std.proofs.Common.{◌∙◌, ℕ, ◌+◌, None, ap, get_or}
use Rattle.std.proofs.lemmas.List.{length_push}
use Rattle.owner_cycles.proofs.Positions.{row_more}
use Rattle.owner_cycles.proofs.waits.positions_of.Goals as goal

pub nexts-preserved : goal.nexts-preserved
nexts-preserved c = record {
  long = rw c.in_ok-push.ensures.items (length_push c.nexts.row.items c.position_of.result ∙ ap (λ (n : ℕ). n + 1) c.nexts.invariant.long);
  positioned = rw c.in_ok-push.ensures.items
      (row_more (λ (k : ℕ). get_or c.args.nexts.now k None) c.args.threads.now c.nexts.row.items c.nexts.next-index c.position_of.result c.nexts.invariant.long c.nexts.invariant.positioned c.position_of.ensures);
}
