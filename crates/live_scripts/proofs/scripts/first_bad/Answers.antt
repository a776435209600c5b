use Rattle.std.proofs.Common.{◌∙◌, sym, map, inl, inr, arith}
use Rattle.std.proofs.lemmas.Bool.{eqb-true}
use Rattle.live_scripts.proofs.Reading.{live_bad, some_bytes, no_names}
use Rattle.live_scripts.proofs.scripts.first_bad.Goals.{then-count-lines-via-then-count-lines, then-count-lines-via-else-count-lines+then-not-is_empty, then-count-lines-via-else-count-lines+else-not-is_empty+then-is_empty}
use Rattle.live_scripts.proofs.scripts.first_bad.Goals as goal

pub returns-then-count-lines : goal.returns-then-count-lines
returns-then-count-lines c =
    let n = c.in_ok-count.count in
    let names = map (λ t. t.now) c.running_lines.new.threads.items in
    λ bytes b. live_bad bytes c.args.rest.now c.args.lines.now n names b c.in_ok-count.ensures (elim c.then-count-lines.branch [
      | then-count-lines-via-then-count-lines w ↦ inl w.if-count-lines.true
      | then-count-lines-via-else-count-lines+then-not-is_empty w ↦ inr (inl (some_bytes c.args.rest.now (sym w.is_empty.ensures ∙ w.if-not-is_empty.true)))
      | then-count-lines-via-else-count-lines+else-not-is_empty+then-is_empty w ↦ inr (inr (no_names c.running_lines.new.threads.items (omega (arith, c.running_lines.new.threads.ok.0, eqb-true _ _ (sym w.is_empty-else-not-is_empty.ensures ∙ w.if-is_empty.true)))))
    ])
