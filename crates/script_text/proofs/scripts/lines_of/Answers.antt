use Rattle.std.proofs.Common.{◌≡◌, ◌∙◌, sym, length, vec_len, arith}
use Rattle.script_text.proofs.Beginnings.{beginning_empty, beginning_bad, beginning_whole}
use Rattle.script_text.proofs.scripts.lines_of.Goals.{then-is_empty-via-then-is_empty, then-is_empty-via-else-is_empty+then-not-is_empty}
use Rattle.script_text.proofs.scripts.lines_of.Goals as goal

pub returns-then-is_empty : goal.returns-then-is_empty
returns-then-is_empty c = let n : c.len.result ≡ length c.in_ok-lines.lines.items = omega (arith, c.len.ensures, c.in_ok-lines.lines.ok.0) in
    elim c.then-is_empty.branch [
      | then-is_empty-via-then-is_empty w ↦ beginning_empty c.args.bytes.now c.in_ok-lines.rest.now c.in_ok-lines.lines.items c.len.result c.in_ok-lines.ensures n (rw c.len.ensures (sym c.is_empty.ensures ∙ w.if-is_empty.true))
      | then-is_empty-via-else-is_empty+then-not-is_empty w ↦ beginning_bad c.args.bytes.now c.in_ok-lines.rest.now c.in_ok-lines.lines.items c.len.result c.in_ok-lines.ensures n (sym w.is_empty-else-is_empty.ensures ∙ w.if-not-is_empty.true)
    ]

pub returns : goal.returns
returns c = beginning_whole c.args.bytes.now c.in_ok-lines.rest.now c.in_ok-lines.lines.items (vec_len c.in_ok-lines.lines) c.in_ok-lines.ensures (omega (arith, c.in_ok-lines.lines.ok.0)) (sym c.is_empty.ensures ∙ c.if-is_empty.false) (sym c.is_empty-else-is_empty.ensures ∙ c.if-not-is_empty.false)
