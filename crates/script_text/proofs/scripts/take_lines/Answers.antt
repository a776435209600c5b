use Rattle.std.proofs.Common.{rules}
use Rattle.script_text.proofs.Beginnings.{right_taken, text_taken}
use Rattle.script_text.proofs.scripts.take_lines.Goals as goal

pub lines-preserved : goal.lines-preserved
lines-preserved c = record {
  noted = search rules;
  right = right_taken c.lines.lines.items c.take_next.new.lines.items c.in-Some.part.now (search rules) c.lines.invariant.right;
  text = text_taken c.args.bytes.now c.lines.rest.now c.in-Some.part.now c.in-Some.after.now c.lines.lines.items c.take_next.new.lines.items c.lines.invariant.text (search rules) c.in-Some.ensures.parts;
}
