use Rattle.std.proofs.Common.{arith}
use Rattle.std.proofs.lemmas.Str.{IsCharBoundary-after_ascii}
use Rattle.script_text.proofs.reading.signed_of.Goals as goal

pub range_from-requires : goal.range_from-requires
range_from-requires c =
    let sign = rw c.as_bytes.ensures.value at c.if-first-eq45.true in
    λ _. IsCharBoundary-after_ascii c.args.word.now 0 c.utf8.word (omega arith) (omega (arith, sign))
