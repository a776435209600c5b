use Rattle.std.proofs.Common.{sym, ◌∙◌}
use Rattle.header_words.proofs.Bindings.{publish_prefix}
use Rattle.word_tests.proofs.headers.gate.monitor_of.Goals as goal

pub returns-clause-bound : goal.returns-clause-bound
returns-clause-bound g c =
    let shown = c.in-Some-Fat-default.ensures.shown in
    let published = c.load-word.ensures.published c.in-Some-Fat-default.monitor (sym shown.0 ∙ c.in-Some-Fat-default.field-0-0-is) in
    let took = c.in_ok-book.ensures in
    took.1 c.in-Some-Fat-default.monitor c.args.object.0 (publish_prefix _ _ _ _ took.0.seen published)
