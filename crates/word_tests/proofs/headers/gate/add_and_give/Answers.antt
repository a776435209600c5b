use Rattle.header_words.proofs.Bindings.{covers_grown}
use Rattle.word_tests.proofs.headers.gate.add_and_give.Goals as goal

pub give-requires-clause-covers : goal.give-requires-clause-covers
give-requires-clause-covers c = covers_grown _ _ _ _ c.bind-added.ensures.grows.1 c.requires.covers
