use Rattle.std.proofs.Common.{rules}
use Rattle.header_words.proofs.Bindings.{covers_grown}
use Rattle.word_tests.proofs.names.inflate.Goals as goal

pub give-requires-clause-covers : goal.give-requires-clause-covers
give-requires-clause-covers c = covers_grown _ _ _ _ c.bind-bound.ensures.grows.1 c.requires.covers

pub give-requires-2-clause-covers : goal.give-requires-2-clause-covers
give-requires-2-clause-covers c = c.publish.ensures.covers c.requires.gate c.bind-bound.new.self.objects.items (covers_grown _ _ _ _ c.bind-bound.ensures.grows.1 c.requires.covers) (search rules)
