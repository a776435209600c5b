use Rattle.std.proofs.Common.{rules}
use Rattle.header_words.proofs.headers.Headers.release.Goals as goal

pub note_then_store-requires-clause-legal : goal.note_then_store-requires-clause-legal
note_then_store-requires-clause-legal g c = search rules
