use Rattle.std.proofs.Common.{rules, ◌≡◌, Some, string_bytes}
use Rattle.std.proofs.lemmas.Str.{IsUtf8-string_bytes}
use Rattle.serde_json.specs.Read.{read}
use Rattle.history_moves.specs.Moves.{data_of}
use Rattle.history_moves.proofs.LineLaws.{written_move}
use Rattle.history_moves.proofs.lines.move_line.Goals as goal

pub returns-clause-reads : goal.returns-clause-reads
returns-clause-reads c =
    let text : read (string_bytes c.in_ok-to_string.field-0) ≡ Some (data_of c.args.made.now) = search rules in
    written_move _ _ (IsUtf8-string_bytes c.in_ok-to_string.field-0) text c.in_ok-write_move.ensures.1
