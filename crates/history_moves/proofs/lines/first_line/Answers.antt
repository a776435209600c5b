use Rattle.std.proofs.Common.{rules, ◌≡◌, Some, string_bytes}
use Rattle.std.proofs.lemmas.Str.{IsUtf8-string_bytes}
use Rattle.serde_json.specs.Read.{read}
use Rattle.history_moves.specs.Moves.{first_data}
use Rattle.history_moves.proofs.LineLaws.{written_first}
use Rattle.history_moves.proofs.lines.first_line.Goals as goal

pub returns-clause-reads : goal.returns-clause-reads
returns-clause-reads c =
    let text : read (string_bytes c.in_ok-to_string.field-0) ≡ Some (first_data c.args.objects) = search rules in
    written_first _ _ (IsUtf8-string_bytes c.in_ok-to_string.field-0) text c.in_ok-write_first.ensures.1
