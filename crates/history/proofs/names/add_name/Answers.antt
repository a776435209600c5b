use Rattle.std.proofs.Common.{◌∙◌, ap, map, string_bytes}
use Rattle.script_text.specs.Names.{position_of}
use Rattle.history.proofs.Namings.{names_kept, position_named}
use Rattle.history.proofs.names.add_name.Goals as goal

pub returns-clause-number : goal.returns-clause-number
returns-clause-number c =
    c.in_ok-number.ensures.index ∙ position_named (string_bytes c.in_ok-name.name) c.args.names.now.names.keys ∙ ap (position_of (map string_bytes c.args.names.now.names.keys)) c.in_ok-name.ensures.ok

pub returns-clause-names : goal.returns-clause-names
returns-clause-names c =
    names_kept c.args.names.now.names.keys c.insert_full.new.self.keys c.in_ok-name.name c.args.word.now c.in_ok-name.ensures.ok c.in_ok-number.ensures.keys
