use Rattle.std.proofs.Common.{◌∙◌}
use Rattle.script_text.proofs.NameLaws.{names_kept, name_stored}
use Rattle.script_text.proofs.numbering.number_of_name.Goals as goal

pub returns-clause-names : goal.returns-clause-names
returns-clause-names c =
    names_kept c.args.names.now.keys c.insert_full.new.self.keys c.in_ok-text.text c.args.name.now (c.in_ok-text.ensures.ok ∙ c.as_str.ensures) c.in_ok-number.ensures.keys

pub returns-clause-number : goal.returns-clause-number
returns-clause-number c =
    let s = c.in_ok-number.ensures.stored in
    name_stored c.insert_full.new.self.keys c.in_ok-number.number s.0 c.in_ok-text.text c.args.name.now (c.in_ok-text.ensures.ok ∙ c.as_str.ensures) s.1 s.2
