use Rattle.std.proofs.Common.{◌∙◌, ap, List, ℕ, map, string_bytes}
use Rattle.script_text.specs.Names.{is_named}
use Rattle.script_text.proofs.NameLaws.{any_named}
use Rattle.script_text.proofs.declared.IndexSetStringDeclared.has.Goals as goal

pub returns : goal.returns
returns c =
    c.contains.ensures ∙ any_named c.as_str.result.now c.args.self.now.keys ∙ ap (λ (n : List ℕ). is_named (map string_bytes c.args.self.now.keys) n) c.as_str.ensures
