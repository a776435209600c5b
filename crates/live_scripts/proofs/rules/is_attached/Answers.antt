use Rattle.std.proofs.Common.{◌∙◌, ap, map}
use Rattle.script_text.specs.Names.{is_named}
use Rattle.live_scripts.proofs.Names.{any_text}
use Rattle.live_scripts.proofs.rules.is_attached.Goals as goal

pub returns : goal.returns
returns c = c.contains.ensures.value ∙ any_text c.as_str.result.now c.args.threads.now ∙ ap (is_named (map (λ t. t.now) c.args.threads.now)) c.as_str.ensures
