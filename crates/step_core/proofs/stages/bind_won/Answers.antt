use Rattle.step_core.proofs.stages.bind_won.Goals as goal

pub returns : goal.returns
returns c = λ split ws. let h = c.bind.ensures split ws in (h.0, rw (← c.entering.ensures) h.1)
