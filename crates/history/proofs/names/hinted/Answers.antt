use Rattle.std.proofs.Common.{◌≡◌, ℕ, ◌<◌, ◌∙◌, List, get_or, length, subst, sym, ap}
use Rattle.std.specs.Prelude.{String}
use Rattle.std.specs.declared.alloc.Global.{Global}
use Rattle.std.specs.Str.{bytes_eq}
use Rattle.history.proofs.Namings.{hint_is}
use Rattle.history.proofs.names.hinted.Goals as goal

pub returns-then-eq : goal.returns-then-eq
returns-then-eq c =
    let look = c.in_ok-name.ensures.lookup in
    hint_is c.args.word.now c.args.names.now.keys c.in_ok-number.number c.in_ok-name.name.now c.as_slice.ensures.unique
    (subst (λ (texts : List (String Global)). c.in_ok-number.number < length texts) c.as_slice.ensures.keys look.3.0)
    (subst (λ (texts : List (String Global)). c.in_ok-name.name.now ≡ get_or texts c.in_ok-number.number c.in_ok-name.name.now) c.as_slice.ensures.keys look.1)
    (ap (λ (l : List ℕ). bytes_eq l c.args.word.now) (sym c.as_str.ensures.value) ∙ sym c.eq.ensures ∙ c.if-eq.true)
