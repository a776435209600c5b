-- An option of which the test says that it is None.
use Rattle.std.proofs.Common.{◌≡◌, refl, true≢false}
use Rattle.std.specs.Prelude.{IsNone}
use Rattle.std.specs.declared.option.Option.{Option}
use Rattle.std.specs.declared.option.Option.TheVariants.{None, Some}

pub none_is : {X : Type 0} (o : Option X) → IsNone o → o ≡ None
none_is None p = refl
none_is (Some x) p = absurd (true≢false p)
