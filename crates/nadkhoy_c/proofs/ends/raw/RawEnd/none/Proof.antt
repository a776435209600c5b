-- `none` makes it of a null pointer.
use mathlib.Core.Path.{◌≡◌, refl}
use denote.RawPtr.{null_ptr}
use Rattle.std.specs.declared.option.Option.TheVariants.{None}
use Rattle.c_slots.proofs.Erased.{emptied}
use Rattle.nadkhoy_c.proofs.AsEnd.{E, Sealed}
use Rattle.nadkhoy_c.specs.contracts.ends.raw.RawEnd.none.Key.{name as #self}
use Rattle.nadkhoy_c.proofs.ends.raw.RawEnd.none.Statement as stated
use Rattle.nadkhoy_c.proofs.ends.raw.RawEnd.none.Code as code

pub none_spec : {M : Type 1} → stated.statement M
none_spec 𝓤 𝓛 𝓜 𝓡 wired =
    emptied E Sealed (λ r. r.value ≡ None) 𝓛 (λ a. record { at = null_ptr; alloc = a; value = None }) (λ a. refl)
    (λ a vs. refl) (λ a. tt) _ (λ κs x f. refl) 𝓜 𝓡 #self (code.unfolded 𝓤 𝓛.H 𝓜 𝓡 wired)
