-- `of_parts` makes it of the fields of the parts.
use mathlib.Core.Path.{◌≡◌, refl}
use base.Logic.{emp}
use Rattle.std.specs.declared.option.Option.TheVariants.{Some}
use Rattle.c_slots.proofs.Erased.{Moves, moved, asks_nothing}
use Rattle.nadkhoy_c.proofs.AsEnd.{E, Open, Sealed}
use Rattle.nadkhoy_c.specs.contracts.ends.raw.RawEnd.of_parts.Key.{name as #self}
use Rattle.nadkhoy_c.proofs.ends.raw.RawEnd.of_parts.Statement as stated
use Rattle.nadkhoy_c.proofs.ends.raw.RawEnd.of_parts.Code as code

abbrev Told : Open.Denot → Sealed.Denot → Type 0
Told d r = r.value ≡ Some d.value

makes : (d : Open.Denot) → Unit {0} → Moves E Open Sealed Told d
makes d asked = record {
  box = record { ptr = d.ptr; alloc = d.alloc; value = d.value };
  made = record { at = d.ptr; alloc = d.alloc; value = Some d.value };
  old_owns = λ vs. refl;
  new_owns = λ vs. refl;
  right = refl;
}

pub of_parts_spec : {M : Type 1} → stated.statement M
of_parts_spec 𝓤 𝓛 𝓜 𝓡 wired =
    moved E Open Sealed (λ d. Unit {0}) Told 𝓛 (λ d. emp 𝓤) (λ d. asks_nothing 𝓤) makes (λ d. tt) _ _ (λ κs x f. refl)
    𝓜 𝓡 #self (code.unfolded 𝓤 𝓛.H 𝓜 𝓡 wired)
