-- `into_parts` makes the parts of its fields.
use mathlib.Core.Path.{◌≡◌, refl, sym, ap}
use base.Logic.{id⊢}
use contract.Monad.{fact}
use Rattle.std.specs.Prelude.{IsSome}
use Rattle.std.specs.declared.option.Option.{Option}
use Rattle.std.specs.declared.option.Option.TheVariants.{Some}
use Rattle.c_slots.proofs.Erased.{Moves, moved, some_is}
use Rattle.nadkhoy_c.proofs.AsWorld.{E, Open, Sealed, Value}
use Rattle.nadkhoy_c.specs.contracts.raw.RawWorld.into_parts.Key.{name as #self}
use Rattle.nadkhoy_c.proofs.raw.RawWorld.into_parts.Statement as stated
use Rattle.nadkhoy_c.proofs.raw.RawWorld.into_parts.Code as code

abbrev Told : Sealed.Denot → Open.Denot → Type 0
Told d r = d.value ≡ Some r.value

makes : (d : Sealed.Denot) → IsSome d.value → Moves E Sealed Open Told d
makes d full =
    let found = some_is d.value full in record {
      box = record { ptr = d.at; alloc = d.alloc; value = found.0 };
      made = record { ptr = d.at; alloc = d.alloc; value = found.0 };
      old_owns = λ vs. ap (λ (o : Option Value). Sealed.own_val (record { at = d.at; alloc = d.alloc; value = o }) vs) (sym found.1);
      new_owns = λ vs. refl;
      right = found.1;
    }

pub into_parts_spec : {M : Type 1} → stated.statement M
into_parts_spec 𝓤 𝓛 𝓜 𝓡 wired =
    moved E Sealed Open (λ d. IsSome d.value) Told 𝓛 (λ d. fact 𝓤 (IsSome d.value)) (λ d. id⊢ 𝓤 _) makes (λ d. tt) _ _ (λ κs x f. refl)
    𝓜 𝓡 #self (code.unfolded 𝓤 𝓛.H 𝓜 𝓡 wired)
