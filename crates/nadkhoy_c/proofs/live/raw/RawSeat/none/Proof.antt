-- `none` makes it of a null pointer. It owns nothing, whatever stands behind the pointer of another: the lemma takes a
-- world there.
use mathlib.Core.Path.{◌≡◌, refl}
use denote.RawPtr.{null_ptr}
use Rattle.std.specs.declared.option.Option.TheVariants.{None}
use Rattle.c_slots.proofs.Erased.{emptied}
use Rattle.nadkhoy_c.proofs.AsWorld.{E}
use Rattle.nadkhoy_c.specs.contracts.live.raw.RawSeat as Raw
use Rattle.nadkhoy_c.specs.contracts.live.raw.RawSeat.none.Key.{name as #self}
use Rattle.nadkhoy_c.proofs.live.raw.RawSeat.none.Statement as stated
use Rattle.nadkhoy_c.proofs.live.raw.RawSeat.none.Code as code
use Rattle.nadkhoy_c.specs.RawSeat.{Numbers}

abbrev no_numbers : Numbers
no_numbers = record { name = 0; monitors = 0; passes = 0; places = 0 }

pub none_spec : {M : Type 1} → stated.statement M
none_spec 𝓤 𝓛 𝓜 𝓡 wired =
    emptied E Raw.the_row (λ r. r.value ≡ None) 𝓛 (λ a. record { at = null_ptr; alloc = a; numbers = no_numbers; value = None }) (λ a. refl)
    (λ a vs. refl) (λ a. tt) _ (λ κs x f. refl) 𝓜 𝓡 #self (code.unfolded 𝓤 𝓛.H 𝓜 𝓡 wired)
