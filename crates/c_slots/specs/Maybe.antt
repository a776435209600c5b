-- What a box taken apart owns, if there is one.
use base.Fml.{Fml, ftrue}
use denote.RattleType.{RattleType}
use denote.RawPtr.{Ptr}
pub use denote.RawPtr.{null_ptr}
use mir.Syntax.{Ty}
use Rattle.std.specs.declared.option.Option.{Option}
use Rattle.std.specs.declared.option.Option.TheVariants.{None, Some}
use Rattle.std.specs.Box.Ownership.{box_owns}

abbrev pub maybe_owns : (Ty → Ptr → Fml) → (R : RattleType) → Ptr → Option R.Denot → Fml
maybe_owns token R p None = ftrue
maybe_owns token R p (Some x) = box_owns token R p x
