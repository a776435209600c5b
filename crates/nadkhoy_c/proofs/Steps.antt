-- What the walks of a seat share: the names of the logic that they use, and the laws of a crew's marker type.
pub use Rattle.std.proofs.Common.{◌≡◌, ℕ, List, [], ◌∷◌, refl, sym, ap}
pub use Rattle.std.proofs.raw_atomic.Walks.{proved}
pub use Rattle.std_alloc.proofs.Pairs.{pair_Typed}
pub use base.Fml.{ftrue, flft}
pub use base.Fraction.{full_share}
pub use base.Logic.{emp, id⊢}
pub use contract.BorrowLft.{⊑_static}
pub use contract.Monad.{fact, fact_i}
pub use contract.Running.{tables}
pub use denote.Exit.{no, yes}
pub use denote.Laws.{Typed, shows}
pub use denote.RawPtr.{rawptr_Lawful}
pub use denote.Signature.{plain, type_at}
pub use denote.Steps.{nothing, heard, peeks, only}
pub use denote.Triple.Call.{calls_at}
pub use denote.Triple.Clauses.{Lasts, lasts}
pub use denote.Triple.Spec.{triple_of}
pub use denote.Triple.Table.{framed}
pub use denote.Triple.Walked.{Stays, walk_of, says, stay_dropped, Goes-dropped, ends_at}
pub use lib.Dec.{T}
pub use mathlib.Core.Path.{subst}
pub use mir.Val.{Val, has_ty, WT}
pub use types.ByLocal.{alloc_all, pass_all, free_all, look_at, get, get_in, sets, lands_as}
pub use types.Kit.{‵, raw, ◌⊛◌, some, later, ◌$◌, ◌∵◌, !, qed, done, move, drop, use0, use1, split, join, fjoin, pick, await, rewrite, suffices}
pub use types.Part.{agg, whole, sub}
pub use types.Run.{enter, of_opd, stop, fld, no_more, and_then, returns}
pub use types.Tokens.{lft_new, lft_end}
pub use Rattle.c_slots.proofs.Erased.{some_is}
use denote.Param.Laws.{Laws, arg_laws}
use mir.Syntax.{ty_struct, tnil}
use Rattle.core.proofs.marker.Brand.TheLaws as Brand
use Rattle.core.specs.contracts.marker.Brand as brand
use Rattle.nadkhoy_c.specs.RawSeat.{marker}

abbrev pub marker_laws : Laws marker
marker_laws = arg_laws (ty_struct [] tnil) no brand.the_row Brand.the_row_laws refl
