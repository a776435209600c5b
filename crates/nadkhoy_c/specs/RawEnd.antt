-- What a `RawEnd` owns: its boxed value, if it has one.
use base.Fml.{Fml}
use denote.RawPtr.{Ptr}
use Rattle.std.specs.declared.option.Option.{Option}
use Rattle.std.specs.declared.alloc.Global.{Global}
use Rattle.std.specs.contracts.impls.GlobalAllocator.TheImpl.{ghosts}
use Rattle.live_seats.specs.contracts.ending.ServiceEnd.{the_row}
use Rattle.c_slots.specs.Maybe.{maybe_owns}

abbrev pub EndValue : Type 0
EndValue = the_row.Denot

abbrev pub end_owns : Global → Ptr → Option EndValue → Fml
end_owns a p x = maybe_owns (ghosts.dealloc_token a) the_row p x
