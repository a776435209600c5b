-- `serve` calls the function of the crew whose numbers the seat has.
use Rattle.nadkhoy_c.proofs.Steps.{marker_laws, some_is, List, [], ◌∷◌, refl, ap, proved, full_share, id⊢, ftrue, flft, Val, tables, fact, ‵, raw, ◌⊛◌, some, later, ◌$◌, ◌∵◌, !, qed, done, drop, move, use0, use1, split, join, fjoin, pick, await, rewrite, suffices, enter, of_opd, no_more, and_then, returns, alloc_all, pass_all, free_all, look_at, get, get_in, fld, stop, sub, whole, agg, sets, lands_as, yes, plain, nothing, heard, only, calls_at, lasts, Lasts, triple_of, Stays, says, stay_dropped, Goes-dropped, ends_at, framed, peeks, shows, lft_new, lft_end, walk_of, pair_Typed, ⊑_static, rawptr_Lawful, fact_i, emp, type_at, T, has_ty, WT, subst, Typed}
use Rattle.std.specs.Prelude.{IsSome}
use Rattle.std.specs.declared.option.Option.{Option}
use Rattle.std.specs.declared.option.Option.TheVariants.{Some}
use Rattle.std.proofs.Common.{◌∙◌}
use Rattle.nadkhoy_c.specs.contracts.live.raw.RawSeat as Sealed
use Rattle.nadkhoy_c.specs.contracts.live.raw.Answered as Result
use Rattle.nadkhoy_c.proofs.live.raw.RawSeat.TheLaws as sealed
use Rattle.nadkhoy_c.proofs.live.raw.Answered.TheLaws as result
use Rattle.live_seats.specs.contracts.orders.SeatOrder as Asked
use Rattle.live_seats.proofs.orders.SeatOrder.TheLaws as asked
use Rattle.live_seats.specs.contracts.orders.Told as Said
use Rattle.live_seats.proofs.orders.Told.TheLaws as said
use Rattle.live_seats.specs.Seats.{SeatState}
use Rattle.live_seats.specs.Kept.{ServesKept, kept}
use Rattle.nadkhoy_c.specs.RawSeat.{Numbers, marker, crew_of, ledger_of, seat_row}
use Rattle.live_turns.specs.contracts.desks.BrandCrew.TheImpl as crew
use Rattle.core.specs.contracts.ledger.BrandLedger.TheImpl as ledger
use Rattle.std_heap.proofs.Global.TheLaws as heap
use Rattle.std_heap.specs.contracts.Global as Heap
use denote.Param.{layout}
use mir.Syntax.{ty_ptr}
use Rattle.live_seats.specs.contracts.seat.Seat.serve as g
use Rattle.live_seats.proofs.seat.Seat.serve.Met.{met}
use Rattle.nadkhoy_c.specs.contracts.live.raw.RawSeat.serve as f
use Rattle.nadkhoy_c.proofs.live.raw.RawSeat.serve.Statement.{statement}
use Rattle.nadkhoy_c.proofs.live.raw.RawSeat.serve.Code as code

abbrev stayed : Stays f.ended.signature.params f.ended.kept
stayed = (stay_dropped _ yes, (stay_dropped _ yes, (stay_dropped _ yes, tt)))

pub serve_spec : {M : Type 1} → statement M
serve_spec 𝓤 𝓛 𝓜 𝓡 wired =
    let c = f.clauses 𝓛 𝓜.mem 𝓡.returns in
    proved 𝓛 f.ended stayed c 𝓜 𝓡 (Goes-dropped 𝓛 0 (plain (λ _. Sealed.the_row)) yes (λ κs x w. refl), (Goes-dropped 𝓛 0 (plain (λ _. Heap.the_row)) yes (λ κs x w. refl), (Goes-dropped 𝓛 0 (plain (λ _. Asked.the_row)) yes (λ κs x w. refl), tt)))
    f.Key.name code.function (code.unfolded 𝓤 𝓛.H 𝓜 𝓡 wired)
    (λ κs. ((λ x. sealed.lowered x ∷ []), ((λ x. heap.lowered x ∷ []), ((λ x. asked.lowered x ∷ []), tt)))) (λ κs. (sealed.lowers.val_is, (heap.lowers.val_is, (asked.lowers.val_is, tt)))) (λ κs qs bounds a _ are.
    let d = a.0 in let h = a.1.0 in let order = a.1.1.0 in let n : Numbers = d.numbers in
    let z : (walk_of 𝓛 f.ended stayed c).Ghost = ((κs, qs, bounds, a, (sealed.lowered d ∷ [], (heap.lowered h ∷ [], (asked.lowered order ∷ [], tt)))), tt) in
    let G = triple_of 𝓛 (g.signature marker (crew_of n) crew.dict (ledger_of n) ledger.dict) (g.spec marker (crew_of n) crew.dict (ledger_of n) ledger.dict 𝓛 𝓜.mem 𝓡.returns) in
    let GE = g.ended marker (crew_of n) crew.dict (ledger_of n) ledger.dict in
    let meets = met 𝓤 𝓛 𝓜 𝓡 (code.calls-live_seats::seat::Seat::serve 𝓡.env wired) marker marker_laws (crew_of n) crew.dict (ledger_of n) ledger.dict record {} record {} in
    let handle : T (has_ty (layout Heap.the_row) (heap.lowered h)) × WT (heap.lowered h) = (tt, ((tt, tt), tt)) in
    let pointer = ((rawptr_Lawful 𝓛).typed d.at _ refl).0 in
    let whole_typed = pair_Typed ty_ptr (layout Heap.the_row) _ (heap.lowered d.alloc) pointer (tt, ((tt, tt), tt)) in
    let order_typed = ((asked.the_row_laws.lawful 𝓛).typed order _ are.1.1.0).0 in
    qed 𝓛 ((‵ ftrue ⊛ (‵ (Sealed.the_row.own_val d (sealed.lowered d ∷ [])) ⊛ (‵ (Heap.the_row.own_val h (heap.lowered h ∷ [])) ⊛ (‵ (Asked.the_row.own_val order (asked.lowered order ∷ [])) ⊛ ‵ ftrue)))) ∷ raw (fact 𝓤 (IsSome d.value)) ∷ []) ∵
    move ! (1 ∷ []) $ heard ! _ (λ full. let found = some_is d.value full in
    split ! $ drop ! $ split ! $
    rewrite ! 0 (λ (o : Option SeatState). ‵ (Sealed.the_row.own_val (record d { value = o }) (sealed.lowered d ∷ []))) found.1 refl $
    move ! (1 ∷ []) $ split ! $ move ! (2 ∷ 1 ∷ []) $ join ! $ move ! (1 ∷ 0 ∷ []) $ join ! $
    -- [the handle, the seat and the order]
    enter ! _ _ _ _ _ $ alloc_all ! (λ l. pass_all ! refl (whole_typed, (handle, (order_typed, tt))) $
    sets ! (of_opd ! (get_in ! (fld ! refl (stop !)) (sub ! 0 refl (whole !)))) refl pointer $
    sets ! (of_opd ! (get_in ! (fld ! refl (stop !)) (sub ! 1 refl (whole !)))) refl (tt, ((tt, tt), tt)) $
    sets ! (of_opd ! (get ! refl)) refl pointer $
    sets ! (agg ! (and_then ! (get ! refl) (and_then ! (get ! refl) (no_more !)))) refl whole_typed $
    lft_new ! tt (λ α.
    let y : G.Ghost = (((α ∷ [], tt), (full_share, tt), tt, (h, (record { ptr = d.at; alloc = d.alloc; value = record { member = Some found.0 } }, (order, tt))), (heap.lowered h ∷ [], (sealed.lowered d ∷ [], (asked.lowered order ∷ [], tt)))), tt) in
    nothing ! $ move ! (1 ∷ 0 ∷ []) $ join ! $ join ! $
    use0 𝓛 (raw (fact 𝓤 (IsSome (Some found.0)))) (fact_i 𝓤 _ (emp 𝓤) refl) $
    use0 𝓛 (raw (fact 𝓤 (contract.BorrowLft.◌⊑◌ (α ∷ []) marker.lives))) (fact_i 𝓤 _ (emp 𝓤) (⊑_static _)) $ join ! $ move ! (1 ∷ 0 ∷ []) $ join ! $
    use1 𝓛 (raw (G.pre y)) (id⊢ 𝓤 _) $
    calls_at ! (framed 𝓤 𝓛.H 𝓜 (tables 𝓤 𝓛.H 𝓜 𝓡 𝓡.env)) G meets y (and_then ! (get ! refl) (and_then ! (get ! refl) (and_then ! (get ! refl) (no_more !)))) (λ v.
    use1 𝓛 (later (some (λ (r : (type_at (GE.signature).result (α ∷ [], tt)).Denot). ((‵ (flft (α ∷ []) full_share) ⊛ ‵ ftrue) ⊛ ‵ ((type_at (GE.signature).result (α ∷ [], tt)).own_val r (v ∷ []))) ⊛
    some (λ (ws : Lasts GE y.0.0 y.0.3). ‵ (lasts GE y.0.0 y.0.3 ws) ⊛ raw (fact 𝓤 (ServesKept (Some found.0) order r.told r.seat.value r.other.value)))))) (id⊢ 𝓤 _) $
    await ! tt $ pick ! (λ r. split ! $ split ! $ split ! $ lft_end ! tt $
    move ! (3 ∷ []) $ pick ! (λ ws. split ! $ drop ! $ heard ! _ (λ serves. drop ! $ drop ! $
    let seat : Sealed.the_row.Denot = record { at = r.seat.ptr; alloc = r.seat.alloc; numbers = n; value = serves.2.0 } in
    let other : Sealed.the_row.Denot = record { at = r.other.ptr; alloc = r.other.alloc; numbers = n; value = serves.2.2.0 } in
    let made : Result.the_row.Denot = record { seat = seat; other = other; told = r.told } in
    rewrite ! 0 (λ (o : Option (seat_row n).Denot). ‵ ((type_at (GE.signature).result (α ∷ [], tt)).own_val (record { seat = record { ptr = r.seat.ptr; alloc = r.seat.alloc; value = o }; other = r.other; told = r.told }) (v ∷ []))) serves.2.1 refl $
    rewrite ! 0 (λ (o : Option (seat_row n).Denot). ‵ ((type_at (GE.signature).result (α ∷ [], tt)).own_val (record { seat = record { ptr = r.seat.ptr; alloc = r.seat.alloc; value = kept serves.2.0 }; other = record { ptr = r.other.ptr; alloc = r.other.alloc; value = o }; told = r.told }) (v ∷ []))) serves.2.2.1 refl $
    use1 𝓛 (‵ (Result.the_row.own_val made (v ∷ []))) (id⊢ 𝓤 _) $
    peeks ! Result.the_row _ (shows 𝓛 Result.the_row) made (v ∷ []) (λ is.
    let word = result.lowers.val_is made (v ∷ []) is in
    let at = λ (w : Val). T (has_ty (layout Result.the_row) w) × WT w in
    let all = subst at (ap only word) ((result.the_row_laws.lawful 𝓛).typed made (v ∷ []) is).0 in
    let here = ((rawptr_Lawful 𝓛).typed seat.at _ refl).0 in
    let there = ((rawptr_Lawful 𝓛).typed other.at _ refl).0 in
    let seat_typed = pair_Typed ty_ptr (layout Heap.the_row) _ (heap.lowered seat.alloc) here (tt, ((tt, tt), tt)) in
    let other_typed = pair_Typed ty_ptr (layout Heap.the_row) _ (heap.lowered other.alloc) there (tt, ((tt, tt), tt)) in
    let told_typed = (subst (λ (vs : List Val). Typed Said.the_row.mir vs) (said.lowers.val_is r.told is.0.1.1.0 is.1.1.1.1.0) ((said.the_row_laws.lawful 𝓛).typed r.told is.0.1.1.0 is.1.1.1.1.0)).0 in
    rewrite ! 0 (λ (vs : List Val). ‵ (Result.the_row.own_val made vs)) word refl $
    lands_as ! (ap only word) refl all $
    sets ! (of_opd ! (get_in ! (fld ! refl (stop !)) (sub ! 0 refl (whole !)))) refl seat_typed $
    sets ! (of_opd ! (get_in ! (fld ! refl (stop !)) (sub ! 1 refl (whole !)))) refl other_typed $
    sets ! (of_opd ! (get_in ! (fld ! refl (stop !)) (sub ! 2 refl (whole !)))) refl told_typed $
    sets ! (of_opd ! (get_in ! (fld ! refl (stop !)) (sub ! 0 refl (whole !)))) refl here $
    sets ! (of_opd ! (get_in ! (fld ! refl (stop !)) (sub ! 1 refl (whole !)))) refl (tt, ((tt, tt), tt)) $
    sets ! (of_opd ! (get_in ! (fld ! refl (stop !)) (sub ! 0 refl (whole !)))) refl there $
    sets ! (of_opd ! (get_in ! (fld ! refl (stop !)) (sub ! 1 refl (whole !)))) refl (tt, ((tt, tt), tt)) $
    sets ! (of_opd ! (get ! refl)) refl here $
    sets ! (agg ! (and_then ! (get ! refl) (and_then ! (get ! refl) (no_more !)))) refl seat_typed $
    sets ! (of_opd ! (get ! refl)) refl there $
    sets ! (agg ! (and_then ! (get ! refl) (and_then ! (get ! refl) (no_more !)))) refl other_typed $
    sets ! (agg ! (and_then ! (get ! refl) (and_then ! (get ! refl) (and_then ! (get ! refl) (no_more !))))) refl all $
    returns ! (look_at ! 0 refl) $ free_all ! refl $
    suffices ! _ (ends_at 𝓛 f.ended stayed c z (result.lowered made) made (tt, (tt, (tt, tt))) (tt, (tt, (tt, tt)))) $ says ! (serves.0, found.1 ∙ serves.1, serves.2.2.2) $
    nothing ! $ nothing ! $ fjoin ! $ nothing ! $ fjoin ! $ nothing ! $ fjoin ! $ join ! $ nothing ! $ join ! $ done !)))))))))
