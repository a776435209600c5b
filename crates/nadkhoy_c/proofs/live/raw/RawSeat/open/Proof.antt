-- `open` calls the function of the crew whose numbers it picks.
use Rattle.nadkhoy_c.proofs.Steps.{marker_laws, ◌≡◌, List, [], ◌∷◌, refl, ap, proved, full_share, id⊢, ftrue, flft, Val, tables, fact, ‵, raw, ◌⊛◌, some, later, ◌$◌, ◌∵◌, !, qed, done, drop, move, use0, use1, split, join, fjoin, pick, await, rewrite, suffices, enter, of_opd, no_more, and_then, returns, alloc_all, pass_all, free_all, look_at, get, get_in, fld, stop, sub, whole, agg, sets, lands_as, yes, plain, nothing, heard, only, calls_at, lasts, Lasts, triple_of, Stays, says, stay_dropped, Goes-dropped, ends_at, framed, peeks, shows, lft_new, lft_end, walk_of, pair_Typed, ⊑_static, rawptr_Lawful, fact_i, emp, type_at, T, has_ty, WT, subst}
use Rattle.std.specs.Prelude.{◌≤◌, length}
use Rattle.nadkhoy_c.specs.contracts.live.raw.RawSeat as Sealed
use Rattle.nadkhoy_c.specs.contracts.live.raw.OpenedSeat as Result
use Rattle.nadkhoy_c.proofs.live.raw.OpenedSeat.TheLaws as result
use Rattle.live_seats.specs.contracts.opening.Draft as Draft
use Rattle.live_seats.proofs.opening.Draft.TheLaws as draft
use Rattle.core.specs.contracts.ledger.Blank as Blank
use Rattle.core.proofs.ledger.Blank.TheLaws as blank
use Rattle.std.specs.declared.option.Option.{Option}
use Rattle.live_seats.specs.Kept.{HasOpenedKept}
use Rattle.nadkhoy_c.specs.RawSeat.{Numbers, marker, crew_of, ledger_of, seat_row}
use Rattle.live_turns.specs.contracts.desks.BrandCrew.TheImpl as crew
use Rattle.core.specs.contracts.ledger.BrandLedger.TheImpl as ledger
use Rattle.std_heap.proofs.Global.TheLaws as heap
use Rattle.std_heap.specs.contracts.Global as Heap
use denote.Param.{layout}
use Rattle.core.proofs.alloc.Calls.{Goes-blank}
use mir.Syntax.{ty_ptr}
use Rattle.live_seats.specs.contracts.seat.Seat.open as g
use Rattle.live_seats.proofs.seat.Seat.open.Met.{met}
use Rattle.nadkhoy_c.specs.contracts.live.raw.RawSeat.open as f
use Rattle.nadkhoy_c.proofs.live.raw.RawSeat.open.Statement.{statement}
use Rattle.nadkhoy_c.proofs.live.raw.RawSeat.open.Code as code

abbrev stayed : Stays f.ended.signature.params f.ended.kept
stayed = (stay_dropped _ yes, (stay_dropped _ yes, (stay_dropped _ yes, tt)))

pub open_spec : {M : Type 1} → statement M
open_spec 𝓤 𝓛 𝓜 𝓡 wired =
    let c = f.clauses 𝓛 𝓜.mem 𝓡.returns in
    proved 𝓛 f.ended stayed c 𝓜 𝓡 (Goes-dropped 𝓛 0 (plain (λ _. Heap.the_row)) yes (λ κs x w. refl), (Goes-dropped 𝓛 0 (plain (λ _. Blank.the_row)) yes (λ κs x w. refl), (Goes-blank 𝓛 0 (plain (λ _. Draft.the_row)) yes (λ κs x w. tt), tt)))
    f.Key.name code.function (code.unfolded 𝓤 𝓛.H 𝓜 𝓡 wired)
    (λ κs. ((λ x. heap.lowered x ∷ []), ((λ x. blank.lowered x ∷ []), ((λ x. draft.lowered x ∷ []), tt)))) (λ κs. (heap.lowers.val_is, (blank.lowers.val_is, (draft.lowers.val_is, tt)))) (λ κs qs bounds a _ are.
    let h = a.0 in let b = a.1.0 in let d = a.1.1.0 in
    let n : Numbers = record { name = b.name; monitors = d.monitors; passes = d.passes; places = d.places } in
    let z : (walk_of 𝓛 f.ended stayed c).Ghost = ((κs, qs, bounds, a, (heap.lowered h ∷ [], (blank.lowered b ∷ [], (draft.lowered d ∷ [], tt)))), tt) in
    let G = triple_of 𝓛 (g.signature marker (crew_of n) crew.dict (ledger_of n) ledger.dict) (g.spec marker (crew_of n) crew.dict (ledger_of n) ledger.dict 𝓛 𝓜.mem 𝓡.returns) in
    let GE = g.ended marker (crew_of n) crew.dict (ledger_of n) ledger.dict in
    let meets = met 𝓤 𝓛 𝓜 𝓡 (code.calls-live_seats::seat::Seat::open 𝓡.env wired) marker marker_laws (crew_of n) crew.dict (ledger_of n) ledger.dict record {} record {} in
    let blank_typed = ((blank.the_row_laws.lawful 𝓛).typed b _ are.1.0).0 in
    let draft_typed = ((draft.the_row_laws.lawful 𝓛).typed d _ are.1.1.0).0 in
    let Owned = ‵ (Heap.the_row.own_val h (heap.lowered h ∷ [])) ⊛ (‵ (Blank.the_row.own_val b (blank.lowered b ∷ [])) ⊛ (‵ (Draft.the_row.own_val d (draft.lowered d ∷ [])) ⊛ ‵ ftrue)) in
    qed 𝓛 ((‵ ftrue ⊛ Owned) ∷ (raw (fact 𝓤 (b.parts ≡ d.passes)) ⊛ raw (fact 𝓤 (length d.lows.items ≤ 65535)) ⊛ raw (fact 𝓤 (1 ≤ d.passes)) ⊛ raw (fact 𝓤 (d.passes ≤ 64)) ⊛ raw (fact 𝓤 (d.monitors ≤ 8388608))) ∷ []) ∵
    move ! (1 ∷ []) $ split ! $ heard ! _ (λ parts. split ! $ heard ! _ (λ objects. split ! $ heard ! _ (λ one. split ! $ heard ! _ (λ most. heard ! _ (λ monitors.
    split ! $ drop ! $
    enter ! _ _ _ _ _ $ alloc_all ! (λ l. pass_all ! refl ((tt, ((tt, tt), tt)), (blank_typed, (draft_typed, tt))) $
    sets ! (of_opd ! (get ! refl)) refl blank_typed $
    sets ! (of_opd ! (get ! refl)) refl draft_typed $
    lft_new ! tt (λ α.
    let y : G.Ghost = (((α ∷ [], tt), (full_share, tt), tt, (h, (b, (d, tt))), (heap.lowered h ∷ [], (blank.lowered b ∷ [], (draft.lowered d ∷ [], tt)))), tt) in
    nothing ! $ move ! (1 ∷ 0 ∷ []) $ join ! $ join ! $
    use0 𝓛 (raw (fact 𝓤 (d.monitors ≤ 8388608))) (fact_i 𝓤 _ (emp 𝓤) monitors) $ use0 𝓛 (raw (fact 𝓤 (d.passes ≤ 64))) (fact_i 𝓤 _ (emp 𝓤) most) $ join ! $
    use0 𝓛 (raw (fact 𝓤 (1 ≤ d.passes))) (fact_i 𝓤 _ (emp 𝓤) one) $ join ! $
    use0 𝓛 (raw (fact 𝓤 (length d.lows.items ≤ 65535))) (fact_i 𝓤 _ (emp 𝓤) objects) $ join ! $
    use0 𝓛 (raw (fact 𝓤 ((n.passes ≡ d.passes) × (n.monitors ≡ d.monitors) × (n.places ≡ d.places)))) (fact_i 𝓤 _ (emp 𝓤) (refl, refl, refl)) $ join ! $
    use0 𝓛 (raw (fact 𝓤 ((b.parts ≡ n.passes) × (n.passes ≡ d.passes)))) (fact_i 𝓤 _ (emp 𝓤) (parts, refl)) $ join ! $
    use0 𝓛 (raw (fact 𝓤 (b.name ≡ n.name))) (fact_i 𝓤 _ (emp 𝓤) refl) $ join ! $
    use0 𝓛 (raw (fact 𝓤 (contract.BorrowLft.◌⊑◌ (α ∷ []) marker.lives))) (fact_i 𝓤 _ (emp 𝓤) (⊑_static _)) $ join ! $ move ! (1 ∷ 0 ∷ []) $ join ! $
    use1 𝓛 (raw (G.pre y)) (id⊢ 𝓤 _) $
    calls_at ! (framed 𝓤 𝓛.H 𝓜 (tables 𝓤 𝓛.H 𝓜 𝓡 𝓡.env)) G meets y (and_then ! (get ! refl) (and_then ! (get ! refl) (and_then ! (get ! refl) (no_more !)))) (λ v.
    use1 𝓛 (later (some (λ (r : (type_at (GE.signature).result (α ∷ [], tt)).Denot). ((‵ (flft (α ∷ []) full_share) ⊛ ‵ ftrue) ⊛ ‵ ((type_at (GE.signature).result (α ∷ [], tt)).own_val r (v ∷ []))) ⊛
    some (λ (ws : Lasts GE y.0.0 y.0.3). ‵ (lasts GE y.0.0 y.0.3 ws) ⊛ raw (fact 𝓤 (HasOpenedKept d r.found r.seat.value)))))) (id⊢ 𝓤 _) $
    await ! tt $ pick ! (λ r. split ! $ split ! $ split ! $ lft_end ! tt $
    move ! (3 ∷ []) $ pick ! (λ ws. split ! $ drop ! $ heard ! _ (λ opens. drop ! $ drop ! $
    let seat : Sealed.the_row.Denot = record { at = r.seat.ptr; alloc = r.seat.alloc; numbers = n; value = opens.0 } in
    let made : Result.the_row.Denot = record { seat = seat; found = r.found } in
    rewrite ! 0 (λ (o : Option (seat_row n).Denot). ‵ ((type_at (GE.signature).result (α ∷ [], tt)).own_val (record { seat = record { ptr = r.seat.ptr; alloc = r.seat.alloc; value = o }; found = r.found }) (v ∷ []))) opens.1 refl $
    use1 𝓛 (‵ (Result.the_row.own_val made (v ∷ []))) (id⊢ 𝓤 _) $
    peeks ! Result.the_row _ (shows 𝓛 Result.the_row) made (v ∷ []) (λ is.
    let word = result.lowers.val_is made (v ∷ []) is in
    let at = λ (w : Val). T (has_ty (layout Result.the_row) w) × WT w in
    let all = subst at (ap only word) ((result.the_row_laws.lawful 𝓛).typed made (v ∷ []) is).0 in
    let here = ((rawptr_Lawful 𝓛).typed seat.at _ refl).0 in
    let seat_typed = pair_Typed ty_ptr (layout Heap.the_row) _ (heap.lowered seat.alloc) here (tt, ((tt, tt), tt)) in
    rewrite ! 0 (λ (vs : List Val). ‵ (Result.the_row.own_val made vs)) word refl $
    lands_as ! (ap only word) refl all $
    sets ! (of_opd ! (get_in ! (fld ! refl (stop !)) (sub ! 0 refl (whole !)))) refl seat_typed $
    sets ! (of_opd ! (get_in ! (fld ! refl (stop !)) (sub ! 1 refl (whole !)))) refl (tt, tt) $
    sets ! (of_opd ! (get_in ! (fld ! refl (stop !)) (sub ! 0 refl (whole !)))) refl here $
    sets ! (of_opd ! (get_in ! (fld ! refl (stop !)) (sub ! 1 refl (whole !)))) refl (tt, ((tt, tt), tt)) $
    sets ! (of_opd ! (get ! refl)) refl here $
    sets ! (agg ! (and_then ! (get ! refl) (and_then ! (get ! refl) (no_more !)))) refl seat_typed $
    sets ! (agg ! (and_then ! (get ! refl) (and_then ! (get ! refl) (no_more !)))) refl all $
    returns ! (look_at ! 0 refl) $ free_all ! refl $
    suffices ! _ (ends_at 𝓛 f.ended stayed c z (result.lowered made) made (tt, (tt, ((tt, tt), tt))) (tt, (tt, (tt, tt)))) $ says ! opens.2 $
    nothing ! $ nothing ! $ fjoin ! $ nothing ! $ fjoin ! $ nothing ! $ fjoin ! $ join ! $ nothing ! $ join ! $ done !)))))))))))))
