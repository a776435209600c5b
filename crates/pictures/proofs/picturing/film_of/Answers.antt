use Rattle.std.proofs.Common.{ap, arith, [], length, None}
use Rattle.std.proofs.lemmas.List.{take_all, drop_all}
use Rattle.pictures.specs.declared.columns.Column.{Column}
use Rattle.pictures.proofs.Nexts.{drop_next, take_next, written_back}
use Rattle.pictures.proofs.Films.{filming_begins, next_lawful, filming_more, filmed}
use Rattle.pictures.proofs.picturing.film_of.Goals as goal

abbrev none : Column
none = record { moves = []; refusal = None }

pub columns-init : goal.columns-init
columns-init c = record { filming = filming_begins _ _ _ _ _ _ _ _ c.requires.run c.new-arrows.ensures.items c.in_ok-lanes.ensures c.in_ok-strips.ensures }

pub play_moves-requires : goal.play_moves-requires
play_moves-requires c =
    let cut = drop_next c.args.columns.now c.columns.column-index none (omega arith) in
    next_lawful _ _ _ _ _ _ _ _ _ _ _ _ _ (rw cut at c.columns.invariant.filming)

pub columns-preserved : goal.columns-preserved
columns-preserved c =
    let cut = drop_next c.args.columns.now c.columns.column-index none (omega arith) in
    let lanes = written_back c.play_moves.new.lanes c.columns.lanes.items c.columns.lanes.len (omega (arith, c.columns.lanes.ok.0, c.play_moves.auto.lanes, ap length c.deref_mut.ensures.value)) in
    let strips = written_back c.mark_strips.new.strips c.columns.strips.items c.columns.strips.len (omega (arith, c.columns.strips.ok.0, c.mark_strips.auto.strips, ap length c.deref_mut-in-columns.ensures.value)) in
    record {
      filming = rw (take_next c.args.columns.now c.columns.column-index none (omega arith), lanes, strips)
          (filming_more _ _ _ _ _ _ _ _ _ _ _ _ _ _ _ _ _ (rw cut at c.columns.invariant.filming) c.in_ok-play_moves.ensures.told
          (rw c.deref_mut.ensures.value at c.in_ok-play_moves.ensures.kept) (rw c.deref_mut-in-columns.ensures.value at c.in_ok-mark_strips.ensures));
    }

pub returns : goal.returns
returns c =
    let played = take_all c.columns.column-index c.args.columns.now (omega arith) in
    let left = drop_all c.columns.column-index c.args.columns.now (omega arith) in
    filmed _ _ _ _ _ _ _ _ (rw (played, left) at c.columns.invariant.filming) c.in_ok-finished_lanes.ensures
