use Rattle.std.proofs.Common.{◌+◌, arith, [], None, take, drop, get_or}
use Rattle.pictures.specs.declared.columns.Column.{Column}
use Rattle.pictures.proofs.Nexts.{drop_next, take_next}
use Rattle.pictures.proofs.Runs.{column_lawful, column_more}
use Rattle.pictures.proofs.playing.play_columns.Goals as goal

abbrev none : Column
none = record { moves = []; refusal = None }

pub play_column-requires : goal.play_column-requires
play_column-requires c =
    let cut = drop_next c.args.columns.now c.columns.column-index none (omega arith) in
    column_lawful _ (take c.columns.column-index c.args.columns.now) (drop (c.columns.column-index + 1) c.args.columns.now) (get_or c.args.columns.now c.columns.column-index none) _ (rw cut at c.columns.invariant.running)

pub columns-preserved : goal.columns-preserved
columns-preserved c =
    let cut = drop_next c.args.columns.now c.columns.column-index none (omega arith) in
    record {
      running = rw (take_next c.args.columns.now c.columns.column-index none (omega arith))
          (column_more _ (take c.columns.column-index c.args.columns.now) (drop (c.columns.column-index + 1) c.args.columns.now) (get_or c.args.columns.now c.columns.column-index none) _ _ (rw cut at c.columns.invariant.running) c.in_ok-play_column.ensures);
    }
