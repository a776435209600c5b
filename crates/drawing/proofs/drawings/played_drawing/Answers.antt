use Rattle.std.proofs.Common.{◌≡◌, ◌∙◌, ap, sym, true, rules}
use Rattle.step_core.specs.Shown.{shown}
use Rattle.pictures.proofs.Films.{follow_length}
use Rattle.pictures.specs.Pictures.{threads_numbered}
use Rattle.drawing.specs.Columns.{strip_objects}
use Rattle.drawing.proofs.Handed.{cycles_behind, no_drawing, picture_refused, short_of_memory}
use Rattle.drawing.proofs.Words.{all_worded}
use Rattle.drawing.proofs.drawings.played_drawing.Goals as goal

pub picture_in-requires-clause-run : goal.picture_in-requires-clause-run
picture_in-requires-clause-run c = (shown c.args.played.now.world, rw (c.deref.ensures.value, c.deref-2.ensures.value) c.requires.run)

pub returns-clause-drawing : goal.returns-clause-drawing
returns-clause-drawing c =
    let is = rw (c.deref.ensures.value, c.deref-2.ensures.value, c.deref-3.ensures.value) at c.in_ok-picture.ensures.picture in
    let yes : c.in_ok-are_drawn.field-0 ≡ true = search rules in
    let same : strip_objects c.in_ok-picture.picture.strips.items ≡ c.args.played.now.drawn.items =
    ap strip_objects (sym c.deref-4.ensures.value) ∙ c.in_ok-are_drawn.ensures yes ∙ c.deref-5.ensures.value in
    λ worlds have long. record {
      picture = c.in_ok-picture.picture;
      is_picture = is;
      limits = c.in_ok-picture.ensures.within;
      worded = all_worded c.args.played.now.drawn.items worlds c.args.played.now.words.items is.states is.drawn c.in_ok-picture.picture.strips.items have
          (follow_length (threads_numbered is.threads) 0 is.start c.args.played.now.columns.items is.states is.told is.follow ∙ sym long) is.strips same;
      cycles = cycles_behind c.args.objects c.args.played.now.front.items c.args.played.now.columns.items c.args.played.now.words.items c.in_ok-picture.picture _ is c.requires.run;
      exact = c.in_ok-text.ensures;
    }

pub returns-in_err-picture-clause-drawing : goal.returns-in_err-picture-clause-drawing
returns-in_err-picture-clause-drawing c = λ worlds have long. no_drawing _ _ c.from_residual.result c.from_residual.ensures.1

pub returns-in_err-picture-clause-fault : goal.returns-in_err-picture-clause-fault
returns-in_err-picture-clause-fault c =
    picture_refused c.from_residual.result _ c.args.objects _ _ _ _ c.from_residual.ensures.1 c.deref.ensures.value c.deref-2.ensures.value c.in_err-picture.ensures.fault

pub returns-in_err-are_drawn-clause-drawing : goal.returns-in_err-are_drawn-clause-drawing
returns-in_err-are_drawn-clause-drawing c = λ worlds have long. no_drawing _ _ c.from_residual-in_err-are_drawn.result c.from_residual-in_err-are_drawn.ensures.1

pub returns-in_err-are_drawn-clause-fault : goal.returns-in_err-are_drawn-clause-fault
returns-in_err-are_drawn-clause-fault c =
    short_of_memory c.from_residual-in_err-are_drawn.result c.args.objects c.args.played.now.front.items c.args.played.now.columns.items c.from_residual-in_err-are_drawn.ensures.1

pub returns-in_err-text-clause-drawing : goal.returns-in_err-text-clause-drawing
returns-in_err-text-clause-drawing c = λ worlds have long. no_drawing _ _ c.from_residual-in_err-text.result c.from_residual-in_err-text.ensures.1

pub returns-in_err-text-clause-fault : goal.returns-in_err-text-clause-fault
returns-in_err-text-clause-fault c =
    short_of_memory c.from_residual-in_err-text.result c.args.objects c.args.played.now.front.items c.args.played.now.columns.items c.from_residual-in_err-text.ensures.1
