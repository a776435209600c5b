use Rattle.std.proofs.Common.{◌≡◌, ◌∙◌, ap, arith, length, refl, subst, vec_len, []}
use Rattle.std.proofs.lemmas.Result.{err_from_is_err_and}
use Rattle.drawing.specs.Columns.{columns_of}
use Rattle.drawing.specs.Windows.{IsBeyond}
use Rattle.drawing.proofs.Handed.{moves_fault, moves_picture, moves_run_of, same_front, same_part}
use Rattle.drawing.proofs.drawings.list_drawing.Goals as goal

pub picture_in-requires-clause-run : goal.picture_in-requires-clause-run
picture_in-requires-clause-run c =
    let count : vec_len c.args.list.now.moves ≡ length c.args.list.now.moves.items = omega (arith, c.args.list.now.moves.ok.0) in
    let front = same_front c.args.window c.deref.result.now c.args.list.now.moves.items c.in_ok-cut.cut.begin c.deref.ensures.value c.in_ok-cut.ensures.begin in
    let part = same_part c.args.window c.deref-2.result.now c.args.list.now.moves.items c.in_ok-cut.cut.begin c.in_ok-cut.cut.end _ c.deref-2.ensures.value c.in_ok-cut.ensures.begin c.in_ok-cut.ensures.end (c.len.ensures ∙ count) in
    moves_run_of _ _ _ c.args.window _ _ c.requires c.from.ensures (c.deref-3.ensures.value ∙ c.in_ok-front.ensures ∙ ap columns_of front) (c.deref-4.ensures.value ∙ c.in_ok-columns.ensures ∙ ap columns_of part)

pub returns-clause-drawing : goal.returns-clause-drawing
returns-clause-drawing c =
    let count : vec_len c.args.list.now.moves ≡ length c.args.list.now.moves.items = omega (arith, c.args.list.now.moves.ok.0) in
    let front = same_front c.args.window c.deref.result.now c.args.list.now.moves.items c.in_ok-cut.cut.begin c.deref.ensures.value c.in_ok-cut.ensures.begin in
    let part = same_part c.args.window c.deref-2.result.now c.args.list.now.moves.items c.in_ok-cut.cut.begin c.in_ok-cut.cut.end _ c.deref-2.ensures.value c.in_ok-cut.ensures.begin c.in_ok-cut.ensures.end (c.len.ensures ∙ count) in
    record {
      within = subst (λ n. IsBeyond c.args.window n → ⊥) (c.len.ensures ∙ count) c.in_ok-cut.ensures.before;
      picture = c.in_ok-picture.picture;
      words = [];
      no_words = refl;
      is_picture = moves_picture _ _ _ c.args.window _ _ _ _ c.from.ensures (c.deref-3.ensures.value ∙ c.in_ok-front.ensures ∙ ap columns_of front) (c.deref-4.ensures.value ∙ c.in_ok-columns.ensures ∙ ap columns_of part) c.in_ok-picture.ensures.picture;
      limits = c.in_ok-picture.ensures.within;
      exact = c.in_ok-text.ensures;
    }

pub returns-in_err-picture-clause-fault : goal.returns-in_err-picture-clause-fault
returns-in_err-picture-clause-fault c =
    let p = err_from_is_err_and c.from_residual-in_err-picture.result c.from_residual-in_err-picture.ensures.1 in
    let count : vec_len c.args.list.now.moves ≡ length c.args.list.now.moves.items = omega (arith, c.args.list.now.moves.ok.0) in
    let front = same_front c.args.window c.deref.result.now c.args.list.now.moves.items c.in_ok-cut.cut.begin c.deref.ensures.value c.in_ok-cut.ensures.begin in
    let part = same_part c.args.window c.deref-2.result.now c.args.list.now.moves.items c.in_ok-cut.cut.begin c.in_ok-cut.cut.end _ c.deref-2.ensures.value c.in_ok-cut.ensures.begin c.in_ok-cut.ensures.end (c.len.ensures ∙ count) in
    rw (p.1, p.2)
    (moves_fault _ _ _ c.args.window _ _ _ c.from.ensures (c.deref-3.ensures.value ∙ c.in_ok-front.ensures ∙ ap columns_of front) (c.deref-4.ensures.value ∙ c.in_ok-columns.ensures ∙ ap columns_of part) c.in_err-picture.ensures.fault)
