use Rattle.std.proofs.Common.{◌≡◌, sym, ap, ◌∙◌, subst, arith}
use Rattle.header_words.specs.Passes.{HaveMet, PassValue, pass_value, carried}
use Rattle.header_words.proofs.Meets.{joins_at, syncs_at, splits_at, synced_view, have_met}
use Rattle.header_words.proofs.Passes.{same_table}
use Rattle.header_words.proofs.headers.Headers.meet.Goals as goal

pub join_seat-requires : goal.join_seat-requires
join_seat-requires g c =
    let plain_left = ap (λ z. z.has_gate) c.into_parts-left_parts.ensures.view ∙ c.requires.without.0 in
    let plain_right = ap (λ z. z.has_gate) c.into_parts-right_parts.ensures.view ∙ c.requires.without.1 in
    let t = c.self.inside.table.shared in (
      same_table c.into_parts-left_parts.result.seat c.args.left t.table_id c.self.inside.layout c.args.self.now c.into_parts-left_parts.ensures.view c.requires.left c.self.view_is,
      same_table c.into_parts-right_parts.result.seat c.args.right t.table_id c.self.inside.layout c.args.self.now c.into_parts-right_parts.ensures.view c.requires.right c.self.view_is,
      c.into_parts-right_parts.ensures.inside.carries ∙ ap (carried {B = g.row.B.Denot}) (sym c.into_parts-right_parts.ensures.inside.gate ∙ plain_right),
      (let w = c.self.invariant.words in omega arith),
      joins_at g.B.Kept.bound t.key c.into_parts-left_parts.result.seat.id c.into_parts-right_parts.result.seat.id c.into_parts-left_parts.result.seat.me.0 c.into_parts-right_parts.result.seat.me.0 c.into_parts-left_parts.ensures.inside.lone plain_left plain_right,
    )

pub load-requires : goal.load-requires
load-requires g c =
    let t = c.self.inside.table.shared in (
      c.join_seat.ensures.0 ∙ same_table c.into_parts-left_parts.result.seat c.args.left t.table_id c.self.inside.layout c.args.self.now c.into_parts-left_parts.ensures.view c.requires.left c.self.view_is,
      (let w = c.self.invariant.words in omega arith),
      syncs_at g.B.Kept.bound t.key t.table_id.slots c.join_seat.new.seat.id c.join_seat.new.seat.me,
    )

pub split_seat-first-requires : goal.split_seat-first-requires
split_seat-first-requires g c =
    let t = c.self.inside.table.shared in (
      c.load.ensures.0 ∙ (c.join_seat.ensures.0 ∙ same_table c.into_parts-left_parts.result.seat c.args.left t.table_id c.self.inside.layout c.args.self.now c.into_parts-left_parts.ensures.view c.requires.left c.self.view_is),
      (let w = c.self.invariant.words in omega arith),
      splits_at g.B.Kept.bound t.key c.load.new.seat.id c.into_parts-left_parts.result.seat.me.0 c.into_parts-right_parts.result.seat.me.0 c.load.new.seat.me.0 c.load.new.seat.me.0.seen
          (synced_view c.into_parts-left_parts.result.seat.me.0 c.into_parts-right_parts.result.seat.me.0 c.join_seat.new.seat.me.0 c.load.new.seat.me.0 c.into_parts-left_parts.ensures.inside.lone c.into_parts-right_parts.ensures.inside.lone (ap (λ z. z.0) c.join_seat.ensures.2) c.load.ensures.2.0),
    )

pub returns : goal.returns
returns g c =
    let a = c.into_parts-left_parts.result.seat in
    let b = c.into_parts-right_parts.result.seat in
    let f = c.split_seat-first.result in
    let k = c.split_seat-first.new.seat in
    let e = c.split_seat-first.ensures in
    let same : b.table_id ≡ a.table_id =
    same_table b c.args.right c.self.inside.table.shared.table_id c.self.inside.layout c.args.self.now c.into_parts-right_parts.ensures.view c.requires.right c.self.view_is
    ∙ sym (same_table a c.args.left c.self.inside.table.shared.table_id c.self.inside.layout c.args.self.now c.into_parts-left_parts.ensures.view c.requires.left c.self.view_is) in
    let home : (pass_value a).opening ≡ (pass_value b).opening = (ap (λ z. z.opening) c.into_parts-left_parts.ensures.view ∙ c.requires.left) ∙ sym (ap (λ z. z.opening) c.into_parts-right_parts.ensures.view ∙ c.requires.right) in
    let up : c.load.new.seat.table_id ≡ a.table_id = c.load.ensures.0 ∙ c.join_seat.ensures.0 in
    subst (λ (z : PassValue × PassValue). HaveMet z.0 z.1 (pass_value f) (pass_value k)) (λ j. (c.into_parts-left_parts.ensures.view j, c.into_parts-right_parts.ensures.view j))
    (have_met a b c.join_seat.new.seat.me.0 c.load.new.seat.me.0 c.into_parts-left_parts.ensures.inside.lone c.into_parts-right_parts.ensures.inside.lone (ap (λ z. z.0) c.join_seat.ensures.2) c.load.ensures.2.0 f k (ap (λ z. z.lows) home) (ap (λ z. z.count) home)
    (ap (λ z. z.0) e.4) (ap (λ z. z.0) e.2) (e.3 ∙ up) (e.0 ∙ (up ∙ sym same)))
