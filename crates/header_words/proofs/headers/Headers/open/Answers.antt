use Rattle.std.proofs.Common.{rules, length, suc, ◌≡◌, ℕ, List, ◌<◌, ◌∷◌, All, sym, ap, ◌∙◌, subst, refl, arith, add-one}
use Rattle.std.specs.Prelude.{slice_index}
use Rattle.header_words.specs.Passes.{pass_value, opening_of, IsNewRow}
use Rattle.header_words.proofs.Opens.{cuts, cut_pass, cut_value, left_after, passes_after, all_last, all_front}
use Rattle.header_words.proofs.headers.Headers.open.Goals as goal

pub new_table-requires-clause-bytes : goal.new_table-requires-clause-bytes
new_table-requires-clause-bytes g c = subst (λ (xs : List ℕ). (o : ℕ) → slice_index xs o < 256) (sym c.in-Ok.ensures.layout.0) (λ o. let h = c.type_inv.lows o in search rules)

pub split_seat-given-requires : goal.split_seat-given-requires
split_seat-given-requires g c = (
  c.loop-done.invariant.same_table,
  (let e : c.in_ok-table.table.shared.table_id.words ≡ length c.as_slice.result.now = c.in_ok-table.ensures.size.0 in let f : length c.as_slice.result.now ≡ suc (length c.args.lows.now) = ap length (c.as_slice.ensures.value ∙ c.in-Ok.ensures.words) in omega arith),
  cuts g.B.Kept.bound c.in_ok-table.table.shared.key.lows.items c.in_ok-table.table.shared.key.count c.in-Ok.room.layout.lows.items c.args.count c.loop-done.seat.id c.loop-done.seat.me.0 c.loop-done.done (ap (λ z. z.0) c.loop-done.invariant.view) c.loop-done-test.true,
)

pub invariant_of-push_reserved : goal.invariant_of-push_reserved
invariant_of-push_reserved g c =
    let row = all_last (IsNewRow c.in-Ok.room.layout.lows.items) c.pop.new.self.items _ (subst (λ l. All (IsNewRow c.in-Ok.room.layout.lows.items) l) c.in-Some.ensures.items c.loop-done.invariant.rows) in
    cut_pass c.in-Ok.room.layout.lows.items c.args.count c.loop-done.done c.loop-done-test.true c.loop-done.seat.me.0 (ap (λ z. z.0) c.loop-done.invariant.view) c.split_seat-given.result c.split_seat-given.ensures.4
    _ _ (let few = c.requires.few in omega arith) row.0 row.1

pub loop-done-preserved : goal.loop-done-preserved
loop-done-preserved g c = record {
  same_table = c.split_seat-given.ensures.0 ∙ c.loop-done.invariant.same_table;
  view = left_after c.in-Ok.room.layout.lows.items c.args.count c.loop-done.done c.loop-done.seat.me.0 c.split_seat-given.new.seat c.loop-done.seat.me.1 c.loop-done-test.true (ap (λ z. z.0) c.loop-done.invariant.view) (ap (λ z. z.1) c.loop-done.invariant.view) c.split_seat-given.ensures.2;
  passes = passes_after (opening_of c.in_ok-table.table.shared.table_id c.in-Ok.room.layout) c.loop-done.done c.loop-done.passes.items c.push_reserved.new.self.items (pass_value c.split_seat-given.result) c.loop-done.invariant.passes
      (cut_value c.in-Ok.room.layout.lows.items c.args.count c.loop-done.done c.loop-done-test.true c.loop-done.seat.me.0 (ap (λ z. z.0) c.loop-done.invariant.view) c.split_seat-given.result c.split_seat-given.ensures.4
      (opening_of c.in_ok-table.table.shared.table_id c.in-Ok.room.layout) (c.split_seat-given.ensures.3 ∙ c.loop-done.invariant.same_table) refl c.in-Ok.ensures.layout.1)
      c.push_reserved.ensures.items;
  rows = all_front (IsNewRow c.in-Ok.room.layout.lows.items) c.pop.new.self.items _ (subst (λ l. All (IsNewRow c.in-Ok.room.layout.lows.items) l) c.in-Some.ensures.items c.loop-done.invariant.rows);
  left = search rules;
  filled = search rules;
  room = search rules;
}

pub invariant_of-result : goal.invariant_of-result
invariant_of-result g c =
    let layout = c.in-Ok.ensures.layout in
    let some = c.requires.some in
    let few = c.requires.few in
    let long : length c.as_slice.result.now ≡ suc (length c.in-Ok.room.layout.lows.items) = ap length (c.as_slice.ensures.value ∙ (c.in-Ok.ensures.words ∙ ap (λ (xs : List ℕ). 0 ∷ xs) (sym layout.0))) in
    record {
      key = c.in_ok-table.ensures.key;
      bytes = subst (λ (xs : List ℕ). (o : ℕ) → slice_index xs o < 256) (sym layout.0) (λ o. let h = c.type_inv.lows o in search rules);
      some = let same : c.in-Ok.room.layout.count ≡ c.args.count = layout.1 in omega arith;
      few = let same : c.in-Ok.room.layout.count ≡ c.args.count = layout.1 in omega arith;
      slots = c.in_ok-table.ensures.size.1;
      words = c.in_ok-table.ensures.size.0 ∙ (long ∙ sym (add-one (length c.in-Ok.room.layout.lows.items)));
    }

pub loop-done-init : goal.loop-done-init
loop-done-init g c = search rules
