use Rattle.std.proofs.Common.{rules, ◌≡◌, ◌≤◌, length, map, sym, ap, ◌∙◌, subst, arith, vec_len, true≢false, List, Contains}
use Rattle.std.specs.Mem.Slots.{slots_items}
use Rattle.std.proofs.lemmas.List.{length-map}
use Rattle.lock_word.specs.declared.Word.{Word}
use Rattle.header_words.specs.Passes.{Opening, PassValue, indices_of, IsClosed}
use mathlib.Core.Option.{some}
use Rattle.header_words.proofs.Closes.{above_0, all_there, some_pass, ends_some, ends, ends_small}
use Rattle.header_words.proofs.headers.Headers.close.Goals as goal

pub returns-in_default-clause-fault : goal.returns-in_default-clause-fault
returns-in_default-clause-fault g c =
    let l : c.len-objects.result ≡ vec_len c.self.inside.layout.lows = c.len-objects.ensures in
    let n : length c.self.inside.layout.lows.items ≡ vec_len c.self.inside.layout.lows = search rules in
    let same : length c.self.inside.layout.lows.items ≡ length c.args.self.lows = ap (λ (z : Opening). length z.lows) c.self.view_is in (
      all_there c.self.inside.table.shared.table_id c.self.inside.layout c.args.self c.args.passes.items c.as_slice.result.now c.self.view_is c.as_slice.ensures.value (c.has_all.ensures.found c.if-not-has_all.false),
      above_0 (length c.args.self.lows) (λ none. true≢false (sym (c.in_default.ensures.succeeds (omega arith)))),
    )

pub join_all-seat-requires-clause-some : goal.join_all-seat-requires-clause-some
join_all-seat-requires-clause-some g c =
    let all = all_there c.self.inside.table.shared.table_id c.self.inside.layout c.args.self c.args.passes.items c.as_slice.result.now c.self.view_is c.as_slice.ensures.value (c.has_all.ensures.found c.if-not-has_all.false) in
    let some : 1 ≤ c.args.self.count = subst (λ (z : Opening). 1 ≤ z.count) c.self.view_is c.self.invariant.some in
    some_pass c.args.passes.items 1 (all 1 (omega arith) some)

pub words_of-words-requires-clause-small : goal.words_of-words-requires-clause-small
words_of-words-requires-clause-small g c = λ o lt.
    let l : c.len-objects.result ≡ vec_len c.self.inside.layout.lows = c.len-objects.ensures in
    let n : length c.self.inside.layout.lows.items ≡ vec_len c.self.inside.layout.lows = search rules in
    ends_small g.B.Kept.bound c.self.inside.table.shared.key c.self.inside.layout c.join_all-seat.result.id c.join_all-seat.result.me.0 (slots_items c.close_with-closed.result.words) (slots_items c.close_with-closed.result.slots) c.self.invariant.key c.close_with-closed.ensures.values.2 o (omega arith)

pub returns-clause-words : goal.returns-clause-words
returns-clause-words g c =
    let l : c.len-objects.result ≡ vec_len c.self.inside.layout.lows = c.len-objects.ensures in
    let n : length c.self.inside.layout.lows.items ≡ vec_len c.self.inside.layout.lows = search rules in
    let filled : length c.words_of-words.result.items ≡ c.len-objects.result = c.words_of-words.ensures.len in
    subst (λ (z : Opening). IsClosed z c.args.passes.items (map (λ (w : Word). w.0) c.words_of-words.result.items) (g.B.Kept.bound c.in-Some.book)) c.self.view_is
    (ends g.B.Kept.bound c.self.inside.table.shared.key c.self.inside.layout c.join_all-seat.result.id c.join_all-seat.result.me.0 c.args.passes.items (slots_items c.close_with-closed.result.words) (slots_items c.close_with-closed.result.slots) c.self.invariant.key c.close_with-closed.ensures.values.2 c.join_all-seat.ensures.1
    (λ i one most. subst (λ (ps : List PassValue). Contains (indices_of ps) i) c.as_slice.ensures.value (c.has_all.ensures.found c.if-not-has_all.false i one most)) c.in-Some.book (c.take-kept.ensures.value ∙ ap some c.in-Some.is)
    (map (λ (w : Word). w.0) c.words_of-words.result.items) (simp length-map (omega arith)) (λ k lt. c.words_of-words.ensures.each k (omega arith)) c.self.inside.table.shared.table_id)

pub returns-clause-all : goal.returns-clause-all
returns-clause-all g c = all_there c.self.inside.table.shared.table_id c.self.inside.layout c.args.self c.args.passes.items c.as_slice.result.now c.self.view_is c.as_slice.ensures.value (c.has_all.ensures.found c.if-not-has_all.false)

pub unreachable-requires : goal.unreachable-requires
unreachable-requires g c = ends_some g.B.Kept.bound c.self.inside.table.shared.key c.self.inside.layout c.join_all-seat.result.id c.join_all-seat.result.me.0 c.args.passes.items (slots_items c.close_with-closed.result.words) (slots_items c.close_with-closed.result.slots) c.self.invariant.key c.close_with-closed.ensures.values.2 c.join_all-seat.ensures.1
    (λ i one most. subst (λ (ps : List PassValue). Contains (indices_of ps) i) c.as_slice.ensures.value (c.has_all.ensures.found c.if-not-has_all.false i one most)) (c.take-kept.ensures.value ∙ ap some c.in_default-kept.is)
