use Rattle.std.proofs.Common.{◌≡◌, ◌+◌, ◌-◌, ◌≤◌, ◌∙◌, ℕ, refl, ap, arith, take, subst}
use Rattle.std.proofs.lemmas.Result.{err_from_is_err_and}
use Rattle.std.specs.Io.KnownBytes.{Consumes}
use Rattle.history_check.proofs.Reading.{reads_failed, reads_end, reads_more, reads_fault, reads_past, reads_lost}
use Rattle.history_check.proofs.replaying.count_moves.Goals as goal

pub returns-in_default-clause-told : goal.returns-in_default-clause-told
returns-in_default-clause-told g c =
    reads_failed _ (g.S.Source.left c.reading.source) _ _ _ _ _ _ _ c.reading.invariant.reads c.reading.invariant.small ((c.in_default.ensures.cases).2 ∙ c.reading.invariant.given) ((c.in_default.ensures.cases).0, (c.in_default.ensures.cases).1)

pub returns-then-count-eq0-clause-told : goal.returns-then-count-eq0-clause-told
returns-then-count-eq0-clause-told g c =
    let none : c.in-Some.count ≡ 0 = c.if-count-eq0.true in
    let took = subst (λ (n : ℕ). Consumes (g.S.Source.left c.reading.source) (g.S.Source.left c.fill.new.self) (take n c.fill.new.chunk)) none (c.in-Some.ensures.cases).2 in
    let sum : g.S.Source.given c.fill.new.self ≡ c.reading.given = omega (arith, (c.in-Some.ensures.cases).1, none, c.reading.invariant.given) in
    reads_end c.finish.result _ (g.S.Source.left c.reading.source) _ _ _ _ _ _ _ c.fill.new.chunk c.reading.invariant.reads c.reading.invariant.small sum took ((c.in-Some.ensures.cases).3 none (omega arith)) c.finish.ensures.told

pub returns-in_err-feed-clause-told : goal.returns-in_err-feed-clause-told
returns-in_err-feed-clause-told g c =
    let sum : g.S.Source.given c.fill.new.self ≡ c.reading.given + c.in-Some.count = (c.in-Some.ensures.cases).1 ∙ ap (λ (n : ℕ). n + c.in-Some.count) c.reading.invariant.given in
    let p = err_from_is_err_and c.from_residual.result c.from_residual.ensures.1 in
    let took = rw (← c.split_at.ensures.front) at (c.in-Some.ensures.cases).2 in
    let told = rw c.split_at-then-count-room.ensures.front at c.in_err-feed.ensures.told in
    rw (p.1, p.2) (reads_past _ (g.S.Source.left c.reading.source) _ _ _ _ _ _ _ c.split_at.result.0.now c.in-Some.count (1073741824 - c.reading.given) c.in_err-feed.field-0.0 c.reading.invariant.reads took c.split_at.ensures.front_len sum (omega (arith, (c.in-Some.ensures.cases).0)) c.reading.invariant.small refl told)

pub returns-then-count-room-clause-told : goal.returns-then-count-room-clause-told
returns-then-count-room-clause-told g c =
    let sum : g.S.Source.given c.fill.new.self ≡ c.reading.given + c.in-Some.count = (c.in-Some.ensures.cases).1 ∙ ap (λ (n : ℕ). n + c.in-Some.count) c.reading.invariant.given in
    let took = rw (← c.split_at.ensures.front) at (c.in-Some.ensures.cases).2 in
    let told = rw c.split_at-then-count-room.ensures.front at c.in_ok-feed.ensures.told in
    reads_lost _ (g.S.Source.left c.reading.source) _ _ _ _ _ _ _ c.split_at.result.0.now c.in-Some.count (1073741824 - c.reading.given) _ _ _ c.reading.invariant.reads took c.split_at.ensures.front_len sum (omega (arith, (c.in-Some.ensures.cases).0)) c.reading.invariant.small refl c.if-count-room.true told

pub returns-in_err-feed-2-clause-told : goal.returns-in_err-feed-2-clause-told
returns-in_err-feed-2-clause-told g c =
    let sum : g.S.Source.given c.fill.new.self ≡ c.reading.given + c.in-Some.count = (c.in-Some.ensures.cases).1 ∙ ap (λ (n : ℕ). n + c.in-Some.count) c.reading.invariant.given in
    let p = err_from_is_err_and c.from_residual-in_err-feed-2.result c.from_residual-in_err-feed-2.ensures.1 in
    let took = rw (← c.split_at.ensures.front) at (c.in-Some.ensures.cases).2 in
    let small : c.reading.given + c.in-Some.count ≤ 1073741824 = omega (arith, c.if-count-room.false, c.reading.invariant.small) in
    rw (p.1, p.2) (reads_fault _ (g.S.Source.left c.reading.source) _ _ _ _ _ _ _ c.split_at.result.0.now c.in-Some.count c.in_err-feed-2.field-0.0 c.reading.invariant.reads took c.split_at.ensures.front_len sum (omega (arith, (c.in-Some.ensures.cases).0)) small c.in_err-feed-2.ensures.told)

pub reading-preserved : goal.reading-preserved
reading-preserved g c =
    let took = rw (← c.split_at.ensures.front) at (c.in-Some.ensures.cases).2 in
    let sum : g.S.Source.given c.fill.new.self ≡ g.S.Source.given c.reading.source + c.in-Some.count = (c.in-Some.ensures.cases).1 in
    record {
      whole = λ failed. c.reading.invariant.whole ((c.in-Some.ensures.cases).4 failed);
      given = sum ∙ ap (λ (n : ℕ). n + c.in-Some.count) c.reading.invariant.given;
      small = omega (arith, c.if-count-room.false, c.reading.invariant.small);
      counted = omega (arith, c.in_ok-feed-2.ensures.counted, c.reading.invariant.counted, c.split_at.ensures.front_len);
      reads = reads_more _ (g.S.Source.left c.reading.source) _ _ _ _ _ c.split_at.result.0.now c.in-Some.count _ _ _ c.reading.invariant.reads took c.split_at.ensures.front_len c.in_ok-feed-2.ensures.told;
    }
