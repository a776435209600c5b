use Rattle.std.proofs.Common.{◌≡◌, ℕ, ◌+◌, List, [], ◌++◌, Option, ap, sym, ◌∙◌, subst, take, arith, inl, inr, refl}
use Rattle.std.specs.Io.KnownBytes.{Consumes}
use Rattle.std.proofs.lemmas.Result.{err_from_is_err_and}
use Rattle.text_streams.proofs.Pieces.{Consumes-end, Consumes-more, Consumes-none}
use Rattle.history.proofs.running.read_all.Goals as goal

took_none : (a : Option (List ℕ)) (bytes : List ℕ) → bytes ≡ [] → Consumes a a bytes
took_none a bytes none = subst (λ (l : List ℕ). Consumes a a l) (sym none) (Consumes-none a)

took_more : (a b c : Option (List ℕ)) (bytes front took new : List ℕ) → Consumes a b bytes → Consumes b c took → front ≡ took → new ≡ bytes ++ front → Consumes a c new
took_more a b c bytes front took new p q same more =
    subst (λ (l : List ℕ). Consumes a c l) (sym (more ∙ ap (λ (l : List ℕ). bytes ++ l) same)) (Consumes-more a b c bytes took p q)

given_more : (given given' kept kept' count front : ℕ) → given' ≡ given + count → given ≡ kept → front ≡ count → kept' ≡ kept + front → given' ≡ kept'
given_more given given' kept kept' count front p q r s = omega arith

pub reading-init : goal.reading-init
reading-init g c = record {
  sum = c.requires ∙ sym c.new-bytes.ensures.len;
  took = took_none (g.S.Source.left c.args.source.now) c.new-bytes.result.items c.new-bytes.ensures.items;
  whole = λ failed. failed;
}

pub fill-requires : goal.fill-requires
fill-requires g c = omega arith

pub reading-preserved : goal.reading-preserved
reading-preserved g c = record {
  sum = given_more _ _ _ _ _ _ c.in-Some.ensures.cases.1 c.reading.invariant.sum c.split_at.ensures.front_len c.in_ok-extend_from_slice.ensures.len;
  took = took_more _ _ _ _ _ _ _ c.reading.invariant.took c.in-Some.ensures.cases.2 c.split_at.ensures.front c.in_ok-extend_from_slice.ensures.items;
  whole = λ failed. c.reading.invariant.whole (c.in-Some.ensures.cases.4 failed);
}

pub reading-smaller : goal.reading-smaller
reading-smaller g c = omega (arith, c.in_ok-extend_from_slice.ensures.len)

pub returns-in_default-clause-fault : goal.returns-in_default-clause-fault
returns-in_default-clause-fault g c = inr (refl, inl c.in_default.ensures.cases.0)

pub returns-then-count-eq0-clause-all : goal.returns-then-count-eq0-clause-all
returns-then-count-eq0-clause-all g c =
    let took = c.in-Some.ensures.cases in
    Consumes-end (g.S.Source.left c.args.source.now) (g.S.Source.left c.reading.source) (g.S.Source.left c.fill.new.self) c.reading.bytes.items c.fill.new.chunk c.reading.invariant.took
    (subst (λ (n : ℕ). Consumes (g.S.Source.left c.reading.source) (g.S.Source.left c.fill.new.self) (take n c.fill.new.chunk)) c.if-count-eq0.true took.2) (took.3 c.if-count-eq0.true (omega arith))

pub returns-then-count-eq0-clause-few : goal.returns-then-count-eq0-clause-few
returns-then-count-eq0-clause-few g c = omega arith

pub returns-then-count-eq0-clause-whole : goal.returns-then-count-eq0-clause-whole
returns-then-count-eq0-clause-whole g c = λ failed. c.reading.invariant.whole (c.in-Some.ensures.cases.4 failed)

pub returns-in_err-extend_from_slice-clause-fault : goal.returns-in_err-extend_from_slice-clause-fault
returns-in_err-extend_from_slice-clause-fault g c =
    let p = err_from_is_err_and c.from_residual.result c.from_residual.ensures.1 in
    rw (p.1, p.2) (inl refl)

pub returns-clause-fault : goal.returns-clause-fault
returns-clause-fault g c = inr (refl, inr (omega arith))
