use Rattle.std.proofs.Common.{rules, ◌≡◌, false, List, [], ◌∷◌, ◌++◌, sym, ap, ◌∙◌, subst, arith, append_assoc, All}
use Rattle.std.proofs.lemmas.Grind.{common_steps}
use Rattle.header_words.specs.Rule.{part}
use Rattle.header_words.specs.Passes.{PassValue, carried}
use Rattle.header_words.proofs.Closes.{all_mid, joining_next, joins_more}
use Rattle.header_words.proofs.headers.Headers.join_all.Goals as goal

pub join_seat-requires : goal.join_seat-requires
join_seat-requires g c =
    let left = c.pop-in-loop-pass.new.self.items in
    let j = c.loop-pass.invariant.joining in
    let at : c.args.passes.items ≡ left ++ c.in-Some-pop.pass ∷ (j.first ∷ j.taken) =
    j.split ∙ (ap (λ (l : List PassValue). l ++ j.first ∷ j.taken) c.in-Some-pop.ensures.items ∙ append_assoc left (c.in-Some-pop.pass ∷ []) (j.first ∷ j.taken)) in
    let is : c.in-Some-pop.pass.opening ≡ c.args.self.now =
    all_mid (λ (p : PassValue). p.opening ≡ c.args.self.now) left (j.first ∷ j.taken) c.in-Some-pop.pass
    (subst (λ (l : List PassValue). All (λ (p : PassValue). p.opening ≡ c.args.self.now) l) at c.requires.belong) in
    let plain : c.into_parts-other.result.seat.me.0.has_gate ≡ false =
    ap (λ z. z.has_gate) c.into_parts-other.ensures.view ∙ all_mid (λ (p : PassValue). p.has_gate ≡ false) left (j.first ∷ j.taken) c.in-Some-pop.pass (subst (λ (l : List PassValue). All (λ p. p.has_gate ≡ false) l) at c.requires.without) in
    let home = sym (ap (λ z. z.table) c.self.view_is) in (
      c.loop-pass.invariant.same_table ∙ home,
      ap (λ z. z.opening.table) c.into_parts-other.ensures.view ∙ (ap (λ z. z.table) is ∙ home),
      c.into_parts-other.ensures.inside.carries ∙ ap (carried {B = g.row.B.Denot}) (sym c.into_parts-other.ensures.inside.gate ∙ plain),
      (let w = c.self.invariant.words in omega arith),
      joins_more g.B.Kept.bound c.self.inside.table.shared.key c.loop-pass.seat.id c.into_parts-other.result.seat.id c.loop-pass.seat.me.0 c.into_parts-other.result.seat.me.0 c.args.passes.items c.loop-pass.passes.items j plain,
    )

pub loop-pass-preserved : goal.loop-pass-preserved
loop-pass-preserved g c = record {
  same_table = c.join_seat.ensures.0 ∙ c.loop-pass.invariant.same_table;
  joining = joining_next c.args.passes.items c.loop-pass.passes.items c.pop-in-loop-pass.new.self.items c.in-Some-pop.pass c.loop-pass.seat.me.0 c.into_parts-other.result.seat.me.0 c.join_seat.new.seat.me.0
      c.in-Some-pop.ensures.items c.loop-pass.invariant.joining
      (c.into_parts-other.ensures.inside.lone ∙ λ k. part (c.into_parts-other.ensures.view k).index (c.into_parts-other.ensures.view k).mine ∷ [])
      (ap (λ z. z.seen) c.into_parts-other.ensures.view) (ap (λ z. z.0) c.join_seat.ensures.2);
}

pub loop-pass-init : goal.loop-pass-init
loop-pass-init g c = record {
  same_table = search rules;
  joining = grind (arith, common_steps);
}
