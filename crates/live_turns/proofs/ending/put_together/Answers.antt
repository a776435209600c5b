use Rattle.std.specs.Prelude.{reverse}
use Rattle.std.proofs.Common.{◌≡◌, ◌+◌, ℕ, List, [], ◌∷◌, ◌++◌, length, map, ap, sym, ◌∙◌, subst, arith}
use Rattle.std.proofs.lemmas.List.{append_assoc, length_push, map-append, reverse-append, same_from_push}
use Rattle.header_words.specs.Passes.{PassValue}
use Rattle.step_core.specs.declared.paths.Point.{Point}
use Rattle.live_book.specs.declared.deeds.Logged.{Logged}
use Rattle.live_turns.specs.Ends.{words_of}
use Rattle.live_turns.specs.Points.{Knows}
use Rattle.live_turns.specs.Ways.{PassState}
use Rattle.live_turns.proofs.ending.put_together.Goals as goal

longer : {X : Type 0} (all rest : List X) (x : X) → all ≡ rest ++ x ∷ [] → length all ≡ length rest + 1
longer all rest x e = ap length e ∙ length_push rest x

as_many : (a a' b b' n : ℕ) → a ≡ a' + 1 → b' ≡ b + 1 → a + b ≡ n → a' + b' ≡ n
as_many a a' b b' n p q r = omega arith

-- the last words are those of the last rest, and those before them are of the rests before it
words_left : (ws ws' : List PassValue) (w : PassValue) (rs rs' : List PassState) (r : PassState) → ws ≡ ws' ++ w ∷ [] → rs ≡ rs' ++ r ∷ [] → ws ≡ map words_of rs → (ws' ≡ map words_of rs') × (w ≡ words_of r)
words_left ws ws' w rs rs' r e d same = same_from_push ws' (map words_of rs') w (words_of r) (sym e ∙ (same ∙ (ap (λ (xs : List PassState). map words_of xs) d ∙ map-append words_of rs' (r ∷ []))))

-- a pass that was put together of the words and the rest is the one that was taken apart
pushed_rest : (ps more : List PassState) (w v : PassValue) (own : List Logged) (s : Point) (r : PassState) → more ≡ ps ++ record { holding = record { words = w; own = own }; point = s } ∷ [] → w ≡ v
    → record { holding = record { words = v; own = own }; point = s } ≡ r → more ≡ ps ++ r ∷ []
pushed_rest ps more w v own s r e same is =
    e ∙ (ap (λ (u : PassValue). ps ++ record { holding = record { words = u; own = own }; point = s } ∷ []) same ∙ ap (λ (x : PassState). ps ++ x ∷ []) is)

moved : (rs rs' ps more all : List PassState) (r : PassState) → rs ≡ rs' ++ r ∷ [] → more ≡ ps ++ r ∷ [] → rs ++ reverse ps ≡ all → rs' ++ reverse more ≡ all
moved rs rs' ps more all r e m h =
    ap (λ (zs : List PassState). rs' ++ reverse zs) m ∙ (ap (λ (zs : List PassState). rs' ++ zs) (reverse-append ps (r ∷ []))
    ∙ (sym (append_assoc rs' (r ∷ []) (reverse ps)) ∙ (ap (λ (zs : List PassState). zs ++ reverse ps) (sym e) ∙ h)))

pub loop-rest-preserved : goal.loop-rest-preserved
loop-rest-preserved g c =
    let i = c.loop-rest.invariant in
    let left = words_left c.loop-rest.words.items c.pop-in-Some.new.self.items c.in-Some-pop.words c.loop-rest.rests.items c.pop.new.self.items c.in-Some.rest c.in-Some-pop.ensures.items c.in-Some.ensures.items i.same in
    let pushed : c.push_reserved.new.self.items ≡ c.loop-rest.passes.items ++ c.in-Some.rest ∷ [] =
    pushed_rest c.loop-rest.passes.items c.push_reserved.new.self.items c.in-Some-pop.words c.rest.inside.words.value c.rest.inside.own.list.items c.rest.inside.point c.in-Some.rest
    c.push_reserved.ensures.items (left.1 ∙ ap words_of (sym c.rest.view_is)) c.rest.view_is in
    record {
      same = left.0;
      done = moved c.loop-rest.rests.items c.pop.new.self.items c.loop-rest.passes.items c.push_reserved.new.self.items c.args.rests.items c.in-Some.rest c.in-Some.ensures.items pushed i.done;
      count = as_many _ _ _ _ _ (longer c.loop-rest.rests.items c.pop.new.self.items c.in-Some.rest c.in-Some.ensures.items)
          (longer c.push_reserved.new.self.items c.loop-rest.passes.items c.in-Some.rest pushed) i.count;
      room = rw c.push_reserved.ensures.capacity i.room;
    }

pub invariant_of-push_reserved : goal.invariant_of-push_reserved
invariant_of-push_reserved g c =
    let left = words_left c.loop-rest.words.items c.pop-in-Some.new.self.items c.in-Some-pop.words c.loop-rest.rests.items c.pop.new.self.items c.in-Some.rest c.in-Some-pop.ensures.items c.in-Some.ensures.items c.loop-rest.invariant.same in
    subst (λ (v : PassValue). Knows c.rest.inside.point (record { words = v; own = c.rest.inside.own.list.items })) (sym (left.1 ∙ ap words_of (sym c.rest.view_is))) c.rest.invariant.1
