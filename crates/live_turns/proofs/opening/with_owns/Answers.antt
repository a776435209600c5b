use Rattle.std.proofs.Common.{◌≡◌, ◌≤◌, ◌+◌, ℕ, List, [], ◌∷◌, ◌++◌, length, map, ap, ◌∙◌, arith}
use Rattle.std.proofs.lemmas.List.{length_push}
use Rattle.header_words.specs.Passes.{PassValue}
use Rattle.step_core.specs.declared.places.Place.TheVariants.{Idle}
use Rattle.step_core.specs.declared.paths.Point.TheVariants.{At}
use Rattle.live_book.specs.declared.deeds.Logged.{Logged}
use Rattle.live_turns.specs.Ways.{PassState, new_state}
use Rattle.live_turns.proofs.Rows.{moved_over}
use Rattle.live_turns.proofs.opening.with_owns.Goals as goal

longer : {X : Type 0} (all rest : List X) (x : X) → all ≡ rest ++ x ∷ [] → length all ≡ length rest + 1
longer all rest x e = ap length e ∙ length_push rest x

both_shorter : (a a' b b' n n' m m' : ℕ) → a ≡ n → a' ≡ n' → n ≡ n' + 1 → b ≡ m → b' ≡ m' → m ≡ m' + 1 → a ≡ b → a' ≡ b'
both_shorter a a' b b' n n' m m' p q r s t u v = omega arith

still_room : (a a' b b' n n' m m' had has : ℕ) → a ≡ n → a' ≡ n' → n ≡ n' + 1 → b ≡ m → b' ≡ m' → m' ≡ m + 1 → a + b ≤ had → has ≡ had → a' + b' ≤ has
still_room a a' b b' n n' m m' had has p q r s t u v w = omega arith

pushed_fresh : (ps more : List PassState) (w : PassValue) (own : List Logged) → more ≡ ps ++ record { holding = record { words = w; own = own }; point = At Idle } ∷ [] → own ≡ [] → more ≡ ps ++ new_state w ∷ []
pushed_fresh ps more w own e none = e ∙ ap (λ (xs : List Logged). ps ++ record { holding = record { words = w; own = xs }; point = At Idle } ∷ []) none

pub loop-words-preserved : goal.loop-words-preserved
loop-words-preserved g c =
    let i = c.loop-words.invariant in
    let words : length c.loop-words.words.items ≡ length c.pop.new.self.items + 1 = longer c.loop-words.words.items c.pop.new.self.items c.in-Some.words c.in-Some.ensures.items in
    let pushed : c.push_reserved.new.self.items ≡ c.loop-words.passes.items ++ new_state c.in-Some.words ∷ [] =
    pushed_fresh c.loop-words.passes.items c.push_reserved.new.self.items c.in-Some.words c.in-Some-pop.field-0.list.items c.push_reserved.ensures.items c.in-Some-pop.field-0.empty in
    record {
      len = both_shorter _ _ _ _ _ _ _ _ c.loop-words.words.ok.0 c.pop.new.self.ok.0 words c.loop-words.owns.ok.0 c.pop-in-Some.new.self.ok.0
          (longer c.loop-words.owns.items c.pop-in-Some.new.self.items c.in-Some-pop.field-0 c.in-Some-pop.ensures.items) i.len;
      room = still_room _ _ _ _ _ _ _ _ _ _ c.loop-words.words.ok.0 c.pop.new.self.ok.0 words c.loop-words.passes.ok.0 c.push_reserved.new.self.ok.0
          (longer c.push_reserved.new.self.items c.loop-words.passes.items (new_state c.in-Some.words) pushed) i.room c.push_reserved.ensures.capacity;
      row = rw pushed (moved_over new_state c.loop-words.words.items c.pop.new.self.items c.in-Some.words c.loop-words.passes.items (map new_state c.args.words.items) c.in-Some.ensures.items i.row);
    }
