use Rattle.std.proofs.Common.{List, ℕ, subst, ◌≡◌, ◌∷◌, [], ◌++◌, ◌+◌, Some, ap, sym, ◌∙◌, add-one, rules}
use Rattle.std.proofs.lemmas.List.{append_assoc}
use Rattle.fat_monitor.specs.Numbers.{BeginsWith, thread_numbers}
use Rattle.fat_monitor.proofs.Fronts.{front_same}
use Rattle.thread_index.specs.Indices.{holder_at, holder_of}
use Rattle.step_core.proofs.worlds.World.push_holder.Goals as goal

pub returns-clause-written : goal.returns-clause-written
returns-clause-written c =
    let there : holder_at c.self.inside.indices c.args.berth ≡ Some c.in-Some.thread =
    sym (ap (holder_of c.self.inside.indices) (add-one c.args.berth)) ∙ sym c.in-Some.ensures.holder in
    let number = c.in-Some.thread.0 + 1 in
    let more = thread_numbers c.self.inside.fats c.in-Some.thread in
    let pushed : c.push-2.new.self.items ≡ c.args.numbers.now.items ++ number ∷ [] = search rules in
    rw (← c.self.view_is, there, ← append_assoc c.args.numbers.now.items (number ∷ []) more, ← pushed)
    c.push_thread.ensures.written

pub returns-in_err-push : goal.returns-in_err-push
returns-in_err-push c = record {
  written = search rules;
  front = subst (λ (l : List ℕ). BeginsWith l c.args.numbers.now.items) (sym c.in_err-push.ensures.items) (front_same c.args.numbers.now.items);
}

pub returns-in_err-push-2 : goal.returns-in_err-push-2
returns-in_err-push-2 c = record {
  written = search rules;
  front = subst (λ (l : List ℕ). BeginsWith l c.args.numbers.now.items) (sym c.in_err-push-2.ensures.items) (front_same c.args.numbers.now.items);
}
