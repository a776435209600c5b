use Rattle.std.specs.Prelude.{List, ℕ}
use Rattle.std.proofs.Common.{sym, subst, rules}
use Rattle.fat_monitor.specs.Numbers.{BeginsWith}
use Rattle.step_core.proofs.Putting.{all_words, front_put, put_word}
use Rattle.step_core.proofs.worlds.numbers.push_words.Goals as goal

pub loop-word-preserved : goal.loop-word-preserved
loop-word-preserved c =
    let i = c.loop-word.invariant in (
      put_word c.args.words.now c.loop-word.word-index c.from.result _ c.loop-word.numbers.items c.push.new.self.items _ c.loop-word-test.true c.from.ensures c.in_ok-push.ensures.items i.0,
      front_put c.args.numbers.now.items c.loop-word.numbers.items _ c.push.new.self.items c.in_ok-push.ensures.items i.1,
    )

pub returns : goal.returns
returns c = record {
  written = all_words c.args.words.now c.loop-word.word-index c.loop-word.numbers.items _ c.loop-word-test.false c.loop-word.invariant.0;
  front = c.loop-word.invariant.1;
}

pub returns-in_err-push : goal.returns-in_err-push
returns-in_err-push c = record {
  written = search rules;
  front = subst (λ (l : List ℕ). BeginsWith l c.args.numbers.now.items) (sym c.in_err-push.ensures.items) c.loop-word.invariant.1;
}
