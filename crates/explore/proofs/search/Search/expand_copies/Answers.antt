use native.Mathlib.Omega.{arith}
use Rattle.std.proofs.Common.{sym, take}
use Rattle.std.proofs.lemmas.List.{take_all, take_more}
use Rattle.explore.specs.declared.programs.Choice.TheVariants as choice
use Rattle.explore.specs.Found.{choice_at, witnesses}
use Rattle.explore.proofs.Sifting.{expanded_more, none_expanded}
use Rattle.explore.specs.Searches.{behind}
use Rattle.explore.proofs.Finding.{within_search}
use Rattle.explore.proofs.Trying.{behind_stays, few_next, stays_then, stays_still}
use Rattle.explore.proofs.search.Search.expand_copies.Goals as goal

pub choosing-init : goal.choosing-init
choosing-init c = record {
  search = c.requires.search;
  stays = stays_still (witnesses c.args.self.now.nodes.items);
  expanded = none_expanded c.args.program.now (witnesses c.args.self.now.nodes.items) (behind (witnesses c.args.self.now.nodes.items) c.args.at) c.args.state.now;
  few = omega arith;
}

pub choosing-preserved : goal.choosing-preserved
choosing-preserved c =
    let cs = c.args.choices.now in
    let i = c.choosing.choice-index in
    let lt = within_search c.args.program.now c.choosing.self.codes.keys (witnesses c.choosing.self.nodes.items) c.choosing.self.queue.items c.args.at c.choosing.invariant.search in
    let tried = rw c.in_ok-next.ensures at c.in_ok-tried.ensures.tried in
    record {
      search = c.in_ok-tried.ensures.search;
      stays = stays_then _ _ _ c.choosing.invariant.stays c.in_ok-tried.ensures.stays;
      expanded = rw (take_more cs i (choice.Begin 0) c.choosing-test.true)
          (expanded_more c.args.program.now (witnesses c.choosing.self.nodes.items) (witnesses c.try_choice.new.self.nodes.items)
          (behind (witnesses c.try_choice.new.self.nodes.items) c.args.at) c.args.state.now
          (take i cs) (choice_at cs i) c.in_ok-tried.tried c.choosing.is_end c.changes.result c.choosing.made c.steps-made.result
          (rw (sym (behind_stays (witnesses c.choosing.self.nodes.items) (witnesses c.try_choice.new.self.nodes.items) c.args.at c.in_ok-tried.ensures.stays lt)) c.choosing.invariant.expanded) c.in_ok-tried.ensures.stays tried c.changes.ensures c.steps-made.ensures);
      few = few_next c.in_ok-tried.tried c.choosing.made c.steps-made.result c.choosing.choice-index c.choosing.invariant.few c.steps-made.ensures;
    }

pub returns-clause-expanded : goal.returns-clause-expanded
returns-clause-expanded c =
    rw (take_all c.choosing.choice-index c.args.choices.now c.choosing-test.false) at c.choosing.invariant.expanded

pub overflow_add-made : goal.overflow_add-made
overflow_add-made c =
    let m = few_next c.in_ok-tried.tried c.choosing.made c.steps-made.result c.choosing.choice-index c.choosing.invariant.few c.steps-made.ensures in
    omega (arith, m)
