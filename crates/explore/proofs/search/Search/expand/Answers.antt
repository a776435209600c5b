use native.Mathlib.Omega.{arith}
use Rattle.std.proofs.Common.{◌≡◌, ◌∙◌, ap, sym, List, [], ◌∷◌, ◌++◌}
use Rattle.explore.specs.declared.programs.Choice.{Choice}
use Rattle.explore.specs.Found.{witnesses}
use Rattle.explore.specs.Searches.{behind}
use Rattle.explore.proofs.Finding.{sound_here}
use Rattle.explore.proofs.Sifting.{all_expanded, none_possible}
use Rattle.explore.proofs.search.Search.expand.Goals as goal

pub returns-in_ok-keep-in-None-clause-expanded : goal.returns-in_ok-keep-in-None-clause-expanded
returns-in_ok-keep-in-None-clause-expanded c =
    let n = c.in-None.ensures.cases.0 in
    none_possible c.args.program.now (witnesses c.args.self.now.nodes.items) (behind (witnesses c.args.self.now.nodes.items) c.args.at) c.args.state c.args.choices.now c.sift.new.possible.items c.in_ok-sift.ensures
    (omega (arith, n, c.sift.new.possible.ok.0))

pub expand_all-requires-clause-few : goal.expand_all-requires-clause-few
expand_all-requires-clause-few c =
    let l = c.deref.ensures.len in
    let n = c.in-Some.ensures.cases in
    let m = c.in_ok-sift.ensures.few in
    omega (arith, l, n, m, c.requires.few, c.sift.new.possible.ok.0)

pub returns-in_ok-expanded-in-Some-clause-expanded : goal.returns-in_ok-expanded-in-Some-clause-expanded
returns-in_ok-expanded-in-Some-clause-expanded c =
    let same : c.deref.result.now ++ c.in-Some.last ∷ [] ≡ c.sift.new.possible.items =
    ap (λ (xs : List Choice). xs ++ c.in-Some.last ∷ []) c.deref.ensures.value ∙ sym c.in-Some.ensures.items in
    let h = rw same at c.in_ok-expanded-in-Some.ensures.expanded in
    all_expanded c.args.program.now (witnesses c.expand_all.new.self.nodes.items) (behind (witnesses c.expand_all.new.self.nodes.items) c.args.at) c.args.state c.args.choices.now c.sift.new.possible.items _ _
    c.in_ok-sift.ensures h

pub sift-requires : goal.sift-requires
sift-requires c =
    sound_here c.args.program.now c.args.self.now.codes.keys (witnesses c.args.self.now.nodes.items) c.args.self.now.queue.items c.args.at c.args.state
    c.requires.search c.requires.here
