use Rattle.std.proofs.Common.{◌≡◌, Some, refl}
use Rattle.explore_java.specs.JavaFound.{witness_at, witnesses}
use Rattle.explore_java.specs.JavaStates.{after}
use Rattle.explore_java.proofs.Finding.{proper_here}
use Rattle.explore_java.proofs.Trying.{played_more, taken}
use Rattle.explore_java.proofs.search.Search.try_move.Goals as goal

pub make-requires-clause-below : goal.make-requires-clause-below
make-requires-clause-below c =
    let p = c.args.program.now in
    let proper = proper_here p c.args.self.now.codes.keys (witnesses c.args.self.now.nodes.items) c.args.self.now.queue.items c.args.at c.args.state c.requires.search c.requires.here in
    proper.below

pub add-requires-clause-leads : goal.add-requires-clause-leads
add-requires-clause-leads c =
    let p = c.args.program.now in
    let made : after p c.args.state c.args.made ≡ Some c.make.new.self =
    taken c.make.result _ c.make.new.self c.make.new.self c.make.ensures.made c.if-not-make.false refl in
    played_more p (witness_at (witnesses c.args.self.now.nodes.items) c.args.at) c.args.made c.args.state (Some c.make.new.self) c.requires.here made

pub returns-clause-some : goal.returns-clause-some
returns-clause-some c = λ _.
    let p = c.args.program.now in
    let made : after p c.args.state c.args.made ≡ Some c.make.new.self =
    taken c.make.result _ c.make.new.self c.make.new.self c.make.ensures.made c.if-not-make.false refl in
    (c.make.new.self, made, c.in_ok-add.ensures.found)
