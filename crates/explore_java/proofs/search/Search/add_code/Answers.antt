use native.Mathlib.Omega.{arith}
use Rattle.std.proofs.Common.{◌≡◌, ◌≤◌, Bool, true, false, length, List, [], ◌∷◌, ◌++◌, ◌+◌}
use Rattle.std.specs.Prelude.{if◌then◌else◌}
use Rattle.step_core.specs.declared.machine.Move.{Move}
use Rattle.explore_java.specs.declared.found.Node.{Node}
use Rattle.explore_java.specs.JavaFound.{AreParents, witnesses, witness_at}
use Rattle.explore_java.specs.JavaSearches.{IsSearch}
use Rattle.explore_java.proofs.Searching.{witnesses_more, stays_more, search_more, number_of, near_number, key_added, key_there, fresh_key, was_absent, move_last}
use Rattle.explore_java.proofs.Finding.{length_witnesses, parents_more}
use Rattle.explore_java.proofs.Trying.{stays_still}
use Rattle.explore_java.proofs.search.Search.add_code.Goals as goal

parents_either : (pushed : Bool) (ns ms : List Node) (n : Node) → ms ≡ (if pushed then ns ++ n ∷ [] else ns)
    → AreParents ns → n.parent ≤ length ns → AreParents ms
parents_either true ns ms n e h le = rw e (parents_more ns n h le)
parents_either false ns ms n e h le = rw e h

more : (c : goal.In_ok-push)
    → IsSearch c.args.program.now c.insert_full.new.self.keys (witnesses c.push.new.self.items) (c.args.self.now.queue.items ++ c.args.state.now ∷ []) (c.args.parent + 1)
more c =
    let ws : List (List Move) = witnesses c.args.self.now.nodes.items in
    let keys : c.insert_full.new.self.keys ≡ c.args.self.now.codes.keys ++ c.in_ok-code.code ∷ [] =
    key_added c.args.self.now.codes.keys c.insert_full.new.self.keys c.in_ok-code.code c.in_ok-_number.is_new
    c.in_ok-_number.ensures.added c.if-is_new.true c.in_ok-_number.ensures.keys in
    rw (c.in_ok-push.ensures.items, witnesses_more, keys)
    (search_more c.args.program.now c.args.self.now.codes.keys ws c.args.self.now.queue.items (c.args.parent + 1) c.in_ok-code.code
    (witness_at ws c.args.parent ++ c.args.made ∷ []) c.args.state.now c.requires.search c.requires.leads (record { sound = c.in_ok-code.ensures.sound; below = c.requires.below }) c.in_ok-code.ensures.code
    (fresh_key c.args.self.now.codes.keys c.in_ok-code.code
    (was_absent c.args.self.now.codes.keys c.in_ok-code.code c.in_ok-_number.is_new c.in_ok-_number.ensures.added c.if-is_new.true))
    (move_last c.args.program.now c.args.self.now.codes.keys ws c.args.self.now.queue.items c.args.parent c.args.made c.requires.search))

pub returns-in_ok-push-clause-search : goal.returns-in_ok-push-clause-search
returns-in_ok-push-clause-search c = rw c.if-is_new.true (more c)

pub returns-in_ok-push-clause-stays : goal.returns-in_ok-push-clause-stays
returns-in_ok-push-clause-stays c =
    let ws : List (List Move) = witnesses c.args.self.now.nodes.items in
    rw (c.in_ok-push.ensures.items, witnesses_more) (stays_more ws (witness_at ws c.args.parent ++ c.args.made ∷ []))

pub returns-in_ok-push-clause-found : goal.returns-in_ok-push-clause-found
returns-in_ok-push-clause-found c =
    let stored = c.in_ok-_number.ensures.stored in
    let search = more c in
    near_number c.args.program.now c.insert_full.new.self.keys (witnesses c.push.new.self.items) (c.args.self.now.queue.items ++ c.args.state.now ∷ []) c.args.parent
    c.in_ok-_number._number c.args.state.now search
    (number_of c.args.program.now c.insert_full.new.self.keys (witnesses c.push.new.self.items) (c.args.self.now.queue.items ++ c.args.state.now ∷ []) (c.args.parent + 1)
    c.in_ok-_number._number c.in_ok-code.code stored.0 c.args.state.now search (c.codes_tell_states_apart.ensures c.args.program.now)
    (record { sound = c.in_ok-code.ensures.sound; below = c.requires.below }) c.in_ok-code.ensures.code stored.1 stored.2)

pub returns-else-is_new-clause-search : goal.returns-else-is_new-clause-search
returns-else-is_new-clause-search c =
    let keys : c.insert_full.new.self.keys ≡ c.args.self.now.codes.keys =
    key_there c.args.self.now.codes.keys c.insert_full.new.self.keys c.in_ok-code.code c.in_ok-_number.is_new
    c.in_ok-_number.ensures.added c.if-is_new.false c.in_ok-_number.ensures.keys in
    rw (c.if-is_new.false, keys) c.requires.search

pub returns-else-is_new-clause-found : goal.returns-else-is_new-clause-found
returns-else-is_new-clause-found c =
    let keys : c.insert_full.new.self.keys ≡ c.args.self.now.codes.keys =
    key_there c.args.self.now.codes.keys c.insert_full.new.self.keys c.in_ok-code.code c.in_ok-_number.is_new
    c.in_ok-_number.ensures.added c.if-is_new.false c.in_ok-_number.ensures.keys in
    let stored = rw keys at c.in_ok-_number.ensures.stored in
    near_number c.args.program.now c.args.self.now.codes.keys (witnesses c.args.self.now.nodes.items) c.args.self.now.queue.items c.args.parent
    c.in_ok-_number._number c.args.state.now c.requires.search
    (number_of c.args.program.now c.args.self.now.codes.keys (witnesses c.args.self.now.nodes.items) c.args.self.now.queue.items
    (c.args.parent + 1) c.in_ok-_number._number c.in_ok-code.code stored.0 c.args.state.now c.requires.search (c.codes_tell_states_apart.ensures c.args.program.now)
    (record { sound = c.in_ok-code.ensures.sound; below = c.requires.below }) c.in_ok-code.ensures.code stored.1 stored.2)

pub returns-else-is_new-clause-stays : goal.returns-else-is_new-clause-stays
returns-else-is_new-clause-stays c = stays_still (witnesses c.args.self.now.nodes.items)

pub invariant_of-self-then-is_new : goal.invariant_of-self-then-is_new
invariant_of-self-then-is_new c =
    let l = length_witnesses c.args.self.now.nodes.items in
    let w = c.requires.search.waiting in
    record { parents = parents_either _ c.args.self.now.nodes.items c.push.new.self.items _ c.push.ensures.items c.args.self.now.parents (omega (arith, l, w)) }
