use Rattle.std.proofs.Common.{◌≡◌, ◌-◌, ◌<◌, ℕ, List, [], ◌∷◌, length, Some, None, IsTrue, sym, ap, ◌∙◌, subst, arith, rules}
use Rattle.json.specs.Token.{Token, begin_object}
use Rattle.json.specs.Lex.{tokens}
use Rattle.json.specs.Json.{members, value, read_key}
use Rattle.json.specs.Reads.{token_of}
use Rattle.json.proofs.Grammar.{read_key-shorter}
use Rattle.serde_json.specs.Data.{Members, no_members}
use Rattle.serde_json.specs.Read.{of_members, converted}
use Rattle.history_moves.specs.GatheredMembers.{members_in, IsCounted, Takes, key_text, scalar_data}
use Rattle.history_moves.proofs.GatheredLaws.{nothing_in, nothing_counted}
use Rattle.history_moves.proofs.TokenLaws.{one_member, no_member_more, object_read, object_move}
use Rattle.history_moves.proofs.spelled.tokens.token_move.Goals as goal

pub members-init : goal.members-init
members-init c =
    let ts = c.next.new.self in
    let none : members_in c.new-found.result ≡ no_members = ap members_in c.new-found.ensures ∙ nothing_in in (
      length ts,
      omega arith,
      ap (λ (found : Members). converted (λ ms. of_members ms found) (members (value 126) (length ts) ts)) (sym none),
      subst IsCounted (sym c.new-found.ensures) nothing_counted,
    )

pub members-preserved : goal.members-preserved
unfolding Takes
members-preserved c =
    let l = c.members in
    let n = l.invariant.0 in
    let old = members_in l.found in
    let k = key_text c.in_ok-key_named.field-0 in
    let s = c.next_key.new.self in
    let r = c.next-in-Some.new.self in
    let t = token_of c.in_ok-next.field-0 in
    let text : c.in-Some.key.now ≡ k = sym c.as_bytes.ensures.value ∙ c.in_ok-key_named.ensures in
    let read : read_key l.reader ≡ Some (Some c.in-Some.key.now, s) = grind arith in
    let named : read_key l.reader ≡ Some (Some k, s) = read ∙ ap (λ (t : List ℕ). Some (Some t, s)) text in
    let first : s ≡ t ∷ r = grind arith in
    let yes : IsTrue c.take.result = search rules in
    let taken : Takes l.found k (scalar_data c.in_ok-value.value) c.take.new.self = c.take.ensures yes in
    let less = read_key-shorter l.reader (Some k) s named in
    let lesser : length r < length s = omega (arith, ap length first) in (
      n - 1,
      omega (arith, l.invariant.1),
      l.invariant.2 ∙ one_member old n k t l.reader s r (scalar_data c.in_ok-value.value) (omega (arith, l.invariant.1)) named first c.in_ok-value.ensures
          ∙ ap (λ (found : Members). converted (λ ms. of_members ms found) (members (value 126) (n - 1) r)) (sym taken.0),
      taken.1 l.invariant.3,
    )

pub returns : goal.returns
returns c =
    let l = c.members in
    let g = l.found in
    let ts = c.next.new.self in
    let r = c.next_key.new.self in
    let all : c.in_ok-reader.reader ≡ tokens c.args.text.now = grind arith in
    let first : tokens c.args.text.now ≡ begin_object ∷ ts = grind arith in
    let closed : read_key l.reader ≡ Some (None, r) = grind arith in
    let none : r ≡ [] = grind arith in
    let rest : converted (λ ms. of_members ms no_members) (members (value 126) (length ts) ts) ≡ Some (members_in g, []) =
    l.invariant.2 ∙ no_member_more (members_in g) l.invariant.0 l.reader r l.invariant.1 closed ∙ ap (λ (p : List Token). Some (members_in g, p)) none in
    object_move c.args.text.now g _ c.utf8.text (object_read c.args.text.now ts g first rest) (c.made_move.ensures l.invariant.3)
