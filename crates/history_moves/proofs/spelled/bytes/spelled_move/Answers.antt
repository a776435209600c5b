use Rattle.std.proofs.Common.{◌≡◌, ◌∷◌, suc, length, IsTrue, sym, ap, ◌∙◌, arith, rules}
use Rattle.json.specs.Token.{begin_object}
use Rattle.json.specs.Lex.{lex, between, token, punctuate, fresh}
use Rattle.history_moves.specs.GatheredMembers.{key_text}
use Rattle.history_moves.proofs.Lexing.{begin_lexed, comma_lexed, object_tokens, begun, one_more, last_one}
use Rattle.history_moves.proofs.TokenLaws.{object_read, object_move}
use Rattle.history_moves.proofs.spelled.bytes.spelled_move.Goals as goal

pub members-init : goal.members-init
members-init c = begun c.in_ok-rest.rest.now c.new-found.result c.new-found.ensures

pub members-preserved : goal.members-preserved
members-preserved c =
    let key = c.in_ok-key in
    let value = c.in_ok-value in
    let yes : IsTrue c.take.result = search rules in
    one_more c.in_ok-rest.rest.now c.members.rest.now key.after.now value.after.now c.in-Some.more.now c.members.found c.take.new.self (key_text key.key) value.value
    c.members.invariant key.ensures value.ensures (sym c.past_blanks-after.ensures ∙ comma_lexed _ _ c.in-Some.ensures) (c.take.ensures yes)

pub members-smaller : goal.members-smaller
members-smaller c =
    let key : length (lex between c.members.rest.now) ≡ suc (suc (length (lex between c.in_ok-key.after.now))) = ap length c.in_ok-key.ensures in
    let value : length (lex between c.in_ok-key.after.now) ≡ suc (length (lex between c.in_ok-value.after.now)) = ap length c.in_ok-value.ensures.0 in
    let next : length (lex between c.in_ok-value.after.now) ≡ suc (length (lex between c.in-Some.more.now)) =
    ap length (sym c.past_blanks-after.ensures ∙ comma_lexed _ _ c.in-Some.ensures) in
    omega (arith, key, value, next)

pub returns-then-is_last : goal.returns-then-is_last
returns-then-is_last c =
    let text = c.args.text.now in
    let start = c.in_ok-rest.rest.now in
    let key = c.in_ok-key in
    let value = c.in_ok-value in
    let taken : IsTrue c.take.result = search rules in
    let ends : IsTrue c.is_last.result = search rules in
    let begins : lex between text ≡ token begin_object ∷ lex between start =
    ap (lex between) (sym c.as_bytes.ensures.value) ∙ sym c.past_blanks.ensures ∙ begin_lexed _ _ c.in_ok-rest.ensures in
    let last = last_one start c.members.rest.now key.after.now value.after.now c.members.found c.take.new.self (key_text key.key) value.value
    c.members.invariant key.ensures value.ensures (sym c.past_blanks-after.ensures ∙ c.is_last.ensures ends) (c.take.ensures taken) in
    object_move text c.take.new.self _ c.utf8.text (object_read text (punctuate fresh (lex between start)) c.take.new.self (object_tokens text start begins) last.0)
    (c.made_move.ensures last.1)
