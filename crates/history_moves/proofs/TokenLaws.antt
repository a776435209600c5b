-- A text is the object whose members were gathered from its tokens.
use Rattle.std.proofs.Common.{◌≡◌, ℕ, ◌-◌, ◌<◌, ◌≤◌, List, [], ◌∷◌, length, Option, Some, None, IfSome, option_map, option_and_then, refl, sym, ap, ◌∙◌, arith, codes}
use Rattle.std.specs.Str.{IsUtf8}
use Rattle.json.specs.Token as json
use Rattle.json.specs.Token.{Token}
use Rattle.json.specs.Lex.{tokens}
use Rattle.json.specs.Json as tree
use Rattle.json.specs.Json.{parse_map, if_last, read_key, value, members}
use Rattle.json.proofs.Grammar.{value_is, value-begin_object, members_end, members_more}
use Rattle.serde_json.specs.Data.{Data, object, Members, no_members, put}
use Rattle.serde_json.specs.Read.{read, of_json, of_members, converted}
use Rattle.step_core.specs.declared.machine.Move.{Move}
use Rattle.history_moves.specs.Members.{text_at}
use Rattle.history_moves.specs.Lines.{IsMove}
use Rattle.history_moves.specs.Reading.{move_named, move_from}
use Rattle.history_moves.specs.GatheredMembers.{members_in, IsCounted, token_data}
use Rattle.history_moves.specs.declared.spelled.gathered.GatheredMembers.{GatheredMembers}
use Rattle.history_moves.proofs.Found.{none_some, same_some}
use Rattle.history_moves.proofs.GatheredLaws.{in_order}
use Rattle.history_moves.proofs.MoveLaws.{move_takes}
use Rattle.history_moves.proofs.LineLaws.{written_move}

-- a token that is a whole value
pub record ReadsAs (n : ℕ) (t : Token) (r : List Token) (d : Data) : Type 0 where
  pub tree : tree.Json
  pub value : value n (t ∷ r) ≡ Some (tree, r)
  pub data_is : of_json tree ≡ Some d

pub token_read : (n : ℕ) (t : Token) (r : List Token) (d : Data) → token_data t ≡ Some d → ReadsAs n t r d
token_read n json.begin_object r d e = none_some d _ e
token_read n json.end_object r d e = none_some d _ e
token_read n json.begin_array r d e = none_some d _ e
token_read n json.end_array r d e = none_some d _ e
token_read n (json.key s) r d e = none_some d _ e
token_read n (json.string s) r d e = record { tree = tree.string s; value = value_is n (json.string s ∷ r); data_is = e }
token_read n (json.number s) r d e = record { tree = tree.number s; value = value_is n (json.number s ∷ r); data_is = e }
token_read n (json.boolean b) r d e = none_some d _ e
token_read n json.null r d e = record { tree = tree.null; value = value_is n (json.null ∷ r); data_is = e }
token_read n json.bad r d e = none_some d _ e

-- ---- a turn of the loop over members

put_member : (k : List ℕ) (j : tree.Json) (d : Data) (old : Members) → of_json j ≡ Some d → (o : Option (tree.Members × List Token))
    → converted (λ ms. of_members ms old) (parse_map (tree.member k j) o) ≡ converted (λ ms. of_members ms (put k d old)) o
put_member k j d old e None = refl
put_member k j d old e (Some p) = rw e

pub one_member : (old : Members) (n : ℕ) (k : List ℕ) (t : Token) (ts s r : List Token) (d : Data) → 0 < n → read_key ts ≡ Some (Some k, s) → s ≡ t ∷ r → token_data t ≡ Some d
    → converted (λ ms. of_members ms old) (members (value 126) n ts) ≡ converted (λ ms. of_members ms (put k d old)) (members (value 126) (n - 1) r)
one_member old n k t ts s r d some key first data_is =
    let read = token_read 126 t r d data_is in
    ap (converted (λ ms. of_members ms old)) (members_more (value 126) n k ts s r read.tree some key (ap (value 126) first ∙ read.value))
    ∙ put_member k read.tree d old read.data_is _

pub no_member_more : (old : Members) (n : ℕ) (ts r : List Token) → length ts ≤ n → read_key ts ≡ Some (None, r)
    → converted (λ ms. of_members ms old) (members (value 126) n ts) ≡ Some (old, r)
no_member_more old n ts r enough e = ap (converted (λ ms. of_members ms old)) (members_end (value 126) n ts r enough e)

-- ---- the whole text

both : (x : Option Members) (r : List Token) (ms : Members) → option_map {U = Members × List Token} (λ (m : Members). (m, r)) x ≡ Some (ms, []) → (x ≡ Some ms) × (r ≡ [])
both None r ms e = none_some (ms, []) _ e
both (Some m) r ms e = (ap (option_map (λ (p : Members × List Token). p.0)) e, same_some r [] (ap (option_map (λ (p : Members × List Token). p.1)) e))

whole_object : (o : Option (tree.Members × List Token)) (ms : Members) → converted (λ js. of_members js no_members) o ≡ Some (ms, [])
    → option_and_then of_json (option_and_then (λ p. if_last p.0 p.1) (parse_map tree.object o)) ≡ Some (object ms)
whole_object None ms e = none_some (ms, []) _ e
whole_object (Some p) ms e =
    let parts = both (of_members p.0 no_members) p.1 ms e in
    ap (λ (r : List Token). option_and_then of_json (if_last (tree.object p.0) r)) parts.1 ∙ ap (option_map object) parts.0

pub object_read : (text : List ℕ) (ts : List Token) (g : GatheredMembers) → tokens text ≡ json.begin_object ∷ ts
    → converted (λ ms. of_members ms no_members) (members (value 126) (length ts) ts) ≡ Some (members_in g, []) → read text ≡ Some (object (members_in g))
object_read text ts g first rest =
    ap (λ (o : Option (tree.Json × List Token)). option_and_then of_json (option_and_then (λ p. if_last p.0 p.1) o)) (ap (value 127) first ∙ value-begin_object 127 ts (omega arith))
    ∙ whole_object (members (value 126) (length ts) ts) (members_in g) rest

pub named_move : (g : GatheredMembers) (name : List ℕ) → IsCounted g → Some name ≡ text_at (codes "move") (object (members_in g))
    → move_named g.count (object (members_in g)) name ≡ move_from (object (members_in g))
unfolding move_from IsCounted
named_move g name counted is =
    ap (λ (n : ℕ). move_named n (object (members_in g)) name) counted
    ∙ ap (option_and_then (move_named _ (object (members_in g)))) is

pub nameless : (g : GatheredMembers) → None ≡ text_at (codes "move") (object (members_in g)) → None ≡ move_from (object (members_in g))
unfolding move_from
nameless g is = ap (option_and_then (move_named _ (object (members_in g)))) is

pub object_move : (text : List ℕ) (g : GatheredMembers) (o : Option Move) → IsUtf8 text → read text ≡ Some (object (members_in g)) → o ≡ move_from (object (members_in g)) → IfSome o (IsMove text)
object_move text g None valid read_is e = tt
object_move text g (Some m) valid read_is e =
    let takes = move_takes (object (members_in g)) m (in_order g) (sym e) in
    written_move text m valid (read_is ∙ ap (λ (d : Data). Some d) takes.0) takes.1
