-- Members that are read as a move are those of that move: one shape after another.
use Rattle.std.proofs.Common.{◌≡◌, ℕ, ◌^◌, ◌<◌, List, Some, None, option_map, option_and_then, true, ◌&&◌, ◌==◌, if◌then◌else◌, ℤ, refl, sym, ap, ◌∙◌, subst, codes}
use Rattle.std.specs.Str.{bytes_eq}
use Rattle.std.proofs.lemmas.Bool.{and_parts, eqb-true}
use Rattle.serde_json.specs.Data.{string, object, Members}
use Rattle.serde_json.specs.Find.{get_member}
use Rattle.lock_word.specs.declared.ThreadId.{ThreadId}
use Rattle.lock_word.specs.declared.ObjectId.{ObjectId}
use Rattle.fat_monitor.specs.declared.actions.Reply.TheVariants as reply
use Rattle.fast_path.specs.declared.calls.Call.{Call as CallData}
use Rattle.fast_path.specs.declared.calls.Call.TheVariants as call
use Rattle.step_core.specs.declared.machine.Move.{Move}
use Rattle.step_core.specs.declared.machine.Move.TheVariants as move
use Rattle.fat_monitor.specs.Names.{cause_name}
use Rattle.history_moves.specs.Moves.{data_of, members_of_move, of_number, of_signed, plain_members, bare_members, object_members, target_members, wait_members, reply_members, refused_members, notify_members, refuse_members, Fits}
use Rattle.history_moves.specs.Members.{count, AreInOrder, text_at, signed_at, small_signed, millis_at, nanos_at, thread_number, object_at, chosen_at}
use Rattle.history_moves.specs.Words.{among, plain_moves, object_calls, target_calls, bare_calls, short_replies, plain_from}
use Rattle.history_moves.specs.Reading.{object_call, target_call, wait_call, is_targeted, call_of, call_from, reply_from, cause_at, refused_from, notify_from, refuse_from, three_from, thread_move}
use Rattle.history_moves.proofs.Found.{mapped, bound, by_cond, none_some, same_word, text_is, thread_is, object_is, signed_in, small_is, chosen_is}
use Rattle.history_moves.proofs.WordRows.{among_has, PlainRow, plain_rows, ObjectRow, object_rows, TargetRow, target_rows, BareRow, bare_rows, ReplyRow, reply_rows, cause_is}
use Rattle.history_moves.proofs.MemberLaws.{AllFound, same_members}

abbrev pub Holds : Members → Move → Type 0
Holds ms m = (object ms ≡ data_of m) × Fits m

pub done : (ms shape : Members) (m : Move) → members_of_move m ≡ shape → AreInOrder ms → AreInOrder shape → count ms ≡ count shape → AllFound shape ms → Fits m → Holds ms m
done ms shape m e order own many found fits = (ap object (same_members ms shape order own many found ∙ sym e), fits)

pub named : (ms : Members) (key v w : List ℕ) → get_member key ms ≡ Some (string v) → v ≡ w → get_member key ms ≡ Some (string w)
named ms key v w e same = e ∙ ap (λ (l : List ℕ). Some (string l)) same

-- what is known of the members where a move of a thread is read
pub record Seen (ms : Members) (n : ℕ) (name : List ℕ) (t : ThreadId) : Type 0 where
  pub order : AreInOrder ms
  pub many : count ms ≡ n
  pub name_is : get_member (codes "move") ms ≡ Some (string name)
  pub thread_is : get_member (codes "thread") ms ≡ Some (of_number t.0)
  pub small : t.0 < 2 ^ 32

plain_holds : (ms : Members) (name : List ℕ) (t : ThreadId) (m : Move) → Seen ms 2 name t → plain_from name t ≡ Some m → Holds ms m
plain_holds ms name t m seen e =
    let made = mapped (λ (made : ThreadId → Move). made t) (among plain_moves name) m e in
    let row = among_has PlainRow plain_moves name made.0 plain_rows made.1 t in
    subst (Holds ms) made.2 (done ms (plain_members name t) (made.0 t) row.0 seen.order ((refl, tt), (tt, tt)) seen.many (seen.name_is, (seen.thread_is, tt)) (row.1 seen.small))

bare_holds : (ms : Members) (verb : List ℕ) (t : ThreadId) (c : CallData) → Seen ms 3 (codes "Call") t → get_member (codes "call") ms ≡ Some (string verb) → among bare_calls verb ≡ Some c → Holds ms (move.Call t c)
bare_holds ms verb t c seen at e =
    let row = among_has BareRow bare_calls verb c bare_rows e t in
    done ms (bare_members verb t) (move.Call t c) row.0 seen.order ((refl, (refl, tt)), ((refl, tt), (tt, tt))) seen.many (at, (seen.name_is, (seen.thread_is, tt))) (seen.small, row.1)

object_holds : (ms : Members) (verb : List ℕ) (t : ThreadId) (c : CallData) → Seen ms 4 (codes "Call") t → get_member (codes "call") ms ≡ Some (string verb) → object_call (object ms) verb ≡ Some c → Holds ms (move.Call t c)
object_holds ms verb t c seen at e =
    let o = bound (λ o. option_map (λ (made : ObjectId → CallData). made o) (among object_calls verb)) (object_at (object ms)) c e in
    let made = mapped (λ (made : ObjectId → CallData). made o.0) (among object_calls verb) c o.2 in
    let p = object_is ms o.0 o.1 in
    let row = among_has ObjectRow object_calls verb made.0 object_rows made.1 o.0 t in
    subst (λ (c : CallData). Holds ms (move.Call t c)) made.2
    (done ms (object_members verb o.0 t) (move.Call t (made.0 o.0)) row.0 seen.order ((refl, (refl, (refl, tt))), ((refl, (refl, tt)), ((refl, tt), (tt, tt)))) seen.many (at, (seen.name_is, (p.0, (seen.thread_is, tt)))) (seen.small, row.1 p.1))

target_holds : (ms : Members) (verb : List ℕ) (t : ThreadId) (c : CallData) → Seen ms 4 (codes "Call") t → get_member (codes "call") ms ≡ Some (string verb) → target_call (object ms) verb ≡ Some c → Holds ms (move.Call t c)
target_holds ms verb t c seen at e =
    let u = bound (λ u. option_map (λ (made : ThreadId → CallData). made u) (among target_calls verb)) (thread_number (codes "target") (object ms)) c e in
    let made = mapped (λ (made : ThreadId → CallData). made u.0) (among target_calls verb) c u.2 in
    let p = thread_is (codes "target") ms u.0 u.1 in
    let row = among_has TargetRow target_calls verb made.0 target_rows made.1 u.0 t in
    subst (λ (c : CallData). Holds ms (move.Call t c)) made.2
    (done ms (target_members verb u.0 t) (move.Call t (made.0 u.0)) row.0 seen.order ((refl, (refl, (refl, tt))), ((refl, (refl, tt)), ((refl, tt), (tt, tt)))) seen.many (at, (seen.name_is, (p.0, (seen.thread_is, tt)))) (seen.small, row.1 p.1))

wait_holds : (ms : Members) (t : ThreadId) (c : CallData) → Seen ms 6 (codes "Call") t → get_member (codes "call") ms ≡ Some (string (codes "Wait")) → wait_call (object ms) ≡ Some c → Holds ms (move.Call t c)
wait_holds ms t c seen at e =
    let o = bound (λ o. option_and_then (λ m. option_map (λ n. call.Wait o m n) (nanos_at (object ms))) (millis_at (object ms))) (object_at (object ms)) c e in
    let m = bound (λ m. option_map (λ n. call.Wait o.0 m n) (nanos_at (object ms))) (millis_at (object ms)) c o.2 in
    let n = mapped (λ n. call.Wait o.0 m.0 n) (nanos_at (object ms)) c m.2 in
    let z = bound small_signed (signed_at (codes "nanos") (object ms)) n.0 n.1 in
    let p = object_is ms o.0 o.1 in
    let q = signed_in (get_member (codes "millis") ms) m.0 m.1 in
    let r = signed_in (get_member (codes "nanos") ms) z.0 z.1 in
    let s = small_is z.0 n.0 z.2 in
    subst (λ (c : CallData). Holds ms (move.Call t c)) n.2
    (done ms (wait_members o.0 m.0 n.0 t) (move.Call t (call.Wait o.0 m.0 n.0)) refl seen.order
    ((refl, (refl, (refl, (refl, (refl, tt))))), ((refl, (refl, (refl, (refl, tt)))), ((refl, (refl, (refl, tt))), ((refl, (refl, tt)), ((refl, tt), (tt, tt)))))) seen.many
    (at, (q.0, (seen.name_is, (r.0 ∙ ap (λ (z : ℤ). Some (of_signed z)) s.0, (p.0, (seen.thread_is, tt)))))) (seen.small, (p.1, q.1, s.1)))

with_count : (ms : Members) (name : List ℕ) (t : ThreadId) (n k : ℕ) → Seen ms n name t → (n == k) ≡ true → Seen ms k name t
with_count ms name t n k seen is = subst (λ (k : ℕ). Seen ms k name t) (eqb-true n k is) seen

with_name : (ms : Members) (v w : List ℕ) (t : ThreadId) (n : ℕ) → Seen ms n v t → bytes_eq v w ≡ true → Seen ms n w t
with_name ms v w t n seen is = subst (λ (l : List ℕ). Seen ms n l t) (same_word v w is) seen

call_of_holds : (ms : Members) (verb : List ℕ) (t : ThreadId) (n : ℕ) (c : CallData) → Seen ms n (codes "Call") t → get_member (codes "call") ms ≡ Some (string verb) → call_of n (object ms) verb ≡ Some c → Holds ms (move.Call t c)
call_of_holds ms verb t n c seen at e =
    by_cond (n == 3) _ _ _ _ e (λ is s. bare_holds ms verb t c (with_count ms (codes "Call") t n 3 seen is) at s)
    (λ _ four. by_cond (n == 4 && is_targeted verb) _ _ _ _ four (λ is s. target_holds ms verb t c (with_count ms (codes "Call") t n 4 seen (and_parts (n == 4) _ is).0) at s)
    (λ _ more. by_cond (n == 4) _ _ _ _ more (λ is s. object_holds ms verb t c (with_count ms (codes "Call") t n 4 seen is) at s)
    (λ _ six. by_cond (n == 6 && bytes_eq verb (codes "Wait")) _ _ _ _ six
    (λ is s. let p = and_parts (n == 6) _ is in wait_holds ms t c (with_count ms (codes "Call") t n 6 seen p.0) (named ms (codes "call") verb (codes "Wait") at (same_word verb (codes "Wait") p.1)) s)
    (λ _ none. none_some c _ none))))

call_holds : (ms : Members) (n : ℕ) (t : ThreadId) (m : Move) → Seen ms n (codes "Call") t → call_from n (object ms) t ≡ Some m → Holds ms m
call_holds ms n t m seen e =
    let verb = bound (λ verb. option_map (λ c. move.Call t c) (call_of n (object ms) verb)) (text_at (codes "call") (object ms)) m e in
    let c = mapped (λ c. move.Call t c) (call_of n (object ms) verb.0) m verb.2 in
    subst (Holds ms) c.2 (call_of_holds ms verb.0 t n c.0 seen (text_is (get_member (codes "call") ms) verb.0 verb.1) c.1)

reply_holds : (ms : Members) (t : ThreadId) (m : Move) → Seen ms 3 (codes "Return") t → reply_from (object ms) t ≡ Some m → Holds ms m
reply_holds ms t m seen e =
    let word = bound (λ word. option_map (λ r. move.Return t r) (among short_replies word)) (text_at (codes "reply") (object ms)) m e in
    let r = mapped (λ r. move.Return t r) (among short_replies word.0) m word.2 in
    subst (Holds ms) r.2
    (done ms (reply_members word.0 t) (move.Return t r.0) (among_has ReplyRow short_replies word.0 r.0 reply_rows r.1 t) seen.order ((refl, (refl, tt)), ((refl, tt), (tt, tt))) seen.many
    (seen.name_is, (text_is (get_member (codes "reply") ms) word.0 word.1, (seen.thread_is, tt))) seen.small)

refused_holds : (ms : Members) (t : ThreadId) (m : Move) → Seen ms 4 (codes "Return") t → refused_from (object ms) t ≡ Some m → Holds ms m
refused_holds ms t m seen e =
    let word = bound (λ word. if bytes_eq word (codes "Refused") then option_map (λ c. move.Return t (reply.Refused c)) (cause_at (object ms)) else None) (text_at (codes "reply") (object ms)) m e in
    by_cond (bytes_eq word.0 (codes "Refused")) _ _ _ _ word.2
    (λ is s. let c = mapped (λ c. move.Return t (reply.Refused c)) (cause_at (object ms)) m s in
    subst (Holds ms) c.2
    (done ms (refused_members (cause_name c.0) t) (move.Return t (reply.Refused c.0)) refl seen.order ((refl, (refl, (refl, tt))), ((refl, (refl, tt)), ((refl, tt), (tt, tt)))) seen.many
    (cause_is ms c.0 c.1, (seen.name_is, (named ms (codes "reply") word.0 (codes "Refused") (text_is (get_member (codes "reply") ms) word.0 word.1) (same_word word.0 (codes "Refused") is), (seen.thread_is, tt)))) seen.small))
    (λ _ none. none_some m _ none)

notify_holds : (ms : Members) (t : ThreadId) (m : Move) → Seen ms 3 (codes "Notify") t → notify_from (object ms) t ≡ Some m → Holds ms m
notify_holds ms t m seen e =
    let u = mapped (λ u. move.Notify t u) (chosen_at (object ms)) m e in
    let p = chosen_is ms u.0 u.1 in
    subst (Holds ms) u.2
    (done ms (notify_members u.0 t) (move.Notify t u.0) refl seen.order ((refl, (refl, tt)), ((refl, tt), (tt, tt))) seen.many (p.0, (seen.name_is, (seen.thread_is, tt))) (seen.small, p.1))

refuse_holds : (ms : Members) (t : ThreadId) (m : Move) → Seen ms 3 (codes "Refuse") t → refuse_from (object ms) t ≡ Some m → Holds ms m
refuse_holds ms t m seen e =
    let c = mapped (λ c. move.Refuse t c) (cause_at (object ms)) m e in
    subst (Holds ms) c.2
    (done ms (refuse_members (cause_name c.0) t) (move.Refuse t c.0) refl seen.order ((refl, (refl, tt)), ((refl, tt), (tt, tt))) seen.many (cause_is ms c.0 c.1, (seen.name_is, (seen.thread_is, tt))) seen.small)

three_holds : (ms : Members) (name : List ℕ) (t : ThreadId) (m : Move) → Seen ms 3 name t → three_from (object ms) name t ≡ Some m → Holds ms m
three_holds ms name t m seen e =
    by_cond (bytes_eq name (codes "Return")) _ _ _ _ e (λ is s. reply_holds ms t m (with_name ms name (codes "Return") t 3 seen is) s)
    (λ _ notes. by_cond (bytes_eq name (codes "Notify")) _ _ _ _ notes (λ is s. notify_holds ms t m (with_name ms name (codes "Notify") t 3 seen is) s)
    (λ _ last. by_cond (bytes_eq name (codes "Refuse")) _ _ _ _ last (λ is s. refuse_holds ms t m (with_name ms name (codes "Refuse") t 3 seen is) s)
    (λ _ none. none_some m _ none)))

pub thread_holds : (ms : Members) (n : ℕ) (name : List ℕ) (t : ThreadId) (m : Move) → Seen ms n name t → thread_move n (object ms) name t ≡ Some m → Holds ms m
thread_holds ms n name t m seen e =
    by_cond (n == 2) _ _ _ _ e (λ is s. plain_holds ms name t m (with_count ms name t n 2 seen is) s)
    (λ _ calls. by_cond (bytes_eq name (codes "Call")) _ _ _ _ calls (λ is s. call_holds ms n t m (with_name ms name (codes "Call") t n seen is) s)
    (λ _ three. by_cond (n == 3) _ _ _ _ three (λ is s. three_holds ms name t m (with_count ms name t n 3 seen is) s)
    (λ _ four. by_cond (n == 4 && bytes_eq name (codes "Return")) _ _ _ _ four (λ is s. refused_holds ms t m (at 4 (codes "Return") is) s)
    (λ _ none. none_some m _ none))))
  where
    at : (k : ℕ) (w : List ℕ) → (n == k && bytes_eq name w) ≡ true → Seen ms k w t
    at k w is = let p = and_parts (n == k) _ is in with_name ms name w t k (with_count ms name t n k seen p.0) p.1
