-- What the rows of words tell of moves, calls, replies and causes.
use Rattle.std.proofs.Common.{◌≡◌, ℕ, ◌^◌, ◌<◌, List, [], ◌∷◌, Some, refl, sym, ap, ◌∙◌, subst, codes}
use Rattle.std.specs.Str.{bytes_eq}
use Rattle.serde_json.specs.Data.{string, object, Members}
use Rattle.serde_json.specs.Find.{get_member}
use Rattle.lock_word.specs.declared.ThreadId.{ThreadId}
use Rattle.lock_word.specs.declared.ObjectId.{ObjectId}
use Rattle.fat_monitor.specs.declared.actions.Cause.{Cause}
use Rattle.fat_monitor.specs.declared.actions.Reply.{Reply}
use Rattle.fast_path.specs.declared.calls.Call.{Call as CallData}
use Rattle.step_core.specs.declared.machine.Move.{Move}
use Rattle.step_core.specs.declared.machine.Move.TheVariants as move
use Rattle.fat_monitor.specs.Names.{cause_name}
use Rattle.history_moves.specs.Moves.{members_of_move, plain_members, bare_members, object_members, target_members, reply_members, call_members, Fits, CallFits}
use Rattle.history_moves.specs.Members.{text_at}
use Rattle.history_moves.specs.Words.{Row, among, plain_moves, object_calls, target_calls, bare_calls, short_replies, causes}
use Rattle.history_moves.specs.Reading.{cause_at}
use Rattle.history_moves.proofs.Found.{bound, by_cond, none_some, same_some, same_word, text_is}

abbrev pub AllRows : {A : Type 0} → (List ℕ → A → Type 0) → List (Row A) → Type 0
AllRows P [] = Unit {0}
AllRows P (p ∷ ps) = P p.name p.made × AllRows P ps

pub among_has : {A : Type 0} (P : List ℕ → A → Type 0) (rows : List (Row A)) (name : List ℕ) (x : A) → AllRows P rows → among rows name ≡ Some x → P name x
among_has P [] name x all e = none_some x _ e
among_has {A} P (p ∷ ps) name x all e =
    by_cond (bytes_eq name p.name) _ _ _ _ e
    (λ is s. subst (λ (n : List ℕ). P n x) (sym (same_word name p.name is)) (subst (λ (y : A). P p.name y) (same_some p.made x s) all.0))
    (λ _ rest. among_has P ps name x all.1 rest)

abbrev pub PlainRow : List ℕ → (ThreadId → Move) → Type 0
PlainRow name made = (t : ThreadId) → (members_of_move (made t) ≡ plain_members name t) × (t.0 < 2 ^ 32 → Fits (made t))

pub plain_rows : AllRows PlainRow plain_moves
plain_rows = ((λ t. (refl, λ h. h)), ((λ t. (refl, λ h. h)), ((λ t. (refl, λ h. h)), ((λ t. (refl, λ h. h)), ((λ t. (refl, λ h. h)), ((λ t. (refl, λ h. h)), ((λ t. (refl, λ h. h)), ((λ t. (refl, λ h. h)), ((λ t. (refl, λ h. h)), ((λ t. (refl, λ h. h)), ((λ t. (refl, λ h. h)), ((λ t. (refl, λ h. h)), ((λ t. (refl, λ h. h)), ((λ t. (refl, λ h. h)), ((λ t. (refl, λ h. h)), tt)))))))))))))))

abbrev pub ObjectRow : List ℕ → (ObjectId → CallData) → Type 0
ObjectRow verb made = (o : ObjectId) (t : ThreadId) → (call_members (made o) t ≡ object_members verb o t) × (o.0 < 2 ^ 32 → CallFits (made o))

pub object_rows : AllRows ObjectRow object_calls
object_rows = ((λ o t. (refl, λ h. h)), ((λ o t. (refl, λ h. h)), ((λ o t. (refl, λ h. h)), ((λ o t. (refl, λ h. h)), ((λ o t. (refl, λ h. h)), tt)))))

abbrev pub TargetRow : List ℕ → (ThreadId → CallData) → Type 0
TargetRow verb made = (u t : ThreadId) → (call_members (made u) t ≡ target_members verb u t) × (u.0 < 2 ^ 32 → CallFits (made u))

pub target_rows : AllRows TargetRow target_calls
target_rows = ((λ u t. (refl, λ h. h)), ((λ u t. (refl, λ h. h)), tt))

abbrev pub BareRow : List ℕ → CallData → Type 0
BareRow verb c = (t : ThreadId) → (call_members c t ≡ bare_members verb t) × CallFits c

pub bare_rows : AllRows BareRow bare_calls
bare_rows = ((λ t. (refl, tt)), ((λ t. (refl, tt)), tt))

abbrev pub ReplyRow : List ℕ → Reply → Type 0
ReplyRow word r = (t : ThreadId) → members_of_move (move.Return t r) ≡ reply_members word t

pub reply_rows : AllRows ReplyRow short_replies
reply_rows = ((λ t. refl), ((λ t. refl), ((λ t. refl), ((λ t. refl), ((λ t. refl), ((λ t. refl), ((λ t. refl), ((λ t. refl), ((λ t. refl), ((λ t. refl), ((λ t. refl), tt)))))))))))

abbrev pub CauseRow : List ℕ → Cause → Type 0
CauseRow word c = word ≡ cause_name c

pub cause_rows : AllRows CauseRow causes
cause_rows = (refl, (refl, (refl, (refl, (refl, tt)))))

pub cause_is : (ms : Members) (c : Cause) → cause_at (object ms) ≡ Some c → get_member (codes "cause") ms ≡ Some (string (cause_name c))
cause_is ms c e =
    let w = bound (among causes) (text_at (codes "cause") (object ms)) c e in
    text_is (get_member (codes "cause") ms) w.0 w.1 ∙ ap (λ (l : List ℕ). Some (string l)) (among_has CauseRow causes w.0 c cause_rows w.2)
