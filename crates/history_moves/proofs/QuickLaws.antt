-- The pieces of a line, put together, are the one text of the move that was read from them.
use Rattle.std.proofs.Common.{◌≡◌, ℕ, ◌<◌, ◌^◌, List, ◌∷◌, ◌++◌, Option, Some, None, IfSome, option_map, ℤ, pos, negsuc, refl, sym, ap, ◌∙◌, subst, codes, decimal}
use Rattle.std.specs.Fmt.{signed_decimal}
use Rattle.serde_json.specs.Written.{compact_text}
use Rattle.serde_json.proofs.OnLiterals.{serde_json_on_literals}
use Rattle.lock_word.specs.declared.ThreadId.{ThreadId}
use Rattle.lock_word.specs.declared.ObjectId.{ObjectId}
use Rattle.fat_monitor.specs.declared.actions.Cause.{Cause}
use Rattle.fat_monitor.specs.declared.actions.Reply.{Reply}
use Rattle.fat_monitor.specs.declared.actions.Reply.TheVariants as reply
use Rattle.fast_path.specs.declared.calls.Call.{Call as CallData}
use Rattle.fast_path.specs.declared.calls.Call.TheVariants as call
use Rattle.step_core.specs.declared.machine.Move.{Move}
use Rattle.step_core.specs.declared.machine.Move.TheVariants as move
use Rattle.history_moves.specs.Moves.{data_of, Fits, FitsLong, FitsInt}
use Rattle.history_moves.specs.Words.{among, plain_moves, object_calls, target_calls, bare_calls, short_replies, causes, plain_from}
use Rattle.history_moves.specs.Texts.{thread_text, IsLong, IsQuick, Reads}
use Rattle.history_moves.proofs.Found.{mapped}
use Rattle.history_moves.proofs.Fronts.{wait_is}
use Rattle.history_moves.proofs.WordRows.{AllRows, among_has, PlainRow, plain_rows}

-- ---- the text of each kind of move, by its word

abbrev PlainText : List ℕ → (ThreadId → Move) → Type 0
PlainText name made = (t : ThreadId) → (compact_text (data_of (made t)) ≡ codes "{\"move\":\"" ++ (name ++ 34 ∷ thread_text t)) × IsQuick (made t)

plain_texts : AllRows PlainText plain_moves
unfolding serde_json_on_literals
plain_texts = ((λ t. (refl, tt)), ((λ t. (refl, tt)), ((λ t. (refl, tt)), ((λ t. (refl, tt)), ((λ t. (refl, tt)), ((λ t. (refl, tt)), ((λ t. (refl, tt)), ((λ t. (refl, tt)), ((λ t. (refl, tt)), ((λ t. (refl, tt)), ((λ t. (refl, tt)), ((λ t. (refl, tt)), ((λ t. (refl, tt)), ((λ t. (refl, tt)), ((λ t. (refl, tt)), tt)))))))))))))))

pub plain_reads : (rest name after : List ℕ) (t : ThreadId) (m : Move) → rest ≡ name ++ 34 ∷ after → after ≡ thread_text t → t.0 < 2 ^ 32 → plain_from name t ≡ Some m → Reads (codes "{\"move\":\"" ++ rest) m
plain_reads rest name after t m e f small found =
    let made = mapped (λ (made : ThreadId → Move). made t) (among plain_moves name) m found in
    let text = among_has PlainText plain_moves name made.0 plain_texts made.1 t in
    let row = among_has PlainRow plain_moves name made.0 plain_rows made.1 t in
    subst (Reads (codes "{\"move\":\"" ++ rest)) made.2 (record {
      text = ap (λ (l : List ℕ). codes "{\"move\":\"" ++ l) (e ∙ ap (λ (l : List ℕ). name ++ 34 ∷ l) f) ∙ sym text.0;
      fits = row.1 small;
      quick = text.1;
    })

pub plain_found : (rest name after : List ℕ) (t : ThreadId) (o : Option Move) → rest ≡ name ++ 34 ∷ after → after ≡ thread_text t → t.0 < 2 ^ 32 → o ≡ plain_from name t → IfSome o (Reads (codes "{\"move\":\"" ++ rest))
plain_found rest name after t None e f small found = tt
plain_found rest name after t (Some m) e f small found = plain_reads rest name after t m e f small (sym found)

abbrev ReplyText : List ℕ → Reply → Type 0
ReplyText word r = (t : ThreadId) → compact_text (data_of (move.Return t r)) ≡ codes "{\"move\":\"Return\",\"reply\":\"" ++ (word ++ 34 ∷ thread_text t)

reply_texts : AllRows ReplyText short_replies
unfolding serde_json_on_literals
reply_texts = ((λ t. refl), ((λ t. refl), ((λ t. refl), ((λ t. refl), ((λ t. refl), ((λ t. refl), ((λ t. refl), ((λ t. refl), ((λ t. refl), ((λ t. refl), ((λ t. refl), tt)))))))))))

pub return_reads : (rest word after : List ℕ) (t : ThreadId) (r : Reply) → rest ≡ codes ",\"reply\":\"" ++ (word ++ 34 ∷ after) → after ≡ thread_text t → t.0 < 2 ^ 32 → among short_replies word ≡ Some r → Reads (codes "{\"move\":\"Return\"" ++ rest) (move.Return t r)
return_reads rest word after t r e f small found = record {
  text = ap (λ (l : List ℕ). codes "{\"move\":\"Return\"" ++ l) (e ∙ ap (λ (l : List ℕ). codes ",\"reply\":\"" ++ (word ++ 34 ∷ l)) f) ∙ sym (among_has ReplyText short_replies word r reply_texts found t);
  fits = small;
  quick = tt;
}

pub time_reads : (rest after : List ℕ) (now : ℕ) → rest ≡ codes ",\"now\":" ++ (decimal now ++ after) → after ≡ codes "}" → now < 2 ^ 64 → Reads (codes "{\"move\":\"Time\"" ++ rest) (move.Time now)
unfolding serde_json_on_literals
time_reads rest after now e f small = record {
  text = ap (λ (l : List ℕ). codes "{\"move\":\"Time\"" ++ l) (e ∙ ap (λ (l : List ℕ). codes ",\"now\":" ++ (decimal now ++ l)) f);
  fits = tt;
  quick = small;
}

-- ---- calls

abbrev ObjectText : List ℕ → (ObjectId → CallData) → Type 0
ObjectText verb made = (o : ObjectId) (t : ThreadId) → (compact_text (data_of (move.Call t (made o))) ≡ codes "{\"call\":\"" ++ (verb ++ (codes "\",\"move\":\"Call\",\"object\":" ++ (decimal o.0 ++ thread_text t)))) × (t.0 < 2 ^ 32 → o.0 < 2 ^ 32 → Fits (move.Call t (made o))) × IsQuick (move.Call t (made o))

object_texts : AllRows ObjectText object_calls
unfolding serde_json_on_literals
object_texts = ((λ o t. (refl, λ h k. (h, k), tt)), ((λ o t. (refl, λ h k. (h, k), tt)), ((λ o t. (refl, λ h k. (h, k), tt)), ((λ o t. (refl, λ h k. (h, k), tt)), ((λ o t. (refl, λ h k. (h, k), tt)), tt)))))

pub object_call_reads : (rest verb after : List ℕ) (o : ObjectId) (t : ThreadId) (c : CallData) → rest ≡ codes ",\"object\":" ++ (decimal o.0 ++ after) → after ≡ thread_text t → o.0 < 2 ^ 32 → t.0 < 2 ^ 32 → option_map (λ made. made o) (among object_calls verb) ≡ Some c → Reads (codes "{\"call\":\"" ++ (verb ++ (codes "\",\"move\":\"Call\"" ++ rest))) (move.Call t c)
object_call_reads rest verb after o t c e f small small_thread found =
    let made = mapped (λ (made : ObjectId → CallData). made o) (among object_calls verb) c found in
    let row = among_has ObjectText object_calls verb made.0 object_texts made.1 o t in
    subst (λ (c : CallData). Reads (codes "{\"call\":\"" ++ (verb ++ (codes "\",\"move\":\"Call\"" ++ rest))) (move.Call t c)) made.2 (record {
      text = ap (λ (l : List ℕ). codes "{\"call\":\"" ++ (verb ++ (codes "\",\"move\":\"Call\"" ++ l))) (e ∙ ap (λ (l : List ℕ). codes ",\"object\":" ++ (decimal o.0 ++ l)) f) ∙ sym row.0;
      fits = row.1 small_thread small;
      quick = row.2;
    })

abbrev TargetText : List ℕ → (ThreadId → CallData) → Type 0
TargetText verb made = (u t : ThreadId) → (compact_text (data_of (move.Call t (made u))) ≡ codes "{\"call\":\"" ++ (verb ++ (codes "\",\"move\":\"Call\",\"target\":" ++ (decimal u.0 ++ thread_text t)))) × (t.0 < 2 ^ 32 → u.0 < 2 ^ 32 → Fits (move.Call t (made u))) × IsQuick (move.Call t (made u))

target_texts : AllRows TargetText target_calls
unfolding serde_json_on_literals
target_texts = ((λ u t. (refl, λ h k. (h, k), tt)), ((λ u t. (refl, λ h k. (h, k), tt)), tt))

pub target_call_reads : (rest verb after : List ℕ) (u t : ThreadId) (c : CallData) → rest ≡ codes ",\"target\":" ++ (decimal u.0 ++ after) → after ≡ thread_text t → u.0 < 2 ^ 32 → t.0 < 2 ^ 32 → option_map (λ made. made u) (among target_calls verb) ≡ Some c → Reads (codes "{\"call\":\"" ++ (verb ++ (codes "\",\"move\":\"Call\"" ++ rest))) (move.Call t c)
target_call_reads rest verb after u t c e f small small_thread found =
    let made = mapped (λ (made : ThreadId → CallData). made u) (among target_calls verb) c found in
    let row = among_has TargetText target_calls verb made.0 target_texts made.1 u t in
    subst (λ (c : CallData). Reads (codes "{\"call\":\"" ++ (verb ++ (codes "\",\"move\":\"Call\"" ++ rest))) (move.Call t c)) made.2 (record {
      text = ap (λ (l : List ℕ). codes "{\"call\":\"" ++ (verb ++ (codes "\",\"move\":\"Call\"" ++ l))) (e ∙ ap (λ (l : List ℕ). codes ",\"target\":" ++ (decimal u.0 ++ l)) f) ∙ sym row.0;
      fits = row.1 small_thread small;
      quick = row.2;
    })

abbrev BareText : List ℕ → CallData → Type 0
BareText verb c = (t : ThreadId) → (compact_text (data_of (move.Call t c)) ≡ codes "{\"call\":\"" ++ (verb ++ (codes "\",\"move\":\"Call\"" ++ thread_text t))) × (t.0 < 2 ^ 32 → Fits (move.Call t c)) × IsQuick (move.Call t c)

bare_texts : AllRows BareText bare_calls
unfolding serde_json_on_literals
bare_texts = ((λ t. (refl, λ h. (h, tt), tt)), ((λ t. (refl, λ h. (h, tt), tt)), tt))

pub bare_call_reads : (rest verb : List ℕ) (t : ThreadId) (c : CallData) → rest ≡ thread_text t → t.0 < 2 ^ 32 → among bare_calls verb ≡ Some c → Reads (codes "{\"call\":\"" ++ (verb ++ (codes "\",\"move\":\"Call\"" ++ rest))) (move.Call t c)
bare_call_reads rest verb t c f small found =
    let row = among_has BareText bare_calls verb c bare_texts found t in
    record {
      text = ap (λ (l : List ℕ). codes "{\"call\":\"" ++ (verb ++ (codes "\",\"move\":\"Call\"" ++ l))) f ∙ sym row.0;
      fits = row.1 small;
      quick = row.2;
    }

fits_long : (z : ℤ) → IsLong z → FitsLong z
fits_long (pos n) h = h
fits_long (negsuc n) h = tt

pub wait_reads : (rest r s after : List ℕ) (millis nanos : ℤ) (o : ObjectId) (t : ThreadId)
    → rest ≡ codes ",\"millis\":" ++ (signed_decimal millis ++ r)
    → r ≡ codes ",\"move\":\"Call\",\"nanos\":" ++ (signed_decimal nanos ++ s)
    → s ≡ codes ",\"object\":" ++ (decimal o.0 ++ after)
    → after ≡ thread_text t → IsLong millis → FitsInt nanos → o.0 < 2 ^ 32 → t.0 < 2 ^ 32
    → Reads (codes "{\"call\":\"Wait\"" ++ rest) (move.Call t (call.Wait o millis nanos))
wait_reads rest r s after millis nanos o t e f g h long int small small_thread = record {
  text = ap (λ (l : List ℕ). codes "{\"call\":\"Wait\"" ++ l)
      (e ∙ ap (λ (l : List ℕ). codes ",\"millis\":" ++ (signed_decimal millis ++ l))
      (f ∙ ap (λ (l : List ℕ). codes ",\"move\":\"Call\",\"nanos\":" ++ (signed_decimal nanos ++ l))
      (g ∙ ap (λ (l : List ℕ). codes ",\"object\":" ++ (decimal o.0 ++ l)) h)))
      ∙ sym (wait_is o millis nanos t);
  fits = (small_thread, (small, fits_long millis long, int));
  quick = long;
}

-- ---- notifies

pub notify_none_reads : (rest after : List ℕ) (t : ThreadId) → rest ≡ codes "null,\"move\":\"Notify\"" ++ after → after ≡ thread_text t → t.0 < 2 ^ 32 → Reads (codes "{\"chosen\":" ++ rest) (move.Notify t None)
unfolding serde_json_on_literals
notify_none_reads rest after t e f small = record {
  text = ap (λ (l : List ℕ). codes "{\"chosen\":" ++ l) (e ∙ ap (λ (l : List ℕ). codes "null,\"move\":\"Notify\"" ++ l) f);
  fits = (small, tt);
  quick = tt;
}

pub notify_some_reads : (rest after end : List ℕ) (u t : ThreadId) → rest ≡ decimal u.0 ++ after → after ≡ codes ",\"move\":\"Notify\"" ++ end → end ≡ thread_text t → u.0 < 2 ^ 32 → t.0 < 2 ^ 32 → Reads (codes "{\"chosen\":" ++ rest) (move.Notify t (Some u))
unfolding serde_json_on_literals
notify_some_reads rest after end u t e f g small small_thread = record {
  text = ap (λ (l : List ℕ). codes "{\"chosen\":" ++ l) (e ∙ ap (λ (l : List ℕ). decimal u.0 ++ l) (f ∙ ap (λ (l : List ℕ). codes ",\"move\":\"Notify\"" ++ l) g));
  fits = (small_thread, small);
  quick = tt;
}

-- ---- causes

abbrev CauseText : List ℕ → Cause → Type 0
CauseText word c = (t : ThreadId) → (compact_text (data_of (move.Refuse t c)) ≡ codes "{\"cause\":\"" ++ (word ++ (34 ∷ codes ",\"move\":\"Refuse\"" ++ thread_text t))) × (compact_text (data_of (move.Return t (reply.Refused c))) ≡ codes "{\"cause\":\"" ++ (word ++ (34 ∷ codes ",\"move\":\"Return\",\"reply\":\"Refused\"" ++ thread_text t)))

cause_texts : AllRows CauseText causes
unfolding serde_json_on_literals
cause_texts = ((λ t. (refl, refl)), ((λ t. (refl, refl)), ((λ t. (refl, refl)), ((λ t. (refl, refl)), ((λ t. (refl, refl)), tt)))))

pub refuse_reads : (rest word after end : List ℕ) (c : Cause) (t : ThreadId) → rest ≡ word ++ 34 ∷ after → after ≡ codes ",\"move\":\"Refuse\"" ++ end → end ≡ thread_text t → t.0 < 2 ^ 32 → among causes word ≡ Some c → Reads (codes "{\"cause\":\"" ++ rest) (move.Refuse t c)
refuse_reads rest word after end c t e f g small found = record {
  text = ap (λ (l : List ℕ). codes "{\"cause\":\"" ++ l) (e ∙ ap (λ (l : List ℕ). word ++ 34 ∷ l) (f ∙ ap (λ (l : List ℕ). codes ",\"move\":\"Refuse\"" ++ l) g)) ∙ sym (among_has CauseText causes word c cause_texts found t).0;
  fits = small;
  quick = tt;
}

pub refused_reads : (rest word after end : List ℕ) (c : Cause) (t : ThreadId) → rest ≡ word ++ 34 ∷ after → after ≡ codes ",\"move\":\"Return\",\"reply\":\"Refused\"" ++ end → end ≡ thread_text t → t.0 < 2 ^ 32 → among causes word ≡ Some c → Reads (codes "{\"cause\":\"" ++ rest) (move.Return t (reply.Refused c))
refused_reads rest word after end c t e f g small found = record {
  text = ap (λ (l : List ℕ). codes "{\"cause\":\"" ++ l) (e ∙ ap (λ (l : List ℕ). word ++ 34 ∷ l) (f ∙ ap (λ (l : List ℕ). codes ",\"move\":\"Return\",\"reply\":\"Refused\"" ++ l) g)) ∙ sym (among_has CauseText causes word c cause_texts found t).1;
  fits = small;
  quick = tt;
}
