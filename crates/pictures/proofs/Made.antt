-- The calls and replies of a thread are those that it has among all.
use Rattle.std.proofs.Common.{◌≡◌, ℕ, ◌+◌, List, [], ◌∷◌, ◌++◌, Option, Some, refl, ap, ◌∙◌, append-nil}
use Rattle.std.proofs.lemmas.Grind.{flat_map-append}
use Rattle.lock_word.specs.declared.ThreadId.{ThreadId}
use Rattle.step_core.specs.declared.machine.Move.{Move}
use Rattle.step_core.specs.declared.machine.Move.TheVariants as move
use Rattle.pictures.specs.declared.columns.Column.{Column}
use Rattle.pictures.specs.Made.{call_made, calls_made, calls_made_in, own_call, own_calls, own_replies, own_reply, replies_made, replies_made_in, reply_made}
use Rattle.pictures.specs.Marks.{call_mark, call_marks, call_marks_in, reply_mark, reply_marks, reply_marks_in}

-- ---- calls

own_call_is : (t : ThreadId) (n : ℕ) (m : Option Move) → own_calls t (call_made n m) ≡ call_mark t n m
own_call_is t n (Some (move.Call u c)) = append-nil (own_call t (record { thread = u; mark = record { column = n; call = c } }))
own_call_is t n m = refl

own_calls_in : (t : ThreadId) (n : ℕ) (ms : List (Option Move)) → own_calls t (calls_made_in n ms) ≡ call_marks_in t n ms
own_calls_in t n [] = refl
own_calls_in t n (m ∷ ms) =
    flat_map-append (own_call t) (call_made n m) (calls_made_in n ms) ∙ ap (λ l. l ++ own_calls t (calls_made_in n ms)) (own_call_is t n m)
    ∙ ap (λ l. call_mark t n m ++ l) (own_calls_in t n ms)

pub own_calls_are : (t : ThreadId) (n : ℕ) (cs : List Column) → own_calls t (calls_made n cs) ≡ call_marks t n cs
own_calls_are t n [] = refl
own_calls_are t n (c ∷ cs) =
    flat_map-append (own_call t) (calls_made_in n c.moves) (calls_made (n + 1) cs) ∙ ap (λ l. l ++ own_calls t (calls_made (n + 1) cs)) (own_calls_in t n c.moves)
    ∙ ap (λ l. call_marks_in t n c.moves ++ l) (own_calls_are t (n + 1) cs)

-- ---- replies

own_reply_is : (t : ThreadId) (n : ℕ) (m : Option Move) → own_replies t (reply_made n m) ≡ reply_mark t n m
own_reply_is t n (Some (move.Return u r)) = append-nil (own_reply t (record { thread = u; mark = record { column = n; reply = r } }))
own_reply_is t n m = refl

own_replies_in : (t : ThreadId) (n : ℕ) (ms : List (Option Move)) → own_replies t (replies_made_in n ms) ≡ reply_marks_in t n ms
own_replies_in t n [] = refl
own_replies_in t n (m ∷ ms) =
    flat_map-append (own_reply t) (reply_made n m) (replies_made_in n ms) ∙ ap (λ l. l ++ own_replies t (replies_made_in n ms)) (own_reply_is t n m)
    ∙ ap (λ l. reply_mark t n m ++ l) (own_replies_in t n ms)

pub own_replies_are : (t : ThreadId) (n : ℕ) (cs : List Column) → own_replies t (replies_made n cs) ≡ reply_marks t n cs
own_replies_are t n [] = refl
own_replies_are t n (c ∷ cs) =
    flat_map-append (own_reply t) (replies_made_in n c.moves) (replies_made (n + 1) cs) ∙ ap (λ l. l ++ own_replies t (replies_made (n + 1) cs)) (own_replies_in t n c.moves)
    ∙ ap (λ l. reply_marks_in t n c.moves ++ l) (own_replies_are t (n + 1) cs)
