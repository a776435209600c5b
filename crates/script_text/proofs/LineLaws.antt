-- A line is read exactly where the bytes are its text.
use Rattle.std.proofs.Common.{◌≡◌, ℕ, ◌+◌, ◌*◌, ◌/◌, ◌%◌, ◌^◌, ◌<◌, List, [], ◌∷◌, length, true, ◌&&◌, nat_le, nat_lt, Option, None, Some, option_map, option_and_then, refl, sym, ap, ◌∙◌, subst, arith, codes, decimal}
use Rattle.std.specs.List.{join_with_byte, list_all}
use Rattle.std.specs.Prelude.{ℤ}
use Rattle.std.specs.Fmt.{signed_decimal}
use Rattle.std.specs.Str.{IsUtf8, IsAscii, bytes_eq}
use Rattle.std.proofs.lemmas.Bool.{and_parts, leb-true, le-leb, ltb-true}
use Rattle.std.proofs.lemmas.Bool.Decides.{nat_tests}
use Rattle.std.proofs.lemmas.Option.{cond_some, same_Some}
use Rattle.std.proofs.lemmas.List.Splits.{join_with_byte-slice_split}
use Rattle.std.proofs.lemmas.Str.{IsUtf8-from_ascii}
use Rattle.std.proofs.lemmas.Str.Ascii.{IsAscii-nil, IsAscii-cons}
use Rattle.lock_word.specs.declared.Split.{Split}
use Rattle.lock_word.specs.declared.Split.TheVariants.{Wide, Deep}
use Rattle.lock_word.specs.Layout.{greatest_index}
use Rattle.script_text.specs.declared.lines.Line.{Line}
use Rattle.script_text.specs.declared.lines.Line.TheVariants.{World, Object, Step}
use Rattle.script_text.specs.declared.lines.StepLine.{StepLine}
use Rattle.script_text.specs.declared.lines.StepLine.TheVariants.{Attach, Begin, Go, Expire, Spurious, Tick, Relayout}
use Rattle.script_text.specs.declared.lines.Call.{Call}
use Rattle.script_text.specs.declared.lines.Call.TheVariants.{Enter, Exit, Wait, Notify, NotifyAll, Holds, Interrupt, Interrupted, IsInterrupted, End}
use Rattle.lock_word.specs.Names.{hex_digit}
use Rattle.script_text.specs.Words.{IsBelow, is_name, name_from, number_from, signed_from, nanos_from, hex_from, low_text, low_from}
use Rattle.script_text.specs.Lines.{line_at, line_from, split_name, split_from, step_of_thread, step_of_two, line_of_three, line_of_four, world_from, world_of, split_words, wait_from, call_alone, call_naming, call_timed, call_with, begin_from, words_of, line_words, step_words, call_words, line_text, Fits, StepFits, CallFits}
use Rattle.script_text.proofs.Choices.{by_cond, bound, mapped, none_some, some_same, same_word}
use Rattle.script_text.proofs.Numerals.{number_takes, number_again}
use Rattle.script_text.proofs.Signed.{signed_takes, signed_again, signed_plain, nanos_takes, nanos_again, nanos_plain}
use Rattle.script_text.proofs.Plain.{ArePlain, is_line_byte, name_plain, decimal_plain, low_plain, split_join, joined_printable}

pub line_at_text : (bytes : List ℕ) → line_at bytes ≡ line_from (words_of bytes)
unfolding line_at
line_at_text bytes = refl

-- ---- what is read is so

name_takes : (word name : List ℕ) → name_from word ≡ Some name → (is_name name ≡ true) × (word ≡ name)
name_takes word name e =
    let parts = cond_some (is_name word) word name e in
    (subst (λ (w : List ℕ). is_name w ≡ true) parts.1 parts.0, parts.1)

hex_takes : (c d : ℕ) → hex_from c ≡ Some d → (d < 16) × (c ≡ hex_digit d)
hex_takes c d e = grind (arith, nat_tests)

low_said : (a b high low n : ℕ) → high < 16 → low < 16 → high * 16 + low ≡ n → a ≡ hex_digit high → b ≡ hex_digit low → (n < 256) × ((a ∷ b ∷ []) ≡ low_text n)
low_said a b high low n p q whole first second =
    let up : n / 16 ≡ high = omega (arith, p, q, whole) in
    let down : n % 16 ≡ low = omega (arith, p, q, whole) in
    (omega (arith, p, q, whole), rw (up, down, first, second) refl)

low_takes : (word : List ℕ) (n : ℕ) → low_from word ≡ Some n → (n < 256) × (word ≡ low_text n)
low_takes [] n e = absurd (cc)
low_takes (a ∷ []) n e = absurd (cc)
low_takes (a ∷ b ∷ []) n e =
    let high = bound _ (hex_from a) n e in
    let low = mapped _ (hex_from b) n high.2 in
    let p = hex_takes a high.0 high.1 in
    let q = hex_takes b low.0 low.1 in
    low_said a b high.0 low.0 n p.0 q.0 low.2 p.1 q.1
low_takes (a ∷ b ∷ c ∷ more) n e = absurd (cc)

-- the word is a verb, which stands alone or before a name
verb_is : (v verb : List ℕ) → bytes_eq v verb ≡ true → (v ∷ []) ≡ verb ∷ []
verb_is v verb is = ap (λ (w : List ℕ). w ∷ []) (same_word v verb is)

verb_before : (v verb name : List ℕ) → bytes_eq v verb ≡ true → (v ∷ name ∷ []) ≡ verb ∷ name ∷ []
verb_before v verb name is = ap (λ (w : List ℕ). w ∷ name ∷ []) (same_word v verb is)

-- a step of one thread
step_said : (ws : List (List ℕ)) (made s : StepLine) → StepFits made → ws ≡ step_words made → Some made ≡ Some s → StepFits s × (ws ≡ step_words s)
step_said ws made s fits spelled e = subst (λ (s : StepLine). StepFits s × (ws ≡ step_words s)) (some_same made s e) (fits, spelled)

thread_takes : (v n : List ℕ) (s : StepLine) → is_name n ≡ true → step_of_thread v n ≡ Some s → StepFits s × ((v ∷ n ∷ []) ≡ step_words s)
thread_takes v n s right e =
    by_cond (bytes_eq v (codes "attach")) _ _ _ _ e (λ is m. step_said (v ∷ n ∷ []) (Attach n) s right (verb_before v _ n is) m)
    (λ _ e. by_cond (bytes_eq v (codes "go")) _ _ _ _ e (λ is m. step_said (v ∷ n ∷ []) (Go n) s right (verb_before v _ n is) m)
    (λ _ e. by_cond (bytes_eq v (codes "expire")) _ _ _ _ e (λ is m. step_said (v ∷ n ∷ []) (Expire n) s right (verb_before v _ n is) m)
    (λ _ e. by_cond (bytes_eq v (codes "spurious")) _ _ _ _ e (λ is m. step_said (v ∷ n ∷ []) (Spurious n) s right (verb_before v _ n is) m)
    (λ _ none. none_some s _ none))))

tick_said : (v word : List ℕ) (n : ℕ) → v ≡ codes "tick" → word ≡ decimal n → n < 2 ^ 64 → StepFits (Tick n) × ((v ∷ word ∷ []) ≡ step_words (Tick n))
tick_said v word n verb spelled small = (small, rw (verb, spelled) refl)

tick_takes : (v word : List ℕ) (s : StepLine) → v ≡ codes "tick" → option_map Tick (number_from word) ≡ Some s → StepFits s × ((v ∷ word ∷ []) ≡ step_words s)
tick_takes v word s verb e =
    let made = mapped Tick (number_from word) s e in
    let number = number_takes word made.0 made.1 in
    subst (λ (s : StepLine). StepFits s × ((v ∷ word ∷ []) ≡ step_words s)) made.2 (tick_said v word made.0 verb number.0 number.1)

split_said : (word : List ℕ) (made split : Split) → word ≡ split_name made → Some made ≡ Some split → word ≡ split_name split
split_said word made split is e = subst (λ (s : Split). word ≡ split_name s) (same_Some made split e) is

split_takes : (word : List ℕ) (split : Split) → split_from word ≡ Some split → word ≡ split_name split
split_takes word split e =
    by_cond (bytes_eq word (codes "wide")) _ _ _ _ e (λ is m. split_said word Wide split (same_word word _ is) m)
    (λ _ e. by_cond (bytes_eq word (codes "deep")) _ _ _ _ e (λ is m. split_said word Deep split (same_word word _ is) m) (λ _ none. none_split split none))
  where
    none_split : (s : Split) → ◌≡◌ {A = Option Split} None (Some s) → word ≡ split_name split
    none_split s e = absurd (cc)

relayout_said : (v word : List ℕ) (split : Split) → v ≡ codes "relayout" → word ≡ split_name split → StepFits (Relayout split) × ((v ∷ word ∷ []) ≡ step_words (Relayout split))
relayout_said v word split verb spelled = (tt, rw (verb, spelled) refl)

relayout_takes : (v word : List ℕ) (s : StepLine) → v ≡ codes "relayout" → option_map Relayout (split_from word) ≡ Some s → StepFits s × ((v ∷ word ∷ []) ≡ step_words s)
relayout_takes v word s verb e =
    let made = mapped Relayout (split_from word) s e in
    subst (λ (s : StepLine). StepFits s × ((v ∷ word ∷ []) ≡ step_words s)) made.2 (relayout_said v word made.0 verb (split_takes word made.0 made.1))

two_takes : (v word : List ℕ) (s : StepLine) → step_of_two v word ≡ Some s → StepFits s × ((v ∷ word ∷ []) ≡ step_words s)
two_takes v word s e =
    by_cond (bytes_eq v (codes "tick")) _ _ _ _ e (λ is m. tick_takes v word s (same_word v _ is) m)
    (λ _ e. by_cond (bytes_eq v (codes "relayout")) _ _ _ _ e (λ is m. relayout_takes v word s (same_word v _ is) m)
    (λ _ e. let name = bound (step_of_thread v) (name_from word) s e in
    let p = name_takes word name.0 name.1 in
    let q = thread_takes v name.0 s p.0 name.2 in
    (q.0, ap (λ (w : List ℕ). v ∷ w ∷ []) p.1 ∙ q.1)))

-- a line that is a step
step_line_takes : (ws : List (List ℕ)) (o : Option StepLine) (l : Line) → ((s : StepLine) → o ≡ Some s → StepFits s × (ws ≡ step_words s)) → option_map Step o ≡ Some l → Fits l × (ws ≡ line_words l)
step_line_takes ws o l takes e =
    let made = mapped Step o l e in
    subst (λ (l : Line). Fits l × (ws ≡ line_words l)) made.2 (takes made.0 made.1)

world_said : (split : Split) (v a b : List ℕ) (more : List (List ℕ)) (m k : ℕ) → v ≡ codes "world" → a ≡ decimal m → b ≡ decimal k → more ≡ split_words split
    → (nat_le m 8388608 && nat_le 1 k && nat_le k (greatest_index split)) ≡ true → Fits (World m k split) × ((v ∷ a ∷ b ∷ more) ≡ line_words (World m k split))
world_said split v a b more m k verb first second last tests =
    let upper = and_parts (nat_le m 8388608 && nat_le 1 k) _ tests in
    let lower = and_parts (nat_le m 8388608) _ upper.0 in
    ((leb-true m 8388608 lower.0, leb-true 1 k lower.1, leb-true k (greatest_index split) upper.1), rw (verb, first, second, last) refl)

world_takes : (split : Split) (v a b : List ℕ) (more : List (List ℕ)) (l : Line) → v ≡ codes "world" → more ≡ split_words split → world_of split a b ≡ Some l
    → Fits l × ((v ∷ a ∷ b ∷ more) ≡ line_words l)
world_takes split v a b more l verb last e =
    let m = bound _ (number_from a) l e in
    let k = bound (world_from split m.0) (number_from b) l m.2 in
    let t = cond_some (nat_le m.0 8388608 && nat_le 1 k.0 && nat_le k.0 (greatest_index split)) (World m.0 k.0 split) l k.2 in
    subst (λ (l : Line). Fits l × ((v ∷ a ∷ b ∷ more) ≡ line_words l)) t.1 (world_said split v a b more m.0 k.0 verb (number_takes a m.0 m.1).0 (number_takes b k.0 k.1).0 last t.0)

object_said : (v a b n : List ℕ) (low : ℕ) → v ≡ codes "object" → a ≡ n → is_name n ≡ true → b ≡ low_text low → low < 256 → Fits (Object n low) × ((v ∷ a ∷ b ∷ []) ≡ line_words (Object n low))
object_said v a b n low verb first is second small = ((is, small), rw (verb, first, second) refl)

object_takes : (v a b : List ℕ) (l : Line) → v ≡ codes "object" → option_and_then (λ name. option_map (Object name) (low_from b)) (name_from a) ≡ Some l
    → Fits l × ((v ∷ a ∷ b ∷ []) ≡ line_words l)
object_takes v a b l verb e =
    let n = bound _ (name_from a) l e in
    let low = mapped (Object n.0) (low_from b) l n.2 in
    let p = name_takes a n.0 n.1 in
    let q = low_takes b low.0 low.1 in
    subst (λ (l : Line). Fits l × ((v ∷ a ∷ b ∷ []) ≡ line_words l)) low.2 (object_said v a b n.0 low.0 verb p.1 p.0 q.1 q.0)

-- ---- calls

call_said : (ws : List (List ℕ)) (made call : Call) → CallFits made → ws ≡ call_words made → Some made ≡ Some call → CallFits call × (ws ≡ call_words call)
call_said ws made call fits spelled e = subst (λ (c : Call). CallFits c × (ws ≡ call_words c)) (some_same made call e) (fits, spelled)

alone_takes : (v : List ℕ) (call : Call) → call_alone v ≡ Some call → CallFits call × ((v ∷ []) ≡ call_words call)
alone_takes v call e =
    by_cond (bytes_eq v (codes "interrupted")) _ _ _ _ e (λ is m. call_said (v ∷ []) Interrupted call tt (verb_is v _ is) m)
    (λ _ e. by_cond (bytes_eq v (codes "end")) _ _ _ _ e (λ is m. call_said (v ∷ []) End call tt (verb_is v _ is) m) (λ _ none. none_some call _ none))

with_takes : (v n : List ℕ) (call : Call) → is_name n ≡ true → call_with v n ≡ Some call → CallFits call × ((v ∷ n ∷ []) ≡ call_words call)
with_takes v n call right e =
    by_cond (bytes_eq v (codes "enter")) _ _ _ _ e (λ is m. call_said (v ∷ n ∷ []) (Enter n) call right (verb_before v _ n is) m)
    (λ _ e. by_cond (bytes_eq v (codes "exit")) _ _ _ _ e (λ is m. call_said (v ∷ n ∷ []) (Exit n) call right (verb_before v _ n is) m)
    (λ _ e. by_cond (bytes_eq v (codes "notify")) _ _ _ _ e (λ is m. call_said (v ∷ n ∷ []) (Notify n) call right (verb_before v _ n is) m)
    (λ _ e. by_cond (bytes_eq v (codes "notifyall")) _ _ _ _ e (λ is m. call_said (v ∷ n ∷ []) (NotifyAll n) call right (verb_before v _ n is) m)
    (λ _ e. by_cond (bytes_eq v (codes "holds")) _ _ _ _ e (λ is m. call_said (v ∷ n ∷ []) (Holds n) call right (verb_before v _ n is) m)
    (λ _ e. by_cond (bytes_eq v (codes "interrupt")) _ _ _ _ e (λ is m. call_said (v ∷ n ∷ []) (Interrupt n) call right (verb_before v _ n is) m)
    (λ _ e. by_cond (bytes_eq v (codes "isinterrupted")) _ _ _ _ e (λ is m. call_said (v ∷ n ∷ []) (IsInterrupted n) call right (verb_before v _ n is) m)
    (λ _ none. none_some call _ none)))))))

naming_takes : (v word : List ℕ) (call : Call) → call_naming v word ≡ Some call → CallFits call × ((v ∷ word ∷ []) ≡ call_words call)
naming_takes v word call e =
    let name = bound (call_with v) (name_from word) call e in
    let p = name_takes word name.0 name.1 in
    let q = with_takes v name.0 call p.0 name.2 in
    (q.0, ap (λ (w : List ℕ). v ∷ w ∷ []) p.1 ∙ q.1)

wait_said : (v o m n name : List ℕ) (millis nanos : ℤ) → v ≡ codes "wait" → is_name name ≡ true → o ≡ name → (m ≡ signed_decimal millis) × IsBelow (2 ^ 63) millis
    → (n ≡ signed_decimal nanos) × IsBelow (2 ^ 31) nanos → CallFits (Wait name millis nanos) × ((v ∷ o ∷ m ∷ n ∷ []) ≡ call_words (Wait name millis nanos))
wait_said v o m n name millis nanos verb is same first second = ((is, first.1, second.1), rw (verb, same, first.0, second.0) refl)

wait_takes : (v o m n : List ℕ) (call : Call) → v ≡ codes "wait" → wait_from o m n ≡ Some call → CallFits call × ((v ∷ o ∷ m ∷ n ∷ []) ≡ call_words call)
wait_takes v o m n call verb e =
    let name = bound _ (name_from o) call e in
    let millis = bound _ (signed_from m) call name.2 in
    let nanos = mapped (Wait name.0 millis.0) (nanos_from n) call millis.2 in
    let p = name_takes o name.0 name.1 in
    subst (λ (c : Call). CallFits c × ((v ∷ o ∷ m ∷ n ∷ []) ≡ call_words c)) nanos.2
    (wait_said v o m n name.0 millis.0 nanos.0 verb p.0 p.1 (signed_takes m millis.0 millis.1) (nanos_takes n nanos.0 nanos.1))

timed_takes : (v o m n : List ℕ) (call : Call) → call_timed v o m n ≡ Some call → CallFits call × ((v ∷ o ∷ m ∷ n ∷ []) ≡ call_words call)
timed_takes v o m n call e = by_cond (bytes_eq v (codes "wait")) _ _ _ _ e (λ is m'. wait_takes v o m n call (same_word v _ is) m') (λ _ none. none_some call _ none)

-- a begin, whatever its call is made of
begin_said : (v a thread : List ℕ) (ws : List (List ℕ)) (call : Call) → v ≡ codes "begin" → is_name thread ≡ true → a ≡ thread → CallFits call × (ws ≡ call_words call)
    → StepFits (Begin thread call) × ((v ∷ a ∷ ws) ≡ step_words (Begin thread call))
begin_said v a thread ws call verb is same right = ((is, right.0), rw (verb, same, right.1) refl)

begin_takes : (v a : List ℕ) (ws : List (List ℕ)) (o : Option Call) (s : StepLine) → ((call : Call) → o ≡ Some call → CallFits call × (ws ≡ call_words call))
    → begin_from v a o ≡ Some s → StepFits s × ((v ∷ a ∷ ws) ≡ step_words s)
begin_takes v a ws o s takes e =
    by_cond (bytes_eq v (codes "begin")) _ _ _ _ e
    (λ is m. let thread = bound _ (name_from a) s m in
    let call = mapped (Begin thread.0) o s thread.2 in
    let p = name_takes a thread.0 thread.1 in
    subst (λ (s : StepLine). StepFits s × ((v ∷ a ∷ ws) ≡ step_words s)) call.2 (begin_said v a thread.0 ws call.0 (same_word v _ is) p.0 p.1 (takes call.0 call.1)))
    (λ _ none. none_some s _ none)

begin_line_takes : (v a : List ℕ) (ws : List (List ℕ)) (o : Option Call) (l : Line) → ((call : Call) → o ≡ Some call → CallFits call × (ws ≡ call_words call))
    → option_map Step (begin_from v a o) ≡ Some l → Fits l × ((v ∷ a ∷ ws) ≡ line_words l)
begin_line_takes v a ws o l takes e = step_line_takes (v ∷ a ∷ ws) (begin_from v a o) l (λ s. begin_takes v a ws o s takes) e

-- ---- lines

three_takes : (v a b : List ℕ) (l : Line) → line_of_three v a b ≡ Some l → Fits l × ((v ∷ a ∷ b ∷ []) ≡ line_words l)
three_takes v a b l e =
    by_cond (bytes_eq v (codes "world")) _ _ _ _ e (λ is m. world_takes Wide v a b [] l (same_word v _ is) refl m)
    (λ _ e. by_cond (bytes_eq v (codes "object")) _ _ _ _ e (λ is m. object_takes v a b l (same_word v _ is) m) (λ _ e. begin_line_takes v a (b ∷ []) (call_alone b) l (alone_takes b) e))

four_takes : (v a b c : List ℕ) (l : Line) → line_of_four v a b c ≡ Some l → Fits l × ((v ∷ a ∷ b ∷ c ∷ []) ≡ line_words l)
four_takes v a b c l e =
    by_cond (bytes_eq v (codes "world")) _ _ _ _ e
    (λ is m. by_cond (bytes_eq c (codes "deep")) _ _ _ _ m
    (λ deep m. world_takes Deep v a b (c ∷ []) l (same_word v _ is) (ap (λ (w : List ℕ). w ∷ []) (same_word c _ deep)) m) (λ _ none. none_some l _ none))
    (λ _ e. begin_line_takes v a (b ∷ c ∷ []) (call_naming b c) l (naming_takes b c) e)

words_take : (ws : List (List ℕ)) (l : Line) → line_from ws ≡ Some l → Fits l × (ws ≡ line_words l)
words_take [] l e = none_some l _ e
words_take (v ∷ []) l e = none_some l _ e
words_take (v ∷ a ∷ []) l e = step_line_takes (v ∷ a ∷ []) (step_of_two v a) l (two_takes v a) e
words_take (v ∷ a ∷ b ∷ []) l e = three_takes v a b l e
words_take (v ∷ a ∷ b ∷ c ∷ []) l e = four_takes v a b c l e
words_take (v ∷ a ∷ b ∷ c ∷ d ∷ []) l e = none_some l _ e
words_take (v ∷ a ∷ b ∷ c ∷ d ∷ f ∷ []) l e = begin_line_takes v a (b ∷ c ∷ d ∷ f ∷ []) (call_timed b c d f) l (timed_takes b c d f) e
words_take (v ∷ a ∷ b ∷ c ∷ d ∷ f ∷ g ∷ more) l e = none_some l _ e

pub line_takes : (bytes : List ℕ) (l : Line) → line_at bytes ≡ Some l → Fits l × (bytes ≡ line_text l)
line_takes bytes l e =
    let p = words_take (words_of bytes) l (sym (line_at_text bytes) ∙ e) in
    (p.0, sym (join_with_byte-slice_split 32 bytes) ∙ ap (join_with_byte 32) p.1)

pub few_words : (ws : List (List ℕ)) → length ws < 2 → line_from ws ≡ None
few_words [] h = refl
few_words (v ∷ []) h = refl
few_words (v ∷ w ∷ ws) h = absurd (omega arith)

pub five_words : (ws : List (List ℕ)) → length ws ≡ 5 → line_from ws ≡ None
five_words [] h = refl
five_words (v ∷ []) h = refl
five_words (v ∷ a ∷ []) h = absurd (omega arith)
five_words (v ∷ a ∷ b ∷ []) h = absurd (omega arith)
five_words (v ∷ a ∷ b ∷ c ∷ []) h = absurd (omega arith)
five_words (v ∷ a ∷ b ∷ c ∷ d ∷ []) h = refl
five_words (v ∷ a ∷ b ∷ c ∷ d ∷ f ∷ more) h = absurd (omega arith)

pub many_words : (ws : List (List ℕ)) → 6 < length ws → line_from ws ≡ None
many_words [] h = refl
many_words (v ∷ []) h = refl
many_words (v ∷ a ∷ []) h = absurd (omega arith)
many_words (v ∷ a ∷ b ∷ []) h = absurd (omega arith)
many_words (v ∷ a ∷ b ∷ c ∷ []) h = absurd (omega arith)
many_words (v ∷ a ∷ b ∷ c ∷ d ∷ []) h = refl
many_words (v ∷ a ∷ b ∷ c ∷ d ∷ f ∷ []) h = absurd (omega arith)
many_words (v ∷ a ∷ b ∷ c ∷ d ∷ f ∷ g ∷ more) h = refl

-- ---- what is written so is read

hex_again : (d : ℕ) → d < 16 → hex_from (hex_digit d) ≡ Some d
hex_again d small = grind (arith, nat_tests)

low_again : (n : ℕ) → n < 256 → low_from (low_text n) ≡ Some n
low_again n small =
    let first : n / 16 < 16 = omega arith in
    let second : n % 16 < 16 = omega arith in
    let whole : n / 16 * 16 + n % 16 ≡ n = omega arith in
    rw (hex_again (n / 16) first, hex_again (n % 16) second, whole) refl

words_again : (l : Line) → Fits l → line_from (line_words l) ≡ Some l
words_again (World m k Wide) fits =
    let one : m < 2 ^ 64 = omega (arith, fits.0) in
    let two : k < 2 ^ 64 = omega (arith, fits.2) in
    rw (number_again m one, number_again k two, le-leb m 8388608 fits.0, le-leb 1 k fits.1, le-leb k 32767 fits.2) refl
words_again (World m k Deep) fits =
    let one : m < 2 ^ 64 = omega (arith, fits.0) in
    let two : k < 2 ^ 64 = omega (arith, fits.2) in
    rw (number_again m one, number_again k two, le-leb m 8388608 fits.0, le-leb 1 k fits.1, le-leb k 2047 fits.2) refl
words_again (Object name low) fits = rw (fits.0, low_again low fits.1) refl
words_again (Step (Attach t)) fits = rw fits refl
words_again (Step (Begin t (Enter o))) fits = rw (fits.0, fits.1) refl
words_again (Step (Begin t (Exit o))) fits = rw (fits.0, fits.1) refl
words_again (Step (Begin t (Wait o millis nanos))) fits = rw (fits.0, fits.1.0, signed_again millis fits.1.1, nanos_again nanos fits.1.2) refl
words_again (Step (Begin t (Notify o))) fits = rw (fits.0, fits.1) refl
words_again (Step (Begin t (NotifyAll o))) fits = rw (fits.0, fits.1) refl
words_again (Step (Begin t (Holds o))) fits = rw (fits.0, fits.1) refl
words_again (Step (Begin t (Interrupt u))) fits = rw (fits.0, fits.1) refl
words_again (Step (Begin t Interrupted)) fits = rw fits.0 refl
words_again (Step (Begin t (IsInterrupted u))) fits = rw (fits.0, fits.1) refl
words_again (Step (Begin t End)) fits = rw fits.0 refl
words_again (Step (Go t)) fits = rw fits refl
words_again (Step (Expire t)) fits = rw fits refl
words_again (Step (Spurious t)) fits = rw fits refl
words_again (Step (Tick now)) fits = rw (number_again now fits) refl
words_again (Step (Relayout Wide)) fits = refl
words_again (Step (Relayout Deep)) fits = refl

call_plain : (call : Call) → CallFits call → ArePlain (call_words call)
call_plain (Enter o) fits = (refl, (name_plain o fits, tt))
call_plain (Exit o) fits = (refl, (name_plain o fits, tt))
call_plain (Wait o millis nanos) fits = (refl, (name_plain o fits.0, (signed_plain millis fits.1, (nanos_plain nanos fits.2, tt))))
call_plain (Notify o) fits = (refl, (name_plain o fits, tt))
call_plain (NotifyAll o) fits = (refl, (name_plain o fits, tt))
call_plain (Holds o) fits = (refl, (name_plain o fits, tt))
call_plain (Interrupt u) fits = (refl, (name_plain u fits, tt))
call_plain Interrupted fits = (refl, tt)
call_plain (IsInterrupted u) fits = (refl, (name_plain u fits, tt))
call_plain End fits = (refl, tt)

pub words_plain : (l : Line) → Fits l → (0 < length (line_words l)) × ArePlain (line_words l)
words_plain (World m k Wide) fits = (omega arith, (refl, (decimal_plain m (omega (arith, fits.0)), (decimal_plain k (omega (arith, fits.2)), tt))))
words_plain (World m k Deep) fits = (omega arith, (refl, (decimal_plain m (omega (arith, fits.0)), (decimal_plain k (omega (arith, fits.2)), (refl, tt)))))
words_plain (Object name low) fits = (omega arith, (refl, (name_plain name fits.0, (low_plain low fits.1, tt))))
words_plain (Step (Attach t)) fits = (omega arith, (refl, (name_plain t fits, tt)))
words_plain (Step (Begin t call)) fits = (omega arith, (refl, (name_plain t fits.0, call_plain call fits.1)))
words_plain (Step (Go t)) fits = (omega arith, (refl, (name_plain t fits, tt)))
words_plain (Step (Expire t)) fits = (omega arith, (refl, (name_plain t fits, tt)))
words_plain (Step (Spurious t)) fits = (omega arith, (refl, (name_plain t fits, tt)))
words_plain (Step (Tick now)) fits = (omega arith, (refl, (decimal_plain now fits, tt)))
words_plain (Step (Relayout Wide)) fits = (omega arith, (refl, (refl, tt)))
words_plain (Step (Relayout Deep)) fits = (omega arith, (refl, (refl, tt)))

pub line_again : (l : Line) → Fits l → line_at (line_text l) ≡ Some l
line_again l fits =
    let plain = words_plain l fits in
    line_at_text (line_text l) ∙ ap line_from (split_join (line_words l) plain.0 plain.1) ∙ words_again l fits

pub line_printable : (l : Line) → Fits l → list_all is_line_byte (line_text l) ≡ true
line_printable l fits = joined_printable (line_words l) (words_plain l fits).1

-- ---- what is no text is no line

ascii : (bs : List ℕ) → list_all is_line_byte bs ≡ true → IsAscii bs
ascii [] h = IsAscii-nil
ascii (b ∷ bs) h =
    let parts = and_parts (is_line_byte b) _ h in
    IsAscii-cons b bs (omega (arith, ltb-true b 127 (and_parts (nat_lt 31 b) (nat_lt b 127) parts.0).1)) (ascii bs parts.1)

none_by : (bytes : List ℕ) → (IsUtf8 bytes → ⊥) → (o : Option Line) → line_at bytes ≡ o → o ≡ None
none_by bytes never None e = refl
none_by bytes never (Some l) e =
    let p = line_takes bytes l e in
    absurd (never (subst IsUtf8 (sym p.1) (IsUtf8-from_ascii _ (ascii _ (line_printable l p.0)))))

pub not_text : (bytes : List ℕ) → (IsUtf8 bytes → ⊥) → line_at bytes ≡ None
not_text bytes never = none_by bytes never (line_at bytes) refl
