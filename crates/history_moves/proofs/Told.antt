-- The one text of a move is read as that move again.
use Rattle.std.proofs.Common.{subst, ◌≡◌, ℕ, ◌<◌, ◌≤◌, ◌^◌, List, [], Option, Some, None, IfSome, option_and_then, append-nil, ℤ, pos, negsuc, refl, sym, ap, ◌∙◌, arith, codes, ◌∷◌, ◌++◌, Bool, true, false, nat_lt, decimal}
use Rattle.std.specs.List.{list_all}
use Rattle.std.specs.Str.{IsUtf8, IsAscii}
use Rattle.std.specs.Fmt.{signed_decimal}
use Rattle.std.proofs.lemmas.Bool.{and_parts, ltb-true}
use Rattle.std.proofs.lemmas.Fmt.{IsAscii-decimal, IsAscii-signed}
use Rattle.std.proofs.lemmas.Str.{IsUtf8-append, IsUtf8-from_ascii}
use Rattle.std.proofs.lemmas.Str.Ascii.{IsAscii-nil, IsAscii-cons}
use Rattle.json.specs.Token.{Token}
use Rattle.json.specs.Lex.{tokens}
use Rattle.json.specs.Print.{escape, ArePrintable, IsNumber}
use Rattle.json.specs.Json as json
use Rattle.json.specs.Tree as tree
use Rattle.json.proofs.Printed.Trees.{value-json_tokens}
use Rattle.json.proofs.Printed.Tokens.{tokens-print}
use Rattle.json.proofs.Printed.Decimals.{IsNumber-decimal, IsNumber-signed_decimal}
use Rattle.serde_json.specs.Data.{Data, object, depth}
use Rattle.serde_json.specs.Read.{read, of_json, max_depth, number_of}
use Rattle.serde_json.specs.Written.{compact_text, number_text, outline, blank}
use Rattle.serde_json.specs.Find.{is_float}
use Rattle.serde_json.proofs.Numbers.{number_of-decimal, number_of-negative}
use Rattle.serde_json.proofs.OnLiterals.{serde_json_on_literals}
use Rattle.serde_json.proofs.Texts.{print-outline}
use Rattle.lock_word.specs.declared.ThreadId.{ThreadId}
use Rattle.lock_word.specs.declared.ObjectId.{ObjectId}
use Rattle.fat_monitor.specs.Names.{cause_name}
use Rattle.fat_monitor.specs.declared.actions.Cause.{Cause}
use Rattle.fat_monitor.specs.declared.actions.Cause.TheVariants as cause
use Rattle.fat_monitor.specs.declared.actions.Reply.TheVariants as reply
use Rattle.fast_path.specs.declared.calls.Call.TheVariants as call
use Rattle.step_core.specs.declared.machine.Move.{Move}
use Rattle.step_core.specs.declared.machine.Move.TheVariants as move
use Rattle.history_moves.specs.Moves.{data_of, num_of_signed, Fits, FitsInt, plain_members, bare_members, object_members, target_members, wait_members, reply_members, refused_members, notify_members, refuse_members, time_members}
use Rattle.history_moves.specs.Lines.{IsMove}
use Rattle.history_moves.specs.Texts.{IsLong, IsQuick, Reads}
use Rattle.history_moves.proofs.LineLaws.{written_move}

-- what makes the text of some data read as them
pub record Told (d : Data) : Type 0 where
  pub again : of_json (outline d) ≡ Some d
  pub same : blank (outline d) ≡ outline d
  pub shallow : tree.depth (outline d) ≤ depth d
  pub small : depth d ≤ max_depth
  pub printable : ArePrintable (tree.json_tokens (outline d))
  pub utf8 : IsUtf8 (compact_text d)

whole : Option (json.Json × List Token) → Option Data
whole o = option_and_then of_json (option_and_then (λ p. json.if_last p.0 p.1) o)

pub reads_back : (d : Data) → Told d → read (compact_text d) ≡ Some d
unfolding whole
reads_back d told =
    let text : tokens (compact_text d) ≡ tree.json_tokens (outline d) = ap tokens (sym (print-outline d)) ∙ tokens-print _ told.printable in
    let value = value-json_tokens (outline d) max_depth [] (omega (arith, told.shallow, told.small)) in
    ap whole (ap (json.value max_depth) (text ∙ sym (append-nil _)) ∙ value) ∙ told.again

-- ---- the text is ASCII

abbrev is_small : List ℕ → Bool
is_small = list_all (λ b. nat_lt b 128)

small_ascii : (bs : List ℕ) → is_small bs ≡ true → IsAscii bs
small_ascii [] h = IsAscii-nil
small_ascii (b ∷ bs) h =
    let parts = and_parts (nat_lt b 128) _ h in
    IsAscii-cons b bs (ltb-true b 128 parts.0) (small_ascii bs parts.1)

lit : (bs : List ℕ) → is_small bs ≡ true → IsUtf8 bs
lit bs h = IsUtf8-from_ascii bs (small_ascii bs h)

quoted_utf8 : (front word rest : List ℕ) → is_small front ≡ true → is_small (escape word) ≡ true → IsUtf8 rest → IsUtf8 (front ++ ((escape word ++ 34 ∷ []) ++ rest))
quoted_utf8 front word rest f w r =
    IsUtf8-append front _ (lit front f) (IsUtf8-append (escape word ++ 34 ∷ []) rest (IsUtf8-append (escape word) (34 ∷ []) (lit (escape word) w) (lit (34 ∷ []) refl)) r)

number_utf8 : (front : List ℕ) (n : ℕ) (rest : List ℕ) → is_small front ≡ true → n < 2 ^ 64 → IsUtf8 rest → IsUtf8 (front ++ (decimal n ++ rest))
number_utf8 front n rest f small r =
    IsUtf8-append front _ (lit front f) (IsUtf8-append (decimal n) rest (IsUtf8-from_ascii _ (IsAscii-decimal n small)) r)

last_utf8 : (front : List ℕ) (n : ℕ) → is_small front ≡ true → n < 2 ^ 64 → IsUtf8 (front ++ (decimal n ++ codes "}"))
last_utf8 front n f small = number_utf8 front n (codes "}") f small (lit (codes "}") refl)

wide : (n : ℕ) → n < 2 ^ 32 → n < 2 ^ 64
wide n h = omega (arith, h)

plain_told : (name : List ℕ) (t : ThreadId) → t.0 < 2 ^ 32 → is_small (escape name) ≡ true → Told (object (plain_members name t))
unfolding ArePrintable serde_json_on_literals
plain_told name t h0 w = record {
  again = rw (number_of-decimal t.0 (wide t.0 h0)) refl;
  same = rw (number_of-decimal t.0 (wide t.0 h0)) refl;
  shallow = omega arith;
  small = omega arith;
  printable = (tt, (tt, (tt, (tt, (IsNumber-decimal t.0 (wide t.0 h0), (tt, tt))))));
  utf8 = quoted_utf8 (codes "{\"move\":\"") name _ refl w (last_utf8 (codes ",\"thread\":") t.0 refl (wide t.0 h0));
}

bare_told : (verb : List ℕ) (t : ThreadId) → t.0 < 2 ^ 32 → is_small (escape verb) ≡ true → Told (object (bare_members verb t))
unfolding ArePrintable serde_json_on_literals
bare_told verb t h0 w = record {
  again = rw (number_of-decimal t.0 (wide t.0 h0)) refl;
  same = rw (number_of-decimal t.0 (wide t.0 h0)) refl;
  shallow = omega arith;
  small = omega arith;
  printable = (tt, (tt, (tt, (tt, (tt, (tt, (IsNumber-decimal t.0 (wide t.0 h0), (tt, tt))))))));
  utf8 = quoted_utf8 (codes "{\"call\":\"") verb _ refl w (last_utf8 (codes ",\"move\":\"Call\",\"thread\":") t.0 refl (wide t.0 h0));
}

object_told : (verb : List ℕ) (o : ObjectId) (t : ThreadId) → t.0 < 2 ^ 32 → o.0 < 2 ^ 32 → is_small (escape verb) ≡ true → Told (object (object_members verb o t))
unfolding ArePrintable serde_json_on_literals
object_told verb o t h0 h1 w = record {
  again = rw (number_of-decimal o.0 (wide o.0 h1), number_of-decimal t.0 (wide t.0 h0)) refl;
  same = rw (number_of-decimal o.0 (wide o.0 h1), number_of-decimal t.0 (wide t.0 h0)) refl;
  shallow = omega arith;
  small = omega arith;
  printable = (tt, (tt, (tt, (tt, (tt, (tt, (IsNumber-decimal o.0 (wide o.0 h1), (tt, (IsNumber-decimal t.0 (wide t.0 h0), (tt, tt))))))))));
  utf8 = quoted_utf8 (codes "{\"call\":\"") verb _ refl w (number_utf8 (codes ",\"move\":\"Call\",\"object\":") o.0 _ refl (wide o.0 h1) (last_utf8 (codes ",\"thread\":") t.0 refl (wide t.0 h0)));
}

target_told : (verb : List ℕ) (u : ThreadId) (t : ThreadId) → t.0 < 2 ^ 32 → u.0 < 2 ^ 32 → is_small (escape verb) ≡ true → Told (object (target_members verb u t))
unfolding ArePrintable serde_json_on_literals
target_told verb u t h0 h1 w = record {
  again = rw (number_of-decimal u.0 (wide u.0 h1), number_of-decimal t.0 (wide t.0 h0)) refl;
  same = rw (number_of-decimal u.0 (wide u.0 h1), number_of-decimal t.0 (wide t.0 h0)) refl;
  shallow = omega arith;
  small = omega arith;
  printable = (tt, (tt, (tt, (tt, (tt, (tt, (IsNumber-decimal u.0 (wide u.0 h1), (tt, (IsNumber-decimal t.0 (wide t.0 h0), (tt, tt))))))))));
  utf8 = quoted_utf8 (codes "{\"call\":\"") verb _ refl w (number_utf8 (codes ",\"move\":\"Call\",\"target\":") u.0 _ refl (wide u.0 h1) (last_utf8 (codes ",\"thread\":") t.0 refl (wide t.0 h0)));
}

-- ---- a number that may be negative

signed_again : (z : ℤ) → IsLong z → number_of (number_text (num_of_signed z)) ≡ Some (num_of_signed z)
signed_again (pos n) h = number_of-decimal n (omega (arith, h))
signed_again (negsuc n) h = number_of-negative n h

no_float : (z : ℤ) → is_float (num_of_signed z) ≡ false
no_float (pos n) = refl
no_float (negsuc n) = refl

signed_printable : (z : ℤ) → IsLong z → IsNumber (number_text (num_of_signed z))
signed_printable (pos n) h = IsNumber-decimal n (omega (arith, h))
signed_printable (negsuc n) h = IsNumber-signed_decimal (negsuc n) h

signed_utf8 : (front : List ℕ) (z : ℤ) (rest : List ℕ) → is_small front ≡ true → IsLong z → IsUtf8 rest → IsUtf8 (front ++ (number_text (num_of_signed z) ++ rest))
signed_utf8 front (pos n) rest f h r = number_utf8 front n rest f (omega (arith, h)) r
signed_utf8 front (negsuc n) rest f h r =
    IsUtf8-append front _ (lit front f) (IsUtf8-append (signed_decimal (negsuc n)) rest (IsUtf8-from_ascii _ (IsAscii-signed (negsuc n) h)) r)

int_long : (z : ℤ) → FitsInt z → IsLong z
int_long (pos n) h = omega (arith, h)
int_long (negsuc n) h = omega (arith, h)

wait_told : (o : ObjectId) (m : ℤ) (n : ℤ) (t : ThreadId) → t.0 < 2 ^ 32 → o.0 < 2 ^ 32 → IsLong m → IsLong n → Told (object (wait_members o m n t))
unfolding ArePrintable serde_json_on_literals
wait_told o m n t h0 h1 h2 h3 = record {
  again = rw (signed_again m h2, signed_again n h3, number_of-decimal o.0 (wide o.0 h1), number_of-decimal t.0 (wide t.0 h0)) refl;
  same = rw (signed_again m h2, signed_again n h3, no_float m, no_float n, number_of-decimal o.0 (wide o.0 h1), number_of-decimal t.0 (wide t.0 h0)) refl;
  shallow = omega arith;
  small = omega arith;
  printable = (tt, (tt, (tt, (tt, (signed_printable m h2, (tt, (tt, (tt, (signed_printable n h3, (tt, (IsNumber-decimal o.0 (wide o.0 h1), (tt, (IsNumber-decimal t.0 (wide t.0 h0), (tt, tt))))))))))))));
  utf8 = signed_utf8 (codes "{\"call\":\"Wait\",\"millis\":") m _ refl h2 (signed_utf8 (codes ",\"move\":\"Call\",\"nanos\":") n _ refl h3 (number_utf8 (codes ",\"object\":") o.0 _ refl (wide o.0 h1) (last_utf8 (codes ",\"thread\":") t.0 refl (wide t.0 h0))));
}

reply_told : (word : List ℕ) (t : ThreadId) → t.0 < 2 ^ 32 → is_small (escape word) ≡ true → Told (object (reply_members word t))
unfolding ArePrintable serde_json_on_literals
reply_told word t h0 w = record {
  again = rw (number_of-decimal t.0 (wide t.0 h0)) refl;
  same = rw (number_of-decimal t.0 (wide t.0 h0)) refl;
  shallow = omega arith;
  small = omega arith;
  printable = (tt, (tt, (tt, (tt, (tt, (tt, (IsNumber-decimal t.0 (wide t.0 h0), (tt, tt))))))));
  utf8 = quoted_utf8 (codes "{\"move\":\"Return\",\"reply\":\"") word _ refl w (last_utf8 (codes ",\"thread\":") t.0 refl (wide t.0 h0));
}

refused_told : (word : List ℕ) (t : ThreadId) → t.0 < 2 ^ 32 → is_small (escape word) ≡ true → Told (object (refused_members word t))
unfolding ArePrintable serde_json_on_literals
refused_told word t h0 w = record {
  again = rw (number_of-decimal t.0 (wide t.0 h0)) refl;
  same = rw (number_of-decimal t.0 (wide t.0 h0)) refl;
  shallow = omega arith;
  small = omega arith;
  printable = (tt, (tt, (tt, (tt, (tt, (tt, (tt, (tt, (IsNumber-decimal t.0 (wide t.0 h0), (tt, tt))))))))));
  utf8 = quoted_utf8 (codes "{\"cause\":\"") word _ refl w (last_utf8 (codes ",\"move\":\"Return\",\"reply\":\"Refused\",\"thread\":") t.0 refl (wide t.0 h0));
}

nobody_told : (t : ThreadId) → t.0 < 2 ^ 32 → Told (object (notify_members None t))
unfolding ArePrintable serde_json_on_literals
nobody_told t h0 = record {
  again = rw (number_of-decimal t.0 (wide t.0 h0)) refl;
  same = rw (number_of-decimal t.0 (wide t.0 h0)) refl;
  shallow = omega arith;
  small = omega arith;
  printable = (tt, (tt, (tt, (tt, (tt, (tt, (IsNumber-decimal t.0 (wide t.0 h0), (tt, tt))))))));
  utf8 = last_utf8 (codes "{\"chosen\":null,\"move\":\"Notify\",\"thread\":") t.0 refl (wide t.0 h0);
}

notify_told : (u : ThreadId) (t : ThreadId) → t.0 < 2 ^ 32 → u.0 < 2 ^ 32 → Told (object (notify_members (Some u) t))
unfolding ArePrintable serde_json_on_literals
notify_told u t h0 h1 = record {
  again = rw (number_of-decimal u.0 (wide u.0 h1), number_of-decimal t.0 (wide t.0 h0)) refl;
  same = rw (number_of-decimal u.0 (wide u.0 h1), number_of-decimal t.0 (wide t.0 h0)) refl;
  shallow = omega arith;
  small = omega arith;
  printable = (tt, (tt, (IsNumber-decimal u.0 (wide u.0 h1), (tt, (tt, (tt, (IsNumber-decimal t.0 (wide t.0 h0), (tt, tt))))))));
  utf8 = number_utf8 (codes "{\"chosen\":") u.0 _ refl (wide u.0 h1) (last_utf8 (codes ",\"move\":\"Notify\",\"thread\":") t.0 refl (wide t.0 h0));
}

refuse_told : (word : List ℕ) (t : ThreadId) → t.0 < 2 ^ 32 → is_small (escape word) ≡ true → Told (object (refuse_members word t))
unfolding ArePrintable serde_json_on_literals
refuse_told word t h0 w = record {
  again = rw (number_of-decimal t.0 (wide t.0 h0)) refl;
  same = rw (number_of-decimal t.0 (wide t.0 h0)) refl;
  shallow = omega arith;
  small = omega arith;
  printable = (tt, (tt, (tt, (tt, (tt, (tt, (IsNumber-decimal t.0 (wide t.0 h0), (tt, tt))))))));
  utf8 = quoted_utf8 (codes "{\"cause\":\"") word _ refl w (last_utf8 (codes ",\"move\":\"Refuse\",\"thread\":") t.0 refl (wide t.0 h0));
}

time_told : (now : ℕ) → now < 2 ^ 64 → Told (object (time_members now))
unfolding ArePrintable serde_json_on_literals
time_told now h0 = record {
  again = rw (number_of-decimal now h0) refl;
  same = rw (number_of-decimal now h0) refl;
  shallow = omega arith;
  small = omega arith;
  printable = (tt, (tt, (tt, (tt, (IsNumber-decimal now h0, (tt, tt))))));
  utf8 = last_utf8 (codes "{\"move\":\"Time\",\"now\":") now refl h0;
}

-- ---- each move that is read at once

cause_small : (c : Cause) → is_small (escape (cause_name c)) ≡ true
unfolding serde_json_on_literals
cause_small cause.NoMonitor = refl
cause_small cause.Memory = refl
cause_small cause.TooDeep = refl
cause_small cause.StillOwner = refl
cause_small cause.NoThread = refl

pub move_told : (m : Move) → Fits m → IsQuick m → Told (data_of m)
unfolding serde_json_on_literals
move_told (move.Attach t) fits quick = plain_told (codes "Attach") t fits refl
move_told (move.Lock t) fits quick = plain_told (codes "Lock") t fits refl
move_told (move.Unlock t) fits quick = plain_told (codes "Unlock") t fits refl
move_told (move.Illegal t) fits quick = plain_told (codes "Illegal") t fits refl
move_told (move.BadArgument t) fits quick = plain_told (codes "BadArgument") t fits refl
move_told (move.Early t) fits quick = plain_told (codes "Early") t fits refl
move_told (move.Wait t) fits quick = plain_told (codes "Wait") t fits refl
move_told (move.NotifyAll t) fits quick = plain_told (codes "NotifyAll") t fits refl
move_told (move.Interrupt t) fits quick = plain_told (codes "Interrupt") t fits refl
move_told (move.TestClear t) fits quick = plain_told (codes "TestClear") t fits refl
move_told (move.Ask t) fits quick = plain_told (codes "Ask") t fits refl
move_told (move.Expire t) fits quick = plain_told (codes "Expire") t fits refl
move_told (move.Spurious t) fits quick = plain_told (codes "Spurious") t fits refl
move_told (move.Relock t) fits quick = plain_told (codes "Relock") t fits refl
move_told (move.End t) fits quick = plain_told (codes "End") t fits refl
move_told (move.Call t (call.Enter o)) fits quick = object_told (codes "Enter") o t fits.0 fits.1 refl
move_told (move.Call t (call.Exit o)) fits quick = object_told (codes "Exit") o t fits.0 fits.1 refl
move_told (move.Call t (call.Notify o)) fits quick = object_told (codes "Notify") o t fits.0 fits.1 refl
move_told (move.Call t (call.NotifyAll o)) fits quick = object_told (codes "NotifyAll") o t fits.0 fits.1 refl
move_told (move.Call t (call.Holds o)) fits quick = object_told (codes "Holds") o t fits.0 fits.1 refl
move_told (move.Call t (call.Interrupt u)) fits quick = target_told (codes "Interrupt") u t fits.0 fits.1 refl
move_told (move.Call t (call.IsInterrupted u)) fits quick = target_told (codes "IsInterrupted") u t fits.0 fits.1 refl
move_told (move.Call t call.Interrupted) fits quick = bare_told (codes "Interrupted") t fits.0 refl
move_told (move.Call t call.End) fits quick = bare_told (codes "End") t fits.0 refl
move_told (move.Call t (call.Wait o m n)) fits quick = wait_told o m n t fits.0 fits.1.0 quick (int_long n fits.1.2)
move_told (move.Return t reply.Entered) fits quick = reply_told (codes "Entered") t fits refl
move_told (move.Return t reply.Exited) fits quick = reply_told (codes "Exited") t fits refl
move_told (move.Return t reply.WaitOver) fits quick = reply_told (codes "WaitOver") t fits refl
move_told (move.Return t reply.Interrupted) fits quick = reply_told (codes "Interrupted") t fits refl
move_told (move.Return t reply.Notified) fits quick = reply_told (codes "Notified") t fits refl
move_told (move.Return t reply.Yes) fits quick = reply_told (codes "Yes") t fits refl
move_told (move.Return t reply.No) fits quick = reply_told (codes "No") t fits refl
move_told (move.Return t reply.Done) fits quick = reply_told (codes "Done") t fits refl
move_told (move.Return t reply.Ended) fits quick = reply_told (codes "Ended") t fits refl
move_told (move.Return t reply.IllegalMonitorState) fits quick = reply_told (codes "IllegalMonitorState") t fits refl
move_told (move.Return t reply.IllegalArgument) fits quick = reply_told (codes "IllegalArgument") t fits refl
move_told (move.Return t (reply.Refused c)) fits quick = refused_told (cause_name c) t fits (cause_small c)
move_told (move.Notify t None) fits quick = nobody_told t fits.0
move_told (move.Notify t (Some u)) fits quick = notify_told u t fits.0 fits.1
move_told (move.Refuse t c) fits quick = refuse_told (cause_name c) t fits (cause_small c)
move_told (move.Time now) fits quick = time_told now quick

pub reads_move : (line : List ℕ) (m : Move) → Reads line m → IsMove line m
reads_move line m reads =
    let told = move_told m reads.fits reads.quick in
    written_move line m (subst IsUtf8 (sym reads.text) told.utf8) (ap read reads.text ∙ reads_back (data_of m) told) reads.fits

pub quick_found : (line : List ℕ) (o : Option Move) → IfSome o (Reads line) → IfSome o (IsMove line)
quick_found line None reads = tt
quick_found line (Some m) reads = reads_move line m reads
