-- What the lines of a program can say.
use Rattle.std.proofs.Common.{◌≡◌, ◌∙◌, ap, refl, subst, ℕ, ◌<◌, ◌^◌, true, List, [], ◌∷◌, ◌++◌, Some}
use Rattle.std.specs.Prelude.{codes}
use Rattle.std.specs.Char.{is_ascii}
use Rattle.std.specs.List.{list_all}
use Rattle.std.specs.Str.{bytes_eq}
use Rattle.std.proofs.lemmas.Option.{cond_some}
use Rattle.script_text.specs.declared.lines.Call.{Call}
use Rattle.script_text.specs.declared.lines.Call.TheVariants.{Enter, Exit, Wait, Notify, NotifyAll, Holds, Interrupt, Interrupted, IsInterrupted, End}
use Rattle.script_text.specs.declared.lines.Line.{Line}
use Rattle.script_text.specs.declared.lines.Line.TheVariants as script
use Rattle.script_text.specs.Lines.{CallFits, Fits, call_alone, call_from, call_naming, call_timed, call_with, line_from, wait_from, words_of}
use Rattle.script_text.specs.Words.{is_name, name_from, nanos_from, number_from, signed_from}
use Rattle.script_text.proofs.Choices.{bound, by_cond, mapped, none_some, some_same}
use Rattle.script_text.proofs.LineLaws.{line_at_text, line_takes}
use Rattle.script_text.proofs.Numerals.{number_takes}
use Rattle.script_text.proofs.Signed.{nanos_takes, signed_takes}
use Rattle.program_text.specs.Lines.{clock_from, line_behind, numbers_from, numbers_then, program_line_at, program_line_from, shared_line, spurious_from, thread_from}
use Rattle.program_text.specs.declared.lines.ProgramLine.{ProgramLine}
use Rattle.program_text.specs.declared.lines.ProgramLine.TheVariants as line

-- moments that a clock can tell
abbrev pub AreMoments : List ℕ → Type 0
AreMoments [] = Unit {0}
AreMoments (m ∷ ms) = (m < 2 ^ 64) × AreMoments ms

-- what a line can say
abbrev pub LineFits : ProgramLine → Type 0
LineFits (line.World monitors indices split) = Unit {0}
LineFits (line.Object name low) = (is_name name ≡ true) × (low < 256)
LineFits (line.Thread name) = is_name name ≡ true
LineFits (line.Call c) = CallFits c
LineFits (line.Clock ms) = AreMoments ms
LineFits (line.Spurious n) = Unit {0}

name_is : (word name : List ℕ) → name_from word ≡ Some name → is_name name ≡ true
name_is word name e =
    let parts = cond_some (is_name word) word name e in
    subst (λ (w : List ℕ). is_name w ≡ true) parts.1 parts.0

-- ---- calls

call_said : (made c : Call) → CallFits made → Some made ≡ Some c → CallFits c
call_said made c fits e = subst (λ (x : Call). CallFits x) (some_same made c e) fits

alone_fits : (v : List ℕ) (c : Call) → call_alone v ≡ Some c → CallFits c
alone_fits v c e =
    by_cond (bytes_eq v (codes "interrupted")) _ _ _ _ e (λ _ m. call_said Interrupted c tt m)
    (λ _ e. by_cond (bytes_eq v (codes "end")) _ _ _ _ e (λ _ m. call_said End c tt m) (λ _ none. none_some c _ none))

with_fits : (v n : List ℕ) (c : Call) → is_name n ≡ true → call_with v n ≡ Some c → CallFits c
with_fits v n c right e =
    by_cond (bytes_eq v (codes "enter")) _ _ _ _ e (λ _ m. call_said (Enter n) c right m)
    (λ _ e. by_cond (bytes_eq v (codes "exit")) _ _ _ _ e (λ _ m. call_said (Exit n) c right m)
    (λ _ e. by_cond (bytes_eq v (codes "notify")) _ _ _ _ e (λ _ m. call_said (Notify n) c right m)
    (λ _ e. by_cond (bytes_eq v (codes "notifyall")) _ _ _ _ e (λ _ m. call_said (NotifyAll n) c right m)
    (λ _ e. by_cond (bytes_eq v (codes "holds")) _ _ _ _ e (λ _ m. call_said (Holds n) c right m)
    (λ _ e. by_cond (bytes_eq v (codes "interrupt")) _ _ _ _ e (λ _ m. call_said (Interrupt n) c right m)
    (λ _ e. by_cond (bytes_eq v (codes "isinterrupted")) _ _ _ _ e (λ _ m. call_said (IsInterrupted n) c right m)
    (λ _ none. none_some c _ none)))))))

naming_fits : (v word : List ℕ) (c : Call) → call_naming v word ≡ Some c → CallFits c
naming_fits v word c e =
    let name = bound (call_with v) (name_from word) c e in
    with_fits v name.0 c (name_is word name.0 name.1) name.2

wait_fits : (o m n : List ℕ) (c : Call) → wait_from o m n ≡ Some c → CallFits c
wait_fits o m n c e =
    let name = bound _ (name_from o) c e in
    let millis = bound _ (signed_from m) c name.2 in
    let nanos = mapped (Wait name.0 millis.0) (nanos_from n) c millis.2 in
    subst (λ (x : Call). CallFits x) nanos.2 (name_is o name.0 name.1, (signed_takes m millis.0 millis.1).1, (nanos_takes n nanos.0 nanos.1).1)

timed_fits : (v o m n : List ℕ) (c : Call) → call_timed v o m n ≡ Some c → CallFits c
timed_fits v o m n c e = by_cond (bytes_eq v (codes "wait")) _ _ _ _ e (λ _ g. wait_fits o m n c g) (λ _ none. none_some c _ none)

call_fits : (ws : List (List ℕ)) (c : Call) → call_from ws ≡ Some c → CallFits c
call_fits [] c e = none_some c _ e
call_fits (v ∷ []) c e = alone_fits v c e
call_fits (v ∷ a ∷ []) c e = naming_fits v a c e
call_fits (v ∷ a ∷ b ∷ []) c e = none_some c _ e
call_fits (v ∷ a ∷ b ∷ d ∷ []) c e = timed_fits v a b d c e
call_fits (v ∷ a ∷ b ∷ d ∷ f ∷ more) c e = none_some c _ e

-- ---- the other lines

thread_fits : (ws : List (List ℕ)) (l : ProgramLine) → thread_from ws ≡ Some l → LineFits l
thread_fits [] l e = none_some l _ e
thread_fits (w ∷ []) l e =
    let m = mapped line.Thread (name_from w) l e in
    subst (λ (x : ProgramLine). LineFits x) m.2 (name_is w m.0 m.1)
thread_fits (w ∷ v ∷ ws) l e = none_some l _ e

spurious_fits : (ws : List (List ℕ)) (l : ProgramLine) → spurious_from ws ≡ Some l → LineFits l
spurious_fits [] l e = none_some l _ e
spurious_fits (w ∷ []) l e =
    let m = mapped line.Spurious (number_from w) l e in
    subst (λ (x : ProgramLine). LineFits x) m.2 tt
spurious_fits (w ∷ v ∷ ws) l e = none_some l _ e

moments_more : (ns : List ℕ) (n : ℕ) → AreMoments ns → n < 2 ^ 64 → AreMoments (ns ++ n ∷ [])
moments_more [] n h lt = (lt, tt)
moments_more (m ∷ ns) n h lt = (h.0, moments_more ns n h.1 lt)

numbers_fit : (ws : List (List ℕ)) (ns ms : List ℕ) → AreMoments ns → numbers_then ns ws ≡ Some ms → AreMoments ms
numbers_fit [] ns ms h e = subst AreMoments (some_same ns ms e) h
numbers_fit (w ∷ ws) ns ms h e =
    let n = bound (λ n. numbers_then (ns ++ n ∷ []) ws) (number_from w) ms e in
    numbers_fit ws (ns ++ n.0 ∷ []) ms (moments_more ns n.0 h (number_takes w n.0 n.1).1) n.2

clock_fits : (ws : List (List ℕ)) (l : ProgramLine) → clock_from ws ≡ Some l → LineFits l
clock_fits [] l e = none_some l _ e
clock_fits (w ∷ ws) l e =
    let m = mapped line.Clock (numbers_from (w ∷ ws)) l e in
    subst (λ (x : ProgramLine). LineFits x) m.2 (numbers_fit (w ∷ ws) [] m.0 tt m.1)

shared_fits : (l : Line) (x : ProgramLine) → Fits l → shared_line l ≡ Some x → LineFits x
shared_fits (script.World m k s) x fits e = subst (λ (y : ProgramLine). LineFits y) (some_same (line.World m k s) x e) tt
shared_fits (script.Object name low) x fits e = subst (λ (y : ProgramLine). LineFits y) (some_same (line.Object name low) x e) fits
shared_fits (script.Step s) x fits e = none_some x _ e

behind_fits : (bytes verb : List ℕ) (ws : List (List ℕ)) (l : ProgramLine) → words_of bytes ≡ verb ∷ ws → line_behind verb ws ≡ Some l → LineFits l
behind_fits bytes verb ws l cut e =
    by_cond (bytes_eq verb (codes "thread")) _ _ _ _ e (λ _ g. thread_fits ws l g)
    (λ _ e. by_cond (bytes_eq verb (codes "call")) _ _ _ _ e
    (λ _ g. let m = mapped line.Call (call_from ws) l g in subst (λ (x : ProgramLine). LineFits x) m.2 (call_fits ws m.0 m.1))
    (λ _ e. by_cond (bytes_eq verb (codes "clock")) _ _ _ _ e (λ _ g. clock_fits ws l g)
    (λ _ e. by_cond (bytes_eq verb (codes "spurious")) _ _ _ _ e (λ _ g. spurious_fits ws l g)
    (λ _ e. let x = bound shared_line (line_from (verb ∷ ws)) l e in
    shared_fits x.0 l (line_takes bytes x.0 (line_at_text bytes ∙ ap line_from cut ∙ x.1)).0 x.2))))

words_fit : (bytes : List ℕ) (ws : List (List ℕ)) (l : ProgramLine) → words_of bytes ≡ ws → program_line_from ws ≡ Some l → LineFits l
words_fit bytes [] l cut e = none_some l _ e
words_fit bytes (verb ∷ ws) l cut e = behind_fits bytes verb ws l cut e

pub line_fits : (bytes : List ℕ) (l : ProgramLine) → program_line_at bytes ≡ Some l → LineFits l
unfolding program_line_at
line_fits bytes l e =
    by_cond (list_all is_ascii bytes) _ _ _ _ e (λ _ g. words_fit bytes (words_of bytes) l refl g) (λ _ none. none_some l _ none)
