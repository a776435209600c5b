-- The program of a text has names that a script can write.
use native.Mathlib.Omega.{arith}
use Rattle.std.proofs.Common.{◌≡◌, ◌∙◌, sym, ap, refl, subst, ℕ, zero, suc, ◌+◌, ◌<◌, ◌≤◌, ◌^◌, Bool, true, false, not, ◌&&◌, ◌||◌, nat_lt, List, [], ◌∷◌, ◌++◌, length, Option, Some, None, Result, Ok, Err, length-append}
use Rattle.std.specs.Prelude.{if◌then◌else◌, slice_get, slice_index_or}
use Rattle.std.proofs.lemmas.Bool.{and_parts, eqb-true, ltb-true, not-true}
use Rattle.lock_word.specs.declared.Split.{Split}
use Rattle.fast_path.specs.declared.calls.Call.{Call}
use Rattle.script_text.specs.declared.lines.Call.{Call as CallLine}
use Rattle.script_text.specs.declared.lines.Call.TheVariants as call
use Rattle.script_text.specs.Lines.{CallFits, parts_of}
use Rattle.script_text.specs.Names.{is_named, position_of, with_name}
use Rattle.script_text.specs.Words.{is_name}
use Rattle.script_text.proofs.Choices.{bound, by_cond, none_some, some_same}
use Rattle.history.specs.Calls.{call_in, names_with}
use Rattle.history.specs.NameLists.{NameLists, name_at}
use Rattle.dump.specs.Reports.{named_call}
use Rattle.program_text.specs.Drafts.{DraftState, draft_from, draft_of, first_draft, first_in, is_among_threads, is_before_spurious, is_before_threads, is_new, is_whole, may_add, may_call, may_declare, may_tell, names_declared, next_draft, opened, with_line}
use Rattle.program_text.specs.Lines.{program_line_at}
use Rattle.program_text.specs.Programs.{IsProgramIn, IsProgramOf, calls_from, names_behind}
use Rattle.program_text.specs.declared.drafts.Part.{Part}
use Rattle.program_text.specs.declared.drafts.Part.TheVariants as part
use Rattle.program_text.specs.declared.lines.ProgramLine.{ProgramLine}
use Rattle.program_text.specs.declared.lines.ProgramLine.TheVariants as line
use Rattle.program_text.specs.declared.numbering.NamedProgram.{NamedProgram}
use Rattle.explore_runs.specs.Replays.{AreApart, AreNames, IsNamed}
use Rattle.explore_runs.proofs.NamesListed.{apart_more, found_name, name_before, names_more, new_name, not_named, with_found, with_right}
use Rattle.explore_runs.proofs.LinesRead.{AreMoments, LineFits, line_fits}

-- ---- a draft

-- calls that can be said, of objects that are declared
abbrev AreCalls : List (List ℕ) → List CallLine → Type 0
AreCalls objects [] = Unit {0}
AreCalls objects (c ∷ cs) = CallFits c × (names_declared objects c ≡ true) × AreCalls objects cs

calls_more : (objects : List (List ℕ)) (cs : List CallLine) (c : CallLine) → AreCalls objects cs → CallFits c → names_declared objects c ≡ true → AreCalls objects (cs ++ c ∷ [])
calls_more objects [] c h fits is = (fits, is, tt)
calls_more objects (d ∷ cs) c h fits is = (h.0, h.1, calls_more objects cs c h.2 fits is)

lows_more : (lows : List ℕ) (low k : ℕ) → ((j : ℕ) → slice_index_or lows j 0 < 256) → low < 256 → slice_index_or (lows ++ low ∷ []) k 0 < 256
lows_more [] low zero h lt = lt
lows_more [] low (suc k) h lt = omega arith
lows_more (x ∷ lows) low zero h lt = h 0
lows_more (x ∷ lows) low (suc k) h lt = lows_more lows low k (λ j. h (suc j)) lt

record IsRight (d : DraftState) : Type 0 where
  pub threads : AreNames d.names.threads
  pub objects : AreNames d.names.objects
  pub threads_apart : AreApart d.names.threads
  pub objects_apart : AreApart d.names.objects
  pub each_thread : length d.starts ≡ length d.names.threads
  pub each_object : length d.names.objects ≡ length d.lows
  pub calls : AreCalls d.names.objects d.calls
  pub early : is_before_threads d.part ≡ true → d.calls ≡ []
  pub lows : (k : ℕ) → slice_index_or d.lows k 0 < 256
  pub moments : AreMoments d.moments

opened_right : (m i : ℕ) (s : Split) → IsRight (opened m i s)
opened_right m i s = record {
  threads = λ k lt. absurd (omega (arith, lt));
  objects = λ k lt. absurd (omega (arith, lt));
  threads_apart = λ i j lt within e. absurd (omega (arith, within));
  objects_apart = λ i j lt within e. absurd (omega (arith, within));
  each_thread = refl;
  each_object = refl;
  calls = tt;
  early = λ _. refl;
  lows = λ k. omega arith;
  moments = tt;
}

object_right : (d e : DraftState) (name : List ℕ) (low : ℕ) → IsRight d → (is_name name ≡ true) × (low < 256) → with_line d (line.Object name low) ≡ Some e → IsRight e
object_right d e name low h fits made =
    by_cond (may_declare d name) _ _ _ _ made
    (λ may g. let parts = and_parts (is_before_threads d.part) _ may in
    let new = not-true _ (and_parts (not (is_named d.names.objects name)) _ parts.1).0 in
    let none = h.early parts.0 in
    let a = length-append d.names.objects (name ∷ []) in
    let b = length-append d.lows (low ∷ []) in
    let each = h.each_object in
    subst IsRight (some_same _ e g) (record {
      threads = h.threads;
      objects = names_more d.names.objects name h.objects fits.0;
      threads_apart = h.threads_apart;
      objects_apart = apart_more d.names.objects name h.objects_apart (new_name d.names.objects name new);
      each_thread = h.each_thread;
      each_object = omega (arith, a, b, each);
      calls = subst (λ (cs : List CallLine). AreCalls (d.names.objects ++ name ∷ []) cs) (sym none) tt;
      early = h.early;
      lows = λ k. lows_more d.lows low k h.lows fits.1;
      moments = h.moments;
    }))
    (λ _ none. none_some e _ none)

thread_right : (d e : DraftState) (name : List ℕ) → IsRight d → is_name name ≡ true → with_line d (line.Thread name) ≡ Some e → IsRight e
thread_right d e name h is made =
    by_cond (may_add d name) _ _ _ _ made
    (λ may g. let parts = and_parts (is_before_threads d.part || is_among_threads d.part) (nat_lt (length d.starts) 64 && (nat_lt (length d.starts) d.indices && is_new d.names.threads name)) may in
    let more = and_parts (nat_lt (length d.starts) 64) (nat_lt (length d.starts) d.indices && is_new d.names.threads name) parts.1 in
    let last = and_parts (nat_lt (length d.starts) d.indices) (is_new d.names.threads name) more.1 in
    let new : is_named d.names.threads name ≡ false = not_named d.names.threads name (eqb-true (position_of d.names.threads name) (length d.names.threads) last.1) in
    let both = with_right d.names.threads name h.threads h.threads_apart is in
    let a = length-append d.names.threads (name ∷ []) in
    let b = length-append d.starts (length d.calls ∷ []) in
    let each = h.each_thread in
    let long : length (with_name d.names.threads name) ≡ length (d.names.threads ++ name ∷ []) = rw new refl in
    subst IsRight (some_same _ e g) (record {
      threads = both.0;
      objects = h.objects;
      threads_apart = both.1;
      objects_apart = h.objects_apart;
      each_thread = omega (arith, a, b, each, long);
      each_object = h.each_object;
      calls = h.calls;
      early = λ wrong. absurd (cc);
      lows = h.lows;
      moments = h.moments;
    }))
    (λ _ none. none_some e _ none)

call_right : (d e : DraftState) (c : CallLine) → IsRight d → CallFits c → with_line d (line.Call c) ≡ Some e → IsRight e
call_right d e c h fits made =
    by_cond (may_call d c) _ _ _ _ made
    (λ may g. let parts = and_parts (is_among_threads d.part) (nat_lt (length d.calls) 1024 && names_declared d.names.objects c) may in
    let more = and_parts (nat_lt (length d.calls) 1024) (names_declared d.names.objects c) parts.1 in
    subst IsRight (some_same _ e g) (record {
      threads = h.threads;
      objects = h.objects;
      threads_apart = h.threads_apart;
      objects_apart = h.objects_apart;
      each_thread = h.each_thread;
      each_object = h.each_object;
      calls = calls_more d.names.objects d.calls c h.calls fits more.1;
      early = λ before. absurd (both_parts d.part before parts.0);
      lows = h.lows;
      moments = h.moments;
    }))
    (λ _ none. none_some e _ none)
  where
    both_parts : (p : Part) → is_before_threads p ≡ true → is_among_threads p ≡ true → ⊥
    both_parts part.Objects a b = cc
    both_parts part.Threads a b = cc
    both_parts part.Clock a b = cc
    both_parts part.Spurious a b = cc

clock_right : (d e : DraftState) (ms : List ℕ) → IsRight d → AreMoments ms → with_line d (line.Clock ms) ≡ Some e → IsRight e
clock_right d e ms h fits made =
    by_cond (may_tell d ms) _ _ _ _ made
    (λ _ g. subst IsRight (some_same _ e g) (record {
      threads = h.threads;
      objects = h.objects;
      threads_apart = h.threads_apart;
      objects_apart = h.objects_apart;
      each_thread = h.each_thread;
      each_object = h.each_object;
      calls = h.calls;
      early = λ wrong. absurd (cc);
      lows = h.lows;
      moments = fits;
    }))
    (λ _ none. none_some e _ none)

spurious_right : (d e : DraftState) (n : ℕ) → IsRight d → with_line d (line.Spurious n) ≡ Some e → IsRight e
spurious_right d e n h made =
    by_cond (is_before_spurious d.part) _ _ _ _ made
    (λ _ g. subst IsRight (some_same _ e g) (record {
      threads = h.threads;
      objects = h.objects;
      threads_apart = h.threads_apart;
      objects_apart = h.objects_apart;
      each_thread = h.each_thread;
      each_object = h.each_object;
      calls = h.calls;
      early = λ wrong. absurd (cc);
      lows = h.lows;
      moments = h.moments;
    }))
    (λ _ none. none_some e _ none)

line_right : (d e : DraftState) (l : ProgramLine) → IsRight d → LineFits l → with_line d l ≡ Some e → IsRight e
line_right d e (line.World m i s) h fits made = none_some e _ made
line_right d e (line.Object name low) h fits made = object_right d e name low h fits made
line_right d e (line.Thread name) h fits made = thread_right d e name h fits made
line_right d e (line.Call c) h fits made = call_right d e c h fits made
line_right d e (line.Clock ms) h fits made = clock_right d e ms h fits made
line_right d e (line.Spurious n) h fits made = spurious_right d e n h made

next_right : (d e : DraftState) (bytes : List ℕ) → IsRight d → next_draft d bytes ≡ Some e → IsRight e
unfolding next_draft
next_right d e bytes h made =
    let l = bound (with_line d) (program_line_at bytes) e made in
    line_right d e l.0 h (line_fits bytes l.0 l.1) l.2

no_draft : (n : ℕ) (e : DraftState) (P : Type 0) → ◌≡◌ {A = Result DraftState ℕ} (Err n) (Ok e) → P
no_draft n e P h = absurd (cc)

the_draft : (d e : DraftState) → ◌≡◌ {A = Result DraftState ℕ} (Ok d) (Ok e) → d ≡ e
the_draft d e h = cc

-- lines one after the other
goes : (d e : DraftState) (p q : List ℕ) (ps : List (List ℕ)) → next_draft d p ≡ Some e → draft_from d (p ∷ q ∷ ps) ≡ draft_from e (q ∷ ps)
unfolding draft_from
goes d e p q ps h = rw (draft_from, h) refl

halts : (d : DraftState) (p q : List ℕ) (ps : List (List ℕ)) → next_draft d p ≡ None → draft_from d (p ∷ q ∷ ps) ≡ Err (d.lines + 1)
unfolding draft_from
halts d p q ps h = rw (draft_from, h) refl

none_left : (d : DraftState) → draft_from d [] ≡ Err (d.lines + 1)
unfolding draft_from
none_left d = refl

one_left : (d : DraftState) (p : List ℕ) → draft_from d (p ∷ []) ≡ (if is_whole d p then Ok d else Err (d.lines + 1))
unfolding draft_from
one_left d p = refl

draft_right : (ps : List (List ℕ)) (d e : DraftState) → IsRight d → draft_from d ps ≡ Ok e → IsRight e
draft_right [] d e h made = no_draft (d.lines + 1) e _ (sym (none_left d) ∙ made)
draft_right (p ∷ []) d e h made =
    by_cond (is_whole d p) _ _ _ _ (sym (one_left d p) ∙ made) (λ _ g. subst IsRight (the_draft d e g) h) (λ _ g. no_draft (d.lines + 1) e _ g)
draft_right (p ∷ q ∷ ps) d e h made = by (next_draft d p) refl (λ f right g. draft_right (q ∷ ps) f e right g)
  where
    by : (o : Option DraftState) → next_draft d p ≡ o → ((f : DraftState) → IsRight f → draft_from f (q ∷ ps) ≡ Ok e → IsRight e) → IsRight e
    by None is rest = no_draft (d.lines + 1) e _ (sym (halts d p q ps is) ∙ made)
    by (Some f) is rest = rest f (next_right d f p h is) (sym (goes d f p q ps is) ∙ made)

begun_right : (l : ProgramLine) (d : DraftState) → first_draft l ≡ Some d → IsRight d
begun_right (line.World m i s) d e = by_cond _ _ _ _ _ e (λ _ g. subst IsRight (some_same (opened m i s) d g) (opened_right m i s)) (λ _ none. none_some d _ none)
begun_right (line.Object name low) d e = none_some d _ e
begun_right (line.Thread name) d e = none_some d _ e
begun_right (line.Call c) d e = none_some d _ e
begun_right (line.Clock ms) d e = none_some d _ e
begun_right (line.Spurious n) d e = none_some d _ e

first_goes : (d : DraftState) (p q : List ℕ) (ps : List (List ℕ)) → first_in p ≡ Some d → draft_of (p ∷ q ∷ ps) ≡ draft_from d (q ∷ ps)
unfolding draft_of
first_goes d p q ps h = rw (draft_of, h) refl

first_halts : (p q : List ℕ) (ps : List (List ℕ)) → first_in p ≡ None → draft_of (p ∷ q ∷ ps) ≡ Err 1
unfolding draft_of
first_halts p q ps h = rw (draft_of, h) refl

no_parts : draft_of [] ≡ Err 1
unfolding draft_of
no_parts = refl

one_part : (p : List ℕ) → draft_of (p ∷ []) ≡ Err 1
unfolding draft_of
one_part p = refl

whole_right : (ps : List (List ℕ)) (e : DraftState) → draft_of ps ≡ Ok e → IsRight e
whole_right [] e made = no_draft 1 e _ (sym no_parts ∙ made)
whole_right (p ∷ []) e made = no_draft 1 e _ (sym (one_part p) ∙ made)
whole_right (p ∷ q ∷ ps) e made = by (first_in p) refl
  where
    by : (o : Option DraftState) → first_in p ≡ o → IsRight e
    by None is = no_draft 1 e _ (sym (first_halts p q ps is) ∙ made)
    by (Some d) is =
        let l = bound first_draft (program_line_at p) d is in
        draft_right (q ∷ ps) d e (begun_right l.0 d l.2) (sym (first_goes d p q ps is) ∙ made)

-- ---- calls by numbers

-- names that were there stay
record HasGrown (ns ms : NameLists) : Type 0 where
  pub objects : ms.objects ≡ ns.objects
  pub more : length ns.threads ≤ length ms.threads
  pub kept : (k : ℕ) → k < length ns.threads → name_at ms.threads k ≡ name_at ns.threads k

same_names : (ns : NameLists) → HasGrown ns ns
same_names ns = record { objects = refl; more = omega arith; kept = λ k lt. refl }

grown_then : (a b c : NameLists) → HasGrown a b → HasGrown b c → HasGrown a c
grown_then a b c h g = record {
  objects = g.objects ∙ h.objects;
  more = (let x = h.more in let y = g.more in omega (arith, x, y));
  kept = λ k lt. (let x = h.more in g.kept k (omega (arith, x, lt)) ∙ h.kept k lt);
}

grown_thread : (ns : NameLists) (n : List ℕ) → HasGrown ns (record ns { threads = with_name ns.threads n })
grown_thread ns n = record { objects = refl; more = (by (is_named ns.threads n)).0; kept = (by (is_named ns.threads n)).1 }
  where
    by : (b : Bool) → (length ns.threads ≤ length (if b then ns.threads else ns.threads ++ n ∷ []))
        × ((k : ℕ) → k < length ns.threads → name_at (if b then ns.threads else ns.threads ++ n ∷ []) k ≡ name_at ns.threads k)
    by true = (omega arith, λ k lt. refl)
    by false = ((let l = length-append ns.threads (n ∷ []) in omega (arith, l)), λ k lt. name_before ns.threads (n ∷ []) k lt)

grown_call : (ns : NameLists) (c : CallLine) → HasGrown ns (names_with ns c)
grown_call ns (call.Enter o) = same_names ns
grown_call ns (call.Exit o) = same_names ns
grown_call ns (call.Wait o m n) = same_names ns
grown_call ns (call.Notify o) = same_names ns
grown_call ns (call.NotifyAll o) = same_names ns
grown_call ns (call.Holds o) = same_names ns
grown_call ns (call.Interrupt t) = grown_thread ns t
grown_call ns call.Interrupted = same_names ns
grown_call ns (call.IsInterrupted t) = grown_thread ns t
grown_call ns call.End = same_names ns

grown_calls : (cs : List CallLine) (ns : NameLists) → HasGrown ns (names_behind ns cs)
grown_calls [] ns = same_names ns
grown_calls (c ∷ cs) ns = grown_then ns (names_with ns c) (names_behind (names_with ns c) cs) (grown_call ns c) (grown_calls cs (names_with ns c))

object_is : (ns ms : NameLists) (o : List ℕ) → ms.objects ≡ ns.objects → nat_lt (position_of ns.objects o) (length ns.objects) ≡ true → is_name o ≡ true
    → is_name (name_at ms.objects (position_of ns.objects o)) ≡ true
object_is ns ms o same lt is =
    ap (λ (xs : List (List ℕ)). is_name (name_at xs (position_of ns.objects o))) same
    ∙ ap is_name (found_name ns.objects o (ltb-true _ _ lt)) ∙ is

target_is : (ns ms : NameLists) (t : List ℕ) → HasGrown (record ns { threads = with_name ns.threads t }) ms → is_name t ≡ true
    → is_name (name_at ms.threads (position_of ns.threads t)) ≡ true
target_is ns ms t g is =
    let f = with_found ns.threads t in
    ap is_name (g.kept (position_of ns.threads t) f.0 ∙ f.1) ∙ is

call_is : (ns ms : NameLists) (c : CallLine) → CallFits c → names_declared ns.objects c ≡ true → HasGrown (names_with ns c) ms → CallFits (named_call ms (call_in ns c))
call_is ns ms (call.Enter o) fits is g = object_is ns ms o g.objects is fits
call_is ns ms (call.Exit o) fits is g = object_is ns ms o g.objects is fits
call_is ns ms (call.Wait o m n) fits is g = (object_is ns ms o g.objects is fits.0, fits.1, fits.2)
call_is ns ms (call.Notify o) fits is g = object_is ns ms o g.objects is fits
call_is ns ms (call.NotifyAll o) fits is g = object_is ns ms o g.objects is fits
call_is ns ms (call.Holds o) fits is g = object_is ns ms o g.objects is fits
call_is ns ms (call.Interrupt t) fits is g = target_is ns ms t g fits
call_is ns ms call.Interrupted fits is g = tt
call_is ns ms (call.IsInterrupted t) fits is g = target_is ns ms t g fits
call_is ns ms call.End fits is g = tt

calls_are : (cs : List CallLine) (ns : NameLists) → AreCalls ns.objects cs → (n : ℕ) (c : Call) → slice_get (calls_from ns cs) n ≡ Some c
    → CallFits (named_call (names_behind ns cs) c)
calls_are [] ns h n c e = absurd (cc)
calls_are (d ∷ cs) ns h zero c e =
    subst (λ (x : Call). CallFits (named_call (names_behind (names_with ns d) cs) x)) (some_same (call_in ns d) c e)
    (call_is ns (names_behind (names_with ns d) cs) d h.0 h.1 (grown_calls cs (names_with ns d)))
calls_are (d ∷ cs) ns h (suc n) c e =
    calls_are cs (names_with ns d) (subst (λ (xs : List (List ℕ)). AreCalls xs cs) (sym (grown_call ns d).objects) h.2) n c e

-- the names of threads, with those of targets behind them
abbrev AreRight : List (List ℕ) → Type 0
AreRight xs = AreNames xs × AreApart xs

right_call : (ns : NameLists) (c : CallLine) → AreRight ns.threads → CallFits c → AreRight (names_with ns c).threads
right_call ns (call.Enter o) h fits = h
right_call ns (call.Exit o) h fits = h
right_call ns (call.Wait o m n) h fits = h
right_call ns (call.Notify o) h fits = h
right_call ns (call.NotifyAll o) h fits = h
right_call ns (call.Holds o) h fits = h
right_call ns (call.Interrupt t) h fits = with_right ns.threads t h.0 h.1 fits
right_call ns call.Interrupted h fits = h
right_call ns (call.IsInterrupted t) h fits = with_right ns.threads t h.0 h.1 fits
right_call ns call.End h fits = h

right_calls : (cs : List CallLine) (ns : NameLists) → AreRight ns.threads → AreCalls ns.objects cs → AreRight (names_behind ns cs).threads
right_calls [] ns h calls = h
right_calls (c ∷ cs) ns h calls =
    right_calls cs (names_with ns c) (right_call ns c h calls.0) (subst (λ (xs : List (List ℕ)). AreCalls xs cs) (sym (grown_call ns c).objects) calls.2)

moment_is : (ms : List ℕ) (k now : ℕ) → AreMoments ms → slice_get ms k ≡ Some now → now < 2 ^ 64
moment_is [] k now h e = absurd (cc)
moment_is (m ∷ ms) zero now h e = subst (λ (n : ℕ). n < 2 ^ 64) (some_same m now e) h.0
moment_is (m ∷ ms) (suc k) now h e = moment_is ms k now h.1 e

-- ---- the program

named_of : (d : DraftState) (p : NamedProgram) → IsRight d → IsProgramOf d p → IsNamed p.names p.program
named_of d p h of =
    let grown = grown_calls d.calls d.names in
    let right = right_calls d.calls d.names (h.threads, h.threads_apart) h.calls in
    let names = of.names in
    subst (λ (ns : NameLists). IsNamed ns p.program) (sym names) (record {
      threads = right.0;
      objects = subst AreNames (sym grown.objects) h.objects;
      threads_apart = right.1;
      objects_apart = subst AreApart (sym grown.objects) h.objects_apart;
      each_thread = (let a = ap (λ (xs : List ℕ). length xs) of.starts in let b = h.each_thread in let c = grown.more in omega (arith, a, b, c));
      each_object = ap (λ (xs : List (List ℕ)). length xs) grown.objects ∙ h.each_object ∙ sym (ap (λ (xs : List ℕ). length xs) of.lows);
      calls = λ n c e. calls_are d.calls d.names h.calls n c (sym (ap (λ (cs : List Call). slice_get cs n) of.calls) ∙ e);
      lows = λ k. subst (λ (xs : List ℕ). slice_index_or xs k 0 < 256) (sym of.lows) (h.lows k);
      moments = λ k now e. moment_is d.moments k now h.moments (sym (ap (λ (ms : List ℕ). slice_get ms k) of.moments) ∙ e);
    })

pub are_named : (bytes : List ℕ) (p : NamedProgram) → IsProgramIn bytes p → IsNamed p.names p.program
are_named bytes p is = named_of is.0 p (whole_right (parts_of bytes) is.0 is.1) is.2
