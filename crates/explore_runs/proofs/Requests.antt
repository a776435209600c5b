-- The lines of a script, read as steps by the numbers of their names.
use native.Mathlib.Omega.{arith}
use Rattle.std.proofs.Common.{◌≡◌, ◌∙◌, ◌⊎◌, inl, inr, sym, ap, refl, subst, ℕ, zero, suc, ◌+◌, ◌<◌, ◌≤◌, ◌^◌, Bool, true, List, [], ◌∷◌, ◌++◌, length, take, map, append_assoc}
use Rattle.std.specs.Prelude.{if◌then◌else◌}
use Rattle.std.proofs.lemmas.Bool.{cases_lt}
use Rattle.std.proofs.lemmas.List.{length-take-le, take_all, map-append}
use Rattle.lock_word.specs.declared.ObjectId.{ObjectId}
use Rattle.lock_word.specs.declared.ThreadId.{ThreadId}
use Rattle.fast_path.specs.declared.calls.Call.{Call}
use Rattle.fast_path.specs.declared.calls.Call.TheVariants as call
use Rattle.script_text.specs.declared.lines.Line.{Line}
use Rattle.script_text.specs.declared.lines.Line.TheVariants.{Object, Step as StepOf}
use Rattle.script_text.specs.Lines.{CallFits}
use Rattle.script_text.specs.Names.{is_named, position_of, with_name}
use Rattle.script_text.specs.declared.lines.Call.{Call as CallLine}
use Rattle.script_text.specs.declared.lines.Call.TheVariants as line_call
use Rattle.script_text.specs.declared.lines.StepLine.{StepLine}
use Rattle.script_text.specs.declared.lines.StepLine.TheVariants as line
use Rattle.script_text.specs.Words.{is_name}
use Rattle.step_core.specs.declared.steps.Request.{Request}
use Rattle.step_core.specs.declared.steps.Request.TheVariants as request
use Rattle.step_core.specs.declared.steps.Step.{Step}
use Rattle.step_core.specs.declared.steps.Step.TheVariants as step
use Rattle.history.specs.Calls.{call_in, names_with, thread_in, with_thread}
use Rattle.history.specs.NameLists.{NameLists, name_at}
use Rattle.history.specs.Numbering.{low_bytes, names_after, names_in_step, names_then, no_names, request_in, requests_after, requests_then}
use Rattle.history.proofs.Lines.{names_after-one, requests_after-one}
use Rattle.dump.specs.Reports.{named_call}
use Rattle.explore.specs.States.{thread_of}
use Rattle.explore_runs.specs.Replays.{AreApart, AreNames}
use Rattle.explore_runs.specs.Scripts.{named_step}
use Rattle.explore_runs.specs.Steps.{attaches}
use Rattle.explore_runs.proofs.Naming.{Follows, follows_itself, follows_on, has_number, name_follows, name_next, name_stays, named_before, named_front, not_before, number_stays, own_number, own_position, position_behind, position_front}
use Rattle.explore_runs.proofs.Renumbering.{AreForOthers, Numbers, renumbered_call, renumbered_step}

-- the line of a step
abbrev pub named_line : NameLists → Step → Line
named_line names x = StepOf (named_step names x)

abbrev pub named_lines : NameLists → List Step → List Line
named_lines names xs = map (named_line names) xs

-- steps as a script asks for them
abbrev pub asked : List Step → List Request
asked xs = map (λ (x : Step). request.Step x) xs

-- the names of which so many threads have come
abbrev pub first_names : NameLists → ℕ → NameLists
first_names names m = record { threads = take m names.threads; objects = names.objects }

object_again : (names : NameLists) (o : ObjectId) → AreApart names.objects → is_name (name_at names.objects o.0) ≡ true
    → ◌≡◌ {A = ObjectId} (record { 0 = position_of names.objects (name_at names.objects o.0) }) o
object_again names o apart h = ap (λ (k : ℕ). record { 0 = k }) (own_number names.objects o.0 apart h)

thread_next : (names : NameLists) (m : ℕ) → AreApart names.threads → m < length names.threads
    → with_thread (first_names names m) (name_at names.threads m) ≡ first_names names (suc m)
thread_next names m apart lt = ap (λ (ns : List (List ℕ)). record { threads = ns; objects = names.objects }) (name_next names.threads m apart lt)

-- ---- names that come

-- the names behind some lines: more of threads, and those of objects
record Later (ns ms : NameLists) : Type 0 where
  pub threads : Follows ns.threads ms.threads
  pub objects : ms.objects ≡ ns.objects

later_itself : (ns : NameLists) → Later ns ns
later_itself ns = record { threads = follows_itself ns.threads; objects = refl }

later_on : (ns ms ls : NameLists) → Later ns ms → Later ms ls → Later ns ls
later_on ns ms ls one two = record { threads = follows_on ns.threads ms.threads ls.threads one.threads two.threads; objects = two.objects ∙ one.objects }

thread_later : (ns : NameLists) (name : List ℕ) → Later ns (with_thread ns name)
thread_later ns name = record { threads = name_follows ns.threads name; objects = refl }

call_later : (ns : NameLists) (c : CallLine) → Later ns (names_with ns c)
call_later ns (line_call.Enter o) = later_itself ns
call_later ns (line_call.Exit o) = later_itself ns
call_later ns (line_call.Wait o a b) = later_itself ns
call_later ns (line_call.Notify o) = later_itself ns
call_later ns (line_call.NotifyAll o) = later_itself ns
call_later ns (line_call.Holds o) = later_itself ns
call_later ns (line_call.Interrupt t) = thread_later ns t
call_later ns line_call.Interrupted = later_itself ns
call_later ns (line_call.IsInterrupted t) = thread_later ns t
call_later ns line_call.End = later_itself ns

step_later : (ns : NameLists) (l : StepLine) → Later ns (names_in_step ns l)
step_later ns (line.Attach t) = thread_later ns t
step_later ns (line.Begin t c) = later_on ns (with_thread ns t) (names_with (with_thread ns t) c) (thread_later ns t) (call_later (with_thread ns t) c)
step_later ns (line.Go t) = thread_later ns t
step_later ns (line.Expire t) = thread_later ns t
step_later ns (line.Spurious t) = thread_later ns t
step_later ns (line.Tick now) = later_itself ns
step_later ns (line.Relayout split) = later_itself ns

lines_later : (names ns : NameLists) (xs : List Step) → Later ns (names_after ns (named_lines names xs))
lines_later names ns [] = later_itself ns
lines_later names ns (x ∷ xs) =
    let next : NameLists = names_in_step ns (named_step names x) in
    later_on ns next (names_after next (named_lines names xs)) (step_later ns (named_step names x)) (lines_later names next xs)

-- what the names of a program and its threads have to be
record Fit (names : NameLists) (n : ℕ) : Type 0 where
  pub threads : AreApart names.threads
  pub are_names : AreNames names.threads
  pub objects : AreApart names.objects
  pub each : n ≤ length names.threads

-- the threads of the program have the first numbers, and the objects their own
record SoFar (names : NameLists) (n : ℕ) (ns : NameLists) : Type 0 where
  pub threads : Follows (take n names.threads) ns.threads
  pub objects : ns.objects ≡ names.objects

so_far_on : (names : NameLists) (n : ℕ) (ns ms : NameLists) → SoFar names n ns → Later ns ms → SoFar names n ms
so_far_on names n ns ms so later = record {
  threads = follows_on (take n names.threads) ns.threads ms.threads so.threads later.threads;
  objects = later.objects ∙ so.objects;
}

-- the numbers of the names among these
abbrev pub numbers_in : NameLists → List (List ℕ) → Numbers
numbers_in names all = λ (u : ThreadId). record { 0 = position_of all (name_at names.threads u.0) }

for_others : (names : NameLists) (n : ℕ) (all : List (List ℕ)) → Fit names n → Follows (take n names.threads) all → AreForOthers n (numbers_in names all)
for_others names n all fit (more, e) = record {
  same = λ u lt.
      let each = fit.each in
      let name : List ℕ = name_at names.threads u.0 in
      ap (λ (k : ℕ). record { 0 = k })
      (ap (λ (l : List (List ℕ)). position_of l name) e
      ∙ position_front (take n names.threads) more name (named_before names.threads u.0 n fit.threads (omega (arith, lt, each)) lt)
      ∙ own_position names.threads u.0 n fit.threads (omega (arith, lt, each)) (omega (arith, lt)));
  others = λ u le.
      let each = fit.each in
      let name : List ℕ = name_at names.threads u.0 in
      let there : position_of all name ≡ position_of (take n names.threads ++ more) name = ap (λ (l : List (List ℕ)). position_of l name) e in
      let behind = position_behind (take n names.threads) more name (not_before names.threads u.0 n fit.threads fit.are_names le) in
      let long = length-take-le n names.threads each in
      omega (arith, there, behind, long);
}

-- ---- calls

object_read : (names ns : NameLists) (n : ℕ) (o : ObjectId) → Fit names n → SoFar names n ns → is_name (name_at names.objects o.0) ≡ true
    → ◌≡◌ {A = ObjectId} (record { 0 = position_of ns.objects (name_at names.objects o.0) }) o
object_read names ns n o fit so h =
    ap (λ (l : List (List ℕ)). record { 0 = position_of l (name_at names.objects o.0) }) so.objects ∙ object_again names o fit.objects h

target_read : (names ns : NameLists) (all : List (List ℕ)) (t : ThreadId) → Follows (with_name ns.threads (name_at names.threads t.0)) all
    → thread_in ns (name_at names.threads t.0) ≡ numbers_in names all t
target_read names ns all t follows = ap (λ (k : ℕ). record { 0 = k }) (sym (number_stays ns.threads all (name_at names.threads t.0) follows))

call_read : (names ns : NameLists) (n : ℕ) (all : List (List ℕ)) (c : Call) → Fit names n → SoFar names n ns → CallFits (named_call names c)
    → Follows (names_with ns (named_call names c)).threads all → call_in ns (named_call names c) ≡ renumbered_call (numbers_in names all) c
call_read names ns n all (call.Enter o) fit so fits follows = ap (λ (x : ObjectId). call.Enter x) (object_read names ns n o fit so fits)
call_read names ns n all (call.Exit o) fit so fits follows = ap (λ (x : ObjectId). call.Exit x) (object_read names ns n o fit so fits)
call_read names ns n all (call.Wait o a b) fit so fits follows = ap (λ (x : ObjectId). call.Wait x a b) (object_read names ns n o fit so fits.0)
call_read names ns n all (call.Notify o) fit so fits follows = ap (λ (x : ObjectId). call.Notify x) (object_read names ns n o fit so fits)
call_read names ns n all (call.NotifyAll o) fit so fits follows = ap (λ (x : ObjectId). call.NotifyAll x) (object_read names ns n o fit so fits)
call_read names ns n all (call.Holds o) fit so fits follows = ap (λ (x : ObjectId). call.Holds x) (object_read names ns n o fit so fits)
call_read names ns n all (call.Interrupt t) fit so fits follows = ap (λ (x : ThreadId). call.Interrupt x) (target_read names ns all t follows)
call_read names ns n all call.Interrupted fit so fits follows = refl
call_read names ns n all (call.IsInterrupted t) fit so fits follows = ap (λ (x : ThreadId). call.IsInterrupted x) (target_read names ns all t follows)
call_read names ns n all call.End fit so fits follows = refl

-- ---- steps

-- the thread of a step is one of the program's, and a script can write the line
abbrev pub IsKnown : NameLists → ℕ → Step → Type 0
IsKnown names n (step.Attach t) = ⊥
IsKnown names n (step.Begin t c) = (t.0 < n) × CallFits (named_call names c)
IsKnown names n (step.Go t) = t.0 < n
IsKnown names n (step.Expire t) = t.0 < n
IsKnown names n (step.Spurious t) = t.0 < n
IsKnown names n (step.Tick now) = now < 2 ^ 64

abbrev pub AreKnown : NameLists → ℕ → List Step → Type 0
AreKnown names n [] = Unit {0}
AreKnown names n (x ∷ xs) = IsKnown names n x × AreKnown names n xs

-- a thread of the program has its number, and its name is there
module _ (names ns : NameLists) (n : ℕ) (fit : Fit names n) (so : SoFar names n ns) (t : ThreadId) (lt : t.0 < n) where
  abbrev name : List ℕ
  name = name_at names.threads t.0

  within : t.0 < length names.threads
  within = let each = fit.each in omega (arith, each, lt)

  before : is_named (take n names.threads) name ≡ true
  before = named_before names.threads t.0 n fit.threads within lt

  one_read : thread_in ns name ≡ t
  one_read = by so.threads
    where
      by : Follows (take n names.threads) ns.threads → thread_in ns name ≡ t
      by (more, e) =
          ap (λ (k : ℕ). record { 0 = k })
          (ap (λ (l : List (List ℕ)). position_of l name) e ∙ position_front (take n names.threads) more name before
          ∙ own_position names.threads t.0 n fit.threads within (omega (arith, lt)))

  one_stays : with_thread ns name ≡ ns
  one_stays = by so.threads
    where
      by : Follows (take n names.threads) ns.threads → with_thread ns name ≡ ns
      by (more, e) =
          let there : is_named ns.threads name ≡ true = ap (λ (l : List (List ℕ)). is_named l name) e ∙ named_front (take n names.threads) more name before in
          ap (λ (b : Bool). record ns { threads = if b then ns.threads else ns.threads ++ name ∷ [] }) there

step_read : (names ns : NameLists) (n : ℕ) (all : List (List ℕ)) (x : Step) → Fit names n → SoFar names n ns → IsKnown names n x
    → Follows (names_in_step ns (named_step names x)).threads all → request_in ns (named_step names x) ≡ request.Step (renumbered_step (numbers_in names all) x)
step_read names ns n all (step.Attach t) fit so known follows = absurd known
step_read names ns n all (step.Begin t c) fit so known follows =
    let stays = one_stays names ns n fit so t known.0 in
    ap (λ (u : ThreadId). request.Step (step.Begin u (call_in (with_thread ns (name_at names.threads t.0)) (named_call names c)))) (one_read names ns n fit so t known.0)
    ∙ ap (λ (ms : NameLists). request.Step (step.Begin t (call_in ms (named_call names c)))) stays
    ∙ ap (λ (d : Call). request.Step (step.Begin t d))
    (call_read names ns n all c fit so known.1 (subst (λ (ms : NameLists). Follows (names_with ms (named_call names c)).threads all) stays follows))
step_read names ns n all (step.Go t) fit so known follows = ap (λ (u : ThreadId). request.Step (step.Go u)) (one_read names ns n fit so t known)
step_read names ns n all (step.Expire t) fit so known follows = ap (λ (u : ThreadId). request.Step (step.Expire u)) (one_read names ns n fit so t known)
step_read names ns n all (step.Spurious t) fit so known follows = ap (λ (u : ThreadId). request.Step (step.Spurious u)) (one_read names ns n fit so t known)
step_read names ns n all (step.Tick now) fit so known follows = refl

abbrev pub renumbered_steps : Numbers → List Step → List Step
renumbered_steps r xs = map (renumbered_step r) xs

steps_read : (names ns : NameLists) (n : ℕ) (all : List (List ℕ)) (xs : List Step) → Fit names n → SoFar names n ns → AreKnown names n xs
    → Follows (names_after ns (named_lines names xs)).threads all → requests_after ns (named_lines names xs) ≡ asked (renumbered_steps (numbers_in names all) xs)
steps_read names ns n all [] fit so known follows = refl
steps_read names ns n all (x ∷ xs) fit so known follows =
    let next : NameLists = names_in_step ns (named_step names x) in
    let later = lines_later names next xs in
    let rest = steps_read names next n all xs fit (so_far_on names n ns next so (step_later ns (named_step names x))) known.1 follows in
    let here = follows_on next.threads (names_after next (named_lines names xs)).threads all later.threads follows in
    ap (λ (q : Request). q ∷ requests_after next (named_lines names xs)) (step_read names ns n all x fit so known.0 here)
    ∙ ap (λ (qs : List Request). request.Step (renumbered_step (numbers_in names all) x) ∷ qs) rest

-- ---- attaches

lines_more : (names : NameLists) (n : ℕ) → named_lines names (attaches (suc n)) ≡ named_lines names (attaches n) ++ named_line names (step.Attach (thread_of n)) ∷ []
lines_more names n = map-append (named_line names) (attaches n) (step.Attach (thread_of n) ∷ [])

attached_names : (names : NameLists) (n : ℕ) → AreApart names.threads → n ≤ length names.threads
    → names_after (first_names names 0) (named_lines names (attaches n)) ≡ first_names names n
attached_names names zero apart le = refl
attached_names names (suc n) apart le =
    ap (λ (ls : List Line). names_after (first_names names 0) ls) (lines_more names n)
    ∙ names_after-one (named_lines names (attaches n)) (named_line names (step.Attach (thread_of n))) (first_names names 0)
    ∙ ap (λ (ns : NameLists). with_thread ns (name_at names.threads n)) (attached_names names n apart (omega (arith, le)))
    ∙ thread_next names n apart (omega (arith, le))

attached_again : (names : NameLists) (n : ℕ) → AreApart names.threads → n ≤ length names.threads
    → requests_after (first_names names 0) (named_lines names (attaches n)) ≡ asked (attaches n)
attached_again names zero apart le = refl
attached_again names (suc n) apart le =
    let one : thread_in (first_names names n) (name_at names.threads n) ≡ thread_of n =
    ap (λ (k : ℕ). record { 0 = k }) (own_position names.threads n n apart (omega (arith, le)) (omega arith)) in
    ap (λ (ls : List Line). requests_after (first_names names 0) ls) (lines_more names n)
    ∙ requests_after-one (named_lines names (attaches n)) (named_line names (step.Attach (thread_of n))) (first_names names 0)
    ∙ ap (λ (rs : List Request). rs ++ requests_then (names_after (first_names names 0) (named_lines names (attaches n))) (named_line names (step.Attach (thread_of n)))) (attached_again names n apart (omega (arith, le)))
    ∙ ap (λ (ns : NameLists). asked (attaches n) ++ request.Step (step.Attach (thread_in ns (name_at names.threads n))) ∷ []) (attached_names names n apart (omega (arith, le)))
    ∙ ap (λ (t : ThreadId). asked (attaches n) ++ request.Step (step.Attach t) ∷ []) one
    ∙ sym (map-append (λ (x : Step). request.Step x) (attaches n) (step.Attach (thread_of n) ∷ []))

-- ---- objects

-- the lines of the objects from a number on
abbrev pub object_lines_of : NameLists → ℕ → List ℕ → List Line
object_lines_of names o [] = []
object_lines_of names o (low ∷ lows) = Object (name_at names.objects o) low ∷ object_lines_of names (suc o) lows

abbrev declared : NameLists → ℕ → NameLists
declared names o = record { threads = []; objects = take o names.objects }

declared_names : (names : NameLists) (o : ℕ) (lows : List ℕ) → AreApart names.objects → o + length lows ≡ length names.objects
    → names_after (declared names o) (object_lines_of names o lows) ≡ first_names names 0
declared_names names o [] apart e = ap (λ (ns : List (List ℕ)). record { threads = []; objects = ns }) (take_all o names.objects (omega (arith, e)))
declared_names names o (low ∷ lows) apart e =
    ap (λ (ns : List (List ℕ)). names_after (record { threads = []; objects = ns }) (object_lines_of names (suc o) lows)) (name_next names.objects o apart (omega (arith, e)))
    ∙ declared_names names (suc o) lows apart (omega (arith, e))

declared_none : (names : NameLists) (ns : NameLists) (o : ℕ) (lows : List ℕ) → requests_after ns (object_lines_of names o lows) ≡ []
declared_none names ns o [] = refl
declared_none names ns o (low ∷ lows) = declared_none names (names_then ns (Object (name_at names.objects o) low)) (suc o) lows

-- ---- all of them

requests_append : (ns : NameLists) (ls ks : List Line) → requests_after ns (ls ++ ks) ≡ requests_after ns ls ++ requests_after (names_after ns ls) ks
requests_append ns [] ks = refl
requests_append ns (l ∷ ls) ks =
    ap (λ (rs : List Request). requests_then ns l ++ rs) (requests_append (names_then ns l) ls ks)
    ∙ sym (append_assoc (requests_then ns l) (requests_after (names_then ns l) ls) (requests_after (names_after (names_then ns l) ls) ks))

-- the names that are there behind the lines of some steps
abbrev pub all_names : NameLists → ℕ → List Step → List (List ℕ)
all_names names n xs = (names_after (first_names names n) (named_lines names xs)).threads

-- The lines of objects, attaches and steps ask for the attaches and the steps, which name threads that the program has
-- not by the numbers that they have among these names.
pub record AreRead (names : NameLists) (lows : List ℕ) (n : ℕ) (xs : List Step) : Type 0 where
  pub numbers : Numbers
  pub others : AreForOthers n numbers
  pub these : numbers ≡ numbers_in names (all_names names n xs)
  pub requests : requests_after no_names (object_lines_of names 0 lows ++ (named_lines names (attaches n) ++ named_lines names xs)) ≡ asked (attaches n ++ renumbered_steps numbers xs)

pub asked_again : (names : NameLists) (lows : List ℕ) (n : ℕ) (xs : List Step) → AreApart names.threads → AreNames names.threads → AreApart names.objects
    → length names.objects ≡ length lows → n ≤ length names.threads → AreKnown names n xs → AreRead names lows n xs
asked_again names lows n xs threads are_names objects long each known =
    let fit : Fit names n = record { threads = threads; are_names = are_names; objects = objects; each = each } in
    let first : NameLists = first_names names n in
    let so : SoFar names n first = record { threads = follows_itself (take n names.threads); objects = refl } in
    let all : List (List ℕ) = all_names names n xs in
    let numbers : Numbers = numbers_in names all in
    let later = lines_later names first xs in
    let rest : List Line = named_lines names (attaches n) ++ named_lines names xs in
    record {
      numbers = numbers;
      others = for_others names n all fit later.threads;
      these = refl;
      requests =
          requests_append no_names (object_lines_of names 0 lows) rest
          ∙ ap (λ (rs : List Request). rs ++ requests_after (names_after no_names (object_lines_of names 0 lows)) rest) (declared_none names no_names 0 lows)
          ∙ ap (λ (ns : NameLists). requests_after ns rest) (declared_names names 0 lows objects (omega (arith, long)))
          ∙ requests_append (first_names names 0) (named_lines names (attaches n)) (named_lines names xs)
          ∙ ap (λ (rs : List Request). rs ++ requests_after (names_after (first_names names 0) (named_lines names (attaches n))) (named_lines names xs)) (attached_again names n threads each)
          ∙ ap (λ (ns : NameLists). asked (attaches n) ++ requests_after ns (named_lines names xs)) (attached_names names n threads each)
          ∙ ap (λ (rs : List Request). asked (attaches n) ++ rs) (steps_read names first n all xs fit so known (follows_itself all))
          ∙ sym (map-append (λ (x : Step). request.Step x) (attaches n) (renumbered_steps numbers xs));
    }

-- ---- at most one name more than the program has threads

thread_stays : (names : NameLists) (t : ThreadId) (m : ℕ) → AreApart names.threads → t.0 < length names.threads → t.0 < m
    → with_thread (first_names names m) (name_at names.threads t.0) ≡ first_names names m
thread_stays names t m apart lt below = ap (λ (ns : List (List ℕ)). record { threads = ns; objects = names.objects }) (name_stays names.threads t.0 m apart lt below)

-- so many names have come behind a line, at least as many as the program has threads
record Next (all : NameLists) (n : ℕ) (new : NameLists) : Type 0 where
  pub count : ℕ
  pub more : n ≤ count
  pub names : new ≡ first_names all count

target_next : (names : NameLists) (t : ThreadId) (n m : ℕ) → AreApart names.threads → length names.threads ≤ n + 1 → n ≤ m → t.0 < length names.threads
    → Next names n (with_thread (first_names names m) (name_at names.threads t.0))
target_next names t n m apart few le lt = by (cases_lt t.0 m)
  where
    by : (t.0 < m) ⊎ (m ≤ t.0) → Next names n (with_thread (first_names names m) (name_at names.threads t.0))
    by (inl below) = record { count = m; more = le; names = thread_stays names t m apart lt below }
    by (inr past) =
        let here : m ≡ t.0 = omega (arith, past, few, le, lt) in
        record {
          count = suc m;
          more = omega (arith, le);
          names = subst (λ (k : ℕ). with_thread (first_names names m) (name_at names.threads k) ≡ first_names names (suc m)) here
              (thread_next names m apart (omega (arith, here, lt)));
        }

call_next : (names : NameLists) (n m : ℕ) (c : Call) → AreApart names.threads → length names.threads ≤ n + 1 → n ≤ m → CallFits (named_call names c)
    → Next names n (names_with (first_names names m) (named_call names c))
call_next names n m (call.Enter o) apart few le fits = record { count = m; more = le; names = refl }
call_next names n m (call.Exit o) apart few le fits = record { count = m; more = le; names = refl }
call_next names n m (call.Wait o a b) apart few le fits = record { count = m; more = le; names = refl }
call_next names n m (call.Notify o) apart few le fits = record { count = m; more = le; names = refl }
call_next names n m (call.NotifyAll o) apart few le fits = record { count = m; more = le; names = refl }
call_next names n m (call.Holds o) apart few le fits = record { count = m; more = le; names = refl }
call_next names n m (call.Interrupt t) apart few le fits = target_next names t n m apart few le (has_number names.threads t.0 fits)
call_next names n m call.Interrupted apart few le fits = record { count = m; more = le; names = refl }
call_next names n m (call.IsInterrupted t) apart few le fits = target_next names t n m apart few le (has_number names.threads t.0 fits)
call_next names n m call.End apart few le fits = record { count = m; more = le; names = refl }

step_next : (names : NameLists) (n m : ℕ) (x : Step) → Fit names n → length names.threads ≤ n + 1 → n ≤ m → IsKnown names n x
    → Next names n (names_in_step (first_names names m) (named_step names x))
step_next names n m (step.Attach t) fit few le known = absurd known
step_next names n m (step.Begin t c) fit few le known =
    let each = fit.each in let below = known.0 in
    subst (λ (ns : NameLists). Next names n (names_with ns (named_call names c)))
    (sym (thread_stays names t m fit.threads (omega (arith, each, below)) (omega (arith, le, below))))
    (call_next names n m c fit.threads few le known.1)
step_next names n m (step.Go t) fit few le known =
    let each = fit.each in
    record { count = m; more = le; names = thread_stays names t m fit.threads (omega (arith, each, known)) (omega (arith, le, known)) }
step_next names n m (step.Expire t) fit few le known =
    let each = fit.each in
    record { count = m; more = le; names = thread_stays names t m fit.threads (omega (arith, each, known)) (omega (arith, le, known)) }
step_next names n m (step.Spurious t) fit few le known =
    let each = fit.each in
    record { count = m; more = le; names = thread_stays names t m fit.threads (omega (arith, each, known)) (omega (arith, le, known)) }
step_next names n m (step.Tick now) fit few le known = record { count = m; more = le; names = refl }

names_next : (names : NameLists) (n m : ℕ) (xs : List Step) → Fit names n → length names.threads ≤ n + 1 → n ≤ m → AreKnown names n xs
    → Next names n (names_after (first_names names m) (named_lines names xs))
names_next names n m [] fit few le known = record { count = m; more = le; names = refl }
names_next names n m (x ∷ xs) fit few le known =
    let next = step_next names n m x fit few le known.0 in
    let rest = names_next names n next.count xs fit few next.more known.1 in
    record { count = rest.count; more = rest.more; names = ap (λ (ns : NameLists). names_after ns (named_lines names xs)) next.names ∙ rest.names }

call_same : (names : NameLists) (r : Numbers) (c : Call) → ((t : ThreadId) → t.0 < length names.threads → r t ≡ t) → CallFits (named_call names c)
    → renumbered_call r c ≡ c
call_same names r (call.Enter o) same fits = refl
call_same names r (call.Exit o) same fits = refl
call_same names r (call.Wait o a b) same fits = refl
call_same names r (call.Notify o) same fits = refl
call_same names r (call.NotifyAll o) same fits = refl
call_same names r (call.Holds o) same fits = refl
call_same names r (call.Interrupt t) same fits = ap (λ (u : ThreadId). call.Interrupt u) (same t (has_number names.threads t.0 fits))
call_same names r call.Interrupted same fits = refl
call_same names r (call.IsInterrupted t) same fits = ap (λ (u : ThreadId). call.IsInterrupted u) (same t (has_number names.threads t.0 fits))
call_same names r call.End same fits = refl

step_same : (names : NameLists) (n : ℕ) (r : Numbers) (x : Step) → ((t : ThreadId) → t.0 < length names.threads → r t ≡ t) → IsKnown names n x
    → renumbered_step r x ≡ x
step_same names n r (step.Attach t) same known = refl
step_same names n r (step.Begin t c) same known = ap (λ (d : Call). step.Begin t d) (call_same names r c same known.1)
step_same names n r (step.Go t) same known = refl
step_same names n r (step.Expire t) same known = refl
step_same names n r (step.Spurious t) same known = refl
step_same names n r (step.Tick now) same known = refl

steps_same : (names : NameLists) (n : ℕ) (r : Numbers) (xs : List Step) → ((t : ThreadId) → t.0 < length names.threads → r t ≡ t) → AreKnown names n xs
    → renumbered_steps r xs ≡ xs
steps_same names n r [] same known = refl
steps_same names n r (x ∷ xs) same known =
    ap (λ (y : Step). y ∷ renumbered_steps r xs) (step_same names n r x same known.0) ∙ ap (λ (ys : List Step). x ∷ ys) (steps_same names n r xs same known.1)

-- then each has the number that the program gives it
pub few_same : (names : NameLists) (n : ℕ) (xs : List Step) → AreApart names.threads → AreNames names.threads → AreApart names.objects → n ≤ length names.threads
    → length names.threads ≤ n + 1 → AreKnown names n xs → renumbered_steps (numbers_in names (all_names names n xs)) xs ≡ xs
few_same names n xs threads are_names objects each few known =
    let fit : Fit names n = record { threads = threads; are_names = are_names; objects = objects; each = each } in
    let next = names_next names n n xs fit few (omega arith) known in
    let more = next.more in
    steps_same names n (numbers_in names (all_names names n xs)) xs (λ t lt.
    ap (λ (k : ℕ). record { 0 = k })
    (ap (λ (ns : NameLists). position_of ns.threads (name_at names.threads t.0)) next.names ∙ own_position names.threads t.0 next.count threads lt (omega (arith, more, few, lt)))) known

-- and their low bytes are those of the objects
low_steps : (names : NameLists) (xs : List Step) → low_bytes (named_lines names xs) ≡ []
low_steps names [] = refl
low_steps names (x ∷ xs) = low_steps names xs

pub lows_again : (names : NameLists) (o : ℕ) (lows : List ℕ) (xs : List Step) → low_bytes (object_lines_of names o lows ++ named_lines names xs) ≡ lows
lows_again names o [] xs = low_steps names xs
lows_again names o (low ∷ lows) xs = ap (λ (ls : List ℕ). low ∷ ls) (lows_again names (suc o) lows xs)
