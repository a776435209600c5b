-- The script of some choices, line by line: it is a script, and is read as its steps.
use native.Mathlib.Omega.{arith}
use Rattle.std.proofs.Common.{◌≡◌, ◌∙◌, sym, ap, refl, subst, ℕ, zero, suc, ◌+◌, ◌<◌, ◌≤◌, Bool, true, false, not, ◌&&◌, ◌||◌, nat_lt, List, [], ◌∷◌, ◌++◌, length, Option, Some, None, Result, Ok, append_assoc, length-append}
use Rattle.std.specs.Prelude.{if◌then◌else◌, slice_get, slice_index_or}
use Rattle.std.specs.List.{list_all, list_any}
use Rattle.std.specs.Str.{bytes_eq}
use Rattle.std.proofs.lemmas.Bool.{lt-ltb, ltb-true}
use Rattle.std.proofs.lemmas.List.{map-append}
use Rattle.fast_path.specs.declared.calls.Call.{Call}
use Rattle.script_text.specs.declared.lines.Line.{Line}
use Rattle.script_text.specs.declared.lines.Line.TheVariants.{World, Object, Step as StepOf}
use Rattle.script_text.specs.Lines.{CallFits, Continues, IsScript, StepFits, is_object, is_object_named, line_text, lines_from, parts_of, script_text}
use Rattle.script_text.proofs.ScriptLaws.{Continues-append, lines_again, script_text-append}
use Rattle.step_core.specs.declared.steps.Step.{Step}
use Rattle.step_core.specs.declared.steps.Step.TheVariants as step
use Rattle.step_core.specs.Requests.{world_after}
use Rattle.step_core.specs.World.{WorldState}
use Rattle.history.specs.Histories.{first_world}
use Rattle.history.specs.NameLists.{NameLists, name_at}
use Rattle.history.specs.Numbering.{IsWorldWith, low_bytes, requests_of}
use Rattle.history.specs.declared.plans.Plan.{Plan}
use Rattle.dump.specs.Reports.{named_call}
use Rattle.explore.specs.declared.programs.Program.{Program}
use Rattle.explore.specs.declared.programs.Choice.{Choice}
use Rattle.explore.specs.declared.programs.Choice.TheVariants as choice
use Rattle.explore.specs.Found.{IsEnd}
use Rattle.explore.specs.Replies.{replies_of}
use Rattle.explore.specs.States.{ProgramState, after, begin_of, call_below, opening, played, step_at, step_for, step_of_thread, thread_of, tick_of}
use Rattle.explore_runs.specs.Replays.{HasFewStrangers, IsNamed, Replays}
use Rattle.explore_runs.specs.Scripts.{attach_lines, choice_line, choice_lines, named_step, object_lines_from, script_of}
use Rattle.explore_runs.specs.Steps.{AreAccepted, LeadTo, attaches, granted, empty_world, replies_told, script_steps, step_in, steps_from}
use Rattle.explore_runs.proofs.Leading.{behind_attaches, from_leads, later_replies, lead_behind, script_leads, script_replies}
use Rattle.explore_runs.proofs.Naming.{differs}
use Rattle.explore_runs.proofs.Requests.{AreKnown, AreRead, IsKnown, asked, asked_again, few_same, lows_again, named_line, named_lines, object_lines_of, renumbered_steps}
use Rattle.explore_runs.proofs.Alike.{all_alike}
use Rattle.explore_runs.proofs.Ended.{end_stays, kept_opening, kept_played, no_attaches, opening_stays}
use Rattle.explore_runs.proofs.Renumbering.{Numbers, renumbered}

-- ---- its lines

abbrev world_of : Program → Line
world_of p = World p.monitors p.indices p.split

abbrev lines_of : NameLists → Program → List Choice → List Line
lines_of names p cs =
    world_of p ∷ (object_lines_of names 0 p.lows.items ++ (named_lines names (attaches (length p.starts.items)) ++ named_lines names (steps_from p (Some (opening p)) cs)))

line_joined : (l : Line) (rest : List ℕ) → (line_text l ++ 10 ∷ []) ++ rest ≡ line_text l ++ (10 ∷ rest)
line_joined l rest = append_assoc (line_text l) (10 ∷ []) rest

objects_text : (names : NameLists) (o : ℕ) (lows : List ℕ) → object_lines_from names o lows ≡ script_text (object_lines_of names o lows)
objects_text names o [] = refl
objects_text names o (low ∷ lows) =
    let one : o + 1 ≡ suc o = omega arith in
    ap (λ (t : List ℕ). (line_text (Object (name_at names.objects o) low) ++ 10 ∷ []) ++ t)
    (ap (λ (k : ℕ). object_lines_from names k lows) one ∙ objects_text names (suc o) lows)
    ∙ line_joined (Object (name_at names.objects o) low) (script_text (object_lines_of names (suc o) lows))

one_text : (l : Line) → line_text l ++ 10 ∷ [] ≡ script_text (l ∷ [])
one_text l = refl

attaches_text : (names : NameLists) (n : ℕ) → attach_lines names n ≡ script_text (named_lines names (attaches n))
attaches_text names zero = refl
attaches_text names (suc n) =
    ap (λ (t : List ℕ). t ++ (line_text (named_line names (step.Attach (thread_of n))) ++ 10 ∷ [])) (attaches_text names n)
    ∙ sym (script_text-append (named_lines names (attaches n)) (named_line names (step.Attach (thread_of n)) ∷ []))
    ∙ ap script_text (sym (map-append (named_line names) (attaches n) (step.Attach (thread_of n) ∷ [])))

choice_text : (names : NameLists) (o : Option Step) (rest : List Step) → choice_line names o ++ script_text (named_lines names rest) ≡ script_text (named_lines names (step_in o ++ rest))
choice_text names None rest = refl
choice_text names (Some x) rest = line_joined (named_line names x) (script_text (named_lines names rest))

choices_text : (names : NameLists) (p : Program) (o : Option ProgramState) (cs : List Choice) → choice_lines names p o cs ≡ script_text (named_lines names (steps_from p o cs))
choices_text names p None [] = refl
choices_text names p (Some s) [] = refl
choices_text names p None (c ∷ cs) = refl
choices_text names p (Some s) (c ∷ cs) =
    ap (λ (t : List ℕ). choice_line names (step_for p s c) ++ t) (choices_text names p (after p s c) cs)
    ∙ choice_text names (step_for p s c) (steps_from p (after p s c) cs)

text_of_lines : (names : NameLists) (p : Program) (cs : List Choice) → script_of names p cs ≡ script_text (lines_of names p cs)
text_of_lines names p cs =
    let n = length p.starts.items in
    let behind : List Line = named_lines names (attaches (length p.starts.items)) ++ named_lines names (steps_from p (Some (opening p)) cs) in
    ap (λ (t : List ℕ). (line_text (world_of p) ++ 10 ∷ []) ++ t)
    (ap (λ (t : List ℕ). t ++ (attach_lines names (length p.starts.items) ++ choice_lines names p (Some (opening p)) cs)) (objects_text names 0 p.lows.items)
    ∙ ap (λ (t : List ℕ). script_text (object_lines_of names 0 p.lows.items) ++ (t ++ choice_lines names p (Some (opening p)) cs)) (attaches_text names (length p.starts.items))
    ∙ ap (λ (t : List ℕ). script_text (object_lines_of names 0 p.lows.items) ++ (script_text (named_lines names (attaches (length p.starts.items))) ++ t)) (choices_text names p (Some (opening p)) cs)
    ∙ ap (λ (t : List ℕ). script_text (object_lines_of names 0 p.lows.items) ++ t) (sym (script_text-append (named_lines names (attaches (length p.starts.items))) (named_lines names (steps_from p (Some (opening p)) cs))))
    ∙ sym (script_text-append (object_lines_of names 0 p.lows.items) behind))
    ∙ line_joined (world_of p) (script_text (object_lines_of names 0 p.lows.items ++ behind))

-- ---- they keep the rules

-- steps may follow a first line
abbrev AllFit : NameLists → List Step → Type 0
AllFit names [] = Unit {0}
AllFit names (x ∷ xs) = StepFits (named_step names x) × AllFit names xs

steps_follow : (names : NameLists) (first : Line) (more : List Line) (xs : List Step) → AllFit names xs → Continues (first ∷ more) (named_lines names xs)
steps_follow names first more [] fit = tt
steps_follow names first more (x ∷ xs) fit = (fit.0, refl, steps_follow names first (more ++ named_line names x ∷ []) xs fit.1)

all_objects : (more : List Line) (name : List ℕ) (low : ℕ) → list_all is_object more ≡ true → list_all is_object (more ++ Object name low ∷ []) ≡ true
all_objects [] name low h = refl
all_objects (World m k s ∷ more) name low h = absurd (cc)
all_objects (Object n j ∷ more) name low h = all_objects more name low h
all_objects (StepOf x ∷ more) name low h = absurd (cc)

none_named : (more : List Line) (name other : List ℕ) (low : ℕ) → list_any (is_object_named name) more ≡ false → bytes_eq name other ≡ false
    → list_any (is_object_named name) (more ++ Object other low ∷ []) ≡ false
none_named [] name other low h apart = rw apart refl
none_named (World m k s ∷ more) name other low h apart = none_named more name other low h apart
none_named (Object n j ∷ more) name other low h apart = by (bytes_eq name n) h (λ g. none_named more name other low g apart)
  where
    by : (b : Bool) → (b || list_any (is_object_named name) more) ≡ false
        → (list_any (is_object_named name) more ≡ false → list_any (is_object_named name) (more ++ Object other low ∷ []) ≡ false)
        → (b || list_any (is_object_named name) (more ++ Object other low ∷ [])) ≡ false
    by true g rest = absurd (cc)
    by false g rest = rest g
none_named (StepOf x ∷ more) name other low h apart = none_named more name other low h apart

-- the lines of objects that stand so far, and the names that are still to come
record Declared (names : NameLists) (o : ℕ) (more : List Line) : Type 0 where
  pub objects : list_all is_object more ≡ true
  pub long : length more ≡ o
  pub new : (k : ℕ) → o ≤ k → k < length names.objects → list_any (is_object_named (name_at names.objects k)) more ≡ false

may_declare : (more : List Line) (name : List ℕ) → list_all is_object more ≡ true → list_any (is_object_named name) more ≡ false → length more < 65535
    → (list_all is_object more && not (list_any (is_object_named name) more) && nat_lt (length more) 65535) ≡ true
may_declare more name all none few = rw (all, none, lt-ltb (length more) 65535 few) refl

objects_follow : (names : NameLists) (p : Program) (first : Line) (o : ℕ) (lows : List ℕ) (more : List Line) → IsNamed names p → Declared names o more
    → o + length lows ≡ length names.objects → ((k : ℕ) → slice_index_or lows k 0 < 256) → Continues (first ∷ more) (object_lines_of names o lows)
objects_follow names p first o [] more named so_far e fit = tt
objects_follow names p first o (low ∷ lows) more named so_far e fit =
    let long = so_far.long in
    let most = p.objects_fit in
    let each = named.each_object in
    let l = length-append more (Object (name_at names.objects o) low ∷ []) in
    let here : o < length names.objects = omega (arith, e) in (
      (named.objects o here, fit 0),
      may_declare more (name_at names.objects o) so_far.objects (so_far.new o (omega arith) here) (omega (arith, long, here, each, most)),
      objects_follow names p first (suc o) lows (more ++ Object (name_at names.objects o) low ∷ []) named (record {
        objects = all_objects more (name_at names.objects o) low so_far.objects;
        long = omega (arith, l, long);
        new = λ k le lt. none_named more (name_at names.objects k) (name_at names.objects o) low (so_far.new k (omega (arith, le)) lt)
            (differs (name_at names.objects k) (name_at names.objects o) (λ same. named.objects_apart o k (omega (arith, le)) lt (sym same)));
      }) (omega (arith, e)) (λ k. fit (suc k)),
    )

attaches_fit : (names : NameLists) (p : Program) (n : ℕ) → IsNamed names p → n ≤ length p.starts.items → AllFit names (attaches n)
attaches_fit names p zero named le = tt
attaches_fit names p (suc n) named le =
    let each = named.each_thread in
    fit_append (attaches n) (step.Attach (thread_of n)) (attaches_fit names p n named (omega (arith, le))) (named.threads n (omega (arith, le, each)))
  where
    fit_append : (xs : List Step) (x : Step) → AllFit names xs → StepFits (named_step names x) → AllFit names (xs ++ x ∷ [])
    fit_append [] x h g = (g, tt)
    fit_append (y ∷ xs) x h g = (h.0, fit_append xs x h.1 g)

-- what a choice means is known to the names
known_thread : (names : NameLists) (p : Program) (c : Choice) (k n : ℕ) (o : Option Step) → (k < length p.starts.items → (x : Step) → o ≡ Some x → IsKnown names (length p.starts.items) x)
    → (x : Step) → (if nat_lt k (length p.starts.items) then o else None) ≡ Some x → IsKnown names (length p.starts.items) x
known_thread names p c k n o h = by (nat_lt k (length p.starts.items)) refl
  where
    by : (b : Bool) → nat_lt k (length p.starts.items) ≡ b → (x : Step) → (if b then o else None) ≡ Some x → IsKnown names (length p.starts.items) x
    by true e x g = h (ltb-true k (length p.starts.items) e) x g
    by false e x g = absurd (cc)

known_some : (names : NameLists) (n : ℕ) (x y : Step) → Some x ≡ Some y → IsKnown names n x → IsKnown names n y
known_some names n x y e h = subst (λ (o : Option Step). known_in o) e h
  where
    known_in : Option Step → Type 0
    known_in o = elim o as (λ _. Type 0) [ None ↦ Unit {0} | Some z ↦ IsKnown names n z ]

known_begin : (names : NameLists) (p : Program) (k : ℕ) (o : Option Call) → k < length p.starts.items
    → ((c : Call) → o ≡ Some c → CallFits (named_call names c)) → (x : Step) → begin_of k o ≡ Some x → IsKnown names (length p.starts.items) x
known_begin names p k None lt h x e = absurd (cc)
known_begin names p k (Some c) lt h x e = known_some names (length p.starts.items) (step.Begin (thread_of k) c) x e (lt, h c refl)

known_call : (names : NameLists) (p : Program) (k n : ℕ) → IsNamed names p → (c : Call) → call_below p k n ≡ Some c → CallFits (named_call names c)
known_call names p k n named c e = by _ e
  where
    by : (b : Bool) → (if b then slice_get p.calls.items n else None) ≡ Some c → CallFits (named_call names c)
    by true g = named.calls n c g
    by false g = absurd (cc)

known_spurious : (names : NameLists) (p : Program) (k : ℕ) (b : Bool) → k < length p.starts.items → (x : Step)
    → (if b then Some (step.Spurious (thread_of k)) else None) ≡ Some x → IsKnown names (length p.starts.items) x
known_spurious names p k true lt x e = known_some names (length p.starts.items) (step.Spurious (thread_of k)) x e lt
known_spurious names p k false lt x e = absurd (cc)

known_at : (names : NameLists) (p : Program) (c : Choice) (k : ℕ) (o : Option ℕ) → IsNamed names p
    → ((n : ℕ) → k < length p.starts.items → (x : Step) → step_at p c n ≡ Some x → IsKnown names (length p.starts.items) x)
    → (x : Step) → step_of_thread p c k o ≡ Some x → IsKnown names (length p.starts.items) x
known_at names p c k None named h x e = absurd (cc)
known_at names p c k (Some n) named h x e = known_thread names p c k n (step_at p c n) (h n) x e

known_tick : (names : NameLists) (p : Program) (k : ℕ) (o : Option ℕ) → slice_get p.moments.items k ≡ o → IsNamed names p → (x : Step) → tick_of o ≡ Some x
    → IsKnown names (length p.starts.items) x
known_tick names p k None at named x e = absurd (cc)
known_tick names p k (Some now) at named x e = known_some names (length p.starts.items) (step.Tick now) x e (named.moments k now at)

step_known : (names : NameLists) (p : Program) (s : ProgramState) (c : Choice) (x : Step) → IsNamed names p → step_for p s c ≡ Some x → IsKnown names (length p.starts.items) x
step_known names p s (choice.Begin k) x named e =
    known_at names p (choice.Begin k) k (slice_get s.nexts k) named (λ n lt y g. known_begin names p k (call_below p k n) lt (known_call names p k n named) y g) x e
step_known names p s (choice.Go k) x named e =
    known_at names p (choice.Go k) k (slice_get s.nexts k) named (λ n lt y g. known_some names (length p.starts.items) (step.Go (thread_of k)) y g lt) x e
step_known names p s (choice.Expire k) x named e =
    known_at names p (choice.Expire k) k (slice_get s.nexts k) named (λ n lt y g. known_some names (length p.starts.items) (step.Expire (thread_of k)) y g lt) x e
step_known names p s (choice.Spurious k) x named e =
    known_at names p (choice.Spurious k) k (slice_get s.nexts k) named (λ n lt y g. known_spurious names p k p.spurious lt y g) x e
step_known names p s choice.Tick x named e = known_tick names p s.told (slice_get p.moments.items s.told) refl named x e

steps_known : (names : NameLists) (p : Program) (o : Option ProgramState) (cs : List Choice) → IsNamed names p → AreKnown names (length p.starts.items) (steps_from p o cs)
steps_known names p None [] named = tt
steps_known names p (Some s) [] named = tt
steps_known names p None (c ∷ cs) named = tt
steps_known names p (Some s) (c ∷ cs) named = by (step_for p s c) refl (steps_known names p (after p s c) cs named)
  where
    by : (o : Option Step) → step_for p s c ≡ o → AreKnown names (length p.starts.items) (steps_from p (after p s c) cs)
        → AreKnown names (length p.starts.items) (step_in o ++ steps_from p (after p s c) cs)
    by None e rest = rest
    by (Some x) e rest = (step_known names p s c x named e, rest)

known_fits : (names : NameLists) (p : Program) (x : Step) → IsNamed names p → IsKnown names (length p.starts.items) x → StepFits (named_step names x)
known_fits names p (step.Attach t) named known = absurd known
known_fits names p (step.Begin t c) named known = let each = named.each_thread in let lt = known.0 in (named.threads t.0 (omega (arith, each, lt)), known.1)
known_fits names p (step.Go t) named known = let each = named.each_thread in named.threads t.0 (omega (arith, each, known))
known_fits names p (step.Expire t) named known = let each = named.each_thread in named.threads t.0 (omega (arith, each, known))
known_fits names p (step.Spurious t) named known = let each = named.each_thread in named.threads t.0 (omega (arith, each, known))
known_fits names p (step.Tick now) named known = known

all_fit : (names : NameLists) (p : Program) (xs : List Step) → IsNamed names p → AreKnown names (length p.starts.items) xs → AllFit names xs
all_fit names p [] named known = tt
all_fit names p (x ∷ xs) named known = (known_fits names p x named known.0, all_fit names p xs named known.1)

is_script : (names : NameLists) (p : Program) (cs : List Choice) → IsNamed names p → IsScript (lines_of names p cs)
is_script names p cs named =
    let objects : List Line = object_lines_of names 0 p.lows.items in
    let known = steps_known names p (Some (opening p)) cs named in
    let each = named.each_object in (
      omega arith,
      (
        (p.monitors_fit, p.has_indices, p.indices_fit),
        refl,
        Continues-append objects (named_lines names (attaches (length p.starts.items)) ++ named_lines names (steps_from p (Some (opening p)) cs)) (world_of p ∷ [])
            (objects_follow names p (world_of p) 0 p.lows.items [] named (record { objects = refl; long = refl; new = λ k le lt. refl }) (omega (arith, each)) named.lows)
            (Continues-append (named_lines names (attaches (length p.starts.items))) (named_lines names (steps_from p (Some (opening p)) cs)) (world_of p ∷ objects)
            (steps_follow names (world_of p) objects (attaches (length p.starts.items)) (attaches_fit names p (length p.starts.items) named (omega arith)))
            (steps_follow names (world_of p) (objects ++ named_lines names (attaches (length p.starts.items))) (steps_from p (Some (opening p)) cs)
            (all_fit names p (steps_from p (Some (opening p)) cs) named known))),
      ),
    )

-- ---- and are read as the steps

same_lines : (xs ys : List Line) → IsScript xs → IsScript ys → script_text xs ≡ script_text ys → xs ≡ ys
same_lines xs ys hx hy e = inner xs ys (sym (lines_again xs hx) ∙ ap (λ (t : List ℕ). lines_from [] (parts_of t)) e ∙ lines_again ys hy)
  where
    inner : (xs ys : List Line) → ◌≡◌ {A = Result (List Line) ℕ} (Ok xs) (Ok ys) → xs ≡ ys
    inner xs ys g = cc

world_as_read : (plan : Plan) (p : Program) (rest : List Line) → IsWorldWith plan.monitors plan.indices plan.split (world_of p ∷ rest) → plan.lows.items ≡ p.lows.items
    → first_world plan ≡ empty_world p
world_as_read plan p rest world lows = rw (world.0, world.1, world.2, lows) refl

-- these steps are what the script is read as, and what comes of them
record Plays (names : NameLists) (p : Program) (cs : List Choice) (s : ProgramState) (xs : List Step) : Type 0 where
  pub requests : requests_of (lines_of names p cs) ≡ asked xs
  pub lead : LeadTo (empty_world p) xs s.world
  pub replies : (k : ℕ) → k < length p.starts.items → replies_told (empty_world p) xs (thread_of k) ≡ replies_of p s k

replays_by : (names : NameLists) (p : Program) (cs : List Choice) (s : ProgramState) (xs : List Step) → IsNamed names p → Plays names p cs s xs → Replays names p cs s
replays_by names p cs s xs named played =
    let text = text_of_lines names p cs in
    let is = is_script names p cs named in
    let attached_lines : List Line = named_lines names (attaches (length p.starts.items)) in
    let later_lines : List Line = named_lines names (steps_from p (Some (opening p)) cs) in
    let all_lines : attached_lines ++ later_lines ≡ named_lines names (script_steps p cs) = sym (map-append (named_line names) (attaches (length p.starts.items)) (steps_from p (Some (opening p)) cs)) in
    let lows : low_bytes (lines_of names p cs) ≡ p.lows.items =
    ap (λ (ls : List Line). low_bytes (object_lines_of names 0 p.lows.items ++ ls)) all_lines ∙ lows_again names 0 p.lows.items (script_steps p cs) in
    record {
      reads = (lines_of names p cs, is, text);
      plays = λ plan of.
          let same : of.lines ≡ lines_of names p cs = same_lines of.lines (lines_of names p cs) of.script is (sym of.text ∙ text) in
          let world : IsWorldWith plan.monitors plan.indices plan.split (lines_of names p cs) = subst (λ (ls : List Line). IsWorldWith plan.monitors plan.indices plan.split ls) same of.world in
          let begins : first_world plan ≡ empty_world p = world_as_read plan p (object_lines_of names 0 p.lows.items ++ (attached_lines ++ later_lines)) world (of.lows ∙ ap low_bytes same ∙ lows) in
          record {
            steps = xs;
            these = of.steps ∙ ap requests_of same ∙ played.requests;
            lead = subst (λ (w : WorldState). LeadTo w xs s.world) (sym begins) played.lead;
            replies = λ k within.
                subst (λ (w : WorldState). replies_told w xs (thread_of k) ≡ replies_of p s k) (sym begins) (played.replies k within);
          };
    }

-- the steps as they are read
read_steps : (names : NameLists) (p : Program) (cs : List Choice) → IsNamed names p → AreRead names p.lows.items (length p.starts.items) (steps_from p (Some (opening p)) cs)
read_steps names p cs named =
    asked_again names p.lows.items (length p.starts.items) (steps_from p (Some (opening p)) cs) named.threads_apart named.threads named.objects_apart named.each_object named.each_thread
    (steps_known names p (Some (opening p)) cs named)

-- where the calls name at most one thread that the program has not they are those of the choices
pub replays : (names : NameLists) (p : Program) (cs : List Choice) (s : ProgramState) → IsNamed names p → HasFewStrangers names p → played p cs ≡ Some s → Replays names p cs s
replays names p cs s named few leads =
    let n : ℕ = length p.starts.items in
    let later : List Step = steps_from p (Some (opening p)) cs in
    let read = read_steps names p cs named in
    let same : renumbered_steps read.numbers later ≡ later =
    ap (λ (r : Numbers). renumbered_steps r later) read.these
    ∙ few_same names n later named.threads_apart named.threads named.objects_apart named.each_thread few (steps_known names p (Some (opening p)) cs named) in
    replays_by names p cs s (script_steps p cs) named (record {
      requests = read.requests ∙ ap (λ (xs : List Step). asked (attaches n ++ xs)) same;
      lead = script_leads p cs s leads;
      replies = λ k within. script_replies p cs s k leads within;
    })

-- and else they have other numbers, which nobody stands with where no choice changes the state
pub end_replays : (names : NameLists) (p : Program) (cs : List Choice) (s : ProgramState) → IsNamed names p → played p cs ≡ Some s → IsEnd p s → Replays names p cs s
end_replays names p cs s named leads end =
    let n : ℕ = length p.starts.items in
    let later : List Step = steps_from p (Some (opening p)) cs in
    let read = read_steps names p cs named in
    let r : Numbers = read.numbers in
    let first = kept_opening p named.lows in
    let from = from_leads p cs (opening p) s leads in
    let alike = all_alike n r (opening p).world later read.others first.sound first.manned (no_attaches p (Some (opening p)) cs) from.0 in
    let begins = opening_stays p r in
    let kept = kept_played p cs s named.lows leads in
    replays_by names p cs s (attaches n ++ renumbered_steps r later) named (record {
      requests = read.requests;
      lead = lead_behind p (renumbered_steps r later) s.world
          (subst (λ (w : WorldState). AreAccepted w (renumbered_steps r later)) begins alike.accepted)
          (ap (λ (w : WorldState). world_after w (granted (renumbered_steps r later))) (sym begins) ∙ alike.leads ∙ ap (renumbered r) from.1 ∙ end_stays p s r kept end);
      replies = λ k within.
          behind_attaches p (renumbered_steps r later) (thread_of k)
          ∙ ap (λ (w : WorldState). replies_told w (renumbered_steps r later) (thread_of k)) (sym begins)
          ∙ alike.replies (thread_of k) ∙ later_replies p cs s k leads within;
    })
