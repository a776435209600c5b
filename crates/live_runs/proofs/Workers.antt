-- Works, and what they came to.
use Rattle.std.proofs.Common.{◌≡◌, ℕ, suc, List, [], ◌∷◌, ◌++◌, length, map, reverse, Vec, vec_items, Option, Some, None, IfNone, refl, sym, ap, subst, ◌∙◌, arith}
use Rattle.std.specs.List.{All}
use Rattle.std.specs.declared.alloc.Global.{Global}
use Rattle.std.proofs.lemmas.List.{map-append}
use Rattle.std.proofs.lemmas.List.Elements.{All-nil, All-cons, All-head, All-tail, All-map}
use mathlib.Core.List.{reverse-cons}
use Rattle.fast_path.specs.declared.calls.Call.{Call}
use Rattle.script_text.specs.declared.lines.Line.{Line}
use Rattle.header_words.specs.Passes.{Opening, new_passes}
use Rattle.header_words.proofs.Opens.{new_passes_belong}
use Rattle.live_turns.specs.Ends.{Disagrees}
use Rattle.live_turns.specs.Ways.{Holding, PassState, new_holding}
use Rattle.live_threads.specs.declared.driving.Work.{Work}
use Rattle.live_threads.specs.declared.driving.Worked.{Worked}
use Rattle.live_threads.specs.Driving.{AllDriven, CanDrive, IsLive}
use Rattle.live_threads.specs.Ends.{at_rest}
use Rattle.live_threads.proofs.Drives.{all_of_map}
use Rattle.live_scripts.specs.Plans.{calls_of, lows_of, monitors_in, objects_of}
use Rattle.live_scripts.specs.Rules.{attached_threads}
use Rattle.live_runs.specs.Faults.{IsOfClose, IsOfRun}
use Rattle.live_runs.specs.Runs.{HasWorked, HaveRun, Worker, told_in, told_of}
use Rattle.live_runs.specs.declared.faults.RunFault.{RunFault}
use Rattle.live_runs.specs.declared.faults.RunFault.TheVariants.{File, Torn}

map-reverse : {X Y : Type 0} (f : X → Y) (xs : List X) → map f (reverse xs) ≡ reverse (map f xs)
map-reverse f [] = refl
map-reverse f (x ∷ xs) =
    ap (map f) (reverse-cons x xs) ∙ (map-append f (reverse xs) (x ∷ []) ∙ (ap (λ ys. ys ++ f x ∷ []) (map-reverse f xs) ∙ sym (reverse-cons (f x) (map f xs))))

-- a row that was moved over from the end of another, whole
pub all_moved : {X Y : Type 0} (f : X → Y) (left : List Y) (xs more : List X) (whole : List Y) → left ≡ [] → more ≡ reverse xs → left ++ reverse (map f xs) ≡ whole → map f more ≡ whole
all_moved f left xs more whole none m h = ap (map f) m ∙ (map-reverse f xs ∙ (ap (λ ys. ys ++ reverse (map f xs)) (sym none) ∙ h))

both : {X : Type 0} (P Q : X → Type 0) (xs : List X) → All P xs → All Q xs → All (λ x. P x × Q x) xs
both P Q [] p q = All-nil (λ x. P x × Q x)
both P Q (x ∷ xs) p q = All-cons (λ x. P x × Q x) x xs (All-head P x xs p, All-head Q x xs q) (both P Q xs (All-tail P x xs p) (All-tail Q x xs q))

-- works of new passes, whose calls are those of live threads
pub can_drive : {L : Type 0} (z : Opening) (count : ℕ) (works : List (Work L)) (rows : List (List Call)) → map (λ w. w.pass) works ≡ map new_holding (new_passes z 1 count)
    → map (λ w. w.calls.items) works ≡ rows → All (All IsLive) rows → All (CanDrive z) works
can_drive {L} z count works rows passes calls live =
    let belong : All (λ (p : Holding). p.words.opening ≡ z) (map new_holding (new_passes z 1 count)) =
    All-map (λ (p : Holding). p.words.opening ≡ z) new_holding (new_passes z 1 count) (new_passes_belong z 1 count) in
    both (λ w. w.pass.words.opening ≡ z) (λ w. All IsLive w.calls.items) works
    (all_of_map (λ w. w.pass) (λ (p : Holding). p.words.opening ≡ z) works (map new_holding (new_passes z 1 count)) passes belong)
    (all_of_map (λ w. w.calls.items) (All IsLive) works rows calls live)

-- the workers that did these works
pub workers_of : {L : Type 0} → List (Work L) → List (Worked L) → List Worker
workers_of [] ds = []
workers_of (w ∷ ws) [] = []
workers_of (w ∷ ws) (d ∷ ds) = record { before = w.pass; calls = w.calls.items; answers = d.answers.items; stopped = d.stopped; after = d.pass } ∷ workers_of ws ds

pub workers_before : {L : Type 0} (z : Opening) (ws : List (Work L)) (ds : List (Worked L)) → AllDriven z ws ds → map (λ (w : Worker). w.before) (workers_of ws ds) ≡ map (λ w. w.pass) ws
unfolding workers_of
workers_before z [] [] h = refl
workers_before z [] (d ∷ ds) h = absurd h
workers_before z (w ∷ ws) [] h = absurd h
workers_before z (w ∷ ws) (d ∷ ds) h = ap (λ ps. w.pass ∷ ps) (workers_before z ws ds h.1)

pub workers_calls : {L : Type 0} (z : Opening) (ws : List (Work L)) (ds : List (Worked L)) → AllDriven z ws ds → map (λ (w : Worker). w.calls) (workers_of ws ds) ≡ map (λ w. w.calls.items) ws
unfolding workers_of
workers_calls z [] [] h = refl
workers_calls z [] (d ∷ ds) h = absurd h
workers_calls z (w ∷ ws) [] h = absurd h
workers_calls z (w ∷ ws) (d ∷ ds) h = ap (λ ps. w.calls.items ∷ ps) (workers_calls z ws ds h.1)

pub workers_after : {L : Type 0} (z : Opening) (ws : List (Work L)) (ds : List (Worked L)) → AllDriven z ws ds → map (λ (w : Worker). at_rest w.after) (workers_of ws ds) ≡ map at_rest (map (λ d. d.pass) ds)
unfolding workers_of
workers_after z [] [] h = refl
workers_after z [] (d ∷ ds) h = absurd h
workers_after z (w ∷ ws) [] h = absurd h
workers_after z (w ∷ ws) (d ∷ ds) h = ap (λ ps. at_rest d.pass ∷ ps) (workers_after z ws ds h.1)

pub workers_told : {L : Type 0} (z : Opening) (ws : List (Work L)) (ds : List (Worked L)) → AllDriven z ws ds → map told_of (workers_of ws ds) ≡ map told_in ds
unfolding workers_of
workers_told z [] [] h = refl
workers_told z [] (d ∷ ds) h = absurd h
workers_told z (w ∷ ws) [] h = absurd h
workers_told z (w ∷ ws) (d ∷ ds) h = ap (λ ts. told_in d ∷ ts) (workers_told z ws ds h.1)

pub workers_worked : {L : Type 0} (z : Opening) (ws : List (Work L)) (ds : List (Worked L)) → AllDriven z ws ds → All (HasWorked z) (workers_of ws ds)
unfolding workers_of
workers_worked z [] [] h = All-nil (HasWorked z)
workers_worked z [] (d ∷ ds) h = absurd h
workers_worked z (w ∷ ws) [] h = absurd h
workers_worked z (w ∷ ws) (d ∷ ds) h =
    All-cons (HasWorked z) (record { before = w.pass; calls = w.calls.items; answers = d.answers.items; stopped = d.stopped; after = d.pass }) (workers_of ws ds)
    (record { answered = h.0.1; whole = h.0.2; cut = h.0.3 }) (workers_worked z ws ds h.1)

-- the threads of these lines ran
pub have_run : {L : Type 0} (ls : List Line) (z : Opening) (ws : List (Work L)) (ds : List (Worked L)) → z.lows ≡ lows_of ls → z.count ≡ length (attached_threads ls)
    → map (λ w. w.pass) ws ≡ map new_holding (new_passes z 1 z.count)
    → map (λ w. w.calls.items) ws ≡ map (λ t. calls_of (objects_of ls) (attached_threads ls) t ls) (attached_threads ls)
    → AllDriven z ws ds → HaveRun ls z (workers_of ws ds)
have_run ls z ws ds lows count passes calls driven = record {
  lows = lows;
  count = count;
  starts = workers_before z ws ds driven ∙ passes;
  calls = workers_calls z ws ds driven ∙ calls;
  worked = workers_worked z ws ds driven;
}

-- the passes as their workers left them
pub passes_after : {L : Type 0} (z : Opening) (ws : List (Work L)) (ds : List (Worked L)) (ps : List Holding) → AllDriven z ws ds → ps ≡ map (λ d. d.pass) ds
    → map at_rest ps ≡ map (λ (w : Worker). at_rest w.after) (workers_of ws ds)
passes_after z ws ds ps driven same = ap (map at_rest) same ∙ sym (workers_after z ws ds driven)

-- why the close failed tells why the run did
pub of_run : (ls : List Line) (z : Opening) (limit : ℕ) (workers : List Worker) (ps : List PassState) (fault : RunFault) → HaveRun ls z workers
    → limit ≡ monitors_in ls → ps ≡ map (λ (w : Worker). at_rest w.after) workers → IsOfClose z limit ps fault → IsOfRun ls fault
of_run ls z limit workers ps (File f) ran many same told = told
of_run ls z limit workers ps Torn ran many same told = record {
  opening = z;
  workers = workers;
  ran = ran;
  torn = subst (λ qs. Disagrees z (monitors_in ls) qs) same (subst (λ n. Disagrees z n ps) many told);
}

-- passes that have moved on belong where they did
pub passes_belong : {L : Type 0} (z : Opening) (ws : List (Work L)) (ds : List (Worked L)) → AllDriven z ws ds → All (λ (p : Holding). p.words.opening ≡ z) (map (λ d. d.pass) ds)
passes_belong z [] [] h = All-nil (λ (p : Holding). p.words.opening ≡ z)
passes_belong z [] (d ∷ ds) h = absurd h
passes_belong z (w ∷ ws) [] h = absurd h
passes_belong z (w ∷ ws) (d ∷ ds) h = All-cons (λ (p : Holding). p.words.opening ≡ z) d.pass (map (λ d. d.pass) ds) h.0.0 (passes_belong z ws ds h.1)

-- as many are told of as were driven
pub as_many : {L : Type 0} (z : Opening) (ws : List (Work L)) (ds : List (Worked L)) → AllDriven z ws ds → length ds ≡ length ws
as_many z [] [] h = refl
as_many z [] (d ∷ ds) h = absurd h
as_many z (w ∷ ws) [] h = absurd h
as_many z (w ∷ ws) (d ∷ ds) h = ap suc (as_many z ws ds h.1)

-- none is left, where the last was asked for and is none
pub none_left : {X : Type 0} (left : List X) (o : Option X) → ((x : X) → o ≡ Some x → ⊥) → IfNone o (left ≡ []) → left ≡ []
none_left left (Some x) not_some none = absurd (not_some x refl)
none_left left None not_some none = none

-- and then none of as many
pub none_of : {X Y : Type 0} (xs : List X) (ys : List Y) → xs ≡ [] → length ys ≡ length xs → ys ≡ []
none_of xs [] none same = refl
none_of xs (y ∷ ys) none same = absurd (omega (arith, same, ap length none))

calls-map : {L : Type 0} (works : List (Work L)) → map (λ w. vec_items w.calls) works ≡ map (λ v. v.items) (map (λ w. w.calls) works)
calls-map [] = refl
calls-map (w ∷ ws) = ap (λ cs. vec_items w.calls ∷ cs) (calls-map ws)

-- the calls of works, one by one
pub calls_are : {L : Type 0} (works : List (Work L)) (rows : List (Vec Call Global)) (calls : List (List Call)) → map (λ w. w.calls) works ≡ rows → map (λ v. v.items) rows ≡ calls → map (λ w. vec_items w.calls) works ≡ calls
calls_are works rows calls same each = calls-map works ∙ (ap (map (λ v. v.items)) same ∙ each)
