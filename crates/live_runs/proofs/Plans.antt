-- What a live script has: few monitors, and calls of live threads.
use Rattle.std.proofs.Common.{◌≡◌, ℕ, ◌≤◌, suc, List, [], ◌∷◌, ◌++◌, length, map, Bor, Bool, true, false, refl, sym, ap, ◌∙◌, arith, if◌then◌else◌}
use Rattle.std.proofs.lemmas.List.{length-map}
use Rattle.std.specs.List.{All}
use Rattle.std.specs.Str.{bytes_eq}
use Rattle.std.proofs.lemmas.Bool.{and_parts}
use Rattle.std.proofs.lemmas.List.Elements.{All-nil, All-cons, All-append, All-map}
use Rattle.fast_path.specs.declared.calls.Call.{Call}
use Rattle.script_text.specs.declared.lines.Call.{Call as CallLine}
use Rattle.script_text.specs.declared.lines.Call.TheVariants as line
use Rattle.script_text.specs.declared.lines.Line.{Line}
use Rattle.script_text.specs.declared.lines.Line.TheVariants.{World, Object, Step}
use Rattle.script_text.specs.declared.lines.StepLine.{StepLine}
use Rattle.script_text.specs.declared.lines.StepLine.TheVariants.{Attach, Begin, Go, Expire, Spurious, Tick, Relayout}
use Rattle.script_text.specs.Names.{is_named}
use Rattle.live_scripts.specs.Rules.{IsLiveScript, Runs, attached_threads, is_live_call, may_do, may_run, most_threads}
use Rattle.live_scripts.specs.Plans.{call_in, calls_in, calls_of, lows_of, objects_of}
use Rattle.live_scripts.proofs.Few.{few_objects, few_threads}
use Rattle.live_threads.specs.Driving.{IsLive}

live_call : (objects threads : List (List ℕ)) (c : CallLine) → is_live_call c ≡ true → IsLive (call_in objects threads c)
live_call objects threads (line.Enter o) live e = absurd (cc)
live_call objects threads (line.Exit o) live e = absurd (cc)
live_call objects threads (line.Wait o m n) live e = absurd (cc)
live_call objects threads (line.Notify o) live e = absurd (cc)
live_call objects threads (line.NotifyAll o) live e = absurd (cc)
live_call objects threads (line.Holds o) live e = absurd (cc)
live_call objects threads (line.Interrupt t) live e = absurd (cc)
live_call objects threads line.Interrupted live e = absurd (cc)
live_call objects threads (line.IsInterrupted t) live e = absurd (cc)
live_call objects threads line.End live e = absurd (cc)

if_live : (b : Bool) (c : Call) → IsLive c → All IsLive (if b then c ∷ [] else [])
if_live true c live = All-cons IsLive c [] live (All-nil IsLive)
if_live false c live = All-nil IsLive

live_step : (objects threads names : List (List ℕ)) (thread : List ℕ) (most : ℕ) (s : StepLine) → may_do most names s ≡ true → All IsLive (calls_in objects threads thread (Step s))
live_step objects threads names thread most (Attach t) may = All-nil IsLive
live_step objects threads names thread most (Begin t c) may =
    if_live (bytes_eq t thread) (call_in objects threads c) (live_call objects threads c (and_parts (is_named names t) (is_live_call c) may).1)
live_step objects threads names thread most (Go t) may = All-nil IsLive
live_step objects threads names thread most (Expire t) may = All-nil IsLive
live_step objects threads names thread most (Spurious t) may = All-nil IsLive
live_step objects threads names thread most (Tick now) may = All-nil IsLive
live_step objects threads names thread most (Relayout split) may = All-nil IsLive

live_here : (objects threads : List (List ℕ)) (thread : List ℕ) (earlier : List Line) (l : Line) → may_run earlier l ≡ true → All IsLive (calls_in objects threads thread l)
live_here objects threads thread earlier (World m k s) may = All-nil IsLive
live_here objects threads thread earlier (Object name low) may = All-nil IsLive
live_here objects threads thread earlier (Step s) may = live_step objects threads (attached_threads earlier) thread (most_threads earlier) s may

pub live_calls : (objects threads : List (List ℕ)) (thread : List ℕ) (ls earlier : List Line) → Runs earlier ls → All IsLive (calls_of objects threads thread ls)
live_calls objects threads thread [] earlier runs = All-nil IsLive
live_calls objects threads thread (l ∷ ls) earlier runs =
    All-append IsLive (calls_in objects threads thread l) (calls_of objects threads thread ls) (live_here objects threads thread earlier l runs.0) (live_calls objects threads thread ls (earlier ++ l ∷ []) runs.1)

each_lives : (objects threads : List (List ℕ)) (ls : List Line) (names : List (List ℕ)) → Runs [] ls → All (λ t. All IsLive (calls_of objects threads t ls)) names
each_lives objects threads ls [] runs = All-nil (λ t. All IsLive (calls_of objects threads t ls))
each_lives objects threads ls (t ∷ ts) runs =
    All-cons (λ t. All IsLive (calls_of objects threads t ls)) t ts (live_calls objects threads t ls [] runs) (each_lives objects threads ls ts runs)

-- the rows of calls of all threads
pub rows_live : (ls : List Line) → IsLiveScript ls → All (All IsLive) (map (λ t. calls_of (objects_of ls) (attached_threads ls) t ls) (attached_threads ls))
rows_live ls live =
    All-map (All IsLive) (λ t. calls_of (objects_of ls) (attached_threads ls) t ls) (attached_threads ls) (each_lives (objects_of ls) (attached_threads ls) ls (attached_threads ls) live.1)

pub as_many_lows : (ls : List Line) → length (lows_of ls) ≡ length (objects_of ls)
as_many_lows [] = refl
as_many_lows (World m k s ∷ ls) = as_many_lows ls
as_many_lows (Object name low ∷ ls) = ap suc (as_many_lows ls)
as_many_lows (Step s ∷ ls) = as_many_lows ls

pub few_lows : (ls : List Line) → IsLiveScript ls → length (lows_of ls) ≤ 65535
few_lows ls live = omega (arith, as_many_lows ls, few_objects ls live)

-- as many threads as the plan of a live script has
pub threads_are : (ls : List Line) (threads : List (Bor (List ℕ))) → map (λ t. t.now) threads ≡ attached_threads ls → length threads ≡ length (attached_threads ls)
threads_are ls threads same = sym (length-map threads (λ t. t.now)) ∙ ap length same

pub few_named : (ls : List Line) (threads : List (Bor (List ℕ))) → IsLiveScript ls → map (λ t. t.now) threads ≡ attached_threads ls → length threads ≤ 64
few_named ls threads live same = omega (arith, threads_are ls threads same, few_threads ls live)

pub rows_are : {X Y Z : Type 0} (f : X → Y) (g : Z → Y) (rows : List X) (names : List Z) → map f rows ≡ map g names → length rows ≡ length names
rows_are f g rows names same = sym (length-map rows f) ∙ (ap length same ∙ length-map names g)
