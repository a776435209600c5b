-- A script has at most 65,535 objects, and a live script at most 64 threads.
use Rattle.std.proofs.Common.{◌≡◌, ◌≤◌, List, [], ◌∷◌, ◌++◌, length, true, not, ◌&&◌, nat_lt, sym, ap, subst, arith, append-nil, append_assoc, length-append}
use Rattle.std.specs.List.{list_all, list_any}
use Rattle.std.proofs.lemmas.Bool.{and_parts, ltb-true}
use Rattle.script_text.specs.declared.lines.Line.{Line}
use Rattle.script_text.specs.declared.lines.Line.TheVariants.{World, Object, Step}
use Rattle.script_text.specs.declared.lines.StepLine.TheVariants.{Attach, Begin, Go, Expire, Spurious, Tick, Relayout}
use Rattle.script_text.specs.Lines.{Continues, may_follow, is_object, is_object_named}
use Rattle.script_text.specs.Names.{is_named}
use Rattle.live_scripts.specs.Rules.{IsLiveScript, Runs, attached_threads, may_run, most_threads}
use Rattle.live_scripts.specs.Plans.{objects_of}
use Rattle.live_scripts.proofs.Positions.{objects_of-append}
use Rattle.live_scripts.proofs.Running.{attached-append}

abbrev Few : List Line → Type 0
Few [] = Unit {0}
Few (World m k s ∷ more) = length (objects_of more) ≤ 65535
Few (Object name low ∷ more) = ⊥
Few (Step s ∷ more) = ⊥

fewer : (ls : List Line) → length (objects_of ls) ≤ length ls
fewer [] = omega arith
fewer (World m k s ∷ ls) = let h = fewer ls in omega (arith, h)
fewer (Object name low ∷ ls) = let h = fewer ls in omega (arith, h)
fewer (Step s ∷ ls) = let h = fewer ls in omega (arith, h)

few_more : (e : List Line) (l : Line) → Few e → may_follow e l ≡ true → Few (e ++ l ∷ [])
few_more [] (World m k s) few follows = omega arith
few_more [] (Object name low) few follows = absurd (cc)
few_more [] (Step s) few follows = absurd (cc)
few_more (World m k s ∷ more) (World n i t) few follows = absurd (cc)
few_more (World m k s ∷ more) (Object name low) few follows =
    let room = ltb-true (length more) 65535 (and_parts (list_all is_object more && not (list_any (is_object_named name) more)) (nat_lt (length more) 65535) follows).1 in
    omega (arith, room, fewer more, ap length (objects_of-append more (Object name low ∷ [])), length-append (objects_of more) (objects_of (Object name low ∷ [])))
few_more (World m k s ∷ more) (Step t) few follows = omega (arith, few, ap length (objects_of-append more (Step t ∷ [])), length-append (objects_of more) [])
few_more (Object name low ∷ more) l few follows = absurd few
few_more (Step s ∷ more) l few follows = absurd few

few_all : (ls earlier : List Line) → Few earlier → Continues earlier ls → Few (earlier ++ ls)
few_all [] earlier few c = subst Few (sym (append-nil earlier)) few
few_all (l ∷ ls) earlier few c = subst Few (append_assoc earlier (l ∷ []) ls) (few_all ls (earlier ++ l ∷ []) (few_more earlier l few c.1) c.2)

few_is : (ls : List Line) → Few ls → length (objects_of ls) ≤ 65535
few_is [] few = omega arith
few_is (World m k s ∷ more) few = few
few_is (Object name low ∷ more) few = absurd few
few_is (Step s ∷ more) few = absurd few

pub few_objects : (ls : List Line) → IsLiveScript ls → length (objects_of ls) ≤ 65535
few_objects ls live = few_is ls (few_all ls [] tt live.0.1)

thread_more : (e : List Line) (l : Line) → length (attached_threads e) ≤ 64 → may_run e l ≡ true → length (attached_threads (e ++ l ∷ [])) ≤ 64
thread_more e (World m k s) few may = omega (arith, few, ap length (attached-append e (World m k s ∷ [])), length-append (attached_threads e) [])
thread_more e (Object name low) few may = omega (arith, few, ap length (attached-append e (Object name low ∷ [])), length-append (attached_threads e) [])
thread_more e (Step (Attach t)) few may =
    omega (arith, ltb-true (length (attached_threads e)) 64 (and_parts (not (is_named (attached_threads e) t) && nat_lt (length (attached_threads e)) (most_threads e)) (nat_lt (length (attached_threads e)) 64) may).1, ap length (attached-append e (Step (Attach t) ∷ [])), length-append (attached_threads e) (t ∷ []))
thread_more e (Step (Begin t call)) few may = omega (arith, few, ap length (attached-append e (Step (Begin t call) ∷ [])), length-append (attached_threads e) [])
thread_more e (Step (Go t)) few may = absurd (cc)
thread_more e (Step (Expire t)) few may = absurd (cc)
thread_more e (Step (Spurious t)) few may = absurd (cc)
thread_more e (Step (Tick now)) few may = absurd (cc)
thread_more e (Step (Relayout s)) few may = absurd (cc)

thread_all : (ls earlier : List Line) → length (attached_threads earlier) ≤ 64 → Runs earlier ls → length (attached_threads (earlier ++ ls)) ≤ 64
thread_all [] earlier few r = subst (λ (l : List Line). length (attached_threads l) ≤ 64) (sym (append-nil earlier)) few
thread_all (l ∷ ls) earlier few r =
    subst (λ (l : List Line). length (attached_threads l) ≤ 64) (append_assoc earlier (l ∷ []) ls) (thread_all ls (earlier ++ l ∷ []) (thread_more earlier l few r.0) r.1)

pub few_threads : (ls : List Line) → IsLiveScript ls → length (attached_threads ls) ≤ 64
few_threads ls live = thread_all ls [] (omega arith) live.1
