-- What a change of what a checker knows changes of the shown state.
use Rattle.std.specs.Prelude.{◌≡◌, ◌⊎◌, ℕ, ◌<◌, Bool, true, false, if◌then◌else◌, ◌==◌, nat_lt, List, length, Option, Some, None, get_or, replicate, zero, suc}
use Rattle.std.specs.Option.{option_map}
use Rattle.std.specs.FinMap as map
use Rattle.std.specs.FinMap.{get-empty}
use Rattle.std.specs.Ordering.{nat_cmp}
use Rattle.std.proofs.Common.{refl, ap, ◌∙◌, inl, inr, get_or-set_same, get_or-set_other}
use Rattle.std.proofs.Math.Path.{fun_ext}
use Rattle.std.proofs.lemmas.Bool.{cases_eq, eq-eqb, ne_eqb, lt-ltb}
use Rattle.std.proofs.lemmas.List.{length-set, length-replicate}
use Rattle.lock_word.specs.declared.ThreadId.{ThreadId}
use Rattle.lock_word.specs.declared.ObjectId.{ObjectId}
use Rattle.step_core.specs.declared.machine.Doing.{Doing}
use Rattle.step_core.specs.Machine.{State, Thread, Monitor, now_is, with_thread, with_monitor, opening}
use Rattle.fat_monitor.proofs.PostMaps.{get-remove_by}
use Rattle.jls_check.specs.declared.threads.Live.{Live}
use Rattle.jls_check.specs.declared.threads.ThreadRecord.{ThreadRecord}
use Rattle.jls_check.specs.declared.monitors.Held.{Held}
use Rattle.jls_check.specs.declared.monitors.ObjectRecord.{ObjectRecord}
use Rattle.jls_check.specs.LiveThreads.{live_in, live_of, without_live, owning_one_less, owning_one_more}
use Rattle.jls_check.specs.Monitors.{untouched, kept_at, waiting_in, with_monitor_held}
use Rattle.jls_check.specs.MachineState.{MachineState, state, put, with_held, held_at, left_by, thread_of, monitor_of}
use Rattle.jls_check.proofs.Kept.{live-with_live, live-owning_one_less, live-owning_one_more, held-left, held-joined, length-left, length-joined}

mapped_if : {X Y : Type 0} (f : X → Y) (b : Bool) (x y : Option X) → option_map f (if b then x else y) ≡ (if b then option_map f x else option_map f y)
mapped_if f true x y = refl
mapped_if f false x y = refl

-- states that tell the same are one
pub same_state : (s : State) {f g : ThreadId → Option Thread} {h i : ObjectId → Monitor} {m n : ℕ} → f ≡ g → h ≡ i → m ≡ n
    → ◌≡◌ {A = State} (record s { thread = f; monitor = h; objects = m }) (record s { thread = g; monitor = i; objects = n })
same_state s a b k j = record s { thread = a j; monitor = b j; objects = k j }

-- ---- a thread

pub held-left_by : (os : List ObjectRecord) (x : Option Live) (p : ObjectId) → (kept_at (left_by os x) p).held ≡ (kept_at os p).held
held-left_by os None p = refl
held-left_by os (Some x) p = held-left os x.act p

pub length-left_by : (os : List ObjectRecord) (x : Option Live) → length (left_by os x) ≡ length os
length-left_by os None = refl
length-left_by os (Some x) = length-left os x.act

pub length-put : (v : MachineState) (t : ThreadId) (flag : Bool) (act : Doing) → length (put v t flag act).objects ≡ length v.objects
length-put v t flag act = length-joined (left_by v.objects (live_of v.threads t)) act ∙ length-left_by v.objects (live_of v.threads t)

-- the shown state has the flag and the act that were put
pub state-put : (v : MachineState) (t : ThreadId) (flag : Bool) (act : Doing) → state (put v t flag act) ≡ now_is (state v) t flag act
state-put v t flag act =
    let x : Live = record { flag = flag; act = act } in
    same_state (state v)
    (fun_ext (λ u. ap (option_map thread_of) (live-with_live v.threads t x u) ∙ mapped_if thread_of (u.0 == t.0) (Some x) (live_of v.threads u)))
    (fun_ext (λ o. ap monitor_of (held-joined (left_by v.objects (live_of v.threads t)) act o ∙ held-left_by v.objects (live_of v.threads t) o)))
    (length-put v t flag act)

-- and no thread, where it was removed
pub state-without : (v : MachineState) (t : ThreadId) → state (record v { threads = without_live v.threads t }) ≡ with_thread (state v) t None
state-without v t =
    ap (λ (f : ThreadId → Option Thread). record (state v) { thread = f })
    (fun_ext (λ u. ap (λ (x : Option ThreadRecord). option_map thread_of (live_in x)) (get-remove_by v.threads t.0 u.0) ∙ by (u.0 == t.0) (map.get v.threads u.0)))
  where
    by : (b : Bool) (x : Option ThreadRecord) → option_map thread_of (live_in (if b then None else x)) ≡ (if b then None else option_map thread_of (live_in x))
    by true x = refl
    by false x = refl

-- ---- a monitor

abbrev pub written : MachineState → ObjectId → Held → MachineState
written v o h = record v { threads = owning_one_more (owning_one_less v.threads (held_at v o).owner) h.owner; objects = with_monitor_held v.objects o h }

pub live-written : (v : MachineState) (o : ObjectId) (h : Held) (u : ThreadId) → live_of (written v o h).threads u ≡ live_of v.threads u
live-written v o h u = live-owning_one_more (owning_one_less v.threads (held_at v o).owner) h.owner u ∙ live-owning_one_less v.threads (held_at v o).owner u

-- the shown state has the monitor that was written
pub state-with_held : (v : MachineState) (o : ObjectId) (h : Held) → o.0 < length v.objects → state (with_held v o h) ≡ with_monitor (state v) o (monitor_of h)
state-with_held v o h there =
    ap (λ b. state (if b then written v o h else v)) (lt-ltb o.0 (length v.objects) there)
    ∙ same_state (state v)
    (fun_ext (λ u. ap (option_map thread_of) (live-written v o h u)))
    (fun_ext (λ p. at p (cases_eq p.0 o.0)))
    (length-set v.objects o.0 new)
  where
    new : ObjectRecord
    new = record { held = h; waiting = waiting_in v.objects o }

    at : (p : ObjectId) → (p.0 ≡ o.0) ⊎ (p.0 ≡ o.0 → ⊥) → monitor_of (held_at (written v o h) p) ≡ (if p.0 == o.0 then monitor_of h else monitor_of (held_at v p))
    at p (inl same) =
        rw (eq-eqb p.0 o.0 same) (ap (λ (k : ℕ). monitor_of (get_or (with_monitor_held v.objects o h) k untouched).held) same
        ∙ ap (λ (r : ObjectRecord). monitor_of r.held) (get_or-set_same v.objects o.0 new untouched there))
    at p (inr other) = rw (ne_eqb p.0 o.0 other) (ap (λ (r : ObjectRecord). monitor_of r.held) (get_or-set_other v.objects o.0 p.0 new untouched other))

-- who was live is live, with the same act
pub live-with_held : (v : MachineState) (o : ObjectId) (h : Held) (u : ThreadId) → live_of (with_held v o h).threads u ≡ live_of v.threads u
live-with_held v o h u = by (nat_lt o.0 (length v.objects))
  where
    by : (b : Bool) → live_of (if b then written v o h else v).threads u ≡ live_of v.threads u
    by true = live-written v o h u
    by false = refl

-- ---- before all moves

pub all_untouched : (n k : ℕ) → get_or (replicate n untouched) k untouched ≡ untouched
all_untouched zero k = refl
all_untouched (suc n) zero = refl
all_untouched (suc n) (suc k) = all_untouched n k

pub state-opening : (objects : List ObjectRecord) (n : ℕ) → objects ≡ replicate n untouched
    → state (record { threads = map.empty; objects = objects; moment = 0 }) ≡ opening n
state-opening objects n e =
    rw (e) (same_state (opening n) (fun_ext (λ t. ap (λ (x : Option ThreadRecord). option_map thread_of (live_in x)) (get-empty nat_cmp t.0)))
    (fun_ext (λ p. ap (λ (r : ObjectRecord). monitor_of r.held) (all_untouched n p.0))) (length-replicate n untouched))
