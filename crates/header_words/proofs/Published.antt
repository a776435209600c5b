-- A word is fat only after its monitor was published at its object.
use Rattle.std.proofs.Common.{◌≡◌, ◌⊎◌, ℕ, ◌<◌, List, [], ◌∷◌, length, sym, ap, ◌∙◌, arith, inl, inr, ⊎_elim, length-set}
use native.Mathlib.Decide.{ℕ_discrete}
use Rattle.lock_word.specs.declared.Lock.{Lock}
use Rattle.lock_word.specs.declared.Lock.TheVariants.{Free, Fat}
use Rattle.header_words.specs.declared.event.EventKind.{EventKind}
use Rattle.header_words.specs.declared.event.EventKind.TheVariants.{Load, Win, Lose, Nest, Unnest, Release, Publish}
use Rattle.header_words.specs.declared.event.Event.{Event}
use Rattle.header_words.specs.Bindings.{HasPublish}
use Rattle.header_words.specs.Events.{effect, lock_at, locks_after, Replays, free_locks}
use Rattle.header_words.proofs.Traces.{lock_after_here, lock_after_else, free_at, length-free_locks}

-- fat locks are of one monitor
same_monitor : (k m : ℕ) → Fat k ≡ Fat m → k ≡ m
same_monitor k m e = cc

-- a lock that is fat after an event was so before, or the event is its publish
fat_effect : (i : ℕ) (d : EventKind) (l : Lock) (m : ℕ) → effect i d l ≡ Fat m → (l ≡ Fat m) ⊎ (d ≡ Publish m)
fat_effect i (Load w) l m e = inl e
fat_effect i Win l m e = absurd (cc)
fat_effect i Lose l m e = inl e
fat_effect i Nest l m e = absurd (cc)
fat_effect i Unnest l m e = absurd (cc)
fat_effect i Release l m e = absurd (cc)
fat_effect i (Publish k) l m e = inr (ap Publish (same_monitor k m e))

-- and the same of a trace
fat_from : (lows : List ℕ) (count o m : ℕ) (ls : List Lock) (es : List Event) (ms : List Lock) → length ls ≡ length lows → Replays lows count ls es ms → lock_at ms o ≡ Fat m → (lock_at ls o ≡ Fat m) ⊎ HasPublish m o es
fat_from lows count o m ls [] ms len r e = inl (ap (λ (ks : List Lock). lock_at ks o) r ∙ e)
fat_from lows count o m ls (x ∷ es) ms len r e =
    ⊎_elim (λ (h : lock_at (locks_after x ls) o ≡ Fat m). go h (ℕ_discrete x.object o)) (λ (h : HasPublish m o es). inr (inr h))
    (fat_from lows count o m (locks_after x ls) es ms (length-set ls x.object (effect x.pass x.kind (lock_at ls x.object)) ∙ len) r.1 e)
  where
    go : lock_at (locks_after x ls) o ≡ Fat m → Dec (x.object ≡ o) → (lock_at ls o ≡ Fat m) ⊎ HasPublish m o (x ∷ es)
    go h (yes at) = let inside : x.object < length lows = r.0.2 in
        ⊎_elim (λ (was : lock_at ls o ≡ Fat m). inl was) (λ (is : x.kind ≡ Publish m). inr (inl (is, at)))
        (fat_effect x.pass x.kind (lock_at ls o) m (sym (lock_after_here x ls o (omega arith) at) ∙ h))
    go h (no ne) = inl (sym (lock_after_else x ls o (λ z. ne (sym z))) ∙ h)

-- an object whose lock is fat after a trace was published in it
pub fat_published : (lows : List ℕ) (count o m : ℕ) (log : List Event) (locks : List Lock) → Replays lows count (free_locks lows) log locks → lock_at locks o ≡ Fat m → HasPublish m o log
fat_published lows count o m log locks r e =
    ⊎_elim (λ (h : lock_at (free_locks lows) o ≡ Fat m). let f : Free ≡ Fat m = sym (free_at lows o) ∙ h in absurd (cc)) (λ (h : HasPublish m o log). h) (fat_from lows count o m (free_locks lows) log locks (length-free_locks lows) r e)
