-- What the table tells of the lock that was loaded, by what it calls for.
use Rattle.std.specs.Prelude.{◌≡◌, ℕ, ◌+◌, ◌-◌, ◌<◌, ◌≤◌, true, if◌then◌else◌, ◌==◌, nat_lt}
use Rattle.std.proofs.Common.{ap, refl}
use Rattle.std.proofs.lemmas.Bool.{cond_both, eqb-true, ltb-true, ltb-false, eqb-false}
use Rattle.lock_word.specs.declared.Lock.{Lock}
use Rattle.lock_word.specs.declared.Lock.TheVariants.{Free, Thin, Fat}
use Rattle.lock_word.specs.declared.Split.{Split}
use Rattle.lock_word.specs.Layout.{greatest_count}
use Rattle.fat_monitor.specs.declared.actions.Reply.TheVariants as reply
use Rattle.fat_monitor.specs.Acting.{are_good}
use Rattle.fast_path.specs.declared.calls.Operation.{Operation}
use Rattle.fast_path.specs.declared.calls.Operation.TheVariants as op
use Rattle.fast_path.specs.declared.Next.{Next}
use Rattle.fast_path.specs.declared.Next.TheVariants as next
use Rattle.fast_path.specs.Table.{next_of, when_free, when_own, when_anothers}

-- a thin lock with the own index, or not
by_index : (s : Split) (P : Next → Type 0) (p : Operation) (i n me : ℕ) → (i ≡ me → P (when_own s p me n)) → ((i ≡ me → ⊥) → P (when_anothers p)) → P (next_of s p (Thin i n) me)
by_index s P p i n me own other = cond_both (i == me) (when_own s p me n) (when_anothers p) P (λ e. own (eqb-true i me e)) (λ e. other (eqb-false i me e))

-- what a plain store means: one lock more, or one less
abbrev pub StoresOwn : Split → ℕ → Lock → Lock → Operation → Type 0
StoresOwn s me old l op.Enter = (n : ℕ) × (old ≡ Thin me n) × (n < (greatest_count s)) × (l ≡ Thin me (n + 1))
StoresOwn s me old l op.Exit = (n : ℕ) × (old ≡ Thin me n) × (l ≡ (if nat_lt 0 n then Thin me (n - 1) else Free))
StoresOwn s me old l (op.Wait millis nanos) = ⊥
StoresOwn s me old l op.Notify = ⊥
StoresOwn s me old l op.NotifyAll = ⊥
StoresOwn s me old l op.Holds = ⊥

pub store_own : (s : Split) (p : Operation) (old l : Lock) (me : ℕ) → next_of s p old me ≡ next.Store l → StoresOwn s me old l p
store_own s p Free l me e = by_operation p e
  where
    by_operation : (p : Operation) → when_free p me ≡ next.Store l → StoresOwn s me Free l p
    by_operation op.Enter e = absurd (cc)
    by_operation op.Exit e = absurd (cc)
    by_operation (op.Wait millis nanos) e = absurd (cc)
    by_operation op.Notify e = absurd (cc)
    by_operation op.NotifyAll e = absurd (cc)
    by_operation op.Holds e = absurd (cc)
store_own s p (Thin i n) l me e = by_index s (λ x. x ≡ next.Store l → StoresOwn s me (Thin i n) l p) p i n me (λ same. own p (ap (λ (j : ℕ). Thin j n) same)) (λ ne. other p) e
  where
    own : (p : Operation) → Thin i n ≡ Thin me n → when_own s p me n ≡ next.Store l → StoresOwn s me (Thin i n) l p
    own op.Enter is e =
        cond_both (nat_lt n (greatest_count s)) _ _ (λ x. x ≡ next.Store l → StoresOwn s me (Thin i n) l op.Enter)
        (λ below (h : next.Store (Thin me (n + 1)) ≡ next.Store l). (n, is, ltb-true n (greatest_count s) below, cc)) (λ above (h : next.Bind ≡ next.Store l). absurd (cc)) e
    own op.Exit is e =
        cond_both (nat_lt 0 n) _ _ (λ x. x ≡ next.Store l → StoresOwn s me (Thin i n) l op.Exit)
        (λ above (h : next.Store (Thin me (n - 1)) ≡ next.Store l). (n, is, rw above (cc))) (λ zero (h : next.Store Free ≡ next.Store l). (n, is, rw zero (cc))) e
    own (op.Wait millis nanos) is e =
        cond_both (are_good millis nanos) next.Bind (next.Reply reply.IllegalArgument) (λ x. x ≡ next.Store l → ⊥)
        (λ good (h : next.Bind ≡ next.Store l). absurd (cc)) (λ bad (h : next.Reply reply.IllegalArgument ≡ next.Store l). absurd (cc)) e
    own op.Notify is e = absurd (cc)
    own op.NotifyAll is e = absurd (cc)
    own op.Holds is e = absurd (cc)

    other : (p : Operation) → when_anothers p ≡ next.Store l → StoresOwn s me (Thin i n) l p
    other op.Enter e = absurd (cc)
    other op.Exit e = absurd (cc)
    other (op.Wait millis nanos) e = absurd (cc)
    other op.Notify e = absurd (cc)
    other op.NotifyAll e = absurd (cc)
    other op.Holds e = absurd (cc)
store_own s p (Fat m) l me e = absurd (cc)

-- what a bind means: an enter that finds a full thin word, or a wait whose time is in its range
abbrev pub BindsOwn : Split → ℕ → Lock → Operation → Type 0
BindsOwn s me old op.Enter = (n : ℕ) × (old ≡ Thin me n) × ((greatest_count s) ≤ n)
BindsOwn s me old (op.Wait millis nanos) = (n : ℕ) × (old ≡ Thin me n) × (are_good millis nanos ≡ true)
BindsOwn s me old op.Exit = ⊥
BindsOwn s me old op.Notify = ⊥
BindsOwn s me old op.NotifyAll = ⊥
BindsOwn s me old op.Holds = ⊥

pub bind_own : (s : Split) (p : Operation) (old : Lock) (me : ℕ) → next_of s p old me ≡ next.Bind → BindsOwn s me old p
bind_own s p Free me e = by_operation p e
  where
    by_operation : (p : Operation) → when_free p me ≡ next.Bind → BindsOwn s me Free p
    by_operation op.Enter e = absurd (cc)
    by_operation op.Exit e = absurd (cc)
    by_operation (op.Wait millis nanos) e = absurd (cc)
    by_operation op.Notify e = absurd (cc)
    by_operation op.NotifyAll e = absurd (cc)
    by_operation op.Holds e = absurd (cc)
bind_own s p (Thin i n) me e = by_index s (λ x. x ≡ next.Bind → BindsOwn s me (Thin i n) p) p i n me (λ same. own p (ap (λ (j : ℕ). Thin j n) same)) (λ ne. other p) e
  where
    own : (p : Operation) → Thin i n ≡ Thin me n → when_own s p me n ≡ next.Bind → BindsOwn s me (Thin i n) p
    own op.Enter is e =
        cond_both (nat_lt n (greatest_count s)) _ _ (λ x. x ≡ next.Bind → BindsOwn s me (Thin i n) op.Enter)
        (λ below (h : next.Store (Thin me (n + 1)) ≡ next.Bind). absurd (cc)) (λ above (h : next.Bind ≡ next.Bind). (n, is, ltb-false n (greatest_count s) above)) e
    own op.Exit is e =
        cond_both (nat_lt 0 n) (next.Store (Thin me (n - 1))) (next.Store Free) (λ x. x ≡ next.Bind → ⊥)
        (λ above (h : next.Store (Thin me (n - 1)) ≡ next.Bind). absurd (cc)) (λ zero (h : next.Store Free ≡ next.Bind). absurd (cc)) e
    own (op.Wait millis nanos) is e =
        cond_both (are_good millis nanos) next.Bind (next.Reply reply.IllegalArgument) (λ x. x ≡ next.Bind → BindsOwn s me (Thin i n) (op.Wait millis nanos))
        (λ good (h : next.Bind ≡ next.Bind). (n, is, good)) (λ bad (h : next.Reply reply.IllegalArgument ≡ next.Bind). absurd (cc)) e
    own op.Notify is e = absurd (cc)
    own op.NotifyAll is e = absurd (cc)
    own op.Holds is e = absurd (cc)

    other : (p : Operation) → when_anothers p ≡ next.Bind → BindsOwn s me (Thin i n) p
    other op.Enter e = absurd (cc)
    other op.Exit e = absurd (cc)
    other (op.Wait millis nanos) e = absurd (cc)
    other op.Notify e = absurd (cc)
    other op.NotifyAll e = absurd (cc)
    other op.Holds e = absurd (cc)
bind_own s p (Fat m) me e = absurd (cc)

-- a fat action is called for where the word is fat
pub fat_fact : (s : Split) (p : Operation) (old : Lock) (me m : ℕ) → next_of s p old me ≡ next.Fat m → old ≡ Fat m
fat_fact s p Free me m e = by_operation p e
  where
    by_operation : (p : Operation) → when_free p me ≡ next.Fat m → Free ≡ Fat m
    by_operation op.Enter e = absurd (cc)
    by_operation op.Exit e = absurd (cc)
    by_operation (op.Wait millis nanos) e = absurd (cc)
    by_operation op.Notify e = absurd (cc)
    by_operation op.NotifyAll e = absurd (cc)
    by_operation op.Holds e = absurd (cc)
fat_fact s p (Thin i n) me m e = absurd (by_index s (λ x. x ≡ next.Fat m → ⊥) p i n me (λ same. own p) (λ ne. other p) e)
  where
    own : (p : Operation) → when_own s p me n ≡ next.Fat m → ⊥
    own op.Enter e =
        cond_both (nat_lt n (greatest_count s)) (next.Store (Thin me (n + 1))) next.Bind (λ x. x ≡ next.Fat m → ⊥)
        (λ below (h : next.Store (Thin me (n + 1)) ≡ next.Fat m). absurd (cc)) (λ above (h : next.Bind ≡ next.Fat m). absurd (cc)) e
    own op.Exit e =
        cond_both (nat_lt 0 n) (next.Store (Thin me (n - 1))) (next.Store Free) (λ x. x ≡ next.Fat m → ⊥)
        (λ above (h : next.Store (Thin me (n - 1)) ≡ next.Fat m). absurd (cc)) (λ zero (h : next.Store Free ≡ next.Fat m). absurd (cc)) e
    own (op.Wait millis nanos) e =
        cond_both (are_good millis nanos) next.Bind (next.Reply reply.IllegalArgument) (λ x. x ≡ next.Fat m → ⊥)
        (λ good (h : next.Bind ≡ next.Fat m). absurd (cc)) (λ bad (h : next.Reply reply.IllegalArgument ≡ next.Fat m). absurd (cc)) e
    own op.Notify e = absurd (cc)
    own op.NotifyAll e = absurd (cc)
    own op.Holds e = absurd (cc)

    other : (p : Operation) → when_anothers p ≡ next.Fat m → ⊥
    other op.Enter e = absurd (cc)
    other op.Exit e = absurd (cc)
    other (op.Wait millis nanos) e = absurd (cc)
    other op.Notify e = absurd (cc)
    other op.NotifyAll e = absurd (cc)
    other op.Holds e = absurd (cc)
fat_fact s p (Fat j) me m e = cc

-- a store is called for where the lock is the caller's own thin one
pub own_of_store : (s : Split) (p : Operation) (old l : Lock) (me : ℕ) → StoresOwn s me old l p → (n : ℕ) × (old ≡ Thin me n)
own_of_store s op.Enter old l me (n, is, few, new) = (n, is)
own_of_store s op.Exit old l me (n, is, new) = (n, is)
own_of_store s (op.Wait millis nanos) old l me h = absurd h
own_of_store s op.Notify old l me h = absurd h
own_of_store s op.NotifyAll old l me h = absurd h
own_of_store s op.Holds old l me h = absurd h

-- and so is a bind
pub own_of_bind : (s : Split) (p : Operation) (old : Lock) (me : ℕ) → BindsOwn s me old p → (n : ℕ) × (old ≡ Thin me n)
own_of_bind s op.Enter old me (n, is, full) = (n, is)
own_of_bind s (op.Wait millis nanos) old me (n, is, good) = (n, is)
own_of_bind s op.Exit old me h = absurd h
own_of_bind s op.Notify old me h = absurd h
own_of_bind s op.NotifyAll old me h = absurd h
own_of_bind s op.Holds old me h = absurd h

-- what a spin means: an enter finds another thread's thin lock
abbrev Spins : ℕ → Lock → Operation → Type 0
Spins me old p = (p ≡ op.Enter) × ((i n : ℕ) × (old ≡ Thin i n) × (i ≡ me → ⊥))

pub spin_fact : (s : Split) (p : Operation) (old : Lock) (me : ℕ) → next_of s p old me ≡ next.Spin
    → (p ≡ op.Enter) × ((i n : ℕ) × (old ≡ Thin i n) × (i ≡ me → ⊥))
spin_fact s p Free me e = by_operation p e
  where
    by_operation : (p : Operation) → when_free p me ≡ next.Spin → Spins me Free p
    by_operation op.Enter e = absurd (cc)
    by_operation op.Exit e = absurd (cc)
    by_operation (op.Wait millis nanos) e = absurd (cc)
    by_operation op.Notify e = absurd (cc)
    by_operation op.NotifyAll e = absurd (cc)
    by_operation op.Holds e = absurd (cc)
spin_fact s p (Thin i n) me e = by_index s (λ x. x ≡ next.Spin → Spins me (Thin i n) p) p i n me (λ same. own p) (λ ne. other p ne) e
  where
    own : (p : Operation) → when_own s p me n ≡ next.Spin → Spins me (Thin i n) p
    own op.Enter e = absurd (
        cond_both (nat_lt n (greatest_count s)) (next.Store (Thin me (n + 1))) next.Bind (λ x. x ≡ next.Spin → ⊥)
        (λ below (h : next.Store (Thin me (n + 1)) ≡ next.Spin). absurd (cc)) (λ above (h : next.Bind ≡ next.Spin). absurd (cc)) e)
    own op.Exit e = absurd (
        cond_both (nat_lt 0 n) (next.Store (Thin me (n - 1))) (next.Store Free) (λ x. x ≡ next.Spin → ⊥)
        (λ above (h : next.Store (Thin me (n - 1)) ≡ next.Spin). absurd (cc)) (λ zero (h : next.Store Free ≡ next.Spin). absurd (cc)) e)
    own (op.Wait millis nanos) e = absurd (
        cond_both (are_good millis nanos) next.Bind (next.Reply reply.IllegalArgument) (λ x. x ≡ next.Spin → ⊥)
        (λ good (h : next.Bind ≡ next.Spin). absurd (cc)) (λ bad (h : next.Reply reply.IllegalArgument ≡ next.Spin). absurd (cc)) e)
    own op.Notify e = absurd (cc)
    own op.NotifyAll e = absurd (cc)
    own op.Holds e = absurd (cc)

    other : (p : Operation) → (i ≡ me → ⊥) → when_anothers p ≡ next.Spin → Spins me (Thin i n) p
    other op.Enter ne e = (refl, (i, n, refl, ne))
    other op.Exit ne e = absurd (cc)
    other (op.Wait millis nanos) ne e = absurd (cc)
    other op.Notify ne e = absurd (cc)
    other op.NotifyAll ne e = absurd (cc)
    other op.Holds ne e = absurd (cc)
spin_fact s p (Fat m) me e = absurd (cc)
