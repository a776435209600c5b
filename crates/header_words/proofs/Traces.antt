-- Traces of word events.
use Rattle.std.proofs.Common.{◌≡◌, ◌≢◌, ℕ, zero, suc, ◌+◌, ◌-◌, ◌<◌, ◌≤◌, Bool, List, [], ◌∷◌, ◌++◌, length, set, refl, sym, ap, ◌∙◌, subst, arith, eq-eqb, ne_eqb, length-set, get_or-set_same, get_or-set_other, append-nil}
use Rattle.std.specs.Prelude.{◌↔◌, slice_index, if◌then◌else◌, ◌==◌}
use Rattle.std.proofs.lemmas.List.Elements.{filter-append}
use native.Mathlib.Decide.{ℕ_discrete}
use Rattle.lock_word.specs.declared.Split.TheVariants.{Wide}
use Rattle.lock_word.specs.declared.Lock.{Lock}
use Rattle.lock_word.specs.declared.Lock.TheVariants.{Free, Thin, Fat}
use Rattle.header_words.specs.WideWords.{word_of, lock_of, with_lock, Fits, IsMalformed}
use Rattle.lock_word.specs.Layout.{count_of, low_of}
use Rattle.lock_word.proofs.Words.{lock_of-word_of, low_of-word_of, formed-word_of, low_kept}
use Rattle.header_words.specs.Steps.{ShowsDepth}
use Rattle.header_words.specs.declared.event.EventKind.{EventKind}
use Rattle.header_words.specs.declared.event.EventKind.TheVariants.{Load, Win, Lose, Nest, Unnest, Release, Publish}
use Rattle.header_words.specs.declared.event.Event.{Event}
use Rattle.header_words.specs.Events.{Legal, effect, lock_at, locks_after, MayFollow, Replays, free_locks, own_events, holds_of, depth_after, depth_from, depth}

-- one event more
pub replays_snoc : (lows : List ℕ) (count : ℕ) (ls : List Lock) (es : List Event) (ms : List Lock) (e : Event) → Replays lows count ls es ms → MayFollow lows count e ms → Replays lows count ls (es ++ e ∷ []) (locks_after e ms)
replays_snoc lows count ls [] ms e r may = subst (λ (ks : List Lock). MayFollow lows count e ks × (locks_after e ks ≡ locks_after e ms)) (sym r) (may, refl)
replays_snoc lows count ls (x ∷ es) ms e r may = (r.0, replays_snoc lows count (locks_after x ls) es ms e r.1 may)

-- a replay keeps the number of locks
pub length-replays : (lows : List ℕ) (count : ℕ) (ls : List Lock) (es : List Event) (ms : List Lock) → Replays lows count ls es ms → length ms ≡ length ls
length-replays lows count ls [] ms r = ap length (sym r)
length-replays lows count ls (x ∷ es) ms r = length-replays lows count (locks_after x ls) es ms r.1 ∙ length-set ls x.object (effect x.pass x.kind (lock_at ls x.object))

-- holds by an own thin lock
pub thin_mine : (i c : ℕ) → holds_of i (Thin i c) ≡ c + 1
thin_mine i c = ap (λ (b : Bool). if b then c + 1 else 0) (eq-eqb i i refl)

-- no holds by another's
pub thin_other : (i j c : ℕ) → j ≢ i → holds_of i (Thin j c) ≡ 0
thin_other i j c ne = ap (λ (b : Bool). if b then c + 1 else 0) (ne_eqb j i ne)

-- an event of the pass changes its holds as it changes its depth
pub holds_after_own_event : (i : ℕ) (d : EventKind) (l : Lock) (b : ℕ) → Legal i d l b → holds_of i (effect i d l) ≡ depth_after d (holds_of i l)
holds_after_own_event i (Load w) l b h = refl
holds_after_own_event i Win l b h = thin_mine i 0
holds_after_own_event i Lose l b h = refl
holds_after_own_event i Nest l b h = let was : holds_of i l ≡ count_of l + 1 = ap (holds_of i) h.0 ∙ thin_mine i (count_of l) in thin_mine i (count_of l + 1) ∙ ap (λ (n : ℕ). n + 1) (sym was)
holds_after_own_event i Unnest l b h = let was : holds_of i l ≡ count_of l + 1 = ap (holds_of i) h.0 ∙ thin_mine i (count_of l) in let now = thin_mine i (count_of l - 1) in let some : 0 < count_of l = h.1 in omega arith
holds_after_own_event i Release l b h = refl
holds_after_own_event i (Publish m) l b h = refl

-- an event of another pass leaves the pass's holds
pub holds_after_other_event : (i j : ℕ) (d : EventKind) (l : Lock) (b : ℕ) → j ≢ i → Legal j d l b → holds_of i (effect j d l) ≡ holds_of i l
holds_after_other_event i j (Load w) l b ne h = refl
holds_after_other_event i j Win l b ne h = thin_other i j 0 ne ∙ sym (ap (holds_of i) h)
holds_after_other_event i j Lose l b ne h = refl
holds_after_other_event i j Nest l b ne h = thin_other i j (count_of l + 1) ne ∙ sym (ap (holds_of i) h.0 ∙ thin_other i j (count_of l) ne)
holds_after_other_event i j Unnest l b ne h = thin_other i j (count_of l - 1) ne ∙ sym (ap (holds_of i) h.0 ∙ thin_other i j (count_of l) ne)
holds_after_other_event i j Release l b ne h = sym (ap (holds_of i) h ∙ thin_other i j 0 ne)
holds_after_other_event i j (Publish m) l b ne h = sym (ap (holds_of i) h.0 ∙ thin_other i j (count_of l) ne)

-- a first event of its own
pub own_mine : (i : ℕ) (e : Event) (es : List Event) → e.pass ≡ i → own_events i (e ∷ es) ≡ e ∷ own_events i es
own_mine i e es is = ap (λ (b : Bool). if b then e ∷ own_events i es else own_events i es) (eq-eqb e.pass i is)

-- a first event of another
pub own_other : (i : ℕ) (e : Event) (es : List Event) → e.pass ≢ i → own_events i (e ∷ es) ≡ own_events i es
own_other i e es ne = ap (λ (b : Bool). if b then e ∷ own_events i es else own_events i es) (ne_eqb e.pass i ne)

-- own events of two lists
pub own_events-append : (i : ℕ) (xs ys : List Event) → own_events i (xs ++ ys) ≡ own_events i xs ++ own_events i ys
own_events-append i xs ys = filter-append (λ (e : Event). e.pass == i) xs ys

-- a last event of its own
pub own_snoc_mine : (i : ℕ) (e : Event) (es : List Event) → e.pass ≡ i → own_events i (es ++ e ∷ []) ≡ own_events i es ++ e ∷ []
own_snoc_mine i e es is = own_events-append i es (e ∷ []) ∙ ap (λ (z : List Event). own_events i es ++ z) (own_mine i e [] is)

-- a last event of another
pub own_snoc_other : (i : ℕ) (e : Event) (es : List Event) → e.pass ≢ i → own_events i (es ++ e ∷ []) ≡ own_events i es
own_snoc_other i e es ne = own_events-append i es (e ∷ []) ∙ (ap (λ (z : List Event). own_events i es ++ z) (own_other i e [] ne) ∙ append-nil (own_events i es))

-- the lock at o after an event
pub lock_after_here : (e : Event) (ls : List Lock) (o : ℕ) → o < length ls → e.object ≡ o → lock_at (locks_after e ls) o ≡ effect e.pass e.kind (lock_at ls o)
lock_after_here e ls o lt is = subst (λ (x : ℕ). lock_at (set ls x (effect e.pass e.kind (lock_at ls x))) o ≡ effect e.pass e.kind (lock_at ls o)) (sym is) (get_or-set_same ls o (effect e.pass e.kind (lock_at ls o)) Free lt)

-- and the locks of other objects
pub lock_after_else : (e : Event) (ls : List Lock) (o : ℕ) → o ≢ e.object → lock_at (locks_after e ls) o ≡ lock_at ls o
lock_after_else e ls o ne = get_or-set_other ls e.object o (effect e.pass e.kind (lock_at ls e.object)) Free ne

-- the pass's holds after an event of its own
holds_at_own_event : (lows : List ℕ) (count i : ℕ) (e : Event) (ls : List Lock) (o : ℕ) → length ls ≡ length lows → MayFollow lows count e ls → e.pass ≡ i
    → (if e.object == o then depth_after e.kind (holds_of i (lock_at ls o)) else holds_of i (lock_at ls o)) ≡ holds_of i (lock_at (locks_after e ls) o)
holds_at_own_event lows count i e ls o len may is = go (ℕ_discrete e.object o)
  where
    go : Dec (e.object ≡ o) → (if e.object == o then depth_after e.kind (holds_of i (lock_at ls o)) else holds_of i (lock_at ls o)) ≡ holds_of i (lock_at (locks_after e ls) o)
    go (yes at) =
        let lt : o < length ls = subst (λ (x : ℕ). x < length ls) at (let h : e.object < length lows = may.2 in omega arith) in
        ap (λ (b : Bool). if b then depth_after e.kind (holds_of i (lock_at ls o)) else holds_of i (lock_at ls o)) (eq-eqb e.object o at)
        ∙ sym (ap (holds_of i) (lock_after_here e ls o lt at)
        ∙ (ap (λ (j : ℕ). holds_of i (effect j e.kind (lock_at ls o))) is
        ∙ holds_after_own_event i e.kind (lock_at ls o) (slice_index lows o) (subst (λ (j : ℕ). Legal j e.kind (lock_at ls o) (slice_index lows o)) is (subst (λ (x : ℕ). Legal e.pass e.kind (lock_at ls x) (slice_index lows x)) at may.3))))
    go (no ne) = ap (λ (b : Bool). if b then depth_after e.kind (holds_of i (lock_at ls o)) else holds_of i (lock_at ls o)) (ne_eqb e.object o ne) ∙ sym (ap (holds_of i) (lock_after_else e ls o (λ x. ne (sym x))))

-- the pass's holds after another's event
holds_at_other_event : (lows : List ℕ) (count i : ℕ) (e : Event) (ls : List Lock) (o : ℕ) → length ls ≡ length lows → MayFollow lows count e ls → e.pass ≢ i
    → holds_of i (lock_at ls o) ≡ holds_of i (lock_at (locks_after e ls) o)
holds_at_other_event lows count i e ls o len may not = go (ℕ_discrete e.object o)
  where
    go : Dec (e.object ≡ o) → holds_of i (lock_at ls o) ≡ holds_of i (lock_at (locks_after e ls) o)
    go (yes at) =
        let lt : o < length ls = subst (λ (x : ℕ). x < length ls) at (let h : e.object < length lows = may.2 in omega arith) in
        sym (ap (holds_of i) (lock_after_here e ls o lt at)
        ∙ holds_after_other_event i e.pass e.kind (lock_at ls o) (slice_index lows o) not (subst (λ (x : ℕ). Legal e.pass e.kind (lock_at ls x) (slice_index lows x)) at may.3))
    go (no ne) = sym (ap (holds_of i) (lock_after_else e ls o (λ x. ne (sym x))))

-- what a pass holds thinly is the depth by its own events
pub depth-replays : (lows : List ℕ) (count i o : ℕ) (ls : List Lock) (es : List Event) (ms : List Lock) → length ls ≡ length lows → Replays lows count ls es ms
    → depth_from o (holds_of i (lock_at ls o)) (own_events i es) ≡ holds_of i (lock_at ms o)
depth-replays lows count i o ls [] ms len r = ap (λ (ks : List Lock). holds_of i (lock_at ks o)) r
depth-replays lows count i o ls (e ∷ es) ms len r =
    go (depth-replays lows count i o (locks_after e ls) es ms (length-set ls e.object (effect e.pass e.kind (lock_at ls e.object)) ∙ len) r.1) (ℕ_discrete e.pass i)
  where
    go : depth_from o (holds_of i (lock_at (locks_after e ls) o)) (own_events i es) ≡ holds_of i (lock_at ms o) → Dec (e.pass ≡ i) → depth_from o (holds_of i (lock_at ls o)) (own_events i (e ∷ es)) ≡ holds_of i (lock_at ms o)
    go next (yes is) = ap (depth_from o (holds_of i (lock_at ls o))) (own_mine i e es is) ∙ (ap (λ (d : ℕ). depth_from o d (own_events i es)) (holds_at_own_event lows count i e ls o len r.0 is) ∙ next)
    go next (no ne) = ap (depth_from o (holds_of i (lock_at ls o))) (own_other i e es ne) ∙ (ap (λ (d : ℕ). depth_from o d (own_events i es)) (holds_at_other_event lows count i e ls o len r.0 ne) ∙ next)

-- every object is free at the start
pub free_at : (lows : List ℕ) (o : ℕ) → lock_at (free_locks lows) o ≡ Free
free_at [] o = refl
free_at (b ∷ lows) zero = refl
free_at (b ∷ lows) (suc o) = free_at lows o

-- there is a lock for each low byte
pub length-free_locks : (lows : List ℕ) → length (free_locks lows) ≡ length lows
length-free_locks [] = refl
length-free_locks (b ∷ lows) = ap suc (length-free_locks lows)

-- what the pass i has by the lock of o, thinly, is the depth by its events
pub depth_is_holds : (lows : List ℕ) (count i o : ℕ) (log : List Event) (ms : List Lock) → Replays lows count (free_locks lows) log ms → depth o (own_events i log) ≡ holds_of i (lock_at ms o)
depth_is_holds lows count i o log ms r = ap (λ (l : Lock). depth_from o (holds_of i l) (own_events i log)) (sym (free_at lows o)) ∙ depth-replays lows count i o (free_locks lows) log ms (length-free_locks lows) r

-- a trace has a lock for each object
pub length-locks : (lows : List ℕ) (count : ℕ) (log : List Event) (ms : List Lock) → Replays lows count (free_locks lows) log ms → length ms ≡ length lows
length-locks lows count log ms r = length-replays lows count (free_locks lows) log ms r ∙ length-free_locks lows

-- a lock by which a pass has some is thin, with its index
pub thin_of_holds : (i d : ℕ) (l : Lock) → holds_of i l ≡ suc d → l ≡ Thin i d
thin_of_holds i d Free h = absurd (omega arith)
thin_of_holds i d (Thin j c) h = go (ℕ_discrete j i)
  where
    go : Dec (j ≡ i) → Thin j c ≡ Thin i d
    go (yes is) = let e : c + 1 ≡ suc d = sym (ap (λ (b : Bool). if b then c + 1 else 0) (eq-eqb j i is)) ∙ h in let ce : c ≡ d = omega arith in λ k. Thin (is k) (ce k)
    go (no ne) = let e : 0 ≡ suc d = sym (thin_other i j c ne) ∙ h in absurd (omega arith)
thin_of_holds i d (Fat m) h = absurd (omega arith)

-- a pass holds an object d times by a lock that is thin with its index and a count, and d is that count and one
pub thin_iff : (i d : ℕ) (l : Lock) → d ≡ holds_of i l → (c : ℕ) → (d ≡ c + 1) ↔ (l ≡ Thin i c)
thin_iff i d l is c = ((λ (e : d ≡ c + 1). let one : c + 1 ≡ suc c = omega arith in thin_of_holds i c l (sym is ∙ (e ∙ one))), λ (t : l ≡ Thin i c). is ∙ (ap (holds_of i) t ∙ thin_mine i c))

-- the word of a lock shows how many times a pass holds the object by it
pub shows_depth : (i d : ℕ) (l : Lock) (low n : ℕ) → Fits l → low < 256 → d ≡ holds_of i l → n ≡ word_of l low → ShowsDepth i d low n
shows_depth i d l low n fits small is word = record {
  thin = λ c. ((λ (e : d ≡ c + 1). lock ∙ (thin_iff i d l is c).0 e), λ (t : lock_of n ≡ Thin i c). (thin_iff i d l is c).1 (sym lock ∙ t));
  kept = ap low_of word ∙ low_of-word_of Wide l low small;
  spelled = word ∙ ap (λ (k : Lock). word_of k low) (sym lock);
  formed = λ bad. formed-word_of Wide l low fits small (subst IsMalformed word bad);
}
  where
    lock : lock_of n ≡ l
    lock = ap lock_of word ∙ lock_of-word_of Wide l low fits small

-- the lock after an event fits a word
pub fits_effect : (i count : ℕ) (d : EventKind) (l : Lock) (b : ℕ) → 1 ≤ i → i ≤ count → count ≤ 32767 → Legal i d l b → Fits l → Fits (effect i d l)
fits_effect i count (Load w) l b one high few h f = f
fits_effect i count Win l b one high few h f = (one, omega arith, omega arith)
fits_effect i count Lose l b one high few h f = f
fits_effect i count Nest l b one high few h f = (one, omega arith, (let c : count_of l < 255 = h.1 in omega arith))
fits_effect i count Unnest l b one high few h f = (one, omega arith, (let g : Fits (Thin i (count_of l)) = subst Fits h.0 f in let c : count_of l ≤ 255 = g.2 in omega arith))
fits_effect i count Release l b one high few h f = tt
fits_effect i count (Publish m) l b one high few h f = h.1

-- and so do all locks after a trace that began with such
pub fits-replays : (lows : List ℕ) (count : ℕ) → count ≤ 32767 → (ls : List Lock) (es : List Event) (ms : List Lock) → length ls ≡ length lows → ((o : ℕ) → Fits (lock_at ls o)) → Replays lows count ls es ms → (o : ℕ) → Fits (lock_at ms o)
fits-replays lows count few ls [] ms len was r o = subst (λ (ks : List Lock). Fits (lock_at ks o)) r (was o)
fits-replays lows count few ls (e ∷ es) ms len was r o =
    fits-replays lows count few (locks_after e ls) es ms (length-set ls e.object (effect e.pass e.kind (lock_at ls e.object)) ∙ len) next r.1 o
  where
    next : (p : ℕ) → Fits (lock_at (locks_after e ls) p)
    next p = go (ℕ_discrete e.object p)
      where
        go : Dec (e.object ≡ p) → Fits (lock_at (locks_after e ls) p)
        go (yes is) =
            let inside : e.object < length lows = r.0.2 in
            subst Fits (sym (lock_after_here e ls p (omega arith) is)) (subst (λ (k : ℕ). Fits (effect e.pass e.kind (lock_at ls k))) is (fits_effect e.pass count e.kind (lock_at ls e.object) (slice_index lows e.object) r.0.0 r.0.1 few r.0.3 (was e.object)))
        go (no ne) = subst Fits (sym (lock_after_else e ls p (λ x. ne (sym x)))) (was p)

-- all locks of a trace fit words
pub fits_all : (lows : List ℕ) (count : ℕ) (log : List Event) (ms : List Lock) → count ≤ 32767 → Replays lows count (free_locks lows) log ms → (o : ℕ) → Fits (lock_at ms o)
fits_all lows count log ms few r = fits-replays lows count few (free_locks lows) log ms (length-free_locks lows) (λ o. subst Fits (sym (free_at lows o)) tt) r

-- a word that is the low byte is free
pub free_word : (l : Lock) (b : ℕ) → Fits l → word_of l b ≡ b → l ≡ Free
free_word Free b f e = refl
free_word (Thin i c) b f e = let one : 1 ≤ i = f.0 in absurd (omega arith)
free_word (Fat m) b f e = absurd (omega arith)

-- the word of a free object is its low byte
pub free_low : (l : Lock) (b : ℕ) → l ≡ Free → word_of l b ≡ b
free_low l b e = ap (λ (k : Lock). word_of k b) e

-- a word has 32 bits
pub small_word : (l : Lock) (b : ℕ) → Fits l → b < 256 → word_of l b < 4294967296
small_word Free b f h = omega arith
small_word (Thin i c) b f h = let top : i ≤ 32767 = f.1 in let most : c ≤ 255 = f.2 in omega arith
small_word (Fat m) b f h = omega arith

-- the depth after one event more
pub depth_snoc : (o d : ℕ) (es : List Event) (e : Event) → depth_from o d (es ++ e ∷ []) ≡ (if e.object == o then depth_after e.kind (depth_from o d es) else depth_from o d es)
depth_snoc o d [] e = refl
depth_snoc o d (x ∷ es) e = depth_snoc o (if x.object == o then depth_after x.kind d else d) es e

-- at the object of the event
pub depth_here : (o : ℕ) (es : List Event) (e : Event) → e.object ≡ o → depth o (es ++ e ∷ []) ≡ depth_after e.kind (depth o es)
depth_here o es e is = depth_snoc o 0 es e ∙ ap (λ (b : Bool). if b then depth_after e.kind (depth o es) else depth o es) (eq-eqb e.object o is)

-- at another object
pub depth_else : (o : ℕ) (es : List Event) (e : Event) → e.object ≢ o → depth o (es ++ e ∷ []) ≡ depth o es
depth_else o es e ne = depth_snoc o 0 es e ∙ ap (λ (b : Bool). if b then depth_after e.kind (depth o es) else depth o es) (ne_eqb e.object o ne)

-- a row of depths after an event at o
pub row_after : (depths : List ℕ) (m : List Event) (e : Event) (x : ℕ) → e.object < length depths → x ≡ depth_after e.kind (depth e.object m) → ((o : ℕ) → o < length depths → slice_index depths o ≡ depth o m)
    → (o : ℕ) → o < length (set depths e.object x) → slice_index (set depths e.object x) o ≡ depth o (m ++ e ∷ [])
row_after depths m e x inside is rows o lt = go (ℕ_discrete e.object o)
  where
    go : Dec (e.object ≡ o) → slice_index (set depths e.object x) o ≡ depth o (m ++ e ∷ [])
    go (yes at) = ap (slice_index (set depths e.object x)) (sym at) ∙ (get_or-set_same depths e.object x 0 inside ∙ (is ∙ (sym (depth_here e.object m e refl) ∙ ap (λ (k : ℕ). depth k (m ++ e ∷ [])) at)))
    go (no ne) = get_or-set_other depths e.object o x 0 (λ z. ne (sym z)) ∙ (rows o (let l = length-set depths e.object x in omega arith) ∙ sym (depth_else o m e ne))

-- a row of depths after an event that changes none
pub row_same : (depths : List ℕ) (m : List Event) (e : Event) → depth_after e.kind (depth e.object m) ≡ depth e.object m → ((o : ℕ) → o < length depths → slice_index depths o ≡ depth o m)
    → (o : ℕ) → o < length depths → slice_index depths o ≡ depth o (m ++ e ∷ [])
row_same depths m e is rows o lt = go (ℕ_discrete e.object o)
  where
    go : Dec (e.object ≡ o) → slice_index depths o ≡ depth o (m ++ e ∷ [])
    go (yes at) = rows o lt ∙ (ap (λ (k : ℕ). depth k m) (sym at) ∙ (sym is ∙ (sym (depth_here e.object m e refl) ∙ ap (λ (k : ℕ). depth k (m ++ e ∷ [])) at)))
    go (no ne) = rows o lt ∙ sym (depth_else o m e ne)

-- an event leaves the low byte of the word
pub low_kept_by : (i : ℕ) (kind : EventKind) (word : ℕ) → 1 ≤ i → i ≤ 32767 → Fits (lock_of word) → Legal i kind (lock_of word) (low_of word) → low_of (with_lock word (effect i kind (lock_of word))) ≡ low_of word
low_kept_by i kind word low high fits legal = low_kept Wide word (effect i kind (lock_of word))
