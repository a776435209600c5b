-- Publishes of a trace, and lists of bound objects.
use Rattle.std.proofs.Common.{◌≡◌, ◌⊎◌, ℕ, ◌<◌, Bool, true, Some, List, [], ◌∷◌, ◌++◌, length, sym, ap, ◌∙◌, subst, arith, inl, inr, ⊎_elim, length-append}
use Rattle.std.proofs.lemmas.Option.{slice_get_within, get_or_from_slice_get, slice_get-get_or}
use lib.Seq.{get_or-append_seam}
use lib.ListN.{get_or-append}
use mathlib.Core.List.{IsPrefix}
use Rattle.lock_word.specs.declared.ObjectId.{ObjectId}
use Rattle.header_words.specs.declared.event.EventKind.{EventKind}
use Rattle.header_words.specs.declared.event.EventKind.TheVariants.{Publish}
use Rattle.header_words.specs.declared.event.Event.{Event}
use Rattle.header_words.specs.Bindings.{HasPublish, HasPublishesOf, Binds, Covers, BindsKind, IsNoPublish, GateAllows}

-- a publish of a list is one of a longer list
publish_more : (m o : ℕ) (xs ys : List Event) → HasPublish m o xs → HasPublish m o (xs ++ ys)
publish_more m o [] ys h = absurd h
publish_more m o (x ∷ xs) ys h = ⊎_elim (λ (t : (x.kind ≡ Publish m) × (x.object ≡ o)). inl t) (λ (t : HasPublish m o xs). inr (publish_more m o xs ys t)) h

-- a publish of two lists is in the one or the other
publish_split : (m o : ℕ) (xs ys : List Event) → HasPublish m o (xs ++ ys) → HasPublish m o xs ⊎ HasPublish m o ys
publish_split m o [] ys h = inr h
publish_split m o (x ∷ xs) ys h = ⊎_elim (λ (t : (x.kind ≡ Publish m) × (x.object ≡ o)). inl (inl t))
    (λ (t : HasPublish m o (xs ++ ys)). ⊎_elim (λ (u : HasPublish m o xs). inl (inr u)) (λ (u : HasPublish m o ys). inr u) (publish_split m o xs ys t)) h

-- a publish that was seen is one of the trace
pub publish_prefix : (m o : ℕ) (xs ys : List Event) → IsPrefix xs ys → HasPublish m o xs → HasPublish m o ys
publish_prefix m o xs ys h p = subst (HasPublish m o) h.1 (publish_more m o xs h.0 p)

-- a trace has no publish more by an event that is none
no_publish_snoc : (log : List Event) (e : Event) → IsNoPublish e.kind → HasPublishesOf (log ++ e ∷ []) log
no_publish_snoc log e none m o h = ⊎_elim (λ (t : HasPublish m o log). t)
    (λ (t : HasPublish m o (e ∷ [])). ⊎_elim (λ (u : (e.kind ≡ Publish m) × (e.object ≡ o)). absurd (subst IsNoPublish u.0 none)) (λ (u : ⊥). absurd u) t) (publish_split m o log (e ∷ []) h)

-- the seat of an event has the gate, or the trace has no publish more
pub allowed_snoc : (has_gate : Bool) (log : List Event) (e : Event) → GateAllows has_gate e.kind → (has_gate ≡ true) ⊎ HasPublishesOf (log ++ e ∷ []) log
allowed_snoc has_gate log e may = ⊎_elim (λ (t : has_gate ≡ true). inl t) (λ (q : IsNoPublish e.kind). inr (no_publish_snoc log e q)) may

-- a list that binds what was seen published, and the event, binds all of the trace with it
pub covers_snoc : (objects : List ObjectId) (seen now : List Event) (e : Event) → HasPublishesOf now seen → Covers objects seen → BindsKind objects e.kind e.object → Covers objects (now ++ e ∷ [])
covers_snoc objects seen now e back covers binds m o h = ⊎_elim (λ (t : HasPublish m o now). covers m o (back m o t))
    (λ (t : HasPublish m o (e ∷ [])). ⊎_elim (λ (u : (e.kind ≡ Publish m) × (e.object ≡ o)). subst (λ (z : EventKind × ℕ). BindsKind objects z.0 z.1) (λ k. (u.0 k, u.1 k)) binds) (λ (u : ⊥). absurd u) t)
    (publish_split m o now (e ∷ []) h)

-- a longer list of bound objects binds as much
binds_more : (xs ys : List ObjectId) (m o : ℕ) → Binds xs m o → Binds (xs ++ ys) m o
binds_more xs ys m o h =
    let x : ObjectId = record { 0 = o } in
    let lt : m < length xs = slice_get_within xs m x h in
    slice_get-get_or (xs ++ ys) m x (let l = length-append xs ys in omega arith) ∙ ap Some (get_or-append xs ys x m lt ∙ get_or_from_slice_get xs m x x h)

-- and its last object too
pub binds_last : (xs : List ObjectId) (x : ObjectId) → Binds (xs ++ x ∷ []) (length xs) x.0
binds_last xs x = slice_get-get_or (xs ++ x ∷ []) (length xs) x (let l = length-append xs (x ∷ []) in omega arith) ∙ ap Some (get_or-append_seam xs x [] x)

-- a list that has grown covers as much
pub covers_grown : (xs ys rest : List ObjectId) (log : List Event) → ys ≡ xs ++ rest → Covers xs log → Covers ys log
covers_grown xs ys rest log grown h m o p = subst (λ (l : List ObjectId). Binds l m o) (sym grown) (binds_more xs rest m o (h m o p))
