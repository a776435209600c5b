-- A check that is fed with a reader's bytes.
use Rattle.std.proofs.Common.{◌≡◌, ℕ, ◌+◌, ◌-◌, ◌<◌, ◌≤◌, List, [], ◌++◌, length, take, Option, None, Some, Result, Ok, Err, MatchResult, refl, sym, ap, ◌∙◌, subst, arith, inl, inr, ◌⊎◌, append-nil, length-append}
use Rattle.std.specs.Io.KnownBytes.{Consumes, Keeps, IsAtEnd}
use Rattle.std.proofs.lemmas.List.{take_all}
use Rattle.std.proofs.Math.Seq.{take-append-add}
use Rattle.step_core.specs.declared.machine.Move.{Move}
use Rattle.text_streams.specs.declared.faults.FileFault.{FileFault}
use Rattle.text_streams.specs.declared.faults.FileFault.TheVariants as faults
use Rattle.step_core.specs.Machine.{State}
use Rattle.history_check.specs.Histories.{IsRightSoFar, IsOpen, IsRunOf, IsFaultOf}
use Rattle.history_check.specs.Replays.{IsReadAsRun, IsFaulty, IsOpenBefore}
use Rattle.text_streams.proofs.Pieces.{Consumes-more}

-- so many bytes came, and they stand so
pub record Reads (old new : Option (List ℕ)) (given count : ℕ) (reached : Option State) (line : List ℕ) : Type 0 where
  pub came : List ℕ
  pub counted : length came ≡ given
  pub took : Consumes old new came
  pub stands : IsRightSoFar came count reached line

-- a fault stays one, if what it says of the end does
pub weaken : (came : List ℕ) (ended lost ended' lost' : Type 0) (e : FileFault) → (ended → ended') → (lost → lost') → IsFaultOf came ended lost e → IsFaultOf came ended' lost' e
weaken came ended lost ended' lost' (faults.BadLine n) f g b = b
weaken came ended lost ended' lost' (faults.BadMove n) f g b = record {
  whole = b.whole;
  reached = b.reached;
  rest = b.rest;
  number = b.number;
  right = b.right;
  parts = b.parts;
  there = b.there;
  enough = enough_by b.enough;
  bad = b.bad;
}
  where
    enough_by : {P Q : Type 0} → P ⊎ (Q ⊎ ended) → P ⊎ (Q ⊎ ended')
    enough_by (inl p) = inl p
    enough_by (inr (inl q)) = inr (inl q)
    enough_by (inr (inr e)) = inr (inr (f e))
weaken came ended lost ended' lost' (faults.Broken n) f g b = b
weaken came ended lost ended' lost' faults.Read f g b = (b.0, g b.1)
weaken came ended lost ended' lost' faults.Write f g b = b
weaken came ended lost ended' lost' faults.Memory f g b = b

Consumes-kept : (a b c : Option (List ℕ)) (bs : List ℕ) → Consumes a b bs → Keeps b c → Consumes a c bs
Consumes-kept None b c bs p q = tt
Consumes-kept (Some x) None c bs p q = absurd p
Consumes-kept (Some x) (Some y) None bs p q = absurd q
Consumes-kept (Some x) (Some y) (Some z) bs p q = p ∙ ap (λ (l : List ℕ). bs ++ l) (sym q)

Consumes-nothing : (a b c : Option (List ℕ)) (bs cs : List ℕ) → Consumes a b bs → Consumes b c (take 0 cs) → Consumes a c bs
Consumes-nothing a b c bs cs p q = subst (λ (l : List ℕ). Consumes a c l) (append-nil bs) (Consumes-more a b c bs [] p q)

no_way : {A : Type 0} → ⊥ → A
no_way e = absurd e

-- nothing was wrong before the last bytes that were read at once
open_now : (old mid : Option (List ℕ)) (given count : ℕ) (reached : Option State) (line : List ℕ) (r : Reads old mid given count reached line) → IsOpenBefore r.came
open_now old mid given count reached line r = (r.came, [], sym (append-nil r.came), omega arith, (count, reached, line, r.stands))

open_before : (old mid : Option (List ℕ)) (given count : ℕ) (reached : Option State) (line front : List ℕ) (r : Reads old mid given count reached line) → length front ≤ 4096 → IsOpenBefore (r.came ++ front)
open_before old mid given count reached line front r few = (r.came, front, refl, few, (count, reached, line, r.stands))

-- the reader failed
pub reads_failed : (old mid new : Option (List ℕ)) (total : ℕ) (failed : Type 0) (given count : ℕ) (reached : Option State) (line : List ℕ) → Reads old mid given count reached line
    → given ≤ 1073741824 → total ≡ given → failed × Keeps mid new → IsFaulty old new total failed faults.Read
reads_failed old mid new total failed given count reached line r small sum f =
    let few : length r.came ≤ 1073741824 = omega (arith, r.counted) in (
      r.came,
      Consumes-kept old mid new r.came r.took f.1,
      r.counted ∙ sym sum,
      (subst IsOpen (sym (take_all 1073741824 r.came few)) (count, reached, line, r.stands), inl f.0),
      open_now old mid given count reached line r,
    )

-- the reader came to its end
pub reads_end : (r : Result ℕ FileFault) (old mid new : Option (List ℕ)) (total : ℕ) (failed : Type 0) (given count : ℕ) (reached : Option State) (line chunk : List ℕ) → Reads old mid given count reached line
    → given ≤ 1073741824 → total ≡ given → Consumes mid new (take 0 chunk) → IsAtEnd new
    → ((came : List ℕ) → IsRightSoFar came count reached line → MatchResult r (λ n. (ms : List Move) × IsRunOf came ms × (n ≡ length ms)) (λ e. IsFaultOf came (Unit {0}) ⊥ e))
    → MatchResult r (λ n. IsReadAsRun old new total n) (λ e. IsFaulty old new total failed e)
reads_end (Ok n) old mid new total failed given count reached line chunk r small sum took end told =
    let few : length r.came ≤ 1073741824 = omega (arith, r.counted) in
    let t = told r.came r.stands in
    (r.came, Consumes-nothing old mid new r.came chunk r.took took, r.counted ∙ sym sum, end, few, t.0, t.1, t.2)
reads_end (Err e) old mid new total failed given count reached line chunk r small sum took end told =
    let few : length r.came ≤ 1073741824 = omega (arith, r.counted) in (
      r.came,
      Consumes-nothing old mid new r.came chunk r.took took,
      r.counted ∙ sym sum,
      subst (λ (l : List ℕ). IsFaultOf l (IsAtEnd new × (length r.came ≤ 1073741824)) (failed ⊎ (1073741824 < length r.came)) e) (sym (take_all 1073741824 r.came few))
          (weaken r.came (Unit {0}) ⊥ _ _ e (λ u. (end, few)) no_way (told r.came r.stands)),
      open_now old mid given count reached line r,
    )

-- more bytes came
pub reads_more : (old mid new : Option (List ℕ)) (given count : ℕ) (reached : Option State) (line front : List ℕ) (n count' : ℕ) (reached' : Option State) (line' : List ℕ)
    → Reads old mid given count reached line → Consumes mid new front → length front ≡ n
    → ((came : List ℕ) → IsRightSoFar came count reached line → IsRightSoFar (came ++ front) count' reached' line') → Reads old new (given + n) count' reached' line'
reads_more old mid new given count reached line front n count' reached' line' r took long told = record {
  came = r.came ++ front;
  counted = length-append r.came front ∙ omega (arith, r.counted, long);
  took = Consumes-more old mid new r.came front r.took took;
  stands = told r.came r.stands;
}

at_limit : {judged : List ℕ} (came front : List ℕ) (e : FileFault) (new : Option (List ℕ)) (failed : Type 0) → judged ≡ take 1073741824 (came ++ front)
    → IsFaultOf judged (IsAtEnd new × (length (came ++ front) ≤ 1073741824)) (failed ⊎ (1073741824 < length (came ++ front))) e
    → IsFaultOf (take 1073741824 (came ++ front)) (IsAtEnd new × (length (came ++ front) ≤ 1073741824)) (failed ⊎ (1073741824 < length (came ++ front))) e
at_limit came front e new failed same f = subst (λ (l : List ℕ). IsFaultOf l (IsAtEnd new × (length (came ++ front) ≤ 1073741824)) (failed ⊎ (1073741824 < length (came ++ front))) e) same f

long_came : (came front : List ℕ) (given n total : ℕ) → length came ≡ given → length front ≡ n → total ≡ given + n → length (came ++ front) ≡ total
long_came came front given n total counted long sum = length-append came front ∙ omega (arith, counted, long, sum)

pub reads_fault : (old mid new : Option (List ℕ)) (total : ℕ) (failed : Type 0) (given count : ℕ) (reached : Option State) (line front : List ℕ) (n : ℕ) (e : FileFault)
    → Reads old mid given count reached line → Consumes mid new front → length front ≡ n → total ≡ given + n → n ≤ 4096 → given + n ≤ 1073741824
    → ((came : List ℕ) → IsRightSoFar came count reached line → IsFaultOf (came ++ front) ⊥ ⊥ e) → IsFaulty old new total failed e
reads_fault old mid new total failed given count reached line front n e r took long sum least small told =
    let few : length (r.came ++ front) ≤ 1073741824 = omega (arith, length-append r.came front, r.counted, long) in (
      r.came ++ front,
      Consumes-more old mid new r.came front r.took took,
      long_came r.came front given n total r.counted long sum,
      at_limit r.came front e new failed (sym (take_all 1073741824 (r.came ++ front) few)) (weaken (r.came ++ front) ⊥ ⊥ _ _ e no_way no_way (told r.came r.stands)),
      open_before old mid given count reached line front r (omega (arith, long, least)),
    )

-- bytes came past the limit
within : (limit given room : ℕ) (came front : List ℕ) → length came ≡ given → room ≡ limit - given → given ≤ limit → take limit (came ++ front) ≡ came ++ take room front
within limit given room came front counted e small =
    let all : limit ≡ length came + room = omega arith in ap (λ (k : ℕ). take k (came ++ front)) all ∙ take-append-add came front room

pub reads_past : (old mid new : Option (List ℕ)) (total : ℕ) (failed : Type 0) (given count : ℕ) (reached : Option State) (line front : List ℕ) (n room : ℕ) (e : FileFault)
    → Reads old mid given count reached line → Consumes mid new front → length front ≡ n → total ≡ given + n → n ≤ 4096 → given ≤ 1073741824 → room ≡ 1073741824 - given
    → ((came : List ℕ) → IsRightSoFar came count reached line → IsFaultOf (came ++ take room front) ⊥ ⊥ e) → IsFaulty old new total failed e
reads_past old mid new total failed given count reached line front n room e r took long sum least small is told = (
  r.came ++ front,
  Consumes-more old mid new r.came front r.took took,
  long_came r.came front given n total r.counted long sum,
  at_limit r.came front e new failed (sym (within 1073741824 given room r.came front r.counted is small)) (weaken (r.came ++ take room front) ⊥ ⊥ _ _ e no_way no_way (told r.came r.stands)),
  open_before old mid given count reached line front r (omega (arith, long, least)),
)

pub reads_lost : (old mid new : Option (List ℕ)) (total : ℕ) (failed : Type 0) (given count : ℕ) (reached : Option State) (line front : List ℕ) (n room count' : ℕ) (reached' : Option State) (line' : List ℕ)
    → Reads old mid given count reached line → Consumes mid new front → length front ≡ n → total ≡ given + n → n ≤ 4096 → given ≤ 1073741824 → room ≡ 1073741824 - given → room < n
    → ((came : List ℕ) → IsRightSoFar came count reached line → IsRightSoFar (came ++ take room front) count' reached' line') → IsFaulty old new total failed faults.Read
reads_lost old mid new total failed given count reached line front n room count' reached' line' r took long sum least small is over told = (
  r.came ++ front,
  Consumes-more old mid new r.came front r.took took,
  long_came r.came front given n total r.counted long sum,
  (
    subst IsOpen (sym (within 1073741824 given room r.came front r.counted is small)) (count', reached', line', told r.came r.stands),
    inr (omega (arith, length-append r.came front, r.counted, long, is)),
  ),
  open_before old mid given count reached line front r (omega (arith, long, least)),
)
