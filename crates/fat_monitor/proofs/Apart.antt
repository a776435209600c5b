-- The numbers of records, lines and monitors tell them apart, whatever numbers stand behind them.
use Rattle.std.proofs.Common.{◌≡◌, ℕ, zero, suc, ◌+◌, ◌*◌, ◌^◌, ◌<◌, Bool, true, false, List, [], ◌∷◌, ◌++◌}
use Rattle.std.proofs.Common.{length, get_or, Option, Some, None, refl, sym, ◌∙◌, ap, arith, add-one, ◌≤◌, ◌⊎◌, inl, inr}
use Rattle.std.proofs.lemmas.Bool.{cases_lt}
use Rattle.std.proofs.lemmas.Option.{same_Some}
use Rattle.std.proofs.lemmas.Nat.{div-add-mod'}
use Rattle.std.proofs.lemmas.List.{append_assoc}
use Rattle.lock_word.specs.declared.ThreadId.{ThreadId}
use Rattle.wait_lines.specs.declared.Role.{Role}
use Rattle.wait_lines.specs.declared.Role.TheVariants.{Entry, Waiting as WaitSet}
use Rattle.wait_lines.specs.Lines.{Key, key, LineMap, line}
use Rattle.wait_lines.proofs.LineLemmas.{same_lines}
use Rattle.fat_monitor.specs.declared.actions.Cause.TheVariants as cause
use Rattle.fat_monitor.specs.declared.actions.Why.{Why}
use Rattle.fat_monitor.specs.declared.actions.Why.TheVariants as why
use Rattle.fat_monitor.specs.declared.actions.Reply.{Reply}
use Rattle.fat_monitor.specs.declared.actions.Reply.TheVariants as reply
use Rattle.fat_monitor.specs.declared.actions.Post.{Post}
use Rattle.fat_monitor.specs.declared.actions.Post.TheVariants.{Out, Entering, Waiting, Back, Granted}
use Rattle.fat_monitor.specs.declared.monitors.Monitor.{Monitor}
use Rattle.fat_monitor.specs.Numbers.{truth_number, why_number, reply_number, post_numbers, record_numbers}
use Rattle.fat_monitor.specs.Numbers.{owner_number, line_numbers, monitor_numbers, monitors_numbers, fat_numbers}
use Rattle.fat_monitor.specs.FatState.{FatState, IsSound, IsProper, line_of, line_key_of, post_of}
use Rattle.fat_monitor.proofs.Fronts.{first, behind}
use Rattle.fat_monitor.proofs.Removals.{nobody_in}

-- two values are told apart by their numbers, whatever stands behind these
abbrev pub IsApart : {A : Type 0} → (A → List ℕ) → Type 0
IsApart {A} write = (x y : A) (a b : List ℕ) → write x ++ a ≡ write y ++ b → (x ≡ y) × (a ≡ b)

abbrev pub IsReadBack : {A : Type 0} → (A → List ℕ) → (List ℕ → A × List ℕ) → Type 0
IsReadBack {A} write read = (x : A) (rest : List ℕ) → read (write x ++ rest) ≡ (x, rest)

-- as they are where they are read back
pub read_apart : {A : Type 0} (write : A → List ℕ) (read : List ℕ → A × List ℕ) → IsReadBack write read → IsApart write
read_apart {A} write read back x y a b e =
    let both : ◌≡◌ {A = A × List ℕ} (x, a) (y, b) = sym (back x a) ∙ ap read e ∙ back y b in
    (ap (λ p. p.0) both, ap (λ p. p.1) both)

-- ---- a record

abbrev pub truth_of : ℕ → Bool
truth_of zero = false
truth_of (suc n) = true

pub truth_back : (b : Bool) → truth_of (truth_number b) ≡ b
truth_back false = refl
truth_back true = refl

abbrev why_of : ℕ → Why
why_of n = get_or (why.Notified ∷ why.Interrupted ∷ why.Elapsed ∷ why.Spurious ∷ []) n why.Notified

why_back : (w : Why) → why_of (why_number w) ≡ w
why_back why.Notified = refl
why_back why.Interrupted = refl
why_back why.Elapsed = refl
why_back why.Spurious = refl

abbrev reply_of : ℕ → Reply
reply_of n =
    get_or
    (reply.Entered ∷ reply.Exited ∷ reply.WaitOver ∷ reply.Interrupted ∷ reply.Notified ∷ reply.Yes ∷ reply.No
    ∷ reply.Done ∷ reply.Ended ∷ reply.IllegalMonitorState ∷ reply.IllegalArgument ∷ reply.Refused cause.NoMonitor
    ∷ reply.Refused cause.Memory ∷ reply.Refused cause.TooDeep ∷ reply.Refused cause.StillOwner
    ∷ reply.Refused cause.NoThread ∷ [])
    n reply.Entered

reply_back : (r : Reply) → reply_of (reply_number r) ≡ r
reply_back reply.Entered = refl
reply_back reply.Exited = refl
reply_back reply.WaitOver = refl
reply_back reply.Interrupted = refl
reply_back reply.Notified = refl
reply_back reply.Yes = refl
reply_back reply.No = refl
reply_back reply.Done = refl
reply_back reply.Ended = refl
reply_back reply.IllegalMonitorState = refl
reply_back reply.IllegalArgument = refl
reply_back (reply.Refused cause.NoMonitor) = refl
reply_back (reply.Refused cause.Memory) = refl
reply_back (reply.Refused cause.TooDeep) = refl
reply_back (reply.Refused cause.StillOwner) = refl
reply_back (reply.Refused cause.NoThread) = refl

pub replies_apart : (r s : Reply) → reply_number r ≡ reply_number s → r ≡ s
replies_apart r s e = sym (reply_back r) ∙ ap reply_of e ∙ reply_back s

abbrev read_deadline : List ℕ → Option ℕ × List ℕ
read_deadline [] = (None, [])
read_deadline (zero ∷ ns) = (None, ns)
read_deadline (suc k ∷ ns) = (Some (first ns * 2 ^ 64 + first (behind ns)), behind (behind ns))

abbrev waiting_from : ℕ → ℕ → Option ℕ × List ℕ → Post × List ℕ
waiting_from m n read = (Waiting m n read.0, read.1)

-- the post with this tag, from the numbers behind it
abbrev post_from : ℕ → List ℕ → Post × List ℕ
post_from zero ns = (Out, ns)
post_from (suc zero) ns = (Entering (first ns), behind ns)
post_from (suc (suc zero)) ns = waiting_from (first ns) (first (behind ns)) (read_deadline (behind (behind ns)))
post_from (suc (suc (suc zero))) ns =
    (Back (first ns) (first (behind ns)) (why_of (first (behind (behind ns)))), behind (behind (behind ns)))
post_from (suc (suc (suc (suc t)))) ns = (Granted (reply_of (first ns)), behind ns)

abbrev read_record : List ℕ → (Bool × Post) × List ℕ
read_record ns =
    let read = post_from (first (behind ns)) (behind (behind ns)) in ((truth_of (first ns), read.0), read.1)

post_back : (p : Post) (rest : List ℕ) → post_from (first (post_numbers p ++ rest)) (behind (post_numbers p ++ rest)) ≡ (p, rest)
post_back Out rest = refl
post_back (Entering m) rest = refl
post_back (Waiting m n None) rest = refl
post_back (Waiting m n (Some d)) rest = ap (λ (e : ℕ). waiting_from m n (Some e, rest)) (div-add-mod' d (2 ^ 64))
post_back (Back m n w) rest = ap (λ (v : Why). (Back m n v, rest)) (why_back w)
post_back (Granted r) rest = ap (λ (v : Reply). (Granted v, rest)) (reply_back r)

record_back : IsReadBack (λ (x : Bool × Post). record_numbers x.0 x.1) read_record
record_back (flag, p) rest =
    λ i. ((truth_back flag i, (post_back p rest i).0), (post_back p rest i).1)

-- the flag and the post of a thread
pub record_apart : IsApart (λ (x : Bool × Post). record_numbers x.0 x.1)
record_apart = read_apart (λ (x : Bool × Post). record_numbers x.0 x.1) read_record record_back

-- ---- monitors and lines

abbrev pub owner_of : ℕ → Option ThreadId
owner_of zero = None
owner_of (suc n) = Some (record { 0 = n })

pub owner_back : (o : Option ThreadId) → owner_of (owner_number o) ≡ o
owner_back None = refl
owner_back (Some t) = ap owner_of (add-one t.0)

pub line_apart : IsApart line_numbers
line_apart [] [] a b e = (refl, ap behind e)
line_apart [] (u ∷ us) a b e = absurd (let h = ap first e in omega arith)
line_apart (t ∷ ts) [] a b e = absurd (let h = ap first e in omega arith)
line_apart (t ∷ ts) (u ∷ us) a b e =
    let heads : t.0 ≡ u.0 = let h = ap first e in omega arith in
    let tails = line_apart ts us a b (ap behind e) in
    (λ i. record { 0 = heads i } ∷ tails.0 i, tails.1)

-- what stands behind two lists stands behind the first
pub regrouped : (p q r s a b : List ℕ) → (p ++ q) ++ a ≡ (r ++ s) ++ b → p ++ (q ++ a) ≡ r ++ (s ++ b)
regrouped p q r s a b e = sym (append_assoc p q a) ∙ e ∙ append_assoc r s b

-- two monitors with the same numbers are the same, and so are their lines
pub record IsAlike (k l : LineMap) (m : ℕ) (b c : Monitor) (xs ys : List ℕ) : Type 0 where
  pub monitor : b ≡ c
  pub line : (r : Role) → line k m r ≡ line l m r
  pub rest : xs ≡ ys

by_role : (k l : LineMap) (m : ℕ) → line k m Entry ≡ line l m Entry → line k m WaitSet ≡ line l m WaitSet → (r : Role) → line k m r ≡ line l m r
by_role k l m entry waiting Entry = entry
by_role k l m entry waiting WaitSet = waiting

pub monitor_apart : (k l : LineMap) (m : ℕ) (b c : Monitor) (xs ys : List ℕ) → monitor_numbers k m b ++ xs ≡ monitor_numbers l m c ++ ys → IsAlike k l m b c xs ys
monitor_apart k l m b c xs ys e =
    let object : b.object.0 ≡ c.object.0 = ap first e in
    let owner : b.owner ≡ c.owner = sym (owner_back b.owner) ∙ ap owner_of (ap first (ap behind e)) ∙ owner_back c.owner in
    let holds : b.holds ≡ c.holds = ap first (ap behind (ap behind e)) in
    let lines = regrouped (line_numbers (line k m Entry)) (line_numbers (line k m WaitSet)) (line_numbers (line l m Entry)) (line_numbers (line l m WaitSet)) xs ys (ap behind (ap behind (ap behind e))) in
    let entry = line_apart (line k m Entry) (line l m Entry) _ _ lines in
    let waiting = line_apart (line k m WaitSet) (line l m WaitSet) xs ys entry.1 in
    record {
      monitor = λ i. record { object = record { 0 = object i }; owner = owner i; holds = holds i };
      line = by_role k l m entry.0 waiting.0;
      rest = waiting.1;
    }

-- and so are as many monitors
pub record AreAlike (k l : LineMap) (m : ℕ) (bs cs : List Monitor) (xs ys : List ℕ) : Type 0 where
  pub monitors : bs ≡ cs
  pub lines : (j : ℕ) (r : Role) → j < length bs → line k (m + j) r ≡ line l (m + j) r
  pub rest : xs ≡ ys

pub monitors_apart : (k l : LineMap) (m : ℕ) (bs cs : List Monitor) (xs ys : List ℕ) → length bs ≡ length cs → monitors_numbers k m bs ++ xs ≡ monitors_numbers l m cs ++ ys → AreAlike k l m bs cs xs ys
monitors_apart k l m [] [] xs ys same e = record { monitors = refl; lines = λ j r h. absurd (omega arith); rest = e }
monitors_apart k l m [] (c ∷ cs) xs ys same e = absurd (omega arith)
monitors_apart k l m (b ∷ bs) [] xs ys same e = absurd (omega arith)
monitors_apart k l m (b ∷ bs) (c ∷ cs) xs ys same e =
    let split = regrouped (monitor_numbers k m b) (monitors_numbers k (m + 1) bs) (monitor_numbers l m c) (monitors_numbers l (m + 1) cs) xs ys e in
    let one = monitor_apart k l m b c _ _ split in
    let more = monitors_apart k l (m + 1) bs cs xs ys (omega arith) one.rest in
    record {
      monitors = λ i. one.monitor i ∷ more.monitors i;
      lines = λ j r h. at j r h one more;
      rest = more.rest;
    }
  where
    at : (j : ℕ) (r : Role) → j < suc (length bs) → IsAlike k l m b c (monitors_numbers k (m + 1) bs ++ xs) (monitors_numbers l (m + 1) cs ++ ys) → AreAlike k l (m + 1) bs cs xs ys → line k (m + j) r ≡ line l (m + j) r
    at zero r h one more = let here : m + zero ≡ m = omega arith in rw here (one.line r)
    at (suc j) r h one more = let there : m + suc j ≡ (m + 1) + j = omega arith in rw there (more.lines j r (omega arith))

-- ---- fat states

-- nobody stands in a line of a monitor that is not bound
unbound_line : (f : FatState) (m : ℕ) (r : Role) → IsSound f → length f.monitors ≤ m → line_of f m r ≡ []
unbound_line f m r sound past = nobody_in (line_of f m r) (λ t there. none t (sound.standing t m r there))
  where
    none : (t : ThreadId) → (p : Post) × (post_of f t ≡ Some p) × (line_key_of p ≡ Some (key m r)) → ⊥
    none t (p, at, keyed) = unbound p (sound.proper t p at) keyed
      where
        same : (n : ℕ) (q : Role) → n < length f.monitors → Some (key n q) ≡ Some (key m r) → ⊥
        same n q few e = let k : n ≡ m = ap (λ (x : Key). x.0) (same_Some _ _ e) in absurd (omega arith)

        unbound : (p : Post) → IsProper f p → line_key_of p ≡ Some (key m r) → ⊥
        unbound Out proper keyed = absurd (cc)
        unbound (Entering n) proper keyed = same n Entry proper keyed
        unbound (Waiting n h d) proper keyed = same n WaitSet proper.0 keyed
        unbound (Back n h w) proper keyed = same n Entry proper.0 keyed
        unbound (Granted reply) proper keyed = absurd (cc)

-- the two are the same but for the attached threads
pub record IsSameButThreads (f g : FatState) : Type 0 where
  pub monitors : f.monitors ≡ g.monitors
  pub standing : f.standing ≡ g.standing
  pub moment : f.moment ≡ g.moment
  pub limit : f.limit ≡ g.limit
  pub spare : f.spare ≡ g.spare

same_unbound : (f g : FatState) (m : ℕ) (r : Role) → IsSound f → IsSound g → length f.monitors ≡ length g.monitors → length f.monitors ≤ m → line_of f m r ≡ line_of g m r
same_unbound f g m r sound sound' many past =
    let past' : length g.monitors ≤ m = omega (arith, many) in
    unbound_line f m r sound past ∙ sym (unbound_line g m r sound' past')

pub fats_apart : (f g : FatState) (a b : List ℕ) → IsSound f → IsSound g → fat_numbers f ++ a ≡ fat_numbers g ++ b → IsSameButThreads f g × (a ≡ b)
fats_apart f g a b sound sound' e =
    let rest = ap behind (ap behind (ap behind (ap behind e))) in
    let many : length f.monitors ≡ length g.monitors = ap first rest in
    let alike = monitors_apart f.standing.lines g.standing.lines 0 f.monitors g.monitors a b many (ap behind rest) in
    let reserved : f.standing.reservations ≡ g.standing.reservations = ap first (ap behind (ap behind (ap behind e))) in
    let lines = same_lines f.standing.lines g.standing.lines sound.orderly.filled sound'.orderly.filled (λ m r. at m r many alike (cases_lt m (length f.monitors))) in (
      record {
        monitors = alike.monitors;
        standing = λ i. record { lines = lines i; reservations = reserved i };
        moment = ap first e;
        limit = ap first (ap behind e);
        spare = ap first (ap behind (ap behind e));
      },
      alike.rest,
    )
  where
    at : (m : ℕ) (r : Role) → length f.monitors ≡ length g.monitors → AreAlike f.standing.lines g.standing.lines 0 f.monitors g.monitors a b
        → (m < length f.monitors) ⊎ (length f.monitors ≤ m) → line_of f m r ≡ line_of g m r
    at m r many alike (inl bound) = let same : 0 + m ≡ m = omega arith in rw (← same) (alike.lines m r bound)
    at m r many alike (inr past) = same_unbound f g m r sound sound' many past
