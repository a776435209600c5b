-- The numbers of passes that are looked through one after another.
use Rattle.std.proofs.Common.{◌≡◌, ◌≢◌, ◌≤◌, ◌<◌, ◌+◌, ℕ, List, [], ◌∷◌, false, All, Vec, Global, Result, Ok, Err, IfOk, IfErr, OnErr, map, sum, length, get_or, Contains, refl, sym, ap, subst, ◌∙◌, arith}
use Rattle.std.proofs.lemmas.List.{get_or_default, length-map}
use lib.ListN.{get_or-map}
use Rattle.std.proofs.lemmas.List.Elements.{All-map}
use native.Mathlib.Decide.{ℕ_discrete, dec_le}
use Rattle.lock_word.specs.declared.Word.{Word}
use Rattle.header_words.specs.Passes.{Opening, PassValue, IsClosed, LacksOne, indices_of}
use Rattle.header_words.specs.declared.close.CloseFault.{CloseFault}
use Rattle.header_words.specs.declared.close.CloseFault.TheVariants as fault
use Rattle.header_words.specs.Faults.{TellsFault}
use Rattle.fat_monitor.specs.FatState.{objects_of}
use Rattle.live_turns.specs.declared.closed.Closed.{Closed}
use Rattle.live_turns.specs.declared.closed.TurnsClose.{TurnsClose}
use Rattle.live_turns.specs.declared.closed.TurnsClose.TheVariants.{WrongPass, Memory, Torn}
use Rattle.live_book.specs.Book.{BookState}
use Rattle.live_book.specs.Log.{Replays, nothing_bound}
use Rattle.live_turns.specs.Numbers.{HasEach}
use Rattle.live_turns.specs.Ways.{PassState, Belongs}
use Rattle.live_turns.specs.Ends.{HasOwn, IsEnd, IsTorn, IsTornFrom, TellsEnd, count_of, numbers_of, words_of}

pub missed : {X : Type 0} (f : X → ℕ) (xs : List X) (i n : ℕ) (x : X) → n < length xs → x ≡ get_or xs n x → f x ≢ i → ((k : ℕ) (d : ℕ) → k < n → get_or (map f xs) k d ≢ i)
    → (k : ℕ) (d : ℕ) → k < n + 1 → get_or (map f xs) k d ≢ i
missed f xs i n x inside is not before k d lt e = go (ℕ_discrete k n)
  where
    go : Dec (k ≡ n) → ⊥
    go (yes same) =
        let within : n < length (map f xs) = simp length-map inside in
        let read : get_or (map f xs) n d ≡ f x = get_or_default (map f xs) n d (f x) within ∙ (get_or-map f xs n x ∙ ap f (sym is)) in
        not (sym read ∙ (ap (λ (j : ℕ). get_or (map f xs) j d) (sym same) ∙ e))
    go (no ne) = before k d (omega arith) e

pub up_to : (P : ℕ → Type 0) (n i : ℕ) → ((j : ℕ) → 1 ≤ j → j ≤ n → P j) → P (n + 1) → 1 ≤ i → i ≤ n + 1 → P i
up_to P n i all here one most = go (dec_le i n)
  where
    go : Dec (i ≤ n) → P i
    go (yes le) = all i one le
    go (no nle) = let e : n + 1 ≡ i = omega arith in subst P e here

-- ---- for `close`

-- the words were not closed for want of a pass
abbrev pub IsMissing : {B : Type 0} → CloseFault B → Type 0
IsMissing (fault.WrongPass h p) = Unit {0}
IsMissing (fault.Memory h p) = ⊥

pub belong_words : (z : Opening) (ps : List PassState) → All (λ p. Belongs z false p.holding) ps → All (λ p. p.opening ≡ z) (map words_of ps)
belong_words z ps all = All-map (λ (p : PassValue). p.opening ≡ z) words_of ps (λ k d lt. (all k d lt).0)

pub without_words : (z : Opening) (ps : List PassState) → All (λ p. Belongs z false p.holding) ps → All (λ p. p.has_gate ≡ false) (map words_of ps)
without_words z ps all = All-map (λ (p : PassValue). p.has_gate ≡ false) words_of ps (λ k d lt. (all k d lt).1)

same_numbers : (ps : List PassState) → indices_of (map words_of ps) ≡ numbers_of ps
same_numbers [] = refl
same_numbers (p ∷ ps) = ap (λ (ns : List ℕ). p.holding.words.index ∷ ns) (same_numbers ps)

pub lacks_none : (count : ℕ) (ps : List PassState) → HasEach count (numbers_of ps) → LacksOne count (map words_of ps) → ⊥
lacks_none count ps each lacks = lacks.3 (subst (λ (ns : List ℕ). Contains ns lacks.0) (sym (same_numbers ps)) (each.1 lacks.0 lacks.1 lacks.2))

pub all_there : (count parts : ℕ) (ps rs : List PassState) → rs ≡ ps → HasEach count (numbers_of ps) → parts ≡ count → length rs ≡ parts
all_there count parts ps rs same each is = ap (λ (xs : List PassState). length xs) same ∙ (sym (length-map ps (λ (p : PassState). p.holding.words.index)) ∙ (each.0 ∙ sym is))

pub both_ok : {X E : Type 0} (P Q R : X → Type 0) (r : Result X E) → IfOk r P → IfOk r Q → ((x : X) → P x → Q x → R x) → IfOk r R
both_ok P Q R (Ok x) p q to = to x p q
both_ok P Q R (Err e) p q to = tt

pub torn_tells : {L : Type 0} (count : ℕ) (ps : List PassState) (f : TurnsClose L) → HasEach count (numbers_of ps) → IsTorn f → TellsEnd count ps f
torn_tells count ps (WrongPass t p) each torn = absurd torn
torn_tells count ps (Memory t p) each torn = each
torn_tells count ps Torn each torn = each

pub torn_ends : {L : Type 0} (count : ℕ) (ps : List PassState) (r : Result Closed (TurnsClose L)) → HasEach count (numbers_of ps) → IfErr r IsTorn → IfErr r (TellsEnd count ps)
torn_ends count ps (Ok c) each torn = tt
torn_ends count ps (Err f) each torn = torn_tells count ps f each torn

pub end_of : (z w : Opening) (limit : ℕ) (ps rs : List PassState) (row : List PassValue) (words : Vec Word Global) (counts : Vec ℕ Global) (b : BookState) (c : Closed)
    → w ≡ z → row ≡ map words_of ps → rs ≡ ps → b.passes ≡ z.count → b.fats.limit ≡ limit → IsClosed w row (map (λ x. x.0) words.items) (objects_of b.fats) → counts.items ≡ map count_of ps
    → ((c.words ≡ words) × (c.counts ≡ counts) × (c.logged.items ≡ b.log) × All (HasOwn c.logged.items) rs × (length c.logged.items ≡ sum (map count_of rs)))
    → Replays b.passes (nothing_bound b.passes b.fats.limit) c.logged.items b.fats → IsEnd z limit ps c
end_of z w limit ps rs row words counts b c here rows rest_is passes limits closed counted end replays = record {
  fats = b.fats;
  words = subst (λ (v : Vec Word Global). IsClosed z (map words_of ps) (map (λ x. x.0) v.items) (objects_of b.fats)) (sym end.0)
      (subst (λ (r : List PassValue). IsClosed z r (map (λ x. x.0) words.items) (objects_of b.fats)) rows (subst (λ (o : Opening). IsClosed o row (map (λ x. x.0) words.items) (objects_of b.fats)) here closed));
  replays = subst (λ (n : ℕ). Replays n (nothing_bound n limit) c.logged.items b.fats) passes
      (subst (λ (m : ℕ). Replays b.passes (nothing_bound b.passes m) c.logged.items b.fats) limits replays);
  own = subst (All (HasOwn c.logged.items)) rest_is end.3;
  counts = ap (λ (v : Vec ℕ Global). v.items) end.1 ∙ counted;
  total = end.4 ∙ ap (λ (xs : List PassState). sum (map count_of xs)) rest_is;
}

pub each_at : (m n : ℕ) (xs ys : List PassState) → m ≡ n → xs ≡ ys → HasEach m (numbers_of xs) → HasEach n (numbers_of ys)
each_at m n xs ys same rows each = subst (λ (k : ℕ). HasEach k (numbers_of ys)) same (subst (λ (ps : List PassState). HasEach m (numbers_of ps)) rows each)

pub no_wrong : {B : Type 0} (z w : Opening) (ps : List PassState) (row : List PassValue) (e f : CloseFault B) → w ≡ z → row ≡ map words_of ps → f ≡ e → IsMissing e → HasEach z.count (numbers_of ps) → TellsFault w.count row f → ⊥
no_wrong {B} z w ps row e f here rows is missing each tells =
    told e missing (subst (TellsFault z.count (map words_of ps)) is (subst (λ (r : List PassValue). TellsFault z.count r f) rows (subst (λ (o : Opening). TellsFault o.count row f) here tells)))
  where
    told : (x : CloseFault B) → IsMissing x → TellsFault z.count (map words_of ps) x → ⊥
    told (fault.WrongPass h p) missing lacks = lacks_none z.count ps each lacks
    told (fault.Memory h p) missing lacks = absurd missing

pub ok_always : {X E : Type 0} (P : Type 0) (r : Result X E) → P → IfOk r (λ _. P)
ok_always P (Ok x) p = p
ok_always P (Err e) p = tt

-- where the book does not have just the deeds of the passes
pub torn_from : {L : Type 0} (z : Opening) (limit : ℕ) (ps rs : List PassState) (b : BookState) (r : Result Closed (TurnsClose L)) → rs ≡ ps → b.passes ≡ z.count → b.fats.limit ≡ limit
    → OnErr r (All (HasOwn b.log) rs → ⊥) → Replays b.passes (nothing_bound b.passes b.fats.limit) b.log b.fats → length b.log ≡ sum (map count_of rs) → IfErr r IsTorn
    → IfErr r (IsTornFrom z limit ps)
torn_from z limit ps rs b (Ok c) same passes limits other replays total torn = tt
torn_from {L} z limit ps rs b (Err f) same passes limits other replays total torn = told f torn
  where
    told : (x : TurnsClose L) → IsTorn x → IsTornFrom z limit ps x
    told (WrongPass t p) is = absurd is
    told (Memory t p) is = absurd is
    told Torn is = record {
      log = b.log;
      fats = b.fats;
      replays = subst (λ (n : ℕ). Replays n (nothing_bound n limit) b.log b.fats) passes
          (subst (λ (m : ℕ). Replays b.passes (nothing_bound b.passes m) b.log b.fats) limits replays);
      total = total ∙ ap (λ (xs : List PassState). sum (map count_of xs)) same;
      other = λ all. other (subst (All (HasOwn b.log)) (sym same) all);
    }
