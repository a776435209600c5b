-- Columns that were played, and those that are left.
use Rattle.std.proofs.Common.{◌≡◌, ℕ, suc, ◌+◌, ◌<◌, ◌≤◌, ◌^◌, List, [], ◌∷◌, ◌++◌, length, length-append, refl, sym, ap, ◌∙◌, subst, append_assoc, append-nil, arith}
use Rattle.std.proofs.lemmas.List.{map-append, length-map}
use Rattle.std.specs.List.{AllZip}
use Rattle.std.specs.Prelude.{Vec}
use Rattle.std.specs.declared.alloc.Global.{Global}
use Rattle.lock_word.specs.declared.Word.{Word}
use Rattle.lock_word.specs.declared.ThreadId.{ThreadId}
use Rattle.step_core.specs.declared.machine.Move.{Move}
use Rattle.step_core.specs.Machine.{State, Run}
use Rattle.pictures.specs.declared.columns.Column.{Column}
use Rattle.pictures.specs.declared.picture.Arrow.{Arrow}
use Rattle.pictures.specs.declared.late.LateLane.{LateLane}
use Rattle.pictures.specs.declared.picture.Lane.{Lane}
use Rattle.pictures.specs.declared.picture.Strip.{Strip}
use Rattle.pictures.specs.declared.picturing.Film.{Film}
use Rattle.jls_check.specs.MachineState.{state}
use Rattle.pictures.specs.Arrows.{Tells, Follow}
use Rattle.pictures.specs.Late.{IsFinished, IsKept, IsLate, IsOpenLane}
use Rattle.pictures.specs.Made.{calls_made, replies_made}
use Rattle.pictures.specs.Marks.{moves_in}
use Rattle.pictures.specs.Spans.{strip_covered, strip_words, word_in, words_told, kept_of, IsMarkedStrip, AllMarkedStrips}
use Rattle.pictures.specs.Pictures.{all_moves, AreLanes, IsStrip, AreStrips, IsOpenStrip, AreOpenStrips, AreShort, CanRun, IsFilm, last_state}
use Rattle.pictures.proofs.LateLanes.{lanes_finished, lanes_more, lanes_opened}
use Rattle.pictures.proofs.Runs.{run_join, run_one, run_split}

-- ---- strips

pub AreOpenStrips-more : (os : List ℕ) (ps : List Strip) (o : ℕ) (p : Strip) → AreOpenStrips os ps → IsOpenStrip o p
    → AreOpenStrips (os ++ o ∷ []) (ps ++ p ∷ [])
AreOpenStrips-more [] [] o p x y = (y, tt)
AreOpenStrips-more [] (q ∷ ps) o p x y = absurd x
AreOpenStrips-more (u ∷ os) [] o p x y = absurd x
AreOpenStrips-more (u ∷ os) (q ∷ ps) o p x y = (x.0, AreOpenStrips-more os ps o p x.1 y)

pub strips_opened : (words : List (Vec Word Global)) (k : ℕ) (os : List ℕ) (ps : List Strip) → AreOpenStrips os ps → AreStrips words k [] os ps
strips_opened words k [] [] x = tt
strips_opened words k [] (p ∷ ps) x = absurd x
strips_opened words k (o ∷ os) [] x = absurd x
strips_opened words k (o ∷ os) (p ∷ ps) x = (
  record { object = x.0.object; spans = ap strip_covered x.0.empty; words_are = ap strip_words x.0.empty },
  strips_opened words (k + 1) os ps x.1,
)

words_more : (words : List (Vec Word Global)) (k n number : ℕ) (states : List State) (s : State) → number ≡ n + length states
    → words_told words k n (states ++ s ∷ []) ≡ words_told words k n states ++ word_in words number k ∷ []
words_more words k n number [] s e =
    let same : n ≡ number = omega (arith, e) in
    ap (λ x. word_in words x k ∷ []) same
words_more words k n number (t ∷ states) s e =
    ap (λ l. word_in words n k ∷ l) (words_more words k (n + 1) number states s (omega (arith, e)))

strip_marked : (words : List (Vec Word Global)) (k number : ℕ) (states : List State) (o : ℕ) (p r : Strip) (s : State) → number ≡ length states
    → IsStrip words k states o p → IsMarkedStrip s (word_in words number k) p r → IsStrip words k (states ++ s ∷ []) o r
strip_marked words k number states o p r s e x y = record {
  object = y.object ∙ x.object;
  words_are = y.words ∙ ap (λ l. l ++ word_in words number k ∷ []) x.words_are ∙ sym (words_more words k 0 number states s (omega (arith, e)));
  spans = y.spans ∙ ap (λ k. strip_covered p.spans.items ++ kept_of k s ∷ []) x.object ∙ ap (λ k. k ++ kept_of (record { 0 = o }) s ∷ []) x.spans
      ∙ sym (map-append (kept_of (record { 0 = o })) states (s ∷ []));
}

pub strips_marked : (words : List (Vec Word Global)) (k number : ℕ) (states : List State) (os : List ℕ) (ps rs : List Strip) (s : State) → number ≡ length states
    → AreStrips words k states os ps → AllMarkedStrips s words number k ps rs → AreStrips words k (states ++ s ∷ []) os rs
strips_marked words k number states [] [] [] s e x y = tt
strips_marked words k number states [] [] (r ∷ rs) s e x y = absurd y
strips_marked words k number states [] (p ∷ ps) rs s e x y = absurd x
strips_marked words k number states (o ∷ os) [] rs s e x y = absurd x
strips_marked words k number states (o ∷ os) (p ∷ ps) [] s e x y = absurd y
strips_marked words k number states (o ∷ os) (p ∷ ps) (r ∷ rs) s e x y =
    (strip_marked words k number states o p r s e x.0 y.0, strips_marked words (k + 1) number states os ps rs s e x.1 y.1)

pub tells_run : (us : List ThreadId) (n : ℕ) (ms : List Move) (s next : State) (here : List Arrow) → Tells us n s ms next here → Run s ms next
tells_run us n [] s next here p = p.0
tells_run us n (m ∷ ms) s next here p = (p.0, p.2, tells_run us n ms p.0 next p.1 p.3)

-- ---- columns

last_more : (s x : State) (ts : List State) → last_state s (ts ++ x ∷ []) ≡ x
last_more s x [] = refl
last_more s x (t ∷ ts) = last_more t x ts

follow_more : (us : List ThreadId) (n number : ℕ) (s now next : State) (cs : List Column) (ts : List State) (c : Column) (arrows here : List Arrow)
    → Follow us n s cs ts arrows → last_state s ts ≡ now → number ≡ n + length cs → Tells us number now (moves_in c) next here
    → Follow us n s (cs ++ c ∷ []) (ts ++ next ∷ []) (arrows ++ here)
follow_more us n number s now next [] [] c arrows here f at e told =
    let same : number ≡ n = omega (arith, e) in
    let told2 = subst (λ k. Tells us k now (moves_in c) next here) same told in
    (here, [], subst (λ x. Tells us n x (moves_in c) next here) (sym at) told2, refl, ap (λ l. l ++ here) f ∙ sym (append-nil here))
follow_more us n number s now next [] (t ∷ ts) c arrows here f at e told = absurd f
follow_more us n number s now next (k ∷ cs) [] c arrows here f at e told = absurd f
follow_more us n number s now next (k ∷ cs) (t ∷ ts) c arrows here f at e told =
    let same : number ≡ n + 1 + length cs = omega (arith, e) in
    (f.0, f.1 ++ here, f.2, follow_more us (n + 1) number t now next cs ts c f.1 here f.3 at same told, ap (λ l. l ++ here) f.4 ∙ append_assoc f.0 f.1 here)

pub follow_length : (us : List ThreadId) (n : ℕ) (s : State) (cs : List Column) (ts : List State) (arrows : List Arrow) → Follow us n s cs ts arrows → length ts ≡ length cs
follow_length us n s [] [] arrows f = refl
follow_length us n s [] (t ∷ ts) arrows f = absurd f
follow_length us n s (c ∷ cs) [] arrows f = absurd f
follow_length us n s (c ∷ cs) (t ∷ ts) arrows f = ap suc (follow_length us (n + 1) t cs ts f.1 f.3)

-- the columns lead to the last state
pub follow_run : (us : List ThreadId) (n : ℕ) (s : State) (cs : List Column) (ts : List State) (arrows : List Arrow) → Follow us n s cs ts arrows → Run s (all_moves cs) (last_state s ts)
follow_run us n s [] [] arrows f = refl
follow_run us n s [] (t ∷ ts) arrows f = absurd f
follow_run us n s (c ∷ cs) [] arrows f = absurd f
follow_run us n s (c ∷ cs) (t ∷ ts) arrows f =
    run_join (moves_in c) (all_moves cs) s t (last_state t ts) (tells_run us n (moves_in c) s t f.0 f.2) (follow_run us (n + 1) t cs ts f.1 f.3)

-- What was filmed of the columns in front, and that those that are left are lawful.
pub record IsFilming (us : List ThreadId) (drawn : List ℕ) (words : List (Vec Word Global)) (start : State) (all front left : List Column) (number : ℕ) (now : State) (lanes : List LateLane) (strips : List Strip) (arrows : List Arrow) : Type 0 where
  pub states : List State
  pub follow : Follow us 0 start front states arrows
  pub at : last_state start states ≡ now
  pub counted : number ≡ length front
  pub lanes_are : AllZip (IsLate all states now) us lanes
  pub strips_are : AreStrips words 0 states drawn strips
  pub end : State
  pub run : Run now (all_moves left) end

pub filming_begins : (us : List ThreadId) (drawn : List ℕ) (words : List (Vec Word Global)) (all : List Column) (now : State) (lanes : List LateLane) (strips : List Strip) (arrows : List Arrow)
    → CanRun now (all_moves all) → arrows ≡ [] → AllZip (IsOpenLane (calls_made 0 all) (replies_made 0 all)) us lanes → AreOpenStrips drawn strips
    → IsFilming us drawn words now all [] all 0 now lanes strips arrows
filming_begins us drawn words all now lanes strips arrows run none ls ps = record {
  states = [];
  follow = none;
  at = refl;
  counted = refl;
  lanes_are = lanes_opened all now us lanes ls;
  strips_are = strips_opened words 0 drawn strips ps;
  end = run.0;
  run = run.1;
}

pub next_lawful : (us : List ThreadId) (drawn : List ℕ) (words : List (Vec Word Global)) (start : State) (all front left : List Column) (c : Column) (number : ℕ) (now : State) (lanes : List LateLane) (strips : List Strip) (arrows : List Arrow)
    → IsFilming us drawn words start all front (c ∷ left) number now lanes strips arrows → (mid : State) × Run now (moves_in c) mid
next_lawful us drawn words start all front left c number now lanes strips arrows f =
    let split = run_split (moves_in c) (all_moves left) now f.end f.run in
    (split.0, split.1)

pub filming_more : (us : List ThreadId) (drawn : List ℕ) (words : List (Vec Word Global)) (start : State) (all front left : List Column) (c : Column) (number : ℕ) (now next : State) (lanes lanes' : List LateLane) (strips strips' : List Strip) (arrows arrows' : List Arrow)
    → IsFilming us drawn words start all front (c ∷ left) number now lanes strips arrows
    → (here : List Arrow) × Tells us number now (moves_in c) next here × (arrows' ≡ arrows ++ here)
    → AllZip (IsKept number now next) lanes lanes' → AllMarkedStrips next words number 0 strips strips'
    → IsFilming us drawn words start all (front ++ c ∷ []) left (number + 1) next lanes' strips' arrows'
filming_more us drawn words start all front left c number now next lanes lanes' strips strips' arrows arrows' f told ls ps =
    let split = run_split (moves_in c) (all_moves left) now f.end f.run in
    let behind = follow_length us 0 start front f.states arrows f.follow in
    record {
      states = f.states ++ next ∷ [];
      follow = subst (Follow us 0 start (front ++ c ∷ []) (f.states ++ next ∷ [])) (sym told.2)
          (follow_more us 0 number start now next front f.states c arrows told.0 f.follow f.at (omega (arith, f.counted)) told.1);
      at = last_more start next f.states;
      counted = omega (arith, f.counted, length-append front (c ∷ []));
      lanes_are = lanes_more all f.states now next us lanes lanes' f.lanes_are (subst (λ n. AllZip (IsKept n now next) lanes lanes') (f.counted ∙ sym behind) ls);
      strips_are = strips_marked words 0 number f.states drawn strips strips' next (f.counted ∙ sym behind) f.strips_are ps;
      end = f.end;
      run = subst (λ x. Run x (all_moves left) f.end) (run_one (moves_in c) now split.0 next split.1 (tells_run us number (moves_in c) now next told.0 told.1)) split.2;
    }

-- behind the last column, once the lanes have all columns
pub filmed : (us : List ThreadId) (drawn : List ℕ) (words : List (Vec Word Global)) (start : State) (all : List Column) (number : ℕ) (lanes : List LateLane) (f : Film)
    → IsFilming us drawn words start all all [] number (state f.machine) lanes f.strips.items f.arrows.items
    → AllZip (IsFinished number (state f.machine)) lanes f.lanes.items → IsFilm start all us drawn words f
filmed us drawn words start all number lanes f p finished =
    let behind = follow_length us 0 start all p.states f.arrows.items p.follow in
    record {
      states = p.states;
      follow = p.follow;
      lanes = lanes_finished all p.states (state f.machine) us lanes f.lanes.items p.lanes_are (subst (λ n. AllZip (IsFinished n (state f.machine)) lanes f.lanes.items) (p.counted ∙ sym behind) finished);
      strips = p.strips_are;
      last = sym p.at;
    }

-- ---- how many states there are

short : (words : List (Vec Word Global)) (k : ℕ) (states : List State) (os : List ℕ) (ps : List Strip) → length states < 2 ^ 32 → AreStrips words k states os ps → AreShort ps
short words k states [] [] few p = tt
short words k states [] (q ∷ ps) few p = absurd p
short words k states (o ∷ os) [] few p = absurd p
short words k states (o ∷ os) (q ∷ ps) few p =
    (omega (arith, few, ap length p.0.spans, length-map states (kept_of (record { 0 = o }))), short words (k + 1) states os ps few p.1)

pub strips_short : (us : List ThreadId) (words : List (Vec Word Global)) (s : State) (cs : List Column) (states : List State) (arrows : List Arrow) (os : List ℕ) (ps : List Strip)
    → Follow us 0 s cs states arrows → AreStrips words 0 states os ps → length cs ≤ 20000 → AreShort ps
strips_short us words s cs states arrows os ps f p few =
    short words 0 states os ps (omega (arith, few, follow_length us 0 s cs states arrows f)) p

pub lanes_length : (cs : List Column) (states : List State) (ts : List ThreadId) (ls : List Lane) → AreLanes cs states ts ls → length ls ≡ length ts
lanes_length cs states [] [] p = refl
lanes_length cs states [] (l ∷ ls) p = absurd p
lanes_length cs states (t ∷ ts) [] p = absurd p
lanes_length cs states (t ∷ ts) (l ∷ ls) p = ap suc (lanes_length cs states ts ls p.1)

pub strips_length : (words : List (Vec Word Global)) (k : ℕ) (states : List State) (os : List ℕ) (ps : List Strip) → AreStrips words k states os ps → length ps ≡ length os
strips_length words k states [] [] p = refl
strips_length words k states [] (q ∷ ps) p = absurd p
strips_length words k states (o ∷ os) [] p = absurd p
strips_length words k states (o ∷ os) (q ∷ ps) p = ap suc (strips_length words (k + 1) states os ps p.1)
