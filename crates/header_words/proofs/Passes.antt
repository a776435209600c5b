-- What a step makes of a pass.
use Rattle.std.proofs.Common.{◌≡◌, ℕ, Bool, Option, ◌+◌, ◌<◌, ◌≤◌, List, [], ◌∷◌, ◌++◌, length, set, refl, sym, ap, ◌∙◌, subst, arith, length-set, get_or, get_or-set_same, get_or-set_other}
use native.Mathlib.Decide.{ℕ_discrete}
use Rattle.std.proofs.lemmas.List.{get_or_default}
use Rattle.std.specs.Prelude.{slice_index}
use mathlib.Core.Option.{none}
use prog.Atomic.{either}
use Rattle.std.proofs.Common.{eqb}
use Rattle.atomic_table.specs.Seated.{TableId}
use Rattle.atomic_table.specs.Table.{Me, Allows, step}
use Rattle.atomic_table.specs.declared.shared.Seat.{Seat}
use Rattle.lock_word.specs.declared.Lock.{Lock}
use Rattle.lock_word.specs.declared.Lock.TheVariants.{Thin}
use Rattle.lock_word.specs.declared.ObjectId.{ObjectId}
use Rattle.header_words.specs.WideWords.{word_of}
use Rattle.header_words.specs.declared.rule.Layout.{Layout}
use Rattle.header_words.proofs.Keeps.{loads, stores, exchanges}
use Rattle.header_words.specs.declared.event.EventKind.{EventKind}
use Rattle.header_words.specs.declared.rule.View.{View}
use Rattle.header_words.specs.Bindings.{Covers}
use Rattle.header_words.specs.Events.{event, depth_after, lock_at, depth}
use Rattle.header_words.specs.Rule.{Ruled, index_of, mine_of, HasOneIndex}
use Rattle.header_words.specs.Steps.{MayStore, Loads, Stores, Exchanges, AddsEvent, ShowsDepth}
use Rattle.header_words.specs.Passes.{IsPass, IsHeaders, Opening, opening_of, PassValue, pass_value, MakesEvent, HoldsThinly}
use Rattle.header_words.proofs.Bindings.{covers_snoc}
use Rattle.header_words.proofs.Traces.{row_after, row_same, depth_here, depth_else, depth_is_holds, thin_iff}

-- a step that added an event made it
pub made : {B : Type 0} (o : ℕ) (kind : EventKind) (n : ℕ) (s t : Seat (Option B) View) → t.table_id ≡ s.table_id → AddsEvent o kind n s.me.0 t.me.0 → MakesEvent o kind n (pass_value s) (pass_value t)
made o kind n s t same told = record {
  opening = λ k. record { table = same k; lows = (told.view k).lows; count = (told.view k).count };
  index = ap (λ (v : View). index_of v.parts) told.view;
  mine = ap (λ (v : View). mine_of v.parts) told.view;
  has_gate = ap (λ (v : View). v.has_gate) told.view;
  step = ap (λ (v : View). v.steps) told.view;
  rest = told.rest;
  seen = ap (λ (v : View). v.seen) told.view;
  saw = told.saw;
  word = told.word;
  new_depth = ap (λ (v : View). depth o (mine_of v.parts)) told.view ∙ depth_here o (mine_of s.me.0.parts) (event (index_of s.me.0.parts) o kind) refl;
  others = λ k ne. ap (λ (v : View). depth k (mine_of v.parts)) told.view ∙ depth_else k (mine_of s.me.0.parts) (event (index_of s.me.0.parts) o kind) (λ e. ne (sym e));
  publishes = told.publishes;
  covers = λ has objects old binds. subst (Covers objects) (sym (ap (λ (v : View). v.seen) told.view)) (covers_snoc objects s.me.0.seen (s.me.0.seen ++ told.rest) (event (index_of s.me.0.parts) o kind) (told.publishes has) old binds);
}

-- the same, of a pass as contracts see it
pub made_at : {B : Type 0} (o : ℕ) (kind : EventKind) (n : ℕ) (p : PassValue) (s t : Seat (Option B) View) → pass_value s ≡ p → t.table_id ≡ s.table_id → AddsEvent o kind n s.me.0 t.me.0 → MakesEvent o kind n p (pass_value t)
made_at o kind n p s t is same told = subst (λ (q : PassValue). MakesEvent o kind n q (pass_value t)) is (made o kind n s t same told)

-- depths stay at 256 or below
few_set : (depths : List ℕ) (o x : ℕ) → o < length depths → x ≤ 256 → ((k : ℕ) → k < length depths → slice_index depths k ≤ 256) → (k : ℕ) → k < length (set depths o x) → slice_index (set depths o x) k ≤ 256
few_set depths o x inside most few k lt = go (ℕ_discrete k o)
  where
    go : Dec (k ≡ o) → slice_index (set depths o x) k ≤ 256
    go (yes is) = let e : slice_index (set depths o x) k ≡ x = ap (slice_index (set depths o x)) is ∙ get_or-set_same depths o x 0 inside in omega arith
    go (no ne) = let e : slice_index (set depths o x) k ≡ slice_index depths k = get_or-set_other depths o k x 0 ne in let h : slice_index depths k ≤ 256 = few k (let l = length-set depths o x in omega arith) in omega arith

module _ {B : Type 0} (index : ℕ) (depths ls : List ℕ) (gate : Bool) (s t : Seat (Option B) View) (p : IsPass index depths ls gate s) (o : ℕ) (kind : EventKind) (n : ℕ) (told : AddsEvent o kind n s.me.0 t.me.0) (slots : t.me.1 ≡ s.me.1) where
  with_row : (row : List ℕ) → length row ≡ length depths → ((k : ℕ) → k < length row → slice_index row k ≤ 256) → ((k : ℕ) → k < length row → slice_index row k ≡ depth k (mine_of s.me.0.parts ++ event (index_of s.me.0.parts) o kind ∷ [])) → IsPass index row ls gate t
  with_row row len few is = record {
    lone = subst (λ (v : View). HasOneIndex v) (sym told.view) refl;
    named = ap (λ (v : View). index_of v.parts) told.view ∙ p.named;
    low = p.low;
    high = p.high;
    gate = ap (λ (v : View). v.has_gate) told.view ∙ p.gate;
    carries = slots ∙ p.carries;
    few = few;
    wide = len ∙ (p.wide ∙ ap length (sym (ap (λ (v : View). v.lows) told.view)));
    copy = p.copy ∙ sym (ap (λ (v : View). v.lows) told.view);
    rows = λ k lt. is k lt ∙ ap (depth k) (sym (ap (λ (v : View). mine_of v.parts) told.view));
    saw = told.saw;
  }

  -- an event of this kind does not change the depth
  pub row_kept : depth_after kind (depth o (mine_of s.me.0.parts)) ≡ depth o (mine_of s.me.0.parts) → IsPass index depths ls gate t
  row_kept same = with_row depths refl p.few (row_same depths (mine_of s.me.0.parts) (event (index_of s.me.0.parts) o kind) same p.rows)

  pub row_set : (x : ℕ) → o < length depths → x ≤ 256 → x ≡ depth_after kind (depth o (mine_of s.me.0.parts)) → IsPass index (set depths o x) ls gate t
  row_set x inside most is = with_row (set depths o x) (length-set depths o x) (few_set depths o x inside most p.few) (row_after depths (mine_of s.me.0.parts) (event (index_of s.me.0.parts) o kind) x inside is p.rows)

-- an element that was read
pub read_at : (xs : List ℕ) (i x : ℕ) → i < length xs → x ≡ get_or xs i x → x ≡ slice_index xs i
read_at xs i x lt e = e ∙ get_or_default xs i x 0 lt

-- the same event, by an equal word
pub made_word : (o : ℕ) (kind : EventKind) (n m : ℕ) (p q : PassValue) → n ≡ m → MakesEvent o kind n p q → MakesEvent o kind m p q
made_word o kind n m p q e h = subst (λ (x : ℕ). MakesEvent o kind x p q) e h

-- what holds of the opening's low bytes and count holds of the table's key
over_key : (P : List ℕ → ℕ → Type 0) (t : TableId) (key layout : Layout) (z : Opening) → key ≡ layout → opening_of t layout ≡ z → P z.lows z.count → P key.lows.items key.count
over_key P t key layout z same is h = subst (λ (l : Layout). P l.lows.items l.count) (sym same) (subst (λ (y : Opening). P y.lows y.count) (sym is) h)

-- a low byte that was read in the copy of a pass
pub read_low : {B : Type 0} (index : ℕ) (depths ls : List ℕ) (gate : Bool) (s : Seat (Option B) View) (p : PassValue) (z : Opening) (o x : ℕ) → IsPass index depths ls gate s → pass_value s ≡ p → p.opening ≡ z → o < length z.lows → x ≡ get_or ls o x → x ≡ slice_index z.lows o
read_low index depths ls gate s p z o x is seen same =
    subst (λ (l : List ℕ). o < length l → x ≡ get_or ls o x → x ≡ slice_index l o) (is.copy ∙ (ap (λ (q : PassValue). q.opening.lows) seen ∙ ap (λ (y : Opening). y.lows) same)) (read_at ls o x)

-- the table of a pass is that of its opening
pub same_table : {B : Type 0} (s : Seat (Option B) View) (p : PassValue) (t : TableId) (layout : Layout) (z : Opening) → pass_value s ≡ p → p.opening ≡ z → opening_of t layout ≡ z → s.table_id ≡ t
same_table s p t layout z seen same is = ap (λ (q : PassValue). q.opening.table) seen ∙ (ap (λ (y : Opening). y.table) same ∙ sym (ap (λ (y : Opening). y.table) is))

-- the object has a word in the table
pub has_word : (t : TableId) (key layout : Layout) (z : Opening) (o : ℕ) → IsHeaders t key layout → opening_of t layout ≡ z → o < length z.lows → o + 1 < t.words
has_word t key layout z o h is lt =
    let w = h.words in
    let same : length layout.lows.items ≡ length z.lows = ap (λ (y : Opening). length y.lows) is in omega arith

-- what each step asks, of the key that the table has
pub loads_at : {B : Type 0} (bound : B → List ObjectId) (t : TableId) (key layout : Layout) (z : Opening) (slots id : ℕ) (me : Me (Option B) View) (o : ℕ) → key ≡ layout → opening_of t layout ≡ z → HasOneIndex me.0 → o < length z.lows
    → Allows (Ruled bound key.lows.items key.count) slots id me (o + 1) (λ n. n) (Loads (step slots (o + 1) 0 0 none) me)
loads_at bound t key layout z slots id me o same is one inside =
    over_key (λ ls c. Allows (Ruled bound ls c) slots id me (o + 1) (λ n. n) (Loads (step slots (o + 1) 0 0 none) me)) t key layout z same is (loads bound z.lows z.count slots id me o one inside)

-- an exchange of the free word
pub exchanges_at : {B : Type 0} (bound : B → List ObjectId) (t : TableId) (key layout : Layout) (z : Opening) (slots id : ℕ) (me : Me (Option B) View) (o low new : ℕ) → key ≡ layout → opening_of t layout ≡ z → HasOneIndex me.0 → o < length z.lows
    → low ≡ slice_index z.lows o → new ≡ word_of (Thin (index_of me.0.parts) 0) low
    → Allows (Ruled bound key.lows.items key.count) slots id me (o + 1) (λ n. either (eqb n low) new n) (Exchanges (step slots (o + 1) low new none) me)
exchanges_at bound t key layout z slots id me o low new same is one inside is_low is_new =
    over_key (λ ls c. Allows (Ruled bound ls c) slots id me (o + 1) (λ n. either (eqb n low) new n) (Exchanges (step slots (o + 1) low new none) me)) t key layout z same is
    (exchanges bound z.lows z.count slots id me o low new one inside is_low is_new)

-- an object of the table has a position in the row
pub in_row : {B : Type 0} (index : ℕ) (depths ls : List ℕ) (gate : Bool) (s : Seat (Option B) View) (p : PassValue) (z : Opening) (o : ℕ) → IsPass index depths ls gate s → pass_value s ≡ p → p.opening ≡ z → o < length z.lows → o < length depths
in_row index depths ls gate s p z o is seen same lt = let e : length s.me.0.lows ≡ length z.lows = ap (λ (q : PassValue). length q.opening.lows) seen ∙ ap (λ (y : Opening). length y.lows) same in let w = is.wide in omega arith

-- the same of a store, where the caller names the lock that it stores and the depth that is left
pub puts_at : {B : Type 0} (bound : B → List ObjectId) (t : TableId) (key layout : Layout) (z : Opening) (slots id : ℕ) (s : Seat (Option B) View) (p : PassValue) (o : ℕ) (kind_of : ℕ → EventKind) (lock : Lock) (left new : ℕ) → key ≡ layout → opening_of t layout ≡ z → pass_value s ≡ p → HasOneIndex s.me.0 → o < length z.lows
    → new ≡ word_of lock (slice_index z.lows o) → MayStore p.index (depth o p.mine) p.has_gate (kind_of (word_of lock (slice_index z.lows o))) (slice_index z.lows o) lock left
    → Allows (Ruled bound key.lows.items key.count) slots id s.me (o + 1) (λ _. new) (λ _. Stores kind_of (step slots (o + 1) new 0 none) s.me new)
puts_at bound t key layout z slots id s p o kind_of lock left new same at seen one inside is may =
    let low : ℕ = slice_index z.lows o in
    let may' : MayStore (index_of s.me.0.parts) (depth o (mine_of s.me.0.parts)) s.me.0.has_gate (kind_of new) low lock left =
    subst (λ (y : PassValue × ℕ). MayStore y.0.index (depth o y.0.mine) y.0.has_gate (kind_of y.1) low lock left) (λ k. (sym seen k, sym is k)) may in
    over_key (λ ls c. Allows (Ruled bound ls c) slots id s.me (o + 1) (λ _. new) (λ _. Stores kind_of (step slots (o + 1) new 0 none) s.me new)) t key layout z same at
    (stores bound z.lows z.count slots id s.me o kind_of may'.1 new one inside may'.2 may'.3 (is ∙ ap (λ (l : Lock). word_of l low) may'.4) may'.0)

-- the row after a store
pub put_row : {B : Type 0} (index : ℕ) (depths ls : List ℕ) (gate : Bool) (s t : Seat (Option B) View) (p : PassValue) (z : Opening) (o : ℕ) (kind_of : ℕ → EventKind) (lock : Lock) (left new : ℕ) → IsPass index depths ls gate s → pass_value s ≡ p → p.opening ≡ z → o < length z.lows
    → new ≡ word_of lock (slice_index z.lows o) → MayStore p.index (depth o p.mine) p.has_gate (kind_of (word_of lock (slice_index z.lows o))) (slice_index z.lows o) lock left → left ≤ 256
    → AddsEvent o (kind_of new) new s.me.0 t.me.0 → t.me.1 ≡ s.me.1 → IsPass index (set depths o left) ls gate t
put_row index depths ls gate s t p z o kind_of lock left new pass seen same inside is may most told carried =
    row_set index depths ls gate s t pass o (kind_of new) new told carried left (in_row index depths ls gate s p z o pass seen same inside) most
    (may.5 ∙ λ k. depth_after (kind_of (sym is k)) (depth o (sym seen k).mine))

-- the event of a store
pub put_made : {B : Type 0} (s t : Seat (Option B) View) (p : PassValue) (o : ℕ) (kind_of : ℕ → EventKind) (word new : ℕ) → pass_value s ≡ p → new ≡ word → t.table_id ≡ s.table_id → AddsEvent o (kind_of new) new s.me.0 t.me.0 → MakesEvent o (kind_of word) word p (pass_value t)
put_made s t p o kind_of word new seen is same told = subst (λ (n : ℕ). MakesEvent o (kind_of n) n p (pass_value t)) is (made_at o (kind_of new) new p s t seen same told)

-- what the word of a step shows, above the low byte that the opening tells
pub shows_at : {B : Type 0} (s t : Seat (Option B) View) (p : PassValue) (z : Opening) (o : ℕ) (kind : EventKind) (n : ℕ) → pass_value s ≡ p → p.opening ≡ z → t.table_id ≡ s.table_id → AddsEvent o kind n s.me.0 t.me.0
    → ShowsDepth p.index (depth_after kind (depth o p.mine)) (slice_index z.lows o) n
shows_at s t p z o kind n seen same table told =
    let m : MakesEvent o kind n p (pass_value t) = made_at o kind n p s t seen table told in
    subst (λ (y : ℕ × ℕ × List ℕ). ShowsDepth y.0 y.1 (slice_index y.2 o) n)
    (λ k. (m.index k, m.new_depth k, (ap (λ (v : View). v.lows) told.view ∙ (ap (λ (q : PassValue). q.opening.lows) seen ∙ ap (λ (y : Opening). y.lows) same)) k)) told.shows

-- the word of a pass that holds the object c + 1 times
pub own_word : (i d low n : ℕ) → ShowsDepth i d low n → (c : ℕ) → d ≡ c + 1 → n ≡ word_of (Thin i c) low
own_word i d low n h c e = h.spelled ∙ ap (λ (l : Lock). word_of l low) ((h.thin c).0 e)

-- what a pass has seen shows its depth
pub holds_thinly : {B : Type 0} (index : ℕ) (depths ls : List ℕ) (gate : Bool) (s : Seat (Option B) View) (p : PassValue) (o d : ℕ) → IsPass index depths ls gate s → pass_value s ≡ p → d ≡ depth o p.mine → HoldsThinly p o d
holds_thinly index depths ls gate s p o d is seen same = subst (λ (q : PassValue). d ≡ depth o q.mine → HoldsThinly q o d) seen here same
  where
    here : d ≡ depth o (mine_of s.me.0.parts) → HoldsThinly (pass_value s) o d
    here e = record {
      saw = is.saw;
      thin = thin_iff (index_of s.me.0.parts) d (lock_at is.saw.locks o) (e ∙ (sym (ap (depth o) is.saw.own) ∙ depth_is_holds s.me.0.lows s.me.0.count (index_of s.me.0.parts) o s.me.0.seen is.saw.locks is.saw.replays));
    }
