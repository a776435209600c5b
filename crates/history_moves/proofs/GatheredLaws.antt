-- Members that were gathered, each under its own key, are those of an object in order.
use Rattle.std.proofs.Common.{◌≡◌, ℕ, ◌+◌, List, [], ◌∷◌, Option, Some, None, option_map, option_and_then, is_some, if◌then◌else◌, codes, Ordering, Less, Equal, Greater, nat_cmp, refl, sym, ap, ◌∙◌, subst, arith}
use Rattle.std.specs.Borrow.{Bor}
use Rattle.std.specs.Cmp.Lexicographic.{slice_cmp}
use Rattle.std.specs.Ordering.{match_ordering}
use Rattle.serde_json.specs.Data.{Data, Members, no_members, member, object, put}
use Rattle.serde_json.specs.Find.{get_member, as_str, as_number, as_u64, as_null}
use Rattle.history_moves.specs.Moves.{of_number}
use Rattle.lock_word.specs.declared.ThreadId.{ThreadId}
use Rattle.history_moves.specs.Members.{count, IsBelow, AreInOrder, text_at, whole_at, signed_of, signed_at, chosen_at}
use Rattle.history_moves.specs.Words.{Row}
use Rattle.history_moves.specs.GatheredMembers.{maybe, members_of, rows_of, members_in, nothing, of_text, of_choice, IsCounted, Takes, Fills, lack, scalar_data, short, short_signed, thread_of, choice}
use Rattle.history_moves.specs.declared.spelled.gathered.GatheredMembers.{GatheredMembers}
use Rattle.history_moves.specs.declared.spelled.gathered.Scalar.{Scalar}
use Rattle.history_moves.specs.declared.spelled.gathered.Scalar.TheVariants as scalar
use Rattle.history_moves.proofs.MemberLaws.{below_all, absent, same_key}

abbrev Rows : Type 0
Rows = List (Row (Option Data))

-- ---- rows in the order of their keys

abbrev Follows : List ℕ → Rows → Type 0
Follows k [] = Unit {0}
Follows k (r ∷ rs) = slice_cmp nat_cmp k r.name ≡ Less

abbrev AreSorted : Rows → Type 0
AreSorted [] = Unit {0}
AreSorted (r ∷ rs) = Follows r.name rs × AreSorted rs

below_maybe : (k l : List ℕ) (o : Option Data) (ms : Members) → slice_cmp nat_cmp k l ≡ Less → IsBelow l ms → IsBelow k (maybe l o ms)
below_maybe k l None ms first rest = below_all k l ms first rest
below_maybe k l (Some d) ms first rest = (first, below_all k l ms first rest)

below_rows : (k : List ℕ) (rs : Rows) → Follows k rs → AreSorted rs → IsBelow k (members_of rs)
below_rows k [] first sorted = tt
below_rows k (r ∷ rs) first sorted = below_maybe k r.name r.made (members_of rs) first (below_rows r.name rs sorted.0 sorted.1)

in_order_maybe : (k : List ℕ) (o : Option Data) (ms : Members) → IsBelow k ms → AreInOrder ms → AreInOrder (maybe k o ms)
in_order_maybe k None ms below order = order
in_order_maybe k (Some d) ms below order = (below, order)

in_order_rows : (rs : Rows) → AreSorted rs → AreInOrder (members_of rs)
in_order_rows [] sorted = tt
in_order_rows (r ∷ rs) sorted = in_order_maybe r.name r.made (members_of rs) (below_rows r.name rs sorted.0 sorted.1) (in_order_rows rs sorted.1)

-- ---- what is found

-- the value at a key
abbrev at_key : List ℕ → Rows → Option Data
at_key k [] = None
at_key k (r ∷ rs) = match_ordering (slice_cmp nat_cmp k r.name) (at_key k rs) r.made (at_key k rs)

found_row : (o : Ordering) (k l : List ℕ) (v : Option Data) (ms : Members) (rest : Option Data) → slice_cmp nat_cmp k l ≡ o → IsBelow l ms → get_member k ms ≡ rest → get_member k (maybe l v ms) ≡ match_ordering o rest v rest
found_row Less k l None ms rest is below later = later
found_row Less k l (Some d) ms rest is below later = ap (λ (p : Ordering). match_ordering p (get_member k ms) (Some d) (get_member k ms)) is ∙ later
found_row Equal k l None ms rest is below later = absent k ms (subst (λ (x : List ℕ). IsBelow x ms) (sym (same_key k l is)) below)
found_row Equal k l (Some d) ms rest is below later = ap (λ (p : Ordering). match_ordering p (get_member k ms) (Some d) (get_member k ms)) is
found_row Greater k l None ms rest is below later = later
found_row Greater k l (Some d) ms rest is below later = ap (λ (p : Ordering). match_ordering p (get_member k ms) (Some d) (get_member k ms)) is ∙ later

found_rows : (k : List ℕ) (rs : Rows) → AreSorted rs → get_member k (members_of rs) ≡ at_key k rs
found_rows k [] sorted = refl
found_rows k (r ∷ rs) sorted = found_row (slice_cmp nat_cmp k r.name) k r.name r.made (members_of rs) (at_key k rs) refl (below_rows r.name rs sorted.0 sorted.1) (found_rows k rs sorted.1)

-- ---- one value more

abbrev with_row : List ℕ → Data → Rows → Rows
with_row k d [] = []
with_row k d (r ∷ rs) =
    match_ordering (slice_cmp nat_cmp k r.name) (r ∷ rs) (record { name = r.name; made = Some d } ∷ rs) (r ∷ with_row k d rs)

abbrev GrowAt : Ordering → Option Data → ℕ → Type 0 → Type 0
GrowAt Less v n rest = ⊥
GrowAt Equal v n rest = n ≡ lack v
GrowAt Greater v n rest = rest

-- there is such a key, and there are n more values where it gets one
abbrev Grow : List ℕ → Rows → ℕ → Type 0
Grow k [] n = ⊥
Grow k (r ∷ rs) n = GrowAt (slice_cmp nat_cmp k r.name) r.made n (Grow k rs n)

put_below : (k : List ℕ) (d : Data) (ms : Members) → IsBelow k ms → put k d ms ≡ member k d ms
put_below k d no_members below = refl
put_below k d (member l e ms) below = ap (λ (o : Ordering). match_ordering o (member k d (member l e ms)) (member l d ms) (member l e (put k d ms))) below.0

put_row : (o : Ordering) (k l : List ℕ) (d : Data) (v : Option Data) (rs : Rows) (n : ℕ) → slice_cmp nat_cmp k l ≡ o → IsBelow l (members_of rs) → GrowAt o v n (Grow k rs n)
    → (Grow k rs n → put k d (members_of rs) ≡ members_of (with_row k d rs))
    → put k d (maybe l v (members_of rs)) ≡ members_of (match_ordering o (record { name = l; made = v } ∷ rs) (record { name = l; made = Some d } ∷ rs) (record { name = l; made = v } ∷ with_row k d rs))
put_row Less k l d v rs n is below grow later = absurd grow
put_row Equal k l d None rs n is below grow later =
    let same : k ≡ l = same_key k l is in
    put_below k d (members_of rs) (subst (λ (x : List ℕ). IsBelow x (members_of rs)) (sym same) below)
    ∙ ap (λ (x : List ℕ). member x d (members_of rs)) same
put_row Equal k l d (Some e) rs n is below grow later =
    ap (λ (o : Ordering). match_ordering o (member k d (member l e (members_of rs))) (member l d (members_of rs)) (member l e (put k d (members_of rs)))) is
put_row Greater k l d None rs n is below grow later = later grow
put_row Greater k l d (Some e) rs n is below grow later =
    ap (λ (o : Ordering). match_ordering o (member k d (member l e (members_of rs))) (member l d (members_of rs)) (member l e (put k d (members_of rs)))) is
    ∙ ap (member l e) (later grow)

put_rows : (k : List ℕ) (d : Data) (rs : Rows) (n : ℕ) → AreSorted rs → Grow k rs n → put k d (members_of rs) ≡ members_of (with_row k d rs)
put_rows k d [] n sorted grow = absurd grow
put_rows k d (r ∷ rs) n sorted grow = put_row (slice_cmp nat_cmp k r.name) k r.name d r.made rs n refl (below_rows r.name rs sorted.0 sorted.1) grow (put_rows k d rs n sorted.1)

count_row : (o : Ordering) (k l : List ℕ) (d : Data) (v : Option Data) (rs : Rows) (n : ℕ) → GrowAt o v n (Grow k rs n) → (Grow k rs n → count (members_of (with_row k d rs)) ≡ count (members_of rs) + n)
    → count (members_of (match_ordering o (record { name = l; made = v } ∷ rs) (record { name = l; made = Some d } ∷ rs) (record { name = l; made = v } ∷ with_row k d rs))) ≡ count (maybe l v (members_of rs)) + n
count_row Less k l d v rs n grow later = absurd grow
count_row Equal k l d None rs n grow later = omega (arith, grow)
count_row Equal k l d (Some e) rs n grow later = omega (arith, grow)
count_row Greater k l d None rs n grow later = later grow
count_row Greater k l d (Some e) rs n grow later = omega (arith, later grow)

count_rows : (k : List ℕ) (d : Data) (rs : Rows) (n : ℕ) → Grow k rs n → count (members_of (with_row k d rs)) ≡ count (members_of rs) + n
count_rows k d [] n grow = absurd grow
count_rows k d (r ∷ rs) n grow = count_row (slice_cmp nat_cmp k r.name) k r.name d r.made rs n grow (count_rows k d rs n)

-- ---- the rows of a move's keys

sorted : (g : GatheredMembers) → AreSorted (rows_of g)
sorted g = (refl, (refl, (refl, (refl, (refl, (refl, (refl, (refl, (refl, (refl, (tt, tt)))))))))))

pub in_order : (g : GatheredMembers) → AreInOrder (members_in g)
unfolding members_in
in_order g = in_order_rows (rows_of g) (sorted g)

pub nothing_in : members_in nothing ≡ no_members
unfolding members_in
nothing_in = refl

pub nothing_counted : IsCounted nothing
unfolding IsCounted members_in
nothing_counted = refl

taken : (g h : GatheredMembers) (k : List ℕ) (d : Data) (n : ℕ) → Grow k (rows_of g) n → rows_of h ≡ with_row k d (rows_of g) → h.count ≡ g.count + n → Takes g k d h
unfolding Takes IsCounted members_in
taken g h k d n grow rows more = (
  ap members_of rows ∙ sym (put_rows k d (rows_of g) n (sorted g) grow),
  λ counted. more ∙ ap (λ (m : ℕ). m + n) counted ∙ sym (ap (λ (rs : Rows). count (members_of rs)) rows ∙ count_rows k d (rows_of g) n grow),
)

same_lack : {A : Type 0} (f : A → Data) (o : Option A) → lack o ≡ lack (option_map f o)
same_lack f None = refl
same_lack f (Some a) = refl

-- ---- each key

pub verb_taken : (g : GatheredMembers) (k : List ℕ) (a : Bor (List ℕ)) (v : Option (Bor (List ℕ))) (n : ℕ) → k ≡ codes "call" → Fills g.verb a v g.count n → Takes g k (of_text a) (record { count = n; name = g.name; verb = v; reply = g.reply; cause = g.cause; thread = g.thread; object = g.object; target = g.target; now = g.now; millis = g.millis; nanos = g.nanos; chosen = g.chosen })
verb_taken g k a v n is fills =
    let P : List ℕ → Option (Bor (List ℕ)) → Type 0 = λ l w. Takes g l (of_text a) (record { count = n; name = g.name; verb = w; reply = g.reply; cause = g.cause; thread = g.thread; object = g.object; target = g.target; now = g.now; millis = g.millis; nanos = g.nanos; chosen = g.chosen }) in
    let at : P (codes "call") (Some a) = taken g _ (codes "call") (of_text a) (lack g.verb) (same_lack of_text g.verb) refl fills.1 in
    subst (λ (l : List ℕ). P l v) (sym is) (subst (λ (w : Option (Bor (List ℕ))). P (codes "call") w) (sym fills.0) at)

pub cause_taken : (g : GatheredMembers) (k : List ℕ) (a : Bor (List ℕ)) (v : Option (Bor (List ℕ))) (n : ℕ) → k ≡ codes "cause" → Fills g.cause a v g.count n → Takes g k (of_text a) (record { count = n; name = g.name; verb = g.verb; reply = g.reply; cause = v; thread = g.thread; object = g.object; target = g.target; now = g.now; millis = g.millis; nanos = g.nanos; chosen = g.chosen })
cause_taken g k a v n is fills =
    let P : List ℕ → Option (Bor (List ℕ)) → Type 0 = λ l w. Takes g l (of_text a) (record { count = n; name = g.name; verb = g.verb; reply = g.reply; cause = w; thread = g.thread; object = g.object; target = g.target; now = g.now; millis = g.millis; nanos = g.nanos; chosen = g.chosen }) in
    let at : P (codes "cause") (Some a) = taken g _ (codes "cause") (of_text a) (lack g.cause) (same_lack of_text g.cause) refl fills.1 in
    subst (λ (l : List ℕ). P l v) (sym is) (subst (λ (w : Option (Bor (List ℕ))). P (codes "cause") w) (sym fills.0) at)

pub chosen_taken : (g : GatheredMembers) (k : List ℕ) (a : Option ℕ) (v : Option (Option ℕ)) (n : ℕ) → k ≡ codes "chosen" → Fills g.chosen a v g.count n → Takes g k (of_choice a) (record { count = n; name = g.name; verb = g.verb; reply = g.reply; cause = g.cause; thread = g.thread; object = g.object; target = g.target; now = g.now; millis = g.millis; nanos = g.nanos; chosen = v })
chosen_taken g k a v n is fills =
    let P : List ℕ → Option (Option ℕ) → Type 0 = λ l w. Takes g l (of_choice a) (record { count = n; name = g.name; verb = g.verb; reply = g.reply; cause = g.cause; thread = g.thread; object = g.object; target = g.target; now = g.now; millis = g.millis; nanos = g.nanos; chosen = w }) in
    let at : P (codes "chosen") (Some a) = taken g _ (codes "chosen") (of_choice a) (lack g.chosen) (same_lack of_choice g.chosen) refl fills.1 in
    subst (λ (l : List ℕ). P l v) (sym is) (subst (λ (w : Option (Option ℕ)). P (codes "chosen") w) (sym fills.0) at)

pub millis_taken : (g : GatheredMembers) (k : List ℕ) (a : ℕ) (v : Option ℕ) (n : ℕ) → k ≡ codes "millis" → Fills g.millis a v g.count n → Takes g k (of_number a) (record { count = n; name = g.name; verb = g.verb; reply = g.reply; cause = g.cause; thread = g.thread; object = g.object; target = g.target; now = g.now; millis = v; nanos = g.nanos; chosen = g.chosen })
millis_taken g k a v n is fills =
    let P : List ℕ → Option ℕ → Type 0 = λ l w. Takes g l (of_number a) (record { count = n; name = g.name; verb = g.verb; reply = g.reply; cause = g.cause; thread = g.thread; object = g.object; target = g.target; now = g.now; millis = w; nanos = g.nanos; chosen = g.chosen }) in
    let at : P (codes "millis") (Some a) = taken g _ (codes "millis") (of_number a) (lack g.millis) (same_lack of_number g.millis) refl fills.1 in
    subst (λ (l : List ℕ). P l v) (sym is) (subst (λ (w : Option ℕ). P (codes "millis") w) (sym fills.0) at)

pub name_taken : (g : GatheredMembers) (k : List ℕ) (a : Bor (List ℕ)) (v : Option (Bor (List ℕ))) (n : ℕ) → k ≡ codes "move" → Fills g.name a v g.count n → Takes g k (of_text a) (record { count = n; name = v; verb = g.verb; reply = g.reply; cause = g.cause; thread = g.thread; object = g.object; target = g.target; now = g.now; millis = g.millis; nanos = g.nanos; chosen = g.chosen })
name_taken g k a v n is fills =
    let P : List ℕ → Option (Bor (List ℕ)) → Type 0 = λ l w. Takes g l (of_text a) (record { count = n; name = w; verb = g.verb; reply = g.reply; cause = g.cause; thread = g.thread; object = g.object; target = g.target; now = g.now; millis = g.millis; nanos = g.nanos; chosen = g.chosen }) in
    let at : P (codes "move") (Some a) = taken g _ (codes "move") (of_text a) (lack g.name) (same_lack of_text g.name) refl fills.1 in
    subst (λ (l : List ℕ). P l v) (sym is) (subst (λ (w : Option (Bor (List ℕ))). P (codes "move") w) (sym fills.0) at)

pub nanos_taken : (g : GatheredMembers) (k : List ℕ) (a : ℕ) (v : Option ℕ) (n : ℕ) → k ≡ codes "nanos" → Fills g.nanos a v g.count n → Takes g k (of_number a) (record { count = n; name = g.name; verb = g.verb; reply = g.reply; cause = g.cause; thread = g.thread; object = g.object; target = g.target; now = g.now; millis = g.millis; nanos = v; chosen = g.chosen })
nanos_taken g k a v n is fills =
    let P : List ℕ → Option ℕ → Type 0 = λ l w. Takes g l (of_number a) (record { count = n; name = g.name; verb = g.verb; reply = g.reply; cause = g.cause; thread = g.thread; object = g.object; target = g.target; now = g.now; millis = g.millis; nanos = w; chosen = g.chosen }) in
    let at : P (codes "nanos") (Some a) = taken g _ (codes "nanos") (of_number a) (lack g.nanos) (same_lack of_number g.nanos) refl fills.1 in
    subst (λ (l : List ℕ). P l v) (sym is) (subst (λ (w : Option ℕ). P (codes "nanos") w) (sym fills.0) at)

pub now_taken : (g : GatheredMembers) (k : List ℕ) (a : ℕ) (v : Option ℕ) (n : ℕ) → k ≡ codes "now" → Fills g.now a v g.count n → Takes g k (of_number a) (record { count = n; name = g.name; verb = g.verb; reply = g.reply; cause = g.cause; thread = g.thread; object = g.object; target = g.target; now = v; millis = g.millis; nanos = g.nanos; chosen = g.chosen })
now_taken g k a v n is fills =
    let P : List ℕ → Option ℕ → Type 0 = λ l w. Takes g l (of_number a) (record { count = n; name = g.name; verb = g.verb; reply = g.reply; cause = g.cause; thread = g.thread; object = g.object; target = g.target; now = w; millis = g.millis; nanos = g.nanos; chosen = g.chosen }) in
    let at : P (codes "now") (Some a) = taken g _ (codes "now") (of_number a) (lack g.now) (same_lack of_number g.now) refl fills.1 in
    subst (λ (l : List ℕ). P l v) (sym is) (subst (λ (w : Option ℕ). P (codes "now") w) (sym fills.0) at)

pub object_taken : (g : GatheredMembers) (k : List ℕ) (a : ℕ) (v : Option ℕ) (n : ℕ) → k ≡ codes "object" → Fills g.object a v g.count n → Takes g k (of_number a) (record { count = n; name = g.name; verb = g.verb; reply = g.reply; cause = g.cause; thread = g.thread; object = v; target = g.target; now = g.now; millis = g.millis; nanos = g.nanos; chosen = g.chosen })
object_taken g k a v n is fills =
    let P : List ℕ → Option ℕ → Type 0 = λ l w. Takes g l (of_number a) (record { count = n; name = g.name; verb = g.verb; reply = g.reply; cause = g.cause; thread = g.thread; object = w; target = g.target; now = g.now; millis = g.millis; nanos = g.nanos; chosen = g.chosen }) in
    let at : P (codes "object") (Some a) = taken g _ (codes "object") (of_number a) (lack g.object) (same_lack of_number g.object) refl fills.1 in
    subst (λ (l : List ℕ). P l v) (sym is) (subst (λ (w : Option ℕ). P (codes "object") w) (sym fills.0) at)

pub reply_taken : (g : GatheredMembers) (k : List ℕ) (a : Bor (List ℕ)) (v : Option (Bor (List ℕ))) (n : ℕ) → k ≡ codes "reply" → Fills g.reply a v g.count n → Takes g k (of_text a) (record { count = n; name = g.name; verb = g.verb; reply = v; cause = g.cause; thread = g.thread; object = g.object; target = g.target; now = g.now; millis = g.millis; nanos = g.nanos; chosen = g.chosen })
reply_taken g k a v n is fills =
    let P : List ℕ → Option (Bor (List ℕ)) → Type 0 = λ l w. Takes g l (of_text a) (record { count = n; name = g.name; verb = g.verb; reply = w; cause = g.cause; thread = g.thread; object = g.object; target = g.target; now = g.now; millis = g.millis; nanos = g.nanos; chosen = g.chosen }) in
    let at : P (codes "reply") (Some a) = taken g _ (codes "reply") (of_text a) (lack g.reply) (same_lack of_text g.reply) refl fills.1 in
    subst (λ (l : List ℕ). P l v) (sym is) (subst (λ (w : Option (Bor (List ℕ))). P (codes "reply") w) (sym fills.0) at)

pub target_taken : (g : GatheredMembers) (k : List ℕ) (a : ℕ) (v : Option ℕ) (n : ℕ) → k ≡ codes "target" → Fills g.target a v g.count n → Takes g k (of_number a) (record { count = n; name = g.name; verb = g.verb; reply = g.reply; cause = g.cause; thread = g.thread; object = g.object; target = v; now = g.now; millis = g.millis; nanos = g.nanos; chosen = g.chosen })
target_taken g k a v n is fills =
    let P : List ℕ → Option ℕ → Type 0 = λ l w. Takes g l (of_number a) (record { count = n; name = g.name; verb = g.verb; reply = g.reply; cause = g.cause; thread = g.thread; object = g.object; target = w; now = g.now; millis = g.millis; nanos = g.nanos; chosen = g.chosen }) in
    let at : P (codes "target") (Some a) = taken g _ (codes "target") (of_number a) (lack g.target) (same_lack of_number g.target) refl fills.1 in
    subst (λ (l : List ℕ). P l v) (sym is) (subst (λ (w : Option ℕ). P (codes "target") w) (sym fills.0) at)

pub thread_taken : (g : GatheredMembers) (k : List ℕ) (a : ℕ) (v : Option ℕ) (n : ℕ) → k ≡ codes "thread" → Fills g.thread a v g.count n → Takes g k (of_number a) (record { count = n; name = g.name; verb = g.verb; reply = g.reply; cause = g.cause; thread = v; object = g.object; target = g.target; now = g.now; millis = g.millis; nanos = g.nanos; chosen = g.chosen })
thread_taken g k a v n is fills =
    let P : List ℕ → Option ℕ → Type 0 = λ l w. Takes g l (of_number a) (record { count = n; name = g.name; verb = g.verb; reply = g.reply; cause = g.cause; thread = w; object = g.object; target = g.target; now = g.now; millis = g.millis; nanos = g.nanos; chosen = g.chosen }) in
    let at : P (codes "thread") (Some a) = taken g _ (codes "thread") (of_number a) (lack g.thread) (same_lack of_number g.thread) refl fills.1 in
    subst (λ (l : List ℕ). P l v) (sym is) (subst (λ (w : Option ℕ). P (codes "thread") w) (sym fills.0) at)

pub null_taken : (g : GatheredMembers) (k : List ℕ) (s : Scalar) (v : Option (Option ℕ)) (n : ℕ) → s ≡ scalar.Null → k ≡ codes "chosen" → Fills g.chosen None v g.count n → Takes g k (scalar_data s) (record { count = n; name = g.name; verb = g.verb; reply = g.reply; cause = g.cause; thread = g.thread; object = g.object; target = g.target; now = g.now; millis = g.millis; nanos = g.nanos; chosen = v })
null_taken g k s v n null_is is fills =
    subst (λ (t : Scalar). Takes g k (scalar_data t) (record { count = n; name = g.name; verb = g.verb; reply = g.reply; cause = g.cause; thread = g.thread; object = g.object; target = g.target; now = g.now; millis = g.millis; nanos = g.nanos; chosen = v })) (sym null_is)
    (chosen_taken g k None v n is fills)

-- ---- what is found of each

text_found : (o : Option (Bor (List ℕ))) → option_map (λ (s : Bor (List ℕ)). s.now) o ≡ option_and_then as_str (option_map of_text o)
text_found None = refl
text_found (Some s) = refl

whole_found : (o : Option ℕ) → o ≡ option_and_then as_u64 (option_and_then as_number (option_map of_number o))
whole_found None = refl
whole_found (Some n) = refl

signed_found : (o : Option ℕ) → option_and_then short_signed o ≡ option_and_then signed_of (option_and_then as_number (option_map of_number o))
signed_found None = refl
signed_found (Some n) = refl

pub name_in : (g : GatheredMembers) → option_map (λ (s : Bor (List ℕ)). s.now) g.name ≡ text_at (codes "move") (object (members_in g))
unfolding members_in
name_in g = text_found g.name ∙ ap (option_and_then as_str) (sym (found_rows (codes "move") (rows_of g) (sorted g)))

pub verb_in : (g : GatheredMembers) → option_map (λ (s : Bor (List ℕ)). s.now) g.verb ≡ text_at (codes "call") (object (members_in g))
unfolding members_in
verb_in g = text_found g.verb ∙ ap (option_and_then as_str) (sym (found_rows (codes "call") (rows_of g) (sorted g)))

pub reply_in : (g : GatheredMembers) → option_map (λ (s : Bor (List ℕ)). s.now) g.reply ≡ text_at (codes "reply") (object (members_in g))
unfolding members_in
reply_in g = text_found g.reply ∙ ap (option_and_then as_str) (sym (found_rows (codes "reply") (rows_of g) (sorted g)))

pub cause_in : (g : GatheredMembers) → option_map (λ (s : Bor (List ℕ)). s.now) g.cause ≡ text_at (codes "cause") (object (members_in g))
unfolding members_in
cause_in g = text_found g.cause ∙ ap (option_and_then as_str) (sym (found_rows (codes "cause") (rows_of g) (sorted g)))

pub thread_in : (g : GatheredMembers) → g.thread ≡ whole_at (codes "thread") (object (members_in g))
unfolding members_in
thread_in g = whole_found g.thread ∙ ap (λ (o : Option Data). option_and_then as_u64 (option_and_then as_number o)) (sym (found_rows (codes "thread") (rows_of g) (sorted g)))

pub object_in : (g : GatheredMembers) → g.object ≡ whole_at (codes "object") (object (members_in g))
unfolding members_in
object_in g = whole_found g.object ∙ ap (λ (o : Option Data). option_and_then as_u64 (option_and_then as_number o)) (sym (found_rows (codes "object") (rows_of g) (sorted g)))

pub target_in : (g : GatheredMembers) → g.target ≡ whole_at (codes "target") (object (members_in g))
unfolding members_in
target_in g = whole_found g.target ∙ ap (λ (o : Option Data). option_and_then as_u64 (option_and_then as_number o)) (sym (found_rows (codes "target") (rows_of g) (sorted g)))

pub now_in : (g : GatheredMembers) → g.now ≡ whole_at (codes "now") (object (members_in g))
unfolding members_in
now_in g = whole_found g.now ∙ ap (λ (o : Option Data). option_and_then as_u64 (option_and_then as_number o)) (sym (found_rows (codes "now") (rows_of g) (sorted g)))

pub millis_in : (g : GatheredMembers) → option_and_then short_signed g.millis ≡ signed_at (codes "millis") (object (members_in g))
unfolding members_in
millis_in g = signed_found g.millis ∙ ap (λ (o : Option Data). option_and_then signed_of (option_and_then as_number o)) (sym (found_rows (codes "millis") (rows_of g) (sorted g)))

pub nanos_in : (g : GatheredMembers) → option_and_then short_signed g.nanos ≡ signed_at (codes "nanos") (object (members_in g))
unfolding members_in
nanos_in g = signed_found g.nanos ∙ ap (λ (o : Option Data). option_and_then signed_of (option_and_then as_number o)) (sym (found_rows (codes "nanos") (rows_of g) (sorted g)))

-- what is chosen, by what is found at its key
chosen_by : Option Data → Option (Option ThreadId)
chosen_by o =
    option_and_then
    (λ x. if is_some (as_null x) then Some None else option_map (λ (u : ThreadId). Some u) (option_map thread_of (option_and_then short (option_and_then as_u64 (option_and_then as_number o)))))
    o

chosen_found : (o : Option (Option ℕ)) → option_and_then choice o ≡ chosen_by (option_map of_choice o)
unfolding chosen_by
chosen_found None = refl
chosen_found (Some None) = refl
chosen_found (Some (Some n)) = refl

pub chosen_in : (g : GatheredMembers) → option_and_then choice g.chosen ≡ chosen_at (object (members_in g))
unfolding members_in chosen_by
chosen_in g = chosen_found g.chosen ∙ ap chosen_by (sym (found_rows (codes "chosen") (rows_of g) (sorted g)))
