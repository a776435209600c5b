-- What holds of the rows and the table of the indices, after each change.
use Rattle.std.specs.Prelude.{◌≡◌, ℕ, zero, suc, ◌+◌, ◌-◌, ◌*◌, ◌<◌, ◌≤◌, ◌==◌, ◌/◌, ◌%◌, List, [], length, slice_index, max, Option, Some, None, slice_set, if◌then◌else◌, nat_eq, nat_lt}
use Rattle.std.specs.Bool.{then_some}
use Rattle.std.specs.Int.{bit_at}
use Rattle.std.specs.HashMap.{HashMap, get, Updates}
use Rattle.std.proofs.Common.{arith, refl, ap, sym, ◌∙◌, subst}
use Rattle.std.proofs.lemmas.List.{length-set, get_or_past}
use Rattle.std.proofs.lemmas.Nat.Bits.{bit_at-zero}
use Rattle.lock_word.specs.declared.ThreadId.{ThreadId}
use Rattle.thread_index.specs.BitRows.{bit_of}
use Rattle.thread_index.specs.Indices.{berth_of, free_berth, holder_at, holder_of, given_back, IsOneToOne}
use Rattle.thread_index.specs.Padding.{padded, taken_bit, TellsBerths, IsWhole}
use Rattle.thread_index.proofs.Paddings.{length-padded, free_berth-written, padded-same, holder_at-padded, padded-slice_set, berth_of-written, IsKept-taken, IsKept-given}
use Rattle.thread_index.proofs.Berths.{free_found, IsOneToOne-given, IsOneToOne-replicate, holder_at-replicate, berth_of-replicate}
use Rattle.thread_index.proofs.Tables.{free_berth-bits, TellsBerths-same, TellsBerths-taken, TellsBerths-given}

-- the lowest free berth is one of those that are written down, or the next
pub free_berth-next : {S : Type 0} (holders berths : List (Option ThreadId)) (limit k : ℕ) (words : List ℕ) (table : HashMap ℕ ℕ S) → IsWhole holders limit words table
    → padded holders limit ≡ berths → free_berth berths ≡ Some k → (k ≤ length holders) × (k < limit)
free_berth-next holders berths limit k words table was shown free =
    free_berth-written holders limit k was.kept.within (ap (λ (xs : List (Option ThreadId)). free_berth xs) shown ∙ free)

-- more berths are written down, and nobody has them
pub IsWhole-more : {S : Type 0} (holders more berths : List (Option ThreadId)) (limit k : ℕ) (words new : List ℕ) (table after : HashMap ℕ ℕ S)
    → IsWhole holders limit words table → padded holders limit ≡ berths → free_berth berths ≡ Some k
    → k < 64 * length new → length words ≤ length new → ((j : ℕ) → bit_of new j ≡ bit_of words j)
    → ((j : ℕ) → holder_at more j ≡ holder_at holders j) → length more ≤ max (length holders) (k + 1) → after.entries ≡ table.entries
    → (padded more limit ≡ berths) × IsWhole more limit new after
IsWhole-more {S} holders more berths limit k words new table after was shown free ok longer bits same few entries = (shown_same ∙ shown, whole)
  where
    fits : length more ≤ limit
    fits =
        let position = free_berth-next holders berths limit k words table was shown free in omega (arith, position.1, was.kept.within)

    shown_same : padded more limit ≡ padded holders limit
    shown_same = padded-same holders more limit was.kept.within fits same

    whole : IsWhole more limit new after
    whole =
        record {
          kept =
              record {
                within = fits;
                some = was.kept.some;
                few = was.kept.few;
                one_to_one = subst (λ (xs : List (Option ThreadId)). IsOneToOne xs) (sym shown_same) was.kept.one_to_one;
              };
          told = TellsBerths-same (padded holders limit) (padded more limit) words new table after was.told shown_same bits entries;
          room = omega (arith, was.room);
        }

-- a thread takes the lowest free berth, which is written down
pub IsWhole-taken : {S : Type 0} (holders berths : List (Option ThreadId)) (limit k : ℕ) (t : ThreadId) (words new : List ℕ) (table after : HashMap ℕ ℕ S)
    → IsWhole holders limit words table → padded holders limit ≡ berths → k < length holders → berth_of berths t ≡ None → free_berth berths ≡ Some k
    → ((j : ℕ) → bit_of new j ≡ (if j == k then 1 else bit_of words j)) → length new ≡ length words → Updates nat_eq table after t.0 (Some k)
    → IsWhole (slice_set holders k (Some t)) limit new after
IsWhole-taken holders berths limit k t words new table after was shown written unknown free bits as_long updates =
    record {
      kept = IsKept-taken holders berths limit k t shown was.kept written unknown free;
      told =
          subst (λ (xs : List (Option ThreadId)). TellsBerths xs new after) (sym (padded-slice_set holders berths limit k (Some t) shown written))
          (TellsBerths-taken berths words new table after t k (subst (λ (xs : List (Option ThreadId)). TellsBerths xs words table) shown was.told) unknown free bits updates);
      room = rw (length-set holders k (Some t), as_long) was.room;
    }

-- the berths that are shown after a thread gave its berth back
pub given-shown : {S : Type 0} (holders berths : List (Option ThreadId)) (limit k : ℕ) (t : ThreadId) (words : List ℕ) (table : HashMap ℕ ℕ S) → IsWhole holders limit words table
    → padded holders limit ≡ berths → berth_of berths t ≡ Some k
    → (padded (slice_set holders k None) limit ≡ given_back berths (berth_of berths t)) × IsOneToOne (padded (slice_set holders k None) limit)
given-shown holders berths limit k t words table was shown berth = (given ∙ ap (given_back berths) (sym berth), one)
  where
    given : padded (slice_set holders k None) limit ≡ slice_set berths k None
    given = padded-slice_set holders berths limit k None shown (berth_of-written holders berths limit k t shown berth)

    one : IsOneToOne (padded (slice_set holders k None) limit)
    one =
        subst (λ (xs : List (Option ThreadId)). IsOneToOne xs) (sym given)
        (IsOneToOne-given berths t k (subst (λ (xs : List (Option ThreadId)). IsOneToOne xs) shown was.kept.one_to_one) berth)

-- a thread gives its berth back
pub IsWhole-given : {S : Type 0} (holders berths : List (Option ThreadId)) (limit k : ℕ) (t : ThreadId) (words new : List ℕ) (table after : HashMap ℕ ℕ S)
    → IsWhole holders limit words table → padded holders limit ≡ berths → berth_of berths t ≡ Some k
    → ((j : ℕ) → bit_of new j ≡ (if j == k then 0 else bit_of words j)) → length new ≡ length words → Updates nat_eq table after t.0 None
    → IsWhole (slice_set holders k None) limit new after
IsWhole-given holders berths limit k t words new table after was shown berth bits as_long updates =
    record {
      kept = IsKept-given holders berths limit k t shown was.kept berth;
      told =
          subst (λ (xs : List (Option ThreadId)). TellsBerths xs new after)
          (sym (padded-slice_set holders berths limit k None shown (berth_of-written holders berths limit k t shown berth)))
          (TellsBerths-given berths words new table after t k (subst (λ (xs : List (Option ThreadId)). TellsBerths xs words table) shown was.told)
          (subst (λ (xs : List (Option ThreadId)). IsOneToOne xs) shown was.kept.one_to_one) berth bits updates);
      room = rw (length-set holders k None, as_long) was.room;
    }

-- the bit of a free berth is 0
pub free_bit : {S : Type 0} (holders berths : List (Option ThreadId)) (limit k : ℕ) (words : List ℕ) (table : HashMap ℕ ℕ S) → IsWhole holders limit words table
    → padded holders limit ≡ berths → free_berth berths ≡ Some k → bit_of words k ≡ 0
free_bit holders berths limit k words table was shown free =
    was.told.bits k ∙ ap taken_bit (ap (λ (xs : List (Option ThreadId)). holder_at xs k) shown ∙ (free_found berths k free).1)

-- what the table has of a thread is its berth
pub looked_up : {S : Type 0} (holders berths : List (Option ThreadId)) (limit : ℕ) (t : ThreadId) (words : List ℕ) (table : HashMap ℕ ℕ S) (found : Option ℕ)
    → IsWhole holders limit words table → padded holders limit ≡ berths → found ≡ get nat_eq table t.0 → found ≡ berth_of berths t
looked_up holders berths limit t words table found was shown is =
    is ∙ was.told.look_up t ∙ ap (λ (xs : List (Option ThreadId)). berth_of xs t) shown

-- who has a berth has one of those that are written down
pub berth_of-low : {S : Type 0} (holders berths : List (Option ThreadId)) (limit k : ℕ) (t : ThreadId) (words : List ℕ) (table : HashMap ℕ ℕ S) → IsWhole holders limit words table
    → padded holders limit ≡ berths → berth_of berths t ≡ Some k → (k < length holders) × (k < 32767) × (k < 64 * length words)
berth_of-low holders berths limit k t words table was shown berth =
    let written = berth_of-written holders berths limit k t shown berth in
    (written, omega (arith, written, was.kept.within, was.kept.few), omega (arith, written, was.room))

-- the lowest bit that is 0 is the berth of the lowest free index, where there is one
pub free_berth-shown : {S : Type 0} (holders berths : List (Option ThreadId)) (limit k : ℕ) (words : List ℕ) (table : HashMap ℕ ℕ S) → IsWhole holders limit words table
    → padded holders limit ≡ berths → bit_of words k ≡ 0 → ((j : ℕ) → j < k → bit_of words j ≡ 1) → then_some (nat_lt k limit) k ≡ free_berth berths
free_berth-shown holders berths limit k words table was shown clear lowest =
    ap (λ (n : ℕ). then_some (nat_lt k n) k) (sym (length-padded holders limit was.kept.within))
    ∙ free_berth-bits (padded holders limit) words table k was.told clear lowest
    ∙ ap (λ (xs : List (Option ThreadId)). free_berth xs) shown

-- the berths that are shown are one to one
pub one_to_one-shown : {S : Type 0} (holders berths : List (Option ThreadId)) (limit : ℕ) (words : List ℕ) (table : HashMap ℕ ℕ S) → IsWhole holders limit words table
    → padded holders limit ≡ berths → IsOneToOne berths
one_to_one-shown holders berths limit words table was shown =
    subst (λ (xs : List (Option ThreadId)). IsOneToOne xs) shown was.kept.one_to_one

-- and there are as many as the limit says
pub length-shown : {S : Type 0} (holders berths : List (Option ThreadId)) (limit : ℕ) (words : List ℕ) (table : HashMap ℕ ℕ S) → IsWhole holders limit words table
    → padded holders limit ≡ berths → length berths ≡ limit
length-shown holders berths limit words table was shown =
    ap (λ (xs : List (Option ThreadId)). length xs) (sym shown) ∙ length-padded holders limit was.kept.within

-- which are few
pub few-shown : {S : Type 0} (holders berths : List (Option ThreadId)) (limit : ℕ) (words : List ℕ) (table : HashMap ℕ ℕ S) → IsWhole holders limit words table
    → padded holders limit ≡ berths → length berths ≤ 32767
few-shown holders berths limit words table was shown =
    let long = length-shown holders berths limit words table was shown in omega (arith, long, was.kept.few)

-- who has a berth that is shown
pub holder-shown : {S : Type 0} (holders berths : List (Option ThreadId)) (limit k : ℕ) (words : List ℕ) (table : HashMap ℕ ℕ S) → IsWhole holders limit words table
    → padded holders limit ≡ berths → holder_at berths k ≡ holder_at holders k
holder-shown holders berths limit k words table was shown =
    ap (λ (xs : List (Option ThreadId)). holder_at xs k) (sym shown) ∙ holder_at-padded holders limit k

-- who has an index has the berth below it
pub holder_of-shown : {S : Type 0} (holders berths : List (Option ThreadId)) (limit index below k : ℕ) (words : List ℕ) (table : HashMap ℕ ℕ S) → IsWhole holders limit words table
    → padded holders limit ≡ berths → (1 ≤ index) × (below ≡ index - 1) → k ≡ below → holder_of berths index ≡ holder_at holders k
holder_of-shown holders berths limit index below k words table was shown less same =
    let next : index ≡ suc k = omega (arith, less, same) in
    ap (holder_of berths) next ∙ holder-shown holders berths limit k words table was shown

-- nobody has an index below the first
pub holder_of-none : (berths : List (Option ThreadId)) (index : ℕ) → (1 ≤ index → ⊥) → holder_of berths index ≡ None
holder_of-none berths zero none = refl
holder_of-none berths (suc k) none = absurd (none (omega arith))

-- nobody has a berth at the start
pub IsWhole-new : {S : Type 0} (limit : ℕ) (holders : List (Option ThreadId)) (words : List ℕ) (table : HashMap ℕ ℕ S) → holders ≡ [] → words ≡ [] → table.entries ≡ []
    → 1 ≤ limit → limit ≤ 32767 → IsWhole holders limit words table
IsWhole-new limit holders words table no_holders no_words no_entries some few =
    record {
      kept =
          record {
            within = rw no_holders (omega arith);
            some = some;
            few = few;
            one_to_one = rw no_holders (IsOneToOne-replicate (limit - 0));
          };
      told =
          record {
            bits = λ k. rw (no_words, no_holders) (no_bit (k / 64) (k % 64) ∙ ap taken_bit (sym (holder_at-replicate (limit - 0) k)));
            look_up = λ t. rw (no_entries, no_holders) (sym (berth_of-replicate (limit - 0) t));
          };
      room = rw no_holders (omega arith);
    }
  where
    no_bit : (j i : ℕ) → bit_at (slice_index [] j) i ≡ 0
    no_bit j i = rw (get_or_past {X = ℕ} [] j 0 (omega arith)) (bit_at-zero i)
