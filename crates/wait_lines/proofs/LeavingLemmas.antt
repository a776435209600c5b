-- What is kept after a thread left its node.
use Rattle.std.specs.Prelude.{◌≡◌, ◌⊎◌, ℕ, ◌<◌, ◌≤◌, [], length, slice_index_or}
use Rattle.std.specs.FinMap as map
use Rattle.std.proofs.Common.{sym, ap, ◌∙◌, subst, inl, inr, arith}
use Rattle.std.proofs.Math.ListN.{get_or-map as get_or-map_both}
use Rattle.std.proofs.lemmas.Bool.{cases_lt}
use Rattle.std.proofs.lemmas.List.Sums.{sum_by-cons}
use Rattle.lock_word.specs.declared.ThreadId.{ThreadId}
use Rattle.wait_lines.specs.declared.Role.{Role}
use Rattle.wait_lines.specs.declared.Role.TheVariants.{Entry}
use Rattle.wait_lines.specs.declared.links.Stop.TheVariants.{Free}
use Rattle.wait_lines.specs.Lines.{key, StandsAt, StandsIn, after_leave}
use Rattle.wait_lines.specs.Links.{Chart, node, unlinked, linked}
use Rattle.wait_lines.specs.Rings.{without_number}
use Rattle.wait_lines.specs.Rows.{rows_of, row_at, times_number, rows_without, moved, AreLinked}
use Rattle.wait_lines.specs.Arrivals.{lines_of, nodes_of, threads_of, keys_of, arrivals_in, arrivals_of, tail_of, IsKept}
use Rattle.wait_lines.proofs.LinkLemmas.{sizes-unlinked, sizes-linked}
use Rattle.wait_lines.proofs.RowLemmas.{rows-shown, AreLinked-unlinked, AreLinked-linked, length-without_le}
use Rattle.wait_lines.proofs.ArrivalLemmas.{others, IsOrderly-others, lines_of-others}
use Rattle.wait_lines.proofs.NodeThreadLemmas.{IsThere as IsMember, arrivals-without, AreNamed, named, there-node, there-thread, there-counts, arrivals-count, same_others, fewer-others, nodes_of-others}
use Rattle.wait_lines.proofs.RecordLemmas.{threads-unlinked, keys-unlinked, threads-linked, keys-linked}

-- ---- a thread leaves its node

-- what is there after that
abbrev pub freed : Chart → ℕ → Chart
freed c n = linked (unlinked c (node n)) (node n) Free

module _ (c : Chart) (n : ℕ) (t : ThreadId) (h : IsKept c) (stands : StandsAt (nodes_of (arrivals_of c)) t n) where
  pub stands-here : n < length c.spots
  stands-here = at (cases_lt n (length c.spots))
    where
      at : (n < length c.spots) ⊎ (length c.spots ≤ n) → n < length c.spots
      at (inl l) = l
      at (inr past) =
          let one = there-counts (arrivals_of c) t n (there-node (arrivals_of c) t n stands) in
          let count = arrivals-count (threads_of c) (keys_of c) n (tail_of (rows_of c)) in
          let sum = sum_by-cons (times_number n) (row_at (rows_of c) 0) (tail_of (rows_of c)) in
          let none = h.linked.absent n past in
          absurd (omega arith)

  pub sizes_freed : (length (freed c n).spots ≡ length c.spots) × (length (freed c n).ends ≡ length c.ends)
  sizes_freed =
      let b = AreLinked-unlinked c (rows_of c) n h.linked stands-here in
      let e = sizes-unlinked c (node n) h.linked.rings stands-here in
      let f = sizes-linked (unlinked c (node n)) (node n) Free b.rings b.here tt in
      (f.0 ∙ e.0, f.1 ∙ e.1)

  linked_after : AreLinked (freed c n) (moved (rows_of c) n 0)
  linked_after =
      let b = AreLinked-unlinked c (rows_of c) n h.linked stands-here in
      AreLinked-linked (unlinked c (node n)) (rows_without n (rows_of c)) n 0 b (let m = b.many in omega arith)

  rows_after : rows_of (freed c n) ≡ moved (rows_of c) n 0
  rows_after = sym (rows-shown (freed c n) (moved (rows_of c) n 0) linked_after)

  threads_after : threads_of (freed c n) ≡ threads_of c
  threads_after = threads-linked (unlinked c (node n)) (node n) Free ∙ threads-unlinked c (node n)

  pub keys_after : keys_of (freed c n) ≡ keys_of c
  keys_after = keys-linked (unlinked c (node n)) (node n) Free ∙ keys-unlinked c (node n)

  pub tail_after : tail_of (rows_of (freed c n)) ≡ rows_without n (tail_of (rows_of c))
  tail_after = ap tail_of rows_after

  pub arrivals_after : arrivals_of (freed c n) ≡ others t (arrivals_of c)
  arrivals_after =
      ap (λ ts. arrivals_in ts (keys_of (freed c n)) (tail_of (rows_of (freed c n)))) threads_after
      ∙ ap (λ ks. arrivals_in (threads_of c) ks (tail_of (rows_of (freed c n)))) keys_after
      ∙ ap (arrivals_in (threads_of c) (keys_of c)) tail_after
      ∙ arrivals-without (threads_of c) (keys_of c) n (tail_of (rows_of c))
      ∙ same_others (threads_of c) t n (there-thread (threads_of c) (arrivals_of c) t n all there) (arrivals_of c) all
      (let one = there-counts (arrivals_of c) t n there in let solo = h.solo t in omega arith)
    where
      all : AreNamed (threads_of c) (arrivals_of c)
      all = named (threads_of c) (keys_of c) (tail_of (rows_of c))

      there : IsMember (arrivals_of c) t n
      there = there-node (arrivals_of c) t n stands

  pub lines_after : (m : ℕ) (r : Role) → StandsIn (lines_of (arrivals_of c)) t m r → lines_of (arrivals_of (freed c n)) ≡ after_leave (lines_of (arrivals_of c)) t m r
  lines_after m r in_line = ap lines_of arrivals_after ∙ lines_of-others t (arrivals_of c) (length c.spots) m r h.orderly in_line

  pub nodes_after : nodes_of (arrivals_of (freed c n)) ≡ map.remove (nodes_of (arrivals_of c)) t.0
  nodes_after = ap nodes_of arrivals_after ∙ nodes_of-others t (arrivals_of c)

  pub IsKept-freed : IsKept (freed c n)
  IsKept-freed = record {
    linked = subst (AreLinked (freed c n)) (sym rows_after) linked_after;
    orderly = rw (arrivals_after, sizes_freed.0) (IsOrderly-others t (arrivals_of c) (length c.spots) h.orderly);
    solo = λ u. let l = fewer-others t u (arrivals_of c) in let s = h.solo u in rw arrivals_after (omega arith);
    even = let e = h.even in let s = sizes_freed.0 in let f = sizes_freed.1 in omega arith;
    one = λ i j i_in j_in same i_full j_full. one i j (rw keys_after at i_in) (rw keys_after at j_in) (rw keys_after at same) (rw tail_after at i_full) (rw tail_after at j_full);
  }
    where
      shorter : (i : ℕ) → length (row_at (rows_without n (tail_of (rows_of c))) i) ≤ length (row_at (tail_of (rows_of c)) i)
      shorter i = rw (get_or-map_both (without_number n) (tail_of (rows_of c)) i []) (length-without_le n (row_at (tail_of (rows_of c)) i))

      one : (i j : ℕ) → i < length (keys_of c) → j < length (keys_of c) → slice_index_or (keys_of c) i (key 0 Entry) ≡ slice_index_or (keys_of c) j (key 0 Entry)
          → 0 < length (row_at (rows_without n (tail_of (rows_of c))) i) → 0 < length (row_at (rows_without n (tail_of (rows_of c))) j) → i ≡ j
      one i j i_in j_in same i_full j_full = h.one i j i_in j_in same (let s = shorter i in omega arith) (let s = shorter j in omega arith)
