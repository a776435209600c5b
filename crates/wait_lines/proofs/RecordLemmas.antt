-- What links say of threads and of the records of lines.
use Rattle.std.specs.Prelude.{◌≡◌, ◌≢◌, ℕ, suc, ◌<◌, true, false, List, [], ◌∷◌, length}
use Rattle.std.proofs.Common.{refl, sym, ap, ◌∙◌, subst, arith}
use Rattle.std.proofs.Math.Seq.{map-set_same}
use Rattle.wait_lines.specs.declared.links.Stop.{Stop}
use Rattle.wait_lines.specs.declared.links.Stop.TheVariants.{At, End, Free}
use Rattle.wait_lines.specs.declared.links.Spot.{Spot}
use Rattle.wait_lines.specs.declared.links.Ends.{Ends}
use Rattle.wait_lines.specs.Lines.{key}
use Rattle.wait_lines.specs.Links.{Chart, node, alone, unused, spot_at, ends_at, behind_of, before_of, with_behind, with_before, unlinked, linked, is_node}
use Rattle.wait_lines.specs.Rings.{Walk}
use Rattle.wait_lines.specs.Rows.{rows_of, row_at}
use Rattle.wait_lines.specs.Arrivals.{threads_of, keys_of, tail_of, IsKept}

-- ---- links say nothing of threads and keys

threads-with_behind : (c : Chart) (s x : Stop) → threads_of (with_behind c s x) ≡ threads_of c
threads-with_behind c (At n) x = map-set_same (λ (s : Spot). s.thread) c.spots n.0 (record (spot_at c n.0) { behind = x }) (alone (node n.0)) refl
threads-with_behind c (End k) x = refl
threads-with_behind c Free x = refl

threads-with_before : (c : Chart) (s x : Stop) → threads_of (with_before c s x) ≡ threads_of c
threads-with_before c (At n) x = map-set_same (λ (s : Spot). s.thread) c.spots n.0 (record (spot_at c n.0) { before = x }) (alone (node n.0)) refl
threads-with_before c (End k) x = refl
threads-with_before c Free x = refl

keys-with_behind : (c : Chart) (s x : Stop) → keys_of (with_behind c s x) ≡ keys_of c
keys-with_behind c (At n) x = refl
keys-with_behind c (End k) x = map-set_same (λ (e : Ends). key e.monitor e.role) c.ends k (record (ends_at c k) { first = x }) (unused (End k)) refl
keys-with_behind c Free x = refl

keys-with_before : (c : Chart) (s x : Stop) → keys_of (with_before c s x) ≡ keys_of c
keys-with_before c (At n) x = refl
keys-with_before c (End k) x = map-set_same (λ (e : Ends). key e.monitor e.role) c.ends k (record (ends_at c k) { last = x }) (unused (End k)) refl
keys-with_before c Free x = refl

module _ (c : Chart) (p a q b s x t y : Stop) where
  threads4 : threads_of (with_before (with_behind (with_before (with_behind c p a) q b) s x) t y) ≡ threads_of c
  threads4 = threads-with_before _ t y ∙ threads-with_behind _ s x ∙ threads-with_before _ q b ∙ threads-with_behind c p a

  keys4 : keys_of (with_before (with_behind (with_before (with_behind c p a) q b) s x) t y) ≡ keys_of c
  keys4 = keys-with_before _ t y ∙ keys-with_behind _ s x ∙ keys-with_before _ q b ∙ keys-with_behind c p a

pub threads-unlinked : (c : Chart) (n : Stop) → threads_of (unlinked c n) ≡ threads_of c
threads-unlinked c n = threads4 c (before_of c n) (behind_of c n) (behind_of c n) (before_of c n) n n n n

pub keys-unlinked : (c : Chart) (n : Stop) → keys_of (unlinked c n) ≡ keys_of c
keys-unlinked c n = keys4 c (before_of c n) (behind_of c n) (behind_of c n) (before_of c n) n n n n

pub threads-linked : (c : Chart) (n k : Stop) → threads_of (linked c n k) ≡ threads_of c
threads-linked c n k = threads4 c (before_of c k) n k n n k n (before_of c k)

pub keys-linked : (c : Chart) (n k : Stop) → keys_of (linked c n k) ≡ keys_of c
keys-linked c n k = keys4 c (before_of c k) n k n n k n (before_of c k)

-- ---- what the first stop of a record says of its row

module _ (c : Chart) (h : IsKept c) (k : ℕ) (there : k < length c.ends) where
  pub walk-to_row : Walk (behind_of c) (End k) (row_at (tail_of (rows_of c)) k) (End k)
  walk-to_row = h.linked.walks (suc k) (let m = h.linked.many in omega arith)

  pub row-full : is_node (ends_at c k).first ≡ true → row_at (tail_of (rows_of c)) k ≢ []
  row-full e none =
      let w : (ends_at c k).first ≡ End k = subst (λ r. Walk (behind_of c) (End k) r (End k)) none walk-to_row in
      let no : is_node (End k) ≡ true = sym (ap is_node w) ∙ e in cc

  pub row-empty : is_node (ends_at c k).first ≡ false → row_at (tail_of (rows_of c)) k ≡ []
  row-empty e = at (row_at (tail_of (rows_of c)) k) walk-to_row
    where
      at : (r : List ℕ) → Walk (behind_of c) (End k) r (End k) → r ≡ []
      at [] w = refl
      at (n ∷ ns) w = absurd (let no : is_node (node n) ≡ false = sym (ap is_node w.0) ∙ e in cc)

abbrev pub number_of : Stop → ℕ
number_of (At n) = n.0
number_of (End k) = k
number_of Free = 0
