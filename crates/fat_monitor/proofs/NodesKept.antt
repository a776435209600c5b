-- The nodes at which threads stand, and those that are kept.
use Rattle.std.specs.Prelude.{◌≡◌, ◌⊎◌, ℕ, true, false, Some, None}
use Rattle.std.specs.Ordering.{nat_cmp}
use Rattle.std.specs.FinMap as map
use Rattle.std.proofs.Common.{refl, ap, sym, ◌∙◌, inl, inr}
use Rattle.std.proofs.lemmas.Bool.{cases_eq, eq-eqb, ne_eqb}
use Rattle.std.proofs.lemmas.Option.{same_Some}
use Rattle.lock_word.specs.declared.ThreadId.{ThreadId}
use Rattle.wait_lines.specs.declared.Role.{Role}
use Rattle.wait_lines.specs.Lines.{NodeMap, key}
use Rattle.fat_monitor.specs.declared.actions.Post.{Post}
use Rattle.fat_monitor.specs.declared.actions.Post.TheVariants.{Out, Entering, Waiting, Back, Granted}
use Rattle.fat_monitor.specs.FatState.{stands, line_key_of}
use Rattle.fat_monitor.specs.Fats.{AreNodesKept}
use Rattle.fat_monitor.proofs.PostMaps.{get-insert_by, get-remove_by}

-- a post with a line key is one of a thread that stands in a line
pub line_key_stands : (p : Post) (m : ℕ) (r : Role) → line_key_of p ≡ Some (key m r) → stands p ≡ true
line_key_stands Out m r e = absurd (cc)
line_key_stands (Entering n) m r e = refl
line_key_stands (Waiting n k d) m r e = refl
line_key_stands (Back n k w) m r e = refl
line_key_stands (Granted q) m r e = absurd (cc)

module _ (posts : map.FinMap nat_cmp Post) (kept nodes : NodeMap) (nodes_kept : AreNodesKept posts kept nodes) (t : ThreadId) where
  -- another thread's post and nodes stay where those of a thread are written
  other_post : (p : Post) (u : ThreadId) → (u.0 ≡ t.0 → ⊥) → map.get (map.insert posts t.0 p) u.0 ≡ map.get posts u.0
  other_post p u ne = rw (get-insert_by posts t.0 p u.0, ne_eqb u.0 t.0 ne) refl

  other_node : (m : NodeMap) (n : ℕ) (u : ThreadId) → (u.0 ≡ t.0 → ⊥) → map.get (map.insert m t.0 n) u.0 ≡ map.get m u.0
  other_node m n u ne = rw (get-insert_by m t.0 n u.0, ne_eqb u.0 t.0 ne) refl

  other_left : (m : NodeMap) (u : ThreadId) → (u.0 ≡ t.0 → ⊥) → map.get (map.remove m t.0) u.0 ≡ map.get m u.0
  other_left m u ne = rw (get-remove_by m t.0 u.0, ne_eqb u.0 t.0 ne) refl

  this_node : (m : NodeMap) (n : ℕ) (u : ThreadId) → u.0 ≡ t.0 → map.get (map.insert m t.0 n) u.0 ≡ Some n
  this_node m n u same = rw (get-insert_by m t.0 n u.0, eq-eqb u.0 t.0 same) refl

  this_post : (p q : Post) (u : ThreadId) → u.0 ≡ t.0 → map.get (map.insert posts t.0 p) u.0 ≡ Some q → p ≡ q
  this_post p q u same e = same_Some p q (sym (rw (get-insert_by posts t.0 p u.0, eq-eqb u.0 t.0 same) refl) ∙ e)

  -- a thread joined a line
  pub AreNodesKept-joined : (p : Post) (n : ℕ) → AreNodesKept (map.insert posts t.0 p) (map.insert kept t.0 n) (map.insert nodes t.0 n)
  AreNodesKept-joined p n u q e h = at (cases_eq u.0 t.0)
    where
      at : (u.0 ≡ t.0) ⊎ (u.0 ≡ t.0 → ⊥) → map.get (map.insert nodes t.0 n) u.0 ≡ map.get (map.insert kept t.0 n) u.0
      at (inl same) = this_node nodes n u same ∙ sym (this_node kept n u same)
      at (inr ne) = other_node nodes n u ne ∙ nodes_kept u q (sym (other_post p u ne) ∙ e) h ∙ sym (other_node kept n u ne)

  -- a thread left its line
  pub AreNodesKept-left : (p : Post) → stands p ≡ false → AreNodesKept (map.insert posts t.0 p) kept (map.remove nodes t.0)
  AreNodesKept-left p gone u q e h = at (cases_eq u.0 t.0)
    where
      at : (u.0 ≡ t.0) ⊎ (u.0 ≡ t.0 → ⊥) → map.get (map.remove nodes t.0) u.0 ≡ map.get kept u.0
      at (inl same) = absurd (let no : false ≡ true = sym gone ∙ ap stands (this_post p q u same e) ∙ h in cc)
      at (inr ne) = other_left nodes u ne ∙ nodes_kept u q (sym (other_post p u ne) ∙ e) h

  -- a thread left its line for another
  pub AreNodesKept-moved : (p : Post) (n : ℕ) → AreNodesKept (map.insert posts t.0 p) (map.insert kept t.0 n) (map.insert (map.remove nodes t.0) t.0 n)
  AreNodesKept-moved p n u q e h = at (cases_eq u.0 t.0)
    where
      at : (u.0 ≡ t.0) ⊎ (u.0 ≡ t.0 → ⊥) → map.get (map.insert (map.remove nodes t.0) t.0 n) u.0 ≡ map.get (map.insert kept t.0 n) u.0
      at (inl same) = this_node (map.remove nodes t.0) n u same ∙ sym (this_node kept n u same)
      at (inr ne) = other_node (map.remove nodes t.0) n u ne ∙ other_left nodes u ne ∙ nodes_kept u q (sym (other_post p u ne) ∙ e) h ∙ sym (other_node kept n u ne)

  -- a thread that stands in no line has another post
  pub AreNodesKept-set : (p : Post) → stands p ≡ false → AreNodesKept (map.insert posts t.0 p) kept nodes
  AreNodesKept-set p out u q e h = at (cases_eq u.0 t.0)
    where
      at : (u.0 ≡ t.0) ⊎ (u.0 ≡ t.0 → ⊥) → map.get nodes u.0 ≡ map.get kept u.0
      at (inl same) = absurd (let no : false ≡ true = sym out ∙ ap stands (this_post p q u same e) ∙ h in cc)
      at (inr ne) = nodes_kept u q (sym (other_post p u ne) ∙ e) h

  -- one thread more
  pub AreNodesKept-added : (n : ℕ) → AreNodesKept (map.insert posts t.0 Out) (map.insert kept t.0 n) nodes
  AreNodesKept-added n u q e h = at (cases_eq u.0 t.0)
    where
      at : (u.0 ≡ t.0) ⊎ (u.0 ≡ t.0 → ⊥) → map.get nodes u.0 ≡ map.get (map.insert kept t.0 n) u.0
      at (inl same) = absurd (let no : false ≡ true = ap stands (this_post Out q u same e) ∙ h in cc)
      at (inr ne) = nodes_kept u q (sym (other_post Out u ne) ∙ e) h ∙ sym (other_node kept n u ne)

  -- one thread less
  pub AreNodesKept-removed : AreNodesKept (map.remove posts t.0) (map.remove kept t.0) nodes
  AreNodesKept-removed u q e h = at (cases_eq u.0 t.0)
    where
      at : (u.0 ≡ t.0) ⊎ (u.0 ≡ t.0 → ⊥) → map.get nodes u.0 ≡ map.get (map.remove kept t.0) u.0
      at (inl same) = absurd (let no : None ≡ Some q = sym (rw (get-remove_by posts t.0 u.0, eq-eqb u.0 t.0 same) refl) ∙ e in cc)
      at (inr ne) = nodes_kept u q (sym (rw (get-remove_by posts t.0 u.0, ne_eqb u.0 t.0 ne) refl) ∙ e) h ∙ sym (other_left kept u ne)

  -- the node of a thread that stands in a line
  pub stands_at : (p : Post) (n : ℕ) → map.get posts t.0 ≡ Some p → stands p ≡ true → map.get kept t.0 ≡ Some n → map.get nodes t.0 ≡ Some n
  stands_at p n post h is = nodes_kept t p post h ∙ is
