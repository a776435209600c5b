-- Columns one after the other, and their moves.
use Rattle.std.proofs.Common.{◌≡◌, ℕ, suc, ◌+◌, ◌<◌, List, [], ◌∷◌, ◌++◌, length, take, get_or, refl, sym, ap, subst, Vec}
use Rattle.std.specs.declared.alloc.Global.{Global}
use Rattle.lock_word.specs.declared.Word.{Word}
use Rattle.step_core.specs.declared.machine.Move.{Move}
use Rattle.step_core.specs.declared.steps.Request.{Request}
use Rattle.step_core.specs.Machine.{Run}
use Rattle.step_core.specs.Shown.{shown}
use Rattle.step_core.specs.World.{WorldState}
use Rattle.pictures.specs.declared.columns.Column.{Column}
use Rattle.pictures.specs.Marks.{moves_in}
use Rattle.pictures.specs.Pictures.{all_moves}
use Rattle.pictures.proofs.Nexts.{take_next}
use Rattle.pictures.proofs.Runs.{run_join}
use Rattle.drawing.specs.Columns.{IsColumn, AreColumns, AreColumnsThrough, HaveWords, columns_of, words_of}

AreColumns-more : (w v u : WorldState) (rs : List Request) (cs : List Column) (r : Request) (c : Column) → AreColumns w rs v cs → IsColumn v r u c
    → AreColumns w (rs ++ r ∷ []) u (cs ++ c ∷ [])
AreColumns-more w v u [] [] r c p q = (u, subst (λ x. IsColumn x r u c) p q, refl)
AreColumns-more w v u [] (d ∷ cs) r c p q = absurd p
AreColumns-more w v u (s ∷ rs) [] r c p q = absurd p
AreColumns-more w v u (s ∷ rs) (d ∷ cs) r c p q = (p.0, p.1, AreColumns-more p.0 v u rs cs r c p.2 q)

pub AreColumns-next : (w v u : WorldState) (rs : List Request) (i : ℕ) (d : Request) (cs : List Column) (c : Column) → i < length rs → AreColumns w (take i rs) v cs
    → IsColumn v (get_or rs i d) u c → AreColumns w (take (i + 1) rs) u (cs ++ c ∷ [])
AreColumns-next w v u rs i d cs c within p q =
    subst (λ l. AreColumns w l u (cs ++ c ∷ [])) (sym (take_next rs i d within)) (AreColumns-more w v u (take i rs) cs (get_or rs i d) c p q)

pub columns_run : (w v : WorldState) (rs : List Request) (cs : List Column) → AreColumns w rs v cs → Run (shown w) (all_moves cs) (shown v)
columns_run w v [] [] p = ap shown p
columns_run w v [] (c ∷ cs) p = absurd p
columns_run w v (r ∷ rs) [] p = absurd p
columns_run w v (r ∷ rs) (c ∷ cs) p = run_join (moves_in c) (all_moves cs) (shown w) (shown p.0) (shown v) p.1.run (columns_run p.0 v rs cs p.2)

pub columns_length : (w v : WorldState) (rs : List Request) (cs : List Column) → AreColumns w rs v cs → length cs ≡ length rs
columns_length w v [] [] p = refl
columns_length w v [] (c ∷ cs) p = absurd p
columns_length w v (r ∷ rs) [] p = absurd p
columns_length w v (r ∷ rs) (c ∷ cs) p = ap suc (columns_length p.0 v rs cs p.2)

-- ---- with the worlds behind the columns

pub through_columns : (w v : WorldState) (rs : List Request) (us : List WorldState) (cs : List Column) → AreColumnsThrough w rs v us cs → AreColumns w rs v cs
through_columns w v [] [] [] p = p
through_columns w v [] [] (c ∷ cs) p = absurd p
through_columns w v [] (u ∷ us) cs p = absurd p
through_columns w v (r ∷ rs) [] cs p = absurd p
through_columns w v (r ∷ rs) (u ∷ us) [] p = absurd p
through_columns w v (r ∷ rs) (u ∷ us) (c ∷ cs) p = (u, p.0, through_columns u v rs us cs p.1)

pub through_length : (w v : WorldState) (rs : List Request) (us : List WorldState) (cs : List Column) → AreColumnsThrough w rs v us cs → length us ≡ length cs
through_length w v [] [] [] p = refl
through_length w v [] [] (c ∷ cs) p = absurd p
through_length w v [] (u ∷ us) cs p = absurd p
through_length w v (r ∷ rs) [] cs p = absurd p
through_length w v (r ∷ rs) (u ∷ us) [] p = absurd p
through_length w v (r ∷ rs) (u ∷ us) (c ∷ cs) p = ap suc (through_length u v rs us cs p.1)

through_more : (w v x : WorldState) (rs : List Request) (us : List WorldState) (cs : List Column) (r : Request) (c : Column) → AreColumnsThrough w rs v us cs → IsColumn v r x c
    → AreColumnsThrough w (rs ++ r ∷ []) x (us ++ x ∷ []) (cs ++ c ∷ [])
through_more w v x [] [] [] r c p q = (subst (λ y. IsColumn y r x c) p q, refl)
through_more w v x [] [] (d ∷ cs) r c p q = absurd p
through_more w v x [] (u ∷ us) cs r c p q = absurd p
through_more w v x (s ∷ rs) [] cs r c p q = absurd p
through_more w v x (s ∷ rs) (u ∷ us) [] r c p q = absurd p
through_more w v x (s ∷ rs) (u ∷ us) (d ∷ cs) r c p q = (p.0, through_more u v x rs us cs r c p.1 q)

have_more : (drawn : List ℕ) (us : List WorldState) (rows : List (Vec Word Global)) (x : WorldState) (row : Vec Word Global) → HaveWords drawn us rows → row.items ≡ words_of x drawn
    → HaveWords drawn (us ++ x ∷ []) (rows ++ row ∷ [])
have_more drawn [] [] x row p q = (q, tt)
have_more drawn [] (k ∷ rows) x row p q = absurd p
have_more drawn (u ∷ us) [] x row p q = absurd p
have_more drawn (u ∷ us) (k ∷ rows) x row p q = (p.0, have_more drawn us rows x row p.1 q)

-- steps were played, and the words behind them were told
pub record AreTold (drawn : List ℕ) (w : WorldState) (rs : List Request) (v : WorldState) (cs : List Column) (rows : List (Vec Word Global)) : Type 0 where
  pub worlds : List WorldState
  pub through : AreColumnsThrough w rs v worlds cs
  pub have : HaveWords drawn worlds rows

pub told_next : (drawn : List ℕ) (w v x : WorldState) (rs : List Request) (i : ℕ) (d : Request) (cs : List Column) (c : Column) (rows : List (Vec Word Global)) (row : Vec Word Global)
    → i < length rs → AreTold drawn w (take i rs) v cs rows → IsColumn v (get_or rs i d) x c → row.items ≡ words_of x drawn
    → AreTold drawn w (take (i + 1) rs) x (cs ++ c ∷ []) (rows ++ row ∷ [])
told_next drawn w v x rs i d cs c rows row within p q e = record {
  worlds = p.worlds ++ x ∷ [];
  through = subst (λ l. AreColumnsThrough w l x (p.worlds ++ x ∷ []) (cs ++ c ∷ [])) (sym (take_next rs i d within)) (through_more w v x (take i rs) p.worlds cs (get_or rs i d) c p.through q);
  have = have_more drawn p.worlds rows x row p.have e;
}

-- ---- histories

pub moves_of_columns : (ms : List Move) → all_moves (columns_of ms) ≡ ms
moves_of_columns [] = refl
moves_of_columns (m ∷ ms) = ap (λ l. m ∷ l) (moves_of_columns ms)
