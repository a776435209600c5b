-- Reading the moves of a history that is a run: what is left of its text, and what was read.
use Rattle.std.proofs.Common.{◌≡◌, ℕ, List, [], ◌∷◌, ◌++◌, sym, ap, ◌∙◌, subst, append_assoc, append-nil}
use Rattle.step_core.specs.declared.machine.Move.{Move}
use Rattle.history_moves.specs.Lines.{IsFirst, IsMove}
use Rattle.history_moves.proofs.LineLaws.{one_line_move, one_line_first}
use Rattle.history_check.specs.Histories.{NoFeed, lines_text, Spell, IsRunOf, IsRunFrom}
use Rattle.history_check.proofs.Lines.{same_line, no_feed_no_line}

-- The moves that were read and those of the lines that are left are the run of the text.
pub record IsLeft (text left : List ℕ) (n : ℕ) (got : List Move) : Type 0 where
  pub lines : List (List ℕ)
  pub rest : List Move
  pub parts : left ≡ lines_text lines
  pub spelled : Spell lines rest
  pub whole : IsRunFrom text n (got ++ rest)

pub has_first : (text : List ℕ) (ms : List Move) → IsRunOf text ms → NoFeed text → ⊥
has_first text ms r clean = no_feed_no_line text r.first (lines_text r.lines) clean r.parts

pub first_tells : (text line rest : List ℕ) (ms : List Move) → IsRunOf text ms → NoFeed line → text ≡ line ++ (10 ∷ rest)
    → ((n : ℕ) → IsFirst line n → ⊥) → ⊥
first_tells text line rest ms r clean cut none =
    let same = same_line line r.first rest (lines_text r.lines) clean r.first_line.0 (sym cut ∙ r.parts) in
    none r.objects (subst (λ (l : List ℕ). IsFirst l r.objects) (sym same.0) r.first_is)

pub begins : (text line rest : List ℕ) (n : ℕ) (ms : List Move) → IsRunOf text ms → NoFeed line → text ≡ line ++ (10 ∷ rest)
    → IsFirst line n → IsLeft text rest n []
begins text line rest n ms r clean cut is =
    let same = same_line line r.first rest (lines_text r.lines) clean r.first_line.0 (sym cut ∙ r.parts) in
    record {
      lines = r.lines;
      rest = ms;
      parts = same.1;
      spelled = r.spelled;
      whole = record { run = r; objects = one_line_first line r.objects n (subst (λ (l : List ℕ). IsFirst l r.objects) (sym same.0) r.first_is) is };
    }

-- a line that is left is that of the next move
line_in : (text left line behind : List ℕ) (n : ℕ) (got : List Move) (lines : List (List ℕ)) (rest : List Move) → left ≡ lines_text lines → Spell lines rest
    → IsRunFrom text n (got ++ rest) → NoFeed line → left ≡ line ++ (10 ∷ behind)
    → (m : Move) × IsMove line m × (((k : Move) → IsMove line k → IsLeft text behind n (got ++ k ∷ [])))
line_in text left line behind n got [] rest parts spelled whole clean cut = absurd (none line (sym parts ∙ cut))
  where
    none : (l : List ℕ) → [] ≡ l ++ (10 ∷ behind) → ⊥
    none [] e = cc
    none (x ∷ l) e = cc
line_in text left line behind n got (l ∷ ls) [] parts spelled whole clean cut = absurd spelled
line_in text left line behind n got (l ∷ ls) (m ∷ ms) parts spelled whole clean cut =
    let same = same_line line l behind (lines_text ls) clean spelled.0.0 (sym cut ∙ parts) in
    let is : IsMove line m = subst (λ (k : List ℕ). IsMove k m) (sym same.0) spelled.1 in (
      m,
      is,
      λ k other. record {
        lines = ls;
        rest = ms;
        parts = same.1;
        spelled = spelled.2;
        whole = subst (IsRunFrom text n) (ap (λ (x : Move). got ++ (x ∷ ms)) (one_line_move line m k is other) ∙ sym (append_assoc got (k ∷ []) ms)) whole;
      },
    )

pub line_is : (text left line behind : List ℕ) (n : ℕ) (got : List Move) → IsLeft text left n got → NoFeed line → left ≡ line ++ (10 ∷ behind)
    → ((m : Move) → IsMove line m → ⊥) → ⊥
line_is text left line behind n got s clean cut none =
    let found = line_in text left line behind n got s.lines s.rest s.parts s.spelled s.whole clean cut in
    none found.0 found.1

pub goes_on : (text left line behind : List ℕ) (n : ℕ) (got : List Move) (m : Move) → IsLeft text left n got → NoFeed line → left ≡ line ++ (10 ∷ behind)
    → IsMove line m → IsLeft text behind n (got ++ m ∷ [])
goes_on text left line behind n got m s clean cut is =
    (line_in text left line behind n got s.lines s.rest s.parts s.spelled s.whole clean cut).2 m is

pub ends : (text left : List ℕ) (n : ℕ) (got : List Move) → IsLeft text left n got → NoFeed left → IsRunFrom text n got
ends text left n got s clean = all s.lines s.rest s.parts s.spelled s.whole
  where
    all : (lines : List (List ℕ)) (rest : List Move) → left ≡ lines_text lines → Spell lines rest → IsRunFrom text n (got ++ rest) → IsRunFrom text n got
    all [] [] parts spelled whole = subst (IsRunFrom text n) (append-nil got) whole
    all [] (m ∷ ms) parts spelled whole = absurd spelled
    all (l ∷ ls) rest parts spelled whole = absurd (no_feed_no_line left l (lines_text ls) clean parts)
