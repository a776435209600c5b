-- The lines of a text, one after the other.
use Rattle.std.proofs.Common.{◌≡◌, ℕ, ◌+◌, List, [], ◌∷◌, length, Bool, true, false, ◌==◌, if◌then◌else◌, Some, None, Ok, Err, refl, sym, ap, ◌∙◌, arith}
use Rattle.std.specs.Char.{is_ascii}
use Rattle.std.specs.List.{list_all}
use Rattle.std.specs.Str.{IsAscii, IsUtf8}
use Rattle.std.proofs.lemmas.Bool.{and_parts, ltb-true}
use Rattle.std.proofs.lemmas.List.Splits.{length-slice_split}
use Rattle.std.proofs.lemmas.Str.{IsUtf8-from_ascii}
use Rattle.std.proofs.lemmas.Str.Ascii.{IsAscii-nil, IsAscii-cons}
use Rattle.script_text.specs.Lines.{parts_of}
use Rattle.program_text.specs.Drafts.{DraftState, draft_from, draft_of, first_in, is_whole, next_draft}

ascii : (bs : List ℕ) → list_all is_ascii bs ≡ true → IsAscii bs
ascii [] h = IsAscii-nil
ascii (b ∷ bs) h =
    let parts = and_parts (is_ascii b) _ h in
    IsAscii-cons b bs (ltb-true b 128 parts.0) (ascii bs parts.1)

pub ascii_text : (bs : List ℕ) → list_all is_ascii bs ≡ true → IsUtf8 bs
ascii_text bs h = IsUtf8-from_ascii bs (ascii bs h)

-- there is always a part
some_parts : (n : ℕ) (ps : List (List ℕ)) → length ps ≡ n + 1 → (q : List ℕ) × (qs : List (List ℕ)) × (ps ≡ q ∷ qs)
some_parts n [] e = absurd (omega (arith, e))
some_parts n (p ∷ ps) e = (p, ps, refl)

parts_there : (bytes : List ℕ) → (q : List ℕ) × (qs : List (List ℕ)) × (parts_of bytes ≡ q ∷ qs)
parts_there bytes = some_parts _ (parts_of bytes) (length-slice_split (λ b. b == 10) bytes)

step : (d e : DraftState) (part q : List ℕ) (qs : List (List ℕ)) → next_draft d part ≡ Some e
    → draft_from d (part ∷ q ∷ qs) ≡ draft_from e (q ∷ qs)
unfolding draft_from
step d e part q qs h = rw (draft_from, h) refl

halt : (d : DraftState) (part q : List ℕ) (qs : List (List ℕ)) → next_draft d part ≡ None
    → draft_from d (part ∷ q ∷ qs) ≡ Err (d.lines + 1)
unfolding draft_from
halt d part q qs h = rw (draft_from, h) refl

-- a line that may follow
pub draft_next : (d e : DraftState) (bytes part after : List ℕ) → parts_of bytes ≡ part ∷ parts_of after
    → next_draft d part ≡ Some e → draft_from d (parts_of bytes) ≡ draft_from e (parts_of after)
draft_next d e bytes part after cut next =
    let p = parts_there after in
    ap (draft_from d) (cut ∙ ap (λ (ps : List (List ℕ)). part ∷ ps) p.2) ∙ step d e part p.0 p.1 next ∙ ap (draft_from e) (sym p.2)

-- and one that may not
pub draft_bad : (d : DraftState) (bytes part after : List ℕ) → parts_of bytes ≡ part ∷ parts_of after
    → next_draft d part ≡ None → draft_from d (parts_of bytes) ≡ Err (d.lines + 1)
draft_bad d bytes part after cut next =
    let p = parts_there after in
    ap (draft_from d) (cut ∙ ap (λ (ps : List (List ℕ)). part ∷ ps) p.2) ∙ halt d part p.0 p.1 next

last : (d : DraftState) (part : List ℕ)
    → draft_from d (part ∷ []) ≡ (if is_whole d part then Ok d else Err (d.lines + 1))
unfolding draft_from
last d part = refl

-- behind the last line feed
pub draft_end : (d : DraftState) (bytes : List ℕ) → parts_of bytes ≡ bytes ∷ []
    → draft_from d (parts_of bytes) ≡ (if is_whole d bytes then Ok d else Err (d.lines + 1))
draft_end d bytes whole = ap (draft_from d) whole ∙ last d bytes

pub draft_whole : (d : DraftState) (bytes : List ℕ) (whole : Bool) → parts_of bytes ≡ bytes ∷ []
    → whole ≡ is_whole d bytes → whole ≡ true → draft_from d (parts_of bytes) ≡ Ok d
draft_whole d bytes whole one is such = draft_end d bytes one ∙ rw (sym is ∙ such) refl

pub draft_cut : (d : DraftState) (bytes : List ℕ) (whole : Bool) → parts_of bytes ≡ bytes ∷ []
    → whole ≡ is_whole d bytes → whole ≡ false → draft_from d (parts_of bytes) ≡ Err (d.lines + 1)
draft_cut d bytes whole one is such = draft_end d bytes one ∙ rw (sym is ∙ such) refl

-- ---- the first line

alone : (part : List ℕ) → draft_of (part ∷ []) ≡ Err 1
unfolding draft_of
alone part = refl

pub no_line : (bytes : List ℕ) → parts_of bytes ≡ bytes ∷ [] → draft_of (parts_of bytes) ≡ Err 1
no_line bytes whole = ap draft_of whole ∙ alone bytes

first_step : (d : DraftState) (part q : List ℕ) (qs : List (List ℕ)) → first_in part ≡ Some d
    → draft_of (part ∷ q ∷ qs) ≡ draft_from d (q ∷ qs)
unfolding draft_of
first_step d part q qs h = rw (draft_of, h) refl

first_halt : (part q : List ℕ) (qs : List (List ℕ)) → first_in part ≡ None → draft_of (part ∷ q ∷ qs) ≡ Err 1
unfolding draft_of
first_halt part q qs h = rw (draft_of, h) refl

pub first_goes : (d : DraftState) (bytes part after : List ℕ) → parts_of bytes ≡ part ∷ parts_of after
    → first_in part ≡ Some d → draft_of (parts_of bytes) ≡ draft_from d (parts_of after)
first_goes d bytes part after cut next =
    let p = parts_there after in
    ap draft_of (cut ∙ ap (λ (ps : List (List ℕ)). part ∷ ps) p.2) ∙ first_step d part p.0 p.1 next ∙ ap (draft_from d) (sym p.2)

pub first_bad : (bytes part after : List ℕ) → parts_of bytes ≡ part ∷ parts_of after
    → first_in part ≡ None → draft_of (parts_of bytes) ≡ Err 1
first_bad bytes part after cut next =
    let p = parts_there after in
    ap draft_of (cut ∙ ap (λ (ps : List (List ℕ)). part ∷ ps) p.2) ∙ first_halt part p.0 p.1 next
