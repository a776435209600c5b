-- How a check goes on: what stands after more bytes, and which line is the first that is wrong.
use Rattle.std.proofs.Common.{◌≡◌, ℕ, ◌+◌, ◌<◌, ◌≤◌, List, [], ◌∷◌, ◌++◌, length, true, false, Option, None, Some, is_some, Result, Ok, Err, OnOk, IfErr, MatchResult, ◌-◌, refl, sym, ap, ◌∙◌, subst, arith, inl, inr, ◌⊎◌, append_assoc, append-nil, length-append}
use Rattle.step_core.specs.declared.machine.Move.{Move}
use Rattle.text_streams.specs.declared.faults.FileFault.{FileFault}
use Rattle.text_streams.specs.declared.faults.FileFault.TheVariants.{BadLine, BadMove, Broken, Read, Write, Memory}
use Rattle.step_core.specs.Machine.{State, opening, Steps, Run}
use Rattle.history_moves.specs.Lines.{IsMove}
use Rattle.history_check.specs.Histories.{NoFeed, IsLine, lines_text, Spell, LeadTo, IsWellFormed, LineLeads, IsRunOf, IsRightSoFar, IsBadMove, Refuses, IsFaultOf}
use Rattle.history_check.proofs.Lines.{NoFeed-append, same_line, no_shorter, no_feed_no_line, has_feed, lines_text-one}

-- ---- one more line

Spell-one : (ls : List (List ℕ)) (ms : List Move) (l : List ℕ) (m : Move) → Spell ls ms → IsLine l → IsMove l m → Spell (ls ++ l ∷ []) (ms ++ m ∷ [])
Spell-one [] [] l m p fits is = (fits, is, tt)
Spell-one [] (n ∷ ms) l m p fits is = absurd p
Spell-one (k ∷ ls) [] l m p fits is = absurd p
Spell-one (k ∷ ls) (n ∷ ms) l m p fits is = (p.0, p.1, Spell-one ls ms l m p.2 fits is)

Run-one : (ms : List Move) (s mid next : State) (m : Move) → Run s ms mid → Steps mid m next → Run s (ms ++ m ∷ []) next
Run-one [] s mid next m r step = (next, subst (λ (x : State). Steps x m next) r step, refl)
Run-one (n ∷ ms) s mid next m r step = (r.0, r.1, Run-one ms r.0 mid next m r.2 step)

LeadTo-one : (ls : List (List ℕ)) (l : List ℕ) (reached next : Option State) → LeadTo ls reached → IsLine l → LineLeads reached l next → LeadTo (ls ++ l ∷ []) next
LeadTo-one [] l None None p fits f = absurd f
LeadTo-one [] l None (Some s) p fits f = (f.0, [], fits, f.1, tt, f.2)
LeadTo-one [] l (Some s) next p fits f = absurd p
LeadTo-one (first ∷ ls) l None next p fits f = absurd p
LeadTo-one (first ∷ ls) l (Some s) None p fits f = absurd f
LeadTo-one (first ∷ ls) l (Some s) (Some next) p fits f =
    (p.0, p.1 ++ f.0 ∷ [], p.2, p.3, Spell-one ls p.1 l f.0 p.4 fits f.1, Run-one p.1 (opening p.0) s next f.0 p.5 f.2)

-- ---- what stands

pub IsRightSoFar-more : (came : List ℕ) (count : ℕ) (reached : Option State) (line piece : List ℕ) → IsRightSoFar came count reached line
    → NoFeed piece → length line + length piece < 4096 → IsRightSoFar (came ++ piece) count reached (line ++ piece)
IsRightSoFar-more came count reached line piece s clean small = record {
  whole = s.whole;
  number = s.number;
  right = s.right;
  parts = ap (λ (l : List ℕ). l ++ piece) s.parts ∙ append_assoc (lines_text s.whole) line piece;
  short = (NoFeed-append line piece s.short.0 clean, omega (arith, length-append line piece, small));
}

-- a whole line that follows
pub IsRightSoFar-line : (came : List ℕ) (count : ℕ) (reached next : Option State) (line : List ℕ) → IsRightSoFar came count reached line
    → LineLeads reached line next → IsRightSoFar (came ++ 10 ∷ []) (count + 1) next []
IsRightSoFar-line came count reached next line s f = record {
  whole = s.whole ++ line ∷ [];
  number = ap (λ (n : ℕ). n + 1) s.number ∙ omega (arith, length-append s.whole (line ∷ []));
  right = LeadTo-one s.whole line reached next s.right s.short f;
  parts = ap (λ (l : List ℕ). l ++ 10 ∷ []) s.parts ∙ append_assoc (lines_text s.whole) line (10 ∷ []) ∙ lines_text-one s.whole line [];
  short = (tt, omega arith);
}

-- a line whose end came, and that is refused
pub refused_line : (came : List ℕ) (count : ℕ) (reached : Option State) (line after : List ℕ) (ended lost : Type 0) (e : FileFault) → IsRightSoFar came count reached line
    → Refuses reached line (count + 1) e → IsFaultOf (came ++ (10 ∷ after)) ended lost e
refused_line came count reached line after ended lost (BadLine n) s r = absurd r
refused_line came count reached line after ended lost (BadMove n) s r = record {
  whole = s.whole;
  reached = reached;
  rest = line ++ (10 ∷ after);
  number = r.0 ∙ ap (λ (k : ℕ). k + 1) s.number;
  right = s.right;
  parts = ap (λ (l : List ℕ). l ++ (10 ∷ after)) s.parts ∙ append_assoc (lines_text s.whole) line (10 ∷ after);
  there = inl (omega (arith, length-append line (10 ∷ after)));
  enough = inl (has_feed line after);
  bad = λ other more fits same is. r.1 (subst (IsWellFormed reached) (sym ((same_line line other after more s.short.0 fits.0 same).0)) is);
}
refused_line came count reached line after ended lost (Broken n) s r = record {
  whole = s.whole;
  reached = reached;
  line = line;
  after = after;
  number = r.0 ∙ ap (λ (k : ℕ). k + 1) s.number;
  right = s.right;
  parts = ap (λ (l : List ℕ). l ++ (10 ∷ after)) s.parts ∙ append_assoc (lines_text s.whole) line (10 ∷ after);
  fits = s.short;
  unlawful = r.1;
}
refused_line came count reached line after ended lost Read s r = absurd r
refused_line came count reached line after ended lost Write s r = absurd r
refused_line came count reached line after ended lost Memory s r = tt

-- a line of which 4,096 bytes came with no line feed
pub too_long : (came : List ℕ) (count : ℕ) (reached : Option State) (line piece after : List ℕ) (ended : Type 0) → IsRightSoFar came count reached line
    → NoFeed piece → 4096 ≤ length line + length piece → IsBadMove (came ++ (piece ++ after)) ended (count + 1)
too_long came count reached line piece after ended s clean long = record {
  whole = s.whole;
  reached = reached;
  rest = line ++ (piece ++ after);
  number = ap (λ (k : ℕ). k + 1) s.number;
  right = s.right;
  parts = ap (λ (l : List ℕ). l ++ (piece ++ after)) s.parts ∙ append_assoc (lines_text s.whole) line (piece ++ after);
  there = inl (omega (arith, length-append line (piece ++ after), length-append piece after, long));
  enough = inr (inl (omega (arith, length-append line (piece ++ after), length-append piece after, long)));
  bad = λ other more fits same is.
      let within = no_shorter (line ++ piece) after other more (NoFeed-append line piece s.short.0 clean) (append_assoc line piece after ∙ same) in
      absurd (omega (arith, within, fits.1, length-append line piece, long));
}

-- the end, behind a whole line
pub ends_whole : (came : List ℕ) (count : ℕ) (state : State) → IsRightSoFar came count (Some state) [] → (ms : List Move) × IsRunOf came ms × (count ≡ length ms + 1)
ends_whole came count state s = ends_at s.whole s.number s.right s.parts
  where
    spelled : (ls : List (List ℕ)) (ms : List Move) → Spell ls ms → length ls ≡ length ms
    spelled [] [] p = refl
    spelled [] (m ∷ ms) p = absurd p
    spelled (l ∷ ls) [] p = absurd p
    spelled (l ∷ ls) (m ∷ ms) p = omega (arith, spelled ls ms p.2)

    ends_at : (whole : List (List ℕ)) → count ≡ length whole → LeadTo whole (Some state) → came ≡ lines_text whole ++ [] → (ms : List Move) × IsRunOf came ms × (count ≡ length ms + 1)
    ends_at [] number right parts = absurd right
    ends_at (first ∷ ls) number right parts = (
      right.1,
      record {
        first = first;
        lines = ls;
        objects = right.0;
        state = state;
        parts = parts ∙ append-nil (lines_text (first ∷ ls));
        first_line = right.2;
        first_is = right.3;
        spelled = right.4;
        run = right.5;
      },
      omega (arith, number, spelled ls right.1 right.4),
    )

-- the end, where a line has begun, or where there was none
pub ends_bad : (came : List ℕ) (count : ℕ) (reached : Option State) (line : List ℕ) (ended : Type 0) → IsRightSoFar came count reached line
    → (0 < length line) ⊎ (reached ≡ None) → ended → IsBadMove came ended (count + 1)
ends_bad came count reached line ended s why end = record {
  whole = s.whole;
  reached = reached;
  rest = line;
  number = ap (λ (k : ℕ). k + 1) s.number;
  right = s.right;
  parts = s.parts;
  there = there_by s.whole reached s.right why;
  enough = inr (inr end);
  bad = λ other more fits same is. no_feed_no_line line other more s.short.0 same;
}
  where
    there_by : (whole : List (List ℕ)) (reached : Option State) → LeadTo whole reached → (0 < length line) ⊎ (reached ≡ None) → (0 < length line) ⊎ (whole ≡ [])
    there_by whole reached right (inl some) = inl some
    there_by [] reached right (inr none) = inr refl
    there_by (l ∷ ls) None right (inr none) = absurd right
    there_by (l ∷ ls) (Some s) right (inr none) = absurd (some_none s none)
      where
        some_none : (s : State) → ◌≡◌ {A = Option State} (Some s) None → ⊥
        some_none s e = cc

-- ---- what was fed of some bytes: a front, and the rest is left

pub record Fed (count : ℕ) (reached : Option State) (line bytes : List ℕ) (count' : ℕ) (reached' : Option State) (line' rest : List ℕ) : Type 0 where
  pub seen : List ℕ
  pub parts : bytes ≡ seen ++ rest
  pub stands : (came : List ℕ) → IsRightSoFar came count reached line → IsRightSoFar (came ++ seen) count' reached' line'

-- a piece more, and the line feed behind it
pub Fed-line : (count : ℕ) (reached : Option State) (line bytes : List ℕ) (count' : ℕ) (reached' : Option State) (line' rest piece after : List ℕ) (next : Option State)
    → Fed count reached line bytes count' reached' line' rest → NoFeed piece → rest ≡ piece ++ (10 ∷ after) → length line' + length piece < 4096 → LineLeads reached' (line' ++ piece) next
    → Fed count reached line bytes (count' + 1) next [] after
Fed-line count reached line bytes count' reached' line' rest piece after next f clean cut small follows = record {
  seen = (f.seen ++ piece) ++ 10 ∷ [];
  parts = f.parts ∙ ap (λ (l : List ℕ). f.seen ++ l) cut ∙ sym (append_assoc f.seen piece (10 ∷ after)) ∙ sym (append_assoc (f.seen ++ piece) (10 ∷ []) after);
  stands = λ came s.
      let more = IsRightSoFar-line ((came ++ f.seen) ++ piece) count' reached' next (line' ++ piece) (IsRightSoFar-more (came ++ f.seen) count' reached' line' piece (f.stands came s) clean small) follows in
      subst (λ (l : List ℕ). IsRightSoFar l (count' + 1) next []) (append_assoc (came ++ f.seen) piece (10 ∷ []) ∙ append_assoc came f.seen (piece ++ 10 ∷ []) ∙ ap (λ (l : List ℕ). came ++ l) (sym (append_assoc f.seen piece (10 ∷ [])))) more;
}

-- adding a piece of the rest to the line failed
pub fed_long : (count : ℕ) (reached : Option State) (line bytes : List ℕ) (count' : ℕ) (reached' : Option State) (line' rest piece after : List ℕ) (e : FileFault)
    → Fed count reached line bytes count' reached' line' rest → NoFeed piece → rest ≡ piece ++ after
    → (e ≡ Memory) ⊎ ((e ≡ BadMove (count' + 1)) × (4096 ≤ length line' + length piece))
    → (came : List ℕ) → IsRightSoFar came count reached line → IsFaultOf (came ++ bytes) ⊥ ⊥ e
fed_long count reached line bytes count' reached' line' rest piece after e f clean cut (inl none) came s = subst (IsFaultOf (came ++ bytes) ⊥ ⊥) (sym none) tt
fed_long count reached line bytes count' reached' line' rest piece after e f clean cut (inr long) came s =
    subst (IsFaultOf (came ++ bytes) ⊥ ⊥) (sym long.0)
    (subst (λ (l : List ℕ). IsBadMove l ⊥ (count' + 1)) (append_assoc came f.seen (piece ++ after) ∙ ap (λ (l : List ℕ). came ++ l) (ap (λ (l : List ℕ). f.seen ++ l) (sym cut) ∙ sym f.parts))
    (too_long (came ++ f.seen) count' reached' line' piece after ⊥ (f.stands came s) clean long.1))

-- the line was refused
pub fed_refused : (count : ℕ) (reached : Option State) (line bytes : List ℕ) (count' : ℕ) (reached' : Option State) (line' rest piece after : List ℕ) (e : FileFault)
    → Fed count reached line bytes count' reached' line' rest → NoFeed piece → rest ≡ piece ++ (10 ∷ after) → length line' + length piece < 4096
    → Refuses reached' (line' ++ piece) (count' + 1) e
    → (came : List ℕ) → IsRightSoFar came count reached line → IsFaultOf (came ++ bytes) ⊥ ⊥ e
fed_refused count reached line bytes count' reached' line' rest piece after e f clean cut small r came s =
    subst (λ (l : List ℕ). IsFaultOf l ⊥ ⊥ e)
    (append_assoc (came ++ f.seen) piece (10 ∷ after) ∙ append_assoc came f.seen (piece ++ (10 ∷ after)) ∙ ap (λ (l : List ℕ). came ++ l) (ap (λ (l : List ℕ). f.seen ++ l) (sym cut) ∙ sym f.parts))
    (refused_line ((came ++ f.seen) ++ piece) count' reached' (line' ++ piece) after ⊥ ⊥ e (IsRightSoFar-more (came ++ f.seen) count' reached' line' piece (f.stands came s) clean small) r)

-- the rest was added to the line, or not
pub fed_last : {T : Type 0} (r : Result T FileFault) (count : ℕ) (reached : Option State) (line bytes : List ℕ) (count' : ℕ) (reached' : Option State) (line' rest : List ℕ)
    (count2 : ℕ) (reached2 : Option State) (line2 : List ℕ)
    → Fed count reached line bytes count' reached' line' rest → NoFeed rest
    → OnOk r ((line2 ≡ line' ++ rest) × (count2 ≡ count') × (reached2 ≡ reached')) → OnOk r (length line' + length rest < 4096)
    → IfErr r (λ e. (e ≡ Memory) ⊎ ((e ≡ BadMove (count' + 1)) × (4096 ≤ length line' + length rest)))
    → (came : List ℕ) → IsRightSoFar came count reached line
    → MatchResult r (λ _. IsRightSoFar (came ++ bytes) count2 reached2 line2) (λ e. IsFaultOf (came ++ bytes) ⊥ ⊥ e)
fed_last (Err e) count reached line bytes count' reached' line' rest count2 reached2 line2 f clean ok small fault came s =
    fed_long count reached line bytes count' reached' line' rest rest [] e f clean (sym (append-nil rest)) fault came s
fed_last (Ok x) count reached line bytes count' reached' line' rest count2 reached2 line2 f clean ok small fault came s =
    let more = IsRightSoFar-more (came ++ f.seen) count' reached' line' rest (f.stands came s) clean small in
    let all : (came ++ f.seen) ++ rest ≡ came ++ bytes = append_assoc came f.seen rest ∙ ap (λ (l : List ℕ). came ++ l) (sym f.parts) in
    same_stands ((came ++ f.seen) ++ rest) (came ++ bytes) count' count2 reached' reached2 (line' ++ rest) line2 all (sym ok.1) (sym ok.2) (sym ok.0) more
  where
    same_stands : (a b : List ℕ) (m n : ℕ) (p q : Option State) (k l : List ℕ) → a ≡ b → m ≡ n → p ≡ q → k ≡ l → IsRightSoFar a m p k → IsRightSoFar b n q l
    same_stands a b m n p q k l e f g h s = rw (← e, ← f, ← g, ← h) s

-- ---- the end

pub finish_begun : (came : List ℕ) (count : ℕ) (reached : Option State) (line : List ℕ) → 0 < length line → IsRightSoFar came count reached line → IsBadMove came (Unit {0}) (count + 1)
finish_begun came count reached line some s = ends_bad came count reached line (Unit {0}) s (inl some) tt

pub finish_ok : (came : List ℕ) (count : ℕ) (reached : Option State) (line : List ℕ) → length line ≡ 0 → is_some reached ≡ true → IsRightSoFar came count reached line
    → (ms : List Move) × IsRunOf came ms × (count - 1 ≡ length ms)
finish_ok came count None line none there s = absurd (no_some there)
  where
    no_some : false ≡ true → ⊥
    no_some e = cc
finish_ok came count (Some state) (x ∷ line) none there s = absurd (omega arith)
finish_ok came count (Some state) [] none there s = let p = ends_whole came count state s in (p.0, p.1, omega (arith, p.2))

-- the line was ended by a piece, or not
pub fed_ended : (count : ℕ) (reached : Option State) (line bytes : List ℕ) (count' : ℕ) (reached' : Option State) (line' rest piece after : List ℕ) (e : FileFault)
    → Fed count reached line bytes count' reached' line' rest → NoFeed piece × (rest ≡ piece ++ (10 ∷ after))
    → ((e ≡ Memory) ⊎ ((e ≡ BadMove (count' + 1)) × (4096 ≤ length line' + length piece))) ⊎ ((length line' + length piece < 4096) × Refuses reached' (line' ++ piece) (count' + 1) e)
    → (came : List ℕ) → IsRightSoFar came count reached line → IsFaultOf (came ++ bytes) ⊥ ⊥ e
fed_ended count reached line bytes count' reached' line' rest piece after e f cut (inl long) = fed_long count reached line bytes count' reached' line' rest piece (10 ∷ after) e f cut.0 cut.1 long
fed_ended count reached line bytes count' reached' line' rest piece after e f cut (inr refused) = fed_refused count reached line bytes count' reached' line' rest piece after e f cut.0 cut.1 refused.0 refused.1

pub Fed-ended : (count : ℕ) (reached : Option State) (line bytes : List ℕ) (count' : ℕ) (reached' : Option State) (line' rest piece after : List ℕ) (count2 : ℕ) (next : Option State) (line2 : List ℕ)
    → Fed count reached line bytes count' reached' line' rest → NoFeed piece × (rest ≡ piece ++ (10 ∷ after)) → length line' + length piece < 4096
    → LineLeads reached' (line' ++ piece) next × (count2 ≡ count' + 1) × (line2 ≡ [])
    → Fed count reached line bytes count2 next line2 after
Fed-ended count reached line bytes count' reached' line' rest piece after count2 next line2 f cut small r =
    rw (r.1, r.2) (Fed-line count reached line bytes count' reached' line' rest piece after next f cut.0 cut.1 small r.0)
