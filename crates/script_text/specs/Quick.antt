-- A line, or the call at its end, as it is written; and bytes that begin with one.
use Rattle.std.specs.Prelude.{◌≡◌, ℕ, List, ◌∷◌, ◌++◌}
use Rattle.std.specs.List.{join_with_byte}
use Rattle.script_text.specs.declared.lines.Line.{Line}
use Rattle.script_text.specs.declared.lines.Call.{Call}
use Rattle.script_text.specs.Lines.{CallFits, Fits, call_words, line_text}

-- the bytes are the text of this line
pub record SaysLine (bytes : List ℕ) (l : Line) : Type 0 where
  pub text : bytes ≡ line_text l
  pub fits : Fits l

-- the bytes are the words of this call
pub record SaysCall (bytes : List ℕ) (c : Call) : Type 0 where
  pub text : bytes ≡ join_with_byte 32 (call_words c)
  pub fits : CallFits c

-- the bytes begin with the text of this line and its line feed, and this is behind it
pub record BeginsWithLine (bytes : List ℕ) (l : Line) (after : List ℕ) : Type 0 where
  pub text : bytes ≡ line_text l ++ 10 ∷ after
  pub fits : Fits l

-- the same of the words of a call
pub record BeginsWithCall (bytes : List ℕ) (c : Call) (after : List ℕ) : Type 0 where
  pub text : bytes ≡ join_with_byte 32 (call_words c) ++ 10 ∷ after
  pub fits : CallFits c
