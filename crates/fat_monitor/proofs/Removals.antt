-- A thread that leaves its wait set joins the entry line, and a monitor that nobody owns is handed on to it.
use Rattle.std.specs.Prelude.{◌≡◌, ℕ, true, Bool, not, cond, List, [], ◌∷◌, ◌++◌, slice_get, Contains, Option, Some, None}
use Rattle.std.specs.Option.{unwrap_or}
use Rattle.std.specs.Ordering.{nat_cmp}
use Rattle.std.specs.FinMap as map
use Rattle.std.proofs.Common.{refl, sym, ap, ◌∙◌}
use Rattle.lock_word.specs.declared.ThreadId.{ThreadId}
use Rattle.wait_lines.specs.declared.Role.TheVariants.{Entry, Waiting as WaitSet}
use Rattle.wait_lines.specs.Lines.{LineMap, line, with_line, without, after_join, after_leave}
use Rattle.wait_lines.proofs.LineLemmas.{key-other_role, line-with_line_same, line-with_line_other, with_line-with_line, with_line-line, IsFilled-with_line}
use Rattle.wait_lines.proofs.ThreadLemmas.{is_same, Contains-cons_first}
use Rattle.fat_monitor.specs.declared.actions.Post.{Post}
use Rattle.fat_monitor.specs.declared.actions.Post.TheVariants.{Out, Waiting, Back, Granted}
use Rattle.fat_monitor.specs.declared.actions.Why.{Why}
use Rattle.fat_monitor.specs.declared.actions.Why.TheVariants as why
use Rattle.fat_monitor.specs.FatState.{FatState, IsSound, monitor_at, post_of, post_at, first_of, with_flag}
use Rattle.fat_monitor.specs.Acting.{after_removal, granted_by_removal, after_rejoining, after_grant, after_hand_on, after_hand_on_if_free, next_if_free, after_sending_back, granted_if_free, reply_granted}
use Rattle.fat_monitor.proofs.SoundCounts.{insert_twice}
use Rattle.fat_monitor.proofs.SoundSteps.{IsSound-flags}
use Rattle.fat_monitor.proofs.SoundGrants.{after_grant-is, flags_after_grant, after_grant_with}
use Rattle.fat_monitor.proofs.LineEffects.{post-with_post_same}

-- a list that contains nobody is empty
pub nobody_in : (ts : List ThreadId) → ((t : ThreadId) → Contains ts t → ⊥) → ts ≡ []
nobody_in [] absent = refl
nobody_in (t ∷ ts) absent = absurd (absent t (Contains-cons_first t ts t refl))

-- a thread that was alone in a list leaves none there
none_left : (u : ThreadId) → without u (u ∷ []) ≡ []
none_left u = ap (λ b. cond (not b) (u ∷ []) []) (is_same u u refl)

module _ (f : FatState) (u : ThreadId) (m n : ℕ) (sound : IsSound f) (free : (monitor_at f m).owner ≡ None) where
  abbrev lines : LineMap
  lines = after_leave f.standing.lines u m WaitSet

  -- nobody stands in the entry line of a monitor that nobody owns
  no_line : line lines m Entry ≡ []
  no_line =
      line-with_line_other f.standing.lines m m WaitSet Entry (without u (line f.standing.lines m WaitSet)) (key-other_role m m WaitSet Entry (λ e. cc))
      ∙ nobody_in (line f.standing.lines m Entry) (λ t h. let owned = sound.behind t m h in cc)

  -- so whoever joins it is alone in it, and when it leaves, the lines are as before
  alone : line (after_join lines u m Entry) m Entry ≡ u ∷ []
  alone = line-with_line_same lines m Entry (line lines m Entry ++ u ∷ []) ∙ ap (λ ts. ts ++ u ∷ []) no_line

  left_again : after_leave (after_join lines u m Entry) u m Entry ≡ lines
  left_again =
      with_line-with_line lines m Entry (line lines m Entry ++ u ∷ []) (without u (line (after_join lines u m Entry) m Entry))
      ∙ ap (λ ts. with_line lines m Entry ts) (ap (λ ts. without u ts) alone ∙ none_left u ∙ sym no_line)
      ∙ with_line-line lines m Entry (IsFilled-with_line f.standing.lines m WaitSet (without u (line f.standing.lines m WaitSet)) sound.orderly.filled)

  -- the grant of what is to be the thread's post, where it stands in the entry line and where it still waits
  abbrev after_grant_over : Post → map.FinMap nat_cmp Post → LineMap → map.FinMap nat_cmp Bool → FatState
  after_grant_over p threads ls flags = record (after_grant_with f m u p WaitSet flags) { threads = threads; standing = record f.standing { lines = ls } }

  same_flags : (w : Why) → flags_after_grant (after_rejoining f u m (Back m n w)) u (Back m n w) ≡ flags_after_grant f u (Back m n w)
  same_flags why.Notified = refl
  same_flags why.Interrupted = refl
  same_flags why.Elapsed = refl
  same_flags why.Spurious = refl

  grant_after_rejoining : (w : Why) → after_grant (after_rejoining f u m (Back m n w)) m u (Back m n w) Entry ≡ after_grant f m u (Back m n w) WaitSet
  grant_after_rejoining w =
      after_grant-is (after_rejoining f u m back) m u back Entry
      ∙ ap (λ threads. after_grant_over back threads (after_leave (after_join lines u m Entry) u m Entry) (flags_after_grant (after_rejoining f u m back) u back)) (insert_twice f.threads u.0 back (Granted (reply_granted back)))
      ∙ ap (λ ls. after_grant_over back (map.insert f.threads u.0 (Granted (reply_granted back))) ls (flags_after_grant (after_rejoining f u m back) u back)) left_again
      ∙ ap (λ flags. after_grant_with f m u back WaitSet flags) (same_flags w) ∙ sym (after_grant-is f m u back WaitSet)
    where
      back : Post
      back = Back m n w

  -- the thread is first in the entry line then, and has its post
  next_after_rejoining : (w : Why) → first_of (after_rejoining f u m (Back m n w)) m Entry ≡ Some u
  next_after_rejoining w = ap (λ ts. slice_get ts 0) alone

  post_after_rejoining : (w : Why) → post_at (after_rejoining f u m (Back m n w)) u ≡ Back m n w
  post_after_rejoining w = ap (λ o. unwrap_or o Out) (post-with_post_same f u (Back m n w))

  hand_on_after_rejoining : (w : Why) → after_grant f m u (Back m n w) WaitSet ≡ after_hand_on (after_rejoining f u m (Back m n w)) m (first_of (after_rejoining f u m (Back m n w)) m Entry)
  hand_on_after_rejoining w =
      sym (grant_after_rejoining w) ∙ ap (λ p. after_grant (after_rejoining f u m (Back m n w)) m u p Entry) (sym (post_after_rejoining w))
      ∙ ap (λ o. after_hand_on (after_rejoining f u m (Back m n w)) m o) (sym (next_after_rejoining w))

-- the law of removal
pub removed_rejoins : (f : FatState) (u : ThreadId) (m n : ℕ) (d : Option ℕ) (w : Why) → IsSound f → post_of f u ≡ Some (Waiting m n d) → after_removal f u w (Waiting m n d) ≡ after_hand_on_if_free (after_rejoining f u m (Back m n w)) m (monitor_at f m).owner
removed_rejoins f u m n d w sound here = by_owner (monitor_at f m).owner refl
  where
    by_owner : (o : Option ThreadId) → (monitor_at f m).owner ≡ o → after_sending_back f u m (Back m n w) o ≡ after_hand_on_if_free (after_rejoining f u m (Back m n w)) m o
    by_owner None free = hand_on_after_rejoining f u m n sound free w
    by_owner (Some v) owned = refl

pub interrupted_rejoins : (f : FatState) (u : ThreadId) (m n : ℕ) (d : Option ℕ) → IsSound f → post_of f u ≡ Some (Waiting m n d) → after_removal (with_flag f u true) u why.Interrupted (Waiting m n d) ≡ after_hand_on_if_free (after_rejoining (with_flag f u true) u m (Back m n why.Interrupted)) m (monitor_at f m).owner
interrupted_rejoins f u m n d sound here =
    removed_rejoins (with_flag f u true) u m n d why.Interrupted (IsSound-flags f (map.insert f.flags u.0 true) sound) here

pub served_next : (f : FatState) (u : ThreadId) (m n : ℕ) (d : Option ℕ) (w : Why) → IsSound f → post_of f u ≡ Some (Waiting m n d) → granted_by_removal f u (Waiting m n d) ≡ next_if_free (after_rejoining f u m (Back m n w)) m (monitor_at f m).owner
served_next f u m n d w sound here = by_owner (monitor_at f m).owner refl
  where
    by_owner : (o : Option ThreadId) → (monitor_at f m).owner ≡ o → granted_if_free u o ≡ next_if_free (after_rejoining f u m (Back m n w)) m o
    by_owner None free = sym (next_after_rejoining f u m n sound free w)
    by_owner (Some v) owned = refl
