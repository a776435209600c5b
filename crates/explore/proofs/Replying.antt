-- The replies that the steps of choices hand out are those that the state behind them has.
use native.Mathlib.Omega.{arith}
use Rattle.std.proofs.Common.{◌≡◌, ◌∙◌, ◌⊎◌, inl, inr, sym, ap, refl, subst, ℕ, zero, suc, ◌+◌, ◌<◌, ◌≤◌, Bool, true, false, if◌then◌else◌, List, [], ◌∷◌, ◌++◌, length, Option, Some, None, append_assoc, append-nil}
use Rattle.std.specs.Prelude.{replicate, slice_get, slice_index_or, slice_set}
use Rattle.std.specs.Option.{option_to_list}
use Rattle.std.proofs.lemmas.Bool.{cases_eq, cases_lt, lt-ltb, ne_eqb}
use Rattle.std.proofs.lemmas.List.{get_or-set_other, get_or-set_same, length-replicate, length-set}
use Rattle.std.proofs.lemmas.Option.{same_Some, slice_get_within}
use Rattle.lock_word.specs.declared.ThreadId.{ThreadId}
use Rattle.fat_monitor.specs.declared.actions.Reply.{Reply}
use Rattle.thread_index.specs.Indices.{IsOneToOne, berth_of, free_berth}
use Rattle.thread_index.proofs.Berths.{IsOneToOne-replicate, IsOneToOne-taken}
use Rattle.step_core.specs.declared.places.Place.TheVariants.{Idle}
use Rattle.step_core.specs.Step.{after_attach, step_of}
use Rattle.step_core.specs.World.{WorldState, opening_world, place_at}
use Rattle.explore.specs.declared.programs.Program.{Program}
use Rattle.explore.specs.declared.programs.Choice.{Choice}
use Rattle.explore.specs.declared.programs.Choice.TheVariants as choice
use Rattle.explore.specs.States.{ProgramState, after, attached, chosen, did_of, end_of, moved, opening, played, played_from, replied, start_of, thread_of, with_reply}
use Rattle.explore.specs.Replies.{is_choice_of, replies_along, replies_of, reply_in, reply_to}
use Rattle.explore.proofs.Finding.{none_leads}
use Rattle.explore.proofs.Busy.{idle_set, is_busy, is_busy_berth, is_busy_place}
use Rattle.explore.proofs.Making.{choice_made, did_made}
use Rattle.explore.proofs.Parts.{ends_before, ends_within, part_none, part_other, part_own, there}
use Rattle.explore.proofs.Serving.{IsReplied, IsServed, MayBe, choice_serves, next_of}

-- The next call of a thread is one of its own, or behind them; it is one of them where the thread is in it. From there on
-- none of them has a reply.
pub record IsOnItsWay (p : Program) (s : ProgramState) (k : ℕ) : Type 0 where
  pub from : start_of p k ≤ next_of s k
  pub busy : is_busy s.world (thread_of k) ≡ true → next_of s k < end_of p k
  pub later : (i : ℕ) → next_of s k ≤ i → i < end_of p k → slice_index_or s.replies i None ≡ None

-- what every state keeps that choices lead to
pub record IsKept (p : Program) (s : ProgramState) : Type 0 where
  pub one : IsOneToOne s.world.berths
  pub long : length s.replies ≡ length p.calls.items
  pub threads : (k : ℕ) → k < length p.starts.items → IsOnItsWay p s k

-- ---- a reply more

-- the state with this world, and this reply to the call at a position, which is the next of thread k
abbrev pub noted : ProgramState → Choice → WorldState → ℕ → ℕ → Reply → ProgramState
noted s c v k n a = record (moved s c v) { nexts = slice_set s.nexts k (n + 1); replies = slice_set s.replies n (Some a) }

pub replied_is : (s : ProgramState) (c : Choice) (v : WorldState) (k n : ℕ) (a : Reply) → slice_get s.nexts k ≡ Some n → n < length s.replies
    → replied (moved s c v) k (Some a) ≡ noted s c v k n a
replied_is s c v k n a has lt =
    ap (with_reply (moved s c v) k a) has
    ∙ ap (λ (b : Bool). if b then noted s c v k n a else moved s c v) (lt-ltb n (length s.replies) lt)

-- a position among the calls of one thread is not among those of another
apart : (p : Program) (j k n : ℕ) → j < length p.starts.items → k < length p.starts.items → (j ≡ k → ⊥) → start_of p k ≤ n → n < end_of p k
    → (n < start_of p j) ⊎ (end_of p j ≤ n)
apart p j k n within there ne from lt = by (cases_lt j k)
  where
    by : (j < k) ⊎ (k ≤ j) → (n < start_of p j) ⊎ (end_of p j ≤ n)
    by (inl less) = let e = ends_before p j k less there in inr (omega (arith, e, from))
    by (inr more) =
        let e = ends_before p k j (omega (arith, more, ne)) within in
        inl (omega (arith, e, lt))

-- a thread is on its way still where another gets a reply, and where it gets one itself
other_way : (p : Program) (s : ProgramState) (c : Choice) (v : WorldState) (k n : ℕ) (a : Reply) (j : ℕ) → IsOnItsWay p s j → (j ≡ k → ⊥)
    → (n < start_of p j) ⊎ (end_of p j ≤ n) → (is_busy v (thread_of j) ≡ true → next_of s j < end_of p j) → IsOnItsWay p (noted s c v k n a) j
other_way p s c v k n a j way ne out busy =
    let next : next_of (noted s c v k n a) j ≡ next_of s j = get_or-set_other s.nexts k j (n + 1) 0 ne in
    record {
      from = (let h = way.from in omega (arith, h, next));
      busy = λ is. (let h = busy is in omega (arith, h, next));
      later = λ i le lt.
          let from = way.from in
          get_or-set_other s.replies n i (Some a) None (λ (same : i ≡ n). by out from same (omega (arith, le, next)) lt)
          ∙ way.later i (omega (arith, le, next)) lt;
    }
  where
    by : {i : ℕ} → (n < start_of p j) ⊎ (end_of p j ≤ n) → start_of p j ≤ next_of s j → i ≡ n → next_of s j ≤ i → i < end_of p j → ⊥
    by (inl less) from same le lt = omega (arith, less, from, same, le)
    by (inr more) from same le lt = omega (arith, more, same, lt)

own_way : (p : Program) (s : ProgramState) (c : Choice) (v : WorldState) (k n : ℕ) (a : Reply) → IsOnItsWay p s k → k < length s.nexts
    → n ≡ next_of s k → is_busy v (thread_of k) ≡ false → IsOnItsWay p (noted s c v k n a) k
own_way p s c v k n a way within is free =
    let next : next_of (noted s c v k n a) k ≡ n + 1 = get_or-set_same s.nexts k (n + 1) 0 within in
    record {
      from = (let h = way.from in omega (arith, h, next, is));
      busy = λ busy. absurd (cc);
      later = λ i le lt.
          get_or-set_other s.replies n i (Some a) None (λ (same : i ≡ n). (omega (arith, same, le, next)))
          ∙ way.later i (omega (arith, le, next, is)) lt;
    }

-- what a choice hands out, by the reply of its step
abbrev pub handed : ℕ → Choice → Option Reply → List Reply
handed k c r = if is_choice_of k c then option_to_list r else []

handed_none : (k : ℕ) (c : Choice) → handed k c None ≡ []
handed_none k c = by (is_choice_of k c)
  where
    by : (b : Bool) → (if b then option_to_list {X = Reply} None else []) ≡ []
    by true = refl
    by false = refl

handed_own : (c : Choice) (r : Reply) → is_choice_of (chosen c) c ≡ true → handed (chosen c) c (Some r) ≡ r ∷ []
handed_own c r is = ap (λ (b : Bool). if b then option_to_list (Some r) else []) is

handed_other : (k : ℕ) (c : Choice) (r : Option Reply) → (k ≡ chosen c → ⊥) → handed k c r ≡ []
handed_other k c r ne = ap (λ (b : Bool). if b then option_to_list r else []) (by c ne)
  where
    by : (c : Choice) → (k ≡ chosen c → ⊥) → is_choice_of k c ≡ false
    by (choice.Begin j) ne = ne_eqb j k (λ e. ne (sym e))
    by (choice.Go j) ne = ne_eqb j k (λ e. ne (sym e))
    by (choice.Expire j) ne = ne_eqb j k (λ e. ne (sym e))
    by (choice.Spurious j) ne = ne_eqb j k (λ e. ne (sym e))
    by choice.Tick ne = refl

-- nothing is handed out to a thread, and it has the replies that it had
nothing_more : (p : Program) (s t : ProgramState) (k : ℕ) (rs : List Reply) → replies_of p t k ≡ replies_of p s k → rs ≡ []
    → replies_of p t k ≡ replies_of p s k ++ rs
nothing_more p s t k rs same none = same ∙ sym (append-nil (replies_of p s k)) ∙ ap (λ (xs : List Reply). replies_of p s k ++ xs) (sym none)

-- The state behind a choice whose step has this reply, if any: it is kept too, and has what was handed out behind the
-- replies before.
pub record IsNext (p : Program) (s t : ProgramState) (c : Choice) (r : Option Reply) : Type 0 where
  pub kept : IsKept p t
  pub replies : (k : ℕ) → k < length p.starts.items → replies_of p t k ≡ replies_of p s k ++ handed k c r

has_next : (p : Program) (s : ProgramState) (k : ℕ) → IsOnItsWay p s k → MayBe p s k → next_of s k < end_of p k
has_next p s k way (inl before) = way.busy before
has_next p s k way (inr begun) = begun

module _ (p : Program) (s : ProgramState) (c : Choice) (v : WorldState) (kept : IsKept p s) where
  -- where there is no reply nobody goes on to its next call
  silent : IsServed p s c v None → IsNext p s (moved s c v) c None
  silent serves = record {
    kept = record { one = serves.one; long = kept.long; threads = threads };
    replies = λ j within. nothing_more p s (moved s c v) j (handed j c None) refl (handed_none j c);
  }
    where
      threads : (j : ℕ) → j < length p.starts.items → IsOnItsWay p (moved s c v) j
      threads j within =
          let way = kept.threads j within in
          record { from = way.from; busy = λ busy. has_next p s j way (serves.began j busy); later = way.later }

  module _ (a : Reply) (serves : IsServed p s c v (Some a)) where
    abbrev me : ℕ
    me = chosen c

    abbrev here : ℕ
    here = next_of s me

    abbrev then_on : ProgramState
    then_on = noted s c v me here a

    now : IsReplied p s c v
    now = serves.over a refl

    my_way : IsOnItsWay p s me
    my_way = kept.threads me now.within

    mine : here < end_of p me
    mine = my_way.busy now.was

    others : (j : ℕ) → j < length p.starts.items → (j ≡ me → ⊥) → (here < start_of p j) ⊎ (end_of p j ≤ here)
    others j within ne = apart p j me here within now.within ne my_way.from mine

    here_within : here < length s.replies
    here_within = let last = ends_within p me in let long = kept.long in let lt = mine in omega (arith, lt, last, long)

    threads_on : (j : ℕ) → j < length p.starts.items → (j ≡ me) ⊎ (j ≡ me → ⊥) → IsOnItsWay p then_on j
    threads_on j within (inl same) =
        subst (λ (i : ℕ). IsOnItsWay p then_on i) (sym same) (own_way p s c v me here a my_way (slice_get_within s.nexts me here now.has) refl now.free)
    threads_on j within (inr ne) =
        let way = kept.threads j within in
        other_way p s c v me here a j way ne (others j within ne) (λ busy. has_next p s j way (serves.began j busy))

    my_replies : replies_of p then_on me ≡ replies_of p s me ++ handed me c (Some a)
    my_replies =
        let last = ends_within p me in
        let long = kept.long in
        part_own s.replies (start_of p me) (end_of p me) here a my_way.from mine (omega (arith, last, long)) my_way.later
        ∙ ap (λ (rs : List Reply). replies_of p s me ++ rs) (sym (handed_own c a now.own))

    replies_more : (j : ℕ) → j < length p.starts.items → (j ≡ me) ⊎ (j ≡ me → ⊥)
        → replies_of p then_on j ≡ replies_of p s j ++ handed j c (Some a)
    replies_more j within (inl same) = subst (λ (i : ℕ). replies_of p then_on i ≡ replies_of p s i ++ handed i c (Some a)) (sym same) my_replies
    replies_more j within (inr ne) =
        nothing_more p s then_on j (handed j c (Some a)) (ap there (part_other s.replies (start_of p j) (end_of p j) here (Some a) (others j within ne)))
        (handed_other j c (Some a) ne)

    -- where there is one it is put behind those of its thread, which goes on to its next call
    replying : IsNext p s (replied (moved s c v) me (Some a)) c (Some a)
    replying = subst (λ (t : ProgramState). IsNext p s t c (Some a)) (sym (replied_is s c v me here a now.has here_within)) (record {
      kept = record {
        one = serves.one;
        long = length-set s.replies here (Some a) ∙ kept.long;
        threads = λ j within. threads_on j within (cases_eq j me);
      };
      replies = λ j within. replies_more j within (cases_eq j me);
    })

  next_with : (r : Option Reply) → IsServed p s c v r → IsNext p s (replied (moved s c v) (chosen c) r) c r
  next_with None serves = silent serves
  next_with (Some a) serves = replying a serves

pub next_state : (p : Program) (s t : ProgramState) (c : Choice) → IsKept p s → after p s c ≡ Some t → IsNext p s t c (reply_in (did_of p s c))
next_state p s t c kept h =
    let m = choice_made p s t c h in
    let next = next_with p s c (step_of true s.world m.made).after kept m.did.reply (choice_serves p s t c m kept.one) in
    subst (λ (r : Option Reply). IsNext p s t c r) (sym (ap reply_in (did_made p s t c m)))
    (subst (λ (u : ProgramState). IsNext p s u c m.did.reply) m.leads next)

-- ---- from a state on

replies_on : (p : Program) (cs : List Choice) (s t : ProgramState) (k : ℕ) → IsKept p s → k < length p.starts.items
    → played_from p cs (Some s) ≡ Some t → replies_of p s k ++ replies_along p (Some s) cs k ≡ replies_of p t k
replies_on p [] s t k kept within h = append-nil (replies_of p s k) ∙ ap (λ (u : ProgramState). replies_of p u k) (same_Some s t h)
replies_on p (c ∷ cs) s t k kept within h = by (after p s c) refl h (λ u kept g. replies_on p cs u t k kept within g)
  where
    by : (o : Option ProgramState) → after p s c ≡ o → played_from p cs o ≡ Some t
        → ((u : ProgramState) → IsKept p u → played_from p cs (Some u) ≡ Some t
        → replies_of p u k ++ replies_along p (Some u) cs k ≡ replies_of p t k)
        → replies_of p s k ++ replies_along p (Some s) (c ∷ cs) k ≡ replies_of p t k
    by None is g rest = absurd (none_leads p cs t g)
    by (Some u) is g rest =
        let next = next_state p s u c kept is in
        let these : List Reply = reply_to k c (did_of p s c) in
        ap (λ (o : Option ProgramState). replies_of p s k ++ (these ++ replies_along p o cs k)) is
        ∙ sym (append_assoc (replies_of p s k) these (replies_along p (Some u) cs k))
        ∙ ap (λ (rs : List Reply). rs ++ replies_along p (Some u) cs k) (sym (next.replies k within))
        ∙ rest u next.kept g

-- ---- where a program begins

same_everywhere : {A : Type 0} (n k : ℕ) (a : A) → slice_index_or (replicate n a) k a ≡ a
same_everywhere zero k a = refl
same_everywhere (suc n) zero a = refl
same_everywhere (suc n) (suc k) a = same_everywhere n k a

-- nobody is busy
pub record IsFresh (w : WorldState) : Type 0 where
  pub one : IsOneToOne w.berths
  pub idle : (k : ℕ) → place_at w k ≡ Idle

fresh_next : (w : WorldState) (t : ThreadId) (b f : Option ℕ) → berth_of w.berths t ≡ b → free_berth w.berths ≡ f → IsFresh w
    → IsFresh (after_attach true w t b f).after
fresh_next w t (Some k) f at free fresh = fresh
fresh_next w t None None at free fresh = fresh
fresh_next w t None (Some k) at free fresh = record {
  one = IsOneToOne-taken w.berths t k fresh.one at free;
  idle = λ j. by j (cases_eq j k);
}
  where
    by : (j : ℕ) → (j ≡ k) ⊎ (j ≡ k → ⊥) → slice_index_or (slice_set w.places k Idle) j Idle ≡ Idle
    by j (inl same) = ap (λ (i : ℕ). slice_index_or (slice_set w.places k Idle) i Idle) same ∙ idle_set w.places k
    by j (inr ne) = get_or-set_other w.places k j Idle Idle ne ∙ fresh.idle j

fresh_attached : (w : WorldState) (n : ℕ) → IsFresh w → IsFresh (attached w n)
fresh_attached w zero fresh = fresh
fresh_attached w (suc n) fresh =
    let v : WorldState = attached w n in
    fresh_next v (thread_of n) (berth_of v.berths (thread_of n)) (free_berth v.berths) refl refl (fresh_attached w n fresh)

pub fresh_opening : (p : Program) → IsFresh (opening p).world
fresh_opening p = fresh_attached (opening_world p.lows.items p.monitors p.indices p.split) (length p.starts.items) (record {
  one = IsOneToOne-replicate p.indices;
  idle = λ k. same_everywhere p.indices k Idle;
})

pub not_busy : (w : WorldState) (t : ThreadId) → IsFresh w → is_busy w t ≡ false
not_busy w t fresh = by (berth_of w.berths t)
  where
    by : (o : Option ℕ) → is_busy_berth w.places o ≡ false
    by None = refl
    by (Some k) = ap is_busy_place (fresh.idle k)

pub kept_opening : (p : Program) → IsKept p (opening p)
kept_opening p = record {
  one = (fresh_opening p).one;
  long = length-replicate (length p.calls.items) None;
  threads = λ k within. record {
    from = omega arith;
    busy = λ is. absurd (let free = not_busy (opening p).world (thread_of k) (fresh_opening p) in cc);
    later = λ i le lt. same_everywhere (length p.calls.items) i None;
  };
}

-- The replies that choices hand out from there on are those of the state behind them.
pub play_replies : (p : Program) (cs : List Choice) (s : ProgramState) (k : ℕ) → played p cs ≡ Some s → k < length p.starts.items
    → replies_along p (Some (opening p)) cs k ≡ replies_of p s k
play_replies p cs s k h within =
    let none : replies_of p (opening p) k ≡ [] =
    part_none (opening p).replies (start_of p k) (end_of p k) (λ i. same_everywhere (length p.calls.items) i None) in
    ap (λ (rs : List Reply). rs ++ replies_along p (Some (opening p)) cs k) (sym none) ∙ replies_on p cs (opening p) s k (kept_opening p) within h
