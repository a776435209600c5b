use Rattle.std.specs.Prelude.{◌≡◌, ℕ, Some, false, if◌then◌else◌, nat_eq}
use Rattle.fat_monitor.specs.FatState.{wait_count}
use Rattle.fat_monitor.specs.Slots.{Posted, posts_in, posted_in, with_thread_posted}
use Rattle.fat_monitor.proofs.WaitCounts.{wait_count-new}
use Rattle.std.proofs.Common.{refl, sym, ap, ◌∙◌, subst}
use Rattle.std.specs.Map.{lookup}
use Rattle.fat_monitor.specs.declared.actions.Post.TheVariants.{Out}
use Rattle.fat_monitor.specs.declared.posts.Record.{Record}
use Rattle.fat_monitor.proofs.PostMaps.{valued, unvalued, keyless, not_posted, posted_in-put, LeadToRecords-put, HaveKeys-put}
use Rattle.fat_monitor.proofs.posts.Posts.add.Goals as goal

pub returns-then-contains_key-clause-known : goal.returns-then-contains_key-clause-known
returns-then-contains_key-clause-known c =
    ((λ _. rw (← c.self.view_is) (valued (λ r. r.post) Out c.self.inside.records c.self.inside.keys.entries c.args.thread.0 (sym c.contains_key.ensures ∙ c.if-contains_key.true))), (λ _. refl))

pub returns-in_default-clause-known : goal.returns-in_default-clause-known
returns-in_default-clause-known c =
    ((λ e. absurd (cc)), (λ h. absurd (not_posted c.self.inside.records c.self.inside.keys.entries c.args.thread.0 (sym c.contains_key.ensures ∙ c.if-contains_key.false) (rw (← c.self.view_is) at h))))

pub returns-in_default-insert-clause-known : goal.returns-in_default-insert-clause-known
returns-in_default-insert-clause-known c =
    ((λ e. absurd (cc)), (λ h. absurd (not_posted c.self.inside.records c.self.inside.keys.entries c.args.thread.0 (sym c.contains_key.ensures ∙ c.if-contains_key.false) (rw (← c.self.view_is) at h))))

-- the new key leads to the new record
led : (c : goal.After-note) → (q : ℕ) → lookup (nat_eq q) c.insert.new.self.entries ≡ (if nat_eq c.args.thread.0 q then Some c.insert_reserved.result else lookup (nat_eq q) c.self.inside.keys.entries)
led c =
    let key : c.vacant_key-key.result ≡ c.insert_reserved.result = c.vacant_key-key.ensures.value ∙ sym c.insert_reserved.ensures.key in
    subst (λ (k : ℕ). (q : ℕ) → lookup (nat_eq q) c.insert.new.self.entries ≡ (if nat_eq c.args.thread.0 q then Some k else lookup (nat_eq q) c.self.inside.keys.entries)) key c.in-Ok-insert.ensures.updates.0

-- what is shown now
shown : (c : goal.After-note) → posted_in c.insert_reserved.new.self c.insert.new.self.entries ≡ with_thread_posted (posted_in c.self.inside.records c.self.inside.keys.entries) c.args.thread
shown c =
    posted_in-put c.reserve.new.self c.insert_reserved.new.self c.self.inside.keys.entries c.insert.new.self.entries c.args.thread.0 c.insert_reserved.result
    (record { thread = c.args.thread; post = Out; node = record { 0 = 0 }; flag = false; owned = 0 })
    (rw (c.in-Ok.ensures.rest_kept) c.self.invariant.0) c.insert_reserved.ensures.was_vacant c.insert_reserved.ensures.updates (led c)
    ∙ rw (c.in-Ok.ensures.rest_kept) refl

pub invariant_of-self-2 : goal.invariant_of-self-2
invariant_of-self-2 c =
    let new : Record = record { thread = c.args.thread; post = Out; node = record { 0 = 0 }; flag = false; owned = 0 } in
    let keys = c.self.inside.keys.entries in (
      LeadToRecords-put c.reserve.new.self c.insert_reserved.new.self keys c.insert.new.self.entries c.args.thread.0 c.insert_reserved.result new
          (rw (c.in-Ok.ensures.rest_kept) c.self.invariant.0) c.insert_reserved.ensures.was_vacant c.insert_reserved.ensures.updates (led c) refl,
      HaveKeys-put c.reserve.new.self c.insert_reserved.new.self keys c.insert.new.self.entries c.args.thread.0 c.insert_reserved.result new
          (rw (c.in-Ok.ensures.rest_kept) c.self.invariant.1) (keyless (lookup (nat_eq c.args.thread.0) keys) (sym c.contains_key.ensures ∙ c.if-contains_key.false)) c.insert_reserved.ensures.updates (led c) refl,
      c.self.invariant.2
          ∙ sym (wait_count-new (posts_in c.self.inside.records keys) c.args.thread.0 (unvalued (λ r. r.post) Out c.self.inside.records keys c.args.thread.0 (sym c.contains_key.ensures ∙ c.if-contains_key.false)))
          ∙ sym (ap (λ (p : Posted). wait_count p.posts) (shown c)),
    )

pub returns-clause-ok : goal.returns-clause-ok
returns-clause-ok c = rw (← c.self.view_is) (shown c)

pub returns-clause-fresh : goal.returns-clause-fresh
returns-clause-fresh c = rw (← c.self.view_is) (unvalued (λ r. r.post) Out c.self.inside.records c.self.inside.keys.entries c.args.thread.0 (sym c.contains_key.ensures ∙ c.if-contains_key.false))

pub returns-clause-flagless : goal.returns-clause-flagless
returns-clause-flagless c = rw (← c.self.view_is) (unvalued (λ r. r.flag) false c.self.inside.records c.self.inside.keys.entries c.args.thread.0 (sym c.contains_key.ensures ∙ c.if-contains_key.false))

pub returns-clause-uncounted : goal.returns-clause-uncounted
returns-clause-uncounted c = rw (← c.self.view_is) (unvalued (λ r. r.owned) 0 c.self.inside.records c.self.inside.keys.entries c.args.thread.0 (sym c.contains_key.ensures ∙ c.if-contains_key.false))

pub returns-clause-nodeless : goal.returns-clause-nodeless
returns-clause-nodeless c = rw (← c.self.view_is) (unvalued (λ r. r.node.0) 0 c.self.inside.records c.self.inside.keys.entries c.args.thread.0 (sym c.contains_key.ensures ∙ c.if-contains_key.false))

pub returns-clause-known : goal.returns-clause-known
returns-clause-known c =
    ((λ e. absurd (cc)), (λ h. absurd (not_posted c.self.inside.records c.self.inside.keys.entries c.args.thread.0 (sym c.contains_key.ensures ∙ c.if-contains_key.false) (rw (← c.self.view_is) at h))))

pub returns-in_default-clause-err : goal.returns-in_default-clause-err
returns-in_default-clause-err c = let h = c.reserve.ensures.rest_kept in rw (← c.self.view_is, h) refl

pub returns-in_default-insert-clause-err : goal.returns-in_default-insert-clause-err
returns-in_default-insert-clause-err c = let h = c.reserve.ensures.rest_kept in rw (← c.self.view_is, h, c.in_default-insert.ensures.err) refl
