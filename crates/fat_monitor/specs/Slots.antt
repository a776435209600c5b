-- The records of attached threads: what slots and keys show.
use Rattle.std.specs.Prelude.{◌≡◌, ℕ, ◌+◌, ◌-◌, Bool, false, List, Option, Some, None, nat_eq, map as list_map}
use Rattle.std.specs.Option.{unwrap_or}
use Rattle.std.specs.Map.{lookup}
use Rattle.std.specs.Ordering.{nat_cmp}
use Rattle.std.specs.FinMap as map
use Rattle.lock_word.specs.declared.ThreadId.{ThreadId}
use Rattle.slab.specs.Slab.{Slab, get}
use Rattle.fat_monitor.specs.declared.actions.Post.{Post}
use Rattle.fat_monitor.specs.declared.actions.Post.TheVariants.{Out}
use Rattle.fat_monitor.specs.declared.posts.Record.{Record}

-- the posts, the nodes and the interrupt flags of the attached threads, and how many monitors each owns, by the
-- thread's number
pub record Posted : Type 0 where
  pub posts : map.FinMap nat_cmp Post
  pub nodes : map.FinMap nat_cmp ℕ
  pub flags : map.FinMap nat_cmp Bool
  pub owned : map.FinMap nat_cmp ℕ

abbrev pub nobody_posted : Posted
nobody_posted = record { posts = map.empty; nodes = map.empty; flags = map.empty; owned = map.empty }

-- the same, with one thread more, which is out and not interrupted, and without a thread
abbrev pub with_thread_posted : Posted → ThreadId → Posted
with_thread_posted p t = record {
  posts = map.insert p.posts t.0 Out;
  nodes = map.insert p.nodes t.0 0;
  flags = map.insert p.flags t.0 false;
  owned = map.insert p.owned t.0 0;
}

abbrev pub without_thread_posted : Posted → ThreadId → Posted
without_thread_posted p t = record {
  posts = map.remove p.posts t.0;
  nodes = map.remove p.nodes t.0;
  flags = map.remove p.flags t.0;
  owned = map.remove p.owned t.0;
}

-- the same, with this post of a thread, which stands at this node
abbrev pub with_parked : Posted → ThreadId → Post → ℕ → Posted
with_parked p t post n = record p { posts = map.insert p.posts t.0 post; nodes = map.insert p.nodes t.0 n }

-- how many monitors a thread owns, by these counts; none where it is not attached
abbrev pub count_of : map.FinMap nat_cmp ℕ → ThreadId → ℕ
count_of counts t = unwrap_or (map.get counts t.0) 0

-- the counts with one monitor less of this owner, if there is one, and with one more
abbrev pub one_less : map.FinMap nat_cmp ℕ → Option ThreadId → map.FinMap nat_cmp ℕ
one_less counts None = counts
one_less counts (Some t) = map.insert counts t.0 (count_of counts t - 1)

abbrev pub one_more : map.FinMap nat_cmp ℕ → Option ThreadId → map.FinMap nat_cmp ℕ
one_more counts None = counts
one_more counts (Some t) = map.insert counts t.0 (count_of counts t + 1)

-- the counts after a monitor went from one owner to another
abbrev pub handed_over : map.FinMap nat_cmp ℕ → Option ThreadId → Option ThreadId → map.FinMap nat_cmp ℕ
handed_over counts from to = one_more (one_less counts from) to

-- what is read of the record in a slot, or this where there is none
abbrev pub value_in : {X : Type 0} → (Record → X) → X → Option Record → X
value_in read none None = none
value_in read none (Some r) = read r

-- what is read of the records of the threads with these keys
abbrev pub values_of : {X : Type 0} → (Record → X) → X → Slab Record → List (ℕ × ℕ) → map.FinMap nat_cmp X
values_of read none records keys = map.from_entries (list_map (λ e. (e.0, value_in read none (get records e.1))) keys)

abbrev pub posted_in : Slab Record → List (ℕ × ℕ) → Posted
posted_in records keys = record {
  posts = values_of (λ r. r.post) Out records keys;
  nodes = values_of (λ r. r.node.0) 0 records keys;
  flags = values_of (λ r. r.flag) false records keys;
  owned = values_of (λ r. r.owned) 0 records keys;
}

-- the posts that slots and keys show
abbrev pub posts_in : Slab Record → List (ℕ × ℕ) → map.FinMap nat_cmp Post
posts_in records keys = values_of (λ r. r.post) Out records keys

-- the slot of this key has the record of the thread with this number
abbrev pub LeadsTo : Slab Record → ℕ → ℕ → Type 0
LeadsTo records t k = (r : Record) × (get records k ≡ Some r) × (r.thread.0 ≡ t)

-- each key leads to the record of its thread
abbrev pub LeadToRecords : Slab Record → List (ℕ × ℕ) → Type 0
LeadToRecords records keys = (t k : ℕ) → lookup (nat_eq t) keys ≡ Some k → LeadsTo records t k

-- each record has the key of its thread
abbrev pub HaveKeys : Slab Record → List (ℕ × ℕ) → Type 0
HaveKeys records keys = (k : ℕ) (r : Record) → get records k ≡ Some r → lookup (nat_eq r.thread.0) keys ≡ Some k

-- each of these records is written over one of its thread, in the slot of its key, and no other slot has changed
pub record AreWrittenOver (records old new : Slab Record) : Type 0 where
  pub led : (k : ℕ) (r : Record) → get records k ≡ Some r → LeadsTo old r.thread.0 k
  pub written : (k : ℕ) (r : Record) → get records k ≡ Some r → get new k ≡ Some r
  pub others : (k : ℕ) → get records k ≡ None → get new k ≡ get old k
