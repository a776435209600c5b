use Rattle.std.proofs.Common.{◌≡◌, ◌⊎◌, ◌≤◌, ◌-◌, ℕ, false, sym, ap, subst, ◌∙◌, ◌<◌, suc, length, inr, arith}
use Rattle.std.proofs.lemmas.Bool.{eqb-false}
use Rattle.std.proofs.lemmas.List.{get_or_read}
use Rattle.wait_lines.specs.declared.links.Stop.{Stop}
use Rattle.wait_lines.specs.declared.links.Stop.TheVariants.{End}
use Rattle.wait_lines.specs.Links.{chart, node, unused, behind_of, ends_at, is_of, IsThere}
use Rattle.wait_lines.specs.Rows.{nodes_from, rows_of, times_number}
use Rattle.wait_lines.specs.Tables.{TableState, bucket_of, IsInRow}
use Rattle.wait_lines.proofs.LinkLemmas.{there-behind}
use Rattle.wait_lines.proofs.TableLemmas.{row-read, StillToCome-step, StillToCome-none, none_from}
use Rattle.wait_lines.proofs.table.Table.find.Goals as goal

pub loop-left-init : goal.loop-left-init
loop-left-init c =
    let d = chart c.self.inside.rows in
    let b = bucket_of c.self.inside.buckets c.args.monitor c.args.role in
    let same : c.bucket.result ≡ b = c.bucket.ensures.value ∙ ap (λ (t : TableState). bucket_of t.buckets c.args.monitor c.args.role) (sym c.self.view_is) in
    let some = eqb-false _ 0 (sym c.if-is_empty.ensures) in
    let there : b < length d.ends = omega (arith, same, some, c.bucket.ensures.low, ap (λ (t : TableState). t.buckets) c.self.view_is, c.self.invariant.used) in
    let first : c.behind-next.result ≡ behind_of d (End b) = c.behind-next.ensures ∙ ap (λ (k : ℕ). behind_of d (End k)) same in
    let many : length d.spots ≡ c.len-left.result = omega (arith, c.len-left.ensures) in
    record {
      there = subst (λ (s : Stop). IsThere d s) (sym first) (there-behind d (End b) c.self.invariant.linked.rings there);
      seen = λ k h. inr (subst (λ ns. 1 ≤ times_number k ns)
          (row-read d b there ∙ ap (λ (l : ℕ). nodes_from l (behind_of d) (behind_of d (End b))) many ∙ ap (nodes_from c.len-left.result (behind_of d)) (sym first)) h);
    }

pub returns-in_default : goal.returns-in_default
returns-in_default c =
    record {
      found = tt;
      of = tt;
      none = subst (λ (t : TableState). (k : ℕ) → IsInRow t.rows k (suc (bucket_of t.buckets c.args.monitor c.args.role)) → is_of c.args.monitor c.args.role (ends_at (chart c.args.links.now) k) ≡ false)
          c.self.view_is
          (StillToCome-none (λ k. is_of c.args.monitor c.args.role (ends_at (chart c.args.links.now) k)) (rows_of (chart c.self.inside.rows)) (suc (bucket_of c.self.inside.buckets c.args.monitor c.args.role)) _
          (none_from c.loop-left.left (behind_of (chart c.self.inside.rows)) c.loop-left.next c.in_default.not-At) c.loop-left.invariant.seen);
    }

pub loop-left-preserved : goal.loop-left-preserved
loop-left-preserved c =
    let d = chart c.self.inside.rows in
    let n = c.in-At.line.0 in
    let next : c.behind-next-in-loop-left.result ≡ behind_of d (node n) = c.behind-next-in-loop-left.ensures in
    let here : IsThere d (node n) = subst (λ (s : Stop). IsThere d s) c.in-At.is c.loop-left.invariant.there in
    let within : n < length c.args.links.now.ends.items =
    let low : n < length d.spots = here in omega (arith, low, c.requires.sized, ap (λ (t : TableState). t.size) c.self.view_is) in
    let fails : is_of c.args.monitor c.args.role (ends_at (chart c.args.links.now) n) ≡ false =
    ap (is_of c.args.monitor c.args.role) (sym (get_or_read c.args.links.now.ends.items n c.index.result.now within c.index.ensures (unused (End n)))) ∙ sym c.if-is_of.ensures in
    record {
      there = subst (λ (s : Stop). IsThere d s) (sym next) (there-behind d (node n) c.self.invariant.linked.rings here);
      seen = subst (λ (s : Stop). (k : ℕ) → IsInRow (rows_of d) k (suc (bucket_of c.self.inside.buckets c.args.monitor c.args.role))
          → (is_of c.args.monitor c.args.role (ends_at (chart c.args.links.now) k) ≡ false) ⊎ (1 ≤ times_number k (nodes_from (c.loop-left.left - 1) (behind_of d) s)))
          (sym next)
          (StillToCome-step (λ k. is_of c.args.monitor c.args.role (ends_at (chart c.args.links.now) k)) (rows_of d) (suc (bucket_of c.self.inside.buckets c.args.monitor c.args.role)) c.loop-left.left n (behind_of d) c.loop-left-test.true fails
          (subst (λ (s : Stop). (k : ℕ) → IsInRow (rows_of d) k (suc (bucket_of c.self.inside.buckets c.args.monitor c.args.role))
          → (is_of c.args.monitor c.args.role (ends_at (chart c.args.links.now) k) ≡ false) ⊎ (1 ≤ times_number k (nodes_from c.loop-left.left (behind_of d) s))) c.in-At.is c.loop-left.invariant.seen));
    }
