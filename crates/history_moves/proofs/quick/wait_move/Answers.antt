use Rattle.std.proofs.Common.{rules, List, ℕ, ◌++◌, ap, ◌∙◌, codes}
use Rattle.step_core.specs.declared.machine.Move.TheVariants as move
use Rattle.fast_path.specs.declared.calls.Call.TheVariants as call
use Rattle.history_moves.specs.Texts.{Reads}
use Rattle.history_moves.proofs.QuickLaws.{wait_reads}
use Rattle.history_moves.proofs.quick.wait_move.Goals as goal

pub returns : goal.returns
returns c =
    let reads : Reads (codes "{\"call\":\"Wait\"" ++ c.args.rest.now) (move.Call c.in_ok-thread.thread (call.Wait (record { 0 = c.in_ok-object.object }) c.in_ok-millis.millis c.in_ok-nanos.nanos)) =
    wait_reads _ _ _ _ c.in_ok-millis.millis c.in_ok-nanos.nanos (record { 0 = c.in_ok-object.object }) _
    (c.in_ok-behind.ensures ∙ ap (λ (l : List ℕ). codes ",\"millis\":" ++ l) c.in_ok-millis.ensures.number)
    (c.in_ok-behind-2.ensures ∙ ap (λ (l : List ℕ). codes ",\"move\":\"Call\",\"nanos\":" ++ l) c.in_ok-nanos.ensures.number)
    (c.in_ok-behind-3.ensures ∙ ap (λ (l : List ℕ). codes ",\"object\":" ++ l) c.in_ok-object.ensures.number)
    c.in_ok-thread.ensures.text c.in_ok-millis.ensures.small c.in_ok-nanos.ensures.small c.in_ok-object.ensures.small c.in_ok-thread.ensures.small in
    search (rules, reads)
