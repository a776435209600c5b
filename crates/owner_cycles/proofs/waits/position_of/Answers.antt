use Rattle.std.proofs.Common.{◌≡◌, Some, None, Option, sym, subst}
use Rattle.lock_word.specs.declared.ThreadId.{ThreadId}
use Rattle.owner_cycles.specs.Threads.{IsPosition}
use Rattle.owner_cycles.proofs.Berths.{nowhere}
use Rattle.owner_cycles.proofs.waits.position_of.Goals as goal

pub returns-in-Err : goal.returns-in-Err
returns-in-Err c =
    let e : c.args.thread ≡ Some c.in_ok-thread.field-0 = c.in_ok-thread.was in
    subst (λ (o : Option ThreadId). IsPosition c.args.threads.now o None) (sym e) (nowhere c.args.threads.now c.in_ok-thread.field-0 c.in-Err.field-0 c.requires c.in-Err.ensures.position)
