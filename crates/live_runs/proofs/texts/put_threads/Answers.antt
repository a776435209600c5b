use Rattle.std.proofs.Common.{string_bytes, vec_items, ◌++◌, ◌∙◌, ap, get_or, []}
use Rattle.live_runs.specs.Texts.{thread_text}
use Rattle.live_runs.proofs.Each.{each_more}
use Rattle.live_runs.proofs.texts.put_threads.Goals as goal

pub threads-preserved : goal.threads-preserved
threads-preserved c =
    each_more thread_text (λ t. t.now) (λ w. (vec_items w.0, w.1)) c.args.names.now c.args.workers.now c.threads.position _ c.index-workers-position.result (string_bytes c.args.text.now) (string_bytes c.threads.text) (string_bytes c.put_thread.new.text)
    c.threads-test.true c.requires c.threads.invariant
    (c.in_ok-put_thread.ensures ∙ ap (λ w. string_bytes c.threads.text ++ thread_text (get_or c.args.names.now c.threads.position (record { ref_ptr = (0, 0); now = [] })).now (vec_items w.0, w.1)) c.index-workers-position.is)
