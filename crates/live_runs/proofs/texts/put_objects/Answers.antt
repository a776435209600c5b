use Rattle.std.proofs.Common.{string_bytes}
use Rattle.live_runs.specs.Texts.{object_text}
use Rattle.live_runs.proofs.Each.{each_more}
use Rattle.live_runs.proofs.texts.put_objects.Goals as goal

pub objects-preserved : goal.objects-preserved
objects-preserved c =
    each_more object_text (λ t. t.now) (λ w. w.0) c.args.names.now c.args.words.now c.objects.position _ _ (string_bytes c.args.text.now) (string_bytes c.objects.text) (string_bytes c.put_object.new.text)
    c.objects-test.true c.requires c.objects.invariant c.in_ok-put_object.ensures
