use Rattle.std.proofs.Common.{rules}
use Rattle.fat_monitor.proofs.Fronts.{front_then}
use Rattle.step_core.proofs.Putting.{berth_there, put_berth}
use Rattle.step_core.proofs.worlds.World.push_berths.Goals as goal

pub loop-berth-preserved : goal.loop-berth-preserved
loop-berth-preserved c =
    let i = c.loop-berth.invariant in (
      put_berth c.args.self.now.fats c.args.self.now.berths c.deref-place-items.result.now c.loop-berth.berth _ c.loop-berth.numbers.items c.push_holder.new.numbers.items c.push_place.new.numbers.items _
          (berth_there _ c.args.self.now c.deref-place-items.result.now c.loop-berth.berth c.loop-berth-test.true c.deref-place-items.ensures.value c.self.invariant.berthed c.self.view_is) c.loop-berth-test.true c.in_ok-push_holder.ensures.written c.in_ok-push_place.ensures.written i.0,
      front_then c.args.numbers.now.items c.push_holder.new.numbers.items c.push_place.new.numbers.items
          (front_then c.args.numbers.now.items c.loop-berth.numbers.items c.push_holder.new.numbers.items i.1 c.push_holder.ensures.front) c.push_place.ensures.front,
    )

pub push_holder-requires : goal.push_holder-requires
push_holder-requires c = berth_there _ c.args.self.now c.deref-place-items.result.now c.loop-berth.berth c.loop-berth-test.true c.deref-place-items.ensures.value c.self.invariant.berthed c.self.view_is

pub returns-in_err-push_holder : goal.returns-in_err-push_holder
returns-in_err-push_holder c = record {
  written = search rules;
  front = front_then c.args.numbers.now.items c.loop-berth.numbers.items c.push_holder.new.numbers.items c.loop-berth.invariant.1 c.push_holder.ensures.front;
}

pub returns-in_err-push_place : goal.returns-in_err-push_place
returns-in_err-push_place c = record {
  written = search rules;
  front = front_then c.args.numbers.now.items c.push_holder.new.numbers.items c.push_place.new.numbers.items
      (front_then c.args.numbers.now.items c.loop-berth.numbers.items c.push_holder.new.numbers.items c.loop-berth.invariant.1 c.push_holder.ensures.front) c.push_place.ensures.front;
}
