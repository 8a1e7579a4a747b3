use Rattle.std.proofs.Common.{◌<◌, refl, ap, ◌∙◌, arith}
use Rattle.shifting.specs.Machine.{complete, make_all}
use Rattle.job.specs.declared.job.Job.{Job}
use Rattle.turns.specs.Shown.{fixed_by, shown, ticket_of}
use Rattle.turns.proofs.Writes.{complete_done, close_refused, on_start, on_more, close_busy, wrote_further}
use Rattle.turns.proofs.writing.complete_add.Goals as goal

pub returns-in_err-allows-clause-takes : goal.returns-in_err-allows-clause-takes
returns-in_err-allows-clause-takes g c =
    close_refused (fixed_by g.D.Kind.Kind.meaning g.D.SlotDevice.traced c.args.number) g.D.SlotDevice.stored g.met.D.Kind.Kind.lawful (complete (ticket_of c.args.named)) make_all
    (shown g.D.SlotDevice c.args.device.now c.args.job.now) c.args.named c.from_residual.result _ (λ state. refl) c.from_residual.ensures.1 c.in_err-allows.ensures

pub loop-device-init : goal.loop-device-init
loop-device-init g c = (close_busy c.args.number c.args.job.now c.args.named c.in_ok-allows.ensures, refl, λ named. on_start _ _ named _)

pub loop-device-preserved : goal.loop-device-preserved
loop-device-preserved g c =
    let more : c.loop-device.job.made < c.loop-device.job.chain.length = omega arith in
    let wrote = c.write_next.ensures in
    let further-is = wrote_further c.loop-device.job c.write_next.new.job c.loop-device.invariant.0 more wrote.job in (
      ap (λ (j : Job). j.busy) further-is ∙ c.loop-device.invariant.0,
      wrote.writes.same ∙ c.loop-device.invariant.1,
      λ named.
          on_more _ _ g.met.D.Kind.Kind.lawful named _ _ _ more
          (record { slots = wrote.writes.slots; trace = wrote.writes.trace; memory = wrote.writes.memory; job = wrote.job }) (c.loop-device.invariant.2 named),
    )

pub loop-device-smaller : goal.loop-device-smaller
loop-device-smaller g c =
    let more : c.loop-device.job.made < c.loop-device.job.chain.length = omega arith in
    let further-is = wrote_further c.loop-device.job c.write_next.new.job c.loop-device.invariant.0 more c.write_next.ensures.job in
    let made-is = ap (λ (j : Job). j.made) further-is in
    let length-is = ap (λ (j : Job). j.chain.length) further-is in
    omega arith

pub returns-clause-takes : goal.returns-clause-takes
returns-clause-takes g c = complete_done _ _ g.met.D.Kind.Kind.lawful _ _ c.happens.new.self c.args.named _ c.in_ok-allows.ensures (c.loop-device.invariant.2 c.args.named) (omega arith) c.happens.ensures refl
