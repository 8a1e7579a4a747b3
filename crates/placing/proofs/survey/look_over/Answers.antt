use Rattle.std.proofs.Common.{◌-◌, Some, None, arith}
use Rattle.std.specs.declared.cmp.Ordering.TheVariants.{Less, Equal, Greater}
use Rattle.placing.proofs.Surveys.{surveyed_more, surveyed_whole}
use Rattle.placing.proofs.survey.look_over.Goals as goal

pub loop-slot-preserved-in-Some-Greater : goal.loop-slot-preserved-in-Some-Greater
loop-slot-preserved-in-Some-Greater g c =
    let standing = c.standing_of.ensures in
    surveyed_more _ _ _ _ c.loop-slot.slot (c.loop-slot.slot - 1) c.loop-slot.from c.loop-slot.to _ _ c.loop-slot.tied _ _ _ (Some Greater) (omega arith) (omega arith) c.slot_at.ensures (cc) standing.above standing.below standing.level
    (grind arith) (cc) (cc) c.loop-slot.invariant

pub loop-slot-preserved-in-Some-Less : goal.loop-slot-preserved-in-Some-Less
loop-slot-preserved-in-Some-Less g c =
    let standing = c.standing_of.ensures in
    surveyed_more _ _ _ _ c.loop-slot.slot (c.loop-slot.slot - 1) c.loop-slot.from c.loop-slot.to _ _ c.loop-slot.tied _ _ _ (Some Less) (omega arith) (omega arith) c.slot_at.ensures (cc) standing.above standing.below standing.level
    (cc) (cc) (cc) c.loop-slot.invariant

pub loop-slot-preserved-in-Some-Equal : goal.loop-slot-preserved-in-Some-Equal
loop-slot-preserved-in-Some-Equal g c =
    let standing = c.standing_of.ensures in
    surveyed_more _ _ _ _ c.loop-slot.slot (c.loop-slot.slot - 1) c.loop-slot.from c.loop-slot.to _ _ c.loop-slot.tied _ _ _ (Some Equal) (omega arith) (omega arith) c.slot_at.ensures (cc) standing.above standing.below standing.level
    (cc) (cc) (cc) c.loop-slot.invariant

pub loop-slot-preserved : goal.loop-slot-preserved
loop-slot-preserved g c =
    let standing = c.standing_of.ensures in
    surveyed_more _ _ _ _ c.loop-slot.slot (c.loop-slot.slot - 1) c.loop-slot.from c.loop-slot.to _ _ c.loop-slot.tied _ _ _ None (omega arith) (omega arith) c.slot_at.ensures (cc) standing.above standing.below standing.level
    (cc) (cc) (cc) c.loop-slot.invariant

pub returns : goal.returns
returns g c =
    let whole = surveyed_whole _ _ _ c.usable_slots-count.result c.loop-slot.slot c.loop-slot.from c.loop-slot.to c.loop-slot.tied c.usable_slots-count.ensures (omega arith) c.loop-slot.invariant in
    record { low = whole.low_is; high = whole.high_is; tied = whole.tied_is }
