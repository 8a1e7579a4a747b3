use Rattle.std.proofs.Common.{None, rules, arith}
use Rattle.rules.specs.Slots.{slot_matches}
use Rattle.rules.proofs.Searches.{first_in_range}
use Rattle.kinds.specs.PacketRules.{packet_meaning}
use Rattle.chip_image.specs.Chip.{chip_slots}
use Rattle.chip_image.proofs.chip.ChipImageSlotDevice.first_match.Goals as goal

pub returns : goal.returns
returns c = record {
  answer =
      first_in_range (slot_matches packet_meaning c.args.subject) None (chip_slots c.args.self.now.words.now) _ _ _ c.find.result c.find.ensures.ran
      (λ slot f called. search rules) (λ slot f called. search rules) c.slot_count.ensures (omega arith);
}
