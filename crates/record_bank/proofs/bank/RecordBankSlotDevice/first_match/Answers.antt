use Rattle.std.proofs.Common.{None, rules, arith}
use Rattle.rules.specs.Slots.{slot_matches}
use Rattle.rules.proofs.Searches.{first_in_range}
use Rattle.kinds.specs.DialRules.{dial_meaning}
use Rattle.record_bank.specs.Records.{bank_slots}
use Rattle.record_bank.proofs.bank.RecordBankSlotDevice.first_match.Goals as goal

pub returns : goal.returns
returns c = record {
  answer =
      first_in_range (slot_matches dial_meaning c.args.subject) None (bank_slots c.args.self.now.records.now) _ _ _ c.find.result c.find.ensures.ran
      (λ slot f called. search rules) (λ slot f called. search rules) c.slot_count.ensures (omega arith);
}
