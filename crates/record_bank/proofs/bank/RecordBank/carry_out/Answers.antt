use Rattle.std.proofs.Common.{arith}
use Rattle.record_bank.proofs.Banks.{length_bank}
use Rattle.record_bank.proofs.bank.RecordBank.carry_out.Goals as goal

pub bounds-self-from : goal.bounds-self-from
bounds-self-from c = let possible = rw c.in-Write.is at c.requires in omega (arith, length_bank c.args.self.now.records.now)

pub bounds-self-from-in-Erase : goal.bounds-self-from-in-Erase
bounds-self-from-in-Erase c = let possible = rw c.in-Erase.is at c.requires in omega (arith, length_bank c.args.self.now.records.now)
