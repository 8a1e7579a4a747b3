use Rattle.std.proofs.Common.{arith}
use Rattle.record_bank.proofs.Banks.{length_bank}
use Rattle.record_bank.proofs.bank.RecordBank.at.Goals as goal

pub bounds-self-from : goal.bounds-self-from
bounds-self-from c = omega (arith, length_bank c.args.self.now.records.now)
