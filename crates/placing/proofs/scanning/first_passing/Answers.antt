use Rattle.std.proofs.Common.{ℕ, true, false, rules, arith}
use Rattle.std.proofs.lemmas.Iterator.{first_from_Range}
use Rattle.shifting.specs.Slots.{at}
use Rattle.placing.proofs.Passings.{first_found}
use Rattle.placing.proofs.scanning.first_passing.Goals as goal

pub returns : goal.returns
returns g c =
    let slots = g.D.SlotDevice.slots c.args.device.now in
    first_found _ slots _ c.args.low c.args.end c.find.result
    (first_from_Range _ _ _ c.find.result (λ (slot : ℕ). goal.F-post g c.args.passes (at slots slot) true) (λ (slot : ℕ). goal.F-post g c.args.passes (at slots slot) false) c.find.ensures.ran (λ slot after told. search rules) (λ slot after told. search rules)) (omega arith)
