use Rattle.std.proofs.Common.{length, sym, ap, ◌∙◌, arith}
use Rattle.kinds.specs.Places.{places_none, places_more}
use Rattle.kinds.proofs.places.PlacesIterator.next.Goals as goal

pub returns-then-self-eq0-clause-steps : goal.returns-then-self-eq0-clause-steps
returns-then-self-eq0-clause-steps c =
    let none = sym c.self.view_is ∙ places_none c.self.inside.left c.self.inside.word c.if-self-eq0.true in
    (none, none)

pub returns-clause-steps : goal.returns-clause-steps
returns-clause-steps c = sym c.self.view_is ∙ places_more c.self.inside.left c.self.inside.word (omega arith)

pub returns-clause-goes : goal.returns-clause-goes
returns-clause-goes c =
    let fewer = ap length (returns-clause-steps c) in
    record { on = λ finite. (tt, tt, omega arith); keeps = tt; rests = λ finite. tt }
