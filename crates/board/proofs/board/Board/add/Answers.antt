use Rattle.std.proofs.Common.{Err, ap, ◌∙◌, arith}
use Rattle.std.proofs.lemmas.Result.{err_from_is_err_and}
use Rattle.shifting.specs.Machine.{opened, add}
use Rattle.job.specs.declared.named.Named.{Named}
use Rattle.turns.specs.Shown.{ticket_of}
use Rattle.board.proofs.Lawed.{lawfully}
use Rattle.board.proofs.board.Board.add.Goals as goal

pub returns-clause-law : goal.returns-clause-law
returns-clause-law g c =
    lawfully _ g.D.SlotDevice.stored g.met.D.Kind.Kind.lawful (add c.args.new) _ _ _ (omega arith, omega arith)
    (λ state reached shows.
    let taken = c.in_ok-named.ensures.takes state reached shows in
    (ap (λ (named : Named). opened (ticket_of named)) c.of.ensures.named ∙ taken.0, taken.1, taken.2))

pub returns-in_err-named-clause-law : goal.returns-in_err-named-clause-law
returns-in_err-named-clause-law g c =
    let refused = err_from_is_err_and c.from_residual.result c.from_residual.ensures.1 in
    rw (refused.1 ∙ ap Err refused.2)
    (lawfully _ g.D.SlotDevice.stored g.met.D.Kind.Kind.lawful (add c.args.new) _ _ _ (omega arith, omega arith) c.in_err-named.ensures.takes)
