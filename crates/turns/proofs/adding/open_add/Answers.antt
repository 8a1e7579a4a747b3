use Rattle.std.proofs.Common.{refl}
use Rattle.shifting.specs.Machine.{add}
use Rattle.turns.specs.Shown.{opening}
use Rattle.turns.proofs.Turned.{refused_exit}
use Rattle.turns.proofs.Adds.{add_unfit, add_unplaced, add_opened}
use Rattle.turns.proofs.adding.open_add.Goals as goal

pub returns-in_err-fits-clause-takes : goal.returns-in_err-fits-clause-takes
returns-in_err-fits-clause-takes g c =
    refused_exit _ _ (add c.args.new) opening _ _ _ _ c.from_residual-in_err-fits.ensures.1
    (add_unfit _ _ g.met.D.Kind.Kind.lawful _ _ _ c.args.job.now c.args.new c.in_ok-allows.ensures _ _ refl c.in_err-fits.ensures)

pub returns-in_err-find_chain-clause-takes : goal.returns-in_err-find_chain-clause-takes
returns-in_err-find_chain-clause-takes g c =
    refused_exit _ _ (add c.args.new) opening _ _ _ _ c.from_residual-in_err-find_chain.ensures.1
    (add_unplaced _ _ g.met.D.Kind.Kind.lawful _ _ _ c.args.job.now c.args.new c.in_ok-allows.ensures c.in_ok-fits.ensures _ _ refl c.in_err-find_chain.ensures.answer)

pub returns-clause-takes : goal.returns-clause-takes
returns-clause-takes g c =
    let job = c.args.job.now in
    add_opened _ _ g.met.D.Kind.Kind.lawful _ _ _ job c.args.new c.in_ok-allows.ensures c.in_ok-fits.ensures (record { busy = job.busy; rule = job.rule; chain = c.find_chain.new.chain; made = job.made }) _ _ refl
    c.happens.ensures (c.in_ok-find_chain.ensures.chain refl) refl c.in_ok-find_chain.ensures.answer
