use Rattle.order_run.proofs.Starts.{starts}
use Rattle.order_run.proofs.run.run_orders.Goals as goal

pub serve-requires : goal.serve-requires
serve-requires g c = starts _ _ _ c.args.input.now c.caller_of-caller.result c.caller_of-caller.ensures
