use Rattle.std.proofs.Common.{◌≡◌, ◌-◌, map, length, vec_items}
use Rattle.orders.specs.Orders.{entry_of}
use Rattle.order_reader.proofs.Files.{Sofar}
use Rattle.order_reader.proofs.listing.read_orders.Given as goal

abbrev pub invariant-loop-order : goal.invariant-loop-order
invariant-loop-order l = (l.reader.input.now ≡ l.input) × Sofar l.input (map entry_of (vec_items l.orders)) l.reader.offset

abbrev pub decreases-loop-order : goal.decreases-loop-order
decreases-loop-order l = length l.input - l.reader.offset
