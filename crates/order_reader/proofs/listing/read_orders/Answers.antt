use Rattle.std.proofs.Common.{◌≡◌, ◌+◌, [], ◌∷◌, ◌++◌, map, length, drop, is_ok, Some, Ok, vec_items, sym, ap, ◌∙◌, subst}
use Rattle.std.proofs.ResultArms.{chosen}
use Rattle.std.proofs.lemmas.List.{map_push}
use Rattle.orders.specs.Layout.{front}
use Rattle.orders.specs.Orders.{bytes_of, entry_of}
use Rattle.order_reader.specs.Reading.{Gives, offset_after}
use Rattle.order_reader.specs.File.{Reads, front_of}
use Rattle.order_reader.proofs.Files.{Sofar, begins, one_more, done}
use Rattle.order_reader.proofs.listing.read_orders.Goals as goal
use Rattle.order_reader.proofs.listing.read_orders.Goals.{in-Some-Err, in-None}

pub loop-order-init : goal.loop-order-init
loop-order-init c =
    let none : map entry_of (vec_items c.new-orders.result) ≡ [] = ap (map entry_of) c.new-orders.ensures.items in
    let input = c.args.input.now in (
      c.new-reader.ensures.input,
      subst (λ offset. Sofar input (map entry_of (vec_items c.new-orders.result)) offset) (sym c.new-reader.ensures.offset)
          (subst (λ entries. Sofar input entries 0) (sym none) (begins input)),
    )

pub loop-order-preserved : goal.loop-order-preserved
loop-order-preserved c =
    let input = c.args.input.now in
    let offset = c.loop-order.reader.offset in
    let order = c.in-Some-Ok.order in
    let entries = map entry_of (vec_items c.loop-order.orders) in
    let left = drop offset c.loop-order.reader.input.now in
    let told = subst (λ outcome. Gives (front left) offset left (Some outcome)) c.in-Some-Ok.field-0-is c.in-Some-Ok.ensures.answer in
    let moved : c.next_order.new.self.offset ≡ offset + length (bytes_of order) = c.in-Some-Ok.ensures.offset ∙ ap (λ outcome. offset_after offset (Some outcome)) c.in-Some-Ok.field-0-is in
    let given = subst (λ bytes. Gives (front (drop offset bytes)) offset (drop offset bytes) (Some (Ok order))) c.loop-order.invariant.0 told in
    let pushed : map entry_of (vec_items c.push.new.self) ≡ entries ++ entry_of order ∷ [] = ap (map entry_of) (chosen _ _ _ _ c.push.ensures.items (ap is_ok c.in_ok-push-in-Some-Ok.was)) ∙ map_push entry_of (vec_items c.loop-order.orders) order in
    let more = one_more input entries offset (entry_of order) (length (bytes_of order)) c.loop-order.invariant.1 given.0 given.1 in (
      ap (λ reference. reference.now) c.next_order.ensures.input ∙ c.loop-order.invariant.0,
      subst (λ place. Sofar input (map entry_of (vec_items c.push.new.self)) place) (sym moved)
          (subst (λ list. Sofar input list (offset + length (bytes_of order))) (sym pushed) more),
    )

pub returns : goal.returns
returns c =
    let input = c.args.input.now in
    let offset = c.loop-order.reader.offset in
    let left = drop offset c.loop-order.reader.input.now in
    let after = c.next_order.new.self.offset in
    let ending = c.match-next_order.ending in
    let Stopped : Type 0 = (front left ≡ front_of ending) × (after ≡ offset) in
    let stopped : Stopped = elim c.match-next_order.branch [
      | in-Some-Err w ↦ (subst (λ outcome. Gives (front left) offset left (Some outcome)) w.in-Some-Err.field-0-is w.in-Some-Err.ensures.answer ∙ ap front_of (sym w.ending-is), w.in-Some-Err.ensures.offset ∙ ap (λ outcome. offset_after offset (Some outcome)) w.in-Some-Err.field-0-is)
      | in-None w ↦ (w.in-None.ensures.answer ∙ ap front_of (sym w.ending-is), w.in-None.ensures.offset)
    ] in
    let entries = map entry_of (vec_items c.loop-order.orders) in
    subst (Reads input) (λ i. record { entries = entries; place = sym (c.offset-place.ensures ∙ stopped.1) i; ending = ending })
    (done input entries offset ending c.loop-order.invariant.1 (sym (ap (λ bytes. front (drop offset bytes)) c.loop-order.invariant.0) ∙ stopped.0))
