-- The slots of a pair, by the slots of its halves. Assumes nothing.
use Rattle.std.proofs.Common.{◌≡◌, ℕ, List, length, arith, length-append, length-set}
use Rattle.std.proofs.lemmas.Bool.Decides.{nat_tests}
use Rattle.std.proofs.lemmas.Grind.{common_steps}
use Rattle.std.proofs.lemmas.List.{set-append_left, set-append_right}
use Rattle.rules.specs.declared.rule.Rule.{Rule}
use Rattle.rules.specs.Slots.{Slot, writing, erasing, carried_out, after}
use Rattle.pair.specs.Halves.{writing_of, on_first, on_second}
use Rattle.pair.specs.Joined.{joined}

pub erasing_joined : (a b : List Slot) (slot : ℕ) → joined (after carried_out a (on_first erasing a b slot)) (after carried_out b (on_second erasing a b slot)) ≡ after carried_out (joined a b) (erasing (length (joined a b)) slot)
erasing_joined a b slot = grind (arith, common_steps, nat_tests, set-append_left, set-append_right, length-append, length-set)

pub writing_joined : (a b : List Slot) (slot : ℕ) (rule : Rule) → joined (after carried_out a (on_first (writing_of rule) a b slot)) (after carried_out b (on_second (writing_of rule) a b slot)) ≡ after carried_out (joined a b) (writing (length (joined a b)) slot rule)
writing_joined a b slot rule = grind (arith, common_steps, nat_tests, set-append_left, set-append_right, length-append, length-set)
