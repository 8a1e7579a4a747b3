-- A written header gives number, priority and action back. Assumes nothing.
use Rattle.std.proofs.Common.{◌≡◌, ◌/◌, ◌%◌, ◌^◌, ◌<◌, arith}
use Rattle.rules.specs.declared.rule.Rule.{Rule}
use Rattle.chip_image.specs.Layout.{header, unpacked}

pub header_back : (rule : Rule) → rule.number < 2 ^ 16 → rule.priority < 2 ^ 16 → rule.action < 2 ^ 32 → unpacked (header rule) rule.word_a rule.word_b ≡ rule
header_back rule number_fits priority-fits action-fits =
    let number : header rule / 2 ^ 48 ≡ rule.number = omega arith in
    let priority : header rule / 2 ^ 32 % 2 ^ 16 ≡ rule.priority = omega arith in
    let action : header rule % 2 ^ 32 ≡ rule.action = omega arith in
    rw (number, priority, action)
