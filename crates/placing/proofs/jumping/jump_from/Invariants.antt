use Rattle.std.proofs.Common.{◌≡◌, ◌+◌, ◌-◌, ◌<◌, ◌≤◌, ◌++◌, length, take}
use Rattle.shifting.specs.Chains.{jump}
use Rattle.shifting.specs.Slots.{is_empty, usable, reach}
use Rattle.placing.proofs.jumping.jump_from.Given as goal

abbrev pub invariant-loop-turn : goal.invariant-loop-turn
invariant-loop-turn g l =
    let slots = g.D.SlotDevice.slots l.device in
    let jumped = jump (is_empty slots) (reach g.D.Kind.Kind.meaning slots) in
    let left = usable slots - l._turn in
    (l.high < 480)
    × (l.low + left ≤ 960)
    × (l.chain.length + left ≤ 480)
    × (l.chain.length ≡ length (take l.chain.length l.chain.places))
    × (take l.chain.length l.chain.places ++ jumped left l.low l.high ≡ jumped (usable slots) l.from l.to)
