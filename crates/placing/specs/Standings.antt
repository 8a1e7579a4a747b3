-- How the priority of a meeting rule in a slot stands to that of a new rule. Assumes nothing.
use Rattle.std.specs.Prelude.{Bool, true, false, Option, Some, None}
use Rattle.std.specs.declared.cmp.Ordering.{Ordering}
use Rattle.std.specs.declared.cmp.Ordering.TheVariants.{Less, Equal, Greater}

abbrev pub is_above : Option Ordering → Bool
is_above None = false
is_above (Some Less) = false
is_above (Some Equal) = false
is_above (Some Greater) = true

abbrev pub is_below : Option Ordering → Bool
is_below None = false
is_below (Some Less) = true
is_below (Some Equal) = false
is_below (Some Greater) = false

abbrev pub is_level : Option Ordering → Bool
is_level None = false
is_level (Some Less) = false
is_level (Some Equal) = true
is_level (Some Greater) = false
