-- What the reader answers, at what is left of the file. Assumes nothing.
use Rattle.std.specs.Prelude.{◌≡◌, ℕ, ◌+◌, ◌<◌, ◌≤◌, List, length, take, Some, None, Ok, Err, Option, Result, slice_index}
use Rattle.rules.specs.declared.refusal.Refusal.{Refusal}
use Rattle.rules.specs.declared.refusal.Refusal.TheVariants.{CutShort}
use Rattle.orders.specs.declared.order.Order.{Order}
use Rattle.orders.specs.declared.part.Part.{Part}
use Rattle.orders.specs.Layout.{Front, end, whole, damaged}
use Rattle.orders.specs.Orders.{Entry, entry_of, bytes_of}

-- the order of so many bytes at the front of what is left
abbrev pub entry_at : (place : ℕ) (left : List ℕ) (size : ℕ) → Entry
entry_at place left size = record { letter = slice_index left 2; place = place; bytes = take size left }

-- the order that is found at the front, or why there is none
abbrev pub Gives : (found : Front) (place : ℕ) (left : List ℕ) → Option (Result Order Refusal) → Type 0
Gives found place left None = found ≡ end
Gives found place left (Some (Ok order)) = (found ≡ whole (length (bytes_of order))) × (entry_of order ≡ entry_at place left (length (bytes_of order)))
Gives found place left (Some (Err refusal)) = found ≡ damaged refusal

-- past an order that was given, else where it was
abbrev pub offset_after : (offset : ℕ) → Option (Result Order Refusal) → ℕ
offset_after offset None = offset
offset_after offset (Some (Ok order)) = offset + length (bytes_of order)
offset_after offset (Some (Err refusal)) = offset

-- the front of what is left as one part, where it has so many bytes
abbrev pub Cuts : (size place : ℕ) (left : List ℕ) → Result (Part size) Refusal → Type 0
Cuts size place left (Ok part) = (size ≤ length left) × (part.place ≡ place) × (part.bytes.now ≡ take size left)
Cuts size place left (Err refusal) = (length left < size) × (refusal ≡ CutShort)
