-- An open add on its way, write by write. Between two writes the slots are those of a settled board with one slot more, the gap,
-- into which a copy was put: the rest of the chain, named from its end, is a chain of that board. Assumes nothing.
use Rattle.std.proofs.Common.{◌≡◌, ℕ, zero, suc, ◌+◌, ◌<◌, cond, ltb, ◌⊎◌, List, [], ◌∷◌, length, take, set, Some, None, sym, refl, ap, ◌∙◌, inr, ⊎_elim, arith}
use Rattle.std.proofs.lemmas.Bool.{lt-ltb}
use Rattle.std.proofs.lemmas.List.{length-set, set-set, set-get_or}
use Rattle.rules.specs.declared.rule.Rule.{Rule}
use Rattle.rules.specs.Kinds.{KindMeaning, KindLaws}
use Rattle.shifting.specs.Slots.{Slot, at, taken, usable, all_carried_out}
use Rattle.shifting.specs.Machine.{held, received, writes}
use Rattle.shifting.proofs.Reading.{at_within, set_here, set_there}
use Rattle.shifting.proofs.Order.{Link, Back, link_fits, carry}
use Rattle.shifting.proofs.Settled.{FitsIn, Ruled, Stocked, Settled, Fresh, usable_set, copied, copied_count, moved, joined}
use Rattle.shifting.proofs.Directions.{Direction}

-- what holds inside a call as well: the slots hold the rules, in order, and with so many copies
pub record Good (kind : KindMeaning) (slots : List Slot) (rules : List Rule) (copies : ℕ) : Type 0 where
  pub ruled : Ruled kind rules
  pub stocked : Stocked kind slots rules
  pub count : taken slots ≡ length rules + copies

pub settled_good : (kind : KindMeaning) (slots : List Slot) (rules : List Rule) → Settled kind slots rules → Good kind slots rules 0
settled_good kind slots rules settled = record { ruled = settled.ruled; stocked = settled.stocked; count = omega (arith, settled.count) }

-- the rules in force once the slots are written down to these, which are left
abbrev pub with_new : List ℕ → Rule → List Rule → List Rule
with_new [] new rules = new ∷ rules
with_new (slot ∷ earlier) new rules = rules

-- and once all of these are written
abbrev pub with_all : List ℕ → Rule → List Rule → List Rule
with_all [] new rules = rules
with_all (slot ∷ earlier) new rules = new ∷ rules

module _ (kind : KindMeaning) (laws : KindLaws kind) (direction : Direction kind) (new : Rule) where
  -- a chain of the new rule in this direction, named from its end
  abbrev pub ChainBack : List Slot → ℕ → List ℕ → Type 0
  ChainBack slots = Back direction.before direction.above slots new

  -- the rule in a slot fits every slot that it may go to
  goes_in : (slots : List Slot) (rules : List Rule) (c g : ℕ) → Settled kind slots rules → at slots g ≡ None → (link : Link direction.before direction.above slots c g)
      → FitsIn kind slots link.rule g
  goes_in slots rules c g settled free link =
      direction.fits_so slots link.rule g free
      (link_fits direction.before direction.above direction.irreflexive direction.transitive direction.compared direction.never_itself slots c g
      (direction.right_so slots settled.stocked.right) link)

  -- before the first write
  pub record Start (slots : List Slot) (rules : List Rule) (gap : ℕ) (earlier : List ℕ) : Type 0 where
    pub settled : Settled kind slots rules
    pub fresh : Fresh kind rules new
    pub free : at slots gap ≡ None
    pub within : gap < usable slots
    pub back : ChainBack slots gap earlier

  -- after the write to the gap
  pub record Mid (slots : List Slot) (rules : List Rule) (gap : ℕ) (earlier : List ℕ) : Type 0 where
    pub base : List Slot
    pub old : List Rule
    pub start : Start base old gap earlier
    pub slots_are : slots ≡ set base gap (Some (received base new earlier))
    pub rules_are : rules ≡ with_new earlier new old

  -- an open add with so many writes made, the slot last written, and the slots left to write
  abbrev pub Going : List Slot → List Rule → ℕ → ℕ → List ℕ → Type 0
  Going slots rules made gap left =
      ((made ≡ 0) × (first : ℕ) × (earlier : List ℕ) × (left ≡ first ∷ earlier) × Start slots rules first earlier) ⊎ ((0 < made) × Mid slots rules gap left)

  written_settled : (slots : List Slot) (rules : List Rule) (gap : ℕ) → Start slots rules gap [] → Settled kind (set slots gap (Some new)) (new ∷ rules)
  written_settled slots rules gap start = joined kind slots rules gap start.settled start.free start.within laws new start.fresh (direction.fits_so slots new gap start.free start.back)

  pub mid_settled : (slots : List Slot) (rules : List Rule) (gap : ℕ) → Mid slots rules gap [] → Settled kind slots rules
  mid_settled slots rules gap mid = rw (mid.slots_are, mid.rules_are) (written_settled mid.base mid.old gap mid.start)

  mid_good : (slots : List Slot) (rules : List Rule) (gap slot : ℕ) (earlier : List ℕ) → Mid slots rules gap (slot ∷ earlier) → Good kind slots rules 1
  mid_good slots rules gap slot earlier mid =
      let start = mid.start in
      let link = start.back.0 in
      let same : slots ≡ set mid.base gap (Some link.rule) = mid.slots_are ∙ ap (λ s. set mid.base gap (Some (held s))) link.stands in
      rw (same, mid.rules_are)
      (record {
        ruled = start.settled.ruled;
        stocked = copied kind mid.base mid.old gap start.settled start.free start.within slot link.rule link.stands (goes_in mid.base mid.old slot gap start.settled start.free link);
        count = omega (arith, copied_count kind mid.base mid.old gap start.settled start.free start.within link.rule);
      })

  -- a withdraw half way erases the gap: what is left is the settled board
  pub mid_erased : (slots : List Slot) (rules : List Rule) (gap slot : ℕ) (earlier : List ℕ) → Mid slots rules gap (slot ∷ earlier) → Settled kind (set slots gap None) rules
  mid_erased slots rules gap slot earlier mid =
      let base = mid.base in
      let copy = received base new (slot ∷ earlier) in
      let same : set slots gap None ≡ base =
      ap (λ s. set s gap None) mid.slots_are ∙ (set-set base gap (Some copy) None ∙ (ap (set base gap) (sym mid.start.free) ∙ set-get_or base gap None)) in
      rw (same, mid.rules_are) mid.start.settled

  start_write : (slots : List Slot) (rules : List Rule) (slot : ℕ) (earlier : List ℕ) → Start slots rules slot earlier
      → Mid (set slots slot (Some (received slots new earlier))) (with_new earlier new rules) slot earlier
  start_write slots rules slot earlier start = record { base = slots; old = rules; start = start; slots_are = refl; rules_are = refl }

  -- what a slot receives, read after the rule in the slot after it was moved out of the way
  received_same : (base : List Slot) (gap slot : ℕ) (earlier : List ℕ) (first : List Slot) → ChainBack base slot earlier
      → received first new earlier ≡ received (set first slot None) new earlier
  received_same base gap slot [] first back = refl
  received_same base gap slot (before ∷ earlier) first back =
      ap held (sym (set_there first slot before None (λ same. direction.irreflexive slot (rw same at back.0.before))))

  mid_write : (slots : List Slot) (rules : List Rule) (gap slot : ℕ) (earlier : List ℕ) → Mid slots rules gap (slot ∷ earlier)
      → Mid (set slots slot (Some (received slots new earlier))) (with_new earlier new rules) slot earlier
  mid_write slots rules gap slot earlier mid =
      let start = mid.start in
      let link = start.back.0 in
      let rule = link.rule in
      let first = set mid.base gap (Some rule) in
      let next = set first slot None in
      let same : slots ≡ first = mid.slots_are ∙ ap (λ s. set mid.base gap (Some (held s))) link.stands in
      let inside = start.settled.stocked.inside slot rule link.stands in
      let size = length-set mid.base gap (Some rule) in
      record {
        base = next;
        old = mid.old;
        start = record {
          settled = moved kind mid.base mid.old gap start.settled start.free start.within slot link.rule link.stands (goes_in mid.base mid.old slot gap start.settled start.free link);
          fresh = start.fresh;
          free = set_here first slot None (omega (arith, at_within mid.base slot rule link.stands));
          within = omega (arith, usable_set first slot None, usable_set mid.base gap (Some rule));
          back = carry direction.before direction.above direction.irreflexive direction.transitive direction.compared direction.never_itself mid.base new rule slot gap
              link.stands link.before slot earlier (direction.irreflexive slot) start.back.1;
        };
        slots_are =
            ap (λ s. set s slot (Some (received s new earlier))) same
            ∙ (ap (λ r. set first slot (Some r)) (received_same mid.base gap slot earlier first start.back.1)
            ∙ sym (set-set first slot None (Some (received next new earlier))));
        rules_are = ap (with_new earlier new) mid.rules_are;
      }

  -- the next write
  pub advance : (slots : List Slot) (rules : List Rule) (made gap slot : ℕ) (earlier : List ℕ) → Going slots rules made gap (slot ∷ earlier)
      → Mid (set slots slot (Some (received slots new earlier))) (with_new earlier new rules) slot earlier
  advance slots rules made gap slot earlier going =
      ⊎_elim
      (λ begun.
      let first : slot ≡ begun.1 = cc begun.3 in
      let others : earlier ≡ begun.2 = cc begun.3 in
      start_write slots rules slot earlier (rw (first, others) begun.4))
      (λ mid. mid_write slots rules gap slot earlier mid.1)
      going

  pub going_good : (slots : List Slot) (rules : List Rule) (made gap slot : ℕ) (earlier : List ℕ) → Going slots rules made gap (slot ∷ earlier)
      → Good kind slots rules (cond (ltb 0 made) 1 0)
  going_good slots rules made gap slot earlier going =
      ⊎_elim
      (λ begun. rw begun.0 (settled_good kind slots rules begun.4.settled))
      (λ mid. rw (lt-ltb 0 made mid.0) (mid_good slots rules gap slot earlier mid.1))
      going

  pub going_written : (slots : List Slot) (rules : List Rule) (made gap : ℕ) → Going slots rules made gap [] → Settled kind slots rules
  going_written slots rules made gap going =
      ⊎_elim (λ begun. cc begun.3) (λ mid. mid_settled slots rules gap mid.1) going

  -- while some of the writes left are not made
  pub writes_good : (left : List ℕ) (slots : List Slot) (rules : List Rule) (made gap some : ℕ) → Going slots rules made gap left → some < length left
      → Good kind (all_carried_out slots (take some (writes slots new left))) rules (cond (ltb 0 (made + some)) 1 0)
  writes_good [] slots rules made gap some going fewer = absurd (omega arith)
  writes_good (slot ∷ earlier) slots rules made gap zero going fewer =
      let same : made + 0 ≡ made = omega arith in
      rw same (going_good slots rules made gap slot earlier going)
  writes_good (slot ∷ []) slots rules made gap (suc some) going fewer = absurd (omega arith)
  writes_good (slot ∷ before ∷ earlier) slots rules made gap (suc some) going fewer =
      let same : made + suc some ≡ suc made + some = omega arith in
      rw same
      (writes_good (before ∷ earlier) (set slots slot (Some (received slots new (before ∷ earlier)))) rules (suc made) slot some
      (inr (omega arith, advance slots rules made gap slot (before ∷ earlier) going)) (omega arith))

  -- when all of them are made
  pub writes_settled : (left : List ℕ) (slots : List Slot) (rules : List Rule) (made gap : ℕ) → Going slots rules made gap left
      → Settled kind (all_carried_out slots (writes slots new left)) (with_all left new rules)
  writes_settled [] slots rules made gap going = going_written slots rules made gap going
  writes_settled (slot ∷ []) slots rules made gap going =
      mid_settled (set slots slot (Some new)) (new ∷ rules) slot (advance slots rules made gap slot [] going)
  writes_settled (slot ∷ before ∷ earlier) slots rules made gap going =
      writes_settled (before ∷ earlier) (set slots slot (Some (received slots new (before ∷ earlier)))) rules (suc made) slot
      (inr (omega arith, advance slots rules made gap slot (before ∷ earlier) going))
