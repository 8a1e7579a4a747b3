-- Clearing, one slot on. Assumes nothing.
use Rattle.std.proofs.Common.{◌≡◌, ℕ, suc, ◌+◌, ◌-◌, ◌<◌, List, ◌∷◌, length, None, Ok, sym, refl, ap, ◌∙◌, subst, add-one, arith}
use Rattle.std.proofs.lemmas.List.{length-set}
use Rattle.rules.specs.declared.device.SlotDevice.{Ghosts}
use Rattle.rules.specs.declared.event.Event.{Event}
use Rattle.rules.specs.declared.event.Event.TheVariants.{Erase}
use Rattle.rules.specs.Slots.{erasing, all_after}
use Rattle.shifting.specs.Slots.{all_carried_out}
use Rattle.shifting.specs.Machine.{all_traced, erases}
use Rattle.turns.specs.Shown.{CarriesOutAll, as_events}
use Rattle.turns.proofs.Drops.{erasing_ok}

module _ {D K : Type 0} (g : Ghosts D K) where
  -- one event, and then the others
  then_more : (device device' behind : D) (event : Event) (events : List Event) → CarriesOutAll g device (as_events (Ok event)) device' → CarriesOutAll g device' events behind → CarriesOutAll g device (event ∷ events) behind
  then_more device device' behind event events one more =
      record {
        slots = more.slots ∙ ap (λ s. all_carried_out s events) one.slots;
        trace = more.trace ∙ ap (λ t. all_traced g.traced t events) one.trace;
        memory = more.memory ∙ ap (λ m. all_after g.stored m events) one.memory;
        same = more.same ∙ one.same;
      }

  -- whatever the other slots' erases leave is what all of them leave
  pub record Clearing (start device : D) (slot count : ℕ) : Type 0 where
    pub size : length (g.slots device) ≡ count
    pub rest : (behind : D) → CarriesOutAll g device (erases slot (count - slot)) behind → CarriesOutAll g start (erases 0 count) behind

  pub clearing_start : (device : D) → Clearing device device 0 (length (g.slots device))
  clearing_start device =
      let whole : length (g.slots device) - 0 ≡ length (g.slots device) = omega arith in
      record { size = refl; rest = λ behind all. subst (λ n. CarriesOutAll g device (erases 0 n) behind) whole all }

  pub clearing_more : (start device device' : D) (slot count : ℕ) → slot < count → CarriesOutAll g device (as_events (erasing (length (g.slots device)) slot)) device' → Clearing start device slot count → Clearing start device' (slot + 1) count
  clearing_more start device device' slot count below erased so_far =
      let size = so_far.size in
      let one = subst (λ event. CarriesOutAll g device (as_events event) device') (erasing_ok (length (g.slots device)) slot (omega arith)) erased in
      let more : count - slot ≡ suc (count - suc slot) = omega arith in
      record {
        size = ap length one.slots ∙ length-set (g.slots device) slot None ∙ size;
        rest = λ behind others.
            so_far.rest behind (subst (λ n. CarriesOutAll g device (erases slot n) behind) (sym more)
            (then_more device device' behind (Erase slot) (erases (suc slot) (count - suc slot)) one (subst (λ n. CarriesOutAll g device' (erases n (count - n)) behind) (add-one slot) others)));
      }

  pub cleared_all : (start device : D) (slot count : ℕ) → count - slot ≡ 0 → Clearing start device slot count → CarriesOutAll g start (erases 0 count) device
  cleared_all start device slot count none so_far =
      so_far.rest device (subst (λ n. CarriesOutAll g device (erases slot n) device) (sym none) (record { slots = refl; trace = refl; memory = refl; same = refl }))
