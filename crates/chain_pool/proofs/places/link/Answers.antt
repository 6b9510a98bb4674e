use Rattle.std.proofs.Common.{◌≡◌, ◌<◌, ◌==◌, ℕ, List, length, length-set, set, refl, sym, ◌∙◌, ap, inl, inr, arith, if◌then◌else◌}
use Rattle.std.proofs.lemmas.Bool.{cases_eq}
use Rattle.std.proofs.lemmas.List.{get_or-set_other}
use Rattle.std.proofs.lemmas.Grind.{get_or-set_at}
use Rattle.chain_pool.specs.declared.places.Place.{Place}
use Rattle.chain_pool.specs.Places.{blank, slot_of, slot_at}
use Rattle.chain_pool.proofs.Slots.{chosen, passed}
use Rattle.chain_pool.proofs.places.link.Goals as goal

-- the slots after a place is overwritten
filled : (ps : List Place) (k r : ℕ) (x : Place) → k < length ps → slot_at (set ps k x) r ≡ (if r == k then slot_of x else slot_at ps r)
filled ps k r x within = elim (cases_eq r k) [
  | inl e ↦ ap slot_of (get_or-set_at ps k r x blank e within) ∙ sym (chosen r k _ _ e)
  | inr ne ↦ ap slot_of (get_or-set_other ps k r x blank ne) ∙ sym (passed r k _ _ ne)
]

-- the same if the slot of the place is unchanged
kept : (ps : List Place) (n k r : ℕ) (x : Place) → length ps ≡ n → k < n → slot_of x ≡ slot_at ps k → slot_at (set ps k x) r ≡ slot_at ps r
kept ps n k r x len within same = elim (cases_eq r k) [
  | inl e ↦ ap slot_of (get_or-set_at ps k r x blank e (omega (arith, len, within))) ∙ (same ∙ ap (slot_at ps) (sym e))
  | inr ne ↦ ap slot_of (get_or-set_other ps k r x blank ne)
]

pub returns-clause-slot : goal.returns-clause-slot
returns-clause-slot c r =
    let ps = c.args.places.now in
    let v = c.args.version in
    kept _ _ c.args.after r _ (length-set _ _ _ ∙ length-set _ _ _) c.requires.after_within refl
    ∙ (kept _ _ c.args.before r _ (length-set _ _ _) c.requires.before_within refl
    ∙ (filled ps c.args.place r _ c.requires.place_within
    ∙ ap (λ o. if r == c.args.place then record { version = o; sibling = c.args.sibling } else slot_at ps r) (c.of.ensures v.cell v.writer)))
