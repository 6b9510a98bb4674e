-- The validating transaction is in every pivot, since those that were validated before have no pivot among themselves.
use Rattle.std.proofs.Common.{◌≡◌, ◌≢◌, ◌∙◌, ℕ, true, ◌||◌, eqb, List, ap, inl, inr, eqb-true}
use Rattle.std.proofs.lemmas.Bool.{cases_eq, or_cases, or_left, or_right}
use Rattle.teb_rules.specs.declared.names.ControlKind.TheVariants.{Snapshot}
use Rattle.teb_rules.specs.declared.history.Event.{Event}
use Rattle.teb_rules.specs.history.Phases.{prepared, committed}
use Rattle.teb_rules.specs.Setup.{Setup}
use Rattle.teb_rules.specs.Tree.{row}
use Rattle.teb_rules.specs.laws.Lawful.{Lawful}
use Rattle.teb_rules.specs.laws.TreeFacts.{TreeFacts}
use Rattle.teb_rules.proofs.lemmas.laws.Pivots.{no_stake_pivot}
use Rattle.snapshot_node.specs.Pivots.{is_at_stake, IsPivot}

-- every other transaction at stake was validated before
pub settled : (H : List Event) (t u : ℕ) → is_at_stake H t u ≡ true → u ≢ t → (prepared H u || committed H u) ≡ true
settled H t u h ne = elim (or_cases (eqb u t || prepared H u) (committed H u) h) [
  | inr c ↦ or_right (prepared H u) _ c
  | inl o ↦ elim (or_cases (eqb u t) (prepared H u) o) [ inl e ↦ absurd (ne (eqb-true u t e)) | inr p ↦ or_left (prepared H u) _ p ]
]

module _ (S : Setup) (H : List Event) (n t : ℕ) (l : Lawful S H) (a : TreeFacts S) (k : (row S.tree n).control ≡ Snapshot) (x y c d : ℕ) (p : IsPivot S H n t x y c d) where
  none_settled : (prepared H x || committed H x) ≡ true → (prepared H y || committed H y) ≡ true → (prepared H c || committed H c) ≡ true → (prepared H d || committed H d) ≡ true → ⊥
  none_settled hx hy hc hd = no_stake_pivot S a H n x y c d l k hx hy hc hd p.into.edge p.out.out.edge p.out.batch

  -- a prepared transaction is in no pivot
  pub unprepared : prepared H t ≡ true → ⊥
  unprepared r = none_settled (all x p.into.from) (all y p.into.to) (all c p.out.out.from) (all d p.out.out.to)
    where
      all : (u : ℕ) → is_at_stake H t u ≡ true → (prepared H u || committed H u) ≡ true
      all u h = elim (cases_eq u t) [ inl e ↦ or_left (prepared H u) _ (ap (prepared H) e ∙ r) | inr ne ↦ settled H t u h ne ]

  -- t is one of the four transactions of the pivot
  pub with_t : (P : Type 0) → (x ≡ t → P) → (y ≡ t → P) → (c ≡ t → P) → (d ≡ t → P) → P
  with_t P fx fy fc fd = elim (cases_eq x t) [
    | inl e ↦ fx e
    | inr nx ↦ elim (cases_eq y t) [
      | inl e ↦ fy e
      | inr ny ↦ elim (cases_eq c t) [
        | inl e ↦ fc e
        | inr nc ↦ elim (cases_eq d t) [
          | inl e ↦ fd e
          | inr nd ↦ absurd (none_settled (settled H t x p.into.from nx) (settled H t y p.into.to ny) (settled H t c p.out.out.from nc) (settled H t d p.out.out.to nd))
        ]
      ]
    ]
  ]
