-- Whether a transaction's version follows those of all committed transactions in a chain.
use Rattle.std.proofs.Common.{◌≡◌, ◌⊎◌, ◌<◌, ℕ, Bool, true, false, not, ◌&&◌, eqb, List, Some, None, refl, sym, ap, subst, ◌∙◌, arith, inl, inr, length, get_or, eqb-true, le-ltb}
use Rattle.std.proofs.lemmas.Bool.{eq-eqb, both_ways, cases_order, cases_Bool, and_from, and_parts, or_cases, or_left, or_right, not-true, not_from_false, false_from_ne_true, eqb-false}
use Rattle.teb_rules.specs.declared.names.Cell.{Cell}
use Rattle.teb_rules.specs.declared.history.Event.{Event}
use Rattle.teb_rules.specs.history.Phases.{txns, committed, aborted}
use Rattle.teb_rules.specs.history.Accesses.{wrote}
use Rattle.teb_rules.specs.Setup.{Setup}
use Rattle.teb_rules.specs.Serializes.{In}
use Rattle.teb_rules.specs.Versions.{precedes}
use Rattle.teb_rules.specs.laws.Lawful.{Lawful}
use Rattle.teb_rules.proofs.lemmas.laws.Locks.{In-txns}
use Rattle.teb_rules.proofs.lemmas.laws.Ranks.{commits}
use Rattle.teb_rules.proofs.lemmas.laws.ReadRule.{list_all_at, list_all_from}
use Rattle.teb_rules.proofs.lemmas.laws.Serial.{commits_from}
use Rattle.teb_rules.proofs.lemmas.laws.VersionOrder.{precedes_irreflexive}
use Rattle.version_chain.specs.Lists.{Version, writers_of}
use Rattle.version_chain.proofs.Places.{IsLast}
use Rattle.phase_api.specs.Versions.{HoldsVersions}
use Rattle.candidate_reads.proofs.InOrder.{among_In, In_among, at-In, In-at, Pairs-at}
use Rattle.candidate_reads.proofs.Shows.{version_parts}
use Rattle.candidate_reads.proofs.Sources.{Strict, writer_began}
use Rattle.commit_laws.specs.Records.{is_newest}
use Rattle.commit_journal.specs.Kept.{counts}

module _ (S : Setup) (H : List Event) (x : Cell) (L : Cell → List Version) (l : Lawful S H) (h : HoldsVersions S H L) (t : ℕ) (put : wrote H t x ≡ true) (stands : aborted H t ≡ false) where
  abbrev ws : List ℕ
  ws = writers_of (L x)

  abbrev p : ℕ → Bool
  p w = counts H t w

  committed_stands : (w : ℕ) → committed H w ≡ true → aborted H w ≡ false
  unfolding aborted
  committed_stands w c = le-ltb _ _ (commits S H w l (commits_from H w c)).1

  there : (w : ℕ) → wrote H w x ≡ true → aborted H w ≡ false → In w ws
  there w a b = among_In w ws (h.writers x w ∙ and_from _ _ a (not_from_false _ b))

  has_put : (w : ℕ) → In w ws → wrote H w x ≡ true
  has_put w i = (version_parts H x w (sym (h.writers x w) ∙ In_among w ws i)).0

  own : (k : ℕ) × (k < length ws) × (get_or ws k 0 ≡ t)
  own = In-at t ws (there t put stands)

  passes : p t ≡ true
  passes = or_left _ _ (eq-eqb t t refl)

  pub nobody : IsLast p ws None → ⊥
  nobody r = both_ways _ (r own.0 (omega arith) own.1) (subst (λ (z : ℕ). p z ≡ true) (sym own.2) passes)

  module _ (i : ℕ) (r : IsLast p ws (Some i)) where
    abbrev pub w : ℕ
    w = get_or ws i 0

    -- an element that passes is at i or before it
    low : (k v : ℕ) → k < length ws → get_or ws k 0 ≡ v → p v ≡ true → (k ≡ i) ⊎ (k < i)
    low k v lt is ok = elim (cases_order k i) [
      | inl e ↦ inl e
      | inr o ↦ elim o [ inl below ↦ inr below | inr above ↦ absurd (both_ways _ (r.2 k above lt) (subst (λ (z : ℕ). p z ≡ true) (sym is) ok)) ]
    ]

    none_follows : w ≡ t → (v : ℕ) → committed H v ≡ true → wrote H v x ≡ true → precedes S H x t v ≡ false
    none_follows e v c a =
        let at = In-at v ws (there v a (committed_stands v c)) in
        elim (low at.0 v at.1 at.2 (or_right _ _ c)) [
          | inl q ↦ (let same : t ≡ v = sym e ∙ ap (λ (k : ℕ). get_or ws k 0) (sym q) ∙ at.2 in subst (λ (z : ℕ). precedes S H x t z ≡ false) same (precedes_irreflexive S H x t))
          | inr below ↦ (let s = Pairs-at (Strict S H x) ws at.0 i (h.order x) below r.0 in
              subst (λ (z : ℕ). precedes S H x t z ≡ false) at.2 (subst (λ (z : ℕ). precedes S H x z (get_or ws at.0 0) ≡ false) e s.1))
        ]

    tops : w ≡ t → is_newest S H t x ≡ true
    unfolding is_newest
    tops e = list_all_from _ (txns H) (λ v j. not_from_false _ (false_from_ne_true _ (λ q.
        let a = and_parts _ _ q in
        let b = and_parts _ _ a.0 in
        both_ways _ (none_follows e v b.0 b.1) a.1)))

    is_followed : (w ≡ t → ⊥) → is_newest S H t x ≡ false
    unfolding is_newest
    is_followed ne =
        let here = at-In ws i r.0 in
        let c : committed H w ≡ true = elim (or_cases _ _ r.1) [ inl q ↦ absurd (ne (eqb-true _ _ q)) | inr q ↦ q ] in
        let ahead : precedes S H x t w ≡ true = elim (low own.0 t own.1 own.2 passes) [
          | inl q ↦ absurd (ne (ap (λ (k : ℕ). get_or ws k 0) (sym q) ∙ own.2))
          | inr below ↦ subst (λ (z : ℕ). precedes S H x z w ≡ true) own.2 (Pairs-at (Strict S H x) ws own.0 i (h.order x) below r.0).0
        ] in
        false_from_ne_true _ (λ all.
        let y = list_all_at (λ v. not (committed H v && wrote H v x && precedes S H x t v)) (txns H) w all (In-txns S H w l (writer_began S H w x l (has_put w here))) in
        both_ways _ (not-true _ y) (and_from _ _ (and_from _ _ c (has_put w here)) ahead))

    pub found : is_newest S H t x ≡ eqb w t
    found = elim (cases_Bool (eqb w t)) [
      | inl e ↦ tops (eqb-true _ _ e) ∙ sym e
      | inr e ↦ is_followed (eqb-false _ _ e) ∙ sym e
    ]
