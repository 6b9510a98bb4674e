-- Versions and cursors after an event.
use Rattle.std.proofs.Common.{◌≡◌, ℕ, zero, suc, ◌<◌, List, [], ◌∷◌, length, Option, Some, ℤ, slice_get, refl, sym, subst, arith, IsFalse}
use Rattle.std.specs.Prelude.{insert}
use Rattle.teb_rules.specs.declared.names.Cell.{Cell}
use Rattle.teb_rules.specs.declared.names.Txn.{Txn}
use Rattle.teb_rules.specs.declared.names.Cause.{Cause}
use Rattle.teb_rules.specs.names.Cells.{same_cell}
use Rattle.teb_rules.specs.declared.history.Event.{Event}
use Rattle.teb_rules.specs.declared.history.Event.TheVariants.{Began, Got, Put, Ready, Done, Gone, Told}
use Rattle.teb_rules.specs.Setup.{Setup}
use Rattle.teb_rules.specs.laws.TreeFacts.{TreeFacts}
use Rattle.teb_rules.specs.laws.Lawful.{Lawful}
use Rattle.version_chain.specs.Lists.{Version, writers_of, is_writer, set_value, without}
use Rattle.phase_api.specs.Versions.{HoldsVersions}
use Rattle.candidate_reads.specs.Kept.{LeavesVersions}
use Rattle.candidate_reads.proofs.KeptVersions.{versions_kept}
use Rattle.candidate_reads.proofs.PutVersions.{versions_overwritten, versions_placed}
use Rattle.candidate_reads.proofs.GoneVersions.{versions_removed}
use Rattle.candidate_reads.specs.declared.placing.Place.{Place}
use Rattle.engine_core.specs.Keeping.{PutsAt}

-- a place that holds a version is within the list
pub place_within : (vs : List Version) (i w : ℕ) → slice_get (writers_of vs) i ≡ Some w → i < length vs
place_within [] i w e = absurd (cc)
place_within (v ∷ vs) zero w e = omega arith
place_within (v ∷ vs) (suc i) w e = let h = place_within vs i w e in omega arith

module _ (e : Event) (p : Place) (L M : Cell → List Version) (S : Setup) (P : List Event) (a : TreeFacts S) (l : Lawful S (e ∷ P)) (h : HoldsVersions S P L) where
  pub after_overwrite : (t : Txn) (x : Cell) (v : Option ℤ) → e ≡ Put t x v → slice_get (writers_of (L x)) p.at ≡ Some t.0 → M x ≡ set_value p.at v (L x)
      → ((y : Cell) → IsFalse (same_cell y x) → M y ≡ L y) → HoldsVersions S (e ∷ P) M
  after_overwrite t x v q o m k = subst (λ (d : Event). HoldsVersions S (d ∷ P) M) (sym q) (versions_overwritten S a t x v P L M p.at (subst (λ (d : Event). Lawful S (d ∷ P)) q l) h o m k)

  pub after_place : (t : Txn) (x : Cell) (v : Option ℤ) → e ≡ Put t x v → IsFalse (is_writer (L x) t.0) → PutsAt S P L e p → M x ≡ insert (L x) p.at (t, v)
      → ((y : Cell) → IsFalse (same_cell y x) → M y ≡ L y) → HoldsVersions S (e ∷ P) M
  after_place t x v q n o m k = subst (λ (d : Event). HoldsVersions S (d ∷ P) M) (sym q)
      (versions_placed S a t x v P L M p.at (subst (λ (d : Event). Lawful S (d ∷ P)) q l) h n (subst (λ (d : Event). PutsAt S P L d p) q o) m k)

  pub after_removal : (t : Txn) (c : Cause) → e ≡ Gone t c → ((x : Cell) → M x ≡ without t.0 (L x)) → HoldsVersions S (e ∷ P) M
  after_removal t c q m = subst (λ (d : Event). HoldsVersions S (d ∷ P) M) (sym q) (versions_removed S a t c P L M (subst (λ (d : Event). Lawful S (d ∷ P)) q l) h m)

leaves : (e : Event) → ((t : Txn) (x : Cell) (v : Option ℤ) → e ≡ Put t x v → ⊥) → ((t : Txn) (c : Cause) → e ≡ Gone t c → ⊥) → LeavesVersions e
leaves (Put t x v) p g = absurd (p t x v refl)
leaves (Gone t c) p g = absurd (g t c refl)
leaves (Began t s k i) p g = tt
leaves (Got t x w v) p g = tt
leaves (Ready t) p g = tt
leaves (Done t) p g = tt
leaves (Told t) p g = tt

pub after_others : (e : Event) (L : Cell → List Version) (S : Setup) (P : List Event) → TreeFacts S → Lawful S (e ∷ P) → HoldsVersions S P L → ((t : Txn) (x : Cell) (v : Option ℤ) → e ≡ Put t x v → ⊥)
    → ((t : Txn) (c : Cause) → e ≡ Gone t c → ⊥) → HoldsVersions S (e ∷ P) L
after_others e L S P a l h p g = versions_kept S a e P L l (leaves e p g) h
