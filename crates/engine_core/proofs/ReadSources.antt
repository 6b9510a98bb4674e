-- A transaction that was read from still has its version.
use Rattle.std.proofs.Common.{ℕ, ◌≡◌, true, false, not, ◌&&◌, eqb, List, [], ◌∷◌, sym, subst, ◌∙◌, ◌⊎◌, inl, inr, eqb-true, filter}
use Rattle.std.proofs.lemmas.Bool.{cases_Bool, and_parts, and_from, or_cases, or_left, or_right, not_from_false}
use Rattle.std.specs.List.{list_any}
use Rattle.teb_rules.specs.declared.names.Cell.{Cell}
use Rattle.teb_rules.specs.declared.names.Txn.{Txn}
use Rattle.teb_rules.specs.names.Cells.{same_cell}
use Rattle.teb_rules.specs.declared.history.Event.{Event}
use Rattle.teb_rules.specs.declared.history.Event.TheVariants.{Began, Got, Put, Ready, Done, Gone, Told}
use Rattle.teb_rules.specs.history.Phases.{aborted, txns}
use Rattle.teb_rules.specs.history.Accesses.{is_put, put_at, wrote, is_from, read_from}
use Rattle.teb_rules.proofs.lemmas.history.Any.{came_any}
use Rattle.teb_rules.specs.Setup.{Setup}
use Rattle.teb_rules.specs.Versions.{sees}
use Rattle.teb_rules.specs.laws.Lawful.{Granted, Lawful, Settled}
use Rattle.teb_rules.proofs.lemmas.laws.ReadRule.{from_own, from_seen, from_row, read_case, latest-some, sees_parts}
use Rattle.teb_rules.proofs.lemmas.laws.Serial.{filter-In}
use Rattle.teb_rules.proofs.lemmas.names.SameCells.{same_cell-true}
use Rattle.phase_api.specs.Versions.{reads_from, SourcesStand}

wrote_after : (e : Event) (P : List Event) (w : ℕ) (x : Cell) → wrote P w x ≡ true → wrote (e ∷ P) w x ≡ true
unfolding wrote put_at
wrote_after e P w x h = came_any (is_put w x) (e ∷ P) ∙ or_right (is_put w x e) (list_any (is_put w x) P) (sym (came_any (is_put w x) P) ∙ h)

-- a Got reads from the starting row or from a transaction that has put the cell
got_wrote : (S : Setup) (P : List Event) (t : Txn) (x : Cell) (w : Txn) (v : _) → Granted S P (Got t x w v) → (w.0 ≡ 0) ⊎ (wrote P w.0 x ≡ true)
got_wrote S P t x w v g = elim (read_case S P t.0 x w.0 g.1) [
  | from_own p e ↦ inr (subst (λ (u : ℕ). wrote P u x ≡ true) (sym e) p)
  | from_seen p q ↦ inr (sees_parts S P x t.0 w.0 (filter-In (sees S P x t.0) w.0 (txns P) (latest-some S P x (filter (sees S P x t.0) (txns P)) w.0 q).0).1).1
  | from_row p q e ↦ inl e
]

read_wrote : (S : Setup) (P : List Event) (e : Event) (u w : ℕ) (x : Cell) → Granted S P e → reads_from u x w e ≡ true → (w ≡ 0) ⊎ (wrote P w x ≡ true)
read_wrote S P (Got t y v c) u w x g h =
    let a = and_parts (eqb t.0 u && same_cell y x) (eqb v.0 w) h in
    let b = and_parts (eqb t.0 u) (same_cell y x) a.0 in
    subst (λ (z : ℕ). (z ≡ 0) ⊎ (wrote P z x ≡ true)) (eqb-true v.0 w a.1) (subst (λ (z : Cell). (v.0 ≡ 0) ⊎ (wrote P v.0 z ≡ true)) (same_cell-true y x b.1) (got_wrote S P t y v c g))
read_wrote S P (Began t s k i) u w x g h = absurd (cc)
read_wrote S P (Put t y v) u w x g h = absurd (cc)
read_wrote S P (Ready t) u w x g h = absurd (cc)
read_wrote S P (Done t) u w x g h = absurd (cc)
read_wrote S P (Gone t c) u w x g h = absurd (cc)
read_wrote S P (Told t) u w x g h = absurd (cc)

source_wrote : (S : Setup) (H : List Event) (u w : ℕ) (x : Cell) → Lawful S H → list_any (reads_from u x w) H ≡ true → (w ≡ 0) ⊎ (wrote H w x ≡ true)
unfolding Lawful
source_wrote S [] u w x l h = absurd (cc)
source_wrote S (e ∷ P) u w x l h =
    let still : (w ≡ 0) ⊎ (wrote P w x ≡ true) → (w ≡ 0) ⊎ (wrote (e ∷ P) w x ≡ true) = λ c. elim c [ inl z ↦ inl z | inr p ↦ inr (wrote_after e P w x p) ] in
    elim (or_cases (reads_from u x w e) (list_any (reads_from u x w) P) h) [
      | inl a ↦ still (read_wrote S P e u w x l.0 a)
      | inr b ↦ still (source_wrote S P u w x l.1 b)
    ]

-- a read by u from a different transaction w is a read from another transaction
from_other : (u w : ℕ) (x : Cell) (e : Event) → eqb u w ≡ false → reads_from u x w e ≡ true → is_from u w e ≡ true
from_other u w x (Got t y v c) n h =
    let a = and_parts (eqb t.0 u && same_cell y x) (eqb v.0 w) h in
    let b = and_parts (eqb t.0 u) (same_cell y x) a.0 in
    and_from _ _ (and_from _ _ b.0 a.1) (not_from_false _ n)
from_other u w x (Began t s k i) n h = absurd (cc)
from_other u w x (Put t y v) n h = absurd (cc)
from_other u w x (Ready t) n h = absurd (cc)
from_other u w x (Done t) n h = absurd (cc)
from_other u w x (Gone t c) n h = absurd (cc)
from_other u w x (Told t) n h = absurd (cc)

reads_other : (H : List Event) (u w : ℕ) (x : Cell) → eqb u w ≡ false → list_any (reads_from u x w) H ≡ true → list_any (is_from u w) H ≡ true
reads_other [] u w x n h = absurd (cc)
reads_other (e ∷ P) u w x n h = elim (or_cases (reads_from u x w e) (list_any (reads_from u x w) P) h) [
  | inl a ↦ or_left (is_from u w e) (list_any (is_from u w) P) (from_other u w x e n a)
  | inr b ↦ or_right (is_from u w e) (list_any (is_from u w) P) (reads_other P u w x n b)
]

source_kept : (H : List Event) (u w : ℕ) (x : Cell) → Settled H → aborted H u ≡ false → list_any (reads_from u x w) H ≡ true → aborted H w ≡ false
unfolding read_from
source_kept H u w x s k h = elim (cases_Bool (eqb u w)) [
  | inl e ↦ subst (λ (z : ℕ). aborted H z ≡ false) (eqb-true u w e) k
  | inr n ↦ s u w k (reads_other H u w x n h)
]

pub sources_stand : (S : Setup) (H : List Event) (x : Cell) → Lawful S H → Settled H → SourcesStand H x
sources_stand S H x l s u w k h = elim (source_wrote S H u w x l h) [
  | inl z ↦ inl z
  | inr p ↦ inr (and_from (wrote H w x) (not (aborted H w)) p (not_from_false (aborted H w) (source_kept H u w x s k h)))
]
