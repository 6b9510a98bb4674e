-- Writes at a snapshot node: each writer of another side that is not aborted is committed, and its batch is closed.
use Rattle.std.proofs.Common.{◌≡◌, ℕ, ◌<◌, ◌≤◌, min, true, ◌&&◌, List, None, ◌∙◌, subst, inl, inr, arith, length, lt-ltb, le-ltb, find}
use Rattle.std.proofs.lemmas.Bool.{cases_lt, both_ways, and_from, not_from_false}
use Rattle.teb_rules.specs.declared.names.Cell.{Cell}
use Rattle.teb_rules.specs.declared.history.Event.{Event}
use Rattle.teb_rules.specs.declared.names.ControlKind.{ControlKind}
use Rattle.teb_rules.specs.declared.names.ControlKind.TheVariants.{Snapshot}
use Rattle.teb_rules.specs.history.Accesses.{put_at, wrote}
use Rattle.teb_rules.specs.history.Phases.{txns, began_at, done_at, gone_at, begun, committed, unfinished}
use Rattle.teb_rules.specs.history.Positions.{upto}
use Rattle.teb_rules.specs.laws.Lawful.{Lawful, MayAccess}
use Rattle.teb_rules.specs.Batches.{idle, start, close}
use Rattle.teb_rules.specs.Controls.{is_first, on_access}
use Rattle.teb_rules.specs.Setup.{Setup}
use Rattle.teb_rules.specs.Tree.{row, side, meets}
use Rattle.teb_rules.specs.declared.Verdict.TheVariants.{Go}
use Rattle.teb_rules.proofs.lemmas.laws.Positions.{first-upto}
use Rattle.teb_rules.proofs.lemmas.laws.Timeline.{Lawful-upto, upto-unfinished, begun_there, on-upto, side-upto, meets-upto, wrote-upto, committed-upto}
use Rattle.teb_rules.proofs.lemmas.laws.Locks.{In-txns}
use Rattle.teb_rules.proofs.lemmas.laws.Nodes.{meets_parts}
use Rattle.teb_rules.proofs.lemmas.laws.Ranks.{start-upto}
use Rattle.teb_rules.proofs.lemmas.laws.Intervals.{interval}
use Rattle.teb_rules.proofs.lemmas.laws.Locks.{find_none, go_none}
use Rattle.teb_rules.proofs.lemmas.laws.Ranks.{or_else_go}
use Rattle.teb_rules.proofs.lemmas.laws.StampsLaw.{no_break}

pub close-upto : (S : Setup) (H : List Event) (i n t : ℕ) → Lawful S H → i ≤ length H → began_at H t < i → close S (upto i H) n t ≡ min i (close S H n t)
unfolding close
close-upto S H i n t l h b = rw (side-upto S H i n t l h b) (first-upto (λ (P : List Event). begun P t && idle S P n (side S H n t)) i H h)

snapshot_access : (S : Setup) (Q : List Event) (n t : ℕ) (x : Cell) → on_access Snapshot S Q n t x true ≡ Go → (find (is_first S Q n t x) (txns Q) ≡ None)
    × (find (λ u. unfinished Q u && meets S Q n t u && wrote Q u x) (txns Q) ≡ None)
unfolding on_access
snapshot_access S Q n t x e = let r = or_else_go _ _ e in (no_break _ _ r.0, go_none _ r.1)

first_from : (S : Setup) (Q : List Event) (n t u : ℕ) (x : Cell) → meets S Q n t u ≡ true → committed Q u ≡ true → wrote Q u x ≡ true → start S Q n t ≤ close S Q n u → is_first S Q n t x u ≡ true
unfolding is_first
first_from S Q n t u x a b c d = and_from _ _ (and_from _ _ (and_from _ _ a b) c) (not_from_false _ (le-ltb _ _ d))

-- at a write of w that a snapshot node does not stop, each writer of the cell on another side is aborted, or is committed and its batch closed before w's started
pub snapshot_write : (S : Setup) (H : List Event) (j n w u : ℕ) (x : Cell) → Lawful S H → j ≤ length H → MayAccess S (upto j H) w x true → (row S.tree n).control ≡ Snapshot → meets S H n w u ≡ true
    → began_at H w < j → began_at H u < j → put_at H u x < j → j ≤ gone_at H u →
    (done_at H u < j) × (close S H n u < start S H n w)
snapshot_write S H j n w u x l h may c m bw bu p g =
    let f = subst (λ (k : ControlKind). on_access k S (upto j H) n w x true ≡ Go) c (may.free n (on-upto S H j n w l h bw ∙ (meets_parts S H n w u m).0)) in
    let a = snapshot_access S (upto j H) n w x f in
    let iu = In-txns S (upto j H) u (Lawful-upto S H j l) (begun_there H j u h bu) in
    let q1 = find_none _ (txns (upto j H)) u a.0 iu in
    let q2 = find_none _ (txns (upto j H)) u a.1 iu in
    let mm = meets-upto S H j n w u l h bw bu ∙ m in
    let ww = wrote-upto H j u x h ∙ lt-ltb _ _ p in
    let d : done_at H u < j = elim (cases_lt (done_at H u) j) [ inl r ↦ r | inr r ↦ absurd (both_ways _ q2 (and_from _ _ (and_from _ _ (upto-unfinished H j u h bu r g) mm) ww)) ] in
    let sw = (interval S H n w l (let z : began_at H w < length H = omega arith in z) (meets_parts S H n w u m).0).by_began in (
      d,
      elim (cases_lt (close S H n u) (start S H n w)) [
        | inl r ↦ r
        | inr r ↦ absurd (both_ways _ q1 (first_from S (upto j H) n w u x mm (committed-upto H j u h ∙ lt-ltb _ _ d) ww
            (rw (start-upto S H j n w l h bw, close-upto S H j n u l h bu) (let z : start S H n w ≤ min j (close S H n u) = omega arith in z))))
      ],
    )
