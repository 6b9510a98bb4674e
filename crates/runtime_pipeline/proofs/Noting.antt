-- The cursors after one more event, and what a pipeline control then represents.
use Rattle.std.proofs.Common.{◌≡◌, ◌⊎◌, ℕ, ℤ, suc, ◌<◌, ◌≤◌, Bool, true, false, cond, ◌||◌, ◌&&◌, eqb, List, [], ◌∷◌, ◌++◌, length}
use Rattle.std.proofs.Common.{drop, get_or, Option, Some, None, unwrap_or, refl, sym, ◌∙◌, ap, subst, arith, inl, inr, IsTrue}
use Rattle.std.proofs.lemmas.Bool.{both_ways}
use Rattle.std.proofs.lemmas.List.{get_or_default}
use Rattle.teb_rules.specs.declared.names.Txn.{Txn}
use Rattle.teb_rules.specs.declared.names.Kind.{Kind}
use Rattle.teb_rules.specs.declared.names.Session.{Session}
use Rattle.teb_rules.specs.declared.names.Cause.{Cause}
use Rattle.teb_rules.specs.declared.names.Cell.{Cell}
use Rattle.teb_rules.specs.names.Cells.{same_cell}
use Rattle.teb_rules.specs.declared.history.Event.{Event}
use Rattle.teb_rules.specs.declared.history.Event.TheVariants.{Began, Got, Put, Ready, Done, Gone, Told}
use Rattle.teb_rules.specs.history.Phases.{begun, begun_count, unfinished, spot_of, kind_of}
use Rattle.teb_rules.specs.history.Accesses.{is_put, is_got, put_at, got_at, wrote, got}
use Rattle.teb_rules.proofs.lemmas.history.Any.{came_any}
use Rattle.teb_rules.specs.Setup.{Setup, profile}
use Rattle.teb_rules.specs.Tree.{row}
use Rattle.teb_rules.specs.declared.names.ControlKind.TheVariants.{Pipeline as IsPipeline}
use Rattle.teb_rules.specs.declared.names.Spot.{Spot}
use Rattle.teb_rules.specs.Steps.{cursor, least_step}
use Rattle.phase_api.specs.FactsView.{IsOrderly}
use Rattle.phase_api.specs.Calls.{MayNote}
use Rattle.teb_rules.proofs.lemmas.names.SameCells.{same_itself}
use Rattle.access_conflicts.specs.Registered.{Registered}
use Rattle.access_conflicts.proofs.Orderly.{unfinished_begun, begun_kept, new_accesses_none}
use Rattle.cursor_book.specs.Cursors.{CursorsOf, moved}
use Rattle.cursor_book.proofs.Moves.{cursors_began, cursors_got, cursors_put, cursors_ready, cursors_done, cursors_gone, cursors_told}
use Rattle.runtime_pipeline.specs.declared.pipeline.Pipeline.{Pipeline}
use Rattle.runtime_pipeline.specs.Predecessors.{PredecessorsOf}
use Rattle.runtime_pipeline.specs.Standing.{PipelineStands, RanksOf}
use Rattle.runtime_pipeline.proofs.Said.{has_cursor}

or_off : (a b : Bool) → (a || b) ≡ false → (a ≡ false) × (b ≡ false)
or_off false b h = (refl, h)
or_off true b h = absurd (cc)

-- a transaction without accesses after an event had none before it
pub wrote_before : (e : Event) (P : List Event) (t : ℕ) → ((x : Cell) → wrote (e ∷ P) t x ≡ false) → (x : Cell) → wrote P t x ≡ false
unfolding wrote put_at
wrote_before e P t f x = (or_off (is_put t x e) (wrote P t x) (ap (λ (b : Bool). is_put t x e || b) (came_any (is_put t x) P) ∙ sym (came_any (is_put t x) (e ∷ P)) ∙ f x)).1

pub got_before : (e : Event) (P : List Event) (t : ℕ) → ((x : Cell) → got (e ∷ P) t x ≡ false) → (x : Cell) → got P t x ≡ false
unfolding got got_at
got_before e P t f x = (or_off (is_got t x e) (got P t x) (ap (λ (b : Bool). is_got t x e || b) (came_any (is_got t x) P) ∙ sym (came_any (is_got t x) (e ∷ P)) ∙ f x)).1

pub no_put : (e : Event) (P : List Event) (t : ℕ) (x : Cell) → wrote (e ∷ P) t x ≡ false → is_put t x e ≡ false
unfolding wrote put_at
no_put e P t x h = (or_off (is_put t x e) (wrote P t x) (ap (λ (b : Bool). is_put t x e || b) (came_any (is_put t x) P) ∙ sym (came_any (is_put t x) (e ∷ P)) ∙ h)).0

pub no_got : (e : Event) (P : List Event) (t : ℕ) (x : Cell) → got (e ∷ P) t x ≡ false → is_got t x e ≡ false
unfolding got got_at
no_got e P t x h = (or_off (is_got t x e) (got P t x) (ap (λ (b : Bool). is_got t x e || b) (came_any (is_got t x) P) ∙ sym (came_any (is_got t x) (e ∷ P)) ∙ h)).0

pub other : (a : Bool) (x : Cell) → (a && same_cell x x) ≡ false → a ≡ false
other false x h = refl
other true x h = absurd (both_ways _ h (same_itself x))

cursor_new : (S : Setup) (H : List Event) (t : ℕ) → ((x : Cell) → wrote H t x ≡ false) → ((x : Cell) → got H t x ≡ false) → cursor S H t ≡ 0
unfolding cursor
cursor_new S [] t w g = refl
cursor_new S (Got u x v z ∷ P) t w g =
    let c = cursor S P t in
    ap (λ (b : Bool). cond b (unwrap_or (least_step (profile S (kind_of P t)) c x.table.0) c) c) (other (eqb u.0 t) x (no_got (Got u x v z) P t x (g x)))
    ∙ cursor_new S P t (wrote_before (Got u x v z) P t w) (got_before (Got u x v z) P t g)
cursor_new S (Put u x v ∷ P) t w g =
    let c = cursor S P t in
    ap (λ (b : Bool). cond b (unwrap_or (least_step (profile S (kind_of P t)) c x.table.0) c) c) (other (eqb u.0 t) x (no_put (Put u x v) P t x (w x)))
    ∙ cursor_new S P t (wrote_before (Put u x v) P t w) (got_before (Put u x v) P t g)
cursor_new S (Began u s k i ∷ P) t w g = cursor_new S P t (wrote_before (Began u s k i) P t w) (got_before (Began u s k i) P t g)
cursor_new S (Ready u ∷ P) t w g = cursor_new S P t (wrote_before (Ready u) P t w) (got_before (Ready u) P t g)
cursor_new S (Done u ∷ P) t w g = cursor_new S P t (wrote_before (Done u) P t w) (got_before (Done u) P t g)
cursor_new S (Gone u c ∷ P) t w g = cursor_new S P t (wrote_before (Gone u c) P t w) (got_before (Gone u c) P t g)
cursor_new S (Told u ∷ P) t w g = cursor_new S P t (wrote_before (Told u) P t w) (got_before (Told u) P t g)

-- the stored type is the type with which the transaction began
pub kind_is : (H : List Event) (u : ℕ) (k : Kind) → IsTrue (begun H u) → Some k ≡ cond (begun H u) (Some (spot_of H u).kind) None → k ≡ (spot_of H u).kind
kind_is H u k b e = let z : Some k ≡ Some (spot_of H u).kind = e ∙ ap (λ (b : Bool). cond b (Some (spot_of H u).kind) None) b in cc

-- a begun transaction has a stored type
pub kind_there : (H : List Event) (u : ℕ) → IsTrue (begun H u) → cond (begun H u) (Some (spot_of H u).kind) None ≡ Some (spot_of H u).kind
kind_there H u b = ap (λ (b : Bool). cond b (Some (spot_of H u).kind) None) b

-- the stored profile is the profile of the type
pub profile_is : (S : Setup) (k i : ℕ) (p : List (List ℕ)) → S.types ≤ length S.profiles → k < S.types → i ≡ k → p ≡ get_or S.profiles i p → p ≡ profile S k
profile_is S k i p few l e h = h ∙ get_or_default S.profiles i p [] (omega arith) ∙ ap (λ (j : ℕ). get_or S.profiles j []) e

module _ (S : Setup) (H : List Event) (n : ℕ) (e : Event) (i : H ≡ e ∷ drop 1 H) (m : MayNote S (drop 1 H) n e) (o : IsOrderly S (drop 1 H)) (cs : List ℕ) (k : CursorsOf cs S (drop 1 H)) where
  now : (cs' : List ℕ) (d : Event) → e ≡ d → CursorsOf cs' S (d ∷ drop 1 H) → CursorsOf cs' S H
  now cs' d q h = subst (λ (G : List Event). CursorsOf cs' S G) (sym i) (subst (λ (d : Event). CursorsOf cs' S (d ∷ drop 1 H)) (sym q) h)

  may : (d : Event) → e ≡ d → MayNote S (drop 1 H) n d
  may d q = subst (λ (d : Event). MayNote S (drop 1 H) n d) q m

  pub began_cursors : (t : Txn) (s : Session) (l : Kind) (j : ℕ) → e ≡ Began t s l j → CursorsOf (cs ++ 0 ∷ []) S H
  began_cursors t s l j q =
      let new : t.0 ≡ suc (begun_count (drop 1 H)) = (may (Began t s l j) q).0 in
      let none = λ (x : Cell). new_accesses_none S (drop 1 H) (suc (begun_count (drop 1 H))) x o refl in
      now _ (Began t s l j) q (cursors_began cs S (drop 1 H) t s l j k (cursor_new S (drop 1 H) (suc (begun_count (drop 1 H))) (λ x. (none x).0) (λ x. (none x).1)))

  -- the event is an access of x by t
  abbrev pub Accesses : Txn → Cell → Type 0
  Accesses t x = ((w : Txn) × (v : Option ℤ) × (e ≡ Got t x w v)) ⊎ ((v : Option ℤ) × (e ≡ Put t x v))

  accessor : (t : Txn) (x : Cell) → Accesses t x → IsTrue (unfinished (drop 1 H) t.0)
  accessor t x a = elim a [ inl q ↦ (may (Got t x q.0 q.1) q.2).0 | inr q ↦ (may (Put t x q.0) q.1).0 ]

  pub accessor_cursor : (t : Txn) (x : Cell) → Accesses t x → (0 < t.0) × (t.0 ≤ length cs)
  accessor_cursor t x a = has_cursor cs S (drop 1 H) t.0 o k (unfinished_begun (drop 1 H) t.0 (accessor t x a))

  pub accessor_begun : (t : Txn) (x : Cell) → Accesses t x → IsTrue (begun H t.0)
  accessor_begun t x a = subst (λ (G : List Event). IsTrue (begun G t.0)) (sym i) (begun_kept e (drop 1 H) t.0 (unfinished_begun (drop 1 H) t.0 (accessor t x a)))

  pub accessor_spot : (t : Txn) (x : Cell) → Accesses t x → spot_of H t.0 ≡ spot_of (drop 1 H) t.0
  unfolding spot_of
  accessor_spot t x a = ap (λ (G : List Event). spot_of G t.0) i ∙ elim a [ inl q ↦ ap (λ (d : Event). spot_of (d ∷ drop 1 H) t.0) q.2 | inr q ↦ ap (λ (d : Event). spot_of (d ∷ drop 1 H) t.0) q.1 ]

  pub accessed_cursors : (t : Txn) (x : Cell) (steps : List (List ℕ)) → Accesses t x → steps ≡ profile S (kind_of H t.0) → CursorsOf (moved cs t.0 steps x.table.0) S H
  accessed_cursors t x steps a p =
      let m = o.numbered t.0 (unfinished_begun (drop 1 H) t.0 (accessor t x a)) in
      let same : profile S (kind_of (drop 1 H) t.0) ≡ steps = sym (p ∙ ap (λ (s : Spot). profile S s.kind.0) (accessor_spot t x a)) in
      subst (λ (ss : List (List ℕ)). CursorsOf (moved cs t.0 ss x.table.0) S H) same
      (elim a [
        | inl q ↦ now _ (Got t x q.0 q.1) q.2 (cursors_got cs S (drop 1 H) t x k m.0 m.1 q.0 q.1)
        | inr q ↦ now _ (Put t x q.0) q.1 (cursors_put cs S (drop 1 H) t x k m.0 m.1 q.0)
      ])

  pub left_cursors : ((x : Txn) × (e ≡ Ready x)) ⊎ (((x : Txn) × (e ≡ Done x)) ⊎ (((x : Txn) × (c : Cause) × (e ≡ Gone x c)) ⊎ ((x : Txn) × (e ≡ Told x)))) → CursorsOf cs S H
  left_cursors a = elim a [
    | inl q ↦ now cs (Ready q.0) q.1 (cursors_ready cs S (drop 1 H) q.0 k)
    | inr b ↦ elim b [
      | inl q ↦ now cs (Done q.0) q.1 (cursors_done cs S (drop 1 H) q.0 k)
      | inr d ↦ elim d [
        | inl q ↦ now cs (Gone q.0 q.1) q.2 (cursors_gone cs S (drop 1 H) q.0 q.1 k)
        | inr q ↦ now cs (Told q.0) q.1 (cursors_told cs S (drop 1 H) q.0 k)
      ]
    ]
  ]

pub stands_next : (S : Setup) (P H : List Event) (c c' : Pipeline) → c'.register.node.0 ≡ c.register.node.0 → c'.ranks ≡ c.ranks → PipelineStands c S P → Registered c'.register S H
    → CursorsOf c'.cursors.cursors S H
    → PredecessorsOf c'.predecessors S H c'.register.node.0 → PipelineStands c' S H
stands_next S P H c c' e r s h k p = record {
  kind = subst (λ (m : ℕ). (row S.tree m).control ≡ IsPipeline) (sym e) s.kind;
  profiled = s.profiled;
  register = h;
  ranks = subst (λ (m : ℕ). RanksOf c'.ranks S m) (sym e) (subst (λ (rs : List ℕ). RanksOf rs S c.register.node.0) (sym r) s.ranks);
  cursors = k;
  predecessors = p;
}
