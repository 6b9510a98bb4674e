-- If a reader's batch closed before another starts, the batches of all earlier readers started before it too.
use Rattle.std.proofs.Common.{◌≡◌, ℕ, ◌<◌, ◌≤◌, Bool, true, false, cond, ◌&&◌, ◌||◌, eqb, List, [], ◌∷◌, ◌++◌, length, refl, sym, ◌∙◌, subst, arith, le-ltb}
use Rattle.std.proofs.lemmas.Bool.{and_left, and_right}
use Rattle.teb_rules.specs.declared.names.Txn.{Txn}
use Rattle.teb_rules.specs.declared.names.Cell.{Cell}
use Rattle.teb_rules.specs.names.Cells.{same_cell}
use Rattle.teb_rules.specs.declared.history.Event.{Event}
use Rattle.teb_rules.specs.declared.history.Event.TheVariants.{Began, Got, Put, Ready, Done, Gone, Told}
use Rattle.teb_rules.specs.history.Positions.{first}
use Rattle.teb_rules.specs.history.Phases.{is_began, begun, unfinished}
use Rattle.teb_rules.specs.Setup.{Setup}
use Rattle.teb_rules.specs.Tree.{on, side, meets}
use Rattle.teb_rules.specs.Batches.{idle, start, close}
use Rattle.teb_rules.specs.Versions.{precedes}
use Rattle.teb_rules.proofs.lemmas.laws.Positions.{first-le, before, now, later, first_cases}
use Rattle.phase_api.specs.Calls.{MayNote}
use Rattle.access_conflicts.proofs.Orderly.{unfinished_begun, begun_kept}
use Rattle.batch_book.specs.Histories.{IsNumbered}
use Rattle.batch_book.proofs.Numbered.{begins_once, unfinished_kept, on_kept, side_kept}
use Rattle.batch_book.proofs.Closings.{open_late, unfinished_open}
use Rattle.batch_book.proofs.Intervals.{start_kept, start-lt}
use Rattle.timestamp_node.specs.Reads.{all_reads, reads, IsTimely}
use Rattle.timestamp_node.specs.Late.{is_after}
use Rattle.timestamp_node.proofs.Readers.{AllOf, all_map, all_push, IsRead, reads_are}
use Rattle.timestamp_node.proofs.OrderedLists.{IsOrderedBy, all_within, ordered_push, ordered_filter, ordered_map, ordered_upto}

close_unfinished : (S : Setup) (H : List Event) (n u : ℕ) → IsNumbered H → unfinished H u ≡ true → on S H n u ≡ true → length H ≤ close S H n u
close_unfinished S H n u l h o = open_late S H n u (unfinished_open S H n u l h o)

-- one more event never makes a batch close earlier
first_grows : (p : List Event → Bool) (e : Event) (P : List Event) → first p P ≤ first p (e ∷ P)
first_grows p e P = let z = first-le p P in elim (first_cases p e P) [ before a b ↦ omega arith | now a b c ↦ omega arith | later a b c ↦ omega arith ]

close_grows : (S : Setup) (e : Event) (P : List Event) (n u : ℕ) → is_began u e ≡ false → close S P n u ≤ close S (e ∷ P) n u
unfolding close
close_grows S e P n u h =
    subst (λ (s : ℕ). first (λ Q. begun Q u && idle S Q n (side S P n u)) P ≤ first (λ Q. begun Q u && idle S Q n s) (e ∷ P)) (sym (side_kept S e P n u h))
    (first_grows (λ Q. begun Q u && idle S Q n (side S P n u)) e P)

-- if the second reader is on the node, its batch closes after the start of the first reader's batch
abbrev StartsBefore : Setup → List Event → ℕ → Txn × Txn → Txn × Txn → Type 0
StartsBefore S H n a b = on S H n b.0.0 ≡ true → start S H n a.0.0 < close S H n b.0.0

starts_kept : (S : Setup) (e : Event) (P : List Event) (n : ℕ) → IsNumbered (e ∷ P) → (a b : Txn × Txn) → begun P a.0.0 ≡ true → begun P b.0.0 ≡ true → StartsBefore S P n a b
    → StartsBefore S (e ∷ P) n a b
unfolding IsNumbered
starts_kept S e P n l a b f g h o =
    let ka = begins_once e P a.0.0 l.1 l.0 f in
    let kb = begins_once e P b.0.0 l.1 l.0 g in
    let s = start_kept S e P n a.0.0 f ka in
    let c = close_grows S e P n b.0.0 kb in
    let w = h (sym (on_kept S e P n b.0.0 kb) ∙ o) in
    omega arith

-- every reader has begun
readers_begun : (P : List Event) (x : Cell) → IsTimely P → AllOf (λ r. begun P r.0.0 ≡ true) (all_reads P x)
unfolding all_reads IsTimely
readers_begun [] x k = tt
readers_begun (Got t y w v ∷ P) x k = go (same_cell y x) (all_map _ _ (λ r h. begun_kept (Got t y w v) P r.0.0 h) (all_reads P x) (readers_begun P x k.1))
  where
    go : (b : Bool) → AllOf (λ r. begun (Got t y w v ∷ P) r.0.0 ≡ true) (all_reads P x) → AllOf (λ r. begun (Got t y w v ∷ P) r.0.0 ≡ true) (cond b (all_reads P x ++ (t, w) ∷ []) (all_reads P x))
    go true o = all_push _ (all_reads P x) (t, w) o (begun_kept (Got t y w v) P t.0 (unfinished_begun P t.0 k.0))
    go false o = o
readers_begun (e ∷ P) x k = all_map _ _ (λ r h. begun_kept e P r.0.0 h) (all_reads P x) (readers_begun P x k)

-- the batch of each reader closes after the batches of the earlier readers have started
all_ordered : (S : Setup) (n : ℕ) (P : List Event) (x : Cell) → IsNumbered P → IsTimely P → IsOrderedBy (StartsBefore S P n) (all_reads P x)
unfolding all_reads IsTimely IsNumbered
all_ordered S n [] x l k = unfold IsOrderedBy in tt
all_ordered S n (Got t y w v ∷ P) x l k =
    go (same_cell y x) (ordered_map _ _ (StartsBefore S (Got t y w v ∷ P) n) (λ a b f g h. starts_kept S (Got t y w v) P n l a b f g h) (all_reads P x) (readers_begun P x k.1)
    (all_ordered S n P x l.1 k.1))
  where
    last : (a : Txn × Txn) → begun P a.0.0 ≡ true → StartsBefore S (Got t y w v ∷ P) n a (t, w)
    last a f o =
        let s = start-lt S (Got t y w v ∷ P) n a.0.0 (begun_kept (Got t y w v) P a.0.0 f) in
        let c = close_unfinished S (Got t y w v ∷ P) n t.0 l (unfinished_kept (Got t y w v) P t.0 refl refl refl ∙ k.0) o in
        omega arith

    go : (b : Bool) → IsOrderedBy (StartsBefore S (Got t y w v ∷ P) n) (all_reads P x) → IsOrderedBy (StartsBefore S (Got t y w v ∷ P) n) (cond b (all_reads P x ++ (t, w) ∷ []) (all_reads P x))
    go true o = ordered_push _ (all_reads P x) (t, w) o (all_map _ _ last (all_reads P x) (readers_begun P x k.1)) (last (t, w) (unfinished_begun P t.0 k.0))
    go false o = o
all_ordered S n (e ∷ P) x l k = ordered_map _ _ (StartsBefore S (e ∷ P) n) (λ a b f g h. starts_kept S e P n l a b f g h) (all_reads P x) (readers_begun P x k) (all_ordered S n P x l.1 k)

pub read_at : (S : Setup) (H : List Event) (n : ℕ) (x : Cell) (front : List (Txn × Txn)) (r : Txn × Txn) (behind : List (Txn × Txn)) → reads S H n x ≡ front ++ r ∷ behind → IsRead S H n x r
read_at S H n x front r behind e = all_within (IsRead S H n x) front r behind (subst (AllOf (IsRead S H n x)) e (reads_are S H n x))

module _ (S : Setup) (H : List Event) (n : ℕ) (x : Cell) (t : ℕ) (l : IsNumbered H) (k : IsTimely H) where
  -- up to a read whose reader's batch closed before t's starts, all readers' batches started before t's
  pub older_reads : (front : List (Txn × Txn)) (r : Txn × Txn) (behind : List (Txn × Txn)) → reads S H n x ≡ front ++ r ∷ behind → close S H n r.0.0 < start S H n t
      → AllOf (λ u. start S H n u.0.0 < start S H n t) (front ++ r ∷ [])
  unfolding reads
  older_reads front r behind e c =
      let o = subst (IsOrderedBy (StartsBefore S H n)) e (ordered_filter (StartsBefore S H n) _ (all_reads H x) (all_ordered S n H x l k)) in
      let is = read_at S H n x front r behind e in
      all_map _ _ (λ u h. let z = h is.here in omega arith) (front ++ r ∷ []) (ordered_upto (StartsBefore S H n) front r behind o)

  -- so t's write is not too late for any of them
  pub older_in_time : (front : List (Txn × Txn)) (r : Txn × Txn) (behind : List (Txn × Txn)) → reads S H n x ≡ front ++ r ∷ behind → close S H n r.0.0 < start S H n t
      → AllOf (λ u. is_after S H n t x u ≡ false) (front ++ r ∷ [])
  older_in_time front r behind e c = all_map _ _ (λ u h. and_left _ (eqb u.1.0 t || precedes S H x u.1.0 t) (and_right (meets S H n t u.0.0) _ (le-ltb _ _ (omega (arith, h))))) (front ++ r ∷ [])
      (older_reads front r behind e c)

-- reads stay timely
pub timely_next : (S : Setup) (P : List Event) (n : ℕ) (e : Event) → MayNote S P n e → IsTimely P → IsTimely (e ∷ P)
unfolding IsTimely
timely_next S P n (Began t s c i) m k = k
timely_next S P n (Got t x w v) m k = (m.0, k)
timely_next S P n (Put t x v) m k = k
timely_next S P n (Ready t) m k = k
timely_next S P n (Done t) m k = k
timely_next S P n (Gone t c) m k = k
timely_next S P n (Told t) m k = k
