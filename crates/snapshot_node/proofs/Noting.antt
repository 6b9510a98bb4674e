-- What a snapshot control represents after one more event.
use Rattle.std.proofs.Common.{◌≡◌, ℕ, ℤ, suc, ◌+◌, ◌<◌, ◌≤◌, Bool, true, false, cond, not, eqb, ◌&&◌, ◌||◌, List, ◌∷◌, Option, drop, length, refl, sym, ◌∙◌, ap, subst, eq-eqb}
use Rattle.teb_rules.specs.declared.names.Cell.{Cell}
use Rattle.teb_rules.specs.declared.names.Txn.{Txn}
use Rattle.teb_rules.specs.declared.names.Spot.{Spot}
use Rattle.teb_rules.specs.declared.names.Cause.{Cause}
use Rattle.teb_rules.specs.declared.names.Session.{Session}
use Rattle.teb_rules.specs.declared.names.Kind.{Kind}
use Rattle.teb_rules.specs.names.Cells.{same_cell}
use Rattle.teb_rules.specs.declared.history.Event.{Event}
use Rattle.teb_rules.specs.declared.history.Event.TheVariants.{Began, Got, Put, Ready, Done, Gone, Told}
use Rattle.teb_rules.specs.history.Phases.{begun, unfinished, begun_count}
use Rattle.teb_rules.specs.history.Ascending.{IsAscendingBy}
use Rattle.teb_rules.specs.history.Live.{number_of}
use Rattle.teb_rules.specs.Setup.{Setup}
use Rattle.teb_rules.specs.Tree.{on, side, on_path, side_at}
use Rattle.phase_api.specs.Calls.{MayNote}
use Rattle.batch_book.specs.Book.{Book, IsNew, has_joined}
use Rattle.batch_book.specs.Histories.{BatchesOf, MayCome, Joins, Finishes, Passes}
use Rattle.batch_book.proofs.Telling.{batches_passed, next_new, on_joined}
use Rattle.batch_book.proofs.Numbered.{is_began_event, spot_began, begun_step, unfinished_parts}
use Rattle.access_conflicts.proofs.Orderly.{orderly_next}
use Rattle.access_book.specs.Touched.{Reads, Puts, any_reads, any_puts}
use Rattle.access_book.specs.Books.{Shown, readers_of, writers_of, committed_of, touched_of, is_among, is_accessor, AreFiled, AreKept}
use Rattle.snapshot_node.specs.Standing.{SnapshotStand, has_put_in, has_read_in}
use Rattle.snapshot_node.proofs.Touching.{touched_at, puts_at, reads_at, count_kept, count_began, still_touched, began_touched, more_touched, touched_elsewhere}
use Rattle.snapshot_node.proofs.Reading.{still_read, began_read, got_read, got_elsewhere, gone_read}
use Rattle.snapshot_node.proofs.Writing.{still_put, began_put, put_put, put_elsewhere, done_put, gone_put}

pub may_come : (S : Setup) (P : List Event) (n : ℕ) (e : Event) → MayNote S P n e → MayCome P e
may_come S P n (Began t s k i) m = m.0
may_come S P n (Got t x w v) m = tt
may_come S P n (Put t x v) m = tt
may_come S P n (Ready t) m = tt
may_come S P n (Done t) m = m
may_come S P n (Gone t c) m = m
may_come S P n (Told t) m = tt

-- the newest event is at the last place
pub newest_place : (H : List Event) (e : Event) → H ≡ e ∷ drop 1 H → length H ≡ suc (length (drop 1 H))
newest_place H e i = ap (λ (G : List Event). length G) i

-- lists that stay the same still ascend
pub filed_kept : (a a' : Shown) → AreKept (readers_of a) (readers_of a') → AreKept (writers_of a) (writers_of a') → AreKept (committed_of a) (committed_of a') → AreFiled a → AreFiled a'
filed_kept a a' r w d f = record {
  readers = λ x. subst (IsAscendingBy number_of) (sym (r x)) (f.readers x);
  writers = λ x. subst (IsAscendingBy number_of) (sym (w x)) (f.writers x);
  committed = λ x. subst (IsAscendingBy number_of) (sym (d x)) (f.committed x);
}

module _ (S : Setup) (P : List Event) (n : ℕ) (b : Book) (a : Shown) (old : SnapshotStand n b a S P) where
  -- the control represents the history with e, given batches and accesses that do
  made : (e : Event) (b' : Book) (a' : Shown) → MayNote S P n e → b'.size ≡ b.size → BatchesOf b' S (e ∷ P) n → AreFiled a'
      → ((x : Cell) (u : ℕ) → is_accessor (readers_of a') x u ≡ has_read_in S (e ∷ P) n x u) → ((x : Cell) (u : ℕ) → is_accessor (writers_of a') x u ≡ has_put_in S (e ∷ P) n x u)
      → a'.begun ≡ begun_count (e ∷ P) → ((u : ℕ) → touched_of a' u ≡ touched_at S (e ∷ P) n u) → SnapshotStand n b' a' S (e ∷ P)
  made e b' a' m z h f r w c t = record { kind = old.kind; size = z ∙ old.size; orderly = orderly_next S P n e m old.orderly; batches = h; filed = f; read = r; put = w; begun = c; touched = t }

  -- an unfinished transaction has joined if and only if the node is on its path
  pub here : (t : ℕ) → unfinished P t ≡ true → on S P n t ≡ has_joined b t
  here t u = on_joined b S P n t old.batches (unfinished_parts P t u).0

  -- it is numbered among the transactions that have begun
  pub numbered : (t : ℕ) → unfinished P t ≡ true → (0 < t) × (t ≤ a.begun)
  numbered t u = let z = old.orderly.numbered t (unfinished_parts P t u).0 in (z.0, subst (λ (c : ℕ). t ≤ c) (sym old.begun) z.1)

  passed : (e : Event) → MayNote S P n e → Passes S P n e → BatchesOf b S (e ∷ P) n
  passed e m q = batches_passed b S P n e old.batches (may_come S P n e m) q

  -- an event that leaves all accesses at the node, and the book of them, as they were
  kept : (e : Event) → is_began_event e ≡ false → MayNote S P n e → Passes S P n e → ((x : Cell) (u : ℕ) → has_read_in S (e ∷ P) n x u ≡ has_read_in S P n x u)
      → ((x : Cell) (u : ℕ) → has_put_in S (e ∷ P) n x u ≡ has_put_in S P n x u) → ((u : ℕ) → touched_at S (e ∷ P) n u ≡ touched_at S P n u) → SnapshotStand n b a S (e ∷ P)
  kept e c m q r w t = made e b a m refl (passed e m q) old.filed (λ x u. old.read x u ∙ sym (r x u)) (λ x u. old.put x u ∙ sym (w x u)) (old.begun ∙ sym (count_kept e P c))
      (λ u. old.touched u ∙ sym (t u))

  pub noted_ready : (t : Txn) → MayNote S P n (Ready t) → SnapshotStand n b a S (Ready t ∷ P)
  noted_ready t m = kept (Ready t) refl m tt (λ x u. still_read S P n (Ready t) x u refl refl refl) (λ x u. still_put S P n (Ready t) x u refl refl refl refl)
      (λ u. still_touched S P n (Ready t) u refl (λ es. refl))

  pub noted_told : (t : Txn) → MayNote S P n (Told t) → SnapshotStand n b a S (Told t ∷ P)
  noted_told t m = kept (Told t) refl m tt (λ x u. still_read S P n (Told t) x u refl refl refl) (λ x u. still_put S P n (Told t) x u refl refl refl refl)
      (λ u. still_touched S P n (Told t) u refl (λ es. refl))

  module _ (t : Txn) (y : Cell) (w : Txn) (v : Option ℤ) (m : MayNote S P n (Got t y w v)) where
    pub noted_got : (a' : Shown) → has_joined b t.0 ≡ true → AreFiled a' → ((x : Cell) (u : ℕ) → is_accessor (readers_of a') x u ≡ (is_accessor (readers_of a) x u || (same_cell y x && eqb t.0 u)))
        → AreKept (writers_of a) (writers_of a') → a'.begun ≡ a.begun → ((u : ℕ) → touched_of a' u ≡ cond (eqb t.0 u) (Reads y ∷ touched_of a u) (touched_of a u))
        → SnapshotStand n b a' S (Got t y w v ∷ P)
    noted_got a' j f r k c z =
        let o : on S P n t.0 ≡ true = here t.0 m.0 ∙ j in
        made (Got t y w v) b a' m refl (passed (Got t y w v) m tt) f
        (λ x u. r x u ∙ ap (λ (q : Bool). q || (same_cell y x && eqb t.0 u)) (old.read x u) ∙ sym (got_read S P n t y w v x u m.0 o))
        (λ x u. ap (is_among u) (k x) ∙ old.put x u ∙ sym (still_put S P n (Got t y w v) x u refl refl refl refl))
        (c ∙ old.begun ∙ sym (count_kept (Got t y w v) P refl))
        (λ u. z u ∙ (λ i. cond (eqb t.0 u) (Reads y ∷ old.touched u i) (old.touched u i)) ∙ sym (more_touched S P n (Got t y w v) (λ u. refl) u (Reads y) (λ es. refl) o))

    pub noted_got_off : has_joined b t.0 ≡ false → SnapshotStand n b a S (Got t y w v ∷ P)
    noted_got_off j =
        let o : on S P n t.0 ≡ false = here t.0 m.0 ∙ j in
        kept (Got t y w v) refl m tt (λ x u. got_elsewhere S P n t y w v x u o) (λ x u. still_put S P n (Got t y w v) x u refl refl refl refl)
        (λ u. touched_elsewhere S P n (Got t y w v) (λ u. refl) u o)

  module _ (t : Txn) (y : Cell) (v : Option ℤ) (m : MayNote S P n (Put t y v)) where
    pub noted_put : (a' : Shown) → has_joined b t.0 ≡ true → AreFiled a' → AreKept (readers_of a) (readers_of a')
        → ((x : Cell) (u : ℕ) → is_accessor (writers_of a') x u ≡ (is_accessor (writers_of a) x u || (same_cell y x && eqb t.0 u)))
        → a'.begun ≡ a.begun → ((u : ℕ) → touched_of a' u ≡ cond (eqb t.0 u) (Puts y ∷ touched_of a u) (touched_of a u)) → SnapshotStand n b a' S (Put t y v ∷ P)
    noted_put a' j f k w c z =
        let o : on S P n t.0 ≡ true = here t.0 m.0 ∙ j in
        made (Put t y v) b a' m refl (passed (Put t y v) m tt) f
        (λ x u. ap (is_among u) (k x) ∙ old.read x u ∙ sym (still_read S P n (Put t y v) x u refl refl refl))
        (λ x u. w x u ∙ ap (λ (q : Bool). q || (same_cell y x && eqb t.0 u)) (old.put x u) ∙ sym (put_put S P n t y v x u m.0 o))
        (c ∙ old.begun ∙ sym (count_kept (Put t y v) P refl))
        (λ u. z u ∙ (λ i. cond (eqb t.0 u) (Puts y ∷ old.touched u i) (old.touched u i)) ∙ sym (more_touched S P n (Put t y v) (λ u. refl) u (Puts y) (λ es. refl) o))

    pub noted_put_off : has_joined b t.0 ≡ false → SnapshotStand n b a S (Put t y v ∷ P)
    noted_put_off j =
        let o : on S P n t.0 ≡ false = here t.0 m.0 ∙ j in
        kept (Put t y v) refl m tt (λ x u. still_read S P n (Put t y v) x u refl refl refl) (λ x u. put_elsewhere S P n t y v x u o) (λ u. touched_elsewhere S P n (Put t y v) (λ u. refl) u o)

  module _ (t : Txn) (s : Session) (k : Kind) (i : ℕ) (m : MayNote S P n (Began t s k i)) where
    on_now : on S (Began t s k i ∷ P) n t.0 ≡ on_path S.tree n (record { kind = k; instance = i })
    on_now = unfold on in ap (on_path S.tree n) (spot_began t s k i P)

    side_now : side S (Began t s k i ∷ P) n t.0 ≡ side_at S.tree n (record { kind = k; instance = i }) t.0
    side_now = unfold side in ap (λ (z : Spot). side_at S.tree n z t.0) (spot_began t s k i P)

    pub began_new : IsNew b t.0
    began_new = next_new b S P n t.0 old.batches m.0

    -- the book of accesses has noted the event too
    module _ (a' : Shown) (r : AreKept (readers_of a) (readers_of a')) (w : AreKept (writers_of a) (writers_of a')) (d : AreKept (committed_of a) (committed_of a'))
        (z : (u : ℕ) → touched_of a' u ≡ touched_of a u) (c : a'.begun ≡ a.begun + 1) where
      began : (b' : Book) → b'.size ≡ b.size → BatchesOf b' S (Began t s k i ∷ P) n → SnapshotStand n b' a' S (Began t s k i ∷ P)
      began b' l h =
          made (Began t s k i) b' a' m l h (filed_kept a a' r w d old.filed)
          (λ x u. ap (is_among u) (r x) ∙ old.read x u ∙ sym (began_read S P n t s k i old.orderly m.0 x u))
          (λ x u. ap (is_among u) (w x) ∙ old.put x u ∙ sym (began_put S P n t s k i old.orderly m.0 x u))
          (c ∙ ap {B = ℕ} (λ (l : ℕ). l + 1) old.begun ∙ sym (count_began t s k i P))
          (λ u. z u ∙ old.touched u ∙ sym (began_touched S P n t s k i old.orderly m.0 u))

      pub noted_began : (b' : Book) (d at : ℕ) → on S (Began t s k i ∷ P) n t.0 ≡ true → d ≡ side S (Began t s k i ∷ P) n t.0 → at ≡ length P → b'.size ≡ b.size
          → ((S : Setup) (P : List Event) (n : ℕ) (e : Event) → BatchesOf b S P n → MayCome P e → Joins S n d t.0 e → at ≡ length P → BatchesOf b' S (e ∷ P) n)
          → SnapshotStand n b' a' S (Began t s k i ∷ P)
      noted_began b' d at o q l z f = began b' z (f S P n (Began t s k i) old.batches m.0 (refl, (sym on_now ∙ o), (sym side_now ∙ sym q)) l)

      pub noted_began_off : on S (Began t s k i ∷ P) n t.0 ≡ false → SnapshotStand n b a' S (Began t s k i ∷ P)
      noted_began_off o = began b refl (passed (Began t s k i) m (sym on_now ∙ o))

  module _ (t : Txn) (b' : Book) (at : ℕ) (l : at ≡ length P) (z : b'.size ≡ b.size)
      (h : (S : Setup) (P : List Event) (n : ℕ) (e : Event) → BatchesOf b S P n → MayCome P e → Finishes t.0 e → at ≡ length P → BatchesOf b' S (e ∷ P) n)
      (a' : Shown) (f : AreFiled a') (d : a'.begun ≡ a.begun) (k : (u : ℕ) → touched_of a' u ≡ touched_of a u) where
    pub noted_done : MayNote S P n (Done t) → AreKept (readers_of a) (readers_of a') → AreKept (writers_of a) (writers_of a') → SnapshotStand n b' a' S (Done t ∷ P)
    noted_done m r w =
        made (Done t) b' a' m z (h S P n (Done t) old.batches m refl l) f
        (λ x u. ap (is_among u) (r x) ∙ old.read x u ∙ sym (still_read S P n (Done t) x u refl refl refl))
        (λ x u. ap (is_among u) (w x) ∙ old.put x u ∙ sym (done_put S P n t x u m))
        (d ∙ old.begun ∙ sym (count_kept (Done t) P refl)) (λ u. k u ∙ old.touched u ∙ sym (still_touched S P n (Done t) u refl (λ es. refl)))

    pub noted_gone : (c : Cause) → MayNote S P n (Gone t c)
        → ((x : Cell) (u : ℕ) → is_accessor (readers_of a') x u ≡ (is_accessor (readers_of a) x u && not (any_reads x (touched_of a t.0) && eqb t.0 u)))
        → ((x : Cell) (u : ℕ) → is_accessor (writers_of a') x u ≡ (is_accessor (writers_of a) x u && not (any_puts x (touched_of a t.0) && eqb t.0 u))) → SnapshotStand n b' a' S (Gone t c ∷ P)
    noted_gone c m r w =
        made (Gone t c) b' a' m z (h S P n (Gone t c) old.batches m refl l) f
        (λ x u. r x u ∙ (λ j. old.read x u j && not ((ap (any_reads x) (old.touched t.0) ∙ reads_at S P n t.0 x) j && eqb t.0 u)) ∙ gone_read S P n t c x u)
        (λ x u. w x u ∙ (λ j. old.put x u j && not ((ap (any_puts x) (old.touched t.0) ∙ puts_at S P n t.0 x) j && eqb t.0 u)) ∙ gone_put S P n t c x u m)
        (d ∙ old.begun ∙ sym (count_kept (Gone t c) P refl)) (λ u. k u ∙ old.touched u ∙ sym (still_touched S P n (Gone t c) u refl (λ es. refl)))

-- the newest event is t's Began
pub began_begun : (P : List Event) (t : Txn) (s : Session) (k : Kind) (i : ℕ) → begun (Began t s k i ∷ P) t.0 ≡ true
began_begun P t s k i = begun_step (Began t s k i) P t.0 ∙ ap (λ (b : Bool). b || begun P t.0) (eq-eqb t.0 t.0 refl)
