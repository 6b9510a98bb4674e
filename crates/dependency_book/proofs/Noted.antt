-- The lists of a history after one more event.
use Rattle.std.proofs.Common.{◌≡◌, ℕ, zero, suc, ◌<◌, ◌≤◌, Bool, true, false, cond, not, ◌&&◌, ◌||◌, eqb, ltb, List, []}
use Rattle.std.proofs.Common.{◌∷◌, ◌++◌, filter, map, length, length-append, Option, ℤ, refl, sym, ◌∙◌, ap, subst, arith}
use Rattle.std.specs.List.{count_by}
use Rattle.std.proofs.lemmas.Bool.{eqb-true, ne_eqb, eq-eqb}
use Rattle.std.proofs.lemmas.List.{map-append}
use Rattle.std.proofs.lemmas.List.Elements.{filter-append}
use Rattle.teb_rules.specs.declared.names.Txn.{Txn}
use Rattle.teb_rules.specs.declared.names.Cell.{Cell}
use Rattle.teb_rules.specs.declared.names.Session.{Session}
use Rattle.teb_rules.specs.declared.names.Kind.{Kind}
use Rattle.teb_rules.specs.declared.names.Cause.{Cause}
use Rattle.teb_rules.specs.names.Cells.{same_cell}
use Rattle.teb_rules.specs.declared.history.Event.{Event}
use Rattle.teb_rules.specs.declared.history.Event.TheVariants.{Began, Got, Put, Ready, Done, Gone, Told}
use Rattle.teb_rules.specs.history.Phases.{is_began, is_done, is_gone, begun, committed, aborted, unfinished, begun_count, numbers, txns}
use Rattle.teb_rules.specs.history.Ascending.{AllAbove, IsAscendingBy, put_by}
use Rattle.teb_rules.specs.history.Live.{number_of}
use Rattle.teb_rules.specs.history.Accesses.{wrote}
use Rattle.teb_rules.specs.history.OwnEvents.{own_events}
use Rattle.sorted_multimap.specs.LastMatches.{without_lasts}
use Rattle.dependency_book.specs.Dependencies.{has, reads, puts, all_readers, all_writers, all_sources, readers, writers, sources, unfinished_txns}
use Rattle.dependency_book.specs.Orderly.{MayFollow, Orderly}
use Rattle.dependency_book.specs.Books.{Lists, BookOf, readers_in, writers_in, sources_in, list_of}
use Rattle.sorted_multimap.proofs.TakenMatches.{without_all, count_kept}
use Rattle.teb_rules.proofs.lemmas.names.SameCells.{same_cell-true}
use Rattle.teb_rules.proofs.lemmas.names.Bools.{eqb_swap}
use Rattle.dependency_book.proofs.SourceLists.{no_lists, one_more}
use Rattle.dependency_book.proofs.OwnAccesses.{put_by_it, reads_counted, puts_counted}
use Rattle.dependency_book.proofs.OrderlyHistories.{unfinished_is, unfinished_parts, aborted_same, known, fresh}
use Rattle.dependency_book.proofs.Positive.{begun_pos}
use Rattle.teb_rules.proofs.lemmas.laws.AscendingNumbers.{number, txns_ascending}
use Rattle.teb_rules.proofs.lemmas.laws.Holding.{unfinished_same}
use Rattle.teb_rules.proofs.lemmas.history.AscendingLists.{ascending-filter}
use Rattle.teb_rules.proofs.lemmas.history.Filters.{filter_both, filter_push}
use Rattle.teb_rules.proofs.lemmas.history.Newest.{aborted-cons, unfinished-cons}

-- filters
module _ {A : Type 0} where
  pub filter_alike : (p q : A → Bool) → ((x : A) → q x ≡ p x) → (xs : List A) → filter q xs ≡ filter p xs
  filter_alike p q same [] = refl
  filter_alike p q same (x ∷ xs) = λ j. cond (same x j) (x ∷ filter_alike p q same xs j) (filter_alike p q same xs j)

-- transactions as numbers
filter_made : (p : ℕ → Bool) (q : Txn → Bool) → ((n : ℕ) → q (record { 0 = n }) ≡ p n) → (ns : List ℕ) → filter q (map (λ t. record { 0 = t }) ns) ≡ map (λ t. record { 0 = t }) (filter p ns)
filter_made p q same [] = refl
filter_made p q same (n ∷ ns) = go (p n) (same n) (filter_made p q same ns)
  where
    go : (b : Bool) → q (record { 0 = n }) ≡ b → filter q (map (λ t. record { 0 = t }) ns) ≡ map (λ t. record { 0 = t }) (filter p ns)
        → cond (q (record { 0 = n })) (record { 0 = n } ∷ filter q (map (λ t. record { 0 = t }) ns)) (filter q (map (λ t. record { 0 = t }) ns)) ≡ map (λ t. record { 0 = t })
        (cond b (n ∷ filter p ns) (filter p ns))
    go true h ih = ap (λ (o : Bool). cond o (record { 0 = n } ∷ filter q (map (λ t. record { 0 = t }) ns)) (filter q (map (λ t. record { 0 = t }) ns))) h
        ∙ ap (λ (ys : List Txn). record { 0 = n } ∷ ys) ih
    go false h ih = ap (λ (o : Bool). cond o (record { 0 = n } ∷ filter q (map (λ t. record { 0 = t }) ns)) (filter q (map (λ t. record { 0 = t }) ns))) h ∙ ih

-- the unfinished transactions ascend
ascending_made : (ns : List ℕ) → IsAscendingBy number ns → IsAscendingBy number_of (map (λ t. record { 0 = t }) ns)
ascending_made [] h = tt
ascending_made (n ∷ ns) h = (above_made n ns h.0, ascending_made ns h.1)
  where
    above_made : (m : ℕ) (ns : List ℕ) → AllAbove number m ns → AllAbove number_of m (map (λ t. record { 0 = t }) ns)
    above_made m [] h = tt
    above_made m (n ∷ ns) h = (h.0, above_made m ns h.1)

pub unfinished_ascend : (b : Lists) (P : List Event) → BookOf b P → IsAscendingBy number_of b.unfinished
unfolding unfinished_txns
unfinished_ascend b P was = subst (IsAscendingBy number_of) (sym was.unfinished) (ascending_made (filter (unfinished P) (txns P)) (ascending-filter number (unfinished P) (txns P) (txns_ascending P)))

-- an event that begins, commits and aborts no transaction
module _ (e : Event) (P : List Event) (b : (u : ℕ) → is_began u e ≡ false) (d : (u : ℕ) → is_done u e ≡ false) (g : (u : ℕ) → is_gone u e ≡ false) where
  pub stay_unfinished : (u : ℕ) → unfinished (e ∷ P) u ≡ unfinished P u
  stay_unfinished u = unfinished_same e P u (b u) (d u) (g u)

  pub unfinished_txns_same : begun_count (e ∷ P) ≡ begun_count P → unfinished_txns (e ∷ P) ≡ unfinished_txns P
  unfolding unfinished_txns txns
  unfinished_txns_same n = (λ j. map (λ t. record { 0 = t }) (filter (unfinished (e ∷ P)) (numbers (n j)))) ∙ ap (λ (ns : List ℕ). map (λ t. record { 0 = t }) ns)
      (filter_alike (unfinished P) (unfinished (e ∷ P)) stay_unfinished (numbers (begun_count P)))

-- an event that aborts no transaction
module _ (e : Event) (P : List Event) (g : (u : ℕ) → is_gone u e ≡ false) where
  pub readers_alike : (rs : List (Txn × Txn)) → filter (λ r. not (aborted (e ∷ P) r.0.0)) rs ≡ filter (λ r. not (aborted P r.0.0)) rs
  readers_alike rs = filter_alike (λ r. not (aborted P r.0.0)) (λ r. not (aborted (e ∷ P) r.0.0)) (λ r. ap not (aborted_same e P r.0.0 (g r.0.0))) rs

  pub writers_alike : (ts : List Txn) → filter (λ t. not (aborted (e ∷ P) t.0)) ts ≡ filter (λ t. not (aborted P t.0)) ts
  writers_alike ts = filter_alike (λ t. not (aborted P t.0)) (λ t. not (aborted (e ∷ P) t.0)) (λ t. ap not (aborted_same e P t.0 (g t.0))) ts

  pub sources_alike : (t : Txn) (ts : List Txn) → cond (aborted (e ∷ P) t.0) [] ts ≡ cond (aborted P t.0) [] ts
  sources_alike t ts = ap (λ (o : Bool). cond o [] ts) (aborted_same e P t.0 (g t.0))

-- the book of no events
pub noted_nothing : (b : Lists) → ((x : Cell) → readers_in b x ≡ []) → ((x : Cell) → writers_in b x ≡ []) → b.sources ≡ [] → b.unfinished ≡ [] → BookOf b []
unfolding Orderly readers writers sources unfinished_txns all_readers all_writers all_sources txns begun_count numbers
noted_nothing b r w s u = record {
  orderly = tt;
  readers = r;
  writers = w;
  sources = λ t. ap (λ (ls : List (List Txn)). list_of ls t.0) s ∙ no_lists t.0 ∙ none (aborted [] t.0);
  begun = ap length s;
  unfinished = u;
}
  where
    none : {A : Type 0} (o : Bool) → (let e : List A = [] in e) ≡ cond o [] []
    none true = refl
    none false = refl

module _ (b d : Lists) (P : List Event) (was : BookOf b P) where
  -- no transaction begins, reads, puts or finishes
  quiet : (e : Event) → MayFollow P e → ((u : ℕ) → is_began u e ≡ false) → ((u : ℕ) → is_done u e ≡ false) → ((u : ℕ) → is_gone u e ≡ false) → begun_count (e ∷ P) ≡ begun_count P
      → ((x : Cell) → all_readers (e ∷ P) x ≡ all_readers P x) → ((x : Cell) → all_writers (e ∷ P) x ≡ all_writers P x) → ((t : Txn) → all_sources (e ∷ P) t ≡ all_sources P t)
      → BookOf b (e ∷ P)
  unfolding Orderly readers writers sources
  quiet e m nb nd ng n r w s = record {
    orderly = (m, was.orderly);
    readers = λ x. was.readers x ∙ sym (ap (filter (λ p. not (aborted (e ∷ P) p.0.0))) (r x) ∙ readers_alike e P ng (all_readers P x));
    writers = λ x. was.writers x ∙ sym (ap (filter (λ t. not (aborted (e ∷ P) t.0))) (w x) ∙ writers_alike e P ng (all_writers P x));
    sources = λ t. was.sources t ∙ sym (ap (λ (ts : List Txn). cond (aborted (e ∷ P) t.0) [] ts) (s t) ∙ sources_alike e P ng t (all_sources P t));
    begun = was.begun ∙ sym n;
    unfinished = was.unfinished ∙ sym (unfinished_txns_same e P nb nd ng n);
  }

  pub noted_ready : (t : Txn) → MayFollow P (Ready t) → BookOf b (Ready t ∷ P)
  unfolding begun_count all_readers all_writers all_sources
  noted_ready t m = quiet (Ready t) m (λ u. refl) (λ u. refl) (λ u. refl) refl (λ x. refl) (λ x. refl) (λ u. refl)

  pub noted_told : (t : Txn) → MayFollow P (Told t) → BookOf b (Told t ∷ P)
  unfolding begun_count all_readers all_writers all_sources
  noted_told t m = quiet (Told t) m (λ u. refl) (λ u. refl) (λ u. refl) refl (λ x. refl) (λ x. refl) (λ u. refl)

  numbers_alike : (e : Event) (n : ℕ) → ((u : ℕ) → u ≤ n → unfinished (e ∷ P) u ≡ unfinished P u) → filter (unfinished (e ∷ P)) (numbers n) ≡ filter (unfinished P) (numbers n)
  unfolding numbers
  numbers_alike e zero f = refl
  numbers_alike e (suc n) f =
      filter-append (unfinished (e ∷ P)) (numbers n) (suc n ∷ [])
      ∙ (λ j. numbers_alike e n (λ u le. f u (omega arith)) j ++ cond (f (suc n) (omega arith) j) (suc n ∷ []) [])
      ∙ sym (filter-append (unfinished P) (numbers n) (suc n ∷ []))

  -- a transaction begins
  pub noted_began : (t : Txn) (s : Session) (k : Kind) (i : ℕ) → MayFollow P (Began t s k i)
      → ((x : Cell) → readers_in d x ≡ readers_in b x) → ((x : Cell) → writers_in d x ≡ writers_in b x) → d.sources ≡ b.sources ++ [] ∷ [] → d.unfinished ≡ b.unfinished ++ t ∷ []
      → BookOf d (Began t s k i ∷ P)
  unfolding Orderly readers writers sources unfinished_txns txns begun_count all_readers all_writers all_sources numbers
  noted_began t s k i m r w so u = record {
    orderly = (m, was.orderly);
    readers = λ x. r x ∙ was.readers x ∙ sym (readers_alike e P (λ v. refl) (all_readers P x));
    writers = λ x. w x ∙ was.writers x ∙ sym (writers_alike e P (λ v. refl) (all_writers P x));
    sources = λ v. ap (λ (ls : List (List Txn)). list_of ls v.0) so ∙ one_more b.sources v.0 ∙ was.sources v ∙ sym (sources_alike e P (λ z. refl) v (all_sources P v));
    begun = omega (arith, ap length so, length-append b.sources ([] ∷ []), was.begun);
    unfinished = u ∙ ap (λ (ts : List Txn). ts ++ t ∷ []) was.unfinished ∙ sym all_more;
  }
    where
      e : Event
      e = Began t s k i

      older : (v : ℕ) → v ≤ begun_count P → unfinished (Began t s k i ∷ P) v ≡ unfinished P v
      older v le =
          let off : eqb t.0 v ≡ false = ne_eqb t.0 v (λ z. omega (arith, m)) in
          unfinished-cons (Began t s k i) P v ∙ ap (λ (o : Bool). (o || begun P v) && not (committed P v) && not (aborted P v)) off ∙ sym (unfinished_is P v)

      newest : unfinished (Began t s k i ∷ P) (suc (begun_count P)) ≡ true
      newest =
          let f = fresh P (suc (begun_count P)) was.orderly (omega arith) in
          let on : eqb t.0 (suc (begun_count P)) ≡ true = eq-eqb t.0 (suc (begun_count P)) m in
          unfinished-cons (Began t s k i) P (suc (begun_count P)) ∙ (λ j. (on j || begun P (suc (begun_count P))) && not (f.1 j) && not (f.2 j))

      all_more : map (λ t. record { 0 = t }) (filter (unfinished (Began t s k i ∷ P)) (numbers (begun_count P) ++ suc (begun_count P) ∷ [])) ≡ map (λ t. record { 0 = t })
          (filter (unfinished P) (numbers (begun_count P))) ++ t ∷ []
      all_more =
          ap (map (λ t. record { 0 = t })) (filter_push (unfinished (Began t s k i ∷ P)) (numbers (begun_count P)) (suc (begun_count P)) newest)
          ∙ ap (λ (ns : List ℕ). map (λ t. record { 0 = t }) (ns ++ suc (begun_count P) ∷ [])) (numbers_alike (Began t s k i) (begun_count P) older)
          ∙ map-append (λ t. record { 0 = t }) (filter (unfinished P) (numbers (begun_count P))) (suc (begun_count P) ∷ [])
          ∙ ap (λ (n : ℕ). map (λ t. record { 0 = t }) (filter (unfinished P) (numbers (begun_count P))) ++ record { 0 = n } ∷ []) (sym m)

  -- a transaction reads
  pub noted_got : (t : Txn) (x : Cell) (w : Txn) (v : Option ℤ) → MayFollow P (Got t x w v)
      → ((y : Cell) → readers_in d y ≡ cond (same_cell x y) (readers_in b y ++ (t, w) ∷ []) (readers_in b y))
      → ((y : Cell) → writers_in d y ≡ writers_in b y)
      → length d.sources ≡ length b.sources
      → (0 < t.0 → t.0 ≤ length b.sources → (u : Txn) → sources_in d u ≡ cond (eqb t.0 u.0 && not (eqb w.0 u.0) && ltb 0 w.0) (put_by number_of w (sources_in b u)) (sources_in b u))
      → d.unfinished ≡ b.unfinished
      → BookOf d (Got t x w v ∷ P)
  unfolding Orderly readers writers sources begun_count all_readers all_writers all_sources
  noted_got t x w v m r wr n so u = record {
    orderly = (m, was.orderly);
    readers = λ y. r y ∙ ap (λ (rs : List (Txn × Txn)). cond (same_cell x y) (rs ++ (t, w) ∷ []) rs) (was.readers y)
        ∙ sym (readers_alike e P (λ z. refl) (all_readers (Got t x w v ∷ P) y) ∙ here (same_cell x y) (all_readers P y));
    writers = λ y. wr y ∙ was.writers y ∙ sym (writers_alike e P (λ z. refl) (all_writers P y));
    sources = λ y. so listed.0 listed.1 y ∙ ap (λ (ts : List Txn). cond (eqb t.0 y.0 && not (eqb w.0 y.0) && ltb 0 w.0) (put_by number_of w ts) ts) (was.sources y)
        ∙ sym (sources_alike e P (λ z. refl) y (all_sources (Got t x w v ∷ P) y) ∙ from y);
    begun = n ∙ was.begun;
    unfinished = u ∙ was.unfinished ∙ sym (unfinished_txns_same e P (λ z. refl) (λ z. refl) (λ z. refl) refl);
  }
    where
      e : Event
      e = Got t x w v

      listed : (0 < t.0) × (t.0 ≤ length b.sources)
      listed =
          let begins = (unfinished_parts P t.0 m).0 in
          (begun_pos P t.0 was.orderly begins, omega (arith, (known P t.0 was.orderly).begins begins, was.begun))

      stands : aborted P t.0 ≡ false
      stands = (unfinished_parts P t.0 m).2

      here : (o : Bool) (rs : List (Txn × Txn)) → filter (λ p. not (aborted P p.0.0)) (cond o (rs ++ (t, w) ∷ []) rs) ≡ cond o (filter (λ p. not (aborted P p.0.0)) rs ++ (t, w) ∷ [])
          (filter (λ p. not (aborted P p.0.0)) rs)
      here true rs = filter_push (λ p. not (aborted P p.0.0)) rs (t, w) (ap not stands)
      here false rs = refl

      from : (y : Txn) → cond (aborted P y.0) [] (cond (eqb t.0 y.0 && not (eqb w.0 y.0) && ltb 0 w.0) (put_by number_of w (all_sources P y)) (all_sources P y))
          ≡ cond (eqb t.0 y.0 && not (eqb w.0 y.0) && ltb 0 w.0) (put_by number_of w (cond (aborted P y.0) [] (all_sources P y))) (cond (aborted P y.0) [] (all_sources P y))
      from y = go (eqb t.0 y.0) refl (aborted P y.0) refl (not (eqb w.0 y.0)) (ltb 0 w.0)
        where
          go : (c : Bool) → eqb t.0 y.0 ≡ c → (o : Bool) → aborted P y.0 ≡ o → (f g : Bool)
              → cond o [] (cond (c && f && g) (put_by number_of w (all_sources P y)) (all_sources P y)) ≡ cond (c && f && g) (put_by number_of w (cond o [] (all_sources P y)))
              (cond o [] (all_sources P y))
          go c h false k f g = refl
          go true h true k f g = absurd (let z : true ≡ false = sym k ∙ ap (aborted P) (sym (eqb-true t.0 y.0 h)) ∙ stands in cc)
          go false h true k f g = refl

  -- a transaction puts
  pub noted_put : (t : Txn) (x : Cell) (v : Option ℤ) → MayFollow P (Put t x v)
      → ((y : Cell) → readers_in d y ≡ readers_in b y)
      → ((y : Cell) → writers_in d y ≡ cond (same_cell x y && not (wrote P t.0 x)) (writers_in b y ++ t ∷ []) (writers_in b y))
      → d.sources ≡ b.sources
      → d.unfinished ≡ b.unfinished
      → BookOf d (Put t x v ∷ P)
  unfolding Orderly readers writers sources begun_count all_readers all_writers all_sources
  noted_put t x v m r wr so u = record {
    orderly = (m, was.orderly);
    readers = λ y. r y ∙ was.readers y ∙ sym (readers_alike e P (λ z. refl) (all_readers P y));
    writers = λ y.
        wr y ∙ ap (λ (ts : List Txn). cond (same_cell x y && not (wrote P t.0 x)) (ts ++ t ∷ []) ts) (was.writers y)
        ∙ ap (λ (c : Bool). cond c (writers P y ++ t ∷ []) (writers P y)) (where_it_is (same_cell x y) _ _ (λ h. ap (wrote P t.0) (same_cell-true x y h) ∙ sym (put_by_it P t y)))
        ∙ sym (writers_alike e P (λ z. refl) (all_writers (Put t x v ∷ P) y) ∙ here (same_cell x y && not (has t (all_writers P y))) (all_writers P y));
    sources = λ y. ap (λ (ls : List (List Txn)). list_of ls y.0) so ∙ was.sources y ∙ sym (sources_alike e P (λ z. refl) y (all_sources P y));
    begun = ap length so ∙ was.begun;
    unfinished = u ∙ was.unfinished ∙ sym (unfinished_txns_same e P (λ z. refl) (λ z. refl) (λ z. refl) refl);
  }
    where
      e : Event
      e = Put t x v

      stands : aborted P t.0 ≡ false
      stands = (unfinished_parts P t.0 m).2

      where_it_is : (c h k : Bool) → (c ≡ true → h ≡ k) → (c && not h) ≡ (c && not k)
      where_it_is true h k f = ap not (f refl)
      where_it_is false h k f = refl

      here : (c : Bool) (ts : List Txn) → filter (λ z. not (aborted P z.0)) (cond c (ts ++ t ∷ []) ts) ≡ cond c (filter (λ z. not (aborted P z.0)) ts ++ t ∷ []) (filter (λ z. not (aborted P z.0)) ts)
      here true ts = filter_push (λ z. not (aborted P z.0)) ts t (ap not stands)
      here false ts = refl

  -- the transaction that an event finishes
  module _ (e : Event) (t : Txn) (is_t : unfinished P t.0 ≡ true) (others : (u : ℕ) → unfinished (e ∷ P) u ≡ (not (eqb u t.0) && unfinished P u)) where
    pub left_unfinished : begun_count (e ∷ P) ≡ begun_count P → filter (λ u. not (eqb u.0 t.0)) (unfinished_txns P) ≡ unfinished_txns (e ∷ P)
    unfolding unfinished_txns txns
    left_unfinished n =
        filter_made (λ u. not (eqb u t.0)) (λ u. not (eqb u.0 t.0)) (λ u. refl) (filter (unfinished P) (numbers (begun_count P)))
        ∙ ap (map (λ t. record { 0 = t })) (sym (filter_both (unfinished P) (λ u. not (eqb u t.0)) (unfinished (e ∷ P)) others (numbers (begun_count P))))
        ∙ ap (λ (k : ℕ). map (λ t. record { 0 = t }) (filter (unfinished (e ∷ P)) (numbers k))) (sym n)

  -- a transaction commits
  pub noted_done : (t : Txn) → MayFollow P (Done t)
      → ((y : Cell) → readers_in d y ≡ readers_in b y) → ((y : Cell) → writers_in d y ≡ writers_in b y) → d.sources ≡ b.sources
      → d.unfinished ≡ filter (λ u. not (eqb u.0 t.0)) b.unfinished
      → BookOf d (Done t ∷ P)
  unfolding Orderly readers writers sources begun_count all_readers all_writers all_sources
  noted_done t m r w so u = record {
    orderly = (m, was.orderly);
    readers = λ y. r y ∙ was.readers y ∙ sym (readers_alike (Done t) P (λ z. refl) (all_readers P y));
    writers = λ y. w y ∙ was.writers y ∙ sym (writers_alike (Done t) P (λ z. refl) (all_writers P y));
    sources = λ y. ap (λ (ls : List (List Txn)). list_of ls y.0) so ∙ was.sources y ∙ sym (sources_alike (Done t) P (λ z. refl) y (all_sources P y));
    begun = ap length so ∙ was.begun;
    unfinished = u ∙ ap (filter (λ u. not (eqb u.0 t.0))) was.unfinished ∙ left_unfinished (Done t) t m others refl;
  }
    where
      others : (u : ℕ) → unfinished (Done t ∷ P) u ≡ (not (eqb u t.0) && unfinished P u)
      others u = unfinished-cons (Done t) P u ∙ go (eqb t.0 u) (eqb u t.0) (eqb_swap t.0 u) (begun P u) (committed P u) (aborted P u)
          ∙ ap (λ (b : Bool). not (eqb u t.0) && b) (sym (unfinished_is P u))
        where
          go : (k l : Bool) → k ≡ l → (x y z : Bool) → (x && not (k || y) && not z) ≡ (not l && (x && not y && not z))
          go true true h true y z = refl
          go true true h false y z = refl
          go true false h x y z = absurd (cc)
          go false true h x y z = absurd (cc)
          go false false h x y z = refl

  -- a transaction is aborted
  pub noted_gone : (t : Txn) (c : Cause) → MayFollow P (Gone t c)
      → ((y : Cell) → readers_in d y ≡ without_lasts (count_by (reads y) (own_events (Gone t c ∷ P) t.0)) (λ r. eqb r.0.0 t.0) (readers_in b y))
      → ((y : Cell) → writers_in d y ≡ without_lasts (count_by (puts y) (own_events (Gone t c ∷ P) t.0)) (λ u. eqb u.0 t.0) (writers_in b y))
      → length d.sources ≡ length b.sources
      → ((u : Txn) → sources_in d u ≡ cond (eqb t.0 u.0) [] (sources_in b u))
      → d.unfinished ≡ filter (λ u. not (eqb u.0 t.0)) b.unfinished
      → BookOf d (Gone t c ∷ P)
  unfolding Orderly readers writers sources begun_count all_readers all_writers all_sources
  noted_gone t c m r w n so u = record {
    orderly = (m, was.orderly);
    readers = λ y.
        r y ∙ ap (without_lasts (count_by (reads y) own) (λ r. eqb r.0.0 t.0)) (was.readers y)
        ∙ without_all (λ r. eqb r.0.0 t.0) (count_by (reads y) own) (filter (λ r. not (aborted P r.0.0)) (all_readers P y))
        (omega (
          arith,
          reads_counted (Gone t c ∷ P) t y,
          count_kept (λ r. eqb r.0.0 t.0) (λ r. not (aborted P r.0.0)) (all_readers P y) (λ r h. ap (λ (n : ℕ). not (aborted P n)) (eqb-true r.0.0 t.0 h) ∙ ap not it_stands),
        ))
        ∙ sym (filter_both (λ r. not (aborted P r.0.0)) (λ r. not (eqb r.0.0 t.0)) (λ r. not (aborted (Gone t c ∷ P) r.0.0)) (λ r. stands r.0.0) (all_readers P y));
    writers = λ y.
        w y ∙ ap (without_lasts (count_by (puts y) own) (λ u. eqb u.0 t.0)) (was.writers y)
        ∙ without_all (λ u. eqb u.0 t.0) (count_by (puts y) own) (filter (λ u. not (aborted P u.0)) (all_writers P y))
        (omega (
          arith,
          puts_counted (Gone t c ∷ P) t y,
          count_kept (λ u. eqb u.0 t.0) (λ u. not (aborted P u.0)) (all_writers P y) (λ u h. ap (λ (n : ℕ). not (aborted P n)) (eqb-true u.0 t.0 h) ∙ ap not it_stands),
        ))
        ∙ sym (filter_both (λ u. not (aborted P u.0)) (λ u. not (eqb u.0 t.0)) (λ u. not (aborted (Gone t c ∷ P) u.0)) (λ u. stands u.0) (all_writers P y));
    sources = λ y. so y ∙ ap (λ (ts : List Txn). cond (eqb t.0 y.0) [] ts) (was.sources y) ∙ gone_or (eqb t.0 y.0) (aborted P y.0) (all_sources P y) ∙ ap (λ (o : Bool). cond o [] (all_sources P y))
        (sym (aborted-cons (Gone t c) P y.0));
    begun = n ∙ was.begun;
    unfinished = u ∙ ap (filter (λ u. not (eqb u.0 t.0))) was.unfinished ∙ left_unfinished (Gone t c) t m others refl;
  }
    where
      own : List Event
      own = own_events (Gone t c ∷ P) t.0

      others : (u : ℕ) → unfinished (Gone t c ∷ P) u ≡ (not (eqb u t.0) && unfinished P u)
      others u = unfinished-cons (Gone t c) P u ∙ go (eqb t.0 u) (eqb u t.0) (eqb_swap t.0 u) (begun P u) (committed P u) (aborted P u)
          ∙ ap (λ (b : Bool). not (eqb u t.0) && b) (sym (unfinished_is P u))
        where
          go : (k l : Bool) → k ≡ l → (x y z : Bool) → (x && not y && not (k || z)) ≡ (not l && (x && not y && not z))
          go true true h true true z = refl
          go true true h true false z = refl
          go true true h false y z = refl
          go true false h x y z = absurd (cc)
          go false true h x y z = absurd (cc)
          go false false h x y z = refl

      stands : (u : ℕ) → not (aborted (Gone t c ∷ P) u) ≡ (not (eqb u t.0) && not (aborted P u))
      stands u = ap not (aborted-cons (Gone t c) P u) ∙ go (eqb t.0 u) (eqb u t.0) (eqb_swap t.0 u) (aborted P u)
        where
          go : (k l : Bool) → k ≡ l → (z : Bool) → not (k || z) ≡ (not l && not z)
          go true true h z = refl
          go true false h z = absurd (cc)
          go false true h z = absurd (cc)
          go false false h z = refl

      gone_or : (k l : Bool) (ts : List Txn) → cond k [] (cond l [] ts) ≡ cond (k || l) [] ts
      gone_or true l ts = refl
      gone_or false l ts = refl

      it_stands : aborted P t.0 ≡ false
      it_stands = (unfinished_parts P t.0 m).2
