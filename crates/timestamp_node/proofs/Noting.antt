-- The reads, the batches and the order of a history after one more event.
use Rattle.std.proofs.Common.{◌≡◌, ℕ, ℤ, suc, Bool, true, false, cond, not, ◌&&◌, ◌||◌, ◌-◌, eqb, List, [], ◌∷◌, ◌++◌, Option, drop, length, filter, refl, sym, ◌∙◌, ap, subst, arith, IsTrue}
use Rattle.std.proofs.lemmas.Bool.{and_from, or_left, eqb-true}
use Rattle.teb_rules.specs.declared.names.Txn.{Txn}
use Rattle.teb_rules.specs.declared.names.Cell.{Cell}
use Rattle.teb_rules.specs.declared.names.Spot.{Spot}
use Rattle.teb_rules.specs.declared.names.Session.{Session}
use Rattle.teb_rules.specs.declared.names.Kind.{Kind}
use Rattle.teb_rules.specs.declared.names.Cause.{Cause}
use Rattle.teb_rules.specs.names.Cells.{cell_cmp, same_cell}
use Rattle.teb_rules.proofs.lemmas.names.Bools.{eqb_swap}
use Rattle.teb_rules.specs.declared.history.Event.{Event}
use Rattle.teb_rules.specs.declared.history.Event.TheVariants.{Began, Got, Put, Ready, Done, Gone, Told}
use Rattle.teb_rules.specs.history.Phases.{is_began, is_gone, begun, unfinished, aborted, spot_of}
use Rattle.teb_rules.specs.history.Accesses.{got}
use Rattle.teb_rules.proofs.lemmas.history.Filters.{filter_both, filter_push}
use Rattle.teb_rules.specs.Setup.{Setup}
use Rattle.teb_rules.specs.Tree.{on, side, on_path, side_at}
use Rattle.phase_api.specs.FactsView.{IsOrderly}
use Rattle.phase_api.specs.Calls.{MayNote}
use Rattle.access_conflicts.proofs.Orderly.{orderly_next}
use Rattle.batch_book.specs.Book.{Book, has_joined}
use Rattle.batch_book.specs.Histories.{BatchesOf, IsNumbered, MayCome, Joins, Finishes, Passes}
use Rattle.batch_book.proofs.Numbered.{begins_once, begun_step, aborted_step, on_kept, unfinished_parts, spot_began}
use Rattle.batch_book.proofs.Telling.{batches_passed, on_joined}
use Rattle.sorted_multimap.specs.Multimap.{values_of, values_in}
use Rattle.timestamp_node.specs.Reads.{all_reads, reads, is_by, IsTimely}
use Rattle.timestamp_node.specs.Standing.{ShownReads, ReadsOf, StampsStand}
use Rattle.timestamp_node.proofs.OlderReads.{timely_next}
use Rattle.timestamp_node.proofs.Readers.{all_map, filter_agree, filter_alike, all_got}

may_come : (S : Setup) (P : List Event) (n : ℕ) (e : Event) → MayNote S P n e → MayCome P e
may_come S P n (Began t s k i) m = m.0
may_come S P n (Got t x w v) m = tt
may_come S P n (Put t x v) m = tt
may_come S P n (Ready t) m = tt
may_come S P n (Done t) m = m
may_come S P n (Gone t c) m = m
may_come S P n (Told t) m = tt

module _ {A : Type 0} where
  filter_skip : (p : A → Bool) (xs : List A) (a : A) → p a ≡ false → filter p (xs ++ a ∷ []) ≡ filter p xs
  filter_skip p [] a h = ap (λ (b : Bool). cond b (a ∷ []) []) h
  filter_skip p (x ∷ xs) a h = ap (λ (ys : List A). cond (p x) (x ∷ ys) ys) (filter_skip p xs a h)

-- the reader has the node on its path and is not aborted
abbrev here : Setup → List Event → ℕ → Txn × Txn → Bool
here S H n r = on S H n r.0.0 && not (aborted H r.0.0)

abbrev others : Txn → Txn × Txn → Bool
others t r = not (is_by t r)

module _ (S : Setup) (P : List Event) (n : ℕ) where
  -- an event that adds no read and aborts no transaction leaves the reads
  reads_kept : (e : Event) → IsOrderly S P → IsNumbered P → MayCome P e → ((x : Cell) → all_reads (e ∷ P) x ≡ all_reads P x) → ((u : ℕ) → is_gone u e ≡ false) → (x : Cell)
      → reads S P n x ≡ reads S (e ∷ P) n x
  unfolding reads
  reads_kept e o l m a g x = sym (ap (filter (here S (e ∷ P) n)) (a x) ∙ filter_agree (here S (e ∷ P) n) (here S P n) (all_reads P x) (all_map _ _ same (all_reads P x) (all_got P x)))
    where
      same : (r : Txn × Txn) → got P r.0.0 x ≡ true → here S (e ∷ P) n r ≡ here S P n r
      same r h =
          let b = on_kept S e P n r.0.0 (begins_once e P r.0.0 l m (o.got r.0.0 x h)) in
          let c = aborted_step e P r.0.0 ∙ ap (λ (b : Bool). b || aborted P r.0.0) (g r.0.0) in
          λ j. b j && not (c j)

  module _ (t : Txn) (y : Cell) (w : Txn) (v : Option ℤ) where
    same_got : (r : Txn × Txn) → here S (Got t y w v ∷ P) n r ≡ here S P n r
    same_got r = let b = on_kept S (Got t y w v) P n r.0.0 refl in let c = aborted_step (Got t y w v) P r.0.0 in λ j. b j && not (c j)

    reads_got : (x : Cell) → on S P n t.0 ≡ true → aborted P t.0 ≡ false → cond (same_cell y x) (reads S P n x ++ (t, w) ∷ []) (reads S P n x) ≡ reads S (Got t y w v ∷ P) n x
    unfolding reads all_reads
    reads_got x h a = sym (filter_alike (here S (Got t y w v ∷ P) n) (here S P n) same_got (all_reads (Got t y w v ∷ P) x) ∙ go (same_cell y x))
      where
        go : (b : Bool) → filter (here S P n) (cond b (all_reads P x ++ (t, w) ∷ []) (all_reads P x)) ≡ cond b (filter (here S P n) (all_reads P x) ++ (t, w) ∷ [])
            (filter (here S P n) (all_reads P x))
        go true = filter_push (here S P n) (all_reads P x) (t, w) (and_from _ _ h (ap not a))
        go false = refl

    reads_got_off : (x : Cell) → on S P n t.0 ≡ false → reads S P n x ≡ reads S (Got t y w v ∷ P) n x
    unfolding reads all_reads
    reads_got_off x h = sym (filter_alike (here S (Got t y w v ∷ P) n) (here S P n) same_got (all_reads (Got t y w v ∷ P) x) ∙ go (same_cell y x))
      where
        go : (b : Bool) → filter (here S P n) (cond b (all_reads P x ++ (t, w) ∷ []) (all_reads P x)) ≡ filter (here S P n) (all_reads P x)
        go true = filter_skip (here S P n) (all_reads P x) (t, w) (ap (λ (b : Bool). b && not (aborted P t.0)) h)
        go false = refl

  module _ (t : Txn) (c : Cause) where
    gone_here : (r : Txn × Txn) → here S (Gone t c ∷ P) n r ≡ (on S P n r.0.0 && not (eqb t.0 r.0.0 || aborted P r.0.0))
    gone_here r = let b = on_kept S (Gone t c) P n r.0.0 refl in let a = aborted_step (Gone t c) P r.0.0 in λ j. b j && not (a j)

    without : (x : Cell) → filter (others t) (reads S P n x) ≡ reads S (Gone t c ∷ P) n x
    unfolding reads all_reads
    without x = sym (filter_both (here S P n) (others t) (here S (Gone t c ∷ P) n) split (all_reads P x))
      where
        go : (k l : Bool) → k ≡ l → (a b : Bool) → (b && not (k || a)) ≡ (not l && (b && not a))
        go true true h true true = refl
        go true true h true false = refl
        go true true h false true = refl
        go true true h false false = refl
        go false false h a b = refl
        go true false h a b = absurd (cc)
        go false true h a b = absurd (cc)

        split : (r : Txn × Txn) → here S (Gone t c ∷ P) n r ≡ (others t r && here S P n r)
        split r = gone_here r ∙ go (eqb t.0 r.0.0) (eqb r.0.0 t.0) (eqb_swap t.0 r.0.0) (aborted P r.0.0) (on S P n r.0.0)

    -- if t has the node on its path and is not aborted, all its reads are there
    gone_reads : (x : Cell) → on S P n t.0 ≡ true → aborted P t.0 ≡ false → filter (is_by t) (reads S P n x) ≡ filter (is_by t) (all_reads (Gone t c ∷ P) x)
    unfolding reads all_reads
    gone_reads x o a = sym (filter_both (here S P n) (is_by t) (is_by t) same (all_reads P x))
      where
        same : (r : Txn × Txn) → is_by t r ≡ (is_by t r && here S P n r)
        same r = go (is_by t r) refl
          where
            go : (b : Bool) → is_by t r ≡ b → b ≡ (b && here S P n r)
            go true h = let e = eqb-true r.0.0 t.0 h in sym (and_from _ _ (ap (on S P n) e ∙ o) (ap (λ (u : ℕ). not (aborted P u)) e ∙ ap not a))
            go false h = refl

    reads_gone_off : (x : Cell) → on S P n t.0 ≡ false → reads S P n x ≡ reads S (Gone t c ∷ P) n x
    unfolding reads all_reads
    reads_gone_off x h = sym (filter_alike (here S (Gone t c ∷ P) n) (here S P n) same (all_reads P x))
      where
        same : (r : Txn × Txn) → here S (Gone t c ∷ P) n r ≡ here S P n r
        same r = gone_here r ∙ go (eqb t.0 r.0.0) refl
          where
            go : (b : Bool) → eqb t.0 r.0.0 ≡ b → (on S P n r.0.0 && not (b || aborted P r.0.0)) ≡ (on S P n r.0.0 && not (aborted P r.0.0))
            go true e = let f : on S P n r.0.0 ≡ false = ap (on S P n) (sym (eqb-true t.0 r.0.0 e)) ∙ h in rw f refl
            go false e = refl

-- StampsStand after one more event
module _ (S : Setup) (H : List Event) (n : ℕ) (e : Event) (is : H ≡ e ∷ drop 1 H) (may : MayNote S (drop 1 H) n e) where
  pub at_end : (at len : ℕ) → len ≡ length H → at ≡ len - 1 → at ≡ length (drop 1 H)
  at_end at len l q = let z : length H ≡ suc (length (drop 1 H)) = ap (λ (G : List Event). length G) is in omega arith

  pub orderly_now : IsOrderly S (drop 1 H) → IsOrderly S H
  orderly_now o = subst (IsOrderly S) (sym is) (orderly_next S (drop 1 H) n e may o)

  pub begun_now : (t : ℕ) → is_began t e ≡ true → IsTrue (begun H t)
  begun_now t b = ap (λ (G : List Event). begun G t) is ∙ begun_step e (drop 1 H) t ∙ or_left (is_began t e) (begun (drop 1 H) t) b

  come : MayCome (drop 1 H) e
  come = may_come S (drop 1 H) n e may

  module _ (o : Bool) (b : Book) (p : ShownReads) (was : StampsStand n o b p S (drop 1 H)) where
    next : (b' : Book) (p' : ShownReads) → b'.size ≡ b.size → BatchesOf b' S (e ∷ drop 1 H) n → ReadsOf p' S (e ∷ drop 1 H) n → StampsStand n o b' p' S H
    next b' p' z bs rs = record {
      kind = was.kind;
      ordered = was.ordered;
      size = z ∙ was.size;
      orderly = orderly_now was.orderly;
      timely = subst IsTimely (sym is) (timely_next S (drop 1 H) n e may was.timely);
      batches = subst (λ (G : List Event). BatchesOf b' S G n) (sym is) bs;
      reads = subst (λ (G : List Event). ReadsOf p' S G n) (sym is) rs;
    }

    same_batches : Passes S (drop 1 H) n e → BatchesOf b S (e ∷ drop 1 H) n
    same_batches q = batches_passed b S (drop 1 H) n e was.batches come q

    same_reads : ((x : Cell) → all_reads (e ∷ drop 1 H) x ≡ all_reads (drop 1 H) x) → ((u : ℕ) → is_gone u e ≡ false) → ReadsOf p S (e ∷ drop 1 H) n
    same_reads a g = λ x. was.reads x ∙ reads_kept S (drop 1 H) n e was.orderly was.batches.numbered come a g x

    -- an unfinished transaction has joined if and only if the node is on its path
    on_before : (t : ℕ) → unfinished (drop 1 H) t ≡ true → on S (drop 1 H) n t ≡ has_joined b t
    on_before t u = on_joined b S (drop 1 H) n t was.batches (unfinished_parts (drop 1 H) t u).0

    pub began_on : (t : Txn) (s : Session) (k : Kind) (i : ℕ) → e ≡ Began t s k i → on S H n t.0 ≡ true → (b' : Book) (m at : ℕ) → m ≡ side S H n t.0 → at ≡ length (drop 1 H) → b'.size ≡ b.size
        → ((S : Setup) (Q : List Event) (n : ℕ) (d : Event) → BatchesOf b S Q n → MayCome Q d → Joins S n m t.0 d → at ≡ length Q → BatchesOf b' S (d ∷ Q) n) → StampsStand n o b' p S H
    unfolding on side
    began_on t s k i q h b' m at side_is end z joined = next b' p z (joined S (drop 1 H) n e was.batches come joins end)
        (same_reads (λ x. ap (λ (d : Event). all_reads (d ∷ drop 1 H) x) q ∙ keeps x) (λ u. ap (is_gone u) q))
      where
        keeps : (x : Cell) → all_reads (Began t s k i ∷ drop 1 H) x ≡ all_reads (drop 1 H) x
        keeps x = unfold all_reads in refl

        spot : spot_of H t.0 ≡ record { kind = k; instance = i }
        spot = ap (λ (G : List Event). spot_of G t.0) is ∙ ap (λ (d : Event). spot_of (d ∷ drop 1 H) t.0) q ∙ spot_began t s k i (drop 1 H)

        joins : Joins S n m t.0 e
        joins = subst (Joins S n m t.0) (sym q) (refl, ap (on_path S.tree n) (sym spot) ∙ h, ap (λ (z : Spot). side_at S.tree n z t.0) (sym spot) ∙ sym side_is)

    pub began_off : (t : Txn) (s : Session) (k : Kind) (i : ℕ) → e ≡ Began t s k i → on S H n t.0 ≡ false → StampsStand n o b p S H
    unfolding on
    began_off t s k i q h = next b p refl (same_batches (subst (Passes S (drop 1 H) n) (sym q) (ap (on_path S.tree n) (sym spot) ∙ h)))
        (same_reads (λ x. ap (λ (d : Event). all_reads (d ∷ drop 1 H) x) q ∙ keeps x) (λ u. ap (is_gone u) q))
      where
        keeps : (x : Cell) → all_reads (Began t s k i ∷ drop 1 H) x ≡ all_reads (drop 1 H) x
        keeps x = unfold all_reads in refl

        spot : spot_of H t.0 ≡ record { kind = k; instance = i }
        spot = ap (λ (G : List Event). spot_of G t.0) is ∙ ap (λ (d : Event). spot_of (d ∷ drop 1 H) t.0) q ∙ spot_began t s k i (drop 1 H)

    pub got_on : (t : Txn) (y : Cell) (w : Txn) (v : Option ℤ) → e ≡ Got t y w v → has_joined b t.0 ≡ true → (p' : ShownReads)
        → ((x : Cell) → values_in cell_cmp p' x ≡ cond (same_cell y x) (values_in cell_cmp p x ++ (t, w) ∷ []) (values_in cell_cmp p x)) → StampsStand n o b p' S H
    got_on t y w v q h p' pushed =
        let u : unfinished (drop 1 H) t.0 ≡ true = (subst (λ (d : Event). MayNote S (drop 1 H) n d) q may).0 in
        let before = on_before t.0 u ∙ h in
        next b p' refl (same_batches (subst (Passes S (drop 1 H) n) (sym q) tt)) (subst (λ (d : Event). ReadsOf p' S (d ∷ drop 1 H) n) (sym q)
        (λ x. pushed x ∙ ap (λ (rs : List (Txn × Txn)). cond (same_cell y x) (rs ++ (t, w) ∷ []) rs) (was.reads x) ∙ reads_got S (drop 1 H) n t y w v x before (unfinished_parts (drop 1 H) t.0 u).2))

    pub got_off : (t : Txn) (y : Cell) (w : Txn) (v : Option ℤ) → e ≡ Got t y w v → has_joined b t.0 ≡ false → StampsStand n o b p S H
    got_off t y w v q h =
        let u : unfinished (drop 1 H) t.0 ≡ true = (subst (λ (d : Event). MayNote S (drop 1 H) n d) q may).0 in
        let before = on_before t.0 u ∙ h in
        next b p refl (same_batches (subst (Passes S (drop 1 H) n) (sym q) tt))
        (subst (λ (d : Event). ReadsOf p S (d ∷ drop 1 H) n) (sym q) (λ x. was.reads x ∙ reads_got_off S (drop 1 H) n t y w v x before))

    pub done : (t : Txn) → e ≡ Done t → (b' : Book) (at : ℕ) → at ≡ length (drop 1 H) → b'.size ≡ b.size
        → ((S : Setup) (Q : List Event) (n : ℕ) (d : Event) → BatchesOf b S Q n → MayCome Q d → Finishes t.0 d → at ≡ length Q → BatchesOf b' S (d ∷ Q) n) → StampsStand n o b' p S H
    done t q b' at end z finished =
        next b' p z (finished S (drop 1 H) n e was.batches come (subst (Finishes t.0) (sym q) refl) end)
        (same_reads (λ x. ap (λ (d : Event). all_reads (d ∷ drop 1 H) x) q ∙ keeps x) (λ u. ap (is_gone u) q))
      where
        keeps : (x : Cell) → all_reads (Done t ∷ drop 1 H) x ≡ all_reads (drop 1 H) x
        keeps x = unfold all_reads in refl

    gone : (t : Txn) (c : Cause) → e ≡ Gone t c → (b' : Book) (at : ℕ) → at ≡ length (drop 1 H) → b'.size ≡ b.size
        → ((S : Setup) (Q : List Event) (n : ℕ) (d : Event) → BatchesOf b S Q n → MayCome Q d → Finishes t.0 d → at ≡ length Q → BatchesOf b' S (d ∷ Q) n)
        → (p' : ShownReads) → ((x : Cell) → values_in cell_cmp p' x ≡ reads S (Gone t c ∷ drop 1 H) n x) → StampsStand n o b' p' S H
    gone t c q b' at end z finished p' shown =
        next b' p' z (finished S (drop 1 H) n e was.batches come (subst (Finishes t.0) (sym q) refl) end) (subst (λ (d : Event). ReadsOf p' S (d ∷ drop 1 H) n) (sym q) shown)

    -- the multimap has the reads of an aborted transaction
    pub gone_read : (t : Txn) (c : Cause) → e ≡ Gone t c → has_joined b t.0 ≡ true → (x : Cell) → filter (is_by t) (values_in cell_cmp p x) ≡ filter (is_by t) (all_reads H x)
    gone_read t c q h x =
        let u : unfinished (drop 1 H) t.0 ≡ true = subst (λ (d : Event). MayNote S (drop 1 H) n d) q may in
        let before = on_before t.0 u ∙ h in
        ap (filter (is_by t)) (was.reads x) ∙ gone_reads S (drop 1 H) n t c x before (unfinished_parts (drop 1 H) t.0 u).2
        ∙ ap (λ (G : List Event). filter (is_by t) (all_reads G x)) (sym (is ∙ ap (λ (d : Event). d ∷ drop 1 H) q))

    pub gone_on : (t : Txn) (c : Cause) → e ≡ Gone t c → (b' : Book) (at : ℕ) → at ≡ length (drop 1 H) → b'.size ≡ b.size
        → ((S : Setup) (Q : List Event) (n : ℕ) (d : Event) → BatchesOf b S Q n → MayCome Q d → Finishes t.0 d → at ≡ length Q → BatchesOf b' S (d ∷ Q) n)
        → (p' : ShownReads) → ((x : Cell) → values_in cell_cmp p' x ≡ filter (λ r. not (is_by t r)) (values_in cell_cmp p x)) → StampsStand n o b' p' S H
    gone_on t c q b' at end z finished p' left = gone t c q b' at end z finished p' (λ x. left x ∙ ap (filter (others t)) (was.reads x) ∙ without S (drop 1 H) n t c x)

    pub gone_off : (t : Txn) (c : Cause) → e ≡ Gone t c → has_joined b t.0 ≡ false → (b' : Book) (at : ℕ) → at ≡ length (drop 1 H) → b'.size ≡ b.size
        → ((S : Setup) (Q : List Event) (n : ℕ) (d : Event) → BatchesOf b S Q n → MayCome Q d → Finishes t.0 d → at ≡ length Q → BatchesOf b' S (d ∷ Q) n) → StampsStand n o b' p S H
    gone_off t c q h b' at end z finished =
        let u : unfinished (drop 1 H) t.0 ≡ true = subst (λ (d : Event). MayNote S (drop 1 H) n d) q may in
        gone t c q b' at end z finished p (λ x. was.reads x ∙ reads_gone_off S (drop 1 H) n t c x (on_before t.0 u ∙ h))

    -- an event that does not concern the node
    pub idle : (d : Event) → e ≡ d → Passes S (drop 1 H) n d → ((x : Cell) → all_reads (d ∷ drop 1 H) x ≡ all_reads (drop 1 H) x) → ((u : ℕ) → is_gone u d ≡ false) → StampsStand n o b p S H
    idle d q passes keeps g = next b p refl (same_batches (subst (Passes S (drop 1 H) n) (sym q) passes))
        (same_reads (λ x. ap (λ (d : Event). all_reads (d ∷ drop 1 H) x) q ∙ keeps x) (λ u. ap (is_gone u) q ∙ g u))

    pub put : (t : Txn) (x : Cell) (v : Option ℤ) → e ≡ Put t x v → StampsStand n o b p S H
    unfolding all_reads
    put t x v q = idle (Put t x v) q tt (λ x. refl) (λ u. refl)

    pub readied : (t : Txn) → e ≡ Ready t → StampsStand n o b p S H
    unfolding all_reads
    readied t q = idle (Ready t) q tt (λ x. refl) (λ u. refl)

    pub told : (t : Txn) → e ≡ Told t → StampsStand n o b p S H
    unfolding all_reads
    told t q = idle (Told t) q tt (λ x. refl) (λ u. refl)

-- the empty history has no reads, so all are timely
pub no_timely : IsTimely []
unfolding IsTimely
no_timely = tt

-- the empty multimap has the reads of the empty history
pub no_reads : (p : ShownReads) (S : Setup) (n : ℕ) → p.entries ≡ [] → ReadsOf p S [] n
unfolding reads all_reads
no_reads p S n e = λ x. ap (λ (es : List (Cell × (Txn × Txn))). values_of cell_cmp es x) e
