-- Which transactions have put a cell and are across from a reader of it. The batches of a cell's writers follow one another in the
-- order of the writers' numbers, so it is enough to test the last committed writer that starts before the reader's batch closes.
use Rattle.std.proofs.Common.{◌≡◌, ◌≢◌, ◌⊎◌, ℕ, suc, ◌+◌, ◌<◌, ◌≤◌, true, false, ◌&&◌, List, length, get_or, sym, ap, ◌∙◌, inl, inr, arith, ltb-true, lt-ltb}
use Rattle.std.proofs.lemmas.Bool.{cases_eq, cases_lt, cases_order, cases_Bool, both_ways, and_parts, and_from, or_cases, or_right, false_from_ne_true, ltb-false}
use Rattle.std.proofs.lemmas.List.{get_or-take, get_or_default, length-take}
use Rattle.teb_rules.specs.declared.names.Cell.{Cell}
use Rattle.teb_rules.specs.declared.names.Txn.{Txn}
use Rattle.teb_rules.specs.declared.names.ControlKind.TheVariants.{Snapshot}
use Rattle.teb_rules.specs.declared.history.Event.{Event}
use Rattle.teb_rules.specs.history.Accesses.{wrote, put_at}
use Rattle.teb_rules.specs.history.Phases.{txns, begun, began_at, gone_at, committed, unfinished, aborted}
use Rattle.teb_rules.specs.history.Positions.{upto}
use Rattle.teb_rules.specs.Setup.{Setup}
use Rattle.teb_rules.specs.Tree.{row, on, side, meets}
use Rattle.teb_rules.specs.Batches.{start, close, concurrent}
use Rattle.teb_rules.specs.laws.Lawful.{Lawful}
use Rattle.teb_rules.proofs.lemmas.laws.Lists.{list_any_from}
use Rattle.teb_rules.proofs.lemmas.laws.Timeline.{put_order, put_granted, Lawful-upto, begun-upto, begun_counted, begun_there}
use Rattle.teb_rules.proofs.lemmas.laws.Nodes.{meets_parts, meets_from, meets_sym}
use Rattle.teb_rules.proofs.lemmas.laws.Ranks.{commits, same_close}
use Rattle.teb_rules.proofs.lemmas.laws.Serial.{commits_from}
use Rattle.teb_rules.proofs.lemmas.laws.Intervals.{interval, apart_or_same}
use Rattle.teb_rules.proofs.lemmas.laws.SnapshotWrites.{snapshot_write}
use Rattle.teb_rules.proofs.lemmas.laws.VersionOrder.{put_differs}
use Rattle.batch_book.proofs.Numbered.{begun_all, txns-In, unfinished_parts}
use Rattle.batch_book.proofs.Telling.{lawful_numbered}
use Rattle.phase_api.specs.FactsView.{IsOrderly}
use Rattle.access_book.specs.Books.{is_among}
use Rattle.snapshot_node.specs.Standing.{counts, writers_in}
use Rattle.snapshot_node.specs.Pivots.{is_across}
use Rattle.snapshot_node.specs.Leaving.{is_beside, is_overwritten, AreStarted}
use Rattle.snapshot_node.proofs.AnyOf.{any_is}
use Rattle.snapshot_node.proofs.Grown.{place_among}
use Rattle.snapshot_node.proofs.Later.{numbers_rise}
use Rattle.snapshot_node.proofs.Listed.{at_among, puts_parts, among_writers, writers_ascend}

put_there : (H : List Event) (t : ℕ) (x : Cell) → wrote H t x ≡ true → put_at H t x < length H
unfolding wrote
put_there H t x h = ltb-true _ _ h

concurrent_is : (S : Setup) (H : List Event) (n a b : ℕ) → concurrent S H n a b ≡ true → (start S H n a < close S H n b) × (start S H n b < close S H n a)
unfolding concurrent
concurrent_is S H n a b h = let p = and_parts _ _ h in (ltb-true _ _ p.0, ltb-true _ _ p.1)

concurrent_from : (S : Setup) (H : List Event) (n a b : ℕ) → start S H n a < close S H n b → start S H n b < close S H n a → concurrent S H n a b ≡ true
unfolding concurrent
concurrent_from S H n a b e f = and_from _ _ (lt-ltb _ _ e) (lt-ltb _ _ f)

-- of two transactions, the one with the lower number did not begin later
numbered_began : (S : Setup) (H : List Event) (u w : ℕ) → Lawful S H → began_at H u < length H → began_at H w < length H → u ≤ w → began_at H u ≤ began_at H w
numbered_began S H u w l bu bw le =
    let j = suc (began_at H w) in
    let within : j ≤ length H = omega arith in
    let lq = Lawful-upto S H j l in
    let zw = (begun_counted S (upto j H) w lq (begun_there H j w within (let z : began_at H w < j = omega arith in z))).1 in
    let zu = (begun_counted S H u l bu).0 in
    let b : begun (upto j H) u ≡ true = begun_all (upto j H) u (lawful_numbered S (upto j H) lq) zu (omega arith) in
    let y : began_at H u < j = ltb-true _ _ (sym (begun-upto H j u within) ∙ b) in
    omega arith

module _ (S : Setup) (H : List Event) (n : ℕ) (l : Lawful S H) (c : (row S.tree n).control ≡ Snapshot) where
  -- t is not aborted, n is on its path, and it has put x
  record Writer (x : Cell) (t : ℕ) : Type 0 where
    stands : length H ≤ gone_at H t
    here : on S H n t ≡ true
    put : put_at H t x < length H

  began : (t : ℕ) (x : Cell) → Writer x t → began_at H t < length H
  began t x w = let z = (put_order S H t x l w.put).0 in let y = w.put in omega arith

  -- of two writers of different sides, the earlier one's batch is closed before the later one's starts
  earlier_closed : (u w : ℕ) (x : Cell) → meets S H n u w ≡ true → Writer x u → Writer x w → put_at H w x < put_at H u x → close S H n w < start S H n u
  earlier_closed u w x m pu pw e =
      let h = pu.put in
      let g = pw.stands in
      let ou = put_order S H u x l h in
      let ow = put_order S H w x l pw.put in
      (snapshot_write S H (put_at H u x) n u w x l (let z : put_at H u x ≤ length H = omega arith in z) (put_granted S H u x l h) c m ou.0
      (let y = ow.0 in let z : began_at H w < put_at H u x = omega arith in z) e
      (let z : put_at H u x ≤ gone_at H w = omega arith in z)).1

  -- two writers are of one batch, or the batch of one is closed before the other's starts
  one_or_behind : (u w : ℕ) (x : Cell) → Writer x u → Writer x w → ((side S H n u ≡ side S H n w) × (start S H n u ≡ start S H n w))
      ⊎ ((close S H n u < start S H n w) ⊎ (close S H n w < start S H n u))
  one_or_behind u w x pu pw = elim (cases_eq (side S H n u) (side S H n w)) [
    | inl e ↦ elim (apart_or_same S H n u w l (began u x pu) (began w x pw) pu.here pw.here e) [ inl q ↦ inl (e, q) | inr o ↦ inr o ]
    | inr ne ↦ (let m = meets_from S H n u w pu.here pw.here ne in
        elim (cases_order (put_at H u x) (put_at H w x)) [
          | inl e ↦ absurd (put_differs H u w x (λ q. ne (ap (side S H n) q)) pu.put e)
          | inr o ↦ elim o [
            | inl e ↦ inr (inl (earlier_closed w u x (meets_sym S H n u w m) pw pu e))
            | inr e ↦ inr (inr (earlier_closed u w x m pu pw e))
          ]
        ])
  ]

  -- the batch of the higher-numbered writer does not start earlier
  in_order : (u w : ℕ) (x : Cell) → Writer x u → Writer x w → u ≤ w → start S H n u ≤ start S H n w
  in_order u w x pu pw le =
      let bu = began u x pu in
      let bw = began w x pw in
      let iu = interval S H n u l bu pu.here in
      let iw = interval S H n w l bw pw.here in
      let x1 = iu.by_began in let x2 = iu.closes in let x3 = iw.by_began in let x4 = iw.closes in
      elim (one_or_behind u w x pu pw) [
        | inl e ↦ (let z = e.1 in omega arith)
        | inr o ↦ elim o [
          | inl e ↦ omega arith
          | inr e ↦ absurd (let z = numbered_began S H u w l bu bw le in omega arith)
        ]
      ]

  module _ (o : IsOrderly S H) (x : Cell) where
    abbrev all : List Txn
    all = writers_in S H n x

    -- a transaction that counts is not aborted
    stands : (u : ℕ) → counts H u ≡ true → length H ≤ gone_at H u
    unfolding aborted
    stands u h = elim (or_cases (unfinished H u) (committed H u) h) [
      | inl e ↦ ltb-false _ _ (unfinished_parts H u e).2
      | inr e ↦ (commits S H u l (commits_from H u e)).1
    ]

    writer_of : (u : ℕ) → is_among u all ≡ true → Writer x u
    writer_of u h = let p = puts_parts S H n x u (sym (among_writers S H n x u o) ∙ h) in record { stands = stands u p.1; here = p.0; put = put_there H u x p.2 }

    -- the batches of the writers start in order
    pub starts_rise : (i j : ℕ) (d : Txn) → i ≤ j → j < length all → start S H n (get_or all i d).0 ≤ start S H n (get_or all j d).0
    starts_rise i j d le low =
        in_order (get_or all i d).0 (get_or all j d).0 x (writer_of _ (at_among all i d (let z : i < length all = omega arith in z))) (writer_of _ (at_among all j d low))
        (numbers_rise all (writers_ascend S H n x) i j d le low)

    -- so if the writer at place m starts before position i, all up to m do; if it does not, none from m on does
    module _ (m : ℕ) (low : m < length all) (e : Txn) (i : ℕ) where
      at_default : (d : Txn) → start S H n (get_or all m e).0 ≡ start S H n (get_or all m d).0
      at_default d = ap (λ (u : Txn). start S H n u.0) (get_or_default all m e d low)

      pub all_before : start S H n (get_or all m e).0 < i → (j : ℕ) (d : Txn) → j < m + 1 → start S H n (get_or all j d).0 < i
      all_before h j d le = let y = starts_rise j m d (omega arith) low in let z = at_default d in omega arith

      pub all_behind : i ≤ start S H n (get_or all m e).0 → (j : ℕ) (d : Txn) → m ≤ j → j < length all → i ≤ start S H n (get_or all j d).0
      all_behind h j d le lt = let y = starts_rise m j d le lt in let z = at_default d in omega arith

    -- the writers whose batches start before the batch of a closes
    module _ (a : ℕ) (ba : began_at H a < length H) (oa : on S H n a ≡ true) (d : Txn) (us : List Txn) (s : AreStarted S H n x (close S H n a) us) where
      -- b is committed, across from a, and has put x
      abbrev IsBeside : ℕ → Type 0
      IsBeside b = (is_beside S H n a b && wrote H b x) ≡ true

      record Beside (b : ℕ) : Type 0 where
        committed : committed H b ≡ true
        writer : Writer x b
        other : side S H n a ≢ side S H n b
        before : start S H n a < close S H n b
        place : ℕ
        within : place < length us
        is : (get_or us place d).0 ≡ b

      started_at : (i : ℕ) → i < length us → get_or us i d ≡ get_or all i d
      started_at i low = ap (λ (ws : List Txn). get_or ws i d) s.first ∙ get_or-take (length us) all i d low

      so_many : length us ≤ length all
      so_many = let z = ap length s.first ∙ length-take (length us) all in omega arith

      beside_is : (b : ℕ) → IsBeside b → Beside b
      beside_is b h =
          let p = and_parts (is_beside S H n a b) (wrote H b x) h in
          let q = and_parts (committed H b) (is_across S H n a b) p.0 in
          let r = and_parts (meets S H n a b) (concurrent S H n a b) q.1 in
          let m = meets_parts S H n a b r.0 in
          let k = concurrent_is S H n a b r.1 in
          let listed : is_among b all ≡ true = among_writers S H n x b o ∙ and_from _ _ (and_from _ _ m.1 (or_right (unfinished H b) _ q.0)) p.1 in
          let t = place_among d all b listed in
          let low : t.0 < length us = elim (cases_lt t.0 (length us)) [
            | inl z ↦ z
            | inr z ↦ absurd (let y = s.behind t.0 d z t.1 in let y2 = ap (start S H n) t.2 in let y3 = k.1 in omega arith)
          ] in
          record {
            committed = q.0;
            writer = writer_of b listed;
            other = m.2;
            before = k.0;
            place = t.0;
            within = low;
            is = ap (λ (u : Txn). u.0) (started_at t.0 low) ∙ t.2;
          }

      nobody : ((b : ℕ) → IsBeside b → ⊥) → false ≡ is_overwritten S H n a x
      nobody none = sym (false_from_ne_true _ (λ q. let b = any_is _ (txns H) q in none b.0 b.1))

      -- none of them is committed
      pub none_committed : ((k : ℕ) (e : Txn) → k < length us → committed H (get_or us k e).0 ≡ false) → false ≡ is_overwritten S H n a x
      none_committed none = nobody (λ b h. let k = beside_is b h in both_ways _ (none k.place d k.within) (ap (committed H) k.is ∙ k.committed))

      pub started_among : (i : ℕ) → i < length us → is_among (get_or us i d).0 all ≡ true
      started_among i low = ap (λ (u : Txn). is_among u.0 all) (started_at i low) ∙ at_among all i d (let z = so_many in omega arith)

      -- the last committed one of them decides
      module _ (i : ℕ) (low : i < length us) (done : committed H (get_or us i d).0 ≡ true) (last : (k : ℕ) (e : Txn) → i < k → k < length us → committed H (get_or us k e).0 ≡ false) where
        abbrev t : ℕ
        t = (get_or us i d).0

        writer : Writer x t
        writer = writer_of t (started_among i low)

        -- if some transaction is beside a and has put x, this one is across from a
        across : (b : ℕ) → Beside b → is_across S H n a t ≡ true
        across b k =
            let le : k.place ≤ i = elim (cases_lt i k.place) [ inl z ↦ absurd (both_ways _ (last k.place d z k.within) (ap (committed H) k.is ∙ k.committed)) | inr z ↦ z ] in
            let rise : start S H n b ≤ start S H n t = (
            let y = starts_rise k.place i d le (let z = so_many in omega arith) in
            let y1 = ap (λ (u : Txn). start S H n u.0) (started_at k.place k.within) in
            let y2 = ap (λ (u : Txn). start S H n u.0) (started_at i low) in
            let y3 = ap (start S H n) k.is in omega arith
            ) in
            let it = interval S H n t l (began t x writer) writer.here in
            let ib = interval S H n b l (began b x k.writer) k.writer.here in
            let x1 = it.by_began in let x2 = it.closes in let x3 = ib.by_began in let x4 = ib.closes in
            let y1 = k.before in
            let y2 : start S H n t < close S H n a = s.before i d low in
            let p : (side S H n a ≢ side S H n t) × (start S H n a < close S H n t) = elim (one_or_behind b t x k.writer writer) [
              | inl e ↦ (
                λ q. k.other (q ∙ sym e.0),
                (let z = same_close S H n b t l (began b x k.writer) (began t x writer) k.writer.here writer.here e.0 e.1 in omega arith),
              )
              | inr f ↦ elim f [
                | inr e ↦ absurd (omega arith)
                | inl e ↦ (
                  λ q. elim (apart_or_same S H n t a l (began t x writer) ba writer.here oa (sym q)) [ inl g ↦ omega arith | inr g ↦ elim g [ inl h ↦ omega arith | inr h ↦ omega arith ] ],
                  omega arith,
                )
              ]
            ] in
            and_from _ _ (meets_from S H n a t oa writer.here p.0) (concurrent_from S H n a t p.1 y2)

        pub last_decides : is_across S H n a t ≡ is_overwritten S H n a x
        last_decides = elim (cases_Bool (is_overwritten S H n a x)) [
          | inl q ↦ (let b = any_is _ (txns H) q in across b.0 (beside_is b.0 b.1) ∙ sym q)
          | inr q ↦ false_from_ne_true _ (λ e. both_ways _ q (
              let p = (puts_parts S H n x t (sym (among_writers S H n x t o) ∙ started_among i low)).2 in
              list_any_from _ (txns H) t (txns-In H t (lawful_numbered S H l) (o.wrote t x p)) (and_from _ _ (and_from _ _ done e) p))) ∙ sym q
        ]
