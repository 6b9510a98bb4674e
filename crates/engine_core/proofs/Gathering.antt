-- The cells of a scan, read one at a time.
use Rattle.std.proofs.Common.{◌≡◌, ℕ, suc, ◌+◌, ◌-◌, ◌<◌, ◌≤◌, false, List, [], ◌∷◌, ◌++◌, length, Option, ℤ, refl, sym, ◌∙◌, ap, ap₂, subst, arith, append_assoc, append-nil, length-append}
use Rattle.teb_rules.specs.declared.names.Cell.{Cell}
use Rattle.teb_rules.specs.declared.names.Txn.{Txn}
use Rattle.teb_rules.specs.declared.history.Event.{Event}
use Rattle.teb_rules.specs.declared.history.Event.TheVariants.{Got}
use Rattle.teb_rules.specs.Setup.{Setup, Store}
use Rattle.teb_rules.specs.declared.Stop.{Stop}
use Rattle.teb_rules.specs.declared.Stop.TheVariants as stop
use Rattle.teb_rules.specs.Stops.{access_stop, scan_stop, or_stop_of}
use Rattle.teb_rules.specs.Cascade.{txn}
use Rattle.teb_rules.specs.Versions.{read}
use Rattle.teb_rules.specs.Answer.{cells_from, read_all}
use Rattle.teb_rules.specs.laws.Lawful.{Granted, Lawful, MayAccess}
use Rattle.engine_core.specs.declared.engine_state.EngineState.{EngineState}
use Rattle.store_setup.specs.Stores.{store_of}
use Rattle.engine_core.specs.Cells.{cell_at}

-- the cells of a scan that remain after the first i
abbrev pub rest_of : Cell → ℕ → ℕ → List Cell
rest_of x n i = cells_from (cell_at x i) (n - i)

next_cell : (x : Cell) (i : ℕ) → cell_at (cell_at x i) 1 ≡ cell_at x (i + 1)
next_cell x i = let q : (x.key + i) + 1 ≡ x.key + (i + 1) = omega arith in ap (λ (k : ℕ). let y : Cell = record { table = x.table; key = k } in y) q

pub rest_first : (x : Cell) (n : ℕ) → rest_of x n 0 ≡ cells_from x n
rest_first x n =
    let p : x.key + 0 ≡ x.key = omega arith in
    let q : n - 0 ≡ n = omega arith in
    ap₂ (λ (k m : ℕ). cells_from (record { table = x.table; key = k }) m) p q

pub rest_more : (x : Cell) (n i : ℕ) → i < n → rest_of x n i ≡ cell_at x i ∷ rest_of x n (i + 1)
unfolding cells_from
rest_more x n i h =
    let q : n - i ≡ suc (n - (i + 1)) = omega arith in
    ap (cells_from (cell_at x i)) q ∙ ap (λ (y : Cell). cell_at x i ∷ cells_from y (n - (i + 1))) (next_cell x i)

pub rest_none : (x : Cell) (n : ℕ) → rest_of x n n ≡ []
unfolding cells_from
rest_none x n = let q : n - n ≡ 0 = omega arith in ap (cells_from (cell_at x n)) q

-- the stop of a scan is that of its first cell, or else that of the others
stop_cons : (S : Setup) (H : List Event) (t : ℕ) (x : Cell) (xs : List Cell) → scan_stop S H t (x ∷ xs) ≡ or_stop_of (access_stop S H t x false) (scan_stop S H t xs)
unfolding scan_stop
stop_cons S H t x xs = refl

pub stop_none : (S : Setup) (H : List Event) (t : ℕ) (x : Cell) (n : ℕ) → scan_stop S H t (rest_of x n n) ≡ stop.Go
unfolding scan_stop
stop_none S H t x n = ap (scan_stop S H t) (rest_none x n)

pub goes_on : (S : Setup) (H : List Event) (t : ℕ) (x : Cell) (n i : ℕ) (s : Stop) → i < n → s ≡ access_stop S H t (cell_at x i) false → s ≡ stop.Go
    → scan_stop S H t (rest_of x n i) ≡ scan_stop S H t (rest_of x n (i + 1))
goes_on S H t x n i s h e g = ap (scan_stop S H t) (rest_more x n i h) ∙ stop_cons S H t (cell_at x i) (rest_of x n (i + 1))
    ∙ ap (λ (z : Stop). or_stop_of z (scan_stop S H t (rest_of x n (i + 1)))) (sym e ∙ g)

pub stops_here : (S : Setup) (H : List Event) (t : ℕ) (x : Cell) (n i : ℕ) (s : Stop) → i < n → s ≡ access_stop S H t (cell_at x i) false → (s ≡ stop.Go → ⊥) → scan_stop S H t (rest_of x n i) ≡ s
stops_here S H t x n i s h e g = ap (scan_stop S H t) (rest_more x n i h) ∙ stop_cons S H t (cell_at x i) (rest_of x n (i + 1))
    ∙ ap (λ (z : Stop). or_stop_of z (scan_stop S H t (rest_of x n (i + 1)))) (sym e) ∙ first s (scan_stop S H t (rest_of x n (i + 1))) g
  where
    first : (s r : Stop) → (s ≡ stop.Go → ⊥) → or_stop_of s r ≡ s
    first stop.Go r g = absurd (g refl)
    first (stop.Wait u n) r g = refl
    first (stop.Break n b) r g = refl

-- progress of a scan after i cells: the values so far, and the history with their Gots
pub record HasRead (X : Store) (H : List Event) (t : ℕ) (x : Cell) (n : ℕ) (values : List (Option ℤ)) (P : List Event) (i : ℕ) : Type 0 where
  pub found : (read_all X H t (cells_from x n)).0 ≡ values ++ (read_all X P t (rest_of x n i)).0
  pub events : (read_all X H t (cells_from x n)).1 ≡ (read_all X P t (rest_of x n i)).1
  pub count : length values ≡ i

-- the scan before its first read
pub read_none : (X : Store) (H : List Event) (t : ℕ) (x : Cell) (n : ℕ) → HasRead X H t x n [] H 0
read_none X H t x n = record {
  found = ap (λ (cs : List Cell). (read_all X H t cs).0) (sym (rest_first x n));
  events = ap (λ (cs : List Cell). (read_all X H t cs).1) (sym (rest_first x n));
  count = refl;
}

all_cons : (X : Store) (H : List Event) (t : ℕ) (x : Cell) (xs : List Cell) → let r = read X.setup X.rows H t x in
    let rest = read_all X (Got (txn t) x (txn r.0) r.1 ∷ H) t xs in
    read_all X H t (x ∷ xs) ≡ (r.1 ∷ rest.0, rest.1)
unfolding read_all
all_cons X H t x xs = refl

read_one : (X : Store) (H : List Event) (t : Txn) (x : Cell) (n : ℕ) (values : List (Option ℤ)) (P G : List Event) (i : ℕ) (from : Txn) (v : Option ℤ) → HasRead X H t.0 x n values P i → i < n →
    (from.0, v) ≡ read X.setup X.rows P t.0 (cell_at x i) → G ≡ Got t (cell_at x i) from v ∷ P → HasRead X H t.0 x n (values ++ v ∷ []) G (i + 1)
read_one X H t x n values P G i from v r h e q =
    let w = read X.setup X.rows P t.0 (cell_at x i) in
    let step : read_all X P t.0 (rest_of x n i) ≡
    (w.1 ∷ (read_all X (Got t (cell_at x i) (txn w.0) w.1 ∷ P) t.0 (rest_of x n (i + 1))).0, (read_all X (Got t (cell_at x i) (txn w.0) w.1 ∷ P) t.0 (rest_of x n (i + 1))).1) =
    ap (read_all X P t.0) (rest_more x n i h) ∙ all_cons X P t.0 (cell_at x i) (rest_of x n (i + 1)) in
    let to : (z : ℕ × Option ℤ) → List (Option ℤ) × List Event = λ z.
    (z.1 ∷ (read_all X (Got t (cell_at x i) (txn z.0) z.1 ∷ P) t.0 (rest_of x n (i + 1))).0, (read_all X (Got t (cell_at x i) (txn z.0) z.1 ∷ P) t.0 (rest_of x n (i + 1))).1) in
    let same : read_all X P t.0 (rest_of x n i) ≡ to (from.0, v) = step ∙ ap to (sym e) in
    record {
      found = r.found ∙ ap (λ (p : List (Option ℤ) × List Event). values ++ p.0) same ∙ sym (append_assoc values (v ∷ []) _)
          ∙ ap (λ (E : List Event). (values ++ v ∷ []) ++ (read_all X E t.0 (rest_of x n (i + 1))).0) (sym q);
      events = r.events ∙ ap (λ (p : List (Option ℤ) × List Event). p.1) same ∙ ap (λ (E : List Event). (read_all X E t.0 (rest_of x n (i + 1))).1) (sym q);
      count = (let c = r.count in let z = length-append values (v ∷ []) in omega arith);
    }

-- the scan after its last read
pub read_whole : (X : Store) (H : List Event) (t : ℕ) (x : Cell) (n : ℕ) (values : List (Option ℤ)) (P : List Event) → HasRead X H t x n values P n
    → (values ≡ (read_all X H t (cells_from x n)).0) × (P ≡ (read_all X H t (cells_from x n)).1)
unfolding read_all
read_whole X H t x n values P r =
    (sym (r.found ∙ ap (λ (cs : List Cell). values ++ (read_all X P t cs).0) (rest_none x n) ∙ append-nil values), sym (r.events ∙ ap (λ (cs : List Cell). (read_all X P t cs).1) (rest_none x n)))

-- if the history after a scan is lawful, so is the history before it
lawful_before : (X : Store) (H : List Event) (t : ℕ) (xs : List Cell) → Lawful X.setup (read_all X H t xs).1 → Lawful X.setup H
unfolding read_all Lawful
lawful_before X H t [] l = l
lawful_before X H t (x ∷ xs) l = let r = read X.setup X.rows H t x in (lawful_before X (Got (txn t) x (txn r.0) r.1 ∷ H) t xs l).1

first_granted : (X : Store) (H : List Event) (t : ℕ) (x : Cell) (xs : List Cell) → Lawful X.setup (read_all X H t (x ∷ xs)).1
    → let r = read X.setup X.rows H t x in Granted X.setup H (Got (txn t) x (txn r.0) r.1)
unfolding read_all Lawful
first_granted X H t x xs l = let r = read X.setup X.rows H t x in (lawful_before X (Got (txn t) x (txn r.0) r.1 ∷ H) t xs l).0

-- the next read of a scan; Y is the store at that point
module _ (X Y : Store) (same : Y ≡ X) (H P : List Event) (t : Txn) (x : Cell) (n i : ℕ) (values : List (Option ℤ)) (r : HasRead X H t.0 x n values P i) (h : i < n) where
  granted_here : Lawful X.setup (read_all X H t.0 (cells_from x n)).1 → let w = read X.setup X.rows P t.0 (cell_at x i) in Granted X.setup P (Got t (cell_at x i) (txn w.0) w.1)
  granted_here l = first_granted X P t.0 (cell_at x i) (rest_of x n (i + 1))
      (subst (λ (cs : List Cell). Lawful X.setup (read_all X P t.0 cs).1) (rest_more x n i h) (subst (Lawful X.setup) r.events l))

  -- the transaction may read the next cell
  pub may_read : Lawful X.setup (read_all X H t.0 (cells_from x n)).1 → MayAccess X.setup P t.0 (cell_at x i) false
  may_read l = (granted_here l).0

  module _ (y : Cell) (from : Txn) (v : Option ℤ) (c : y ≡ cell_at x i) (a : from.0 ≡ (read Y.setup Y.rows P t.0 y).0) (b : v ≡ (read Y.setup Y.rows P t.0 y).1) where
    from_here : from.0 ≡ (read X.setup X.rows P t.0 (cell_at x i)).0
    from_here = a ∙ ap (λ (Z : Store). (read Z.setup Z.rows P t.0 y).0) same ∙ ap (λ (z : Cell). (read X.setup X.rows P t.0 z).0) c

    value_here : v ≡ (read X.setup X.rows P t.0 (cell_at x i)).1
    value_here = b ∙ ap (λ (Z : Store). (read Z.setup Z.rows P t.0 y).1) same ∙ ap (λ (z : Cell). (read X.setup X.rows P t.0 z).1) c

    pub got_granted : Lawful X.setup (read_all X H t.0 (cells_from x n)).1 → Granted Y.setup P (Got t y from v)
    got_granted l =
        let to = λ (Z : Store) (z : Cell) (w : ℕ) (u : Option ℤ). Granted Z.setup P (Got t z (txn w) u) in
        subst (λ (Z : Store). to Z y from.0 v) (sym same)
        (subst (λ (z : Cell). to X z from.0 v) (sym c)
        (subst (λ (w : ℕ). to X (cell_at x i) w v) (sym from_here)
        (subst (λ (u : Option ℤ). to X (cell_at x i) (read X.setup X.rows P t.0 (cell_at x i)).0 u) (sym value_here) (granted_here l))))

    -- the scan after one more read
    pub read_next : (after : List (Option ℤ)) (G : List Event) → G ≡ Got t y from v ∷ P → after ≡ values ++ v ∷ [] → HasRead X H t.0 x n after G (i + 1)
    read_next after G q e =
        subst (λ (vs : List (Option ℤ)). HasRead X H t.0 x n vs G (i + 1)) (sym e)
        (read_one X H t x n values P G i from v r h (ap₂ (λ (w : ℕ) (u : Option ℤ). (w, u)) from_here value_here) (q ∙ ap (λ (z : Cell). Got t z from v ∷ P) c))

-- progress of a scan: `first` is the state before it, `now` the state after i cells have been read
pub record IsReading {C : Type 0} {g : _} (first now : EngineState C g) (t : ℕ) (x : Cell) (n : ℕ) (values : List (Option ℤ)) (i : ℕ) : Type 0 where
  pub read : HasRead (store_of first.setup) first.history.events t x n values now.history.events i
  pub setup : now.setup ≡ first.setup
  pub left : n ≤ i + now.room
