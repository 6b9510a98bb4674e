-- The edges from and to a transaction, access by access.
use Rattle.std.proofs.Common.{◌≡◌, ℕ, Bool, true, false, not, ◌&&◌, List, inl, inr, is_some, sym, ◌∙◌, ap}
use Rattle.std.specs.List.{list_any}
use Rattle.std.proofs.lemmas.Bool.{and_parts, and_from, cases_Bool, not_from_false, or_left, or_right}
use Rattle.teb_rules.specs.declared.names.Cell.{Cell}
use Rattle.teb_rules.specs.declared.names.ControlKind.TheVariants.{Snapshot}
use Rattle.teb_rules.specs.names.Cells.{same_cell}
use Rattle.teb_rules.specs.declared.history.Event.{Event}
use Rattle.teb_rules.specs.declared.history.Event.TheVariants.{Got}
use Rattle.teb_rules.specs.history.Phases.{committed, unfinished, aborted}
use Rattle.teb_rules.specs.history.Accesses.{wrote, got}
use Rattle.teb_rules.specs.history.OwnEvents.{own_events, got_in}
use Rattle.teb_rules.proofs.lemmas.history.OwnWalks.{got_own}
use Rattle.teb_rules.specs.Setup.{Setup}
use Rattle.teb_rules.specs.Tree.{row, on, meets}
use Rattle.teb_rules.specs.Batches.{concurrent}
use Rattle.teb_rules.specs.Controls.{edge}
use Rattle.teb_rules.specs.laws.Lawful.{Lawful}
use Rattle.teb_rules.specs.laws.TreeFacts.{TreeFacts}
use Rattle.teb_rules.proofs.lemmas.laws.Nodes.{meets_parts}
use Rattle.phase_api.specs.FactsView.{IsOrderly}
use Rattle.batch_book.specs.Fields.{Has}
use Rattle.batch_book.proofs.Elements.{any_Has, Has-any}
use Rattle.batch_book.proofs.Numbered.{unfinished_from}
use Rattle.version_chain.proofs.Cells.{same_cell-itself, same_cell-exact}
use Rattle.access_book.specs.Touched.{Touched, Reads, Puts, reads, puts}
use Rattle.snapshot_node.specs.Standing.{counts, writers_in, readers_in}
use Rattle.snapshot_node.specs.Pivots.{is_at_stake, is_across, IsAcross, PutsAcross, Leads}
use Rattle.snapshot_node.proofs.Accessed.{some_if, accesses_of, reads_own, puts_own}
use Rattle.snapshot_node.proofs.Listed.{puts_parts, among_writers, reads_parts, among_readers}
use Rattle.snapshot_node.proofs.Least.{Along, along_of, along_item}
use Rattle.snapshot_node.proofs.Edges.{gets_put, edge_found, stake_stands, across_turned}

-- a cell that a has read and b has put
pub record Shared (H : List Event) (a b : ℕ) : Type 0 where
  pub cell : Cell
  pub read : got H a cell ≡ true
  pub put : wrote H b cell ≡ true

-- a test that holds of a cell holds of an equal cell
of_same : (P : Cell → Bool) (y x : Cell) → same_cell y x ≡ true → P x ≡ true → P y ≡ true
of_same P y x h p = ap P (same_cell-exact y x h) ∙ p

-- the property of an access that a property of its cell gives, if only reads count
abbrev pub ByRead : (Cell → ℕ → Type 0) → Touched → ℕ → Type 0
ByRead F (Reads x) d = F x d
ByRead F (Puts x) d = ⊥

-- the same if only puts count
abbrev pub ByPut : (Cell → ℕ → Type 0) → Touched → ℕ → Type 0
ByPut F (Reads x) a = ⊥
ByPut F (Puts x) a = F x a

module _ (S : Setup) (H : List Event) (n t : ℕ) where
  -- the writer of a cell that the access, a read by c, has read
  abbrev pub Ahead : ℕ → Touched → ℕ → Type 0
  Ahead c = ByRead (PutsAcross S H n t c)

  -- a reader of a cell that the access, a put by b, has put
  abbrev pub ReadAcross : ℕ → Cell → ℕ → Type 0
  ReadAcross b x = IsAcross S H n t b (readers_in S H n x)

  abbrev pub Behind : ℕ → Touched → ℕ → Type 0
  Behind b = ByPut (ReadAcross b)

-- if two transactions are across and share a cell, the accesses of each lead to the other
module _ (S : Setup) (H : List Event) (n t : ℕ) where
  pub shared_ahead : (c d : ℕ) → is_at_stake H t d ≡ true → is_across S H n c d ≡ true → Shared H c d → Along (Ahead S H n t c) (accesses_of H c) d
  shared_ahead c d st k p =
      let r = any_Has (reads p.cell) (accesses_of H c) (reads_own H c p.cell ∙ p.read) in
      along_of (Ahead S H n t c) d r.0 (accesses_of H c) r.1 (each r.0 r.2)
    where
      each : (z : Touched) → reads p.cell z ≡ true → Ahead S H n t c z d
      each (Reads y) i = record { put = of_same (wrote H d) y p.cell i p.put; stake = st; across = k }
      each (Puts y) i = absurd (cc)

  pub shared_behind : IsOrderly S H → (b u : ℕ) → aborted H u ≡ false → is_at_stake H t u ≡ true → is_across S H n u b ≡ true → Shared H u b → Along (Behind S H n t b) (accesses_of H b) u
  shared_behind o b u stands st k p =
      let r = any_Has (puts p.cell) (accesses_of H b) (puts_own H b p.cell ∙ p.put) in
      along_of (Behind S H n t b) u r.0 (accesses_of H b) r.1 (each r.0 r.2)
    where
      here : (on S H n u && not (aborted H u)) ≡ true
      here = and_from _ _ (meets_parts S H n u b (and_parts (meets S H n u b) (concurrent S H n u b) k).0).0 (not_from_false _ stands)

      each : (z : Touched) → puts p.cell z ≡ true → Behind S H n t b z u
      each (Puts y) i = record {
        listed = among_readers S H n y u o ∙ and_from _ _ here (of_same (got H u) y p.cell i p.read);
        stake = st;
        across = across_turned S H n u b k;
      }
      each (Reads y) i = absurd (cc)

-- transactions at stake, if t is not aborted
module _ (S : Setup) (H : List Event) (n t : ℕ) (l : Lawful S H) (o : IsOrderly S H) (runs : aborted H t ≡ false) where
  -- a transaction that is at stake and has put a cell is among its writers
  stake_counts : (u : ℕ) (x : Cell) → wrote H u x ≡ true → is_at_stake H t u ≡ true → counts H u ≡ true
  stake_counts u x w st = elim (cases_Bool (committed H u)) [
    | inl e ↦ or_right (unfinished H u) _ e
    | inr e ↦ or_left (unfinished H u) _ (unfinished_from H u (o.wrote u x w) e (stake_stands S H t u l runs st))
  ]

  pub puts_across : (c : ℕ) (x : Cell) (u : ℕ) → IsAcross S H n t c (writers_in S H n x) u → PutsAcross S H n t c x u
  puts_across c x u h = record {
    put = (puts_parts S H n x u (sym (among_writers S H n x u o) ∙ h.listed)).2;
    stake = h.stake;
    across = h.across;
  }

  pub listed_across : (c : ℕ) (x : Cell) (u : ℕ) → PutsAcross S H n t c x u → IsAcross S H n t c (writers_in S H n x) u
  listed_across c x u h = record {
    listed = among_writers S H n x u o ∙ and_from _ _ (and_from _ _ (meets_parts S H n c u (and_parts (meets S H n c u) (concurrent S H n c u) h.across).0).1 (stake_counts u x h.put h.stake)) h.put;
    stake = h.stake;
    across = h.across;
  }

  module _ (a : TreeFacts S) (k : (row S.tree n).control ≡ Snapshot) where
    shared : (u w : ℕ) → list_any (gets_put H w) (own_events H u) ≡ true → Shared H u w
    shared u w h = let r = any_Has (gets_put H w) (own_events H u) h in found r.0 r.1 r.2
      where
        found : (e : Event) → Has e (own_events H u) → gets_put H w e ≡ true → Shared H u w
        found (Got s x v z) i q = record {
          cell = x;
          read = got_own H u x ∙ Has-any (λ e. is_some (got_in x e)) (Got s x v z) (own_events H u) i (some_if (same_cell x x) z ∙ same_cell-itself x);
          put = q;
        }
        found _ i q = absurd (cc)

    pub edge_shared : (u w : ℕ) → aborted H w ≡ false → edge S H n u w ≡ true → (is_across S H n u w ≡ true) × Shared H u w
    edge_shared u w s e = let p = and_parts (is_across S H n u w) (list_any (gets_put H w) (own_events H u)) (edge_found S a H n l k u w s ∙ e) in (p.0, shared u w p.1)

    shared_edge : (u w : ℕ) → aborted H w ≡ false → is_across S H n u w ≡ true → Shared H u w → edge S H n u w ≡ true
    shared_edge u w s c h =
        let r = any_Has (λ e. is_some (got_in h.cell e)) (own_events H u) (sym (got_own H u h.cell) ∙ h.read) in
        sym (edge_found S a H n l k u w s) ∙ and_from _ _ c (Has-any (gets_put H w) r.0 (own_events H u) r.1 (each r.0 r.2))
      where
        each : (e : Event) → is_some (got_in h.cell e) ≡ true → gets_put H w e ≡ true
        each (Got r y v z) i = of_same (wrote H w) y h.cell (sym (some_if (same_cell y h.cell) z) ∙ i) h.put
        each _ i = absurd (cc)

    pub ahead_leads : (c d : ℕ) → is_at_stake H t c ≡ true → Along (Ahead S H n t c) (accesses_of H c) d → Leads S H n t c d
    ahead_leads c d st h = let r = along_item (Ahead S H n t c) d (accesses_of H c) h in each r.0 r.1 r.2
      where
        each : (z : Touched) → Has z (accesses_of H c) → Ahead S H n t c z d → Leads S H n t c d
        each (Reads x) i q = record {
          from = st;
          to = q.stake;
          edge = shared_edge c d (stake_stands S H t d l runs q.stake) q.across
              (record { cell = x; read = sym (reads_own H c x) ∙ Has-any (reads x) (Reads x) (accesses_of H c) i (same_cell-itself x); put = q.put });
        }
        each (Puts x) i q = absurd q

    pub leads_ahead : (c d : ℕ) → Leads S H n t c d → Along (Ahead S H n t c) (accesses_of H c) d
    leads_ahead c d h = let p = edge_shared c d (stake_stands S H t d l runs h.to) h.edge in shared_ahead S H n t c d h.to p.0 p.1

    pub behind_leads : (b u : ℕ) → is_at_stake H t b ≡ true → Along (Behind S H n t b) (accesses_of H b) u → Leads S H n t u b
    behind_leads b u st h = let r = along_item (Behind S H n t b) u (accesses_of H b) h in each r.0 r.1 r.2
      where
        each : (z : Touched) → Has z (accesses_of H b) → Behind S H n t b z u → Leads S H n t u b
        each (Puts x) i q = record {
          from = q.stake;
          to = st;
          edge = shared_edge u b (stake_stands S H t b l runs st) (across_turned S H n b u q.across) (record {
            cell = x;
            read = (reads_parts S H n x u (sym (among_readers S H n x u o) ∙ q.listed)).2;
            put = sym (puts_own H b x) ∙ Has-any (puts x) (Puts x) (accesses_of H b) i (same_cell-itself x);
          });
        }
        each (Reads x) i q = absurd q

    pub leads_behind : (b u : ℕ) → Leads S H n t u b → Along (Behind S H n t b) (accesses_of H b) u
    leads_behind b u h = let p = edge_shared u b (stake_stands S H t b l runs h.to) h.edge in shared_behind S H n t o b u (stake_stands S H t u l runs h.from) h.from p.0 p.1
