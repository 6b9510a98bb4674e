-- The least edges of one transaction, along its accesses.
use Rattle.std.specs.Prelude.{IsTrue, IsFalse}
use Rattle.std.proofs.Common.{◌≡◌, ◌∷◌, ℕ, Bool, true, false, ◌||◌, refl, List, [], Option, None}
use Rattle.teb_rules.specs.declared.names.Cell.{Cell}
use Rattle.teb_rules.specs.declared.names.Txn.{Txn}
use Rattle.teb_rules.specs.declared.history.Event.{Event}
use Rattle.teb_rules.specs.history.Phases.{aborted}
use Rattle.teb_rules.specs.Setup.{Setup}
use Rattle.teb_rules.specs.laws.TreeFacts.{TreeFacts}
use Rattle.teb_rules.proofs.lemmas.laws.Sound.{tree_facts}
use Rattle.phase_api.specs.FactsView.{setup_of, events_of}
use Rattle.batch_book.proofs.Numbered.{unfinished_parts}
use Rattle.access_book.specs.Touched.{Touched, Reads, Puts}
use Rattle.snapshot_node.specs.declared.validation.Validation.{Validation}
use Rattle.snapshot_node.specs.Asking.{AreLate, there}
use Rattle.snapshot_node.specs.Standing.{readers_in, writers_in}
use Rattle.snapshot_node.specs.Pivots.{IsAcross, IsLeast, PutsAcross, Leads, lesser_of}
use Rattle.snapshot_node.specs.Validating.{IsAtStake, at, is_marked_entered, is_marked_left}
use Rattle.snapshot_node.proofs.Listed.{readers_here, writers_here}
use Rattle.snapshot_node.proofs.Least.{least_as, Remains, remains_start, remains_next, remains_skip, remains_end}
use Rattle.snapshot_node.proofs.Accessed.{accesses_of}
use Rattle.snapshot_node.proofs.CellEdges.{Ahead, Behind, puts_across, listed_across, ahead_leads, leads_ahead, behind_leads, leads_behind}
use Rattle.snapshot_node.proofs.RecentAcross.{across_recent, least_recent}
use Rattle.snapshot_node.proofs.Covers.{Covers, covers_start, covers_next, covers_end}

or_none : (a b : Bool) → (a || b) ≡ false → (a ≡ false) × (b ≡ false)
or_none false b h = (refl, h)
or_none true b h = absurd (cc)

module _ (v : Validation) (u : ℕ) where
  abbrev S : Setup
  S = setup_of v.asked.facts.now

  abbrev H : List Event
  H = events_of v.asked.facts.now

  abbrev n : ℕ
  n = v.asked.register.now.node.0

  runs : aborted H v.t.0 ≡ false
  runs = (unfinished_parts H v.t.0 v.unfinished).2

  facts : TreeFacts S
  facts = tree_facts S v.tree

  -- the least transaction to which u has an edge
  abbrev pub AheadIn : List Touched → Option Txn → Type 0
  AheadIn left best = Remains (at v Ahead u) (at v Leads u) left best

  -- the least transaction that has an edge to u
  abbrev pub BehindIn : List Touched → Option Txn → Type 0
  BehindIn left best = Remains (at v Behind u) (λ a. at v Leads a u) left best

  -- if nothing was found, no transaction to which u has an edge by a visited access is of a batch that is marked as left
  abbrev pub LeftIn : Bool → List Touched → Type 0
  LeftIn z left = IsFalse z → Covers (at v Ahead u) (λ b. IsTrue (is_marked_left v b) → ⊥) (accesses_of H u) left

  -- the same for transactions that have an edge to u, and batches that are marked as entered
  abbrev pub EnteredIn : Bool → List Touched → Type 0
  EnteredIn z left = IsFalse z → Covers (at v Behind u) (λ a. IsTrue (is_marked_entered v a) → ⊥) (accesses_of H u) left

  pub ahead_start : IsAtStake v u → (left : List Touched) → left ≡ accesses_of H u → AheadIn left None
  ahead_start st left e =
      remains_start (at v Ahead u) (at v Leads u) (accesses_of H u) left e
      (λ d h. ahead_leads S H n v.t.0 v.lawful v.asked.stands.orderly runs facts v.asked.stands.kind u d st h)
      (λ d h. leads_ahead S H n v.t.0 v.lawful v.asked.stands.orderly runs facts v.asked.stands.kind u d h)

  pub behind_start : IsAtStake v u → (left : List Touched) → left ≡ accesses_of H u → BehindIn left None
  behind_start st left e =
      remains_start (at v Behind u) (λ a. at v Leads a u) (accesses_of H u) left e
      (λ a h. behind_leads S H n v.t.0 v.lawful v.asked.stands.orderly runs facts v.asked.stands.kind u a st h)
      (λ a h. leads_behind S H n v.t.0 v.lawful v.asked.stands.orderly runs facts v.asked.stands.kind u a h)

  module _ (left : List Touched) (best : Option Txn) where
    pub ahead_end : left ≡ [] → AheadIn left best → IsLeast (at v Leads u) best
    ahead_end e h = remains_end (at v Ahead u) (at v Leads u) left best e h

    pub behind_end : left ≡ [] → BehindIn left best → IsLeast (λ a. at v Leads a u) best
    behind_end e h = remains_end (at v Behind u) (λ a. at v Leads a u) left best e h

    module _ (x : Cell) (rest : List Touched) where
      -- only a read of u gives an edge from u
      pub ahead_skip : left ≡ Puts x ∷ rest → AheadIn left best → AheadIn rest best
      ahead_skip i h = remains_skip (at v Ahead u) (at v Leads u) (Puts x) left rest best i h (λ d q. q)

      -- only a put of u gives an edge to u
      pub behind_skip : left ≡ Reads x ∷ rest → BehindIn left best → BehindIn rest best
      behind_skip i h = remains_skip (at v Behind u) (λ a. at v Leads a u) (Reads x) left rest best i h (λ a q. q)

  module _ (x : Cell) (left rest : List Touched) (us : List Txn) (best o : Option Txn) (h : IsLeast (at v IsAcross u us) o) where
    -- u has read x: the least of its recent writers is compared with the best
    pub ahead_next : left ≡ Reads x ∷ rest → AreLate v.asked u (there v.asked writers_in x) us → AheadIn left best → AheadIn rest (lesser_of best o)
    ahead_next e late r =
        remains_next (at v Ahead u) (at v Leads u) (Reads x) left rest best o e r
        (least_as (at v IsAcross u (writers_in S H n x)) (at v PutsAcross u x) o
        (puts_across S H n v.t.0 v.lawful v.asked.stands.orderly runs u x) (listed_across S H n v.t.0 v.lawful v.asked.stands.orderly runs u x)
        (least_recent v.asked u (writers_in S H n x) us late (writers_here v.asked.facts.now n x v.asked.stands.orderly) v.t.0 o h))

    -- u has put x: the least of its recent readers is compared with the best
    pub behind_next : left ≡ Puts x ∷ rest → AreLate v.asked u (there v.asked readers_in x) us → BehindIn left best → BehindIn rest (lesser_of best o)
    behind_next e late r =
        remains_next (at v Behind u) (λ b. at v Leads b u) (Puts x) left rest best o e r
        (least_recent v.asked u (readers_in S H n x) us late (readers_here v.asked.facts.now n x v.asked.stands.orderly) v.t.0 o h)

  module _ (left : List Touched) (z : Bool) where
    pub left_start : left ≡ accesses_of H u → LeftIn z left
    left_start e f = covers_start (at v Ahead u) (λ b. IsTrue (is_marked_left v b) → ⊥) (accesses_of H u) left e

    pub entered_start : left ≡ accesses_of H u → EnteredIn z left
    entered_start e f = covers_start (at v Behind u) (λ a. IsTrue (is_marked_entered v a) → ⊥) (accesses_of H u) left e

    pub left_end : left ≡ [] → LeftIn z left → IsFalse z → (b : ℕ) → at v Leads u b → IsTrue (is_marked_left v b) → ⊥
    left_end e h f b k =
        covers_end (at v Ahead u) (λ b. IsTrue (is_marked_left v b) → ⊥) (accesses_of H u) left e (h f) b
        (leads_ahead S H n v.t.0 v.lawful v.asked.stands.orderly runs facts v.asked.stands.kind u b k)

    pub entered_end : left ≡ [] → EnteredIn z left → IsFalse z → (a : ℕ) → at v Leads a u → IsTrue (is_marked_entered v a) → ⊥
    entered_end e h f a k =
        covers_end (at v Behind u) (λ a. IsTrue (is_marked_entered v a) → ⊥) (accesses_of H u) left e (h f) a
        (leads_behind S H n v.t.0 v.lawful v.asked.stands.orderly runs facts v.asked.stands.kind u a k)

    module _ (x : Cell) (rest : List Touched) where
      pub left_skip : left ≡ Puts x ∷ rest → LeftIn z left → LeftIn z rest
      left_skip i h f = covers_next (at v Ahead u) (λ b. IsTrue (is_marked_left v b) → ⊥) (accesses_of H u) (Puts x) left rest i (h f) (λ b q. absurd q)

      pub entered_skip : left ≡ Reads x ∷ rest → EnteredIn z left → EnteredIn z rest
      entered_skip i h f = covers_next (at v Behind u) (λ a. IsTrue (is_marked_entered v a) → ⊥) (accesses_of H u) (Reads x) left rest i (h f) (λ a q. absurd q)

    module _ (x : Cell) (rest : List Touched) (us : List Txn) (found : Bool) where
      pub left_next : left ≡ Reads x ∷ rest → AreLate v.asked u (there v.asked writers_in x) us
          → (IsFalse found → (b : ℕ) → at v IsAcross u us b → IsTrue (is_marked_left v b) → ⊥) → LeftIn z left → LeftIn (z || found) rest
      left_next e late none h f =
          covers_next (at v Ahead u) (λ b. IsTrue (is_marked_left v b) → ⊥) (accesses_of H u) (Reads x) left rest e (h (or_none z found f).0)
          (λ b q. none (or_none z found f).1 b (across_recent v.asked u (writers_in S H n x) us late (writers_here v.asked.facts.now n x v.asked.stands.orderly) v.t.0 b
          (listed_across S H n v.t.0 v.lawful v.asked.stands.orderly runs u x b q)))

      pub entered_next : left ≡ Puts x ∷ rest → AreLate v.asked u (there v.asked readers_in x) us
          → (IsFalse found → (a : ℕ) → at v IsAcross u us a → IsTrue (is_marked_entered v a) → ⊥) → EnteredIn z left → EnteredIn (z || found) rest
      entered_next e late none h f =
          covers_next (at v Behind u) (λ a. IsTrue (is_marked_entered v a) → ⊥) (accesses_of H u) (Puts x) left rest e (h (or_none z found f).0)
          (λ a q. none (or_none z found f).1 a (across_recent v.asked u (readers_in S H n x) us late (readers_here v.asked.facts.now n x v.asked.stands.orderly) v.t.0 a q))
