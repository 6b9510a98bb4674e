-- Pivots: two edges among those at stake, into a batch and out of it, and the least of those that have a property.
use Rattle.std.specs.Prelude.{◌≡◌, ◌⊎◌, ℕ, ◌≤◌, Bool, IsTrue, cond, eqb, ltb, ◌&&◌, ◌||◌, List, Option, Some, None}
use Rattle.teb_rules.specs.declared.names.Cell.{Cell}
use Rattle.teb_rules.specs.declared.names.Txn.{Txn}
use Rattle.teb_rules.specs.declared.history.Event.{Event}
use Rattle.teb_rules.specs.history.Phases.{prepared, committed}
use Rattle.teb_rules.specs.history.Accesses.{wrote}
use Rattle.teb_rules.specs.Setup.{Setup}
use Rattle.teb_rules.specs.Tree.{meets}
use Rattle.teb_rules.specs.Batches.{concurrent, one_batch}
use Rattle.teb_rules.specs.Controls.{edge}
use Rattle.teb_rules.specs.declared.Broken.{Broken}
use Rattle.teb_rules.specs.declared.Verdict.{Verdict}
use Rattle.teb_rules.specs.declared.Verdict.TheVariants.{Go, Break}
use Rattle.phase_api.specs.declared.facts.Facts.{Facts}
use Rattle.phase_api.specs.Calls.{IsHere}
use Rattle.access_book.specs.Books.{is_among}

abbrev pub is_at_stake : List Event → ℕ → ℕ → Bool
is_at_stake H t u = eqb u t || prepared H u || committed H u

-- u and v meet at n, and their batches are concurrent
abbrev pub is_across : Setup → List Event → ℕ → ℕ → ℕ → Bool
is_across S H n u v = meets S H n u v && concurrent S H n u v

-- the node is on the path of each of them
abbrev pub AreHere : Facts → ℕ → List Txn → Type 0
AreHere f n ts = (u : ℕ) → IsTrue (is_among u ts) → IsHere f n u

-- the least number with a property, as a transaction, if there is one
abbrev pub IsLeast : (ℕ → Type 0) → Option Txn → Type 0
IsLeast P None = (u : ℕ) → P u → ⊥
IsLeast P (Some t) = P t.0 × ((u : ℕ) → P u → t.0 ≤ u)

-- the lesser of two, or the only one
abbrev pub lesser_of : Option Txn → Option Txn → Option Txn
lesser_of None o = o
lesser_of (Some t) None = Some t
lesser_of (Some t) (Some u) = Some (cond (ltb u.0 t.0) u t)

-- the one of two edges with the lesser tail, or the only one
abbrev pub earlier_of : Option (Txn × Txn) → Txn × Txn → Option (Txn × Txn)
earlier_of None f = Some f
earlier_of (Some e) f = Some (cond (ltb f.0.0 e.0.0) f e)

module _ (S : Setup) (H : List Event) (n t : ℕ) where
  -- u is at stake when t validates, and across from v, and has put x
  pub record PutsAcross (v : ℕ) (x : Cell) (u : ℕ) : Type 0 where
    pub put : IsTrue (wrote H u x)
    pub stake : IsTrue (is_at_stake H t u)
    pub across : IsTrue (is_across S H n v u)

  -- u is at stake, across from v, and one of the transactions
  pub record IsAcross (v : ℕ) (among : List Txn) (u : ℕ) : Type 0 where
    pub listed : IsTrue (is_among u among)
    pub stake : IsTrue (is_at_stake H t u)
    pub across : IsTrue (is_across S H n v u)

  -- an edge leads from a to b, which are both at stake
  pub record Leads (a b : ℕ) : Type 0 where
    pub from : IsTrue (is_at_stake H t a)
    pub to : IsTrue (is_at_stake H t b)
    pub edge : IsTrue (edge S H n a b)

  -- u is at stake, and of b's batch
  abbrev pub is_mate : ℕ → ℕ → Bool
  is_mate b u = one_batch S H n b u && is_at_stake H t u

  -- an edge leads from c, of b's batch, to d
  pub record Leaves (b c d : ℕ) : Type 0 where
    pub batch : IsTrue (one_batch S H n b c)
    pub out : Leads c d

  -- an edge leaves b's batch
  pub record IsLeft (b : ℕ) : Type 0 where
    pub from : ℕ
    pub to : ℕ
    pub out : Leaves b from to

  -- the least edge out of b's batch: its least member that has one, and the least transaction to which that member has one
  abbrev pub IsLeastEdge : ℕ → Option (Txn × Txn) → Type 0
  IsLeastEdge b None = IsLeft b → ⊥
  IsLeastEdge b (Some e) = Leaves b e.0.0 e.1.0 × ((c d : ℕ) → Leaves b c d → e.0.0 ≤ c) × ((d : ℕ) → Leads e.0.0 d → e.1.0 ≤ d)

  -- the same of those members alone that pass a test
  abbrev pub IsLeastEdgeFrom : (ℕ → Bool) → ℕ → Option (Txn × Txn) → Type 0
  IsLeastEdgeFrom p b None = (c d : ℕ) → IsTrue (p c) → Leaves b c d → ⊥
  IsLeastEdgeFrom p b (Some e) = Leaves b e.0.0 e.1.0 × ((c d : ℕ) → IsTrue (p c) → Leaves b c d → e.0.0 ≤ c) × ((d : ℕ) → Leads e.0.0 d → e.1.0 ≤ d)

  -- the same, but for edges of others to t, some of which it may leave out
  abbrev pub IsLeastEdgeAside : ℕ → Option (Txn × Txn) → Type 0
  IsLeastEdgeAside b None = (c d : ℕ) → Leaves b c d → d ≡ t
  IsLeastEdgeAside b (Some e) = Leaves b e.0.0 e.1.0 × ((c d : ℕ) → Leaves b c d → (d ≡ t → ⊥) → e.0.0 ≤ c) × ((d : ℕ) → Leads e.0.0 d → e.1.0 ≤ d)

  -- a has an edge to a member of c's batch
  pub record Reaches (c a : ℕ) : Type 0 where
    pub member : ℕ
    pub batch : IsTrue (one_batch S H n c member)
    pub edge : Leads a member

  -- a has an edge to a member of c's batch that passes a test
  pub record ReachesOne (p : ℕ → Bool) (c a : ℕ) : Type 0 where
    pub reach : Reaches c a
    pub passes : IsTrue (p reach.member)

  -- u is across from t, one of the transactions, and of b's batch
  abbrev pub IsMateAmong : ℕ → List Txn → ℕ → Type 0
  IsMateAmong b among u = IsAcross t among u × IsTrue (one_batch S H n b u)

  -- the least that has an edge to a member of c's batch, but for t, which it may leave out
  abbrev pub IsLeastAside : ℕ → Option Txn → Type 0
  IsLeastAside c None = (a : ℕ) → Reaches c a → a ≡ t
  IsLeastAside c (Some u) = Reaches c u.0 × ((a : ℕ) → Reaches c a → (a ≡ t → ⊥) → u.0 ≤ a)

  -- u has put x, and is across from t and of b's batch
  abbrev pub IsMateByPut : ℕ → Cell → ℕ → Type 0
  IsMateByPut b x u = PutsAcross t x u × IsTrue (one_batch S H n b u)

  -- t has an edge to u, of b's batch
  pub record EntersAt (b u : ℕ) : Type 0 where
    pub into : Leads t u
    pub batch : IsTrue (one_batch S H n b u)

  -- a has an edge to b, whose batch an edge leaves
  pub record IsMiddle (a b : ℕ) : Type 0 where
    pub into : Leads a b
    pub left : IsLeft b

  -- the same of some across from a
  pub record IsMiddleAmong (a : ℕ) (among : List Txn) (b : ℕ) : Type 0 where
    pub across : IsAcross a among b
    pub left : IsLeft b

  -- edges lead from a to b, and from c, of b's batch, to d
  pub record IsPivot (a b c d : ℕ) : Type 0 where
    pub into : Leads a b
    pub out : Leaves b c d

  -- a is the first of a pivot
  pub record IsFirst (a : ℕ) : Type 0 where
    pub second : ℕ
    pub third : ℕ
    pub fourth : ℕ
    pub pivot : IsPivot a second third fourth

  -- a has an edge to a member of the batch of a transaction that has an edge to t
  pub record ComesIn (a : ℕ) : Type 0 where
    pub third : ℕ
    pub into : Reaches third a
    pub out : Leads third t

  -- a is the first of a pivot in which t is last, or second
  abbrev pub ComesBefore : ℕ → Type 0
  ComesBefore a = ComesIn a ⊎ (Leads a t × IsLeft t)

  -- a is the first of a pivot in which t is third, or first
  abbrev pub ComesAfter : ℕ → Type 0
  ComesAfter a = (Reaches t a × ((d : ℕ) × Leads t d)) ⊎ ((a ≡ t) × ((b : ℕ) × IsMiddle t b))

  -- a has an edge to a member of the batch of one of some that are across from t
  pub record ComesInAmong (among : List Txn) (a : ℕ) : Type 0 where
    pub third : ℕ
    pub into : Reaches third a
    pub across : IsAcross t among third

abbrev pub break_by : Option Broken → Verdict
break_by None = Go
break_by (Some b) = Break b
