-- At a locks node, a transaction that would block a granted access is finished.
use Rattle.std.proofs.Common.{◌≡◌, ◌⊎◌, ℕ, zero, suc, ◌<◌, ◌≤◌, Bool, true, false, cond, List, [], ◌∷◌, Option, Some, None, refl, sym, ◌∙◌, subst, inl, inr, arith, length, lt-ltb, find}
use Rattle.std.proofs.lemmas.Bool.{cases_lt, both_ways, cases_order, and_from, or_left, or_right}
use Rattle.teb_rules.specs.declared.names.Cell.{Cell}
use Rattle.teb_rules.specs.declared.history.Event.{Event}
use Rattle.teb_rules.specs.declared.names.ControlKind.{ControlKind}
use Rattle.teb_rules.specs.declared.names.ControlKind.TheVariants.{Locks}
use Rattle.teb_rules.specs.history.Accesses.{put_at, got_at, wrote, got}
use Rattle.teb_rules.specs.history.Phases.{txns, numbers, begun_count, began_at, done_at, gone_at, unfinished}
use Rattle.teb_rules.specs.history.Positions.{upto}
use Rattle.teb_rules.specs.laws.Lawful.{Lawful, MayAccess}
use Rattle.teb_rules.specs.Controls.{blocks, on_access}
use Rattle.teb_rules.specs.Serializes.{In}
use Rattle.teb_rules.specs.Setup.{Setup}
use Rattle.teb_rules.specs.Tree.{row, on, meets}
use Rattle.teb_rules.specs.declared.Verdict.TheVariants.{Go}
use Rattle.teb_rules.specs.Verdicts.{wait_for}
use Rattle.teb_rules.proofs.lemmas.laws.Lists.{In-append_left, In-append_right}
use Rattle.teb_rules.proofs.lemmas.laws.Timeline.{Lawful-upto, upto-unfinished, wrote-upto, got-upto, begun_counted, meets-upto, on-upto, put_granted, put_order, done_order, begun_there}

pub In-numbers : (n u : ℕ) → 0 < u → u ≤ n → In u (numbers n)
unfolding numbers
In-numbers zero u h k = absurd (omega arith)
In-numbers (suc n) u h k = elim (cases_order u (suc n)) [
  | inl e ↦ In-append_right u (numbers n) (suc n ∷ []) (inl (sym e))
  | inr o ↦ elim o [ inl l ↦ In-append_left u (numbers n) (suc n ∷ []) (In-numbers n u h (omega arith)) | inr l ↦ absurd (omega arith) ]
]

pub find_none : (p : ℕ → Bool) (us : List ℕ) (u : ℕ) → find p us ≡ None → In u us → p u ≡ false
find_none p [] u h i = absurd i
find_none p (v ∷ vs) u h i = go (p v) refl h (find_none p vs u)
  where
    go : (b : Bool) → p v ≡ b → cond b (Some v) (find p vs) ≡ None → (find p vs ≡ None → In u vs → p u ≡ false) → p u ≡ false
    go true e k ih = absurd (cc)
    go false e k ih = elim i [ inl q ↦ subst (λ (z : ℕ). p z ≡ false) q e | inr j ↦ ih k j ]

pub go_none : (o : Option ℕ) → wait_for o ≡ Go → o ≡ None
go_none None h = refl
go_none (Some u) h = absurd (cc)

-- a transaction that has begun is in the list of transactions
pub In-txns : (S : Setup) (P : List Event) (u : ℕ) → Lawful S P → began_at P u < length P → In u (txns P)
unfolding txns
In-txns S P u l h = let r = begun_counted S P u l h in In-numbers (begun_count P) u r.0 r.1

-- if a locks node n does not stop t's access of x, no u that has begun blocks it
locks_free : (S : Setup) (P : List Event) (n t u : ℕ) (x : Cell) (write : Bool) → Lawful S P → on_access Locks S P n t x write ≡ Go → began_at P u < length P →
    blocks S P n t x write u ≡ false
unfolding on_access
locks_free S P n t u x write l h b = find_none (blocks S P n t x write) (txns P) u (go_none _ h) (In-txns S P u l b)

pub blocks_from : (S : Setup) (P : List Event) (n t u : ℕ) (x : Cell) (write : Bool) → unfinished P u ≡ true → meets S P n t u ≡ true → (wrote P u x ≡ true) ⊎ ((write ≡ true) × (got P u x ≡ true))
    → blocks S P n t x write u ≡ true
unfolding blocks
blocks_from S P n t u x write a b c = and_from _ _ (and_from _ _ a b) (elim c [ inl d ↦ or_left (wrote P u x) _ d | inr d ↦ or_right (wrote P u x) _ (and_from write (got P u x) d.0 d.1) ])

-- at an access that a locks node does not stop, each transaction of another side that has put the cell, or at a write has read it, is finished
pub locks_access : (S : Setup) (H : List Event) (i n t u : ℕ) (x : Cell) (write : Bool) → Lawful S H → i ≤ length H → MayAccess S (upto i H) t x write → (row S.tree n).control ≡ Locks
    → on S H n t ≡ true →
    meets S H n t u ≡ true → began_at H t < i → began_at H u < i → (put_at H u x < i) ⊎ ((write ≡ true) × (got_at H u x < i)) → (done_at H u < i) ⊎ (gone_at H u < i)
locks_access S H i n t u x write l h m c o e bt bu a = elim (cases_lt (done_at H u) i) [
  | inl d ↦ inl d
  | inr d ↦ elim (cases_lt (gone_at H u) i) [
    | inl g ↦ inr g
    | inr g ↦ absurd (both_ways (blocks S (upto i H) n t x write u)
        (locks_free S (upto i H) n t u x write (Lawful-upto S H i l)
        (let f = m.free n (on-upto S H i n t l h bt ∙ o) in subst (λ (k : ControlKind). on_access k S (upto i H) n t x write ≡ Go) c f) (begun_there H i u h bu))
        (blocks_from S (upto i H) n t u x write (upto-unfinished H i u h bu d g) (meets-upto S H i n t u l h bt bu ∙ e)
        (elim a [ inl p ↦ inl (wrote-upto H i u x h ∙ lt-ltb _ _ p) | inr p ↦ inr (p.0, got-upto H i u x h ∙ lt-ltb _ _ p.1) ])))
  ]
]

-- of two committed writers that meet at a locks node, the one that put first is done before the other puts
pub locks_writes : (S : Setup) (H : List Event) (n u w : ℕ) (x : Cell) → Lawful S H → (row S.tree n).control ≡ Locks → on S H n w ≡ true → meets S H n w u ≡ true →
    done_at H u < length H → put_at H w x < length H → put_at H u x < put_at H w x → done_at H u < put_at H w x
locks_writes S H n u w x l c o e d p q =
    let g = put_granted S H w x l p in
    let ow = put_order S H w x l p in
    let ou = put_order S H u x l (omega arith) in
    let du = done_order S H u l d in
    elim (locks_access S H (put_at H w x) n w u x true l (omega arith) g c o e ow.0 (omega arith) (inl q)) [ inl r ↦ r | inr r ↦ absurd (omega arith) ]
