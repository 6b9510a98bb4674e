-- A Got changes nothing but its reader's cursor, so after a read no other read of the table is stopped that was not stopped before.
use Rattle.std.proofs.Common.{◌≡◌, ◌≢◌, ℕ, suc, ◌<◌, ◌≤◌, Bool, true, false, cond, not, ◌&&◌, ltb, List, [], ◌∷◌, Option, Some, None, refl, sym}
use Rattle.std.proofs.Common.{◌∙◌, ap, subst, inl, inr, arith, ℤ, length, ltb-true, lt-ltb, le-ltb, le_refl, eq-eqb, ne_eqb, find, is_some}
use Rattle.std.proofs.lemmas.Bool.{both_ways, cases_eq, false_from_ne_true, and_parts, and_from, le-leb}
use Rattle.teb_rules.specs.declared.history.Event.{Event}
use Rattle.teb_rules.specs.declared.history.Event.TheVariants.{Got}
use Rattle.teb_rules.specs.declared.names.ControlKind.TheVariants.{Locks, Pipeline, Timestamp, Snapshot}
use Rattle.teb_rules.specs.declared.names.Txn.{Txn}
use Rattle.teb_rules.specs.history.Accesses.{is_put, put_at, wrote}
use Rattle.teb_rules.specs.history.Phases.{aborted, began_at, begun, begun_count, committed, done_at, gone_at, is_began}
use Rattle.teb_rules.specs.history.Phases.{is_done, is_gone, is_ready, kind_of, prepared, ready_at, spot_of, txns, unfinished}
use Rattle.teb_rules.specs.history.Positions.{came, first, first_event, newest}
use Rattle.teb_rules.proofs.lemmas.laws.Nodes.{meets_parts}
use Rattle.teb_rules.proofs.lemmas.laws.Positions.{before, first_cases, later, now}
use Rattle.teb_rules.proofs.lemmas.laws.TableRanks.{In-below, least_is, rank_at, stands_from}
use Rattle.teb_rules.specs.laws.TreeFacts.{TreeFacts}
use Rattle.teb_rules.proofs.lemmas.laws.Ranks.{or_else_go}
use Rattle.teb_rules.specs.declared.names.Cell.{Cell}
use Rattle.teb_rules.specs.declared.names.ControlKind.{ControlKind}
use Rattle.teb_rules.specs.Accepted.{HasProfiles}
use Rattle.teb_rules.specs.Cascade.{txn}
use Rattle.teb_rules.specs.Controls.{blocks, entry_blocks, on_access}
use Rattle.teb_rules.specs.Serializes.{In}
use Rattle.teb_rules.specs.Setup.{Setup, profile}
use Rattle.teb_rules.specs.Steps.{cursor, least_step, passed, rank_of_step, rank_of_table, stands_under}
use Rattle.teb_rules.specs.Tree.{below, meets, on, side}
use Rattle.teb_rules.specs.declared.Verdict.TheVariants.{Go}
use Rattle.teb_rules.specs.Verdicts.{wait_for}

-- an event that q rejects does not change whether an event that q accepts has occurred
pub came_kept : (q : Event → Bool) (e : Event) (P : List Event) → q e ≡ false → came (e ∷ P) (first_event q (e ∷ P)) ≡ came P (first_event q P)
unfolding first_event
came_kept q e P h = elim (first_cases (newest q) e P) [
  | before a b ↦ lt-ltb _ _ (let z : first (newest q) (e ∷ P) < suc (length P) = omega arith in z) ∙ sym (lt-ltb _ _ a)
  | now a b c ↦ absurd (both_ways _ h b)
  | later a b c ↦ le-ltb _ _ (let z : suc (length P) ≤ first (newest q) (e ∷ P) = omega arith in z) ∙ sym (le-ltb _ _ (let z : length P ≤ first (newest q) P = omega arith in z))
]

-- a Got changes no transaction's phase, spot or puts
pub got_unfinished : (s : Txn) (x : Cell) (w : Txn) (v : Option ℤ) (P : List Event) (u : ℕ) → unfinished (Got s x w v ∷ P) u ≡ unfinished P u
unfolding unfinished begun committed aborted began_at done_at gone_at
got_unfinished s x w v P u = rw (came_kept (is_began u) (Got s x w v) P refl, came_kept (is_done u) (Got s x w v) P refl, came_kept (is_gone u) (Got s x w v) P refl) refl

pub got_committed : (s : Txn) (x : Cell) (w : Txn) (v : Option ℤ) (P : List Event) (u : ℕ) → committed (Got s x w v ∷ P) u ≡ committed P u
unfolding committed done_at
got_committed s x w v P u = came_kept (is_done u) (Got s x w v) P refl

pub got_aborted : (s : Txn) (x : Cell) (w : Txn) (v : Option ℤ) (P : List Event) (u : ℕ) → aborted (Got s x w v ∷ P) u ≡ aborted P u
unfolding aborted gone_at
got_aborted s x w v P u = came_kept (is_gone u) (Got s x w v) P refl

pub got_prepared : (s : Txn) (x : Cell) (w : Txn) (v : Option ℤ) (P : List Event) (u : ℕ) → prepared (Got s x w v ∷ P) u ≡ prepared P u
unfolding prepared ready_at
got_prepared s x w v P u = rw (got_unfinished s x w v P u, came_kept (is_ready u) (Got s x w v) P refl) refl

pub got_wrote : (s : Txn) (x : Cell) (w : Txn) (v : Option ℤ) (P : List Event) (u : ℕ) (y : Cell) → wrote (Got s x w v ∷ P) u y ≡ wrote P u y
unfolding wrote put_at
got_wrote s x w v P u y = came_kept (is_put u y) (Got s x w v) P refl

pub got_kind : (s : Txn) (x : Cell) (w : Txn) (v : Option ℤ) (P : List Event) (u : ℕ) → kind_of (Got s x w v ∷ P) u ≡ kind_of P u
unfolding spot_of
got_kind s x w v P u = refl

pub got_meets : (S : Setup) (s : Txn) (x : Cell) (w : Txn) (v : Option ℤ) (P : List Event) (n t u : ℕ) → meets S (Got s x w v ∷ P) n t u ≡ meets S P n t u
unfolding meets on side spot_of
got_meets S s x w v P n t u = refl

pub got_on : (S : Setup) (s : Txn) (x : Cell) (w : Txn) (v : Option ℤ) (P : List Event) (n t : ℕ) → on S (Got s x w v ∷ P) n t ≡ on S P n t
unfolding on spot_of
got_on S s x w v P n t = refl

pub got_txns : (s : Txn) (x : Cell) (w : Txn) (v : Option ℤ) (P : List Event) → txns (Got s x w v ∷ P) ≡ txns P
unfolding txns begun_count
got_txns s x w v P = refl

got_blocks : (S : Setup) (s : Txn) (x : Cell) (w : Txn) (v : Option ℤ) (P : List Event) (n t : ℕ) (y : Cell) (u : ℕ) → blocks S (Got s x w v ∷ P) n t y false u ≡ blocks S P n t y false u
unfolding blocks
got_blocks S s x w v P n t y u = rw (got_unfinished s x w v P u, got_meets S s x w v P n t u, got_wrote s x w v P u y) refl

got_cursor_other : (S : Setup) (t : ℕ) (x : Cell) (w : Txn) (v : Option ℤ) (P : List Event) (u : ℕ) → t ≢ u → cursor S (Got (txn t) x w v ∷ P) u ≡ cursor S P u
unfolding cursor
got_cursor_other S t x w v P u ne = rw (ne_eqb t u ne) refl

got_cursor : (S : Setup) (t : ℕ) (x : Cell) (w : Txn) (v : Option ℤ) (P : List Event) (s : ℕ) → least_step (profile S (kind_of P t)) (cursor S P t) x.table.0 ≡ Some s
    → cursor S (Got (txn t) x w v ∷ P) t ≡ s
unfolding cursor
got_cursor S t x w v P s e = rw (eq-eqb t t refl, e) refl

got_passed_other : (S : Setup) (t : ℕ) (x : Cell) (w : Txn) (v : Option ℤ) (P : List Event) (n u r : ℕ) → t ≢ u → passed S (Got (txn t) x w v ∷ P) n u r ≡ passed S P n u r
unfolding passed
got_passed_other S t x w v P n u r ne = rw (
  got_prepared (txn t) x w v P u,
  got_committed (txn t) x w v P u,
  got_aborted (txn t) x w v P u,
  got_kind (txn t) x w v P u,
  got_cursor_other S t x w v P u ne,
) refl

blocks_same : (S : Setup) (P : List Event) (n t : ℕ) (y : Cell) (u : ℕ) → t ≡ u → blocks S P n t y false u ≡ false
unfolding blocks
blocks_same S P n t y u e = false_from_ne_true _ (λ b. let m = (and_parts _ _ (and_parts _ _ b).0).1 in absurd ((meets_parts S P n t u m).2 (ap (side S P n) e)))

-- a transaction that blocks a read after a Got of t blocked it before
got_in_way : (S : Setup) (t : ℕ) (x : Cell) (w : Txn) (v : Option ℤ) (P : List Event) (n : ℕ) (y : Cell) (r u : ℕ) →
    (blocks S (Got (txn t) x w v ∷ P) n t y false u && not (passed S (Got (txn t) x w v ∷ P) n u r)) ≡ (blocks S P n t y false u && not (passed S P n u r))
got_in_way S t x w v P n y r u = elim (cases_eq t u) [
  | inr ne ↦ rw (got_blocks S (txn t) x w v P n t y u, got_passed_other S t x w v P n u r ne) refl
  | inl e ↦ rw (got_blocks S (txn t) x w v P n t y u, blocks_same S P n t y u e) refl
]

find_some_from : (p : ℕ → Bool) (us : List ℕ) (u : ℕ) → In u us → p u ≡ true → is_some (find p us) ≡ true
find_some_from p [] u i h = absurd i
find_some_from p (v ∷ vs) u i h = go (p v) refl (λ j. find_some_from p vs u j h) i
  where
    go : (b : Bool) → p v ≡ b → (In u vs → is_some (find p vs) ≡ true) → In u (v ∷ vs) → is_some (cond b (Some v) (find p vs)) ≡ true
    go true e f i = refl
    go false e f i = elim i [ inl q ↦ absurd (both_ways _ e (subst (λ (z : ℕ). p z ≡ true) (sym q) h)) | inr j ↦ f j ]

pub least_again : (ss : List (List ℕ)) (c a s : ℕ) → least_step ss c a ≡ Some s → is_some (least_step ss s a) ≡ true
unfolding least_step
least_again ss c a s e = let r = least_is ss c a s e in find_some_from _ (below (length ss)) s (In-below (length ss) s r.1) (and_from _ _ (le-leb s s (le_refl s)) r.2)

find_none_from : (p : ℕ → Bool) (us : List ℕ) → ((u : ℕ) → p u ≡ false) → find p us ≡ None
find_none_from p [] f = refl
find_none_from p (v ∷ vs) f = rw (f v) (find_none_from p vs f)

no_entry : (S : Setup) (P : List Event) (t : ℕ) (x y : Cell) (w : Txn) (v : Option ℤ) (n s u : ℕ) → HasProfiles S → kind_of P t < S.types → stands_under S.tree n (kind_of P t) ≡ true
    → x.table.0 ≡ y.table.0 →
    least_step (profile S (kind_of P t)) (cursor S P t) x.table.0 ≡ Some s → entry_blocks S (Got (txn t) x w v ∷ P) n t y u ≡ false
unfolding entry_blocks
no_entry S P t x y w v n s u hp k o e m =
    let r = rank_at S hp n (kind_of P t) (cursor S P t) y.table.0 s k o (ap (λ (a : ℕ). least_step (profile S (kind_of P t)) (cursor S P t) a) (sym e) ∙ m) in
    let z : ltb (rank_of_step S n (kind_of (Got (txn t) x w v ∷ P) t) (cursor S (Got (txn t) x w v ∷ P) t)) (rank_of_table S n y.table.0) ≡ false = rw
    (got_kind (txn t) x w v P t, got_cursor S t x w v P s m) (le-ltb _ _ r) in
    rw z refl

-- a node that does not stop t's read of y does not stop it after t has read another cell of the same table
pub got_go : (S : Setup) (c : ControlKind) → HasProfiles S → (P : List Event) (t : ℕ) (x y : Cell) (w : Txn) (v : Option ℤ) (n s : ℕ) → kind_of P t < S.types
    → stands_under S.tree n (kind_of P t) ≡ true → x.table.0 ≡ y.table.0 →
    least_step (profile S (kind_of P t)) (cursor S P t) x.table.0 ≡ Some s → on_access c S P n t y false ≡ Go → on_access c S (Got (txn t) x w v ∷ P) n t y false ≡ Go
unfolding on_access
got_go S Locks hp P t x y w v n s k o e m h = rw (got_txns (txn t) x w v P) (ap (λ (p : ℕ → Bool). wait_for (find p (txns P))) (λ i u. got_blocks S (txn t) x w v P n t y u i) ∙ h)
got_go S Pipeline hp P t x y w v n s k o e m h =
    let p = or_else_go _ _ h in
    rw (got_txns (txn t) x w v P, ap wait_for (find_none_from (entry_blocks S (Got (txn t) x w v ∷ P) n t y) (txns P) (λ u. no_entry S P t x y w v n s u hp k o e m)))
    (ap (λ (p : ℕ → Bool). wait_for (find p (txns P))) (λ i u. got_in_way S t x w v P n y (rank_of_table S n y.table.0) u i) ∙ p.1)
got_go S Timestamp hp P t x y w v n s k o e m h = refl
got_go S Snapshot hp P t x y w v n s k o e m h = refl

-- after an access of a table, the profile still has a step for the table from the cursor on
pub got_step : (S : Setup) (t : ℕ) (x y : Cell) (w : Txn) (v : Option ℤ) (P : List Event) (s : ℕ) → x.table.0 ≡ y.table.0 → least_step (profile S (kind_of P t)) (cursor S P t) x.table.0 ≡ Some s →
    is_some (least_step (profile S (kind_of (Got (txn t) x w v ∷ P) t)) (cursor S (Got (txn t) x w v ∷ P) t) y.table.0) ≡ true
got_step S t x y w v P s e m = rw (got_kind (txn t) x w v P t, got_cursor S t x w v P s m, sym e) (least_again (profile S (kind_of P t)) (cursor S P t) x.table.0 s m)

pub stands_on : (S : Setup) (a : TreeFacts S) (H : List Event) (t n : ℕ) → kind_of H t < S.types → on S H n t ≡ true → stands_under S.tree n (kind_of H t) ≡ true
unfolding on
stands_on S a H t n h o = stands_from S a n (spot_of H t) h o

pub unfinished_begun : (H : List Event) (t : ℕ) → unfinished H t ≡ true → began_at H t < length H
unfolding unfinished begun
unfinished_begun H t h = ltb-true _ _ (and_parts _ _ (and_parts _ _ h).0).0
