-- The length of the journal of a history.
use Rattle.std.proofs.Common.{◌≡◌, ◌≤◌, ◌+◌, ◌*◌, ℕ, zero, suc, Bool, true, false, cond, not, eqb, ◌&&◌, ◌||◌, List, [], ◌∷◌, ◌++◌, length, filter, refl, sym, ap, subst, ◌∙◌, arith}
use Rattle.std.proofs.lemmas.Bool.{both_ways, eq-eqb, eqb-true}
use Rattle.teb_rules.specs.names.Cells.{same_cell}
use Rattle.teb_rules.specs.declared.history.Event.{Event}
use Rattle.teb_rules.specs.declared.history.Event.TheVariants.{Began, Got, Put, Ready, Done, Gone, Told}
use Rattle.teb_rules.specs.history.Phases.{begun, committed, aborted, unfinished, is_done}
use Rattle.teb_rules.specs.history.OwnEvents.{own_events, is_of}
use Rattle.teb_rules.proofs.lemmas.history.Newest.{committed-cons}
use Rattle.teb_rules.specs.Setup.{Setup}
use Rattle.teb_rules.specs.laws.Lawful.{Lawful}
use Rattle.record_journal.specs.Format.{records}
use Rattle.record_journal.proofs.Spelled.{length-records-push}
use Rattle.commit_laws.specs.Commits.{commit_count, put_count}
use Rattle.commit_laws.specs.Records.{last_puts, puts_of, is_newest, record_of, records_of}

length-filter-le : {A : Type 0} (p : A → Bool) (xs : List A) → length (filter p xs) ≤ length xs
length-filter-le p [] = omega arith
length-filter-le p (x ∷ xs) = go (p x) (length-filter-le p xs)
  where
    go : (b : Bool) → length (filter p xs) ≤ length xs → length (cond b (x ∷ filter p xs) (filter p xs)) ≤ suc (length xs)
    go true ih = omega (arith, ih)
    go false ih = omega (arith, ih)

-- the number of puts of the transactions that p selects
abbrev puts_by : (ℕ → Bool) → List Event → ℕ
puts_by p [] = zero
puts_by p (Put t x v ∷ P) = let n = puts_by p P in cond (p t.0) (suc n) n
puts_by p (Began t s k i ∷ P) = puts_by p P
puts_by p (Got t x w v ∷ P) = puts_by p P
puts_by p (Ready t ∷ P) = puts_by p P
puts_by p (Done t ∷ P) = puts_by p P
puts_by p (Gone t c ∷ P) = puts_by p P
puts_by p (Told t ∷ P) = puts_by p P

-- there are no more last puts than puts
few_last : (es : List Event) → length (last_puts es) ≤ put_count es
unfolding last_puts put_count
few_last [] = omega arith
few_last (Put t x v ∷ es) = omega (arith, length-filter-le (λ c. not (same_cell c.cell x)) (last_puts es), few_last es)
few_last (Began t s k i ∷ es) = few_last es
few_last (Got t x w v ∷ es) = few_last es
few_last (Ready t ∷ es) = few_last es
few_last (Done t ∷ es) = few_last es
few_last (Gone t c ∷ es) = few_last es
few_last (Told t ∷ es) = few_last es

own_puts : (P : List Event) (t : ℕ) → put_count (filter (is_of t) P) ≡ puts_by (λ u. eqb u t) P
unfolding put_count
own_puts [] t = refl
own_puts (Put u x v ∷ P) t = go (eqb u.0 t) (own_puts P t)
  where
    go : (b : Bool) → put_count (filter (is_of t) P) ≡ puts_by (λ u. eqb u t) P → put_count (cond b (Put u x v ∷ filter (is_of t) P) (filter (is_of t) P)) ≡ cond b (suc (puts_by (λ u. eqb u t) P))
        (puts_by (λ u. eqb u t) P)
    go true ih = ap suc ih
    go false ih = ih
own_puts (Began u s k i ∷ P) t = skip (eqb u.0 t) (own_puts P t)
  where
    skip : (b : Bool) → put_count (filter (is_of t) P) ≡ puts_by (λ u. eqb u t) P → put_count (cond b (Began u s k i ∷ filter (is_of t) P) (filter (is_of t) P)) ≡ puts_by (λ u. eqb u t) P
    skip true ih = ih
    skip false ih = ih
own_puts (Got u x w v ∷ P) t = skip (eqb u.0 t) (own_puts P t)
  where
    skip : (b : Bool) → put_count (filter (is_of t) P) ≡ puts_by (λ u. eqb u t) P → put_count (cond b (Got u x w v ∷ filter (is_of t) P) (filter (is_of t) P)) ≡ puts_by (λ u. eqb u t) P
    skip true ih = ih
    skip false ih = ih
own_puts (Ready u ∷ P) t = skip (eqb u.0 t) (own_puts P t)
  where
    skip : (b : Bool) → put_count (filter (is_of t) P) ≡ puts_by (λ u. eqb u t) P → put_count (cond b (Ready u ∷ filter (is_of t) P) (filter (is_of t) P)) ≡ puts_by (λ u. eqb u t) P
    skip true ih = ih
    skip false ih = ih
own_puts (Done u ∷ P) t = skip (eqb u.0 t) (own_puts P t)
  where
    skip : (b : Bool) → put_count (filter (is_of t) P) ≡ puts_by (λ u. eqb u t) P → put_count (cond b (Done u ∷ filter (is_of t) P) (filter (is_of t) P)) ≡ puts_by (λ u. eqb u t) P
    skip true ih = ih
    skip false ih = ih
own_puts (Gone u c ∷ P) t = skip (eqb u.0 t) (own_puts P t)
  where
    skip : (b : Bool) → put_count (filter (is_of t) P) ≡ puts_by (λ u. eqb u t) P → put_count (cond b (Gone u c ∷ filter (is_of t) P) (filter (is_of t) P)) ≡ puts_by (λ u. eqb u t) P
    skip true ih = ih
    skip false ih = ih
own_puts (Told u ∷ P) t = skip (eqb u.0 t) (own_puts P t)
  where
    skip : (b : Bool) → put_count (filter (is_of t) P) ≡ puts_by (λ u. eqb u t) P → put_count (cond b (Told u ∷ filter (is_of t) P) (filter (is_of t) P)) ≡ puts_by (λ u. eqb u t) P
    skip true ih = ih
    skip false ih = ih

few_puts : (P : List Event) (t : ℕ) → length (puts_of P t) ≤ puts_by (λ u. eqb u t) P
unfolding own_events
few_puts P t = omega (arith, few_last (filter (is_of t) P), own_puts P t)

-- the puts of two disjoint sets of transactions add up
joined : (p q : ℕ → Bool) → ((u : ℕ) → p u ≡ true → q u ≡ false) → (P : List Event) → puts_by p P + puts_by q P ≡ puts_by (λ u. p u || q u) P
joined p q apart [] = refl
joined p q apart (Put t x v ∷ P) = go (p t.0) (q t.0) refl refl (joined p q apart P)
  where
    go : (a b : Bool) → p t.0 ≡ a → q t.0 ≡ b → puts_by p P + puts_by q P ≡ puts_by (λ u. p u || q u) P
        → cond a (suc (puts_by p P)) (puts_by p P) + cond b (suc (puts_by q P)) (puts_by q P) ≡ cond (a || b) (suc (puts_by (λ u. p u || q u) P)) (puts_by (λ u. p u || q u) P)
    go true true e f ih = absurd (both_ways _ (apart t.0 e) f)
    go true false e f ih = omega (arith, ih)
    go false true e f ih = omega (arith, ih)
    go false false e f ih = ih
joined p q apart (Began t s k i ∷ P) = joined p q apart P
joined p q apart (Got t x w v ∷ P) = joined p q apart P
joined p q apart (Ready t ∷ P) = joined p q apart P
joined p q apart (Done t ∷ P) = joined p q apart P
joined p q apart (Gone t c ∷ P) = joined p q apart P
joined p q apart (Told t ∷ P) = joined p q apart P

-- p selects no committed transaction
abbrev AreLive : (ℕ → Bool) → List Event → Type 0
AreLive p P = (u : ℕ) → p u ≡ true → committed P u ≡ false

were_live : (p : ℕ → Bool) (e : Event) (P : List Event) → AreLive p (e ∷ P) → AreLive p P
were_live p e P now u h = behind (is_done u e) (committed P u) (sym (committed-cons e P u) ∙ now u h)
  where
    behind : (a b : Bool) → (a || b) ≡ false → b ≡ false
    behind true b f = absurd (cc)
    behind false b f = f

not_committed : (P : List Event) (t : ℕ) → unfinished P t ≡ true → committed P t ≡ false
unfolding unfinished
not_committed P t h = go (begun P t) (committed P t) (aborted P t) h
  where
    go : (a b c : Bool) → (a && not b && not c) ≡ true → b ≡ false
    go true false c h = refl
    go true true c h = absurd (cc)
    go false b c h = absurd (cc)

abbrev IsShort : Setup → List Event → (ℕ → Bool) → Type 0
IsShort S P p = length (records (records_of S P)) + 14 * puts_by p P ≤ 5 * commit_count P + 14 * put_count P

-- a commit uses the room that is counted for its transaction's puts
short_commit : (S : Setup) (P : List Event) (t : ℕ) (p : ℕ → Bool) → ((u : ℕ) → p u ≡ true → eqb u t ≡ false) → IsShort S P (λ u. p u || eqb u t)
    → length (records (records_of S P ++ record_of S P t ∷ [])) + 14 * puts_by p P ≤ 5 * suc (commit_count P) + 14 * put_count P
short_commit S P t p apart ih =
    omega (arith, ih, joined p (λ u. eqb u t) apart P, few_puts P t, length-filter-le (λ c. is_newest S P t c.cell) (puts_of P t), length-records-push (records_of S P) (record_of S P t))

short : (S : Setup) (H : List Event) → Lawful S H → (p : ℕ → Bool) → AreLive p H → IsShort S H p
unfolding Lawful records_of commit_count put_count
short S [] l p live = omega arith
short S (Done t ∷ P) l p live = short_commit S P t.0 p apart (short S P l.1 (λ u. p u || eqb u t.0) still)
  where
    itself : (u : ℕ) → eqb u t.0 ≡ true → committed (Done t ∷ P) u ≡ true
    itself u e = committed-cons (Done t) P u ∙ ap (λ (b : Bool). b || committed P u) (eq-eqb t.0 u (sym (eqb-true u t.0 e)))

    apart : (u : ℕ) → p u ≡ true → eqb u t.0 ≡ false
    apart u h = go (eqb u t.0) refl
      where
        go : (b : Bool) → eqb u t.0 ≡ b → b ≡ false
        go true e = absurd (both_ways _ (live u h) (itself u e))
        go false e = refl

    still : AreLive (λ u. p u || eqb u t.0) P
    still u h = go (p u) refl (eqb u t.0) refl h
      where
        go : (a : Bool) → p u ≡ a → (b : Bool) → eqb u t.0 ≡ b → (a || b) ≡ true → committed P u ≡ false
        go true e b f h = were_live p (Done t) P live u e
        go false e true f h = subst (λ (w : ℕ). committed P w ≡ false) (sym (eqb-true u t.0 f)) (not_committed P t.0 l.0.unfinished)
        go false e false f h = absurd (cc)
short S (Put t x v ∷ P) l p live = go (p t.0) (short S P l.1 p (were_live p (Put t x v) P live))
  where
    go : (b : Bool) → IsShort S P p → length (records (records_of S P)) + 14 * cond b (suc (puts_by p P)) (puts_by p P) ≤ 5 * commit_count P + 14 * suc (put_count P)
    go true ih = omega (arith, ih)
    go false ih = omega (arith, ih)
short S (Began t s k i ∷ P) l p live = short S P l.1 p (were_live p (Began t s k i) P live)
short S (Got t x w v ∷ P) l p live = short S P l.1 p (were_live p (Got t x w v) P live)
short S (Ready t ∷ P) l p live = short S P l.1 p (were_live p (Ready t) P live)
short S (Gone t c ∷ P) l p live = short S P l.1 p (were_live p (Gone t c) P live)
short S (Told t ∷ P) l p live = short S P l.1 p (were_live p (Told t) P live)

-- the journal has at most 5 bytes for each commit and 14 for each put
pub journal_length : (S : Setup) (H : List Event) → Lawful S H → length (records (records_of S H)) ≤ 5 * commit_count H + 14 * put_count H
journal_length S H l = omega (arith, short S H l (λ u. false) (λ u h. absurd (cc)))

-- the bound leaves room for the puts of an unfinished transaction
pub journal_room : (S : Setup) (H : List Event) → Lawful S H → (t : ℕ) → unfinished H t ≡ true → length (records (records_of S H)) + 14 * length (puts_of H t) ≤ 5 * commit_count H + 14 * put_count H
journal_room S H l t u =
    omega (arith, few_puts H t, short S H l (λ w. eqb w t) (λ w e. subst (λ (z : ℕ). committed H z ≡ false) (sym (eqb-true w t e)) (not_committed H t u)))
