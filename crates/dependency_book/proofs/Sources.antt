-- The transactions that a transaction read from: the list that a book keeps, and the relation.
use Rattle.std.proofs.Common.{◌≡◌, ℕ, ◌<◌, ◌≤◌, Bool, true, false, cond, not, ◌&&◌, ◌||◌, eqb, ltb, List, [], ◌∷◌, find, Some, None, refl, sym, ◌∙◌, ap, subst, arith}
use Rattle.std.proofs.lemmas.Bool.Decides.{nat_tests}
use Rattle.std.proofs.lemmas.Bool.{eqb-true, ne_eqb}
use Rattle.teb_rules.specs.declared.names.Txn.{Txn}
use Rattle.teb_rules.proofs.lemmas.names.Bools.{and_false, eqb_swap}
use Rattle.teb_rules.specs.declared.history.Event.{Event}
use Rattle.teb_rules.specs.declared.history.Event.TheVariants.{Began, Got, Put, Ready, Done, Gone, Told}
use Rattle.teb_rules.specs.history.Phases.{aborted}
use Rattle.teb_rules.specs.history.Accesses.{read_from}
use Rattle.teb_rules.specs.history.Ascending.{AllAbove, IsAscendingBy, put_by}
use Rattle.teb_rules.specs.history.Live.{number_of}
use Rattle.teb_rules.proofs.lemmas.history.AscendingLists.{ascending-put}
use Rattle.dependency_book.specs.Dependencies.{has, all_sources, sources}

has-put : (w v : Txn) (ts : List Txn) → has w (put_by number_of v ts) ≡ (eqb v.0 w.0 || has w ts)
has-put w v [] = refl
has-put w v (x ∷ xs) = go (ltb x.0 v.0) (eqb x.0 v.0) refl (has-put w v xs)
  where
    swap : (a b c : Bool) → (a || (b || c)) ≡ (b || (a || c))
    swap true true c = refl
    swap true false c = refl
    swap false true c = refl
    swap false false c = refl

    once : (a c : Bool) → (a || c) ≡ (a || (a || c))
    once true c = refl
    once false c = refl

    go : (b c : Bool) → eqb x.0 v.0 ≡ c → has w (put_by number_of v xs) ≡ (eqb v.0 w.0 || has w xs)
        → has w (cond b (x ∷ put_by number_of v xs) (v ∷ cond c xs (x ∷ xs))) ≡ (eqb v.0 w.0 || (eqb x.0 w.0 || has w xs))
    go true c e ih = ap (λ (o : Bool). eqb x.0 w.0 || o) ih ∙ swap (eqb x.0 w.0) (eqb v.0 w.0) (has w xs)
    go false true e ih = once (eqb v.0 w.0) (has w xs) ∙ ap (λ (n : ℕ). eqb v.0 w.0 || (eqb n w.0 || has w xs)) (sym (eqb-true x.0 v.0 e))
    go false false e ih = refl

-- w is among the sources of t if and only if t read from it and it is not the starting row
pub has_source : (H : List Event) (t w : Txn) → has w (all_sources H t) ≡ (ltb 0 w.0 && read_from H t.0 w.0)
unfolding all_sources read_from
has_source [] t w = sym (and_false (ltb 0 w.0))
has_source (Got s y v x ∷ P) t w = ap (λ (ts : List Txn). has w ts) refl ∙ went (eqb s.0 t.0 && not (eqb v.0 t.0) && ltb 0 v.0)
    ∙ ap (λ (o : Bool). (eqb s.0 t.0 && not (eqb v.0 t.0) && ltb 0 v.0) && eqb v.0 w.0 || o) (has_source P t w) ∙ same (eqb v.0 w.0) refl (eqb s.0 t.0) (read_from P t.0 w.0)
  where
    went : (c : Bool) → has w (cond c (put_by number_of v (all_sources P t)) (all_sources P t)) ≡ (c && eqb v.0 w.0 || has w (all_sources P t))
    went true = has-put w v (all_sources P t)
    went false = refl

    same : (e : Bool) → eqb v.0 w.0 ≡ e → (a r : Bool) → ((a && not (eqb v.0 t.0) && ltb 0 v.0) && e || (ltb 0 w.0 && r)) ≡ (ltb 0 w.0 && ((a && e && not (eqb t.0 w.0)) || r))
    same true h a r =
        let n = eqb-true v.0 w.0 h in
        ap (λ (k : ℕ). (a && not (eqb k t.0) && ltb 0 k) && true || (ltb 0 w.0 && r)) n ∙ ap (λ (o : Bool). (a && not o && ltb 0 w.0) && true || (ltb 0 w.0 && r)) (eqb_swap w.0 t.0)
        ∙ tests a (eqb t.0 w.0) (ltb 0 w.0) r
      where
        tests : (a o p r : Bool) → ((a && not o && p) && true || (p && r)) ≡ (p && ((a && true && not o) || r))
        tests true true true r = refl
        tests true true false r = refl
        tests true false true r = refl
        tests true false false r = refl
        tests false o true r = refl
        tests false o false r = refl
    same false h a r = tests (a && not (eqb v.0 t.0) && ltb 0 v.0) a (not (eqb t.0 w.0)) (ltb 0 w.0) r
      where
        tests : (c a o p r : Bool) → (c && false || (p && r)) ≡ (p && ((a && false && o) || r))
        tests true true o p r = refl
        tests true false o p r = refl
        tests false true o p r = refl
        tests false false o p r = refl
has_source (Began s k i j ∷ P) t w = has_source P t w
has_source (Put s y v ∷ P) t w = has_source P t w
has_source (Ready s ∷ P) t w = has_source P t w
has_source (Done s ∷ P) t w = has_source P t w
has_source (Gone s c ∷ P) t w = has_source P t w
has_source (Told s ∷ P) t w = has_source P t w

pub sources_ascend : (H : List Event) (t : Txn) → IsAscendingBy number_of (all_sources H t)
unfolding all_sources
sources_ascend [] t = tt
sources_ascend (Got s y v x ∷ P) t = go (eqb s.0 t.0 && not (eqb v.0 t.0) && ltb 0 v.0) (sources_ascend P t)
  where
    go : (c : Bool) → IsAscendingBy number_of (all_sources P t) → IsAscendingBy number_of (cond c (put_by number_of v (all_sources P t)) (all_sources P t))
    go true a = ascending-put number_of v (all_sources P t) a
    go false a = a
sources_ascend (Began s k i j ∷ P) t = sources_ascend P t
sources_ascend (Put s y v ∷ P) t = sources_ascend P t
sources_ascend (Ready s ∷ P) t = sources_ascend P t
sources_ascend (Done s ∷ P) t = sources_ascend P t
sources_ascend (Gone s c ∷ P) t = sources_ascend P t
sources_ascend (Told s ∷ P) t = sources_ascend P t

pub sources_standing : (H : List Event) (t : Txn) → aborted H t.0 ≡ false → sources H t ≡ all_sources H t
unfolding sources
sources_standing H t h = ap (λ (o : Bool). cond o [] (all_sources H t)) h

-- the first element of an ascending list that passes is the least that passes
above_has : (n : ℕ) (w : Txn) (ts : List Txn) → w.0 ≤ n → AllAbove number_of n ts → has w ts ≡ false
above_has n w [] l h = refl
above_has n w (u ∷ us) l h = rw (ne_eqb u.0 w.0 (λ e. omega (arith, h.0))) (above_has n w us l h.1)

pub record IsLeast (q : ℕ → Bool) (ts : List Txn) (w : Txn) : Type 0 where
  pub passes : q w.0 ≡ true
  pub there : has w ts ≡ true
  pub lower : (v : Txn) → v.0 < w.0 → has v ts ≡ true → q v.0 ≡ false

clash : (b : Bool) → b ≡ true → b ≡ false → ⊥
clash b h k = let z : true ≡ false = sym h ∙ k in cc

pub find_least : (q : ℕ → Bool) (ts : List Txn) (w : Txn) → IsAscendingBy number_of ts → find (λ x. q x.0) ts ≡ Some w → IsLeast q ts w
find_least q [] w a h = absurd (cc)
find_least q (x ∷ xs) w a h = go (q x.0) refl h (find_least q xs w a.1)
  where
    go : (b : Bool) → q x.0 ≡ b → cond b (Some x) (find (λ x. q x.0) xs) ≡ Some w → (find (λ x. q x.0) xs ≡ Some w → IsLeast q xs w) → IsLeast q (x ∷ xs) w
    go true e h ih =
        let same : x ≡ w = cc in
        subst (λ (z : Txn). IsLeast q (x ∷ xs) z) same (record {
          passes = e;
          there = rw (eqb_itself x.0) refl;
          lower = λ v lt in_. absurd (clash _ in_ (rw (ne_eqb x.0 v.0 (λ z. omega arith)) (above_has x.0 v xs (omega arith) a.0)));
        })
      where
        eqb_itself : (n : ℕ) → eqb n n ≡ true
        eqb_itself n = grind (arith, nat_tests)
    go false e h ih =
        let r = ih h in
        record {
          passes = r.passes;
          there = later (eqb x.0 w.0) (has w xs) r.there;
          lower = λ v lt in_. or_case v (eqb x.0 v.0) refl in_ (r.lower v lt);
        }
      where
        later : (a b : Bool) → b ≡ true → (a || b) ≡ true
        later true b h = refl
        later false b h = h

        or_case : (v : Txn) (a : Bool) → eqb x.0 v.0 ≡ a → (a || has v xs) ≡ true → (has v xs ≡ true → q v.0 ≡ false) → q v.0 ≡ false
        or_case v true k o r = ap q (sym (eqb-true x.0 v.0 k)) ∙ e
        or_case v false k o r = r o

pub find_absent : (q : ℕ → Bool) (ts : List Txn) → find (λ x. q x.0) ts ≡ None → (w : Txn) → has w ts ≡ true → q w.0 ≡ false
find_absent q [] h w i = absurd (let z : false ≡ true = i in cc)
find_absent q (x ∷ xs) h w i = go (q x.0) refl h (eqb x.0 w.0) refl i (λ n j. find_absent q xs n w j)
  where
    go : (b : Bool) → q x.0 ≡ b → cond b (Some x) (find (λ x. q x.0) xs) ≡ None → (o : Bool) → eqb x.0 w.0 ≡ o → (o || has w xs) ≡ true
        → (find (λ x. q x.0) xs ≡ None → has w xs ≡ true → q w.0 ≡ false) → q w.0 ≡ false
    go true e n o k i f = absurd (cc)
    go false e n true k i f = ap q (sym (eqb-true x.0 w.0 k)) ∙ e
    go false e n false k i f = f n i
