-- The least-numbered transaction that a write is too late for is found among the reads.
use Rattle.std.proofs.Common.{◌≡◌, ℕ, ◌<◌, ◌≤◌, Bool, true, false, cond, not, ◌&&◌, ◌||◌, eqb, ltb, min, List, [], ◌∷◌, ◌++◌}
use Rattle.std.proofs.Common.{filter, find, Option, Some, None, refl, sym, ◌∙◌, ap, inl, inr, arith, ltb-true, eq-eqb}
use Rattle.std.specs.List.{list_any}
use Rattle.std.proofs.lemmas.List.{append-nil, append_assoc}
use Rattle.std.proofs.lemmas.Bool.{cases_Bool, eqb-true, ltb-false, false_from_ne_true}
use Rattle.teb_rules.specs.declared.names.Txn.{Txn}
use Rattle.teb_rules.specs.declared.names.Cell.{Cell}
use Rattle.teb_rules.specs.names.Cells.{same_cell}
use Rattle.teb_rules.proofs.lemmas.names.Bools.{and_false, or_false, or_swap}
use Rattle.teb_rules.specs.declared.history.Event.{Event}
use Rattle.teb_rules.specs.declared.history.Event.TheVariants.{Got}
use Rattle.teb_rules.specs.history.Phases.{numbers, txns, begun_count, aborted}
use Rattle.teb_rules.specs.history.Written.{txn_of}
use Rattle.teb_rules.specs.Setup.{Setup}
use Rattle.teb_rules.specs.Tree.{on, meets}
use Rattle.teb_rules.specs.Batches.{start}
use Rattle.teb_rules.specs.Versions.{precedes}
use Rattle.teb_rules.specs.Controls.{has_read_before, is_late}
use Rattle.teb_rules.proofs.lemmas.laws.Nodes.{meets_parts}
use Rattle.timestamp_node.specs.Reads.{all_reads, reads}
use Rattle.timestamp_node.specs.Late.{is_after, lesser_txn}
use Rattle.timestamp_node.proofs.Readers.{AllOf}
use Rattle.teb_rules.proofs.lemmas.history.LeastNumbers.{find_alike, nobody, lesser, find_either, numbers_find}

-- u made one of the reads that pass
abbrev pub read_by : (Txn × Txn → Bool) → List (Txn × Txn) → ℕ → Bool
read_by p rs u = list_any (λ r. eqb r.0.0 u && p r) rs

module _ {A : Type 0} where
  any_push : (q : A → Bool) (xs : List A) (a : A) → list_any q (xs ++ a ∷ []) ≡ (list_any q xs || q a)
  any_push q [] a = or_false (q a)
  any_push q (x ∷ xs) a = ap (λ (b : Bool). q x || b) (any_push q xs a) ∙ go (q x) (list_any q xs) (q a)
    where
      go : (a b c : Bool) → (a || (b || c)) ≡ ((a || b) || c)
      go true b c = refl
      go false b c = refl

  any_filter : (q f : A → Bool) (xs : List A) → list_any f (filter q xs) ≡ list_any (λ x. q x && f x) xs
  any_filter q f [] = refl
  any_filter q f (x ∷ xs) = go (q x) (any_filter q f xs)
    where
      go : (b : Bool) → list_any f (filter q xs) ≡ list_any (λ x. q x && f x) xs → list_any f (cond b (x ∷ filter q xs) (filter q xs)) ≡ ((b && f x) || list_any (λ x. q x && f x) xs)
      go true ih = ap (λ (b : Bool). f x || b) ih
      go false ih = ih

  any_alike : (p q : A → Bool) → ((x : A) → p x ≡ q x) → (xs : List A) → list_any p xs ≡ list_any q xs
  any_alike p q f [] = refl
  any_alike p q f (x ∷ xs) = λ j. f x j || any_alike p q f xs j

  any_with : (b : Bool) (q : A → Bool) (xs : List A) → list_any (λ x. b && q x) xs ≡ (b && list_any q xs)
  any_with true q xs = refl
  any_with false q [] = refl
  any_with false q (x ∷ xs) = any_with false q xs

module _ (S : Setup) (H : List Event) (n t : ℕ) (x : Cell) where
  -- the version that was read is t's or an earlier one
  abbrev old : Txn × Txn → Bool
  old r = eqb r.1.0 t || precedes S H x r.1.0 t

  read_before : (P : List Event) (u : ℕ) → list_any (λ r. eqb r.0.0 u && old r) (all_reads P x) ≡ has_read_before S H P x t u
  unfolding all_reads has_read_before
  read_before [] u = refl
  read_before (Got s y w v ∷ P) u = go (same_cell y x) (read_before P u)
    where
      put : (R a o : Bool) → (R || (a && o)) ≡ ((a && true && o) || R)
      put true true true = refl
      put true true false = refl
      put true false o = refl
      put false true true = refl
      put false true false = refl
      put false false o = refl

      skip : (R a o : Bool) → R ≡ ((a && false && o) || R)
      skip R true o = refl
      skip R false o = refl

      go : (b : Bool) → list_any (λ r. eqb r.0.0 u && old r) (all_reads P x) ≡ has_read_before S H P x t u
          → list_any (λ r. eqb r.0.0 u && old r) (cond b (all_reads P x ++ (s, w) ∷ []) (all_reads P x)) ≡ ((eqb s.0 u && b && old (s, w)) || has_read_before S H P x t u)
      go true ih = any_push (λ r. eqb r.0.0 u && old r) (all_reads P x) (s, w) ∙ ap (λ (b : Bool). b || (eqb s.0 u && old (s, w))) ih ∙ put _ (eqb s.0 u) (old (s, w))
      go false ih = ih ∙ skip _ (eqb s.0 u) (old (s, w))
  read_before (_ ∷ P) u = read_before P u

  -- t's write is too late for u if and only if it is too late for one of u's reads
  pub late_read : (u : ℕ) → read_by (is_after S H n t x) (reads S H n x) u ≡ is_late S H n t x u
  unfolding reads is_late
  late_read u =
      any_filter (λ r. on S H n r.0.0 && not (aborted H r.0.0)) (λ r. eqb r.0.0 u && is_after S H n t x r) (all_reads H x)
      ∙ any_alike _ _ same (all_reads H x)
      ∙ any_with (meets S H n t u && not (aborted H u) && ltb (start S H n t) (start S H n u)) (λ r. eqb r.0.0 u && old r) (all_reads H x)
      ∙ ap (λ (b : Bool). meets S H n t u && not (aborted H u) && ltb (start S H n t) (start S H n u) && b) (read_before H u)
    where
      parts : (o a m l w : Bool) → (m ≡ true → o ≡ true) → (o && a && (m && l && w)) ≡ (m && a && l && w)
      parts true true true l w h = refl
      parts true false true l w h = refl
      parts true true false l w h = refl
      parts true false false l w h = refl
      parts false a true l w h = absurd (let z : false ≡ true = h refl in cc)
      parts false a false l w h = refl

      same : (r : Txn × Txn) → (on S H n r.0.0 && not (aborted H r.0.0) && (eqb r.0.0 u && is_after S H n t x r)) ≡ (meets S H n t u && not (aborted H u) && ltb (start S H n t) (start S H n u) &&
          (eqb r.0.0 u && old r))
      same r = elim (cases_Bool (eqb r.0.0 u)) [
        | inl e ↦ (let q = eqb-true r.0.0 u e in
            ap (λ (b : Bool). on S H n r.0.0 && not (aborted H r.0.0) && (b && is_after S H n t x r)) e
            ∙ ap (λ (k : ℕ). on S H n k && not (aborted H k) && (meets S H n t k && ltb (start S H n t) (start S H n k) && old r)) q
            ∙ parts (on S H n u) (not (aborted H u)) (meets S H n t u) (ltb (start S H n t) (start S H n u)) (old r) (λ m. (meets_parts S H n t u m).1)
            ∙ ap (λ (b : Bool). meets S H n t u && not (aborted H u) && ltb (start S H n t) (start S H n u) && (b && old r)) (sym e))
        | inr e ↦ ap (λ (b : Bool). on S H n r.0.0 && not (aborted H r.0.0) && (b && is_after S H n t x r)) e ∙ and_false _ ∙ sym (and_false _)
            ∙ ap (λ (b : Bool). meets S H n t u && not (aborted H u) && ltb (start S H n t) (start S H n u) && (b && old r)) (sym e)
      ]

  late_found : find (read_by (is_after S H n t x) (reads S H n x)) (numbers (begun_count H)) ≡ find (is_late S H n t x) (txns H)
  unfolding txns
  late_found = find_alike _ _ late_read (numbers (begun_count H))

-- the least reader, in a walk back from the newest read
module _ (p : Txn × Txn → Bool) (count : ℕ) where
  pub least : List (Txn × Txn) → Option Txn
  least rs = txn_of (find (read_by p rs) (numbers count))

  -- reads that do not pass change nothing
  skipped : (rs seen : List (Txn × Txn)) → AllOf (λ r. p r ≡ false) rs → (u : ℕ) → read_by p (rs ++ seen) u ≡ read_by p seen u
  skipped [] seen h u = refl
  skipped (r ∷ rs) seen h u = ap (λ (b : Bool). eqb r.0.0 u && b || read_by p (rs ++ seen) u) h.0 ∙ ap (λ (b : Bool). b || read_by p (rs ++ seen) u) (and_false (eqb r.0.0 u)) ∙ skipped rs seen h.1 u

  least_skip : (rs seen : List (Txn × Txn)) → AllOf (λ r. p r ≡ false) rs → least (rs ++ seen) ≡ least seen
  unfolding least
  least_skip rs seen h = ap txn_of (find_alike _ _ (skipped rs seen h) (numbers count))

  alone : (r : Txn × Txn) → p r ≡ true → 0 < r.0.0 → r.0.0 ≤ count → find (λ u. eqb r.0.0 u && p r) (numbers count) ≡ Some r.0.0
  alone r h pos le = numbers_find (λ u. eqb r.0.0 u && p r) count r.0.0 pos le (λ j. eq-eqb r.0.0 r.0.0 refl j && h j)
      (λ v a b. ap (λ (o : Bool). o && p r) (false_from_ne_true (eqb r.0.0 v) (λ e. let q = eqb-true r.0.0 v e in omega arith)))

  lesser_of : (o : Option ℕ) (t : Txn) → Some (lesser_txn (txn_of o) t) ≡ txn_of (lesser o (Some t.0))
  lesser_of None t = refl
  lesser_of (Some a) t = go (ltb a t.0) refl
    where
      go : (b : Bool) → ltb a t.0 ≡ b → Some (cond b (record { 0 = a }) t) ≡ txn_of (Some (min a t.0))
      go true h = let l = ltb-true a t.0 h in let e : a ≡ min a t.0 = omega arith in ap (λ (k : ℕ). txn_of (Some k)) e
      go false h = let l = ltb-false a t.0 h in let e : t.0 ≡ min a t.0 = omega arith in ap (λ (k : ℕ). txn_of (Some k)) e

  least_more : (r : Txn × Txn) (seen : List (Txn × Txn)) → p r ≡ true → 0 < r.0.0 → r.0.0 ≤ count → Some (lesser_txn (least seen) r.0) ≡ least (r ∷ seen)
  unfolding least
  least_more r seen h pos le =
      lesser_of (find (read_by p seen) (numbers count)) r.0
      ∙ ap (λ (o : Option ℕ). txn_of (lesser (find (read_by p seen) (numbers count)) o)) (sym (alone r h pos le))
      ∙ ap txn_of (sym (find_alike _ _ (λ u. or_swap (eqb r.0.0 u && p r) (read_by p seen u)) (numbers count) ∙ find_either (read_by p seen) (λ u. eqb r.0.0 u && p r) count))

  -- the reads of `rest` are still to be visited, and `found` is the least reader among the later ones
  pub record IsWalked (all rest : List (Txn × Txn)) (found : Option Txn) : Type 0 where
    pub seen : List (Txn × Txn)
    pub split : all ≡ rest ++ seen
    pub least : found ≡ least seen

  module _ (all : List (Txn × Txn)) where
    pub walk_none : IsWalked all all None
    unfolding least
    walk_none = record { seen = []; split = sym (append-nil all); least = ap txn_of (sym (nobody (numbers count))) }

    module _ (rest : List (Txn × Txn)) (r : Txn × Txn) (found : Option Txn) (w : IsWalked all (rest ++ r ∷ []) found) where
      pub walk_split : all ≡ rest ++ r ∷ w.seen
      walk_split = w.split ∙ append_assoc rest (r ∷ []) w.seen

      pub walk_skip : p r ≡ false → IsWalked all rest found
      walk_skip h = record { seen = r ∷ w.seen; split = walk_split; least = w.least ∙ sym (least_skip (r ∷ []) w.seen (h, tt)) }

      pub walk_more : p r ≡ true → 0 < r.0.0 → r.0.0 ≤ count → IsWalked all rest (Some (lesser_txn found r.0))
      walk_more h pos le = record { seen = r ∷ w.seen; split = walk_split; least = ap (λ (o : Option Txn). Some (lesser_txn o r.0)) w.least ∙ least_more r w.seen h pos le }

    -- if none of the remaining reads passes, the walk may stop
    pub walk_stop : (rest : List (Txn × Txn)) (found : Option Txn) → IsWalked all rest found → AllOf (λ r. p r ≡ false) rest → found ≡ least all
    walk_stop rest found w h = w.least ∙ sym (least_skip rest w.seen h) ∙ ap least (sym w.split)

pub least_late : (S : Setup) (H : List Event) (n t : ℕ) (x : Cell) → least (is_after S H n t x) (begun_count H) (reads S H n x) ≡ txn_of (find (is_late S H n t x) (txns H))
unfolding least
least_late S H n t x = ap txn_of (late_found S H n t x)
