-- At each node, a Commit waits for the lowest-numbered of the transactions that the gate names and the unfinished sources that it meets there.
use Rattle.std.proofs.Common.{◌≡◌, ◌<◌, ℕ, zero, suc, Bool, true, false, cond, ◌&&◌, ◌||◌, eqb, ltb, min, List, length}
use Rattle.std.proofs.Common.{[], ◌∷◌, get_or, find, Option, Some, None, refl, sym, ◌∙◌, ap, inl, inr, arith, lt-ltb}
use Rattle.std.proofs.lemmas.Bool.{and_parts, cases_lt, ltb-true, le-ltb, eq-eqb, or_left, or_right}
use Rattle.teb_rules.specs.declared.names.Node.{Node}
use Rattle.teb_rules.specs.declared.names.Txn.{Txn}
use Rattle.teb_rules.proofs.lemmas.names.Bools.{and_true, and_false}
use Rattle.teb_rules.specs.declared.history.Event.{Event}
use Rattle.teb_rules.specs.history.Phases.{txns, begun_count, unfinished, spot_of, begun, began_at}
use Rattle.teb_rules.specs.history.Accesses.{read_from}
use Rattle.teb_rules.specs.Setup.{Setup, among}
use Rattle.teb_rules.specs.Tree.{meets, on, on_path, path}
use Rattle.teb_rules.specs.Verdicts.{wait_for, or_else}
use Rattle.teb_rules.specs.declared.Verdict.{Verdict}
use Rattle.teb_rules.specs.declared.Verdict.TheVariants.{Go, Wait, Break}
use Rattle.teb_rules.specs.Serializes.{In}
use Rattle.teb_rules.specs.laws.TreeFacts.{TreeFacts}
use Rattle.teb_rules.specs.laws.Lawful.{Lawful}
use Rattle.teb_rules.proofs.lemmas.laws.Timeline.{kind-lt}
use Rattle.teb_rules.proofs.lemmas.laws.Within.{path-below}
use Rattle.store_setup.specs.tree.Grown.{node_numbers}
use Rattle.phase_api.specs.declared.facts.Facts.{Facts}
use Rattle.phase_api.specs.Calls.{IsHere}
use Rattle.phase_api.specs.FactsView.{setup_of, events_of, IsTyped}
use Rattle.dependency_book.specs.Dependencies.{all_sources}
use Rattle.dependency_book.specs.Orderly.{Orderly}
use Rattle.dependency_book.proofs.OrderlyHistories.{unfinished_parts, known}
use Rattle.dependency_book.proofs.Sources.{has_source, sources_ascend, find_least, find_absent}
use Rattle.teb_rules.proofs.lemmas.history.LeastNumbers.{numbers_find, none_below, lesser, find_either}
use Rattle.commit_gate.specs.Ways.{IsWay, first_wait}

number : Option Txn → Option ℕ
number None = None
number (Some w) = Some w.0

-- the lower-numbered of two waits
waits_merge : (a : Option ℕ) (b : Option Txn) → first_wait (wait_for a) b ≡ wait_for (lesser a (number b))
unfolding number
waits_merge None None = refl
waits_merge None (Some w) = refl
waits_merge (Some a) None = refl
waits_merge (Some a) (Some w) = elim (cases_lt a w.0) [
  | inl lt ↦ ap (λ (o : Bool). Wait (cond o (record { 0 = a }) w)) (lt-ltb a w.0 lt) ∙ ap (λ (k : ℕ). Wait (record { 0 = k })) (let e : a ≡ min a w.0 = omega arith in e)
  | inr ge ↦ ap (λ (o : Bool). Wait (cond o (record { 0 = a }) w)) (le-ltb a w.0 ge) ∙ ap (λ (k : ℕ). Wait (record { 0 = k })) (let e : w.0 ≡ min a w.0 = omega arith in e)
]

-- a verdict other than Go decides
pub stopped : (v w : Verdict) → (v ≡ Go → ⊥) → v ≡ or_else v w
stopped Go w h = absurd (h refl)
stopped (Wait u) w h = refl
stopped (Break b) w h = refl

module _ (S : Setup) (H : List Event) (n : ℕ) (t : Txn) (orderly : Orderly H) where
  abbrev Waits : ℕ → Bool
  Waits u = unfinished H u && meets S H n t.0 u && read_from H t.0 u

  abbrev Meets : ℕ → Bool
  Meets u = unfinished H u && meets S H n t.0 u

  unmet : (v : ℕ) → (read_from H t.0 v ≡ true → (unfinished H v && meets S H n t.0 v) ≡ false) → (unfinished H v && meets S H n t.0 v && read_from H t.0 v) ≡ false
  unmet v f = go (read_from H t.0 v) f
    where
      go : (r : Bool) → (r ≡ true → (unfinished H v && meets S H n t.0 v) ≡ false) → (unfinished H v && meets S H n t.0 v && r) ≡ false
      go true f = and_true (unfinished H v && meets S H n t.0 v) ∙ f refl
      go false f = and_false (unfinished H v && meets S H n t.0 v)

  source_find : (o : Option Txn) → find (λ w. unfinished H w.0 && meets S H n t.0 w.0) (all_sources H t) ≡ o → find (λ u. unfinished H u && meets S H n t.0 u && read_from H t.0 u) (txns H) ≡ number o
  unfolding number txns
  source_find (Some w) h =
      let least = find_least Meets (all_sources H t) w (sources_ascend H t) h in
      let read = and_parts (ltb 0 w.0) (read_from H t.0 w.0) (sym (has_source H t w) ∙ least.there) in
      let un = (and_parts (unfinished H w.0) (meets S H n t.0 w.0) least.passes).0 in
      numbers_find Waits (begun_count H) w.0 (ltb-true 0 w.0 read.0) ((known H w.0 orderly).begins (unfinished_parts H w.0 un).0) ((λ j. least.passes j && read.1 j))
      (λ v p lt. unmet v (λ r. least.lower (record { 0 = v }) lt (has_source H t (record { 0 = v }) ∙ (λ j. lt-ltb 0 v p j && r j))))
  source_find None h = none_below Waits (suc (begun_count H)) (begun_count H) (omega arith)
      (λ v p lt. unmet v (λ r. find_absent Meets (all_sources H t) h (record { 0 = v }) (has_source H t (record { 0 = v }) ∙ (λ j. lt-ltb 0 v p j && r j))))

  pub commit_waits : (sources : List Txn) → sources ≡ all_sources H t → (g : ℕ → Bool)
      → first_wait (wait_for (find g (txns H))) (find (λ w. unfinished H w.0 && meets S H n t.0 w.0) sources) ≡ wait_for
      (find (λ u. g u || (unfinished H u && meets S H n t.0 u && read_from H t.0 u)) (txns H))
  unfolding txns
  commit_waits sources listed g =
      let found = source_find (find (λ w. unfinished H w.0 && meets S H n t.0 w.0) (all_sources H t)) refl in
      ap (λ (ts : List Txn). first_wait (wait_for (find g (txns H))) (find (λ w. unfinished H w.0 && meets S H n t.0 w.0) ts)) listed
      ∙ waits_merge (find g (txns H)) (find (λ w. unfinished H w.0 && meets S H n t.0 w.0) (all_sources H t))
      ∙ ap (λ (o : Option ℕ). wait_for (lesser (find g (txns H)) o)) (sym found)
      ∙ ap wait_for (sym (find_either g Waits (begun_count H)))

-- the path of t is a way: its nodes are nodes of the tree and on t's path
In-among : (n : ℕ) (xs : List ℕ) → In n xs → among n xs ≡ true
In-among n [] i = absurd i
In-among n (x ∷ xs) i = elim i [ inl e ↦ or_left (eqb x n) (among n xs) (eq-eqb x n e) | inr j ↦ or_right (eqb x n) (among n xs) (In-among n xs j) ]

way_within : (f : Facts) → TreeFacts (setup_of f) → (t : ℕ) → IsTyped f t → (ns : List ℕ) → ((n : ℕ) → In n ns → In n (path (setup_of f).tree (spot_of (events_of f) t))) → IsWay f t ns
unfolding on on_path
way_within f a t y [] h = tt
way_within f a t y (n ∷ ns) h = (
  path-below (setup_of f) a (spot_of (events_of f) t) n (h n (inl refl)),
  record { typed = y; on = In-among n (path (setup_of f).tree (spot_of (events_of f) t)) (h n (inl refl)) },
  way_within f a t y ns (λ m i. h m (inr i)),
)

-- an unfinished transaction has a type of the setup
pub typed_now : (f : Facts) (t : ℕ) → Lawful (setup_of f) (events_of f) → unfinished (events_of f) t ≡ true → IsTyped f t
unfolding begun
typed_now f t l u =
    let b = (unfinished_parts (events_of f) t u).0 in
    record { begun = b; kind = kind-lt (setup_of f) (events_of f) t l (ltb-true (began_at (events_of f) t) (length (events_of f)) b) }

pub path_way : (f : Facts) → TreeFacts (setup_of f) → (t : ℕ) → IsTyped f t → IsWay f t (path (setup_of f).tree (spot_of (events_of f) t))
path_way f a t y = way_within f a t y (path (setup_of f).tree (spot_of (events_of f) t)) (λ n i. i)

-- each node of a way is a node of the tree and on t's path
pub way_at : (f : Facts) (t : ℕ) (ns : List Node) (k : ℕ) (d : Node) → IsWay f t (node_numbers ns) → k < length ns → ((get_or ns k d).0 < length f.tree.now.rows) × IsHere f (get_or ns k d).0 t
way_at f t [] k d w h = absurd (omega arith)
way_at f t (n ∷ ns) zero d w h = (w.0, w.1)
way_at f t (n ∷ ns) (suc k) d w h = way_at f t ns k d w.2 (omega arith)
