-- The definition's search through the pairs of edges finds the least pivot, compared by its first transaction, then its second, and so on.
use Rattle.std.proofs.Common.{◌≡◌, ℕ, zero, suc, ◌<◌, ◌≤◌, Bool, true, false, cond, List, [], ◌∷◌, ◌++◌, ◌⊎◌, map}
use Rattle.std.proofs.Common.{filter, find, flat_map, Option, Some, None, refl, sym, ◌∙◌, ap, subst, arith, inl, inr}
use Rattle.std.proofs.lemmas.Bool.{cases_lt, both_ways, false_from_ne_true}
use Rattle.teb_rules.specs.declared.names.ControlKind.TheVariants.{Snapshot}
use Rattle.teb_rules.specs.declared.names.Txn.{Txn}
use Rattle.teb_rules.specs.declared.history.Event.{Event}
use Rattle.teb_rules.specs.history.Phases.{numbers, txns, begun, begun_count}
use Rattle.teb_rules.specs.Serializes.{In}
use Rattle.teb_rules.specs.Setup.{Setup}
use Rattle.teb_rules.specs.Tree.{row}
use Rattle.teb_rules.specs.Batches.{one_batch}
use Rattle.teb_rules.specs.Controls.{edge, edges, quads, at_stake, validate, pivot_break}
use Rattle.teb_rules.specs.declared.Broken.TheVariants.{Pivot}
use Rattle.teb_rules.proofs.lemmas.laws.Pivots.{Has, Has-map_from, find_has, edges_from, quads_from}
use Rattle.teb_rules.proofs.lemmas.laws.Serial.{numbers-In, filter-In}
use Rattle.phase_api.specs.FactsView.{IsOrderly}
use Rattle.snapshot_node.specs.Pivots.{is_at_stake, IsLeast, IsLeastEdge, Leads, IsPivot, IsFirst, IsMiddle, break_by}
use Rattle.snapshot_node.proofs.Batchmates.{edge_begun}

-- x is in a list, and N holds of all elements before it
abbrev First : {X : Type 0} → (X → Type 0) → List X → X → Type 0
First N [] x = ⊥
First N (y ∷ ys) x = (y ≡ x) ⊎ (N y × First N ys x)

first_left : {X : Type 0} (N : X → Type 0) (xs ys : List X) (x : X) → First N xs x → First N (xs ++ ys) x
first_left N [] ys x h = absurd h
first_left N (z ∷ zs) ys x h = elim h [ inl e ↦ inl e | inr r ↦ inr (r.0, first_left N zs ys x r.1) ]

first_right : {X : Type 0} (N : X → Type 0) (xs ys : List X) (x : X) → ((y : X) → Has xs y → N y) → First N ys x → First N (xs ++ ys) x
first_right N [] ys x all h = h
first_right N (z ∷ zs) ys x all h = inr (all z (inl refl), first_right N zs ys x (λ y i. all y (inr i)) h)

first_by : {X : Type 0} (N M : X → Type 0) (xs : List X) (x : X) → ((y : X) → Has xs y → N y → M y) → First N xs x → First M xs x
first_by N M [] x f h = h
first_by N M (z ∷ zs) x f h = elim h [ inl e ↦ inl e | inr r ↦ inr (f z (inl refl) r.0, first_by N M zs x (λ y i. f y (inr i)) r.1) ]

first_map : {X Y : Type 0} (f : X → Y) (N : Y → Type 0) (xs : List X) (x : X) → First (λ y. N (f y)) xs x → First N (map f xs) (f x)
first_map f N [] x h = h
first_map f N (z ∷ zs) x h = elim h [ inl e ↦ inl (ap f e) | inr r ↦ inr (r.0, first_map f N zs x r.1) ]

first_filter : {X : Type 0} (N : X → Type 0) (p : X → Bool) (xs : List X) (x : X) → p x ≡ true → First N xs x → First N (filter p xs) x
first_filter N p [] x t h = h
first_filter N p (z ∷ zs) x t h = go (p z) refl h (first_filter N p zs x t)
  where
    go : (b : Bool) → p z ≡ b → First N (z ∷ zs) x → (First N zs x → First N (filter p zs) x) → First N (cond b (z ∷ filter p zs) (filter p zs)) x
    go true e h ih = elim h [ inl q ↦ inl q | inr r ↦ inr (r.0, ih r.1) ]
    go false e h ih = elim h [ inl q ↦ absurd (both_ways (p x) (ap p (sym q) ∙ e) t) | inr r ↦ ih r.1 ]

-- pairs are ordered by their left parts, and those with the same left part by their right parts
first_pairs : {X Y : Type 0} (h : X → List Y) (N : X → Type 0) (M : X × Y → Type 0) (xs : List X) (x : X) (y : Y) → First N xs x → ((z : X) → Has xs z → N z → (w : Y) → Has (h z) w → M (z, w))
    → First (λ w. M (x, w)) (h x) y →
    First M (flat_map (λ z. map (λ w. (z, w)) (h z)) xs) (x, y)
first_pairs h N M [] x y f g k = f
first_pairs h N M (z ∷ zs) x y f g k = elim f [
  | inl e ↦ first_left M (map (λ w. (z, w)) (h z)) _ (x, y) (subst (λ u. First M (map (λ w. (u, w)) (h u)) (x, y)) (sym e) (first_map (λ w. (x, w)) M (h x) y k))
  | inr r ↦ first_right M (map (λ w. (z, w)) (h z)) _ (x, y) (λ q i. let s = Has-map_from (λ w. (z, w)) (h z) q i in subst M s.2 (g z (inl refl) r.0 s.0 s.1))
      (first_pairs h N M zs x y r.1 (λ u i. g u (inr i)) k)
]

first_found : {X : Type 0} (p : X → Bool) (xs : List X) (x : X) → p x ≡ true → First (λ y. p y ≡ false) xs x → find p xs ≡ Some x
first_found p [] x t h = absurd h
first_found p (z ∷ zs) x t h = elim h [
  | inl e ↦ rw (ap p e ∙ t) (ap (λ y. Some y) e)
  | inr r ↦ rw r.0 (first_found p zs x t r.1)
]

has_in : (us : List ℕ) (u : ℕ) → Has us u → In u us
has_in [] u h = h
has_in (v ∷ vs) u h = elim h [ inl e ↦ inl e | inr j ↦ inr (has_in vs u j) ]

first_number : (n u : ℕ) → 0 < u → u ≤ n → First (λ y. y < u) (numbers n) u
unfolding numbers
first_number zero u a b = absurd (omega arith)
first_number (suc n) u a b = elim (cases_lt n u) [
  | inl l ↦ first_right (λ y. y < u) (numbers n) (suc n ∷ []) u (λ y i. let z = numbers-In n y (has_in (numbers n) y i) in omega arith) (inl (let e : suc n ≡ u = omega arith in e))
  | inr l ↦ first_left (λ y. y < u) (numbers n) (suc n ∷ []) u (first_number n u a l)
]

module _ (S : Setup) (H : List Event) (n t : ℕ) where
  abbrev through : (ℕ × ℕ) × (ℕ × ℕ) → Bool
  through q = one_batch S H n q.0.1 q.1.0

  leads_in : (e : ℕ × ℕ) → Has (edges S H n (at_stake H t)) e → Leads S H n t e.0 e.1
  unfolding at_stake
  leads_in e h =
      let f = edges_from S H n (at_stake H t) e h in
      let at = λ (u : ℕ) (i : In u (at_stake H t)). (filter-In (is_at_stake H t) u (txns H) i).1 in
      record { from = at e.0 f.0; to = at e.1 f.1; edge = f.2 }

  -- the quadruples that the definition goes through
  quad_pivot : (q : (ℕ × ℕ) × (ℕ × ℕ)) → Has (quads (edges S H n (at_stake H t))) q → through q ≡ true → IsPivot S H n t q.0.0 q.0.1 q.1.0 q.1.1
  quad_pivot q h e = let f = quads_from (edges S H n (at_stake H t)) q h in record { into = leads_in q.0 f.0; out = record { batch = e; out = leads_in q.1 f.1 } }

  search_none : ((a b c d : ℕ) → IsPivot S H n t a b c d → ⊥) → find through (quads (edges S H n (at_stake H t))) ≡ None
  search_none never = go (find through (quads (edges S H n (at_stake H t)))) refl
    where
      go : (o : Option ((ℕ × ℕ) × (ℕ × ℕ))) → find through (quads (edges S H n (at_stake H t))) ≡ o → o ≡ None
      go None e = refl
      go (Some q) e = let f = find_has through (quads (edges S H n (at_stake H t))) q e in absurd (never q.0.0 q.0.1 q.1.0 q.1.1 (quad_pivot q f.0 f.1))

  pub none_said : (row S.tree n).control ≡ Snapshot → ((a b c d : ℕ) → IsPivot S H n t a b c d → ⊥) → break_by None ≡ validate (row S.tree n).control S H n t
  unfolding validate
  none_said k never = rw k (sym (ap pivot_break (search_none never)))

  module _ (o : IsOrderly S H) where
    first_stake : (u : ℕ) → begun H u ≡ true → is_at_stake H t u ≡ true → First (λ y. y < u) (at_stake H t) u
    unfolding at_stake txns
    first_stake u b h = first_filter (λ y. y < u) (is_at_stake H t) (txns H) u h (let z = o.numbered u b in first_number (begun_count H) u z.0 z.1)

    -- an edge from a lesser transaction, or from the same one to a lesser one
    abbrev Before : ℕ → ℕ → ℕ × ℕ → Type 0
    Before a b f = (f.0 < a) ⊎ ((f.0 ≡ a) × (f.1 < b))

    first_edge : (a b : ℕ) → Leads S H n t a b → First (Before a b) (edges S H n (at_stake H t)) (a, b)
    unfolding edges
    first_edge a b e =
        let begun = edge_begun S H n a b o e.edge in
        first_pairs (λ z. filter (edge S H n z) (at_stake H t)) (λ y. y < a) (Before a b) (at_stake H t) a b (first_stake a begun.0 e.from) (λ z i l w j. inl l)
        (first_by (λ y. y < b) (λ w. Before a b (a, w)) (filter (edge S H n a) (at_stake H t)) b (λ w i l. inr (refl, l))
        (first_filter (λ y. y < b) (edge S H n a) (at_stake H t) b e.edge (first_stake b begun.1 e.to)))

    module _ (a b c d : Txn) (first : IsLeast (IsFirst S H n t) (Some a)) (second : IsLeast (IsMiddle S H n t a.0) (Some b)) (out : IsLeastEdge S H n t b.0 (Some (c, d))) where
      -- no earlier pair of edges is a pivot
      no_lesser : (e f : ℕ × ℕ) → Before a.0 b.0 e → Leads S H n t e.0 e.1 → Leads S H n t f.0 f.1 → one_batch S H n e.1 f.0 ≡ true → ⊥
      no_lesser e f r x y m = elim r [
        | inl l ↦ (let z = first.1 e.0 (record { second = e.1; third = f.0; fourth = f.1; pivot = record { into = x; out = record { batch = m; out = y } } }) in omega arith)
        | inr q ↦ (let z = second.1 e.1 (record { into = subst (λ (u : ℕ). Leads S H n t u e.1) q.0 x; left = record { from = f.0; to = f.1; out = record { batch = m; out = y } } }) in let l = q.1 in
            omega arith)
      ]

      no_lesser_out : (f : ℕ × ℕ) → Before c.0 d.0 f → Leads S H n t f.0 f.1 → one_batch S H n b.0 f.0 ≡ true → ⊥
      no_lesser_out f r y m = elim r [
        | inl l ↦ (let z = out.1 f.0 f.1 (record { batch = m; out = y }) in omega arith)
        | inr q ↦ (let z = out.2 f.1 (subst (λ (u : ℕ). Leads S H n t u f.1) q.0 y) in let l = q.1 in omega arith)
      ]

      found : find through (quads (edges S H n (at_stake H t))) ≡ Some ((a.0, b.0), (c.0, d.0))
      found =
          let E = edges S H n (at_stake H t) in
          first_found through (quads E) ((a.0, b.0), (c.0, d.0)) out.0.batch
          (first_pairs (λ e. E) (Before a.0 b.0) (λ q. through q ≡ false) E (a.0, b.0) (c.0, d.0) (first_edge a.0 b.0 second.0.into)
          (λ e i r f j. false_from_ne_true _ (no_lesser e f r (leads_in e i) (leads_in f j)))
          (first_by (Before c.0 d.0) (λ f. one_batch S H n b.0 f.0 ≡ false) E (c.0, d.0) (λ f i r. false_from_ne_true _ (no_lesser_out f r (leads_in f i))) (first_edge c.0 d.0 out.0.out)))

      pub pivot_said : (row S.tree n).control ≡ Snapshot → break_by (Some (Pivot a b c d)) ≡ validate (row S.tree n).control S H n t
      unfolding validate
      pivot_said k = rw k (sym (ap pivot_break found))
