-- The serial order lists each committed transaction once and no other transaction.
use Rattle.std.proofs.Common.{◌≡◌, ◌≢◌, ℕ, ◌==◌, true, false, not, ◌&&◌, List, [], ◌∷◌, refl, sym, ◌∙◌, inl, inr}
use Rattle.std.specs.Prelude.{ℤ}
use Rattle.std.specs.List.{list_all}
use Rattle.std.proofs.lemmas.Bool.{and_from, eq-eqb, ne_eqb, or_from, or_left, or_right, not_from_false, not_from_true}
use Rattle.teb_rules.specs.declared.names.naming.NameBook.{NameBook}
use Rattle.teb_rules.specs.declared.history.Event.{Event}
use Rattle.teb_rules.specs.history.Phases as history
use Rattle.teb_rules.specs.Serializes.{In, Pairs, Serializes}
use Rattle.teb_rules.specs.Setup.{Store}
use Rattle.teb_rules.proofs.lemmas.laws.ReadRule.{list_all_from}
use Rattle.audit_check.specs.Items.{Item, RowKey}
use Rattle.audit_check.specs.Items.Item.{Start, Began, Got, Put, Ready, Done, Gone, Told, Order, Row, End}
use Rattle.audit_check.specs.Faults.{is_among, are_distinct, are_distinct_and, wrong_order}
use Rattle.audit_check.specs.Standings.{committed, commits}
use Rattle.audit_law.proofs.Bridge.{items, committed_items}
use Rattle.audit_law.proofs.Behind.{with_report, committed_reported}

among_in : (ts : List ℕ) (t : ℕ) → In t ts → is_among ts t ≡ true
among_in [] t h = absurd h
among_in (s ∷ ss) t (inl same) = or_left (s == t) (is_among ss t) (eq-eqb s t same)
among_in (s ∷ ss) t (inr later) = or_right (s == t) (is_among ss t) (among_in ss t later)

not_among : (ts : List ℕ) (t : ℕ) → ((u : ℕ) → In u ts → t ≢ u) → is_among ts t ≡ false
not_among [] t h = refl
not_among (s ∷ ss) t h = or_from (s == t) (is_among ss t) (ne_eqb s t (λ e. h s (inl refl) (sym e))) (not_among ss t (λ u i. h u (inr i)))

distinct_pairs : (ts : List ℕ) → Pairs (λ t u. t ≢ u) ts → are_distinct ts ≡ true
distinct_pairs [] h = refl
distinct_pairs (t ∷ ts) h = and_from (not (is_among ts t)) (are_distinct ts) (not_from_false (is_among ts t) (not_among ts t h.0)) (distinct_pairs ts h.1)

-- a transaction in `commits` is committed
commits_in : (Q : List Item) (t : ℕ) → In t (commits Q) → committed Q t ≡ true
unfolding commits committed
commits_in [] t h = absurd h
commits_in (Done u ∷ Q) t (inl same) = or_left (u == t) (committed Q t) (eq-eqb u t same)
commits_in (Done u ∷ Q) t (inr later) = or_right (u == t) (committed Q t) (commits_in Q t later)
commits_in (Start x v ∷ Q) t h = commits_in Q t h
commits_in (Began u ∷ Q) t h = commits_in Q t h
commits_in (Got u x w v ∷ Q) t h = commits_in Q t h
commits_in (Put u x v ∷ Q) t h = commits_in Q t h
commits_in (Ready u ∷ Q) t h = commits_in Q t h
commits_in (Gone u ∷ Q) t h = commits_in Q t h
commits_in (Told u ∷ Q) t h = commits_in Q t h
commits_in (Order us ∷ Q) t h = commits_in Q t h
commits_in (Row x v ∷ Q) t h = commits_in Q t h
commits_in (End ∷ Q) t h = commits_in Q t h

module _ (names : NameBook) (starting rows : List (RowKey × ℤ)) (X : Store) (H : List Event) (order : List ℕ) (s : Serializes X H order) where
  abbrev W : List Item
  W = with_report rows order (items names starting H)

  has_committed : (t : ℕ) → committed W t ≡ history.committed H t
  has_committed t = committed_reported order (items names starting H) rows t ∙ committed_items names starting H t

  listed_committed : (t : ℕ) → In t order → committed W t ≡ true
  listed_committed t i = has_committed t ∙ (s.each t).0 i

  committed_listed : (t : ℕ) → In t (commits W) → is_among order t ≡ true
  committed_listed t i = among_in order t ((s.each t).1 (sym (has_committed t) ∙ commits_in W t i))

  pub order_right : (past : List Item) → wrong_order W past (Order order) ≡ false
  order_right past = not_from_true (are_distinct_and (committed W) order && list_all (is_among order) (commits W))
      (and_from (are_distinct_and (committed W) order) (list_all (is_among order) (commits W))
      (and_from (are_distinct order) (list_all (committed W) order) (distinct_pairs order s.once) (list_all_from (committed W) order listed_committed))
      (list_all_from (is_among order) (commits W) committed_listed))
