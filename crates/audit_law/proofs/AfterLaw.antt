-- In a lawful history, no transaction commits before one that it read from.
use Rattle.std.proofs.Common.{◌≡◌, ℕ, ◌<◌, ◌==◌, Bool, true, false, not, ◌&&◌, ◌||◌, List, [], ◌∷◌, refl, ap, ◌∙◌, arith, eqb}
use Rattle.std.specs.Prelude.{ℤ}
use Rattle.std.specs.List.{list_any}
use Rattle.std.proofs.lemmas.Bool.{and_parts, not-true}
use Rattle.std.proofs.lemmas.Bool.Decides.{nat_tests}
use Rattle.teb_rules.specs.declared.names.naming.NameBook.{NameBook}
use Rattle.teb_rules.proofs.lemmas.names.Bools.{or_true}
use Rattle.teb_rules.specs.declared.history.Event.{Event}
use Rattle.teb_rules.specs.declared.history.Event.TheVariants as event
use Rattle.teb_rules.specs.history.Accesses.{is_from}
use Rattle.audit_check.specs.Items.{Item, RowKey}
use Rattle.audit_check.specs.Faults.{reads_from}
use Rattle.audit_check.specs.Standings.{committed}
use Rattle.audit_law.proofs.Bridge.{items, starts}

clash : (b : Bool) → b ≡ true → b ≡ false → ⊥
clash true e f = cc
clash false e f = cc

module _ (names : NameBook) (rows : List (RowKey × ℤ)) (Z : List Item) (t : ℕ) where
  got_early : (s u : ℕ) → ((eqb s t && eqb u u && not (eqb t u)) ≡ true → 0 < u → committed Z u ≡ true) → (s == t && not (u == t) && not (u == 0) && not (committed Z u)) ≡ false
  got_early s u h = go (s == t && not (u == t) && not (u == 0) && not (committed Z u)) refl
    where
      go : (b : Bool) → (s == t && not (u == t) && not (u == 0) && not (committed Z u)) ≡ b → b ≡ false
      go false e = refl
      go true e =
          let (front, late) = and_parts (s == t && not (u == t) && not (u == 0)) (not (committed Z u)) e in
          let (both, some) = and_parts (s == t && not (u == t)) (not (u == 0)) front in
          let (own, other) = and_parts (s == t) (not (u == t)) both in
          let reads : (eqb s t && eqb u u && not (eqb t u)) ≡ true = grind (arith, nat_tests, own, other) in
          let above : 0 < u = grind (arith, nat_tests, some) in
          absurd (clash (committed Z u) (h reads above) (not-true (committed Z u) late))

  pub none_early : (Q : List Event) → ((w : ℕ) → 0 < w → list_any (is_from t w) Q ≡ true → committed Z w ≡ true) → list_any (reads_from (λ u. not (committed Z u)) t) (items names rows Q) ≡ false
  none_early [] h = none rows
    where
      none : (s : List (RowKey × ℤ)) → list_any (reads_from (λ u. not (committed Z u)) t) (starts s) ≡ false
      none [] = refl
      none (r ∷ s) = none s
  none_early (event.Got s x u v ∷ Q) h =
      let here = got_early s.0 u.0 (λ reads above. h u.0 above (ap (λ b. b || list_any (is_from t u.0) Q) reads)) in
      rw (here, none_early Q (λ w above r. h w above (ap (λ b. is_from t w (event.Got s x u v) || b) r ∙ or_true (is_from t w (event.Got s x u v)))))
  none_early (event.Began s k q i ∷ Q) h = none_early Q h
  none_early (event.Put s x v ∷ Q) h = none_early Q h
  none_early (event.Ready s ∷ Q) h = none_early Q h
  none_early (event.Done s ∷ Q) h = none_early Q h
  none_early (event.Gone s c ∷ Q) h = none_early Q h
  none_early (event.Told s ∷ Q) h = none_early Q h
