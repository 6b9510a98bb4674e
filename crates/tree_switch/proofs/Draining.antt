-- A history is drained if and only if no transaction is live.
use Rattle.std.proofs.Common.{◌≡◌, ◌==◌, ℕ, Bool, true, false, List, [], ◌∷◌, length, Option, Some, None, refl, sym, ◌∙◌, ap, inl, inr, arith, eq-eqb, eqb}
use Rattle.std.specs.Prelude.{◌↔◌, IsTrue}
use Rattle.std.proofs.lemmas.Bool.{both_ways, and_from, or_left, or_right}
use Rattle.std.proofs.lemmas.Bool.Decides.{nat_tests}
use Rattle.teb_rules.specs.declared.names.Txn.{Txn}
use Rattle.teb_rules.specs.declared.history.Event.{Event}
use Rattle.teb_rules.specs.history.Phases.{held, session_of, unfinished, untold}
use Rattle.teb_rules.specs.history.Live.{is_live, live_txns}
use Rattle.teb_rules.proofs.lemmas.history.Mentioned.{has}
use Rattle.teb_rules.proofs.lemmas.history.FirstLive.{live_listed, listed_live}
use Rattle.teb_rules.specs.Setup.{Setup}
use Rattle.teb_rules.specs.laws.Lawful.{Lawful}
use Rattle.teb_rules.proofs.lemmas.laws.Holding.{Holds, held_holds, holds_cases, none_holds}
use Rattle.teb_rules.proofs.lemmas.laws.Reachable.{untold_gone}
use Rattle.teb_rules.specs.Epochs.{IsDrained}

has_none : (n : ℕ) → has n [] ≡ false
unfolding has
has_none n = refl

has_first : (t : Txn) (ts : List Txn) → has t.0 (t ∷ ts) ≡ true
unfolding has
has_first t ts = or_left (eqb t.0 t.0) (has t.0 ts) (eq-eqb t.0 t.0 refl)

module _ (S : Setup) (H : List Event) (l : Lawful S H) where
  none_live : live_txns H ≡ [] → (t : ℕ) → is_live H t ≡ true → ⊥
  none_live e t h = both_ways _ (has_none t) (sym (ap (has t) e) ∙ live_listed H (record { 0 = t }) h)

  drained_if : live_txns H ≡ [] → IsDrained H
  drained_if e = record {
    finished = λ t u. none_live e t (or_left (unfinished H t) (untold H t) u);
    told = λ s u. elim (holds_cases H s u.txn (held_holds H s u.txn u.holds)) [
      | inl a ↦ none_live e u.txn (or_left (unfinished H u.txn) (untold H u.txn) a)
      | inr b ↦ none_live e u.txn (or_right (unfinished H u.txn) (untold H u.txn) b)
    ];
  }

  untold_by : IsDrained H → (t s : ℕ) (o : Option ℕ) → held H s ≡ o → Holds H s t ≡ true → ⊥
  untold_by d t s None e h = both_ways _ (none_holds S H s l e t) h
  untold_by d t s (Some v) e h = elim (holds_cases H s v (held_holds H s v e)) [
    | inl a ↦ d.finished v a
    | inr b ↦ d.told s (record { txn = v; holds = e; gone = untold_gone H v b })
  ]

  not_drained : (t : Txn) (ts : List Txn) → live_txns H ≡ t ∷ ts → IsDrained H → ⊥
  not_drained t ts e d =
      let live : is_live H t.0 ≡ true = listed_live H t (ap (has t.0) e ∙ has_first t ts) in
      untold_by d t.0 (session_of H t.0) (held H (session_of H t.0)) refl (and_from (eqb (session_of H t.0) (session_of H t.0)) (is_live H t.0) (eq-eqb _ _ refl) live)

  pub drained_is : (b : Bool) → b ≡ (length (live_txns H) == 0) → IsTrue b ↔ IsDrained H
  drained_is b is = (λ yes. only_if (live_txns H) refl (sym is ∙ yes), λ d. is ∙ if_drained (live_txns H) refl d)
    where
      only_if : (ts : List Txn) → live_txns H ≡ ts → length (live_txns H) == 0 ≡ true → IsDrained H
      only_if [] e q = drained_if e
      only_if (t ∷ ts) e q = absurd (let n : length (t ∷ ts) ≡ 0 = (let p : length (live_txns H) ≡ 0 = grind (arith, nat_tests) in sym (ap length e) ∙ p) in omega arith)

      if_drained : (ts : List Txn) → live_txns H ≡ ts → IsDrained H → length (live_txns H) == 0 ≡ true
      if_drained [] e d = ap (λ (us : List Txn). length us == 0) e
      if_drained (t ∷ ts) e d = absurd (not_drained t ts e d)
