-- Whether a transaction is unfinished, told by the live ones.
use Rattle.std.proofs.Common.{◌≡◌, ℕ, Bool, true, false, true≢false, List, [], ◌∷◌, sym, subst, inl, inr, eqb, eqb-true}
use Rattle.std.specs.List.{list_any}
use Rattle.std.proofs.lemmas.Bool.{both_ways, or_cases, or_left, or_parts}
use Rattle.teb_rules.specs.declared.names.Txn.{Txn}
use Rattle.teb_rules.specs.declared.history.Event.{Event}
use Rattle.teb_rules.specs.history.Live.{live_txns}
use Rattle.teb_rules.specs.history.Phases.{unfinished, untold}
use Rattle.teb_rules.proofs.lemmas.history.Mentioned.{has}
use Rattle.teb_rules.proofs.lemmas.history.FirstLive.{live_listed}
use Rattle.tree_switch.specs.Refusals.{AllFinished}
use Rattle.shared_store.specs.Served.{HasUnfinished}

-- whether a transaction of a list is unfinished
abbrev pub any_unfinished : List Event → List Txn → Bool
any_unfinished H ts = list_any (λ (t : Txn). unfinished H t.0) ts

pub some_unfinished : (H : List Event) (ts : List Txn) → any_unfinished H ts ≡ true → HasUnfinished H
some_unfinished H [] e = absurd (true≢false (sym e))
some_unfinished H (t ∷ ts) e = elim (or_cases (unfinished H t.0) (any_unfinished H ts) e) [
  | inl a ↦ record { txn = t.0; is = a }
  | inr b ↦ some_unfinished H ts b
]

not_of_them : (H : List Event) (ts : List Txn) (t : ℕ) → any_unfinished H ts ≡ false → has t ts ≡ true → unfinished H t ≡ true → ⊥
unfolding has
not_of_them H [] t n h u = true≢false (sym h)
not_of_them H (v ∷ vs) t n h u =
    let p = or_parts (unfinished H v.0) (any_unfinished H vs) n in
    elim (or_cases (eqb v.0 t) (list_any (λ (w : Txn). eqb w.0 t) vs) h) [
      | inl a ↦ both_ways (unfinished H v.0) p.0 (subst (λ (m : ℕ). unfinished H m ≡ true) (sym (eqb-true v.0 t a)) u)
      | inr b ↦ not_of_them H vs t p.1 b u
    ]

-- if no live transaction is unfinished, none is
pub all_finished : (H : List Event) → any_unfinished H (live_txns H) ≡ false → AllFinished H
all_finished H n t u = not_of_them H (live_txns H) t n (live_listed H (record { 0 = t }) (or_left (unfinished H t) (untold H t) u)) u
