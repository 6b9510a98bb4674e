-- No transaction commits before one that it read from: at each commit, every transaction that was read from has committed.
use Rattle.std.proofs.Common.{◌≡◌, ℕ, suc, ◌<◌, ◌≤◌, true, false, cond, ltb, eqb, List, [], ◌∷◌, length, refl, ap, sym, ◌∙◌, arith, le_refl, lt-ltb}
use Rattle.std.specs.Prelude.{ℤ}
use Rattle.std.specs.List.{list_any}
use Rattle.std.proofs.lemmas.Bool.{cond_both, ltb-true, eq-eqb, or_left}
use Rattle.teb_rules.specs.declared.names.Txn.{Txn}
use Rattle.teb_rules.specs.declared.names.naming.NameBook.{NameBook}
use Rattle.teb_rules.specs.declared.history.Event.{Event}
use Rattle.teb_rules.specs.declared.history.Event.TheVariants as event
use Rattle.teb_rules.specs.history.Accesses.{is_from}
use Rattle.teb_rules.specs.history.Phases as history
use Rattle.teb_rules.specs.history.Positions.{first, first_event, newest, upto}
use Rattle.teb_rules.proofs.lemmas.history.Any.{came_any}
use Rattle.teb_rules.specs.Setup.{Setup}
use Rattle.teb_rules.specs.laws.Lawful.{Lawful}
use Rattle.teb_rules.specs.laws.TreeFacts.{TreeFacts}
use Rattle.teb_rules.proofs.lemmas.laws.Assembly.{read_recoverable}
use Rattle.teb_rules.proofs.lemmas.laws.Positions.{upto_all, upto_cons}
use Rattle.teb_rules.proofs.lemmas.laws.Serial.{commits_from}
use Rattle.teb_rules.proofs.lemmas.laws.Timeline.{committed-upto}
use Rattle.audit_check.specs.Items.{RowKey}
use Rattle.audit_check.specs.Faults.{wrong_after}
use Rattle.audit_law.specs.Printed.{event_item}
use Rattle.audit_law.proofs.AfterLaw.{none_early}
use Rattle.audit_law.proofs.Bridge.{items, committed_items}
use Rattle.audit_law.proofs.Suffixes.{Along}

module _ (S : Setup) (a : TreeFacts S) (t : Txn) (P : List Event) (l : Lawful S (event.Done t ∷ P)) where
  abbrev now : List Event
  now = event.Done t ∷ P

  newest_commits : history.committed now t.0 ≡ true
  unfolding history.committed history.done_at
  newest_commits = came_any (history.is_done t.0) now ∙ or_left (eqb t.0 t.0) (list_any (history.is_done t.0) P) (eq-eqb t.0 t.0 refl)

  done_last : history.done_at now t.0 ≤ length P
  unfolding history.done_at first_event first
  done_last =
      let i = first (newest (history.is_done t.0)) P in
      let met : eqb t.0 t.0 ≡ true = eq-eqb t.0 t.0 refl in
      cond_both (ltb i (length P)) i (cond (eqb t.0 t.0) (length P) (suc (length P))) (λ n. n ≤ length P) (λ e. omega (arith, ltb-true i (length P) e)) (λ e. rw met (le_refl (length P)))

  pub read_committed : (w : ℕ) → 0 < w → list_any (is_from t.0 w) P ≡ true → history.committed P w ≡ true
  read_committed w above reads =
      let sooner : history.done_at now w < history.done_at now t.0 = read_recoverable S a now t.0 w l (commits_from now t.0 newest_commits) above now (le_refl (length now))
      (upto_all (length now) now (le_refl (length now))) reads in
      let last = done_last in
      let before : history.done_at now w < length P = omega (arith, sooner, last) in
      ap (λ (H : List Event). history.committed H w) (sym front) ∙ committed-upto now (length P) w (omega arith) ∙ lt-ltb (history.done_at now w) (length P) before
    where
      front : upto (length P) now ≡ P
      front = upto_cons (length P) (event.Done t) P (le_refl (length P)) ∙ upto_all (length P) P (le_refl (length P))

module _ (names : NameBook) (rows : List (RowKey × ℤ)) (S : Setup) (a : TreeFacts S) where
  pub after_along : (H : List Event) → Lawful S H → Along (λ P e. wrong_after (items names rows P) (event_item names e) ≡ false) H
  unfolding Lawful
  after_along [] l = tt
  after_along (event.Done t ∷ P) l =
      (none_early names rows (items names rows P) t.0 P (λ w above reads. committed_items names rows P w ∙ read_committed S a t P l w above reads), after_along P l.1)
  after_along (event.Began t s k i ∷ P) l = (refl, after_along P l.1)
  after_along (event.Got t x u v ∷ P) l = (refl, after_along P l.1)
  after_along (event.Put t x v ∷ P) l = (refl, after_along P l.1)
  after_along (event.Ready t ∷ P) l = (refl, after_along P l.1)
  after_along (event.Gone t c ∷ P) l = (refl, after_along P l.1)
  after_along (event.Told t ∷ P) l = (refl, after_along P l.1)
