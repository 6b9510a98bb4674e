-- The items of a history say the same as the history.
use Rattle.std.proofs.Common.{◌≡◌, ℕ, suc, Bool, false, not, IsTrue, List, [], ◌∷◌, ◌++◌, map, None, refl, ap, sym, ◌∙◌, arith}
use Rattle.std.specs.Prelude.{ℤ}
use Rattle.std.specs.List.{list_any}
use Rattle.std.proofs.lemmas.Bool.Decides.{nat_tests}
use Rattle.teb_rules.specs.declared.names.naming.NameBook.{NameBook}
use Rattle.teb_rules.specs.declared.history.Event.{Event}
use Rattle.teb_rules.specs.declared.history.Event.TheVariants as event
use Rattle.teb_rules.specs.history.Phases as history
use Rattle.teb_rules.proofs.lemmas.history.Any.{came_any}
use Rattle.teb_rules.specs.Setup.{Setup}
use Rattle.teb_rules.specs.laws.Lawful.{Lawful, Granted}
use Rattle.audit_check.specs.Items.{Item, RowKey}
use Rattle.audit_check.specs.Items.Item.{Start}
use Rattle.audit_check.specs.Audit.{first_line}
use Rattle.audit_check.specs.Faults.{wrong_txn}
use Rattle.audit_law.specs.Printed.{event_item}
use Rattle.audit_check.specs.Standings.{is_began, is_done, is_gone, begun, committed, aborted, unfinished, begun_count}
use Rattle.audit_check.proofs.FirstLines.{first_more}

-- the items of the starting rows
abbrev pub starts : List (RowKey × ℤ) → List Item
starts rows = map (λ r. Start r.0 r.1) rows

module _ (names : NameBook) (rows : List (RowKey × ℤ)) where
  abbrev pub items : List Event → List Item
  items H = map (event_item names) H ++ starts rows

  any_items : (p : Item → Bool) (q : Event → Bool) → ((e : Event) → p (event_item names e) ≡ q e) → list_any p (starts rows) ≡ false → (H : List Event) → list_any p (items H) ≡ list_any q H
  any_items p q same none [] = none
  any_items p q same none (e ∷ H) = rw (same e, any_items p q same none H)

  same_began : (t : ℕ) (e : Event) → is_began t (event_item names e) ≡ history.is_began t e
  same_began t (event.Began u s k i) = refl
  same_began t (event.Got u x w v) = refl
  same_began t (event.Put u x v) = refl
  same_began t (event.Ready u) = refl
  same_began t (event.Done u) = refl
  same_began t (event.Gone u c) = refl
  same_began t (event.Told u) = refl

  same_done : (t : ℕ) (e : Event) → is_done t (event_item names e) ≡ history.is_done t e
  same_done t (event.Began u s k i) = refl
  same_done t (event.Got u x w v) = refl
  same_done t (event.Put u x v) = refl
  same_done t (event.Ready u) = refl
  same_done t (event.Done u) = refl
  same_done t (event.Gone u c) = refl
  same_done t (event.Told u) = refl

  same_gone : (t : ℕ) (e : Event) → is_gone t (event_item names e) ≡ history.is_gone t e
  same_gone t (event.Began u s k i) = refl
  same_gone t (event.Got u x w v) = refl
  same_gone t (event.Put u x v) = refl
  same_gone t (event.Ready u) = refl
  same_gone t (event.Done u) = refl
  same_gone t (event.Gone u c) = refl
  same_gone t (event.Told u) = refl

  pub begun_items : (H : List Event) (t : ℕ) → begun (items H) t ≡ history.begun H t
  unfolding begun history.begun history.began_at
  begun_items H t = any_items (is_began t) (history.is_began t) (same_began t) (none_began rows) H ∙ sym (came_any (history.is_began t) H)
    where
      none_began : (s : List (RowKey × ℤ)) → list_any (is_began t) (starts s) ≡ false
      none_began [] = refl
      none_began (r ∷ s) = none_began s

  pub committed_items : (H : List Event) (t : ℕ) → committed (items H) t ≡ history.committed H t
  unfolding committed history.committed history.done_at
  committed_items H t = any_items (is_done t) (history.is_done t) (same_done t) (none_done rows) H ∙ sym (came_any (history.is_done t) H)
    where
      none_done : (s : List (RowKey × ℤ)) → list_any (is_done t) (starts s) ≡ false
      none_done [] = refl
      none_done (r ∷ s) = none_done s

  pub aborted_items : (H : List Event) (t : ℕ) → aborted (items H) t ≡ history.aborted H t
  unfolding aborted history.aborted history.gone_at
  aborted_items H t = any_items (is_gone t) (history.is_gone t) (same_gone t) (none_gone rows) H ∙ sym (came_any (history.is_gone t) H)
    where
      none_gone : (s : List (RowKey × ℤ)) → list_any (is_gone t) (starts s) ≡ false
      none_gone [] = refl
      none_gone (r ∷ s) = none_gone s

  pub unfinished_items : (H : List Event) (t : ℕ) → unfinished (items H) t ≡ history.unfinished H t
  unfolding unfinished history.unfinished
  unfinished_items H t = rw (begun_items H t, committed_items H t, aborted_items H t)

  pub count_items : (H : List Event) → begun_count (items H) ≡ history.begun_count H
  unfolding begun_count history.begun_count
  count_items [] = none_count rows
    where
      none_count : (s : List (RowKey × ℤ)) → begun_count (starts s) ≡ 0
      none_count [] = refl
      none_count (r ∷ s) = none_count s
  count_items (event.Began u s k i ∷ H) = ap suc (count_items H)
  count_items (event.Got u x w v ∷ H) = count_items H
  count_items (event.Put u x v ∷ H) = count_items H
  count_items (event.Ready u ∷ H) = count_items H
  count_items (event.Done u ∷ H) = count_items H
  count_items (event.Gone u c ∷ H) = count_items H
  count_items (event.Told u ∷ H) = count_items H

  not_of : (b c : Bool) → b ≡ c → IsTrue c → not b ≡ false
  not_of b c e h = ap not (e ∙ h)

  -- a granted event is allowed for its transaction
  granted_right : (S : Setup) (P : List Event) (e : Event) → Granted S P e → wrong_txn (items P) (event_item names e) ≡ false
  granted_right S P (event.Began t s k i) g = let next = g.0 in let count = count_items P in grind (arith, nat_tests, next, count)
  granted_right S P (event.Got t x w v) g = not_of _ _ (unfinished_items P t.0) g.0.unfinished
  granted_right S P (event.Put t x v) g = not_of _ _ (unfinished_items P t.0) g.unfinished
  granted_right S P (event.Ready t) g = not_of _ _ (unfinished_items P t.0) g.unfinished
  granted_right S P (event.Done t) g = not_of _ _ (unfinished_items P t.0) g.unfinished
  granted_right S P (event.Gone t c) g = not_of _ _ (unfinished_items P t.0) g
  granted_right S P (event.Told t) g = not_of _ _ (aborted_items P t.0) g

  starts_right : (s : List (RowKey × ℤ)) → first_line wrong_txn (starts s) ≡ None
  unfolding first_line
  starts_right [] = refl
  starts_right (r ∷ s) = rw (starts_right s)

  -- every event of a lawful history is allowed for its transaction
  pub lawful_txns : (S : Setup) (H : List Event) → Lawful S H → first_line wrong_txn (items H) ≡ None
  unfolding Lawful
  lawful_txns S [] l = starts_right rows
  lawful_txns S (e ∷ P) l = first_more wrong_txn (items P) (event_item names e) (lawful_txns S P l.1) (granted_right S P e l.0)
