-- If a test flags no event of a history, it flags no line of the history.
use Rattle.std.proofs.Common.{◌≡◌, Bool, false, List, [], ◌∷◌, None, refl}
use Rattle.std.specs.Prelude.{ℤ}
use Rattle.teb_rules.specs.declared.names.naming.NameBook.{NameBook}
use Rattle.teb_rules.specs.declared.history.Event.{Event}
use Rattle.audit_check.specs.Items.{Item, RowKey}
use Rattle.audit_check.specs.Items.Item.{Start}
use Rattle.audit_check.specs.Audit.{first_line}
use Rattle.audit_check.proofs.FirstLines.{first_more}
use Rattle.audit_law.specs.Printed.{event_item}
use Rattle.audit_law.proofs.Bridge.{items, starts}

-- P holds for each event and the history before it
abbrev pub Along : (List Event → Event → Type 0) → List Event → Type 0
Along P [] = Unit {0}
Along P (e ∷ H) = P H e × Along P H

module _ (names : NameBook) (rows : List (RowKey × ℤ)) (wrong : List Item → Item → Bool) (none : (past : List Item) (x : RowKey) (v : ℤ) → wrong past (Start x v) ≡ false) where
  starts_none : (s : List (RowKey × ℤ)) → first_line wrong (starts s) ≡ None
  unfolding first_line
  starts_none [] = refl
  starts_none (r ∷ s) = first_more wrong (starts s) (Start r.0 r.1) (starts_none s) (none (starts s) r.0 r.1)

  pub none_along : (H : List Event) → Along (λ P e. wrong (items names rows P) (event_item names e) ≡ false) H → first_line wrong (items names rows H) ≡ None
  none_along [] h = starts_none rows
  none_along (e ∷ P) h = first_more wrong (items names rows P) (event_item names e) (none_along P h.1) h.0
