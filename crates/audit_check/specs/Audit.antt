-- The first line of a printed run that is wrong, and what it breaks.
use Rattle.std.specs.Prelude.{◌≡◌, ℕ, Bool, ◌+◌, if◌then◌else◌, List, [], ◌∷◌, length, Option, Some, None, Result, Ok, Err}
use Rattle.audit_check.specs.Items.{Item}
use Rattle.audit_check.specs.Lines.{items_of}
use Rattle.audit_check.specs.Faults.{wrong_txn, wrong_order, wrong_after, wrong_read, wrong_row}
use Rattle.audit_check.specs.declared.error.AuditWhy.{AuditWhy}
use Rattle.audit_check.specs.declared.error.AuditWhy.TheVariants as why

abbrev pub earlier : {A : Type 0} → Option A → Option A → Option A
earlier (Some n) o = Some n
earlier None o = o

-- the number of the first line that a test names
unfoldable pub first_line : (List Item → Item → Bool) → List Item → Option ℕ
first_line wrong [] = None
first_line wrong (i ∷ past) = earlier (first_line wrong past) (if wrong past i then Some (length past + 1) else None)

-- the line that is named, or else what the next test names
abbrev pub or_next : AuditWhy → Option ℕ → Option (ℕ × AuditWhy) → Option (ℕ × AuditWhy)
or_next w (Some n) next = Some (n, w)
or_next w None next = next

unfoldable pub fault_in : List Item → Option (ℕ × AuditWhy)
fault_in H =
    or_next why.Txn (first_line wrong_txn H)
    (or_next why.Order (first_line (wrong_order H) H)
    (or_next why.After (first_line wrong_after H)
    (or_next why.Read (first_line (wrong_read H) H)
    (or_next why.Row (first_line (wrong_row H) H) None))))

abbrev pub fault_of : Result (List Item) ℕ → Option (ℕ × AuditWhy)
fault_of (Err n) = Some (n, why.Form)
fault_of (Ok H) = fault_in H

-- the fault of a text
abbrev pub audit_of : List ℕ → Option (ℕ × AuditWhy)
audit_of text = fault_of (items_of text)

abbrev pub IsAudited : List ℕ → Type 0
IsAudited text = audit_of text ≡ None
