-- A transaction of the order reads what the table holds at its turn.
use Rattle.std.proofs.Common.{◌≡◌, ℕ, ◌==◌, true, false, ◌&&◌, ◌||◌, List, [], ◌∷◌, Option, Some, None, refl, ap, sym, subst, ◌∙◌, inl, inr}
use Rattle.std.specs.Prelude.{ℤ}
use Rattle.std.specs.List.{All, IsDistinct}
use Rattle.std.specs.Ordering.{int_eq}
use Rattle.std.specs.Str.{bytes_eq}
use Rattle.std.proofs.lemmas.Bool.{cases_Bool, eqb-true, eq-eqb, and_left, and_right, not_from_true}
use Rattle.std.proofs.lemmas.Cmp.{int_eq_equiv}
use Rattle.std.proofs.lemmas.List.Elements.{All-head, All-tail}
use Rattle.teb_rules.specs.declared.names.Cell.{Cell}
use Rattle.teb_rules.specs.declared.names.naming.NameBook.{NameBook}
use Rattle.teb_rules.specs.declared.history.Event.{Event}
use Rattle.teb_rules.specs.declared.history.Event.TheVariants as event
use Rattle.teb_rules.specs.Replay as rule
use Rattle.script_text.specs.Named.{CellNamed}
use Rattle.audit_check.specs.Items.{Item, RowKey}
use Rattle.audit_check.specs.Faults.{is_among, is_misread, same_value, wrong_read}
use Rattle.audit_check.specs.Tables.{after_puts, before, table_before, order_in}
use Rattle.audit_law.specs.Printed.{EventFits, row_key_of, event_item}
use Rattle.audit_law.proofs.Agreement.{Agree, puts_agree}
use Rattle.audit_law.proofs.Bridge.{items}
use Rattle.audit_law.proofs.Suffixes.{Along}

same_int : (n : ℤ) → int_eq n n ≡ true
same_int n = int_eq_equiv.refl n

pub itself : (v : Option ℤ) → same_value v v ≡ true
itself None = refl
itself (Some n) = same_int n

-- if the order replays right, the reads of each of its transactions are right from the table before it
pub reads_of : (H : List Event) (order : List ℕ) (T : rule.Values) (t : ℕ) → rule.ReplaysRight H order T → is_among order t ≡ true → rule.GotsRight H t (rule.table_after H (before t order) T)
unfolding rule.ReplaysRight rule.table_after before
reads_of H [] T t right among = absurd (cc)
reads_of H (s ∷ ss) T t right among = elim (cases_Bool (s == t)) [
  | inl here ↦
      let same : s ≡ t = eqb-true s t here in
      rw here (subst (λ n. rule.GotsRight H n T) same right.0)
  | inr other ↦
      let later : is_among ss t ≡ true = ap (λ b. b || is_among ss t) (sym other) ∙ among in
      rw other (reads_of H ss (rule.after_puts H s T) t right.1 later)
]

module _ (names : NameBook) (distinct : IsDistinct bytes_eq names.tables) (starting : List (RowKey × ℤ)) (W : List Item) (order : List ℕ) (is : order_in W ≡ order)
    (T : rule.Values) (H : List Event) (begins : (t : ℕ) → Agree names distinct (table_before W t) (rule.table_after H (before t order) T)) where
  abbrev Right : List Event → Type 0
  Right P = (t : ℕ) → is_among order t ≡ true → rule.GotsRight P t (rule.table_after H (before t order) T)

  got_right : (P : List Event) (t u : ℕ) (x : Cell) (v : Option ℤ) → All (EventFits names) P → CellNamed names x
      → (is_among order t ≡ true → v ≡ rule.after_puts P t (rule.table_after H (before t order) T) x)
      → (is_among (order_in W) t && is_misread (items names starting P) (table_before W t) t (row_key_of names x) v) ≡ false
  got_right P t u x v fit named reads = elim (cases_Bool (is_among order t)) [
    | inl listed ↦
        let held : after_puts (items names starting P) t (table_before W t) (row_key_of names x) ≡ v =
        (puts_agree names distinct starting P t (table_before W t) (rule.table_after H (before t order) T) fit (begins t)).each x named ∙ sym (reads listed) in
        and_right (is_among (order_in W) t) (is_misread (items names starting P) (table_before W t) t (row_key_of names x) v)
        (not_from_true (same_value (after_puts (items names starting P) t (table_before W t) (row_key_of names x)) v) (ap (λ w. same_value w v) held ∙ itself v))
    | inr other ↦ and_left (is_among (order_in W) t) (is_misread (items names starting P) (table_before W t) t (row_key_of names x) v) (ap (λ ts. is_among ts t) is ∙ other)
  ]

  pub reads_along : (P : List Event) → All (EventFits names) P → Right P → Along (λ Q e. wrong_read W (items names starting Q) (event_item names e) ≡ false) P
  unfolding rule.GotsRight
  reads_along [] fit right = tt
  reads_along (event.Got t x u v ∷ P) fit right =
      let more = All-tail (EventFits names) (event.Got t x u v) P fit in
      let here = All-head (EventFits names) (event.Got t x u v) P fit in
      (got_right P t.0 u.0 x v more here.1.0 (λ listed. (right t.0 listed).0 (eq-eqb t.0 t.0 refl)), reads_along P more (λ s listed. (right s listed).1))
  reads_along (event.Began t s k i ∷ P) fit right = (refl, reads_along P (All-tail (EventFits names) (event.Began t s k i) P fit) right)
  reads_along (event.Put t x v ∷ P) fit right = (refl, reads_along P (All-tail (EventFits names) (event.Put t x v) P fit) right)
  reads_along (event.Ready t ∷ P) fit right = (refl, reads_along P (All-tail (EventFits names) (event.Ready t) P fit) right)
  reads_along (event.Done t ∷ P) fit right = (refl, reads_along P (All-tail (EventFits names) (event.Done t) P fit) right)
  reads_along (event.Gone t c ∷ P) fit right = (refl, reads_along P (All-tail (EventFits names) (event.Gone t c) P fit) right)
  reads_along (event.Told t ∷ P) fit right = (refl, reads_along P (All-tail (EventFits names) (event.Told t) P fit) right)
