-- A table of values, as it changes at one row key.
use Rattle.std.proofs.Common.{◌≡◌, Bool, true, false, List, [], ◌∷◌, Option, Some, refl, sym, subst}
use Rattle.std.specs.Prelude.{ℤ}
use Rattle.audit_check.specs.Items.{Item, RowKey}
use Rattle.audit_check.specs.Items.Item.{Start, Began, Got, Put, Ready, Done, Gone, Told, Order, Row, End}
use Rattle.audit_check.specs.Tables.{Values, put_at, starts_in}
use Rattle.audit_check.specs.Keeps.{HoldsTable}
use Rattle.audit_check.specs.Views.{line_view}
use Rattle.audit_check.specs.declared.line.RowKey.{RowKey as Key}
use Rattle.audit_check.specs.declared.line.Line.{Line}
use Rattle.audit_check.specs.declared.line.Line.TheVariants as line

pub none_held : (entries : List (Key × Option ℤ)) → entries ≡ [] → HoldsTable entries (starts_in [])
unfolding starts_in
none_held entries is = rw is (record { each = λ q. refl })

abbrev pub is_start_line : Item → Bool
is_start_line (Start x v) = true
is_start_line _ = false

starts_same : (i : Item) (past : List Item) → is_start_line i ≡ false → starts_in (i ∷ past) ≡ starts_in past
unfolding starts_in
starts_same (Start x v) past h = absurd (cc)
starts_same (Began t) past h = refl
starts_same (Got t x u v) past h = refl
starts_same (Put t x v) past h = refl
starts_same (Ready t) past h = refl
starts_same (Done t) past h = refl
starts_same (Gone t) past h = refl
starts_same (Told t) past h = refl
starts_same (Order ts) past h = refl
starts_same (Row x v) past h = refl
starts_same End past h = refl

pub other_held : (entries : List (Key × Option ℤ)) (i : Item) (past : List Item) → is_start_line i ≡ false → HoldsTable entries (starts_in past) → HoldsTable entries (starts_in (i ∷ past))
other_held entries i past h held = subst (λ (T : Values). HoldsTable entries T) (sym (starts_same i past h)) held

pub start_held : (entries : List (Key × Option ℤ)) (x : RowKey) (v : ℤ) (past : List Item) → HoldsTable entries (put_at x (Some v) (starts_in past)) → HoldsTable entries (starts_in (Start x v ∷ past))
unfolding starts_in
start_held entries x v past h = h

pub not_start : (l : Line) → ((p : Key) (v : ℤ) → l ≡ line.Start p v → ⊥) → is_start_line (line_view l) ≡ false
not_start (line.Start p v) unlike = absurd (unlike p v refl)
not_start (line.Began t) unlike = refl
not_start (line.Got t p u v) unlike = refl
not_start (line.Put t p v) unlike = refl
not_start (line.Ready t) unlike = refl
not_start (line.Done t) unlike = refl
not_start (line.Gone t) unlike = refl
not_start (line.Told t) unlike = refl
not_start (line.Order ts) unlike = refl
not_start (line.Row p v) unlike = refl
not_start line.End unlike = refl
