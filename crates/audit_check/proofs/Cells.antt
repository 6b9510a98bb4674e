-- The cells of the starting rows and of the final rows.
use Rattle.std.proofs.Common.{◌≡◌, Bool, true, false, ◌||◌, List, [], ◌∷◌, ◌++◌, map, reverse, refl, ap, ◌∙◌}
use Rattle.std.specs.Prelude.{ℤ}
use Rattle.std.specs.List.{list_any}
use Rattle.std.proofs.lemmas.List.{reverse-append, map-append}
use Rattle.audit_check.specs.Items.{RowKey, Item, same_row_key}
use Rattle.audit_check.specs.Items.Item.{Start, Row}
use Rattle.audit_check.specs.declared.line.RowKey.{RowKey as Named}
use Rattle.audit_check.specs.declared.line.Line.{Line}
use Rattle.audit_check.specs.Views.{line_view, views, row_keys, has_row_key, row_key_view, KeepsCells}

pub views_push : (lines : List Line) (line : Line) → views (lines ++ line ∷ []) ≡ line_view line ∷ views lines
views_push lines line = ap reverse (map-append line_view lines (line ∷ [])) ∙ reverse-append (map line_view lines) (line_view line ∷ [])

pub has_push : (xs : List RowKey) (p x : RowKey) → has_row_key (xs ++ p ∷ []) x ≡ (same_row_key x p || has_row_key xs x)
has_push [] p x = refl
has_push (y ∷ ys) p x = ap (λ b. same_row_key x y || b) (has_push ys p x) ∙ turned (same_row_key x y) (same_row_key x p) (has_row_key ys x)
  where
    turned : (a b c : Bool) → (a || (b || c)) ≡ (b || (a || c))
    turned true true c = refl
    turned true false c = refl
    turned false b c = refl

module _ (starts starts' rows rows' : List Named) (past : List Item) (kept : KeepsCells starts rows past) where
  pub start_kept : (p : RowKey) (v : ℤ) → row_keys starts' ≡ row_keys starts ++ p ∷ [] → KeepsCells starts' rows (Start p v ∷ past)
  start_kept p v added = record {
    start_cells = λ x. ap (λ xs. has_row_key xs x) added ∙ has_push (row_keys starts) p x ∙ ap (λ b. same_row_key x p || b) (kept.start_cells x);
    row_cells = kept.row_cells;
  }

  pub row_kept : (p : RowKey) (v : ℤ) → row_keys rows' ≡ row_keys rows ++ p ∷ [] → KeepsCells starts rows' (Row p v ∷ past)
  row_kept p v added = record {
    start_cells = kept.start_cells;
    row_cells = λ x. ap (λ xs. has_row_key xs x) added ∙ has_push (row_keys rows) p x ∙ ap (λ b. same_row_key x p || b) (kept.row_cells x);
  }

-- keys are compared by table and key
pub has_row_keys : (eq : Named → Named → Bool) → ((p q : Named) → eq p q ≡ same_row_key (row_key_view p) (row_key_view q)) → (keys : List Named) (p : Named)
    → list_any (eq p) keys ≡ has_row_key (row_keys keys) (row_key_view p)
has_row_keys eq same [] p = refl
has_row_keys eq same (q ∷ qs) p = rw (same p q, has_row_keys eq same qs p)
