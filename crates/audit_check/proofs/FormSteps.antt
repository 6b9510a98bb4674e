-- The parts of a text, one after the other.
use Rattle.std.proofs.Common.{◌≡◌, ℕ, ◌+◌, ◌-◌, ◌^◌, ◌<◌, Bool, true, false, List, [], ◌∷◌, length, drop, get_or, Option, Some, None, refl, ap, sym, ◌∙◌, arith, drop_of_length-le}
use Rattle.std.specs.Prelude.{Result, Ok, Err}
use Rattle.std.specs.Borrow.{Bor}
use Rattle.std.proofs.lemmas.List.{drop_more, length-map}
use Rattle.std.proofs.lemmas.List.Splits.{length-slice_split}
use Rattle.std.proofs.lemmas.List.Sums.{count_by-le-length}
use Rattle.audit_check.specs.Items.{Item}
use Rattle.audit_check.specs.Lines.{is_feed, parts_of, items_from, fitting, is_over, next_line}
use Rattle.audit_check.specs.declared.error.AuditError.{AuditError}
use Rattle.audit_check.specs.declared.error.AuditError.TheVariants as errors
use Rattle.audit_check.specs.declared.line.RowKey.{RowKey as Named}
use Rattle.audit_check.specs.declared.line.Line.{Line}
use Rattle.audit_check.specs.Views.{nows, KeepsCells, Takes, ReadsLines, ReadsInto}

-- a text has at least one part
pub has_part : (xs : List (Bor (List ℕ))) (text : List ℕ) → nows xs ≡ parts_of text → 0 < length xs
unfolding parts_of
has_part xs text is = omega (arith, sym (length-map xs (λ x. x.now)) ∙ ap length is ∙ length-slice_split is_feed text)

pub as_many : (xs : List (Bor (List ℕ))) (text : List ℕ) → nows xs ≡ parts_of text → length xs ≡ length (parts_of text)
as_many xs text is = sym (length-map xs (λ x. x.now)) ∙ ap length is

taken_by : (past new : List Item) (ok : Bool) (l m : List ℕ) (ls : List (List ℕ)) (o : Option Item) → fitting past l ≡ o → Takes past ok new o → ok ≡ true
    → items_from past (l ∷ m ∷ ls) ≡ items_from new (m ∷ ls)
unfolding items_from
taken_by past new ok l m ls None e takes is = absurd (cc)
taken_by past new ok l m ls (Some i) e takes is = rw (e, takes.1)

refused_by : (past new : List Item) (ok : Bool) (l m : List ℕ) (ls : List (List ℕ)) (o : Option Item) → fitting past l ≡ o → Takes past ok new o → ok ≡ false
    → items_from past (l ∷ m ∷ ls) ≡ Err (next_line past)
unfolding items_from
refused_by past new ok l m ls None e takes is = rw e
refused_by past new ok l m ls (Some i) e takes is = absurd (cc)

module _ (ws : List (Bor (List ℕ))) (i : ℕ) (d : Bor (List ℕ)) (past new : List Item) (ok : Bool) where
  two : i + 1 < length ws → nows (drop i ws) ≡ (get_or ws i d).now ∷ (get_or ws (i + 1) d).now ∷ nows (drop (i + 1 + 1) ws)
  two within = rw (drop_more ws i d (omega (arith, within)), drop_more ws (i + 1) d within)

  one : i + 1 < length ws → nows (drop (i + 1) ws) ≡ (get_or ws (i + 1) d).now ∷ nows (drop (i + 1 + 1) ws)
  one within = rw (drop_more ws (i + 1) d within)

  pub line_taken : i + 1 < length ws → Takes past ok new (fitting past (get_or ws i d).now) → ok ≡ true
      → items_from new (nows (drop (i + 1) ws)) ≡ items_from past (nows (drop i ws))
  line_taken within takes is =
      ap (items_from new) (one within)
      ∙ sym (taken_by past new ok _ (get_or ws (i + 1) d).now (nows (drop (i + 1 + 1) ws)) _ refl takes is)
      ∙ ap (items_from past) (sym (two within))

  pub line_refused : i + 1 < length ws → Takes past ok new (fitting past (get_or ws i d).now) → ok ≡ false
      → items_from past (nows (drop i ws)) ≡ Err (next_line past)
  line_refused within takes is = ap (items_from past) (two within) ∙ refused_by past new ok _ (get_or ws (i + 1) d).now (nows (drop (i + 1 + 1) ws)) _ refl takes is

-- the last part
module _ (ws : List (Bor (List ℕ))) (i : ℕ) (d : Bor (List ℕ)) (past : List Item) (last : i + 1 ≡ length ws) where
  only : nows (drop i ws) ≡ (get_or ws i d).now ∷ []
  only = rw (drop_more ws i d (omega (arith, last)), drop_of_length-le ws {i = i + 1} (omega (arith, last)))

  pub text_over : is_over past (get_or ws i d).now ≡ true → items_from past (nows (drop i ws)) ≡ Ok past
  unfolding items_from
  text_over over = rw (only, over)

  pub text_cut : is_over past (get_or ws i d).now ≡ false → items_from past (nows (drop i ws)) ≡ Err (next_line past)
  unfolding items_from
  text_cut cut = rw (only, cut)

module _ (ws : List (Bor (List ℕ))) (i k : ℕ) (d : Bor (List ℕ)) (past : List Item) (at : i ≡ k) (last : k + 1 ≡ length ws) where
  pub text_over_at : is_over past (get_or ws k d).now ≡ true → items_from past (nows (drop i ws)) ≡ Ok past
  text_over_at over = rw at (text_over ws k d past last over)

  pub text_cut_at : is_over past (get_or ws k d).now ≡ false → items_from past (nows (drop i ws)) ≡ Err (next_line past)
  text_cut_at cut = rw at (text_cut ws k d past last cut)

pub taken_length : (past new : List Item) (ok : Bool) (o : Option Item) → Takes past ok new o → ok ≡ true → length new ≡ length past + 1
taken_length past new ok None takes is = absurd (cc)
taken_length past new ok (Some i) takes is = rw (takes.1) (omega arith)

pub none_yet : (starts rows : List Named) → starts ≡ [] → rows ≡ [] → KeepsCells starts rows []
none_yet starts rows s r = rw (s, r) (record { start_cells = λ x. refl; row_cells = λ x. refl })

pub not_read : (e : AuditError) (lines : List Line) (items : Result (List Item) ℕ) → ReadsInto (Err e) lines items → ReadsLines (Err e) items
not_read (errors.No n w) lines items h = h
not_read errors.OutOfMemory lines items h = tt

-- a text that is not too long has fewer than 2 ^ 32 parts
pub few_parts : (text : List ℕ) → length text < 2 ^ 32 - 1 → length (parts_of text) < 2 ^ 32
unfolding parts_of
few_parts text small = omega (arith, small, length-slice_split is_feed text, count_by-le-length is_feed text)
