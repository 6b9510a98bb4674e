-- The first line that a test names, line by line.
use Rattle.std.proofs.Common.{◌≡◌, ℕ, ◌+◌, ◌<◌, Bool, true, false, if◌then◌else◌, List, [], ◌∷◌, ◌++◌, map, reverse, length, take, drop, get_or, Option, Some, None, refl, ap, sym, ◌∙◌, arith}
use Rattle.std.proofs.lemmas.List.{reverse-append, map-append, length-reverse, length-map, take-append-drop, take_more, length-take}
use Rattle.audit_check.specs.Items.{Item}
use Rattle.audit_check.specs.Audit.{first_line, earlier}
use Rattle.audit_check.specs.Views.{views, line_view}
use Rattle.audit_check.specs.declared.line.Line.{Line}
use Rattle.audit_check.proofs.Cells.{views_push}

pub views_length : (lines : List Line) → length (views lines) ≡ length lines
views_length lines = length-reverse (map line_view lines) ∙ length-map lines line_view

pub views_append : (a b : List Line) → views (a ++ b) ≡ views b ++ views a
views_append a b = ap reverse (map-append line_view a b) ∙ reverse-append (map line_view a) (map line_view b)

-- one more line is read
pub views_next : (lines : List Line) (i : ℕ) (l : Line) → i < length lines → l ≡ get_or lines i l → views (take (i + 1) lines) ≡ line_view l ∷ views (take i lines)
views_next lines i l within is = ap views (take_more lines i l within ∙ ap (λ x. take i lines ++ x ∷ []) (sym is)) ∙ views_push (take i lines) l

module _ (wrong : List Item → Item → Bool) where
  pub no_lines : first_line wrong [] ≡ None
  unfolding first_line
  no_lines = refl

  pub first_more : (past : List Item) (i : Item) → first_line wrong past ≡ None → wrong past i ≡ false → first_line wrong (i ∷ past) ≡ None
  unfolding first_line
  first_more past i none right = rw (none, right)

  first_here : (past : List Item) (i : Item) → first_line wrong past ≡ None → wrong past i ≡ true → first_line wrong (i ∷ past) ≡ Some (length past + 1)
  unfolding first_line
  first_here past i none bad = rw (none, bad)

  earlier_none : (o : Option ℕ) (b : Bool) (n : ℕ) → earlier o (if b then Some n else None) ≡ None → (o ≡ None) × (b ≡ false)
  earlier_none None true n h = absurd (cc)
  earlier_none None false n h = (refl, refl)
  earlier_none (Some m) b n h = absurd (cc)

  pub first_parts : (past : List Item) (i : Item) → first_line wrong (i ∷ past) ≡ None → (first_line wrong past ≡ None) × (wrong past i ≡ false)
  unfolding first_line
  first_parts past i none = earlier_none (first_line wrong past) (wrong past i) (length past + 1) none

  first_stays : (more past : List Item) (n : ℕ) → first_line wrong past ≡ Some n → first_line wrong (more ++ past) ≡ Some n
  unfolding first_line
  first_stays [] past n is = is
  first_stays (i ∷ more) past n is = rw (first_stays more past n is)

  module _ (lines : List Line) (i : ℕ) (l : Line) (within : i < length lines) (is : l ≡ get_or lines i l) (none : first_line wrong (views (take i lines)) ≡ None) where
    next : views (take (i + 1) lines) ≡ line_view l ∷ views (take i lines)
    next = views_next lines i l within is

    pub right_line : wrong (views (take i lines)) (line_view l) ≡ false → first_line wrong (views (take (i + 1) lines)) ≡ None
    right_line right = ap (first_line wrong) next ∙ first_more (views (take i lines)) (line_view l) none right

    pub wrong_line : wrong (views (take i lines)) (line_view l) ≡ true → first_line wrong (views lines) ≡ Some (i + 1)
    wrong_line bad =
        let here : first_line wrong (views (take (i + 1) lines)) ≡ Some (length (views (take i lines)) + 1) = ap (first_line wrong) next ∙ first_here (views (take i lines)) (line_view l) none bad in
        let long : length (views (take i lines)) ≡ i = views_length (take i lines) ∙ length_front in
        let whole : views lines ≡ views (drop (i + 1) lines) ++ views (take (i + 1) lines) = ap views (sym (take-append-drop (i + 1) lines)) ∙ views_append (take (i + 1) lines) (drop (i + 1) lines) in
        ap (first_line wrong) whole ∙ first_stays (views (drop (i + 1) lines)) (views (take (i + 1) lines)) (i + 1) (here ∙ ap (λ n. Some (n + 1)) long)
      where
        length_front : length (take i lines) ≡ i
        length_front = simp length-take (omega (arith, within))
