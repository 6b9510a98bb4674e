-- Lists of names, written one by one, and rows and events whose parts have names.
use Rattle.std.proofs.Common.{◌≡◌, ℕ, ◌+◌, ℤ, Bool, true, false, cond, List, [], ◌∷◌, ◌++◌, drop, filter, reverse, Option, Some, None, All, slice_get, refl, sym, ap, ◌∙◌, subst, append_assoc}
use Rattle.std.specs.List.{flat_map}
use Rattle.std.proofs.lemmas.List.{append-nil, drop_more, reverse-append}
use Rattle.std.proofs.lemmas.List.Elements.{All-filter, All-take, filter-append}
use Rattle.std.proofs.lemmas.Option.{slice_get_within, get_or_from_slice_get}
use Rattle.teb_rules.specs.declared.names.Cell.{Cell}
use Rattle.teb_rules.specs.declared.names.naming.NameBook.{NameBook}
use Rattle.teb_rules.specs.declared.history.Event.{Event}
use Rattle.teb_rules.specs.history.OwnEvents.{is_of, own_events}
use Rattle.script_text.specs.Named.{CellNamed, EventNamed, RowsNamed}
use Rattle.script_text.specs.Texts.{line_text}
use Rattle.shell_lines.specs.Answers.{at_most, is_selected}
use Rattle.shell_lines.specs.declared.line.RowRange.{RowRange}

-- one more name was written
pub names_more : (word : List ℕ) (names : List (List ℕ)) (i : ℕ) (name out new all : List ℕ) → slice_get names i ≡ Some name → new ≡ out ++ line_text (word ∷ name ∷ [])
    → out ++ flat_map (λ (n : List ℕ). line_text (word ∷ n ∷ [])) (drop i names) ≡ all → new ++ flat_map (λ (n : List ℕ). line_text (word ∷ n ∷ [])) (drop (i + 1) names) ≡ all
names_more word names i name out new all read put so_far =
    let f : List ℕ → List ℕ = λ n. line_text (word ∷ n ∷ []) in
    let left : drop i names ≡ name ∷ drop (i + 1) names = drop_more names i name (slice_get_within names i name read)
    ∙ ap (λ w. w ∷ drop (i + 1) names) (get_or_from_slice_get names i name name read) in
    ap (λ l. l ++ flat_map f (drop (i + 1) names)) put ∙ append_assoc out (f name) (flat_map f (drop (i + 1) names)) ∙ ap (λ (l : List (List ℕ)). out ++ flat_map f l) (sym left) ∙ so_far

first_named : (names : NameBook) (count : Option ℕ) (rows : List (Cell × ℤ)) → RowsNamed names rows → RowsNamed names (at_most count rows)
first_named names None rows h = h
first_named names (Some n) rows h = All-take (λ (r : Cell × ℤ). CellNamed names r.0) n rows h

-- the requested rows have names
pub asked_named : (names : NameBook) (range : RowRange) (rows asked mid first : List (Cell × ℤ)) → asked ≡ filter (λ (r : Cell × ℤ). is_selected range r.0) rows → mid ≡ asked
    → first ≡ at_most range.count mid
    → RowsNamed names rows → RowsNamed names first
asked_named names range rows asked mid first e f g h =
    let all : RowsNamed names mid = subst (RowsNamed names) (sym (f ∙ e)) (All-filter (λ (r : Cell × ℤ). is_selected range r.0) (λ (r : Cell × ℤ). CellNamed names r.0) rows h) in
    subst (RowsNamed names) (sym g) (first_named names range.count mid all)

filter_reverse : (p : Event → Bool) (es : List Event) → filter p (reverse es) ≡ reverse (filter p es)
filter_reverse p [] = refl
filter_reverse p (e ∷ es) = ap (filter p) (reverse-append (e ∷ []) es) ∙ filter-append p (reverse es) (e ∷ []) ∙ go (p e) (filter_reverse p es)
  where
    go : (b : Bool) → filter p (reverse es) ≡ reverse (filter p es) → filter p (reverse es) ++ cond b (e ∷ []) [] ≡ reverse (cond b (e ∷ filter p es) (filter p es))
    go true h = ap (λ (l : List Event). l ++ e ∷ []) h ∙ sym (reverse-append (e ∷ []) (filter p es))
    go false h = append-nil (filter p (reverse es)) ∙ h

-- the events of a transaction have names
pub own_named : (names : NameBook) (H : List Event) (t : ℕ) (own mid : List Event) → own ≡ reverse (own_events H t) → mid ≡ own → All (EventNamed names) (reverse H) → All (EventNamed names) mid
unfolding own_events
own_named names H t own mid is read named =
    subst (All (EventNamed names)) (sym (read ∙ is ∙ sym (filter_reverse (is_of t) H))) (All-filter (is_of t) (EventNamed names) (reverse H) named)
