-- A whole printed text is parsed back.
use Rattle.std.proofs.Common.{◌≡◌, ℕ, Bool, true, false, not, List, [], ◌∷◌, ◌++◌, map, Some, refl, ap, ◌∙◌, arith, append_assoc}
use Rattle.std.specs.Prelude.{Ok}
use Rattle.std.specs.List.{slice_split, join_with_byte, list_all, flat_map, All}
use Rattle.std.proofs.lemmas.Bool.{and_parts, not-true}
use Rattle.std.proofs.lemmas.Bool.Decides.{nat_tests}
use Rattle.std.proofs.lemmas.List.Splits.{slice_split_at}
use Rattle.std.proofs.lemmas.List.Folds.{list_all-append}
use Rattle.std.proofs.lemmas.List.Sums.{AllPass-from_list_all}
use Rattle.std.proofs.lemmas.List.Elements.{All-weaker}
use Rattle.script_text.specs.Texts.{line_text}
use Rattle.audit_check.specs.Items.{Item}
use Rattle.audit_check.specs.Lines.{is_feed, parts_of, item_of, items_from, items_of, fitting, fits, part_after}
use Rattle.audit_law.proofs.Words.{is_plain, is_word}

abbrev pub are_words : List (List ℕ) → Bool
are_words ws = list_all is_word ws

abbrev is_inner : ℕ → Bool
is_inner b = not (is_feed b)

inner_word : (w : List ℕ) → is_word w ≡ true → list_all is_inner w ≡ true
inner_word [] h = refl
inner_word (b ∷ bs) h =
    let (here, more) = and_parts (is_plain b) (list_all is_plain bs) h in
    let inner : is_inner b ≡ true = grind (arith, nat_tests) in
    rw (inner, inner_word bs more)

inner_line : (ws : List (List ℕ)) → are_words ws ≡ true → list_all is_inner (join_with_byte 32 ws) ≡ true
inner_line [] h = refl
inner_line (w ∷ []) h = inner_word w (and_parts (is_word w) true h).0
inner_line (w ∷ v ∷ ws) h =
    let (here, more) = and_parts (is_word w) (are_words (v ∷ ws)) h in
    rw (list_all-append is_inner w (32 ∷ join_with_byte 32 (v ∷ ws)), inner_word w here, inner_line (v ∷ ws) more)

no_feed : (l : List ℕ) → list_all is_inner l ≡ true → All (λ b. is_feed b ≡ false) l
no_feed l h = All-weaker (λ b. is_inner b ≡ true) (λ b. is_feed b ≡ false) (λ b e. not-true (is_feed b) e) l (AllPass-from_list_all is_inner l h)

-- the parts of a text, split at line feeds, are its lines
pub parts_back : (wss : List (List (List ℕ))) → list_all are_words wss ≡ true → parts_of (flat_map line_text wss) ≡ map (join_with_byte 32) wss ++ [] ∷ []
unfolding parts_of
parts_back [] h = refl
parts_back (ws ∷ wss) h =
    let (here, more) = and_parts (are_words ws) (list_all are_words wss) h in
    ap (slice_split is_feed) (append_assoc (join_with_byte 32 ws) (10 ∷ []) (flat_map line_text wss))
    ∙ slice_split_at is_feed (join_with_byte 32 ws) 10 (flat_map line_text wss) (no_feed (join_with_byte 32 ws) (inner_line ws here)) refl
    ∙ ap (λ (l : List (List ℕ)). join_with_byte 32 ws ∷ l) (parts_back wss more)

-- each line says the item at its place
abbrev pub Say : List (List ℕ) → List Item → Type 0
Say [] [] = Unit {0}
Say (l ∷ ls) (i ∷ is) = (item_of l ≡ Some i) × Say ls is
Say _ _ = ⊥

-- each item may follow the items before it
abbrev pub AllFit : List Item → List Item → Type 0
AllFit past [] = Unit {0}
AllFit past (i ∷ is) = (fits past i ≡ true) × AllFit (i ∷ past) is

-- the items appended to those so far, newest first
abbrev pub onto : List Item → List Item → List Item
onto past [] = past
onto past (i ∷ is) = onto (i ∷ past) is

fits_said : (past : List Item) (l : List ℕ) (i : Item) → item_of l ≡ Some i → fits past i ≡ true → fitting past l ≡ Some i
unfolding fitting
fits_said past l i says fit = rw (says, fit)

first_back : (past : List Item) (l : List ℕ) (ls : List (List ℕ)) (i : Item) → fitting past l ≡ Some i → items_from past (l ∷ (ls ++ [] ∷ [])) ≡ items_from (i ∷ past) (ls ++ [] ∷ [])
unfolding items_from
first_back past l [] i fit = rw fit
first_back past l (m ∷ ls) i fit = rw fit

pub items_back : (past : List Item) (ls : List (List ℕ)) (is : List Item) → Say ls is → AllFit past is → part_after (onto past is) ≡ 4 → items_from past (ls ++ [] ∷ []) ≡ Ok (onto past is)
unfolding items_from
items_back past [] [] says fit ends = rw ends
items_back past (l ∷ ls) (i ∷ is) says fit ends =
    first_back past l ls i (fits_said past l i says.0 fit.0) ∙ items_back (i ∷ past) ls is says.1 fit.1 ends
items_back past [] (i ∷ is) says fit ends = absurd says
items_back past (l ∷ ls) [] says fit ends = absurd says

-- a printed text is parsed into its items if they are well-formed
pub text_back : (wss : List (List (List ℕ))) (is : List Item) → list_all are_words wss ≡ true → Say (map (join_with_byte 32) wss) is → AllFit [] is → part_after (onto [] is) ≡ 4
    → items_of (flat_map line_text wss) ≡ Ok (onto [] is)
unfolding items_of
text_back wss is words says fit ends = ap (items_from []) (parts_back wss words) ∙ items_back [] (map (join_with_byte 32) wss) is says fit ends
