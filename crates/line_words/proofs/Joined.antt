-- The words of a line are appended one after another.
use Rattle.std.proofs.Common.{◌≡◌, ℕ, List, [], ◌∷◌, ◌++◌, codes, refl, sym, ap, ◌∙◌, append_assoc}
use Rattle.script_text.specs.Texts.{line_text}
use Rattle.script_text.specs.Puts.{spaced}
use Rattle.script_text.proofs.Wholes.{line_behind}

-- old is followed by the first word, the other words and the line feed
pub one_line : (old one two new w : List ℕ) (ws : List (List ℕ)) → one ≡ old ++ w → two ≡ one ++ spaced ws → new ≡ two ++ codes "\n" → new ≡ old ++ line_text (w ∷ ws)
one_line old one two new w ws first others end = end ∙ ap (λ l. l ++ codes "\n") (others ∙ ap (λ l. l ++ spaced ws) first) ∙ line_behind old w ws

pub spaced_append : (vs ws : List (List ℕ)) → spaced (vs ++ ws) ≡ spaced vs ++ spaced ws
spaced_append [] ws = refl
spaced_append (v ∷ vs) ws = ap (λ (l : List ℕ). codes " " ++ v ++ l) (spaced_append vs ws) ∙ sym (append_assoc (codes " " ++ v) (spaced vs) (spaced ws))

-- old is followed by the first word, some words, more words and the line feed
pub more_words : (old one two three new w : List ℕ) (vs ws : List (List ℕ)) → one ≡ old ++ w → two ≡ one ++ spaced vs → three ≡ two ++ spaced ws → new ≡ three ++ codes "\n" → new ≡ old
    ++ line_text (w ∷ vs ++ ws)
more_words old one two three new w vs ws first some more end =
    one_line old one three new w (vs ++ ws) first (more ∙ ap (λ (l : List ℕ). l ++ spaced ws) some ∙ append_assoc one (spaced vs) (spaced ws)
    ∙ ap (λ (l : List ℕ). one ++ l) (sym (spaced_append vs ws))) end

-- old is followed by the first two words, some words, more words and the line feed
pub two_words : (old one two three four new v w : List ℕ) (vs ws : List (List ℕ)) → one ≡ old ++ v → two ≡ one ++ (codes " " ++ w) → three ≡ two ++ spaced vs → four ≡ three ++ spaced ws → new ≡ four
    ++ codes "\n"
    → new ≡ old ++ line_text (v ∷ w ∷ vs ++ ws)
two_words old one two three four new v w vs ws first second some more end =
    let after_two : four ≡ two ++ spaced (vs ++ ws) = more ∙ ap (λ (l : List ℕ). l ++ spaced ws) some ∙ append_assoc two (spaced vs) (spaced ws)
    ∙ ap (λ (l : List ℕ). two ++ l) (sym (spaced_append vs ws)) in
    one_line old one four new v (w ∷ vs ++ ws) first (after_two ∙ ap (λ (l : List ℕ). l ++ spaced (vs ++ ws)) second ∙ append_assoc one (codes " " ++ w) (spaced (vs ++ ws))) end
