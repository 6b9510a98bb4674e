-- The state of a session in its script, by indices.
use Rattle.std.proofs.Common.{◌≡◌, ℕ, ◌+◌, ◌<◌, List, [], ◌∷◌, Option, Some, None, refl, sym, ◌∙◌, ap, length, drop, get_or, is_some, unwrap_or, arith}
use Rattle.std.proofs.lemmas.List.{drop_more, drop-map}
use Rattle.teb_rules.specs.declared.names.Request.{Request}
use Rattle.script_text.specs.declared.Line.{Line}
use Rattle.teb_rules.specs.Scripts.{asks, asks_at, Stays, Enters, Leaves, Returns, Goes, moved}
use Rattle.script_walk.specs.ScriptStates.{requests_on, lines_from, state_at}

-- the line at an index within the list
pub line_at : (lines : List Line) (i : ℕ) → i < length lines → Line
line_at [] i h = absurd (omega arith)
line_at (l ∷ ls) i h = l

-- what is left of a script at a line, and after its last line
pub rest_at : (lines : List Line) (i : ℕ) (d : Line) → i < length lines → drop i (requests_on lines) ≡ (get_or lines i d).request ∷ drop (i + 1) (requests_on lines)
rest_at lines i d h = drop-map (λ (l : Line). l.request) i lines ∙ ap requests_on (drop_more lines i d h) ∙ ap (λ (rs : List Request). (get_or lines i d).request ∷ rs)
    (sym (drop-map (λ (l : Line). l.request) (i + 1) lines))

-- the request of the line is asked there
pub asks_line : (lines : List Line) (i : ℕ) (b : Option ℕ) (d : Line) → i < length lines → asks (state_at (requests_on lines) i b) ≡ Some (get_or lines i d).request
asks_line lines i b d h = ap (λ (rs : List Request). asks_at rs (is_some (lines_from (requests_on lines) b))) (rest_at lines i d h)

-- where a session goes from a line
pub stays : (l : List Request) (r : Request) (rs : List Request) (b : Option (List Request)) → l ≡ r ∷ rs → moved l b Stays ≡ record { rest = l; begun = b }
stays l r rs b e = rw e refl

pub enters : (l : List Request) (r : Request) (rs : List Request) (b : Option (List Request)) → l ≡ r ∷ rs → moved l b Enters ≡ record { rest = rs; begun = Some l }
enters l r rs b e = rw e refl

pub leaves : (l : List Request) (r : Request) (rs : List Request) (b : Option (List Request)) → l ≡ r ∷ rs → moved l b Leaves ≡ record { rest = rs; begun = None }
leaves l r rs b e = rw e refl

pub returns_to : (lines : List Request) (i : ℕ) (r : Request) (rs : List Request) (b : Option ℕ) → drop i lines ≡ r ∷ rs → moved (drop i lines) (lines_from lines b) Returns ≡ state_at lines
    (unwrap_or b i) None
returns_to lines i r rs None e = rw e refl
returns_to lines i r rs (Some j) e = rw e refl

pub goes : (l : List Request) (r : Request) (rs : List Request) (b : Option (List Request)) → l ≡ r ∷ rs → moved l b Goes ≡ record { rest = rs; begun = b }
goes l r rs b e = rw e refl
