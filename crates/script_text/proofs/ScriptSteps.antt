-- The lines of a script, one after the other.
use Rattle.std.proofs.Common.{◌≡◌, ℕ, ◌+◌, List, [], ◌∷◌, ◌++◌, map, length, Option, Result, Ok, Err, refl, sym, ap, ◌∙◌, arith, append_assoc}
use Rattle.std.proofs.lemmas.List.{append-nil, length-map}
use Rattle.std.specs.Option.{option_to_list}
use Rattle.teb_rules.specs.declared.names.naming.NameBook.{NameBook}
use Rattle.script_text.specs.declared.Line.{Line}
use Rattle.script_text.specs.declared.error.ScriptError.{ScriptError}
use Rattle.script_text.specs.declared.error.ScriptError.TheVariants as errors
use Rattle.script_text.specs.Grammar.{script_from, script_of, line_in, line_of, at_line, ◌>>=◌}
use Rattle.script_text.specs.Lines.{lines_of}
use Rattle.script_text.specs.Words.{words_of}

-- the lines that are already read, and then the result of the rest
abbrev pub behind : List Line → Result (List Line) ScriptError → Result (List Line) ScriptError
behind done rest = rest >>= (λ more. Ok (done ++ more))

behind_more : (done : List Line) (o : Option Line) (rest : Result (List Line) ScriptError) → behind (done ++ option_to_list o) rest ≡ behind done (rest >>= (λ more. Ok (option_to_list o ++ more)))
behind_more done o (Ok more) = ap (λ l. Ok l) (append_assoc done (option_to_list o) more)
behind_more done o (Err e) = refl

-- one line fewer is left
pub fewer : (ls more : List (List ℕ)) (ws : List (List ℕ)) → map words_of ls ≡ ws ∷ map words_of more → length ls ≡ length more + 1
fewer ls more ws e = omega (arith, ap length e, length-map ls words_of, length-map more words_of)

module _ (names : NameBook) (format : ℕ) where
  -- the lines from number n on, by their words
  pub script_by : ℕ → List (List (List ℕ)) → Result (List Line) ScriptError
  script_by n [] = Ok []
  script_by n (ws ∷ more) = at_line n (line_in names format n ws) >>= (λ o. script_by (n + 1) more >>= (λ (rest : List Line). Ok (option_to_list o ++ rest)))

  pub by_words : (n : ℕ) (ls : List (List ℕ)) → script_from names format n ls ≡ script_by n (map words_of ls)
  unfolding script_from line_of script_by
  by_words n [] = refl
  by_words n (l ∷ ls) =
      ap (λ (r : Result (List Line) ScriptError). at_line n (line_in names format n (words_of l)) >>= (λ o. r >>= (λ (rest : List Line). Ok (option_to_list o ++ rest)))) (by_words (n + 1) ls)

  pub script_more : (done new : List Line) (n : ℕ) (ws : List (List ℕ)) (more : List (List (List ℕ))) (o : Option Line) → at_line n (line_in names format n ws) ≡ Ok o → new ≡ done ++ option_to_list o
      → behind new (script_by (n + 1) more) ≡ behind done (script_by n (ws ∷ more))
  unfolding script_by
  script_more done new n ws more o good put = rw (good, put) (behind_more done o (script_by (n + 1) more))

  pub script_bad : (done : List Line) (n : ℕ) (ws : List (List ℕ)) (more : List (List (List ℕ))) (e : ScriptError) → at_line n (line_in names format n ws) ≡ Err e
      → behind done (script_by n (ws ∷ more)) ≡ Err e
  unfolding script_by
  script_bad done n ws more e bad = rw bad

  pub script_end : (done : List Line) (n : ℕ) (more : List (List (List ℕ))) → more ≡ [] → behind done (script_by n more) ≡ Ok done
  unfolding script_by
  script_end done n more e = rw (e, append-nil done)

-- a script by the words of its lines, with an equal book of names
pub book_script : (names book : NameBook) (format : ℕ) (text : List ℕ) → book ≡ names → script_of names format text ≡ script_by book format 1 (map words_of (lines_of text))
book_script names book format text same = ap (λ b. script_of b format text) (sym same) ∙ by_words book format 1 (lines_of text)
