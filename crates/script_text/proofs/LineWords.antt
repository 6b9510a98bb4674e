-- No line of a request has more than five words.
use Rattle.std.proofs.Common.{◌≡◌, ℕ, List, [], ◌∷◌, Option, None, Some, take, refl}
use Rattle.std.specs.Option.{ok_or}
use Rattle.teb_rules.specs.declared.names.naming.NameBook.{NameBook}
use Rattle.script_text.specs.Words.{words_of}
use Rattle.script_text.specs.declared.script.grammar.Verb.{Verb}
use Rattle.script_text.specs.declared.script.grammar.Verb.TheVariants as verb
use Rattle.script_text.specs.declared.error.LineWhy.TheVariants as why
use Rattle.script_text.specs.Grammar.{arguments, verb_of, line_in, spot_in, cell_in, cell_and_value_in, cell_and_count_in, nothing_in, ◌>>=◌}

module _ (names : NameBook) (format : ℕ) where
  arguments_many : (v : Verb) (c d e f : List ℕ) (more : List (List ℕ)) → arguments names format v (c ∷ d ∷ e ∷ f ∷ []) ≡ arguments names format v (c ∷ d ∷ e ∷ f ∷ more)
  unfolding spot_in cell_in cell_and_value_in cell_and_count_in nothing_in
  arguments_many verb.Begin c d e f more = refl
  arguments_many verb.Read c d e f more = refl
  arguments_many verb.Write c d e f more = refl
  arguments_many verb.Add c d e f more = refl
  arguments_many verb.Prepare c d e f more = refl
  arguments_many verb.Commit c d e f more = refl
  arguments_many verb.Abort c d e f more = refl
  arguments_many verb.Delete c d e f more = refl
  arguments_many verb.Scan c d e f more = refl

  after_verb : (o : Option Verb) (c d e f : List ℕ) (more : List (List ℕ))
      → (ok_or o why.Verb >>= (λ v. arguments names format v (c ∷ d ∷ e ∷ f ∷ []))) ≡ (ok_or o why.Verb >>= (λ v. arguments names format v (c ∷ d ∷ e ∷ f ∷ more)))
  after_verb None c d e f more = refl
  after_verb (Some v) c d e f more = arguments_many v c d e f more

  first_six : (n : ℕ) (ws : List (List ℕ)) → line_in names format n (take 6 ws) ≡ line_in names format n ws
  unfolding line_in
  first_six n [] = refl
  first_six n (a ∷ []) = refl
  first_six n (a ∷ b ∷ []) = refl
  first_six n (a ∷ b ∷ c ∷ []) = refl
  first_six n (a ∷ b ∷ c ∷ d ∷ []) = refl
  first_six n (a ∷ b ∷ c ∷ d ∷ e ∷ []) = refl
  first_six n (a ∷ b ∷ c ∷ d ∷ e ∷ f ∷ more) = rw (after_verb (verb_of format b) c d e f more)

  pub line_of_first : (n : ℕ) (line : List ℕ) (ws : List (List ℕ)) → ws ≡ take 6 (words_of line) → line_in names format n ws ≡ line_in names format n (words_of line)
  line_of_first n line ws is = rw (is) (first_six n (words_of line))
