-- What a look at a stop word finds.
use Rattle.std.specs.Prelude.{◌≡◌, ℕ, ◌<◌}

-- a word that is not 0, under the rule of the word. Where the rule allows no such word, no look finds one
pub record FoundRaised (rule : ℕ → Type 0) : Type 0 where
  pub word : ℕ
  pub raised : 0 < word
  pub ruled : rule word

-- a word that is 0, under the rule of the word. Where the rule does not allow 0, no look finds it
pub record FoundClear (rule : ℕ → Type 0) : Type 0 where
  pub word : ℕ
  pub clear : word ≡ 0
  pub ruled : rule word
