-- What the tokens of a queue know, and how that is divided and put together.
use Rattle.std.specs.Prelude.{◌≡◌, ℕ, ◌+◌, ◌-◌, Bool, true, false, nat_lt, if◌then◌else◌, List, [], ◌∷◌, ◌++◌}
use Rattle.session_tasks.specs.declared.pool.tally.Tally.{Tally}

abbrev pub tally : ℕ → Bool → ℕ → List ℕ → Tally
tally parts pushes pushed taken = record { parts = parts; pushes = pushes; pushed = pushed; taken = taken }

-- the first token has all parts, and pushes
abbrev pub first_tally : Tally
first_tally = tally 256 true 0 []

-- one part goes to a new token, which takes and does not push
abbrev pub kept_tally : Tally → Tally
kept_tally v = record v { parts = v.parts - 1 }

abbrev pub new_tally : Tally
new_tally = tally 1 false 0 []

-- one more was pushed, or taken
abbrev pub after_push : Tally → Tally
after_push v = record v { pushed = v.pushed + 1 }

abbrev pub after_pop : Tally → ℕ → Tally
after_pop v n = record v { taken = v.taken ++ n ∷ [] }

-- x in its place among rising numbers
abbrev pub inserted : ℕ → List ℕ → List ℕ
inserted x [] = x ∷ []
inserted x (y ∷ ys) = if nat_lt x y then x ∷ y ∷ ys else y ∷ inserted x ys

-- two lists that rise, as one
abbrev pub merged : List ℕ → List ℕ → List ℕ
merged [] ys = ys
merged (x ∷ xs) ys = inserted x (merged xs ys)

-- the first of two tokens gets what the other took, and the other has nothing left
abbrev pub both_tallies : Tally → Tally → Tally
both_tallies v w = record v { parts = v.parts + w.parts; taken = merged v.taken w.taken }

abbrev pub spent_tally : Tally
spent_tally = tally 0 false 0 []

-- the only token that is left, after so many were pushed
pub record IsWhole (pushed : ℕ) (v : Tally) : Type 0 where
  pub parts : v.parts ≡ 256
  pub pushes : v.pushes ≡ true
  pub all : v.pushed ≡ pushed
