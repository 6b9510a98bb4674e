-- The place that a version found leads to.
use Rattle.std.specs.Prelude.{ℕ, true, false, ◌+◌, eqb, cond, Option, Some, None}
use Rattle.version_chain.specs.declared.chains.Found.{Found}
use Rattle.candidate_reads.specs.declared.placing.Place.{Place}

-- the place of t's version: that of v, if v is t's; after v, if v is another's; and the front, if there is none
abbrev pub place_from : Option Found → ℕ → Place
place_from None t = record { at = 0; is_there = false }
place_from (Some v) t = cond (eqb v.writer.0 t) (record { at = v.at; is_there = true }) (record { at = v.at + 1; is_there = false })
