-- What a turn at the front sees of the server behind it.
use Rattle.std.specs.Prelude.{◌≡◌, ℕ, List, [], ◌∷◌, ◌++◌}
use Rattle.shared_store.specs.declared.entry.LifeEntry.{LifeEntry}
use Rattle.shared_store.specs.declared.entry.LifeEntry.TheVariants.{CommitsTaken}
use Rattle.shared_store.specs.declared.server.EpochServer.{Ghosts}
use Rattle.shared_store.specs.declared.hosted.Hosted.{Hosted}
use Rattle.shared_store.specs.Stages.{Stage, first_stage}

module _ {V L B : Type 0} {g : Ghosts V L B} where
  abbrev pub entries_in : Hosted V L B g → List LifeEntry
  entries_in h = h.entries.items

  -- it has no notes
  abbrev pub note_in : Hosted V L B g → ℕ → ℕ
  note_in h i = 0

  abbrev pub first_of : Hosted V L B g → Stage
  first_of h = first_stage (g.standing h.first.value)

  -- the commits that waited were taken. The server stands where it stood
  pub record IsTaken (old new : Hosted V L B g) : Type 0 where
    pub entries : entries_in new ≡ entries_in old ++ CommitsTaken ∷ []
    pub first : new.first ≡ old.first
    pub standing : g.standing new.server ≡ g.standing old.server
