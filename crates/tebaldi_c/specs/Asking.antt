-- What a call does to the store behind a handle.
use Rattle.std.specs.Prelude.{◌≡◌, ◌⊎◌, ◌<◌, ℕ, true, Option, Some, None}
use Rattle.teb_rules.specs.declared.names.Request.{Request}
use Rattle.teb_rules.specs.Answer.{answer}
use Rattle.engine_core.specs.EngineModel.{EngineModel}
use Rattle.c_forms.specs.declared.replies.ReplyForm.{ReplyForm}
use Rattle.c_forms.specs.Replies.{reply_form}
use Rattle.tebaldi_c.specs.Shelves.{FileState, IsIdle, ShelfState}
use Rattle.tebaldi_c.specs.declared.status.TheConstants.{OK, NOT_OPEN, BAD_VERB, OUT_OF_MEMORY, STOPPED, NO_ROOM, WAITING}

-- the engine has answered a request of a session, and this is the form of its reply
pub record IsAnswered (old new : EngineModel) (session : ℕ) (r : Request) (told : ReplyForm) : Type 0 where
  pub reply : told ≡ reply_form (answer old.store old.events (record { 0 = session }) r).0
  pub events : new.events ≡ (answer old.store old.events (record { 0 = session }) r).1
  pub store : new.store ≡ old.store
  pub names : new.names ≡ old.names

-- there is a store and a request, and its engine has answered it
abbrev pub IsAsked : Option ShelfState → Option ShelfState → ℕ → Option Request → ReplyForm → Type 0
IsAsked (Some old) (Some new) s (Some r) told = IsAnswered old.engine new.engine s r told
IsAsked _ _ s _ told = ⊥

-- there is a store, and this holds of it
abbrev pub IfOpen : Option ShelfState → (ShelfState → Type 0) → Type 0
IfOpen None P = ⊥
IfOpen (Some s) P = P s

-- this holds of the file, if there is one
abbrev pub IfFile : Option FileState → (FileState → Type 0) → Type 0
IfFile None P = Unit {0}
IfFile (Some f) P = P f

-- no commit waits for its calls, and no call to be performed on the file, if there is one
abbrev pub IsSettled : Option FileState → Type 0
IsSettled None = Unit {0}
IsSettled (Some f) = IsIdle f

-- until no call waits, the same number of commits is in the file; and the rest of what is known of it is the same
abbrev pub IsFileKept : Option FileState → Option FileState → Type 0
IsFileKept None None = Unit {0}
IsFileKept (Some f) (Some g) = (0 < g.waiting → g.kept ≡ f.kept) × (g.failed ≡ f.failed) × (g.gathered ≡ f.gathered) × (g.opened ≡ f.opened)
IsFileKept _ _ = ⊥

-- this holds of the file before and after, if there is one
abbrev pub IfFiles : (FileState → FileState → Type 0) → Option FileState → Option FileState → Type 0
IfFiles P None None = Unit {0}
IfFiles P (Some f) (Some g) = P f g
IfFiles P _ _ = ⊥

abbrev pub IfBothFiles : (FileState → FileState → Type 0) → Option ShelfState → Option ShelfState → Type 0
IfBothFiles P (Some s) (Some t) = IfFiles P s.file t.file
IfBothFiles P _ _ = ⊥

-- there was a store if and only if there is one, and its file is kept
abbrev pub IsKept : Option ShelfState → Option ShelfState → Type 0
IsKept None None = Unit {0}
IsKept (Some s) (Some t) = IsFileKept s.file t.file
IsKept _ _ = ⊥

abbrev pub IsFailed : Option FileState → Type 0
IsFailed None = ⊥
IsFailed (Some f) = f.failed ≡ true

-- there is a file, and a call on it has failed
abbrev pub HasFailed : Option ShelfState → Type 0
HasFailed None = ⊥
HasFailed (Some s) = IsFailed s.file

-- there is no file: the store is in memory, or closed
abbrev pub IsInMemory : Option ShelfState → Type 0
IsInMemory None = Unit {0}
IsInMemory (Some s) = s.file ≡ None

-- what an ask of a store without a file may return
abbrev pub IsOfMemoryAsk : ℕ → Type 0
IsOfMemoryAsk n = (n ≡ OK) ⊎ (n ≡ NOT_OPEN) ⊎ (n ≡ BAD_VERB) ⊎ (n ≡ OUT_OF_MEMORY)

-- why an open store has no reply
abbrev pub IsNoReply : ℕ → Type 0
IsNoReply n = (n ≡ OUT_OF_MEMORY) ⊎ (n ≡ STOPPED) ⊎ (n ≡ NO_ROOM) ⊎ (n ≡ WAITING)

-- what an ask may return
abbrev pub IsOfAsk : ℕ → Type 0
IsOfAsk n = (n ≡ OK) ⊎ (n ≡ NOT_OPEN) ⊎ (n ≡ BAD_VERB) ⊎ IsNoReply n
