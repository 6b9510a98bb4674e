-- What one turn at the server adds to the list.
use Rattle.std.specs.Prelude.{◌≡◌, ℕ, List, ◌∷◌, [], ◌++◌, Option, All, Result, Ok, Err}
use Rattle.teb_rules.specs.declared.names.Reply.{Reply as TheReply}
use Rattle.teb_rules.specs.declared.names.Request.{Request}
use Rattle.teb_rules.specs.declared.names.Request.TheVariants.{End}
use Rattle.teb_rules.specs.declared.names.Session.{Session}
use Rattle.short_reply.specs.declared.ShortReply.{ShortReply}
use Rattle.shared_store.specs.declared.entry.LifeEntry.{LifeEntry}
use Rattle.shared_store.specs.declared.entry.LifeEntry.TheVariants.{Asked}
use Rattle.shared_store.specs.declared.error.UnaskedError.{UnaskedError}
use Rattle.shared_store.specs.declared.answer.Answer.{Answer}
use Rattle.shared_store.specs.declared.answer.Answer.TheVariants as answer
use Rattle.shared_store.specs.declared.reply.StoreReply.TheVariants.{Reply, Later, Ended}
use Rattle.shared_store.specs.Stages.{Stage, reply_at}
use Rattle.shared_store.specs.Lives.{IsForOther, IsShortOf, LeadsTo, owner_of}

-- one request of session s is added, asked at the turn of session `by`, which the rules answered so
pub record AddsAsked (first : Stage) (by s : Session) (q : Request) (r : TheReply) (old new : List LifeEntry) : Type 0 where
  pub short : Option ShortReply
  pub stage : Stage
  pub is : new ≡ old ++ Asked by s q short ∷ []
  pub leads : LeadsTo first old stage
  pub reply : r ≡ reply_at stage s q
  pub short_of : IsShortOf r short

-- what the result of a request adds
abbrev pub AddsResult : Stage → Session → Session → Request → Result TheReply UnaskedError → List LifeEntry → List LifeEntry → Type 0
AddsResult first by s q (Ok r) old new = AddsAsked first by s q r old new
AddsResult first by s q (Err f) old new = new ≡ old

-- an End of session s is added, asked at the turn of session `by`, which the rules answered
abbrev pub AddsEnd : Stage → Session → Session → List LifeEntry → List LifeEntry → Type 0
AddsEnd first by s old new = (r : TheReply) × AddsAsked first by s End r old new

-- further entries, all at the turn of session n
pub record GrowsBy (n : ℕ) (old new : List LifeEntry) : Type 0 where
  pub more : List LifeEntry
  pub is : new ≡ old ++ more
  pub mine : All (λ e. owner_of e ≡ n) more

-- only entries for other sessions are added, at the turn of session n
pub record AddsForOthers (n : ℕ) (old new : List LifeEntry) : Type 0 where
  pub more : List LifeEntry
  pub is : new ≡ old ++ more
  pub mine : All (IsForOther n) more

-- one call of the session is added, at the end, which the rules answered so, and before it only entries for other sessions
pub record AddsCall (first : Stage) (s : Session) (q : Request) (r : TheReply) (old new : List LifeEntry) : Type 0 where
  pub before : List LifeEntry
  pub short : Option ShortReply
  pub stage : Stage
  pub goes_on : AddsForOthers s.0 old before
  pub is : new ≡ before ++ Asked s s q short ∷ []
  pub leads : LeadsTo first before stage
  pub reply : r ≡ reply_at stage s q
  pub short_of : IsShortOf r short

-- what an answer adds: `Reply` this call, and each other answer no call
abbrev pub Adds : Stage → Session → Request → Answer → List LifeEntry → List LifeEntry → Type 0
Adds first s q (answer.Reply (Reply r) n) old new = AddsCall first s q r old new
Adds first s q (answer.Reply Later n) old new = AddsForOthers s.0 old new
Adds first s q (answer.Reply (Ended r) n) old new = AddsForOthers s.0 old new
Adds first s q answer.Drained old new = AddsForOthers s.0 old new
Adds first s q (answer.Unasked f) old new = AddsForOthers s.0 old new

-- the reply is that of the rules
abbrev pub IsOfRules : Answer → Type 0
IsOfRules (answer.Reply (Reply r) n) = Unit {0}
IsOfRules (answer.Reply Later n) = ⊥
IsOfRules (answer.Reply (Ended r) n) = ⊥
IsOfRules answer.Drained = ⊥
IsOfRules (answer.Unasked f) = ⊥

-- nothing was asked, since the epoch is to end
abbrev pub IsPutOff : Answer → Type 0
IsPutOff (answer.Reply (Reply r) n) = ⊥
IsPutOff (answer.Reply Later n) = Unit {0}
IsPutOff (answer.Reply (Ended r) n) = ⊥
IsPutOff answer.Drained = Unit {0}
IsPutOff (answer.Unasked f) = ⊥

-- a reply comes with this count
abbrev pub IsNumbered : ℕ → Answer → Type 0
IsNumbered count (answer.Reply a n) = n ≡ count
IsNumbered count answer.Drained = Unit {0}
IsNumbered count (answer.Unasked f) = Unit {0}
