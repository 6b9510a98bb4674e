-- What contracts see of a shared store and its sessions, and what a call adds.
use Rattle.std.specs.Prelude.{◌≡◌, ℕ, ◌+◌, ◌<◌, ◌≤◌, List, [], ◌∷◌, ◌++◌, false, Option, Some}
use Rattle.teb_rules.specs.declared.names.Reply.{Reply}
use Rattle.teb_rules.specs.declared.names.Request.{Request}
use Rattle.teb_rules.specs.declared.names.Request.TheVariants.{End}
use Rattle.teb_rules.specs.declared.names.Session.{Session}
use Rattle.short_reply.specs.declared.ShortReply.{ShortReply}
use Rattle.turn_lock.specs.Seats.{base_in, view_of, IsOf}
use Rattle.turn_lock.specs.declared.turn.Turn.{Turn}
use Rattle.shared_store.specs.declared.entry.LifeEntry.{LifeEntry}
use Rattle.shared_store.specs.declared.entry.LifeEntry.TheVariants.{Asked}
use Rattle.shared_store.specs.declared.kept.Kept.{Kept}
use Rattle.shared_store.specs.declared.server.EpochServer.{Ghosts}
use Rattle.shared_store.specs.declared.hosted.Hosted.{Hosted}
use Rattle.shared_store.specs.declared.keeper.Keeper.{Keeper}
use Rattle.shared_store.specs.declared.store.Store.{Store}
use Rattle.shared_store.specs.declared.session.StoreSession.{StoreSession}
use Rattle.shared_store.specs.Beginning.{holds}
use Rattle.shared_store.specs.Hosting.{first_of}
use Rattle.shared_store.specs.Keeping.{place_of}
use Rattle.shared_store.specs.Lives.{IsLegalLife, IsShortOf, LeadsTo, calls_of}
use Rattle.shared_store.specs.Places.{Place}
use Rattle.shared_store.specs.Stages.{Stage, commits_at, reply_at}
use Rattle.shared_store.specs.Totals.{total_in}

module _ {V L B : Type 0} {g : Ghosts V L B} where
  -- where the life of the shared store begins
  abbrev pub base_of : Store V L B g → Stage
  base_of s = base_in first_of s.turn

  -- it is a session of this store
  abbrev pub IsSessionOf : Store V L B g → StoreSession V L B g → Type 0
  IsSessionOf s p = IsOf s.turn p.seat × ((view_of p.seat).base ≡ Some (base_of s)) × IsOf s.log_turn p.log_seat × ((view_of p.log_seat).base ≡ Some (base_in place_of s.log_turn))

  -- the entries that the session has seen: a beginning of the one list of the store's life
  abbrev pub seen : StoreSession V L B g → List LifeEntry
  seen p = (view_of p.seat).seen

  -- how many commits of the life the log has told the session that it keeps
  abbrev pub told : StoreSession V L B g → ℕ
  told p = total_in (view_of p.log_seat).seen

  abbrev pub number_of : StoreSession V L B g → ℕ
  number_of p = p.session.0

  -- the calls of the session that were answered, in order
  abbrev pub own_calls : StoreSession V L B g → List LifeEntry
  own_calls p = calls_of p.session.0 (seen p)

  -- a session of these turns that has asked nothing
  pub record IsNewIn (t : Turn (Hosted V L B g) LifeEntry Stage) (u : Turn (Keeper V L B g) Kept Place) (b : Stage) (p : StoreSession V L B g) : Type 0 where
    pub seat : IsOf t p.seat
    pub base : (view_of p.seat).base ≡ Some b
    pub log_seat : IsOf u p.log_seat
    pub log_base : (view_of p.log_seat).base ≡ Some (base_in place_of u)
    pub seen : (view_of p.seat).seen ≡ []
    pub asks : p.asks ≡ 0

  abbrev pub IsNew : Store V L B g → StoreSession V L B g → Type 0
  IsNew s p = IsNewIn s.turn s.log_turn (base_of s) p

  -- what it has seen goes on, and is a legal life
  pub record GoesOn (b : Stage) (old new : StoreSession V L B g) : Type 0 where
    pub asks : new.asks ≡ old.asks + 1
    pub more : List LifeEntry
    pub is : seen new ≡ seen old ++ more
    pub legal : IsLegalLife b (seen new)

  -- the call stands once in the list, after all that it had seen, with the reply of the rules there; it has this one more of its own calls
  pub record IsAnswered (b : Stage) (old new : StoreSession V L B g) (q : Request) (r : Reply) : Type 0 where
    pub goes_on : GoesOn b old new
    pub between : List LifeEntry
    pub short : Option ShortReply
    pub stage : Stage
    pub is : seen new ≡ (seen old ++ between) ++ Asked old.session old.session q short ∷ []
    pub leads : LeadsTo b (seen old ++ between) stage
    pub reply : r ≡ reply_at stage old.session q
    pub short_of : IsShortOf r short
    pub calls : own_calls new ≡ own_calls old ++ Asked old.session old.session q short ∷ []

  -- it has no more calls of its own
  pub record IsUnasked (b : Stage) (old new : StoreSession V L B g) : Type 0 where
    pub goes_on : GoesOn b old new
    pub calls : own_calls new ≡ own_calls old

  -- the life that it has seen ends with an End of the other session, asked at its turn after all that it had seen, which the rules answered there
  pub record HasEnded (b : Stage) (old new : StoreSession V L B g) (other : Session) : Type 0 where
    pub between : List LifeEntry
    pub short : Option ShortReply
    pub stage : Stage
    pub is : seen new ≡ (seen old ++ between) ++ Asked old.session other End short ∷ []
    pub leads : LeadsTo b (seen old ++ between) stage
    pub short_of : IsShortOf (reply_at stage other End) short

  -- at a place of the life after all that it had seen, and among what it has seen now, it holds no transaction
  pub record WasFree (b : Stage) (old new : StoreSession V L B g) : Type 0 where
    pub between : List LifeEntry
    pub more : List LifeEntry
    pub stage : Stage
    pub is : seen new ≡ (seen old ++ between) ++ more
    pub leads : LeadsTo b (seen old ++ between) stage
    pub free : holds stage.standing.events old.session ≡ false

  -- the commits of the life that it has seen, which ends with its call, are no more than those that the log has told that it keeps
  pub record IsSafe (b : Stage) (p : StoreSession V L B g) : Type 0 where
    pub stage : Stage
    pub leads : LeadsTo b (seen p) stage
    pub kept : commits_at stage ≤ told p

  -- it took a turn at the log, and the commits that the log has told that it keeps are fewer than those of the life that it has seen, which
  -- ends with its call
  pub record IsNotTold (b : Stage) (old new : StoreSession V L B g) : Type 0 where
    pub stage : Stage
    pub leads : LeadsTo b (seen new) stage
    pub fewer : told new < commits_at stage
    pub looked : (view_of new.log_seat).turns < (view_of old.log_seat).turns

  -- the list begins with what the session has seen, and has no further calls of it
  pub record IsWithin (entries : List LifeEntry) (p : StoreSession V L B g) : Type 0 where
    pub more : List LifeEntry
    pub is : entries ≡ seen p ++ more
    pub calls : calls_of p.session.0 entries ≡ own_calls p
