-- What a call changes in a session, by what its seats have seen.
use Rattle.std.proofs.Common.{◌≡◌, ◌≢◌, Result, Ok, Err, ℕ, ◌+◌, ◌*◌, ◌≤◌, List, ◌++◌, Some, append_assoc, refl, ◌∙◌, ap, subst}
use Rattle.std.specs.Prelude.{IfOk, IsTrue}
use Rattle.teb_rules.specs.declared.names.Reply.{Reply as TheReply}
use Rattle.teb_rules.specs.declared.names.Reply.TheVariants.{Committed}
use Rattle.teb_rules.specs.declared.names.Request.{Request}
use Rattle.teb_rules.specs.declared.names.Session.{Session}
use Rattle.turn_lock.specs.declared.view.View.{View}
use Rattle.turn_lock.specs.Seats.{view_of}
use Rattle.shared_store.specs.declared.entry.LifeEntry.{LifeEntry}
use Rattle.shared_store.specs.declared.error.AskError.{AskError}
use Rattle.shared_store.specs.declared.error.AskError.TheVariants.{Unasked, Unsure}
use Rattle.shared_store.specs.declared.error.UnaskedError.{UnaskedError}
use Rattle.shared_store.specs.declared.reply.StoreReply.{StoreReply}
use Rattle.shared_store.specs.declared.reply.StoreReply.TheVariants.{Reply, Later, Ended}
use Rattle.shared_store.specs.declared.server.EpochServer.{Ghosts}
use Rattle.shared_store.specs.declared.session.StoreSession.{StoreSession}
use Rattle.shared_store.specs.declared.session.TheConstants.{MOST_ASKS, MOST_TURNS}
use Rattle.shared_store.specs.Known.{Knows}
use Rattle.shared_store.specs.Stages.{Stage}
use Rattle.shared_store.specs.Lives.{calls_of}
use Rattle.shared_store.specs.Gaining.{Gains, NotToldAt, SafeAt, SeesCall, SeesEnd, SeesFree, SeesNoCall, TakesTurns, is_commit_reply}
use Rattle.shared_store.specs.Sharing.{GoesOn, HasEnded, IsAnswered, IsNotTold, IsSafe, IsUnasked, WasFree, seen}

-- what a seat gains, by the result
module _ (b : Stage) (s : Session) (q : Request) (v w : View LifeEntry Stage) where
  abbrev pub GainsFor : Result StoreReply AskError → Type 0
  GainsFor r = Gains b s q r v w

  pub gains_call : (o : Result StoreReply AskError) (a : StoreReply) (r : TheReply) → o ≡ Ok a → a ≡ Reply r → GainsFor o → SeesCall b s q r v w
  gains_call o a r e is f = subst GainsFor (e ∙ ap (λ (x : StoreReply). Ok x) is) f

  no_reply : (a : StoreReply) → ((r : TheReply) → a ≢ Reply r) → GainsFor (Ok a) → SeesNoCall s.0 v w
  no_reply (Reply r) n f = absurd (n r refl)
  no_reply Later n f = f
  no_reply (Ended r) n f = f

  pub gains_no_reply : (o : Result StoreReply AskError) (a : StoreReply) → o ≡ Ok a → ((r : TheReply) → a ≢ Reply r) → GainsFor o → SeesNoCall s.0 v w
  gains_no_reply o a e n f = no_reply a n (subst GainsFor e f)

  pub gains_unsure : (o : Result StoreReply AskError) → o ≡ Err Unsure → GainsFor o → SeesCall b s q Committed v w
  gains_unsure o e f = subst GainsFor e f

  pub gains_unasked : (o : Result StoreReply AskError) (t : UnaskedError) → o ≡ Err (Unasked t) → GainsFor o → SeesNoCall s.0 v w
  gains_unasked o t e f = subst GainsFor e f

-- what holds of a commit that was made
pub safe_commit : (P : Type 0) (o : Result StoreReply AskError) (a : StoreReply) → o ≡ Ok a → a ≡ Reply Committed → IfOk o (λ x. IsTrue (is_commit_reply x) → P) → P
safe_commit P o a e is h = (subst (λ (p : Result StoreReply AskError). IfOk p (λ x. IsTrue (is_commit_reply x) → P)) (e ∙ ap (λ (x : StoreReply). Ok x) is) h) refl

module _ {V L B : Type 0} {g : Ghosts V L B} (b : Stage) (old new : StoreSession V L B g) (asks : new.asks ≡ old.asks + 1) (session : new.session ≡ old.session)
    (base : (view_of old.seat).base ≡ Some b) (n : ℕ) (t : TakesTurns n (view_of old.seat) (view_of new.seat)) where
  goes_on : (more : List LifeEntry) → seen new ≡ seen old ++ more → GoesOn b old new
  goes_on more is = record { asks = asks; more = more; is = is; legal = t.legal b (t.base ∙ base) }

  pub unasked : SeesNoCall old.session.0 (view_of old.seat) (view_of new.seat) → IsUnasked b old new
  unasked m = record {
    goes_on = goes_on m.more m.is;
    calls = ap (λ (s : Session). calls_of s.0 (seen new)) session ∙ m.calls;
  }

  pub answered : (q : Request) (r : TheReply) → SeesCall b old.session q r (view_of old.seat) (view_of new.seat) → IsAnswered b old new q r
  answered q r m = record {
    goes_on = goes_on _ (m.is ∙ append_assoc (seen old) m.between _);
    between = m.between;
    short = m.short;
    stage = m.stage;
    is = m.is;
    leads = m.leads;
    reply = m.reply;
    short_of = m.short_of;
    calls = ap (λ (s : Session). calls_of s.0 (seen new)) session ∙ m.calls;
  }

pub was_free : {V L B : Type 0} {g : Ghosts V L B} (b : Stage) (old new : StoreSession V L B g) → SeesFree b old.session (view_of old.seat) (view_of new.seat) → WasFree b old new
was_free b old new m = record { between = m.between; more = m.more; stage = m.stage; is = m.is; leads = m.leads; free = m.free }

pub has_ended : {V L B : Type 0} {g : Ghosts V L B} (b : Stage) (old new : StoreSession V L B g) (other : Session) → SeesEnd b old.session other (view_of old.seat) (view_of new.seat)
    → HasEnded b old new other
has_ended b old new other m = record { between = m.between; short = m.short; stage = m.stage; is = m.is; leads = m.leads; short_of = m.short_of }

pub safe : {V L B : Type 0} {g : Ghosts V L B} (b : Stage) (p : StoreSession V L B g) → SafeAt b (view_of p.seat).seen (view_of p.log_seat).seen → IsSafe b p
safe b p s = record { stage = s.stage; leads = s.leads; kept = s.kept }

pub not_told : {V L B : Type 0} {g : Ghosts V L B} (b : Stage) (old new : StoreSession V L B g) → NotToldAt b (view_of new.seat).seen (view_of old.log_seat) (view_of new.log_seat)
    → IsNotTold b old new
not_told b old new n = record { stage = n.stage; leads = n.leads; fewer = n.fewer; looked = n.looked }

-- what a session's seat knows after some turns
pub knows_on : (s asks later n : ℕ) (v w : View LifeEntry Stage) → Knows s asks v → TakesTurns n v w → MOST_TURNS ≤ w.turns + 2 * later → later ≤ MOST_ASKS → Knows s later w
knows_on s asks later n v w k t turns few = record { owner = t.owners ∙ k.owner; turns = turns; few = few; legal = λ b e. t.legal b e }
