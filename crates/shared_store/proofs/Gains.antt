-- What a session's seat sees in a call.
use Rattle.std.proofs.Common.{◌≡◌, ℕ, List, [], ◌∷◌, ◌++◌, append_assoc, sym, ◌∙◌, ap, subst}
use Rattle.teb_rules.specs.declared.names.Reply.{Reply as TheReply}
use Rattle.teb_rules.specs.declared.names.Request.{Request}
use Rattle.teb_rules.specs.declared.names.Session.{Session}
use Rattle.turn_lock.specs.declared.view.View.{View}
use Rattle.shared_store.specs.declared.entry.LifeEntry.{LifeEntry}
use Rattle.shared_store.specs.declared.entry.LifeEntry.TheVariants.{Asked}
use Rattle.shared_store.specs.declared.answer.Answer.{Answer}
use Rattle.shared_store.specs.declared.answer.Answer.TheVariants as answer
use Rattle.shared_store.specs.declared.reply.StoreReply.TheVariants.{Reply, Later, Ended}
use Rattle.shared_store.specs.Stages.{Stage}
use Rattle.shared_store.specs.Lives.{LeadsTo}
use Rattle.shared_store.specs.declared.reply.StoreReply.{StoreReply}
use Rattle.shared_store.specs.Gaining.{Sees, SeesCall, SeesFree, SeesNoCall}
use Rattle.shared_store.specs.Turning.{IsPutOff}

-- a seat sees no call of its session, and then what an answer adds
module _ (b : Stage) (s : Session) (u v w : View LifeEntry Stage) (m : SeesNoCall s.0 u v) where
  before : (between : List LifeEntry) → v.seen ++ between ≡ u.seen ++ (m.more ++ between)
  before between = ap (λ (l : List LifeEntry). l ++ between) m.is ∙ append_assoc u.seen m.more between

  no_call_on : SeesNoCall s.0 v w → SeesNoCall s.0 u w
  no_call_on n = record { more = m.more ++ n.more; is = n.is ∙ (ap (λ (l : List LifeEntry). l ++ n.more) m.is ∙ append_assoc u.seen m.more n.more); calls = n.calls ∙ m.calls }

  call_on : (q : Request) (r : TheReply) → SeesCall b s q r v w → SeesCall b s q r u w
  call_on q r n = record {
    between = m.more ++ n.between;
    short = n.short;
    stage = n.stage;
    is = n.is ∙ ap (λ (l : List LifeEntry). l ++ Asked s s q n.short ∷ []) (before n.between);
    leads = subst (λ (l : List LifeEntry). LeadsTo b l n.stage) (before n.between) n.leads;
    reply = n.reply;
    short_of = n.short_of;
    calls = n.calls ∙ ap (λ (l : List LifeEntry). l ++ Asked s s q n.short ∷ []) m.calls;
  }

  pub free_on : SeesFree b s v w → SeesFree b s u w
  free_on n = record {
    between = m.more ++ n.between;
    more = n.more;
    stage = n.stage;
    is = n.is ∙ ap (λ (l : List LifeEntry). l ++ n.more) (before n.between);
    leads = subst (λ (l : List LifeEntry). LeadsTo b l n.stage) (before n.between) n.leads;
    free = n.free;
  }

  pub sees_on : (q : Request) (r : Answer) → Sees b s q r v w → Sees b s q r u w
  sees_on q (answer.Reply (Reply r) n) a = call_on q r a
  sees_on q (answer.Reply Later n) a = no_call_on a
  sees_on q (answer.Reply (Ended r) n) a = no_call_on a
  sees_on q answer.Drained a = no_call_on a
  sees_on q (answer.Unasked f) a = no_call_on a

-- what is seen by equal sessions from equal views
pub sees_from : (b : Stage) (r s : Session) (q : Request) (a : Answer) (u v w : View LifeEntry Stage) → r ≡ s → u ≡ v → Sees b r q a u w → Sees b s q a v w
sees_from b r s q a u v w e f h = subst (λ (p : Session × View LifeEntry Stage). Sees b p.0 q a p.1 w) (λ i. (e i, f i)) h

pub free_from : (b : Stage) (r s : Session) (u v w : View LifeEntry Stage) → r ≡ s → u ≡ v → SeesFree b r u w → SeesFree b s v w
free_from b r s u v w e f h = subst (λ (p : Session × View LifeEntry Stage). SeesFree b p.0 p.1 w) (λ i. (e i, f i)) h

-- what is seen, by the variant of the answer
module _ (b : Stage) (s : Session) (q : Request) (v w : View LifeEntry Stage) (o : Answer) (h : Sees b s q o v w) where
  at : (p : Answer) → o ≡ p → Sees b s q p v w
  at p e = subst (λ (a : Answer). Sees b s q a v w) e h

  pub sees_drained : o ≡ answer.Drained → SeesNoCall s.0 v w
  sees_drained e = at answer.Drained e

-- what holds if nothing was asked because the epoch is about to end
module _ (P : Type 0) (o : Answer) (h : IsPutOff o → P) where
  pub later_put_off : (a : StoreReply) (n : ℕ) → o ≡ answer.Reply a n → a ≡ Later → P
  later_put_off a n is e = h (subst IsPutOff (sym (is ∙ ap (λ (x : StoreReply). answer.Reply x n) e)) tt)

  pub ending_put_off : o ≡ answer.Drained → P
  ending_put_off is = h (subst IsPutOff (sym is) tt)
