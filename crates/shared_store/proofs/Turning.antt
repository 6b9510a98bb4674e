-- One turn at the front: what was taken, what is put back, and what the seat knows then.
use Rattle.std.proofs.Common.{◌≡◌, ℕ, ◌+◌, Bool, false, List, [], ◌∷◌, ◌++◌, Some, All, append-nil, append_assoc, refl, sym, ◌∙◌, ap, subst, arith}
use mathlib.Core.Logic.{∥∥₁_map}
use Rattle.teb_rules.specs.declared.names.Reply.{Reply as TheReply}
use Rattle.teb_rules.specs.declared.names.Request.{Request}
use Rattle.teb_rules.specs.declared.names.Session.{Session}
use Rattle.teb_rules.specs.declared.history.Event.{Event}
use Rattle.teb_rules.specs.Setup.{Store}
use Rattle.turn_lock.specs.declared.view.View.{View}
use Rattle.turn_lock.specs.Counts.{times, Has}
use Rattle.turn_lock.specs.Views.{departed}
use Rattle.turn_lock.specs.Calls.{Follows, Enters, Adds}
use Rattle.turn_lock.proofs.Counts.{same_yes}
use Rattle.turn_lock.proofs.Lists.{All_cons, All_map, All_none, Some_is}
use Rattle.shared_store.specs.declared.entry.LifeEntry.{LifeEntry}
use Rattle.shared_store.specs.declared.entry.LifeEntry.TheVariants.{Asked, LogFailed}
use Rattle.shared_store.specs.declared.entry.TheConstants.{LOG_SEAT}
use Rattle.shared_store.specs.declared.answer.Answer.{Answer}
use Rattle.shared_store.specs.declared.answer.Answer.TheVariants as answer
use Rattle.shared_store.specs.declared.reply.StoreReply.TheVariants.{Reply, Later, Ended}
use Rattle.shared_store.specs.declared.server.EpochServer.{Ghosts}
use Rattle.shared_store.specs.declared.hosted.Hosted.{Hosted}
use Rattle.shared_store.specs.Beginning.{holds}
use Rattle.shared_store.specs.Stages.{Stage, first_stage}
use Rattle.shared_store.specs.Holding.{IsBrought, IsKept, stage_of}
use Rattle.shared_store.specs.Seated.{IsKeptAt}
use Rattle.shared_store.specs.Lives.{IsLegalLife, IsShortOf, LeadsTo, Runs, calls_of, has_stop, owner_of, taken_of}
use Rattle.shared_store.specs.Hosting.{entries_in, note_in, first_of}
use Rattle.shared_store.specs.Turning.{AddsCall, AddsEnd, AddsForOthers, GrowsBy, IsNumbered}
use Rattle.shared_store.specs.Turning as turning
use Rattle.shared_store.specs.Gaining.{IsCountedIn, LogTurn, Sees, SeesCall, SeesEnd, SeesFree, SeesNoCall, TakesBatch, TakesNone, TakesTurns, TellsFailure}
use Rattle.shared_store.proofs.Calls.{calls_append, for_others_none, one_call, others_none}
use Rattle.shared_store.proofs.Courses.{others_stop_none, others_take_none, stop_behind, taken_behind}
use Rattle.shared_store.proofs.Living.{is_legal}
use Rattle.shared_store.proofs.Keeping.{kept_still}

-- what a session sees of added entries that follow entries of others
module _ (s : Session) (v w : View LifeEntry Stage) (o : v.owners ≡ s.0 ∷ []) (between : List LifeEntry) (others : All (λ (e : LifeEntry). times (owner_of e) v.owners ≡ 0) between) where
  more_calls : (more : List LifeEntry) → calls_of s.0 more ≡ [] → calls_of s.0 (v.seen ++ (between ++ more)) ≡ calls_of s.0 v.seen
  more_calls more b = ap (calls_of s.0) (sym (append_assoc v.seen between more))
      ∙ (calls_append s.0 (v.seen ++ between) more ∙ (ap (λ (p : List LifeEntry × List LifeEntry). p.0 ++ p.1) (λ i. (others_none s.0 v.owners v.seen between o others i, b i))
      ∙ append-nil (calls_of s.0 v.seen)))

  pub sees_no_call : AddsForOthers s.0 (v.seen ++ between) w.seen → SeesNoCall s.0 v w
  sees_no_call a = record {
    more = between ++ a.more;
    is = is;
    calls = ap (calls_of s.0) is ∙ more_calls a.more (for_others_none s.0 a.more a.mine);
  }
    where
      is : w.seen ≡ v.seen ++ (between ++ a.more)
      is = a.is ∙ append_assoc v.seen between a.more

  pub sees_call : (b : Stage) (q : Request) (r : TheReply) → AddsCall b s q r (v.seen ++ between) w.seen → SeesCall b s q r v w
  sees_call b q r a = record {
    between = between ++ a.goes_on.more;
    short = a.short;
    stage = a.stage;
    is = is;
    leads = subst (λ (l : List LifeEntry). LeadsTo b l a.stage) before a.leads;
    reply = a.reply;
    short_of = a.short_of;
    calls = ap (calls_of s.0) is ∙ (calls_append s.0 (v.seen ++ (between ++ a.goes_on.more)) (call ∷ [])
        ∙ ap (λ (p : List LifeEntry × List LifeEntry). p.0 ++ p.1) (λ i. (more_calls a.goes_on.more (for_others_none s.0 a.goes_on.more a.goes_on.mine) i, one_call s q a.short i)));
  }
    where
      call : LifeEntry
      call = Asked s s q a.short

      before : a.before ≡ v.seen ++ (between ++ a.goes_on.more)
      before = a.goes_on.is ∙ append_assoc v.seen between a.goes_on.more

      is : w.seen ≡ (v.seen ++ (between ++ a.goes_on.more)) ++ call ∷ []
      is = a.is ∙ ap (λ (l : List LifeEntry). l ++ call ∷ []) before

  pub sees : (b : Stage) (q : Request) (r : Answer) → turning.Adds b s q r (v.seen ++ between) w.seen → Sees b s q r v w
  sees b q (answer.Reply (Reply r) n) a = sees_call b q r a
  sees b q (answer.Reply Later n) a = sees_no_call a
  sees b q (answer.Reply (Ended r) n) a = sees_no_call a
  sees b q answer.Drained a = sees_no_call a
  sees b q (answer.Unasked f) a = sees_no_call a

module _ {V L B : Type 0} {g : Ghosts V L B} (s : ℕ) (v0 v1 : View LifeEntry Stage) (x0 x1 : Hosted V L B g) where
  -- x0 was taken with the view v1, and x1 is to be put back with it
  pub record Took : Type 0 where
    pub owner : v0.owners ≡ s ∷ []
    pub follows : Follows entries_in owner_of note_in first_of v0 x0
    pub enters : Enters entries_in note_in v0 x0 v1
    pub grows : GrowsBy s (entries_in x0) (entries_in x1)
    pub first : x1.first ≡ x0.first

  same_base : Took → first_of x1 ≡ first_of x0
  same_base t = ap (λ f. first_stage (g.standing f.value)) t.first

  base_is : Took → v1.base ≡ Some (first_of x1)
  base_is t = t.enters.base ∙ (t.follows.has_base ∙ ap (λ (b : Stage). Some b) (sym (same_base t)))

  own : (os : List ℕ) (n : ℕ) → os ≡ s ∷ [] → n ≡ s → Has os n
  own os n e k = let one = same_yes n s k in let z : times n os ≡ times n (s ∷ []) = ap (times n) e in omega arith

  -- x1 may be put back
  pub adds : Took → Adds entries_in owner_of note_in first_of v1 x1
  adds t = record {
    has_base = base_is t;
    more = t.grows.more;
    is = t.grows.is ∙ ap (λ (l : List LifeEntry). l ++ t.grows.more) (sym t.enters.seen);
    mine = All_map (λ (e : LifeEntry). owner_of e ≡ s) (λ (e : LifeEntry). Has v1.owners (owner_of e)) t.grows.more (λ e k. own v1.owners (owner_of e) (t.enters.owners ∙ t.owner) k) t.grows.mine;
    has_notes = λ i. sym (t.enters.notes i);
  }

  module _ (w : View LifeEntry Stage) (t : Took) (e : w ≡ departed (entries_in x1) v1) where
    seen : w.seen ≡ entries_in x1
    seen = ap (λ (v : View LifeEntry Stage). v.seen) e

    base : w.base ≡ v0.base
    base = ap (λ (v : View LifeEntry Stage). v.base) e ∙ t.enters.base

    owners : w.owners ≡ v0.owners
    owners = ap (λ (v : View LifeEntry Stage). v.owners) e ∙ t.enters.owners

    turns : w.turns + 1 ≡ v0.turns
    turns = let k : w.turns ≡ v1.turns = ap (λ (v : View LifeEntry Stage). v.turns) e in let n = t.enters.turns in omega arith

    -- what the seat knows once x1 is put back
    pub takes : TakesTurns 1 v0 w
    takes = record {
      base = base;
      owners = owners;
      turns = (let k = turns in omega arith);
      legal = λ b h. subst (λ (y : Stage × List LifeEntry). IsLegalLife y.0 y.1) (λ i. (its b h i, sym seen i))
          (is_legal (first_of x1) (stage_of x1.past x1.stopped (g.standing x1.server)) (entries_in x1) x1.life.leads);
    }
      where
        its : (b : Stage) → w.base ≡ Some b → first_of x1 ≡ b
        its b h = Some_is (sym (ap (λ (v : View LifeEntry Stage). v.base) e ∙ base_is t) ∙ h)

    pub log_turn : LogTurn v0 w
    log_turn = record { base = base; owners = owners; turns = turns }

    -- the base of the turn is the stage with which the life of x0 began
    first_is : (b : Stage) → v0.base ≡ Some b → first_of x0 ≡ b
    first_is b h = Some_is (sym t.follows.has_base ∙ h)

    found : (P : List LifeEntry → List LifeEntry → Type 0) → P (entries_in x0) (entries_in x1) → P (v0.seen ++ t.follows.goes.more) w.seen
    found P p = subst (λ (l : List LifeEntry × List LifeEntry). P l.0 l.1) (λ i. (t.follows.goes.is i, sym seen i)) p

    pub counts : (b : Stage) (r : Answer) → v0.base ≡ Some b → IsNumbered x1.commits r → IsCountedIn b r w.seen
    counts b (answer.Reply a n) h k = record {
      stage = stage_of x1.past x1.stopped (g.standing x1.server);
      leads = subst (λ (y : Stage × List LifeEntry). LeadsTo y.0 y.1 (stage_of x1.past x1.stopped (g.standing x1.server))) (λ i. ((same_base t ∙ first_is b h) i, sym seen i)) x1.life.leads;
      counted = k ∙ x1.life.counted;
    }
    counts b answer.Drained h k = tt
    counts b (answer.Unasked f) h k = tt

-- what a session that asked sees
module _ {V L B : Type 0} {g : Ghosts V L B} (s : Session) (v0 v1 : View LifeEntry Stage) (x0 x1 : Hosted V L B g) (w : View LifeEntry Stage) (t : Took s.0 v0 v1 x0 x1)
    (e : w ≡ departed (entries_in x1) v1) where
  pub sees_answer : (b : Stage) (q : Request) (r : Answer) → v0.base ≡ Some b → turning.Adds (first_of x0) s q r (entries_in x0) (entries_in x1) → Sees b s q r v0 w
  sees_answer b q r h a =
      sees s v0 w t.owner t.follows.goes.more t.follows.goes.others b q r
      (found s.0 v0 v1 x0 x1 w t e (λ (l m : List LifeEntry). turning.Adds b s q r l m)
      (subst (λ (y : Stage). turning.Adds y s q r (entries_in x0) (entries_in x1)) (first_is s.0 v0 v1 x0 x1 w t e b h) a))

  -- it held no transaction in what was taken
  pub sees_free : (b : Stage) → v0.base ≡ Some b → holds (g.standing x0.server).events s ≡ false → SeesFree b s v0 w
  sees_free b h n = record {
    between = t.follows.goes.more;
    more = t.grows.more;
    stage = stage_of x0.past x0.stopped (g.standing x0.server);
    is = seen s.0 v0 v1 x0 x1 w t e ∙ (t.grows.is ∙ ap (λ (l : List LifeEntry). l ++ t.grows.more) t.follows.goes.is);
    leads = subst (λ (y : Stage × List LifeEntry). LeadsTo y.0 y.1 (stage_of x0.past x0.stopped (g.standing x0.server))) (λ i. (first_is s.0 v0 v1 x0 x1 w t e b h i, t.follows.goes.is i))
        x0.life.leads;
    free = n;
  }

  -- it ended the transaction of another session
  pub sees_end : (b : Stage) (other : Session) → v0.base ≡ Some b → AddsEnd (first_of x0) s other (entries_in x0) (entries_in x1) → SeesEnd b s other v0 w
  sees_end b other h a =
      let at : AddsEnd b s other (v0.seen ++ t.follows.goes.more) w.seen = found s.0 v0 v1 x0 x1 w t e (λ (l m : List LifeEntry). AddsEnd b s other l m)
      (subst (λ (y : Stage). AddsEnd y s other (entries_in x0) (entries_in x1)) (first_is s.0 v0 v1 x0 x1 w t e b h) a) in
      record {
        between = t.follows.goes.more;
        short = at.1.short;
        stage = at.1.stage;
        is = at.1.is;
        leads = at.1.leads;
        short_of = subst (λ (r : TheReply). IsShortOf r at.1.short) at.1.reply at.1.short_of;
      }

  pub sees_none : AddsForOthers s.0 (entries_in x0) (entries_in x1) → SeesNoCall s.0 v0 w
  sees_none a = sees_no_call s v0 w t.owner t.follows.goes.more t.follows.goes.others (found s.0 v0 v1 x0 x1 w t e (λ (l m : List LifeEntry). AddsForOthers s.0 l m) a)

pub mark_grows : (mark : LifeEntry) (old new : List LifeEntry) → owner_of mark ≡ LOG_SEAT → new ≡ old ++ mark ∷ [] → GrowsBy LOG_SEAT old new
mark_grows mark old new o is = record { more = mark ∷ []; is = is; mine = All_cons (λ (e : LifeEntry). owner_of e ≡ LOG_SEAT) mark [] o (All_none (λ (e : LifeEntry). owner_of e ≡ LOG_SEAT)) }

-- a turn of the log's seat
module _ {V L B : Type 0} {g : Ghosts V L B} (v0 v1 : View LifeEntry Stage) (x0 x1 : Hosted V L B g) (w : View LifeEntry Stage) (t : Took LOG_SEAT v0 v1 x0 x1) (e : w ≡ departed (entries_in x1) v1)
  where
    still : taken_of (entries_in x0) ≡ taken_of v0.seen
    still = ap taken_of t.follows.goes.is ∙ taken_behind v0.seen t.follows.goes.more (others_take_none v0.owners t.follows.goes.more t.owner t.follows.goes.others)

    same_stops : has_stop (entries_in x0) ≡ has_stop v0.seen
    same_stops = stop_behind v0.seen t.follows.goes.more (entries_in x0) t.follows.goes.is (others_stop_none v0.owners t.follows.goes.more t.owner t.follows.goes.others)

    pub takes_batch : (brings : Store → List Event → List Event → Type 0) (commits : ℕ) → ∥ IsBrought brings (first_of x0) commits (entries_in x0) (entries_in x1) ∥₁ → TakesBatch brings commits v0 w
    takes_batch brings commits h = record {
      brought = λ b z. ∥∥₁_map h (λ q.
          let P : List LifeEntry × List LifeEntry × Stage → Type 0 = λ p. Runs p.2 p.0 q.before × Runs p.2 (taken_of p.1) q.after in
          let r = subst P (λ i. (still i, sym (seen LOG_SEAT v0 v1 x0 x1 w t e) i, first_is LOG_SEAT v0 v1 x0 x1 w t e b z i)) (q.begins, q.ends) in
          record {
            before = q.before;
            after = q.after;
            begins = r.0;
            ends = r.1;
            store = q.store;
            past = q.past;
            fewer = q.fewer;
            counted = q.counted;
            brought = q.brought;
            runs = λ n. ap (λ (l : List LifeEntry). has_stop l) (seen LOG_SEAT v0 v1 x0 x1 w t e) ∙ q.runs (same_stops ∙ n);
          });
    }

    pub takes_none : entries_in x1 ≡ entries_in x0 ++ LogFailed ∷ [] → TakesNone v0 w
    takes_none is = record { same = ap taken_of (seen LOG_SEAT v0 v1 x0 x1 w t e ∙ is) ∙ (taken_behind (entries_in x0) (LogFailed ∷ []) refl ∙ still) }

    pub tells_failure : entries_in x1 ≡ entries_in x0 ++ LogFailed ∷ [] → TellsFailure w.seen
    tells_failure is = record { before = entries_in x0; is = seen LOG_SEAT v0 v1 x0 x1 w t e ∙ is }

    -- what the log keeps of what the seat has seen, it keeps of the life in x0
    pub kept_found : (keep : Store → List Event → ℕ → Type 0) (failed : Bool) (total : ℕ) → IsKeptAt keep failed total v0 → ∥ IsKept keep (first_of x0) failed total (entries_in x0) ∥₁
    kept_found keep failed total k = kept_still keep (first_of x0) failed failed total v0.seen (entries_in x0) still (λ y. y) (λ _. same_stops) (k.kept (first_of x0) t.follows.has_base)

    -- what the log keeps of the life in x1, it keeps of what the seat has seen then
    pub kept_left : (keep : Store → List Event → ℕ → Type 0) (failed : Bool) (total : ℕ) → ∥ IsKept keep (first_of x0) failed total (entries_in x1) ∥₁ → IsKeptAt keep failed total w
    kept_left keep failed total k = record {
      kept = λ b z. subst (λ (p : Stage × List LifeEntry). ∥ IsKept keep p.0 failed total p.1 ∥₁)
          (λ i. (first_is LOG_SEAT v0 v1 x0 x1 w t e b (sym (base LOG_SEAT v0 v1 x0 x1 w t e) ∙ z) i, sym (seen LOG_SEAT v0 v1 x0 x1 w t e) i)) k;
    }
