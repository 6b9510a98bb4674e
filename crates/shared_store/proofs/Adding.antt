-- What a turn adds to the list.
use Rattle.std.proofs.Common.{◌≡◌, ◌≢◌, Result, Ok, Err, ℕ, suc, ◌≤◌, List, [], ◌∷◌, ◌++◌, All, append-nil, append_assoc, refl, sym, ◌∙◌, ap, subst, arith}
use Rattle.teb_rules.specs.declared.names.Reply.{Reply as TheReply}
use Rattle.teb_rules.specs.declared.names.Request.{Request}
use Rattle.teb_rules.specs.declared.names.Session.{Session}
use Rattle.turn_lock.proofs.Lists.{All_map, All_none, All_cons}
use Rattle.shared_store.specs.declared.entry.LifeEntry.{LifeEntry}
use Rattle.shared_store.specs.declared.entry.LifeEntry.TheVariants.{Asked, CommitsTaken, EpochEnded}
use Rattle.shared_store.specs.declared.entry.TheConstants.{LOG_SEAT}
use Rattle.shared_store.specs.Ending.{AddsNoCalls}
use Rattle.shared_store.specs.declared.error.UnaskedError.{UnaskedError}
use Rattle.shared_store.specs.declared.answer.Answer.{Answer}
use Rattle.shared_store.specs.declared.answer.Answer.TheVariants as answer
use Rattle.shared_store.specs.declared.reply.StoreReply.TheVariants.{Reply, Later, Ended}
use Rattle.shared_store.specs.Stages.{Stage}
use Rattle.shared_store.specs.Lives.{IsForOther, calls_of, owner_of, taken_of}
use Rattle.shared_store.specs.Turning.{Adds, AddsAsked, AddsCall, AddsForOthers, AddsResult, GrowsBy}
use Rattle.shared_store.proofs.Calls.{calls_append, for_other, none_calls}
use Rattle.shared_store.proofs.Courses.{stop_behind, taken_behind}

all_append : (P : LifeEntry → Type 0) (xs ys : List LifeEntry) → All P xs → All P ys → All P (xs ++ ys)
all_append P [] ys a b = b
all_append P (x ∷ xs) ys a b = All_cons P x (xs ++ ys) (a 0 x (omega arith)) (all_append P xs ys (λ k d l. a (suc k) d (omega arith)) b)

pub adds_nothing : (n : ℕ) (old new : List LifeEntry) → new ≡ old → AddsForOthers n old new
adds_nothing n old new e = record { more = []; is = e ∙ sym (append-nil old); mine = All_none (IsForOther n) }

pub adds_one : (n : ℕ) (e : LifeEntry) (old new : List LifeEntry) → IsForOther n e → new ≡ old ++ e ∷ [] → AddsForOthers n old new
adds_one n e old new m is = record { more = e ∷ []; is = is; mine = All_cons (IsForOther n) e [] m (All_none (IsForOther n)) }

pub adds_more : (n : ℕ) (old mid new : List LifeEntry) → AddsForOthers n old mid → AddsForOthers n mid new → AddsForOthers n old new
adds_more n old mid new p q = record {
  more = p.more ++ q.more;
  is = q.is ∙ (ap (λ (l : List LifeEntry). l ++ q.more) p.is ∙ append_assoc old p.more q.more);
  mine = all_append (IsForOther n) p.more q.more p.mine q.mine;
}

-- a request that the session makes for another session adds only an entry for it
pub adds_for_other : (first : Stage) (by s : Session) (q : Request) (o : Result TheReply UnaskedError) (old new : List LifeEntry) → s.0 ≢ by.0 → AddsResult first by s q o old new
    → AddsForOthers by.0 old new
adds_for_other first by s q (Ok r) old new o a = adds_one by.0 (Asked by s q a.short) old new (for_other by s q a.short o) a.is
adds_for_other first by s q (Err f) old new o a = adds_nothing by.0 old new a

module _ (first : Stage) (s : Session) (q : Request) (old mid new : List LifeEntry) (m : AddsForOthers s.0 old mid) (o : Result TheReply UnaskedError) (a : AddsResult first s s q o mid new) where
  adds_call : (r : TheReply) → AddsAsked first s s q r mid new → AddsCall first s q r old new
  adds_call r a = record { before = mid; short = a.short; stage = a.stage; goes_on = m; is = a.is; leads = a.leads; reply = a.reply; short_of = a.short_of }

  -- a request that the session makes for itself adds a call
  pub adds_ok : (r : TheReply) (n : ℕ) → o ≡ Ok r → Adds first s q (answer.Reply (Reply r) n) old new
  adds_ok r n e = adds_call r (subst (λ (p : Result TheReply UnaskedError). AddsResult first s s q p mid new) e a)

  pub adds_err : (f : UnaskedError) → o ≡ Err f → AddsForOthers s.0 old new
  adds_err f e = adds_more s.0 old mid new m (adds_nothing s.0 mid new (subst (λ (p : Result TheReply UnaskedError). AddsResult first s s q p mid new) e a))

pub for_others_grow : (n : ℕ) (old new : List LifeEntry) → AddsForOthers n old new → GrowsBy n old new
for_others_grow n old new m = record { more = m.more; is = m.is; mine = All_map (IsForOther n) (λ (e : LifeEntry). owner_of e ≡ n) m.more (λ e p. p.0) m.mine }

call_grows : (first : Stage) (s : Session) (q : Request) (r : TheReply) (old new : List LifeEntry) → AddsCall first s q r old new → GrowsBy s.0 old new
call_grows first s q r old new a = let P : LifeEntry → Type 0 = λ (e : LifeEntry). owner_of e ≡ s.0 in let call : LifeEntry = Asked s s q a.short in record {
  more = a.goes_on.more ++ call ∷ [];
  is = a.is ∙ (ap (λ (l : List LifeEntry). l ++ call ∷ []) a.goes_on.is ∙ append_assoc old a.goes_on.more (call ∷ []));
  mine = all_append P a.goes_on.more (call ∷ []) (All_map (IsForOther s.0) P a.goes_on.more (λ e p. p.0) a.goes_on.mine) (All_cons P call [] refl (All_none P));
}

-- every added entry is the session's own
pub adds_grow : (first : Stage) (s : Session) (q : Request) (r : Answer) (old new : List LifeEntry) → Adds first s q r old new → GrowsBy s.0 old new
adds_grow first s q (answer.Reply (Reply r) n) old new a = call_grows first s q r old new a
adds_grow first s q (answer.Reply Later n) old new a = for_others_grow s.0 old new a
adds_grow first s q (answer.Reply (Ended r) n) old new a = for_others_grow s.0 old new a
adds_grow first s q answer.Drained old new a = for_others_grow s.0 old new a
adds_grow first s q (answer.Unasked f) old new a = for_others_grow s.0 old new a

pub grows_on : (n : ℕ) (old mid new : List LifeEntry) → GrowsBy n old mid → GrowsBy n mid new → GrowsBy n old new
grows_on n old mid new p q = record {
  more = p.more ++ q.more;
  is = q.is ∙ (ap (λ (l : List LifeEntry). l ++ q.more) p.is ∙ append_assoc old p.more q.more);
  mine = all_append (λ (e : LifeEntry). owner_of e ≡ n) p.more q.more p.mine q.mine;
}

pub grows_one : (n : ℕ) (e : LifeEntry) (old new : List LifeEntry) → owner_of e ≡ n → new ≡ old ++ e ∷ [] → GrowsBy n old new
grows_one n e old new o is = record { more = e ∷ []; is = is; mine = All_cons (λ (e : LifeEntry). owner_of e ≡ n) e [] o (All_none (λ (e : LifeEntry). owner_of e ≡ n)) }

pub grows_none : (n : ℕ) (old : List LifeEntry) → GrowsBy n old old
grows_none n old = record { more = []; is = sym (append-nil old); mine = All_none (λ (e : LifeEntry). owner_of e ≡ n) }

pub no_calls : (old : List LifeEntry) → AddsNoCalls old old
no_calls old = record { more = []; is = sym (append-nil old); calls = λ n. refl; owned = All_none (λ (e : LifeEntry). owner_of e ≡ LOG_SEAT); runs = refl }

pub no_calls_taken : (old new : List LifeEntry) → new ≡ old ++ CommitsTaken ∷ [] → AddsNoCalls old new
no_calls_taken old new is = record {
  more = CommitsTaken ∷ [];
  is = is;
  calls = λ n. refl;
  owned = All_cons (λ (e : LifeEntry). owner_of e ≡ LOG_SEAT) CommitsTaken [] refl (All_none (λ (e : LifeEntry). owner_of e ≡ LOG_SEAT));
  runs = refl;
}

pub no_calls_epoch_ended : (old new : List LifeEntry) → new ≡ old ++ EpochEnded ∷ [] → AddsNoCalls old new
no_calls_epoch_ended old new is = record {
  more = EpochEnded ∷ [];
  is = is;
  calls = λ n. refl;
  owned = All_cons (λ (e : LifeEntry). owner_of e ≡ LOG_SEAT) EpochEnded [] refl (All_none (λ (e : LifeEntry). owner_of e ≡ LOG_SEAT));
  runs = refl;
}

pub no_calls_same : (old new : List LifeEntry) → new ≡ old → AddsNoCalls old new
no_calls_same old new is = record { more = []; is = is ∙ sym (append-nil old); calls = λ n. refl; owned = All_none (λ (e : LifeEntry). owner_of e ≡ LOG_SEAT); runs = refl }

pub no_calls_on : (old mid new : List LifeEntry) → AddsNoCalls old mid → AddsNoCalls mid new → AddsNoCalls old new
no_calls_on old mid new p q = record {
  more = p.more ++ q.more;
  is = q.is ∙ (ap (λ (l : List LifeEntry). l ++ q.more) p.is ∙ append_assoc old p.more q.more);
  calls = λ n. calls_append n p.more q.more ∙ (ap (λ (l : List LifeEntry). l ++ calls_of n q.more) (p.calls n) ∙ q.calls n);
  owned = all_append (λ (e : LifeEntry). owner_of e ≡ LOG_SEAT) p.more q.more p.owned q.owned;
  runs = stop_behind p.more q.more (p.more ++ q.more) refl q.runs ∙ p.runs;
}

-- what is asked for a session at the closing
module _ (first : Stage) (by s : Session) (q : Request) (old new : List LifeEntry) (seat : by.0 ≡ LOG_SEAT) (small : s.0 ≤ 32) where
  apart : s.0 ≢ by.0
  apart e = let k = seat in absurd (omega arith)

  pub closes_for : (o : Result TheReply UnaskedError) → AddsResult first by s q o old new → AddsNoCalls old new
  closes_for (Ok r) a = record {
    more = Asked by s q a.short ∷ [];
    is = a.is;
    calls = λ n. none_calls by s q a.short n apart;
    owned = All_cons (λ (e : LifeEntry). owner_of e ≡ LOG_SEAT) (Asked by s q a.short) [] seat (All_none (λ (e : LifeEntry). owner_of e ≡ LOG_SEAT));
    runs = refl;
  }
  closes_for (Err f) a = no_calls_same old new a

pub asks_taken : (first : Stage) (by s : Session) (q : Request) (o : Result TheReply UnaskedError) (old new : List LifeEntry) → AddsResult first by s q o old new → taken_of new ≡ taken_of old
asks_taken first by s q (Ok r) old new a = ap taken_of a.is ∙ taken_behind old (Asked by s q a.short ∷ []) refl
asks_taken first by s q (Err f) old new a = ap taken_of a
