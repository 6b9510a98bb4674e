-- How a request, a taking and a failure of the log extend a life.
use Rattle.std.proofs.Common.{◌≡◌, Result, Ok, Err, ℕ, ◌+◌, ◌≤◌, Bool, true, false, List, [], ◌∷◌, ◌++◌, Option, refl, sym, ◌∙◌, ap, subst, arith}
use mathlib.Core.Logic.{∥∥₁_map, ∥∥₁_map₂}
use Rattle.teb_rules.specs.declared.names.Reply.{Reply}
use Rattle.teb_rules.specs.declared.names.Request.{Request}
use Rattle.teb_rules.specs.declared.names.Session.{Session}
use Rattle.short_reply.specs.declared.ShortReply.{ShortReply}
use Rattle.teb_rules.specs.declared.history.Event.{Event}
use Rattle.teb_rules.specs.Answer.{answer}
use Rattle.teb_rules.specs.Setup.{Store}
use Rattle.commit_laws.specs.Commits.{commit_count}
use Rattle.shared_store.specs.declared.entry.LifeEntry.{LifeEntry}
use Rattle.shared_store.specs.declared.entry.LifeEntry.TheVariants.{Asked, CommitsTaken, EpochEnded, LogFailed}
use Rattle.shared_store.specs.declared.error.UnaskedError.{UnaskedError}
use Rattle.shared_store.specs.Beginning.{HasRoomFor}
use Rattle.shared_store.specs.Commits.{commits_in}
use Rattle.shared_store.specs.Stages.{Stage, IsNextEpoch, commits_at, first_stage}
use Rattle.shared_store.specs.Lives.{IsLegalLife, IsShortOf, LeadsTo, Runs, taken_of}
use Rattle.shared_store.specs.Served.{IsAnsweredBy, IsBegun, IsServed, Standing}
use Rattle.shared_store.specs.Holding.{IsBrought, IsKept, IsLifeOf, IsWaiting, stage_of}
use Rattle.shared_store.proofs.Counting.{answer_counted}
use Rattle.shared_store.proofs.Courses.{no_stop, runs_on, stop_behind, taken_all, taken_behind}

leads_on : (g h k : Stage) (xs ys : List LifeEntry) → LeadsTo g xs h → Runs h ys k → LeadsTo g (xs ++ ys) k
leads_on g h k xs ys l q = ∥∥₁_map l (λ r. runs_on g h k xs ys r q)

pub is_legal : (g h : Stage) (es : List LifeEntry) → LeadsTo g es h → IsLegalLife g es
is_legal g h es l = ∥∥₁_map l (λ r. (h, r))

pub nothing_legal : (b : Stage) (es : List LifeEntry) → es ≡ [] → IsLegalLife b es
nothing_legal b es e = subst (λ (l : List LifeEntry). IsLegalLife b l) (sym e) ∣ (b, refl) ∣₁

pub no_commits : (H : List Event) → H ≡ [] → commit_count H ≡ 0
unfolding commit_count
no_commits H e = ap commit_count e

-- a new life
pub life_first : (x : Standing) (es : List LifeEntry) (commits past : ℕ) (stopped : Bool) → es ≡ [] → x.events ≡ [] → commits ≡ 0 → past ≡ 0 → stopped ≡ false
    → IsLifeOf (first_stage x) (stage_of past stopped x) commits es
life_first x es commits past stopped e none c p s = record {
  leads = subst (λ (y : List LifeEntry × ℕ × Bool). LeadsTo (first_stage x) y.0 (stage_of y.1 y.2 x)) (λ i. (sym e i, sym p i, sym s i)) ∣ refl ∣₁;
  counted = (let z = no_commits x.events none in omega arith);
}

pub waiting_first : (w : List Event → Type 0) (x : Standing) (es : List LifeEntry) (past : ℕ) (stopped : Bool) → es ≡ [] → x.events ≡ [] → past ≡ 0 → ∥ w [] ∥₁
    → ∥ IsWaiting w (first_stage x) (stage_of past stopped x) es ∥₁
waiting_first w x es past stopped e none p h = ∥∥₁_map h (λ q. record {
  taken = first_stage x;
  leads = subst (λ (l : List LifeEntry). Runs (first_stage x) (taken_of l) (first_stage x)) (sym e) refl;
  store = refl;
  past = sym p;
  fewer = (let z : 0 + commit_count x.events ≤ past + commit_count x.events = omega arith in z);
  wait = subst w (sym none) q;
})

module _ (first : Stage) (x y : Standing) (past : ℕ) (stopped : Bool) (commits : ℕ) (es : List LifeEntry) (l : IsLifeOf first (stage_of past stopped x) commits es) where
  abbrev now : Stage
  now = stage_of past stopped x

  -- a life extended by a request
  pub life_asked : (by s : Session) (q : Request) (r : Reply) (short : Option ShortReply) (new : List LifeEntry) (count : ℕ) → stopped ≡ false → HasRoomFor x.events s q → IsAnsweredBy x y s q r
      → IsShortOf r short
      → count ≡ commits + commits_in r → new ≡ es ++ Asked by s q short ∷ [] → IsLifeOf first (stage_of past stopped y) count new
  life_asked by s q r short new count runs room a h c is = record {
    leads = subst (λ (n : List LifeEntry). LeadsTo first n (stage_of past stopped y)) (sym is) (leads_on first now (stage_of past stopped y) es (Asked by s q short ∷ []) l.leads (
      stage_of past stopped y,
      record {
        runs = runs;
        room = room;
        reply = subst (λ (p : Reply). IsShortOf p short) a.reply h;
        next = λ i. record { standing = record { store = a.store i; events = a.events i }; past = past; stopped = stopped };
      },
      refl,
    ));
    counted = (
        let k = l.counted in
        let n = answer_counted x.store x.events s q in
        let e : commit_count y.events ≡ commit_count (answer x.store x.events s q).1 = ap commit_count a.events in
        let m : commits_in r ≡ commits_in (answer x.store x.events s q).0 = ap commits_in a.reply in
        omega arith
        );
  }

  -- a life extended by a mark that leaves the stage
  pub life_taken : (new : List LifeEntry) → y ≡ x → new ≡ es ++ CommitsTaken ∷ [] → IsLifeOf first (stage_of past stopped y) commits new
  life_taken new e is = subst (λ (p : Standing × List LifeEntry). IsLifeOf first (stage_of past stopped p.0) commits p.1) (λ i. (sym e i, sym is i))
      record { leads = leads_on first now now es (CommitsTaken ∷ []) l.leads (now, refl, refl); counted = l.counted }

  pub life_stopped : (new : List LifeEntry) (stop : Bool) → stop ≡ true → new ≡ es ++ LogFailed ∷ [] → IsLifeOf first (stage_of past stop x) commits new
  life_stopped new stop t is = subst (λ (p : Bool × List LifeEntry). IsLifeOf first (stage_of past p.0 x) commits p.1) (λ i. (sym t i, sym is i))
      record { leads = leads_on first now (stage_of past true x) es (LogFailed ∷ []) l.leads (stage_of past true x, refl, refl); counted = l.counted }

  pub life_same : y ≡ x → IsLifeOf first (stage_of past stopped y) commits es
  life_same e = subst (λ (p : Standing). IsLifeOf first (stage_of past stopped p) commits es) (sym e) l

  -- once all is taken, no commit waits
  pub waiting_none : (w : List Event → Type 0) (new : List LifeEntry) → y ≡ x → new ≡ es ++ CommitsTaken ∷ [] → w y.events → ∥ IsWaiting w first (stage_of past stopped y) new ∥₁
  waiting_none w new e is q = ∥∥₁_map l.leads (λ r. record {
    taken = stage_of past stopped y;
    leads = subst (λ (p : Standing × List LifeEntry). Runs first p.1 (stage_of past stopped p.0)) (λ i. (sym e i, sym (ap taken_of is ∙ taken_all es CommitsTaken refl) i))
        (runs_on first now now es (CommitsTaken ∷ []) r (now, refl, refl));
    store = refl;
    past = refl;
    fewer = (let z : past + commit_count y.events ≤ past + commit_count y.events = omega arith in z);
    wait = q;
  })

  -- the commits that were taken are brought to the log
  pub brings_all : (w : List Event → Type 0) (brings : Store → List Event → List Event → Type 0) (new : List LifeEntry) → new ≡ es ++ CommitsTaken ∷ []
      → ((H : List Event) → w H → brings x.store H x.events)
      → ∥ IsWaiting w first now es ∥₁ → ∥ IsBrought brings first commits es new ∥₁
  brings_all w brings new is b h = ∥∥₁_map₂ h l.leads (λ q r. record {
    before = q.taken;
    after = now;
    begins = q.leads;
    ends = subst (λ (n : List LifeEntry). Runs first n now) (sym (ap taken_of is ∙ taken_all es CommitsTaken refl)) (runs_on first now now es (CommitsTaken ∷ []) r (now, refl, refl));
    store = q.store;
    past = q.past;
    fewer = q.fewer;
    counted = l.counted;
    brought = b q.taken.standing.events q.wait;
    runs = λ n. stop_behind es (CommitsTaken ∷ []) new is refl ∙ n;
  })

module _ (w v : List Event → Type 0) (goes_on : (H : List Event) → w H → v H) (first : Stage) (x y : Standing) (past : ℕ) (stopped : Bool) (es : List LifeEntry)
    (h : ∥ IsWaiting w first (stage_of past stopped x) es ∥₁) where
  pub waiting_asked : (by s : Session) (q : Request) (r : Reply) (short : Option ShortReply) (new : List LifeEntry) → IsAnsweredBy x y s q r → new ≡ es ++ Asked by s q short ∷ []
      → ∥ IsWaiting v first (stage_of past stopped y) new ∥₁
  waiting_asked by s q r short new a is = ∥∥₁_map h (λ k. record {
    taken = k.taken;
    leads = subst (λ (n : List LifeEntry). Runs first n k.taken) (sym (ap taken_of is ∙ taken_behind es (Asked by s q short ∷ []) refl)) k.leads;
    store = k.store ∙ sym a.store;
    past = k.past;
    fewer = (
        let n = answer_counted x.store x.events s q in
        let e : commit_count y.events ≡ commit_count (answer x.store x.events s q).1 = ap commit_count a.events in
        let f = k.fewer in
        let z : commits_at k.taken ≤ past + commit_count y.events = omega arith in z
        );
    wait = goes_on k.taken.standing.events k.wait;
  })

  pub waiting_same : y ≡ x → ∥ IsWaiting v first (stage_of past stopped y) es ∥₁
  waiting_same e = ∥∥₁_map h (λ k. record {
    taken = k.taken;
    leads = k.leads;
    store = k.store ∙ ap (λ (p : Standing). p.store) (sym e);
    past = k.past;
    fewer = subst (λ (p : Standing). commits_at k.taken ≤ past + commit_count p.events) (sym e) k.fewer;
    wait = goes_on k.taken.standing.events k.wait;
  })

  pub waiting_stopped : (new : List LifeEntry) (stop : Bool) → new ≡ es ++ LogFailed ∷ [] → ∥ IsWaiting v first (stage_of past stop x) new ∥₁
  waiting_stopped new stop is = ∥∥₁_map h (λ k. record {
    taken = k.taken;
    leads = subst (λ (n : List LifeEntry). Runs first n k.taken) (sym (ap taken_of is ∙ taken_behind es (LogFailed ∷ []) refl)) k.leads;
    store = k.store;
    past = k.past;
    fewer = k.fewer;
    wait = goes_on k.taken.standing.events k.wait;
  })

-- a life extended by a result of the server
module _ (first : Stage) (x y : Standing) (past : ℕ) (stopped : Bool) (commits : ℕ) (es : List LifeEntry) (l : IsLifeOf first (stage_of past stopped x) commits es) (s : Session) (q : Request)
    (o : Result Reply UnaskedError) (a : IsServed x y s q o) where
  pub served_life : (by : Session) (r : Reply) (short : Option ShortReply) (new : List LifeEntry) (count : ℕ) → stopped ≡ false → HasRoomFor x.events s q → o ≡ Ok r → IsShortOf r short
      → count ≡ commits + commits_in r
      → new ≡ es ++ Asked by s q short ∷ [] → IsLifeOf first (stage_of past stopped y) count new
  served_life by r short new count runs room e h c is = life_asked first x y past stopped commits es l by s q r short new count runs room (subst (IsServed x y s q) e a) h c is

  pub unserved_life : (f : UnaskedError) → o ≡ Err f → IsLifeOf first (stage_of past stopped y) commits es
  unserved_life f e = life_same first x y past stopped commits es l (subst (IsServed x y s q) e a)

module _ (w v : List Event → Type 0) (goes_on : (H : List Event) → w H → v H) (first : Stage) (x y : Standing) (past : ℕ) (stopped : Bool) (es : List LifeEntry)
    (h : ∥ IsWaiting w first (stage_of past stopped x) es ∥₁) (s : Session) (q : Request) (o : Result Reply UnaskedError) (a : IsServed x y s q o) where
  pub served_waiting : (by : Session) (r : Reply) (short : Option ShortReply) (new : List LifeEntry) → o ≡ Ok r → new ≡ es ++ Asked by s q short ∷ []
      → ∥ IsWaiting v first (stage_of past stopped y) new ∥₁
  served_waiting by r short new e is = waiting_asked w v goes_on first x y past stopped es h by s q r short new (subst (IsServed x y s q) e a) is

  pub unserved_waiting : (f : UnaskedError) → o ≡ Err f → ∥ IsWaiting v first (stage_of past stopped y) es ∥₁
  unserved_waiting f e = waiting_same w v goes_on first x y past stopped es h (subst (IsServed x y s q) e a)

-- a server that is as it was at first has a new life
pub new_life : (x f : Standing) (es : List LifeEntry) → f ≡ x → es ≡ [] → x.events ≡ [] → IsLifeOf (first_stage f) (stage_of 0 false x) 0 es
new_life x f es e none fresh = subst (λ (y : Standing). IsLifeOf (first_stage y) (stage_of 0 false x) 0 es) (sym e) (life_first x es 0 0 false none fresh refl refl refl)

pub new_waiting : (w : List Event → Type 0) (x f : Standing) (es : List LifeEntry) → f ≡ x → es ≡ [] → x.events ≡ [] → ∥ w [] ∥₁ → ∥ IsWaiting w (first_stage f) (stage_of 0 false x) es ∥₁
new_waiting w x f es e none fresh h = subst (λ (y : Standing). ∥ IsWaiting w (first_stage y) (stage_of 0 false x) es ∥₁) (sym e) (waiting_first w x es 0 false none fresh refl h)

-- an epoch has ended
module _ (first : Stage) (x y : Standing) (past commits : ℕ) (stopped : Bool) (es new : List LifeEntry) (l : IsLifeOf first (stage_of past stopped x) commits es) (runs : stopped ≡ false)
    (begun : IsBegun x y) (is : new ≡ es ++ EpochEnded ∷ []) where
  next : IsNextEpoch (stage_of past stopped x) (stage_of commits stopped y)
  next = record { runs = (runs, runs); begun = begun; past = l.counted }

  pub life_epoch_ended : IsLifeOf first (stage_of commits stopped y) commits new
  life_epoch_ended = record {
    leads = subst (λ (n : List LifeEntry). LeadsTo first n (stage_of commits stopped y)) (sym is)
        (leads_on first (stage_of past stopped x) (stage_of commits stopped y) es (EpochEnded ∷ []) l.leads (stage_of commits stopped y, next, refl));
    counted = (let z = no_commits y.events begun.events in omega arith);
  }

  runs_epoch_ended : Runs first es (stage_of past stopped x) → Runs first (taken_of new) (stage_of commits stopped y)
  runs_epoch_ended r = subst (λ (n : List LifeEntry). Runs first n (stage_of commits stopped y)) (sym (ap taken_of is ∙ taken_all es EpochEnded refl))
      (runs_on first (stage_of past stopped x) (stage_of commits stopped y) es (EpochEnded ∷ []) r (stage_of commits stopped y, next, refl))

  pub waiting_epoch_ended : (w : List Event → Type 0) → ∥ w [] ∥₁ → ∥ IsWaiting w first (stage_of commits stopped y) new ∥₁
  waiting_epoch_ended w h = ∥∥₁_map₂ h l.leads (λ q r. record {
    taken = stage_of commits stopped y;
    leads = runs_epoch_ended r;
    store = refl;
    past = refl;
    fewer = (let z : commits + commit_count y.events ≤ commits + commit_count y.events = omega arith in z);
    wait = subst w (sym begun.events) q;
  })

  pub kept_epoch_ended : (keep : Store → List Event → ℕ → Type 0) → ∥ keep y.store [] 0 ∥₁ → ∥ IsKept keep first false commits new ∥₁
  kept_epoch_ended keep h = ∥∥₁_map₂ h l.leads (λ q r. record {
    taken = stage_of commits stopped y;
    leads = runs_epoch_ended r;
    count = 0;
    keeps = subst (λ (H : List Event). keep y.store H 0) (sym begun.events) q;
    counted = (let z : commits ≡ commits + 0 = omega arith in z);
    all = λ _. sym (no_commits y.events begun.events);
    runs = λ _. stop_behind es (EpochEnded ∷ []) new is refl ∙ no_stop first (stage_of past stopped x) es r runs;
  })

-- an epoch goes on, and all its entries were taken
module _ (first : Stage) (x y : Standing) (past commits : ℕ) (stopped : Bool) (es : List LifeEntry) (l : IsLifeOf first (stage_of past stopped x) commits es) (same : y ≡ x)
    (taken : taken_of es ≡ es) where
  pub waiting_on : (w : List Event → Type 0) → ∥ w x.events ∥₁ → ∥ IsWaiting w first (stage_of past stopped y) es ∥₁
  waiting_on w h = subst (λ (z : Standing). ∥ IsWaiting w first (stage_of past stopped z) es ∥₁) (sym same) (∥∥₁_map₂ h l.leads (λ q r. record {
    taken = stage_of past stopped x;
    leads = subst (λ (n : List LifeEntry). Runs first n (stage_of past stopped x)) (sym taken) r;
    store = refl;
    past = refl;
    fewer = (let z : past + commit_count x.events ≤ past + commit_count x.events = omega arith in z);
    wait = q;
  }))

  pub kept_on : (keep : Store → List Event → ℕ → Type 0) → stopped ≡ false → ∥ keep x.store x.events (commit_count x.events) ∥₁ → ∥ IsKept keep first false commits es ∥₁
  kept_on keep f h = ∥∥₁_map₂ h l.leads (λ q r. record {
    taken = stage_of past stopped x;
    leads = subst (λ (n : List LifeEntry). Runs first n (stage_of past stopped x)) (sym taken) r;
    count = commit_count x.events;
    keeps = q;
    counted = l.counted;
    all = λ _. refl;
    runs = λ _. no_stop first (stage_of past stopped x) es r f;
  })

-- if the last entry is a taking, the whole life was taken
pub all_taken : (first now : Stage) (old new : List LifeEntry) → new ≡ old ++ CommitsTaken ∷ [] → LeadsTo first new now → (taken_of new ≡ new) × ∥ Runs first (taken_of new) now ∥₁
all_taken first now old new is l = let e : taken_of new ≡ new = ap taken_of is ∙ (taken_all old CommitsTaken refl ∙ sym is) in (e, subst (λ (n : List LifeEntry). ∥ Runs first n now ∥₁) (sym e) l)

pub stop_taken : (old new : List LifeEntry) → new ≡ old ++ LogFailed ∷ [] → taken_of new ≡ taken_of old
stop_taken old new is = ap taken_of is ∙ taken_behind old (LogFailed ∷ []) refl
