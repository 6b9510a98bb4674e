-- A list of entries leads from a stage to at most one stage.
use Rattle.std.proofs.Common.{◌≡◌, ℕ, suc, Bool, true, false, true≢false, cond, ◌||◌, List, [], ◌∷◌, ◌++◌, All, refl, sym, ◌∙◌, ap, subst, arith}
use Rattle.std.specs.List.{list_any}
use Rattle.turn_lock.specs.Counts.{times}
use Rattle.turn_lock.proofs.Counts.{same_yes}
use Rattle.shared_store.specs.declared.entry.LifeEntry.{LifeEntry}
use Rattle.shared_store.specs.declared.entry.LifeEntry.TheVariants.{Asked, CommitsTaken, EpochEnded, LogFailed}
use Rattle.shared_store.specs.declared.entry.TheConstants.{LOG_SEAT}
use Rattle.shared_store.specs.Served.{Standing, IsBegun}
use Rattle.shared_store.specs.Stages.{Stage}
use Rattle.shared_store.specs.Lives.{Runs, Step, has_stop, is_stop, is_taking, owner_of, taken_of}
use Rattle.shared_store.proofs.Alone.{one_list}

begun_once : (x y z : Standing) → IsBegun x y → IsBegun x z → y ≡ z
begun_once x y z a b =
    let rows = one_list y.store.rows z.store.rows a.rows.ascending b.rows.ascending (λ c. a.rows.each c ∙ sym (b.rows.each c)) in λ i. record {
      store = record { setup = (a.setup ∙ sym b.setup) i; tables = (a.tables ∙ sym b.tables) i; rows = rows i };
      events = (a.events ∙ sym b.events) i;
    }

step_once : (g h k : Stage) (e : LifeEntry) → Step g e h → Step g e k → h ≡ k
step_once g h k (Asked by s q r) a b = a.next ∙ sym b.next
step_once g h k CommitsTaken a b = a ∙ sym b
step_once g h k EpochEnded a b = let x = begun_once g.standing h.standing k.standing a.begun b.begun in
    λ i. record { standing = x i; past = (a.past ∙ sym b.past) i; stopped = (a.runs.1 ∙ sym b.runs.1) i }
step_once g h k LogFailed a b = a ∙ sym b

pub runs_once : (g h k : Stage) (es : List LifeEntry) → Runs g es h → Runs g es k → h ≡ k
runs_once g h k [] a b = a ∙ sym b
runs_once g h k (e ∷ es) a b = runs_once b.0 h k es (subst (λ (m : Stage). Runs m es h) (step_once g a.0 b.0 e a.1 b.1) a.2) b.2

pub runs_on : (g h k : Stage) (xs ys : List LifeEntry) → Runs g xs h → Runs h ys k → Runs g (xs ++ ys) k
runs_on g h k [] ys r q = subst (λ (m : Stage). Runs m ys k) r q
runs_on g h k (x ∷ xs) ys r q = (r.0, r.1, runs_on r.0 h k xs ys r.2 q)

-- once the log has failed, it has failed at each later stage
stays_stopped : (g h : Stage) (es : List LifeEntry) → Runs g es h → g.stopped ≡ true → h.stopped ≡ true
stays_stopped g h [] r t = ap (λ (m : Stage). m.stopped) r ∙ t
stays_stopped g h (Asked by s q o ∷ es) r t = absurd (true≢false (sym t ∙ r.1.runs))
stays_stopped g h (CommitsTaken ∷ es) r t = stays_stopped r.0 h es r.2 (ap (λ (m : Stage). m.stopped) r.1 ∙ t)
stays_stopped g h (EpochEnded ∷ es) r t = absurd (true≢false (sym t ∙ r.1.runs.0))
stays_stopped g h (LogFailed ∷ es) r t = stays_stopped r.0 h es r.2 (ap (λ (m : Stage). m.stopped) r.1)

-- if the log has not failed at the end of a life, the life tells of no failure
pub no_stop : (g h : Stage) (es : List LifeEntry) → Runs g es h → h.stopped ≡ false → has_stop es ≡ false
no_stop g h [] r f = refl
no_stop g h (Asked by s q o ∷ es) r f = no_stop r.0 h es r.2 f
no_stop g h (CommitsTaken ∷ es) r f = no_stop r.0 h es r.2 f
no_stop g h (EpochEnded ∷ es) r f = no_stop r.0 h es r.2 f
no_stop g h (LogFailed ∷ es) r f = absurd (true≢false (sym (stays_stopped r.0 h es r.2 (ap (λ (m : Stage). m.stopped) r.1)) ∙ f))

-- and conversely
pub still_runs : (g h : Stage) (es : List LifeEntry) → Runs g es h → g.stopped ≡ false → has_stop es ≡ false → h.stopped ≡ false
still_runs g h [] r f n = ap (λ (m : Stage). m.stopped) r ∙ f
still_runs g h (Asked by s q o ∷ es) r f n = still_runs r.0 h es r.2 (ap (λ (m : Stage). m.stopped) r.1.next ∙ f) n
still_runs g h (CommitsTaken ∷ es) r f n = still_runs r.0 h es r.2 (ap (λ (m : Stage). m.stopped) r.1 ∙ f) n
still_runs g h (EpochEnded ∷ es) r f n = still_runs r.0 h es r.2 r.1.runs.1 n
still_runs g h (LogFailed ∷ es) r f n = absurd (true≢false n)

-- appending entries without a mark does not change whether a list has one
any_append : (p : LifeEntry → Bool) (xs ys : List LifeEntry) → list_any p ys ≡ false → list_any p (xs ++ ys) ≡ list_any p xs
any_append p [] ys n = n
any_append p (x ∷ xs) ys n = ap (λ b. p x || b) (any_append p xs ys n)

-- appending entries that tell of no failure does not change whether a list tells of one
pub stop_behind : (xs ys new : List LifeEntry) → new ≡ xs ++ ys → has_stop ys ≡ false → has_stop new ≡ has_stop xs
stop_behind xs ys new e n = ap (λ (l : List LifeEntry). has_stop l) e ∙ any_append is_stop xs ys n

-- appending entries without a taking does not change what was taken
taken_none : (ys : List LifeEntry) → list_any is_taking ys ≡ false → taken_of ys ≡ []
taken_none [] n = refl
taken_none (y ∷ ys) n = ap (λ b. cond b (y ∷ taken_of ys) []) n

pub taken_behind : (xs ys : List LifeEntry) → list_any is_taking ys ≡ false → taken_of (xs ++ ys) ≡ taken_of xs
taken_behind [] ys n = taken_none ys n
taken_behind (x ∷ xs) ys n = ap (λ (p : Bool × List LifeEntry). cond p.0 (x ∷ p.1) []) (λ i. (is_taking x || any_append is_taking xs ys n i, taken_behind xs ys n i))

any_last : (xs : List LifeEntry) (e : LifeEntry) → is_taking e ≡ true → list_any is_taking (xs ++ e ∷ []) ≡ true
any_last [] e t = ap (λ b. b || false) t
any_last (x ∷ xs) e t = ap (λ b. is_taking x || b) (any_last xs e t) ∙ or_yes (is_taking x)
  where
    or_yes : (b : Bool) → b || true ≡ true
    or_yes true = refl
    or_yes false = refl

-- if the last entry is a taking, all entries are taken
pub taken_all : (xs : List LifeEntry) (e : LifeEntry) → is_taking e ≡ true → taken_of (xs ++ e ∷ []) ≡ xs ++ e ∷ []
taken_all [] e t = ap (λ b. cond (b || false) (e ∷ []) []) t
taken_all (x ∷ xs) e t = ap (λ (p : Bool × List LifeEntry). cond p.0 (x ∷ p.1) []) (λ i. ((ap (λ b. is_taking x || b) (any_last xs e t) ∙ or_yes (is_taking x)) i, taken_all xs e t i))
  where
    or_yes : (b : Bool) → b || true ≡ true
    or_yes true = refl
    or_yes false = refl

is_own : (n o : ℕ) → o ≡ n → times o (n ∷ []) ≡ 1
is_own n o e = let one = same_yes o n e in omega arith

not_taking : (e : LifeEntry) → times (owner_of e) (LOG_SEAT ∷ []) ≡ 0 → is_taking e ≡ false
not_taking (Asked by s q r) z = refl
not_taking CommitsTaken z = absurd (let one = is_own LOG_SEAT LOG_SEAT refl in omega arith)
not_taking EpochEnded z = absurd (let one = is_own LOG_SEAT LOG_SEAT refl in omega arith)
not_taking LogFailed z = refl

not_stop : (e : LifeEntry) → times (owner_of e) (LOG_SEAT ∷ []) ≡ 0 → is_stop e ≡ false
not_stop (Asked by s q r) z = refl
not_stop CommitsTaken z = refl
not_stop EpochEnded z = refl
not_stop LogFailed z = absurd (let one = is_own LOG_SEAT LOG_SEAT refl in omega arith)

-- entries that the log's seat does not own include none of its marks
module _ (p : LifeEntry → Bool) (not_mark : (e : LifeEntry) → times (owner_of e) (LOG_SEAT ∷ []) ≡ 0 → p e ≡ false) where
  others_have_none : (os : List ℕ) (es : List LifeEntry) → os ≡ LOG_SEAT ∷ [] → All (λ (e : LifeEntry). times (owner_of e) os ≡ 0) es → list_any p es ≡ false
  others_have_none os [] o a = refl
  others_have_none os (e ∷ es) o a = ap (λ (q : Bool × Bool). q.0 || q.1) (λ i. (
    not_mark e (subst (λ (ys : List ℕ). times (owner_of e) ys ≡ 0) o (a 0 e (omega arith))) i,
    others_have_none os es o (λ k d l. a (suc k) d (omega arith)) i,
  ))

pub others_take_none : (os : List ℕ) (es : List LifeEntry) → os ≡ LOG_SEAT ∷ [] → All (λ (e : LifeEntry). times (owner_of e) os ≡ 0) es → list_any is_taking es ≡ false
others_take_none os es o a = others_have_none is_taking not_taking os es o a

pub others_stop_none : (os : List ℕ) (es : List LifeEntry) → os ≡ LOG_SEAT ∷ [] → All (λ (e : LifeEntry). times (owner_of e) os ≡ 0) es → has_stop es ≡ false
others_stop_none os es o a = others_have_none is_stop not_stop os es o a
