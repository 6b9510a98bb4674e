-- What a write of the log makes of the commits that it keeps.
use Rattle.std.proofs.Common.{◌≡◌, Result, Ok, Err, ℕ, ◌+◌, ◌≤◌, max, Bool, true, false, true≢false, List, [], ◌∷◌, ◌++◌, Some, refl, sym, ◌∙◌, ap, subst, arith}
use Rattle.std.specs.Prelude.{OnOk, OnErr}
use Rattle.std.specs.Coded.{le_prop}
use mathlib.Core.Logic.{∥∥₁_elim, ∥∥₁_map, ∥∥₁_map₂, ∥∥₁_prop}
use Rattle.std.proofs.Props.{props}
use Rattle.teb_rules.specs.declared.history.Event.{Event}
use Rattle.teb_rules.specs.Setup.{Store}
use Rattle.commit_laws.specs.Commits.{commit_count}
use Rattle.turn_lock.specs.declared.view.View.{View}
use Rattle.shared_store.specs.declared.entry.LifeEntry.{LifeEntry}
use Rattle.shared_store.specs.declared.kept.Kept.{Kept}
use Rattle.shared_store.specs.Stages.{Stage, commits_at}
use Rattle.shared_store.specs.Lives.{LeadsTo, Runs, has_stop, taken_of}
use Rattle.shared_store.specs.Ending.{IsKeptAfter}
use Rattle.shared_store.specs.Holding.{IsBrought, IsKept}
use Rattle.shared_store.specs.Seated.{IsKeptAt, IsLogSeat}
use Rattle.shared_store.specs.Gaining.{LogTurn, TakesBatch, TakesNone}
use Rattle.shared_store.specs.Totals.{total_in}
use Rattle.shared_store.proofs.Courses.{runs_once, still_runs}
use Rattle.shared_store.proofs.Results.{on_err, on_ok}

total_last : (ks : List Kept) (k : Kept) → total_in (ks ++ k ∷ []) ≡ max (total_in ks) k.total
total_last [] k = omega arith
total_last (x ∷ xs) k = let h = total_last xs k in omega arith

-- the last total that was told is the greatest
pub total_now : (old new : List Kept) (k : Kept) (total : ℕ) → new ≡ old ++ k ∷ [] → total_in old ≡ total → total ≤ k.total → total_in new ≡ k.total
total_now old new k total is told less = let h = total_last old k in let e : total_in new ≡ total_in (old ++ k ∷ []) = ap total_in is in omega arith

module _ (keep then_keep : Store → List Event → ℕ → Type 0) (brings : Store → List Event → List Event → Type 0) (first : Stage) (total commits : ℕ) (old new : List LifeEntry) where
  module _ (k : IsKept keep first false total old) (q : IsBrought brings first commits old new) where
    same : k.taken ≡ q.before
    same = runs_once first k.taken q.before (taken_of old) k.leads q.begins

    kept_before : keep q.after.standing.store q.before.standing.events (commit_count q.before.standing.events)
    kept_before = subst (λ (X : Store). keep X q.before.standing.events (commit_count q.before.standing.events)) q.store
        (subst (λ (m : Stage). keep m.standing.store m.standing.events (commit_count m.standing.events)) same (subst (λ n. keep k.taken.standing.store k.taken.standing.events n) (k.all refl) k.keeps))

    was : total ≡ commits_at q.before
    was = k.counted ∙ (ap (λ n. k.taken.past + n) (k.all refl) ∙ ap commits_at same)

    pub total_less : total ≤ commits
    total_less = let w = was in let c = q.counted in let f = q.fewer in omega arith

  module _ {F : Type 0} (k : ∥ IsKept keep first false total old ∥₁) (q : ∥ IsBrought brings first commits old new ∥₁) (failed : Bool) (o : Result (Unit {0}) F) where
    pub less : total ≤ commits
    less = ∥∥₁_elim k le_prop (λ x. ∥∥₁_elim q le_prop (λ y. total_less x y))

    module _ (u : Unit {0}) (e : o ≡ Ok u) (h : (X : Store) (H G : List Event) → keep X H (commit_count H) → brings X H G → OnOk o ((failed ≡ false) × then_keep X G (commit_count G))) where
      ok_at : (x : IsKept keep first false total old) (y : IsBrought brings first commits old new) → (failed ≡ false) × then_keep y.after.standing.store y.after.standing.events
          (commit_count y.after.standing.events)
      ok_at x y = on_ok ((failed ≡ false) × then_keep y.after.standing.store y.after.standing.events (commit_count y.after.standing.events)) o u e
          (h y.after.standing.store y.before.standing.events y.after.standing.events (kept_before x y) y.brought)

      pub kept_ok : ∥ IsKept then_keep first false commits new ∥₁
      kept_ok = ∥∥₁_map₂ k q (λ x y. record {
        taken = y.after;
        leads = y.ends;
        count = commit_count y.after.standing.events;
        keeps = (ok_at x y).1;
        counted = y.counted;
        all = λ _. refl;
        runs = λ _. y.runs (x.runs refl);
      })

      pub runs_ok : failed ≡ false
      runs_ok = ∥∥₁_elim k (hlevel props) (λ x. ∥∥₁_elim q (hlevel props) (λ y. (ok_at x y).0))

      -- the log keeps all commits of the stage to which the list leads
      pub keeps_now : (now : Stage) → ∥ Runs first (taken_of new) now ∥₁ → ∥ then_keep now.standing.store now.standing.events (commit_count now.standing.events) ∥₁
      keeps_now now r = ∥∥₁_rec ∥∥₁_prop
          (λ x. ∥∥₁_map₂ q r (λ y l. subst (λ (m : Stage). then_keep m.standing.store m.standing.events (commit_count m.standing.events)) (runs_once first y.after now (taken_of new) y.ends l)
          (ok_at x y).1)) k

    module _ (f : F) (e : o ≡ Err f) (h : (X : Store) (H G : List Event) → keep X H (commit_count H) → brings X H G → OnErr o ((failed ≡ true) × then_keep X G (commit_count H))) where
      err_at : (x : IsKept keep first false total old) (y : IsBrought brings first commits old new) → (failed ≡ true) × then_keep y.after.standing.store y.after.standing.events
          (commit_count y.before.standing.events)
      err_at x y = on_err ((failed ≡ true) × then_keep y.after.standing.store y.after.standing.events (commit_count y.before.standing.events)) o f e
          (h y.after.standing.store y.before.standing.events y.after.standing.events (kept_before x y) y.brought)

      pub kept_err : ∥ IsKept then_keep first true total new ∥₁
      kept_err = ∥∥₁_map₂ k q (λ x y. record {
        taken = y.after;
        leads = y.ends;
        count = commit_count y.before.standing.events;
        keeps = (err_at x y).1;
        counted = was x y ∙ ap (λ n. n + commit_count y.before.standing.events) y.past;
        all = λ z. absurd (true≢false z);
        runs = λ z. absurd (true≢false z);
      })

      pub runs_err : failed ≡ true
      runs_err = ∥∥₁_elim k (hlevel props) (λ x. ∥∥₁_elim q (hlevel props) (λ y. (err_at x y).0))

-- a log keeps the same of a list of which no more was taken
pub kept_still : (keep : Store → List Event → ℕ → Type 0) (first : Stage) (failed now_failed : Bool) (total : ℕ) (old new : List LifeEntry) → taken_of new ≡ taken_of old
    → (now_failed ≡ false → failed ≡ false) → (now_failed ≡ false → has_stop new ≡ has_stop old) → ∥ IsKept keep first failed total old ∥₁ → ∥ IsKept keep first now_failed total new ∥₁
kept_still keep first failed now_failed total old new e f s k = ∥∥₁_map k (λ x. record {
  taken = x.taken;
  leads = subst (λ (l : List LifeEntry). Runs first l x.taken) (sym e) x.leads;
  count = x.count;
  keeps = x.keeps;
  counted = x.counted;
  all = λ z. x.all (f z);
  runs = λ z. s z ∙ x.runs (f z);
})

-- the same facts, of what a seat has seen
module _ (keep then_keep : Store → List Event → ℕ → Type 0) (brings : Store → List Event → List Event → Type 0) (total commits : ℕ) (v w : View LifeEntry Stage) (base : w.base ≡ v.base)
    {F : Type 0} (k : IsKeptAt keep false total v) (q : TakesBatch brings commits v w) (failed : Bool) (o : Result (Unit {0}) F) where
  pub less_at : (b : Stage) → v.base ≡ Some b → total ≤ commits
  less_at b z = less keep then_keep brings b total commits v.seen w.seen (k.kept b z) (q.brought b z) failed o

  module _ (u : Unit {0}) (e : o ≡ Ok u) (h : (X : Store) (H G : List Event) → keep X H (commit_count H) → brings X H G → OnOk o ((failed ≡ false) × then_keep X G (commit_count G))) where
    pub kept_at_ok : IsKeptAt then_keep false commits w
    kept_at_ok = record { kept = λ b z. kept_ok keep then_keep brings b total commits v.seen w.seen (k.kept b (sym base ∙ z)) (q.brought b (sym base ∙ z)) failed o u e h }

    pub runs_at_ok : (b : Stage) → v.base ≡ Some b → failed ≡ false
    runs_at_ok b z = runs_ok keep then_keep brings b total commits v.seen w.seen (k.kept b z) (q.brought b z) failed o u e h

  module _ (f : F) (e : o ≡ Err f) (h : (X : Store) (H G : List Event) → keep X H (commit_count H) → brings X H G → OnErr o ((failed ≡ true) × then_keep X G (commit_count H))) where
    pub runs_at_err : (b : Stage) → v.base ≡ Some b → failed ≡ true
    runs_at_err b z = runs_err keep then_keep brings b total commits v.seen w.seen (k.kept b z) (q.brought b z) failed o f e h

    pub kept_at_err : (x : View LifeEntry Stage) → x.base ≡ w.base → TakesNone w x → IsKeptAt then_keep true total x
    kept_at_err x b2 none = record {
      kept = λ b z. kept_still then_keep b true true total w.seen x.seen none.same (λ y. y) (λ y. absurd (true≢false y))
          (kept_err keep then_keep brings b total commits v.seen w.seen (k.kept b (sym base ∙ (sym b2 ∙ z))) (q.brought b (sym base ∙ (sym b2 ∙ z))) failed o f e h);
    }

-- after a turn the seat of the log has one turn less
pub log_seat_on : (n m : ℕ) (v w : View LifeEntry Stage) → m + 1 ≤ n → LogTurn v w → IsLogSeat n v → IsLogSeat m w
log_seat_on n m v w l t s = record { owner = t.owners ∙ s.owner; turns = (let a = t.turns in let b = s.turns in let z : m ≤ w.turns = omega arith in z) }

pub log_seat_on_two : (n m : ℕ) (v w x : View LifeEntry Stage) → m + 2 ≤ n → LogTurn v w → LogTurn w x → IsLogSeat n v → IsLogSeat m x
log_seat_on_two n m v w x l t u s = log_seat_on (m + 1) m w x (let z : m + 1 ≤ m + 1 = omega arith in z) u (log_seat_on n (m + 1) v w (let z : m + 1 + 1 ≤ n = omega arith in z) t s)

pub kept_of : (keep : Store → List Event → ℕ → Type 0) (failed : Bool) (total : ℕ) (v : View LifeEntry Stage) → failed ≡ false → IsKeptAt keep failed total v → IsKeptAt keep false total v
kept_of keep failed total v e k = subst (λ f. IsKeptAt keep f total v) e k

-- a log that keeps the first `total` commits keeps the first `least` ones, whether it has failed since or not
pub kept_after : (keep : Store → List Event → ℕ → Type 0) (first : Stage) (failed : Bool) (least total : ℕ) (es : List LifeEntry) → least ≤ total → ∥ IsKept keep first false total es ∥₁
    → IsKeptAfter keep first failed least es
kept_after keep first failed least total es l k = record { total = total; kept = kept_still keep first false failed total es es refl (λ _. refl) (λ _. refl) k; enough = l }

-- while the log has not failed, the front has not been told that it has
pub runs_kept : (keep : Store → List Event → ℕ → Type 0) (first now : Stage) (total : ℕ) (es : List LifeEntry) → first.stopped ≡ false → LeadsTo first es now → ∥ IsKept keep first false total es ∥₁
    → now.stopped ≡ false
runs_kept keep first now total es f l k = ∥∥₁_elim l (hlevel props) (λ r. ∥∥₁_elim k (hlevel props) (λ q. still_runs first now es r f (q.runs refl)))

pub kept_failed : (keep : Store → List Event → ℕ → Type 0) (first : Stage) (total : ℕ) (es : List LifeEntry) (now_failed failed : Bool) → now_failed ≡ failed → ∥ IsKept keep first failed total es ∥₁
    → IsKeptAfter keep first now_failed total es
kept_failed keep first total es now_failed failed e k = record { total = total; kept = subst (λ b. ∥ IsKept keep first b total es ∥₁) (sym e) k; enough = (let z : total ≤ total = omega arith in z) }
