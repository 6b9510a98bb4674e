-- One turn at the log: what was taken, what is put back, and what the seat knows then.
use Rattle.std.proofs.Common.{◌≡◌, ℕ, ◌<◌, ◌≤◌, List, [], ◌∷◌, ◌++◌, Some, sym, ◌∙◌, ap, arith}
use Rattle.turn_lock.specs.declared.view.View.{View}
use Rattle.turn_lock.specs.Counts.{times, Has}
use Rattle.turn_lock.specs.Views.{departed}
use Rattle.turn_lock.specs.Calls.{Follows, Enters, Adds}
use Rattle.turn_lock.proofs.Counts.{same_yes}
use Rattle.turn_lock.proofs.Lists.{All_map}
use Rattle.shared_store.specs.declared.kept.Kept.{Kept}
use Rattle.shared_store.specs.declared.server.EpochServer.{Ghosts}
use Rattle.shared_store.specs.declared.keeper.Keeper.{Keeper}
use Rattle.shared_store.specs.Places.{Place}
use Rattle.shared_store.specs.Keeping.{place_of, tell_note, tells_in}
use Rattle.shared_store.specs.Totals.{TellsBy, total_in, writer_of}
use Rattle.shared_store.specs.Gaining.{TakesLogTurns}

-- more entries do not lower the total
pub total_more : (xs ys : List Kept) → total_in xs ≤ total_in (xs ++ ys)
total_more [] ys = omega arith
total_more (x ∷ xs) ys = let h = total_more xs ys in omega arith

module _ {V L B : Type 0} {g : Ghosts V L B} (s : ℕ) (v0 v1 : View Kept Place) (x0 x1 : Keeper V L B g) where
  -- x0 was taken with the view v1, and x1 is to be put back with it
  pub record TookLog : Type 0 where
    pub owner : v0.owners ≡ s ∷ []
    pub follows : Follows tells_in writer_of tell_note place_of v0 x0
    pub enters : Enters tells_in tell_note v0 x0 v1
    pub tells : TellsBy s (tells_in x0) (tells_in x1)
    pub place : place_of x1 ≡ place_of x0

  own : (os : List ℕ) (n : ℕ) → os ≡ s ∷ [] → n ≡ s → Has os n
  own os n e k = let one = same_yes n s k in let z : times n os ≡ times n (s ∷ []) = ap (times n) e in omega arith

  -- x1 may be put back
  pub adds_log : TookLog → Adds tells_in writer_of tell_note place_of v1 x1
  adds_log t = record {
    has_base = t.enters.base ∙ (t.follows.has_base ∙ ap (λ (b : Place). Some b) (sym t.place));
    more = t.tells.more;
    is = t.tells.is ∙ ap (λ (l : List Kept). l ++ t.tells.more) (sym t.enters.seen);
    mine = All_map (λ (e : Kept). writer_of e ≡ s) (λ (e : Kept). Has v1.owners (writer_of e)) t.tells.more (λ e k. own v1.owners (writer_of e) (t.enters.owners ∙ t.owner) k) t.tells.mine;
    has_notes = λ i. sym (t.enters.notes i);
  }

  module _ (w : View Kept Place) (t : TookLog) (e : w ≡ departed (tells_in x1) v1) where
    -- it has a turn less then
    pub looks : w.turns < v0.turns
    looks = let k : w.turns ≡ v1.turns = ap (λ (v : View Kept Place). v.turns) e in let n = t.enters.turns in omega arith

    -- what the seat knows once x1 is put back
    pub takes_log : TakesLogTurns 1 v0 w
    takes_log = record {
      base = ap (λ (v : View Kept Place). v.base) e ∙ t.enters.base;
      owners = ap (λ (v : View Kept Place). v.owners) e ∙ t.enters.owners;
      still = still;
      turns = (let k : w.turns ≡ v1.turns = ap (λ (v : View Kept Place). v.turns) e in let n = t.enters.turns in omega arith);
      spent = (let l = looks in omega arith);
    }
      where
        still : total_in v0.seen ≤ total_in w.seen
        still =
            let k : total_in w.seen ≡ total_in (tells_in x1) = ap (λ (v : View Kept Place). total_in v.seen) e in
            let l : total_in (tells_in x1) ≡ total_in (tells_in x0 ++ t.tells.more) = ap total_in t.tells.is in
            let n : total_in (tells_in x0) ≡ total_in (v0.seen ++ t.follows.goes.more) = ap total_in t.follows.goes.is in
            let a = total_more (tells_in x0) t.tells.more in
            let b = total_more v0.seen t.follows.goes.more in
            omega arith
