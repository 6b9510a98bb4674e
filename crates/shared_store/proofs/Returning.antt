-- A server that was asked nothing comes back as it was.
use Rattle.std.proofs.Common.{◌≡◌, ℕ, ◌≤◌, List, [], ◌∷◌, ◌++◌, All, refl, sym, ◌∙◌, ap, subst, arith}
use base.Stored.{Coded-set}
use mathlib.Core.Logic.{∥∥₁_map}
use Rattle.turn_lock.specs.declared.view.View.{View}
use Rattle.turn_lock.specs.Counts.{times, HasAll}
use Rattle.turn_lock.specs.Calls.{AreOwned, Ends}
use Rattle.turn_lock.specs.Views.{both_views, first_view, given, remaining}
use Rattle.turn_lock.proofs.Lists.{All_right}
use Rattle.shared_store.specs.contracts.origin.Origin.{the_row}
use Rattle.shared_store.specs.declared.entry.LifeEntry.{LifeEntry}
use Rattle.shared_store.specs.declared.entry.TheConstants.{LOG_SEAT}
use Rattle.shared_store.specs.declared.hosted.Hosted.{Hosted}
use Rattle.shared_store.specs.declared.keeper.TheConstants.{LOG_TURNS}
use Rattle.shared_store.specs.declared.server.EpochServer.{Ghosts}
use Rattle.shared_store.specs.Holding.{stage_of}
use Rattle.shared_store.specs.Hosting.{entries_in, note_in, first_of}
use Rattle.shared_store.specs.Lives.{LeadsTo, Runs, owner_of, taken_of}
use Rattle.shared_store.specs.Served.{Standing}
use Rattle.shared_store.specs.Stages.{Stage, first_stage}
use Rattle.shared_store.proofs.Dealing.{all_back}

Stage-set : IsSet Stage
Stage-set = Coded-set the_row.coded

-- a life without entries ends where it began
none_leads : (first now : Stage) (es : List LifeEntry) → es ≡ [] → LeadsTo first es now → now ≡ first
none_leads first now es none l = ∥∥₁_rec (Stage-set now first) (λ r. r) (subst (λ (n : List LifeEntry). LeadsTo first n now) none l)

-- a seat that has all owners has seen all entries
none_more : (n : ℕ) (os : List ℕ) (es : List LifeEntry) → HasAll n os → All (λ (e : LifeEntry). times (owner_of e) os ≡ 0) es → AreOwned owner_of n es → es ≡ []
none_more n os [] has others owned = refl
none_more n os (e ∷ es) has others owned = let o = owned 0 e (omega arith) in let h = has (owner_of e) o.0 o.1 in let z = others 0 e (omega arith) in absurd (omega arith)

-- the first seat has seen nothing, even after the log's seat was dealt out of it and joined again
seen_none : (b : Stage) (v r w x z : View LifeEntry Stage) → v ≡ first_view b 0 LOG_SEAT → r ≡ remaining LOG_SEAT LOG_TURNS v → w ≡ given LOG_SEAT LOG_TURNS v → x ≡ w → z ≡ both_views r x
    → z.seen ≡ []
seen_none b v r w x z e f h same k =
    ap (λ (u : View LifeEntry Stage). u.seen) k
    ∙ ap (λ (p : View LifeEntry Stage × View LifeEntry Stage). (both_views p.0 p.1).seen) (λ i. (
      (f ∙ ap (λ (u : View LifeEntry Stage). remaining LOG_SEAT LOG_TURNS u) e) i,
      (same ∙ (h ∙ ap (λ (u : View LifeEntry Stage). given LOG_SEAT LOG_TURNS u) e)) i,
    ))

module _ {V L B : Type 0} {g : Ghosts V L B} (n : ℕ) (v : View LifeEntry Stage) (x : Hosted V L B g) (end : Ends entries_in owner_of note_in first_of v x) (has : HasAll n v.owners)
    (owned : AreOwned owner_of n (entries_in x)) (seen : v.seen ≡ []) (y : Standing) (is : first_of x ≡ first_stage y) where
  none_in : entries_in x ≡ []
  none_in = let f = end.follows.goes in
      f.is ∙ (ap (λ (l : List LifeEntry). l ++ f.more) seen
      ∙ none_more n v.owners f.more has f.others (All_right (λ (e : LifeEntry). (1 ≤ owner_of e) × (owner_of e ≤ n)) v.seen f.more (subst (AreOwned owner_of n) f.is owned)))

  stands : g.standing x.server ≡ y
  stands = ap (λ (s : Stage). s.standing) (none_leads (first_of x) (stage_of x.past x.stopped (g.standing x.server)) (entries_in x) none_in x.life.leads ∙ is)

  waits_none : y.events ≡ [] → ∥ g.waits x.server [] ∥₁
  waits_none fresh = ∥∥₁_map x.waiting (λ k.
      let taken : k.taken ≡ first_of x = subst (λ (es : List LifeEntry). Runs (first_of x) (taken_of es) k.taken) none_in k.leads in
      subst (g.waits x.server) (ap (λ (s : Stage). s.standing.events) (taken ∙ is) ∙ fresh) k.wait)

-- at the end the server is as it was at first and no commit waits, if only the log's seat was dealt and it was joined again
pub comes_back : {V L B : Type 0} {g : Ghosts V L B} (b : Stage) (v r w u z : View LifeEntry Stage) (x : Hosted V L B g) (n : ℕ) (y : Standing) → n ≡ LOG_SEAT → v ≡ first_view b 0 LOG_SEAT
    → r ≡ remaining LOG_SEAT LOG_TURNS v → w ≡ given LOG_SEAT LOG_TURNS v → u ≡ w → z ≡ both_views r u → Ends entries_in owner_of note_in first_of z x → AreOwned owner_of n (entries_in x)
    → first_of x ≡ first_stage y → y.events ≡ [] → (g.standing x.server ≡ y) × ∥ g.waits x.server [] ∥₁
comes_back b v r w u z x n y count e f h same k end owned is fresh =
    let has = subst (λ (m : ℕ). HasAll m z.owners) (sym count) (all_back b v r w u z e f h same k) in
    let seen = seen_none b v r w u z e f h same k in
    (stands n z x end has owned seen y is, waits_none n z x end has owned seen y is fresh)
