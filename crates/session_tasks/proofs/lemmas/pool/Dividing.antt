-- The division of the sessions into those that wait and those that have nothing to do.
use Rattle.std.proofs.Common.{◌≡◌, ℕ, suc, ◌+◌, ◌-◌, ◌≤◌, true, false, List, [], ◌∷◌, ◌++◌, All, map, sym, ap, ◌∙◌, subst, arith}
use Rattle.std.specs.Option.{is_some}
use Rattle.std.proofs.lemmas.List.{map-append}
use Rattle.std.proofs.lemmas.List.Elements.{All-push}
use Rattle.teb_rules.specs.declared.names.TheConstants.{SESSIONS}
use Rattle.teb_rules.specs.declared.names.Session.{Session}
use Rattle.teb_rules.specs.history.Phases.{numbers}
use Rattle.turn_lock.specs.Counts.{total, count_from}
use Rattle.turn_lock.proofs.Lists.{All_none, All_cons}
use Rattle.session_server.specs.Halls.{Ghosts, Hall, Pass}
use Rattle.session_server.specs.Passes.{IsNew, number_of}
use Rattle.session_tasks.specs.Scripted.{Scripted, place_in}
use Rattle.session_tasks.specs.Tasks.{IsTask, number_in}
use Rattle.session_tasks.specs.declared.task.Task.{Task}
use Rattle.session_tasks.proofs.InOrder.{all_sessions, LastOf, last_of}
use Rattle.session_tasks.specs.pool.Waits.{IsWaiting, number_at, scripted, scripted_of}
use Rattle.session_tasks.specs.declared.pool.waiting.Waiting.{Waiting}
use Rattle.session_tasks.proofs.lemmas.pool.Sums.{total_append}
use Rattle.session_tasks.proofs.lemmas.pool.Scripting.{one_more, one_waits, one_idles}

module _ {C : Type 0} {g : Ghosts C} (h : Hall C g) (scripts : Scripted) where
  -- n passes are still to be divided
  pub record IsDivided (n : ℕ) (ps : List (Pass C g)) (ws : List (Waiting C g)) (ts : List (Task C g)) : Type 0 where
    pub few : n ≤ SESSIONS
    pub sessions : map number_of ps ≡ numbers n
    pub new : All (IsNew h) ps
    pub waits : map number_at ws ≡ scripted_of scripts (count_from (suc n) (SESSIONS - n))
    pub fitting : All (IsWaiting h) ws
    pub tasks : All (IsTask h scripts) ts
    pub all : (weight : ℕ → ℕ) → total weight (map number_in ts) + total weight (scripted_of scripts (count_from (suc n) (SESSIONS - n))) ≡ total weight (count_from (suc n) (SESSIONS - n))

  pub divided_first : (n : ℕ) (ps : List (Pass C g)) (ws : List (Waiting C g)) (ts : List (Task C g)) → n ≡ SESSIONS → map number_of ps ≡ numbers SESSIONS → All (IsNew h) ps → ws ≡ [] → ts ≡ []
      → IsDivided n ps ws ts
  divided_first n ps ws ts e s a w t = subst (λ (k : ℕ). IsDivided k ps ws ts) (sym e) record {
    few = omega arith;
    sessions = s;
    new = a;
    waits = ap (map number_at) w;
    fitting = subst (All (IsWaiting h)) (sym w) (All_none (IsWaiting h));
    tasks = subst (All (IsTask h scripts)) (sym t) (All_none (IsTask h scripts));
    all = λ weight. ap (λ (us : List (Task C g)). total weight (map number_in us) + 0) t;
  }

  -- the last of the passes that are left
  its_last : (n k : ℕ) (ps qs : List (Pass C g)) (p : Pass C g) (ws : List (Waiting C g)) (ts : List (Task C g)) → IsDivided n ps ws ts → ps ≡ qs ++ p ∷ [] → n ≡ suc k → LastOf h qs p k
  its_last n k ps qs p ws ts d is e = last_of h ps qs p n k is e d.sessions d.new

  pub last_new : (n k : ℕ) (ps qs : List (Pass C g)) (p : Pass C g) (ws : List (Waiting C g)) (ts : List (Task C g)) → IsDivided n ps ws ts → ps ≡ qs ++ p ∷ [] → n ≡ suc k → IsNew h p
  last_new n k ps qs p ws ts d is e = (its_last n k ps qs p ws ts d is e).last_new

  pub waits_on : (n k : ℕ) (ps qs : List (Pass C g)) (p : Pass C g) (s : Session) (ws vs : List (Waiting C g)) (ts : List (Task C g)) → IsDivided n ps ws ts → ps ≡ qs ++ p ∷ [] → n ≡ suc k
      → s ≡ p.session → is_some (place_in scripts s.0) ≡ true → vs ≡ record { session = s; pass = p } ∷ ws → IsDivided k qs vs ts
  waits_on n k ps qs p s ws vs ts d is e same there to =
      let l = its_last n k ps qs p ws ts d is e in
      let few = d.few in
      let number : s.0 ≡ suc k = ap (λ (z : Session). z.0) same ∙ l.last in
      let next = one_waits scripts n k e few (ap (λ (z : ℕ). is_some (place_in scripts z)) (sym number) ∙ there) in
      let more = one_more scripts n k e few in record {
        few = omega arith;
        sessions = l.sessions;
        new = l.new;
        waits = ap (map number_at) to ∙ ((λ i. number i ∷ d.waits i) ∙ sym next);
        fitting = subst (All (IsWaiting h)) (sym to) (All_cons (IsWaiting h) (record { session = s; pass = p }) ws record { new = l.last_new; session = sym same } d.fitting);
        tasks = d.tasks;
        all = λ weight. (let a : total weight (scripted_of scripts (count_from (suc k) (SESSIONS - k))) ≡ weight (suc k) + total weight (scripted_of scripts (count_from (suc n) (SESSIONS - n))) = ap
            (total weight) next in
            let b : total weight (count_from (suc k) (SESSIONS - k)) ≡ weight (suc k) + total weight (count_from (suc n) (SESSIONS - n)) = ap (total weight) more in
            let c = d.all weight in omega arith);
      }

  pub idles_on : (n k : ℕ) (ps qs : List (Pass C g)) (p : Pass C g) (s : Session) (t : Task C g) (ws : List (Waiting C g)) (ts us : List (Task C g)) → IsDivided n ps ws ts → ps ≡ qs ++ p ∷ []
      → n ≡ suc k → s ≡ p.session → is_some (place_in scripts s.0) ≡ false → IsTask h scripts t → t.pass.session ≡ p.session → us ≡ ts ++ t ∷ [] → IsDivided k qs ws us
  idles_on n k ps qs p s t ws ts us d is e same no_ task own to =
      let l = its_last n k ps qs p ws ts d is e in
      let few = d.few in
      let number : s.0 ≡ suc k = ap (λ (z : Session). z.0) same ∙ l.last in
      let next = one_idles scripts n k e few (ap (λ (z : ℕ). is_some (place_in scripts z)) (sym number) ∙ no_) in
      let more = one_more scripts n k e few in record {
        few = omega arith;
        sessions = l.sessions;
        new = l.new;
        waits = d.waits ∙ sym next;
        fitting = d.fitting;
        tasks = subst (All (IsTask h scripts)) (sym to) (All-push (IsTask h scripts) ts t d.tasks task);
        all = λ weight. (let a : total weight (scripted_of scripts (count_from (suc k) (SESSIONS - k))) ≡ total weight (scripted_of scripts (count_from (suc n) (SESSIONS - n))) = ap
            (total weight) next in
            let b : total weight (count_from (suc k) (SESSIONS - k)) ≡ weight (suc k) + total weight (count_from (suc n) (SESSIONS - n)) = ap (total weight) more in
            let m : number_in t ≡ suc k = ap (λ (z : Session). z.0) own ∙ l.last in
            let f : total weight (map number_in us) ≡ total weight (map number_in ts ++ number_in t ∷ []) = ap (λ (vs : List (Task C g)). total weight (map number_in vs)) to
            ∙ ap (total weight) (map-append number_in ts (t ∷ [])) in
            let i = total_append weight (map number_in ts) (number_in t ∷ []) in
            let j : weight (number_in t) ≡ weight (suc k) = ap weight m in
            let c = d.all weight in omega arith);
      }

  -- no pass is left
  pub record AreDivided (ws : List (Waiting C g)) (ts : List (Task C g)) : Type 0 where
    pub waits : map number_at ws ≡ scripted scripts
    pub all : (weight : ℕ → ℕ) → total weight (map number_in ts) + total weight (scripted scripts) ≡ total weight (numbers SESSIONS)

  pub divided_last : (n : ℕ) (ps : List (Pass C g)) (ws : List (Waiting C g)) (ts : List (Task C g)) → n ≡ 0 → IsDivided n ps ws ts → AreDivided ws ts
  divided_last n ps ws ts e d =
      let all : count_from (suc n) (SESSIONS - n) ≡ numbers SESSIONS = ap (λ (k : ℕ). count_from (suc k) (SESSIONS - k)) e ∙ all_sessions in record {
        waits = d.waits ∙ ap (scripted_of scripts) all;
        all = λ weight. subst (λ (ns : List ℕ). total weight (map number_in ts) + total weight (scripted_of scripts ns) ≡ total weight ns) all (d.all weight);
      }
