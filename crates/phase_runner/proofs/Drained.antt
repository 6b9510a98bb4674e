-- At the end of a replay nobody is unfinished, and every session was told of its abort.
use Rattle.std.proofs.Common.{◌≡◌, ◌≢◌, ◌⊎◌, ℕ, ◌<◌, ◌≤◌, Bool, true, false, cond, ◌&&◌, leb, List, [], ◌∷◌, map, filter}
use Rattle.std.proofs.Common.{is_some, Option, Some, None, refl, sym, ◌∙◌, ap, subst, inl, inr, arith, eqb-true, le-leb}
use Rattle.std.specs.Prelude.{unwrap_or}
use Rattle.std.proofs.lemmas.Bool.{both_ways, cases_eq, false_from_ne_true, and_parts}
use Rattle.teb_rules.specs.declared.names.TheConstants.{SESSIONS}
use Rattle.teb_rules.specs.declared.names.Session.{Session}
use Rattle.teb_rules.specs.declared.names.Request.{Request}
use Rattle.teb_rules.specs.declared.names.Request.TheVariants.{End}
use Rattle.teb_rules.specs.declared.names.Cause.TheVariants.{Asked, Ended}
use Rattle.teb_rules.specs.declared.names.Reply.{Reply}
use Rattle.teb_rules.specs.declared.names.Reply.TheVariants.{Aborted}
use Rattle.teb_rules.specs.declared.history.Event.{Event}
use Rattle.teb_rules.specs.declared.history.Event.TheVariants.{Told}
use Rattle.teb_rules.specs.history.Phases.{aborted, cause_of, held, numbers, session_of, unfinished}
use Rattle.teb_rules.specs.Setup.{Store}
use Rattle.teb_rules.specs.Accepted.{IsSound}
use Rattle.teb_rules.specs.Answer.{answer, answer_new, answer_of, answer_to}
use Rattle.teb_rules.specs.Cascade.{txn}
use Rattle.teb_rules.specs.Run.{history_after, ends_of}
use Rattle.teb_rules.specs.Serializes.{In}
use Rattle.teb_rules.specs.laws.TreeFacts.{TreeFacts}
use Rattle.teb_rules.proofs.lemmas.laws.Answers.{Good}
use Rattle.teb_rules.proofs.lemmas.laws.Holding.{Holds, held_began, held_holds, holds_abort_other, holds_abort_self, holds_cases, holds_told, holds_told_self, none_holds}
use Rattle.teb_rules.proofs.lemmas.laws.Locks.{In-numbers}
use Rattle.teb_rules.proofs.lemmas.laws.Reachable.{answer_good, empty_good, run_good, untold_gone}
use Rattle.teb_rules.proofs.lemmas.laws.Serial.{In-filter, filter-In}
use Rattle.teb_rules.proofs.lemmas.laws.Sessions.{holds_one, session_range}
use Rattle.teb_rules.proofs.lemmas.laws.Sound.{tree_facts}
use Rattle.driver_laws.proofs.Bound.{unfinished_holds}
use Rattle.script_text.specs.declared.Line.{Line}
use Rattle.script_runner.specs.replay.Logs.{replayed, requests_of}
use Rattle.script_runner.proofs.lemmas.replay.Logged.{history_append}
use Rattle.teb_rules.specs.Epochs.{IsDrained}

-- session s holds nothing
abbrev IsFree : List Event → ℕ → Type 0
IsFree H s = (v : ℕ) → Holds H s v ≡ false

-- session s holds nothing, and every session that held nothing still holds nothing
record HasLetGo (H K : List Event) (s : ℕ) : Type 0 where
  own : IsFree K s
  others : (r : ℕ) → IsFree H r → IsFree K r

abbrev in_range : ℕ → Bool
in_range s = leb 1 s && leb s SESSIONS

abbrev end : ℕ → Session × Request
end s = (record { 0 = s }, End)

module _ (X : Store) (sound : IsSound X.setup) where
  facts : TreeFacts X.setup
  facts = tree_facts X.setup sound

  session : (H : List Event) (s v : ℕ) → Holds H s v ≡ true → session_of H v ≡ s
  session H s v k = eqb-true _ _ (and_parts _ _ k).0

  one : (H : List Event) (s t v : ℕ) → Good X.setup H → Holds H s t ≡ true → Holds H s v ≡ true → t ≡ v
  one H s t v g h k =
      holds_one X.setup H t v g.legal (held_began X.setup H s t g.legal h) (held_began X.setup H s v g.legal k) (and_parts _ _ h).1 (and_parts _ _ k).1 (session H s t h ∙ sym (session H s v k))

  -- s held t, and lets it go
  let_go : (H K : List Event) (s t : ℕ) → Good X.setup H → Holds H s t ≡ true → ((r v : ℕ) → t ≢ v → Holds K r v ≡ Holds H r v) → ((r : ℕ) → Holds K r t ≡ false) → HasLetGo H K s
  let_go H K s t g h same gone = record {
    own = λ v. elim (cases_eq t v) [
      | inl e ↦ subst (λ (z : ℕ). Holds K s z ≡ false) e (gone s)
      | inr n ↦ false_from_ne_true _ (λ k. n (one H s t v g h (sym (same s v n) ∙ k)))
    ];
    others = λ r f v. elim (cases_eq t v) [
      | inl e ↦ subst (λ (z : ℕ). Holds K r z ≡ false) e (gone r)
      | inr n ↦ same r v n ∙ f v
    ];
  }

  -- a transaction that is held and not aborted is unfinished
  at_work : (H : List Event) (s t : ℕ) → held H s ≡ Some t → aborted H t ≡ false → unfinished H t ≡ true
  at_work H s t e a = elim (holds_cases H s t (held_holds H s t e)) [ inl u ↦ u | inr u ↦ absurd (both_ways _ a (untold_gone H t u)) ]

  told : (H : List Event) (s t : ℕ) (b : Bool) (q : Reply) → aborted H t ≡ b → Good X.setup H → held H s ≡ Some t → HasLetGo H (cond b (q, Told (txn t) ∷ H) (answer_of X H t End)).1 s
  unfolding answer_of
  told H s t true q a g e = let_go H (Told (txn t) ∷ H) s t g (held_holds H s t e) (λ r v n. holds_told t H r v n) (λ r. holds_told_self t H r a)
  told H s t false q a g e =
      let u = at_work H s t e a in
      let_go H _ s t g (held_holds H s t e) (λ r v n. holds_abort_other X.setup facts H t Ended g u r v n) (λ r. holds_abort_self X.setup facts H t Ended g u refl r)

  ended_by : (H : List Event) (s : ℕ) (o : Option ℕ) → Good X.setup H → held H s ≡ o → HasLetGo H (answer_to X H (record { 0 = s }) End o).1 s
  unfolding answer_new
  ended_by H s None g e = record { own = none_holds X.setup H s g.legal e; others = λ r f. f }
  ended_by H s (Some t) g e = told H s t (aborted H t) (Aborted (unwrap_or (cause_of H t) Asked)) refl g e

  ended : (H : List Event) (s : ℕ) → Good X.setup H → in_range s ≡ true → HasLetGo H (answer X H (record { 0 = s }) End).1 s
  unfolding answer
  ended H s g r = rw r (ended_by H s (held H s) g refl)

  -- after the Ends of these sessions they hold nothing, and a session that held nothing still does
  all_ended : (ns : List ℕ) → ((n : ℕ) → In n ns → in_range n ≡ true) → (H : List Event) → Good X.setup H → (s : ℕ) → IsFree H s ⊎ In s ns → IsFree (history_after X H (map end ns)) s
  unfolding history_after
  all_ended [] range H g s (inl f) = f
  all_ended [] range H g s (inr i) = absurd i
  all_ended (n ∷ ns) range H g s o =
      let l = ended H n g (range n (inl refl)) in
      all_ended ns (λ m i. range m (inr i)) (answer X H (record { 0 = n }) End).1 (answer_good X facts sound.profiles H (record { 0 = n }) End g) s
      (elim o [
        | inl f ↦ inl (l.others s f)
        | inr i ↦ elim i [
          | inl e ↦ inl (subst (λ (r : ℕ). IsFree (answer X H (record { 0 = n }) End).1 r) e l.own)
          | inr j ↦ inr j
        ]
      ])

  module _ (H : List Event) (g : Good X.setup H) where
    -- a session that holds a transaction is one of 1 to SESSIONS
    holder : (s t : ℕ) → held H s ≡ Some t → (0 < s) × (s ≤ SESSIONS)
    holder s t e =
        let h = held_holds H s t e in
        let range = session_range X.setup H t g.legal (held_began X.setup H s t g.legal h) in
        let same : session_of H t ≡ s = eqb-true _ _ (and_parts _ _ h).0 in
        (omega (arith, range.0, same), omega (arith, range.1, same))

    among : (s : ℕ) (o : Option ℕ) → held H s ≡ o → IsFree H s ⊎ In s (filter (λ s. is_some (held H s)) (numbers SESSIONS))
    among s None e = inl (none_holds X.setup H s g.legal e)
    among s (Some t) e = let r = holder s t e in inr (In-filter (λ s. is_some (held H s)) s (numbers SESSIONS) (In-numbers SESSIONS s r.0 r.1) (ap (λ (o : Option ℕ). is_some o) e))

    free : (s : ℕ) → IsFree (history_after X H (ends_of H)) s
    unfolding ends_of
    free s = all_ended (filter (λ s. is_some (held H s)) (numbers SESSIONS)) ranged H g s (among s (held H s) refl)
      where
        some_in_range : (n t : ℕ) → held H n ≡ Some t → in_range n ≡ true
        some_in_range n t e = let r = holder n t e in rw (le-leb 1 n (omega (arith, r.0)), le-leb n SESSIONS r.1) refl

        held_in_range : (n : ℕ) (o : Option ℕ) → held H n ≡ o → is_some o ≡ true → in_range n ≡ true
        held_in_range n None e k = absurd (cc)
        held_in_range n (Some t) e k = some_in_range n t e

        ranged : (n : ℕ) → In n (filter (λ s. is_some (held H s)) (numbers SESSIONS)) → in_range n ≡ true
        ranged n i = held_in_range n (held H n) refl (filter-In (λ s. is_some (held H s)) n (numbers SESSIONS) i).1

    drained : IsDrained (history_after X H (ends_of H))
    drained = record {
      finished = λ t u. both_ways _ (free (session_of (history_after X H (ends_of H)) t) t) (unfinished_holds (history_after X H (ends_of H)) t u);
      told = λ s u. both_ways _ (free s u.txn) (held_holds (history_after X H (ends_of H)) s u.txn u.holds);
    }

  pub replay_drained : (lines : List Line) → IsDrained (history_after X [] (replayed X [] lines))
  replay_drained lines =
      let H = history_after X [] (requests_of lines) in
      subst IsDrained (sym (history_append X [] (requests_of lines) (ends_of H))) (drained H (run_good X facts sound.profiles (requests_of lines) [] (empty_good X.setup)))
