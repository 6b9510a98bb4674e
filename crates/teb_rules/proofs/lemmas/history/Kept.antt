-- The lists that are kept with the events, after one more event.
use Rattle.std.proofs.Common.{◌≡◌, ℕ, suc, ◌+◌, Bool, true, false, cond, not, eqb, List, [], ◌∷◌, ◌++◌, length, filter, reverse, refl, sym, ◌∙◌, ap, arith, length-append}
use Rattle.std.proofs.lemmas.Bool.{eq-eqb}
use Rattle.std.proofs.lemmas.List.{reverse-append, length-reverse}
use Rattle.std.specs.Int.{from_bool}
use Rattle.teb_rules.specs.declared.names.Txn.{Txn}
use Rattle.teb_rules.specs.declared.history.Event.{Event}
use Rattle.teb_rules.specs.declared.history.standing.Standing.{Standing}
use Rattle.teb_rules.specs.history.Phases.{begun_count}
use Rattle.teb_rules.specs.history.Written.{is_begin}
use Rattle.teb_rules.specs.history.Ascending.{put_by}
use Rattle.teb_rules.specs.history.OwnEvents.{event_txn, links}
use Rattle.teb_rules.specs.history.Live.{number_of, mentioned, live_txns}
use Rattle.teb_rules.specs.history.Standings.{standing_number, standing_of, standing_after, standings, stands_live, IsKept}
use Rattle.teb_rules.proofs.lemmas.history.Counting.{count_begin, count_other}
use Rattle.teb_rules.proofs.lemmas.history.Standings.{standing_of-own, live_standing}
use Rattle.teb_rules.proofs.lemmas.history.Mentioned.{standings-cons, live-cons}

-- the lists for no events
pub kept_none : (events : List Event) (previous : List ℕ) (kept : List Standing) (live : List Txn) → events ≡ [] → previous ≡ [] → kept ≡ [] → live ≡ [] → IsKept events previous kept live 0
unfolding links mentioned begun_count
kept_none events previous kept live e p k l = record {
  links = p ∙ ap (λ (es : List Event). reverse (links (reverse es))) (sym e);
  standings = k ∙ ap (λ (es : List Event). standings (reverse es)) (sym e);
  live = l ∙ ap (λ (es : List Event). live_txns (reverse es)) (sym e);
  begun = ap (λ (es : List Event). begun_count (reverse es)) (sym e);
}

module _ (events events' : List Event) (event : Event) (pushed : events' ≡ events ++ event ∷ []) where
  pushed_back : reverse events' ≡ event ∷ reverse events
  pushed_back = ap reverse pushed ∙ reverse-append events (event ∷ [])

  -- the standing of the event's transaction before and after the event
  pub standing_then : (before after : Standing) → before ≡ standing_of (reverse events) (event_txn event).0 → after ≡ standing_after event (length events') before
      → after ≡ standing_of (reverse events') (event_txn event).0
  standing_then before after b a =
      let t = (event_txn event).0 in
      let more : length events' ≡ suc (length (reverse events)) = ap length pushed
      ∙ (let l : length (events ++ event ∷ []) ≡ suc (length (reverse events)) = omega (arith, length-append events (event ∷ []), length-reverse events) in l) in
      a ∙ (λ j. standing_after event (more j) (b j)) ∙ sym (standing_of-own event (reverse events) t (eq-eqb t t refl)) ∙ ap (λ (H : List Event). standing_of H t) (sym pushed_back)

  pub kept_push : (previous previous' : List ℕ) (kept kept' : List Standing) (live live' : List Txn) (n n' : ℕ) (before after : Standing)
      → IsKept events previous kept live n
      → before ≡ standing_of (reverse events) (event_txn event).0
      → after ≡ standing_after event (length events') before
      → previous' ≡ previous ++ before.end ∷ []
      → kept' ≡ put_by standing_number after kept
      → live' ≡ cond (stands_live after) (put_by number_of (event_txn event) live) (filter (λ u. not (eqb u.0 (event_txn event).0)) live)
      → n' ≡ n + from_bool (is_begin event)
      → IsKept events' previous' kept' live' n'
  unfolding links
  kept_push previous previous' kept kept' live live' n n' before after was b a p k l c =
      let H = reverse events in
      let t = (event_txn event).0 in
      let then = standing_then before after b a in
      record {
        links = p ∙ (λ j. was.links j ++ (b j).end ∷ []) ∙ sym (reverse-append ((standing_of H t).end ∷ []) (links H)) ∙ ap (λ (es : List Event). reverse (links es)) (sym pushed_back);
        standings = k ∙ (λ j. put_by standing_number ((then ∙ ap (λ (es : List Event). standing_of es t) pushed_back) j) (was.standings j)) ∙ sym (standings-cons event H)
            ∙ ap standings (sym pushed_back);
        live = l ∙ (λ j. cond ((ap stands_live (then ∙ ap (λ (es : List Event). standing_of es t) pushed_back) ∙ live_standing (event ∷ H) t) j) (put_by number_of (event_txn event) (was.live j))
            (filter (λ u. not (eqb u.0 (event_txn event).0)) (was.live j)))
            ∙ sym (live-cons event H) ∙ ap live_txns (sym pushed_back);
        begun = c ∙ ap (λ (m : ℕ). m + from_bool (is_begin event)) was.begun ∙ counted (is_begin event) refl ∙ ap begun_count (sym pushed_back);
      }
    where
      counted : (x : Bool) → is_begin event ≡ x → begun_count (reverse events) + from_bool x ≡ begun_count (event ∷ reverse events)
      counted true q = sym (count_begin event (reverse events) q)
      counted false q = let z : begun_count (reverse events) + 0 ≡ begun_count (reverse events) = omega arith in z ∙ sym (count_other event (reverse events) q)
