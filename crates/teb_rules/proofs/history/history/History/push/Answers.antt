use Rattle.std.proofs.Common.{◌≡◌, ◌∙◌, ◌+◌, ◌∷◌, ◌++◌, [], ℕ, Bool, Some, length, vec_len, List, reverse, sym, ap, subst, arith, rules}
use Rattle.std.specs.Int.{from_bool}
use Rattle.teb_rules.specs.declared.names.Txn.{Txn}
use Rattle.teb_rules.specs.declared.history.standing.Standing.{Standing}
use Rattle.teb_rules.specs.history.Written.{Written}
use Rattle.teb_rules.specs.history.Ascending.{IsAscendingBy}
use Rattle.teb_rules.specs.history.OwnEvents.{event_txn}
use Rattle.teb_rules.specs.history.Live.{number_of, is_live, live_txns, kept_by}
use Rattle.teb_rules.specs.history.Standings.{standing_number, standing_after, standing_in, stands_live}
use Rattle.teb_rules.proofs.lemmas.history.Mentioned.{standings-ascending, live-ascending, standing_in-of}
use Rattle.teb_rules.proofs.lemmas.history.Standings.{live_standing}
use Rattle.teb_rules.proofs.lemmas.history.StillLive.{live-kept, turned-kept}
use Rattle.teb_rules.proofs.lemmas.history.Kept.{kept_push}
use Rattle.teb_rules.proofs.history.history.History.push.Goals as goal

pub push_reserved-requires : goal.push_reserved-requires
push_reserved-requires c = let spare = ap (λ (w : Written). w.spare) c.self.view_is in omega arith

pub push_reserved-requires-2 : goal.push_reserved-requires-2
push_reserved-requires-2 c = let spare = ap (λ (w : Written). w.spare) c.self.view_is in omega arith

pub note_event-noted-requires-clause-ascending : goal.note_event-noted-requires-clause-ascending
note_event-noted-requires-clause-ascending c = subst (λ (rs : List Standing). IsAscendingBy standing_number rs) (sym c.self.invariant.kept.standings) (standings-ascending _)

pub keep_txn-requires-clause-ascending : goal.keep_txn-requires-clause-ascending
keep_txn-requires-clause-ascending c = subst (λ (ts : List Txn). IsAscendingBy number_of ts) (sym c.self.invariant.kept.live) (live-ascending _)

pub invariant_of-self : goal.invariant_of-self
invariant_of-self c =
    let spare = ap (λ (w : Written). w.spare) c.self.view_is in
    let H = reverse c.self.inside.events.items in
    let e = c.args.event in
    let before = ap (λ (rs : List Standing). standing_in rs (event_txn e)) c.self.invariant.kept.standings ∙ standing_in-of H (event_txn e) in
    let counted : vec_len c.push_reserved.new.self ≡ length c.push_reserved.new.self.items = search rules in
    let after = ap (λ (n : ℕ). standing_after e n (standing_in c.self.inside.standings.items (event_txn e))) (c.len.ensures ∙ counted) in
    let previous = c.push_reserved-2.ensures.items ∙ ap (λ (n : ℕ). c.self.inside.previous.items ++ n ∷ []) c.note_event-noted.ensures.previous in
    let still : stands_live (standing_in c.self.inside.standings.items (event_txn e)) ≡ is_live H (event_txn e).0 = ap stands_live before ∙ live_standing H (event_txn e).0 in
    let kept = subst (λ (ts : List Txn). ts ≡ kept_by (Some (stands_live (standing_in c.self.inside.standings.items (event_txn e)))) (event_txn e) ts) (sym c.self.invariant.kept.live)
    (subst (λ (b : Bool). live_txns H ≡ kept_by (Some b) (event_txn e) (live_txns H)) (sym still) (live-kept H (event_txn e))) in
    let live = c.keep_txn.ensures.items ∙ (λ j. kept_by (c.note_event-noted.ensures.live j) (c.txn-txn.ensures j) c.self.inside.live.items)
    ∙ turned-kept e _ _ (event_txn e) c.self.inside.live.items kept in
    let begun = ap (λ (b : Bool). c.self.inside.begun + from_bool b) c.is_begin.ensures in
    record {
      kept = kept_push c.self.inside.events.items c.push_reserved.new.self.items e c.push_reserved.ensures.items _ _ _ _ _ _ _ _ _ _ c.self.invariant.kept before after previous
          c.note_event-noted.ensures.items live (ap (λ (n : ℕ). c.self.inside.begun + n) c.from.ensures ∙ begun);
      events = omega arith;
      previous = omega arith;
      standings = omega arith;
      live = omega arith;
    }
