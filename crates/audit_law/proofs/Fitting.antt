-- The events of a lawful history can be printed if their numbers are in range and the names exist.
use Rattle.std.proofs.Common.{◌<◌, ◌≤◌, List, [], ◌∷◌, reverse, subst, arith}
use Rattle.std.specs.Prelude.{IsTrue, leb, ◌&&◌}
use Rattle.std.specs.List.{All}
use Rattle.std.proofs.lemmas.Bool.{and_parts, leb-true}
use Rattle.std.proofs.lemmas.List.{reverse-reverse}
use Rattle.std.proofs.lemmas.List.Elements.{All-nil, All-cons, All-head, All-tail}
use Rattle.teb_rules.specs.declared.names.TheConstants.{SESSIONS}
use Rattle.teb_rules.specs.declared.names.Cause.{Cause}
use Rattle.teb_rules.specs.declared.names.Cause.TheVariants as cause
use Rattle.teb_rules.specs.declared.names.Cell.{Cell}
use Rattle.teb_rules.specs.declared.names.Session.{Session}
use Rattle.teb_rules.specs.declared.names.naming.NameBook.{NameBook}
use Rattle.teb_rules.specs.declared.history.Event.{Event}
use Rattle.teb_rules.specs.declared.history.Event.TheVariants as event
use Rattle.teb_rules.specs.Setup.{Setup}
use Rattle.teb_rules.specs.laws.Lawful.{Lawful, Granted}
use Rattle.script_text.specs.Named.{CellNamed, CauseNamed, EventNamed}
use Rattle.script_text.specs.Ranges.{CauseInRange, EventInRange, RowInRange}
use Rattle.std.specs.Prelude.{ℤ}
use Rattle.audit_law.specs.Printed.{CauseFits, EventFits, RowFits}
use Rattle.audit_law.proofs.Orders.{All-reverse}

module _ (names : NameBook) where
  cause_fits : (c : Cause) → CauseNamed names c → CauseInRange c → CauseFits names c
  cause_fits (cause.Late n r x) named range = (named.0, range.0, (named.1, range.1))
  cause_fits (cause.First n w x) named range = (named.0, range.0, (named.1, range.1))
  cause_fits (cause.Pivot n a b c d) named range = (named, range.0, range.1, range.2, range.3)
  cause_fits (cause.Newer n u) named range = (named, range)
  cause_fits (cause.After u) named range = range
  cause_fits cause.Asked named range = tt
  cause_fits cause.Ended named range = tt

  session_fits : (s : Session) → IsTrue (leb 1 s.0 && leb s.0 SESSIONS) → (0 < s.0) × (s.0 ≤ SESSIONS)
  session_fits s h =
      let both = and_parts (leb 1 s.0) (leb s.0 SESSIONS) h in
      let low = leb-true 1 s.0 both.0 in
      (omega (arith, low), leb-true s.0 SESSIONS both.1)

  event_fits : (S : Setup) (P : List Event) (e : Event) → Granted S P e → EventNamed names e → EventInRange e → EventFits names e
  event_fits S P (event.Began t s k i) granted named range = let session = session_fits s granted.4 in (range.0, session.0, session.1, named, range.1)
  event_fits S P (event.Got t x u v) granted named range = (range.0, (named, range.1), range.2, range.3)
  event_fits S P (event.Put t x v) granted named range = (range.0, (named, range.1), range.2)
  event_fits S P (event.Ready t) granted named range = range
  event_fits S P (event.Done t) granted named range = range
  event_fits S P (event.Gone t c) granted named range = (range.0, cause_fits c named range.1)
  event_fits S P (event.Told t) granted named range = range

  all_fit : (S : Setup) (H : List Event) → Lawful S H → All (EventNamed names) H → All EventInRange H → All (EventFits names) H
  unfolding Lawful
  all_fit S [] lawful named range = All-nil (EventFits names)
  all_fit S (e ∷ P) lawful named range =
      All-cons (EventFits names) e P (event_fits S P e lawful.0 (All-head (EventNamed names) e P named) (All-head EventInRange e P range))
      (all_fit S P lawful.1 (All-tail (EventNamed names) e P named) (All-tail EventInRange e P range))

  -- the same facts about the events in oldest-first order suffice
  pub events_fit : (S : Setup) (H : List Event) → Lawful S H → All (EventNamed names) (reverse H) → All EventInRange (reverse H) → All (EventFits names) H
  events_fit S H lawful named range =
      all_fit S H lawful (subst (All (EventNamed names)) (reverse-reverse H) (All-reverse (EventNamed names) (reverse H) named))
      (subst (All EventInRange) (reverse-reverse H) (All-reverse EventInRange (reverse H) range))

  pub starts_fit : (rows : List (Cell × ℤ)) → All (λ (r : Cell × ℤ). CellNamed names r.0) rows → All RowInRange rows → All (RowFits names) rows
  starts_fit [] named range = All-nil (RowFits names)
  starts_fit (r ∷ rs) named range =
      let here = All-head RowInRange r rs range in
      All-cons (RowFits names) r rs ((All-head (λ (q : Cell × ℤ). CellNamed names q.0) r rs named, here.0), here.1)
      (starts_fit rs (All-tail (λ (q : Cell × ℤ). CellNamed names q.0) r rs named) (All-tail RowInRange r rs range))
