use Rattle.std.proofs.Common.{◌≡◌, ◌∙◌, ℕ, List, set, Result, Ok, Err, refl, ap, sym}
use Rattle.teb_rules.specs.declared.names.Txn.{Txn}
use Rattle.teb_rules.specs.declared.history.Event.{Event}
use Rattle.teb_rules.specs.declared.history.Event.TheVariants.{Began, Got, Put, Ready, Done, Gone, Told}
use Rattle.teb_rules.specs.declared.history.standing.Standing.{Standing}
use Rattle.teb_rules.specs.history.Ascending.{place_of}
use Rattle.teb_rules.specs.history.OwnEvents.{event_txn}
use Rattle.teb_rules.specs.history.Standings.{standing_number, standing_at, standing_in, standing_after, blank}
use Rattle.teb_rules.proofs.lemmas.history.AscendingLists.{key_in}
use Rattle.teb_rules.proofs.history.ascending.note_event.Goals as goal

number_after : (e : Event) (n : ℕ) (r : Standing) → standing_number (standing_after e n r) ≡ standing_number r
number_after (Began u s k i) n r = refl
number_after (Got u x w v) n r = refl
number_after (Put u x v) n r = refl
number_after (Ready u) n r = refl
number_after (Done u) n r = refl
number_after (Gone u c) n r = refl
number_after (Told u) n r = refl

number_in : (kept : List Standing) (t : Txn) → standing_number (standing_in kept t) ≡ t.0
number_in kept t = go (place_of standing_number kept t.0) refl
  where
    go : (r : Result ℕ ℕ) → place_of standing_number kept t.0 ≡ r → standing_number (standing_at kept t r) ≡ t.0
    go (Ok i) e = key_in standing_number kept t.0 i (blank t) e
    go (Err i) e = refl

pub returns-clause-items : goal.returns-clause-items
returns-clause-items c =
    let kept = c.args.standings.now.items in
    let t = event_txn c.args.event in
    let noted = standing_after c.args.event c.args.end (standing_in kept t) in
    let place = c.place_standing-i.ensures in
    let before = c.index_mut-standing.ensures.value ∙ place.found _ ∙ ap (standing_in kept) c.txn.ensures in
    let after = c.note-live.ensures.standing ∙ ap (standing_after c.args.event c.args.end) before in
    let own : standing_number noted ≡ c.txn.result.0 = number_after c.args.event c.args.end (standing_in kept t) ∙ number_in kept t ∙ ap (λ (u : Txn). u.0) (sym c.txn.ensures) in
    ap (set c.place_standing-i.new.standings.items c.place_standing-i.result) after ∙ place.over noted own
