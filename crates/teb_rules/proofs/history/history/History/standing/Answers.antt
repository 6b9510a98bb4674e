use Rattle.std.proofs.Common.{◌∙◌, List, sym, ap, subst, arith, get_or}
use Rattle.teb_rules.specs.declared.history.standing.Standing.{Standing}
use Rattle.teb_rules.specs.history.Ascending.{IsAscendingBy, place_of}
use Rattle.teb_rules.specs.history.Standings.{standing_number, standing_of}
use Rattle.teb_rules.specs.history.Written.{Written}
use Rattle.teb_rules.proofs.lemmas.history.AscendingLists.{place_in}
use Rattle.teb_rules.proofs.lemmas.history.Mentioned.{standings-ascending, standing-found, standing-absent}
use Rattle.teb_rules.proofs.history.history.History.standing.Goals as goal

pub find_standing-requires : goal.find_standing-requires
find_standing-requires c = subst (λ (rs : List Standing). IsAscendingBy standing_number rs) (sym (c.deref.ensures.value ∙ c.self.invariant.kept.standings)) (standings-ascending _)

pub index-requires : goal.index-requires
index-requires c = omega (arith, c.deref.ensures.len, place_in standing_number c.deref.result.now c.args.t.0 _ (sym c.find_standing.ensures ∙ c.in-Ok.is))

pub returns-in-Ok : goal.returns-in-Ok
returns-in-Ok c =
    let items = c.self.invariant.kept.standings in
    let place = λ (rs : List Standing). place_of standing_number rs c.args.t.0 in
    c.index.ensures ∙ ap (λ (rs : List Standing). get_or rs c.in-Ok.i c.index.result.now) items
    ∙ standing-found _ c.args.t.0 c.in-Ok.i _ (ap place (sym (c.deref.ensures.value ∙ items)) ∙ sym c.find_standing.ensures ∙ c.in-Ok.is)
    ∙ ap (λ (w : Written). standing_of w.events c.args.t.0) c.self.view_is

pub returns-in-Err : goal.returns-in-Err
returns-in-Err c =
    let items = c.self.invariant.kept.standings in
    let place = λ (rs : List Standing). place_of standing_number rs c.args.t.0 in
    c.blank.ensures
    ∙ standing-absent _ c.args.t _ (ap place (sym (c.deref.ensures.value ∙ items)) ∙ sym c.find_standing.ensures ∙ c.in-Err.is)
    ∙ ap (λ (w : Written). standing_of w.events c.args.t.0) c.self.view_is
