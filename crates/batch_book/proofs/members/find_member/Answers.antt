use Rattle.std.proofs.Common.{◌∙◌, sym, rules}
use Rattle.std.proofs.lemmas.Bool.{eqb-true}
use Rattle.teb_rules.proofs.lemmas.history.AscendingLists.{found_at, place_in}
use Rattle.batch_book.specs.Fields.{member_number}
use Rattle.batch_book.proofs.Elements.{placed, unplaced}
use Rattle.batch_book.proofs.members.find_member.Goals as goal

pub bounds-members-i : goal.bounds-members-i
bounds-members-i c = place_in member_number c.args.members.now c.args.t.0 c.in-Ok.i (sym c.search_member.ensures ∙ c.in-Ok.is)

pub offset_bounds-members-i : goal.offset_bounds-members-i
offset_bounds-members-i c =
    let within = place_in member_number c.args.members.now c.args.t.0 c.in-Ok.i (sym c.search_member.ensures ∙ c.in-Ok.is) in
    search (rules, within)

pub returns-then-eq : goal.returns-then-eq
returns-then-eq c = sym (placed member_number c.args.t.0 _ _ c.args.members.now
    (sym (found_at member_number _ c.requires _ _ _ c.if-first-members.true (eqb-true _ _ (sym c.eq.ensures ∙ c.if-eq.true)))))

pub returns-in-Ok : goal.returns-in-Ok
returns-in-Ok c = sym (placed member_number c.args.t.0 c.in-Ok.i _ c.args.members.now (sym c.search_member.ensures ∙ c.in-Ok.is))

pub returns-in-Err : goal.returns-in-Err
returns-in-Err c = sym (unplaced member_number c.args.t.0 c.in-Err.field-0 c.args.members.now c.requires (sym c.search_member.ensures ∙ c.in-Err.is))
