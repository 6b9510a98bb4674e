use Rattle.std.proofs.Common.{◌∙◌, List, Some, sym, ap, subst, rules}
use Rattle.teb_rules.specs.history.Ascending.{IsAscendingBy, place_of}
use Rattle.teb_rules.proofs.lemmas.history.AscendingLists.{place_in, remove-filter}
use Rattle.batch_book.specs.declared.members.Member.{Member}
use Rattle.batch_book.specs.Fields.{member_number}
use Rattle.batch_book.proofs.Elements.{placed, unplaced}
use Rattle.batch_book.proofs.Leaving.{absent_left}
use Rattle.batch_book.proofs.members.take_out.Goals as goal

pub search_member-requires : goal.search_member-requires
search_member-requires c = subst (IsAscendingBy member_number) (sym c.deref.ensures.value) c.requires

pub remove-requires : goal.remove-requires
remove-requires c =
    let place = λ (ms : List Member). place_of member_number ms c.args.t.0 in
    let within = place_in member_number c.args.members.now.items c.args.t.0 c.in-Ok.i (ap place (sym c.deref.ensures.value) ∙ sym c.search_member.ensures ∙ c.in-Ok.is) in
    search (rules, within)

pub returns-in-Ok-clause-member : goal.returns-in-Ok-clause-member
returns-in-Ok-clause-member c =
    let place = λ (ms : List Member). place_of member_number ms c.args.t.0 in
    let found = ap place (sym c.deref.ensures.value) ∙ sym c.search_member.ensures ∙ c.in-Ok.is in
    ap (λ (m : Member). Some m) c.remove.ensures.value ∙ sym (placed member_number c.args.t.0 c.in-Ok.i c.remove.result c.args.members.now.items found)

pub returns-in-Ok-clause-items : goal.returns-in-Ok-clause-items
returns-in-Ok-clause-items c =
    let place = λ (ms : List Member). place_of member_number ms c.args.t.0 in
    let found = ap place (sym c.deref.ensures.value) ∙ sym c.search_member.ensures ∙ c.in-Ok.is in
    c.remove.ensures.items ∙ remove-filter member_number c.args.members.now.items c.requires c.args.t.0 c.in-Ok.i found

pub returns-in-Err-clause-member : goal.returns-in-Err-clause-member
returns-in-Err-clause-member c =
    let place = λ (ms : List Member). place_of member_number ms c.args.t.0 in
    let absent = ap place (sym c.deref.ensures.value) ∙ sym c.search_member.ensures ∙ c.in-Err.is in
    sym (unplaced member_number c.args.t.0 _ c.args.members.now.items c.requires absent)

pub returns-in-Err-clause-items : goal.returns-in-Err-clause-items
returns-in-Err-clause-items c =
    let place = λ (ms : List Member). place_of member_number ms c.args.t.0 in
    let absent = ap place (sym c.deref.ensures.value) ∙ sym c.search_member.ensures ∙ c.in-Err.is in
    sym (absent_left c.args.t.0 c.args.members.now.items (unplaced member_number c.args.t.0 _ c.args.members.now.items c.requires absent))
