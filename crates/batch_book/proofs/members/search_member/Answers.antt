use Rattle.std.proofs.Common.{rules}
use Rattle.std.proofs.lemmas.List.Sorted.{answers_always}
use Rattle.teb_rules.proofs.lemmas.history.AscendingLists.{searched}
use Rattle.batch_book.specs.Fields.{member_number}
use Rattle.batch_book.proofs.members.search_member.Goals as goal

pub returns : goal.returns
returns c =
    let facts = c.binary_search_by_key.ensures in
    searched member_number c.args.members.now c.requires c.args.t.0 c.binary_search_by_key.result facts.bound (facts.position member_number (answers_always _ _ _ (λ f a r g called. search rules)))
