use Rattle.std.proofs.Common.{◌∙◌, sym}
use Rattle.commit_laws.specs.Records.{records_of}
use Rattle.commit_journal.proofs.Asked.{if_ok_map, found_rows}
use Rattle.commit_journal.proofs.recovery.recover.Goals as goal

pub returns-clause-first : goal.returns-clause-first
returns-clause-first g c X H least sound lawful same has =
    if_ok_map c.read_rows.result _ _ (c.read_rows.ensures.first least (records_of X.setup H) has)
    (λ found is. found_rows X H found.commits least found.rows.items c.rows.result.now sound lawful (same ∙ sym c.rows.ensures.rows) is)
