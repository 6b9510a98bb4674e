use Rattle.std.proofs.Common.{◌∙◌, rules, tests}
use Rattle.std.proofs.lemmas.Iterator.{YieldsList-from_slice}
use Rattle.std.proofs.lemmas.Iterator.Search.{any_from_yields_List}
use Rattle.audit_check.specs.Faults.{is_missing}
use Rattle.audit_check.specs.Keeps.{row_key_passes}
use Rattle.audit_check.specs.Views.{views, line_view}
use Rattle.audit_check.specs.declared.line.Line.{Line}
use Rattle.audit_check.proofs.RowSteps.{row_keys_pass}
use Rattle.audit_check.proofs.rows.any_missing.Goals as goal

pub returns : goal.returns
returns c = λ past seen.
    let missing = is_missing (views c.args.lines.now) past in
    any_from_yields_List (λ (l : Line). row_key_passes missing (line_view l)) _ _ _ c.any.ensures.ran (YieldsList-from_slice c.args.lines.now cc) (λ x b q k. search (rules, tests))
    ∙ row_keys_pass missing c.args.lines.now
