-- The law of printed runs.
use Rattle.std.proofs.Common.{ℕ, List, [], sym, subst}
use Rattle.teb_rules.specs.laws.Laws.{reached}
use Rattle.teb_rules.proofs.lemmas.laws.Laws.{every_run_serializes}
use Rattle.teb_rules.proofs.lemmas.laws.Reachable.{run_good, empty_good}
use Rattle.teb_rules.proofs.lemmas.laws.Sound.{tree_facts}
use Rattle.teb_rules.specs.Serializes.{Serializes}
use Rattle.audit_law.specs.Law.{PrintedRunsAreAudited}
use Rattle.audit_law.proofs.Ascending.{ascending_apart}
use Rattle.audit_law.proofs.Assembled.{audited}
use Rattle.audit_law.proofs.Reported.{order_fits, rows_fit}

pub printed_runs_are_audited : PrintedRunsAreAudited
printed_runs_are_audited X s asked names order rows rising can reports =
    let H = reached X asked in
    let serial = subst (λ (ts : List ℕ). Serializes X H ts) (sym reports.order_is) (every_run_serializes X s asked) in
    let apart = ascending_apart rows reports.ascending in
    audited names X (tree_facts X.setup s) H order rows can (order_fits names X H order can.events_fit serial) (rows_fit names X H rows can.starts_fit can.events_fit apart reports.final)
    (run_good X (tree_facts X.setup s) s.profiles asked [] (empty_good X.setup)).legal serial (ascending_apart X.rows rising) apart reports.final
