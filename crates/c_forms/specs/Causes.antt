-- Which form a cause has, and which cause a form is.
use Rattle.std.specs.Prelude.{◌==◌, if◌then◌else◌, Option, Some, None}
use Rattle.teb_rules.specs.declared.names.Cell.{Cell}
use Rattle.teb_rules.specs.declared.names.Node.{Node}
use Rattle.teb_rules.specs.declared.names.Txn.{Txn}
use Rattle.teb_rules.specs.declared.names.Cause.{Cause}
use Rattle.teb_rules.specs.declared.names.Cause.TheVariants as cause
use Rattle.c_forms.specs.declared.causes.CauseForm.{CauseForm}

abbrev pub no_cause : CauseForm
no_cause = record { why = 0; node = 0; table = 0; key = 0; txn = 0; second = 0; third = 0; fourth = 0 }

abbrev pub cause_form : Cause → CauseForm
cause_form (cause.Late n r x) = record no_cause { why = 1; node = n.0; table = x.table.0; key = x.key; txn = r.0 }
cause_form (cause.First n w x) = record no_cause { why = 2; node = n.0; table = x.table.0; key = x.key; txn = w.0 }
cause_form (cause.Pivot n a b c d) = record no_cause { why = 3; node = n.0; txn = a.0; second = b.0; third = c.0; fourth = d.0 }
cause_form (cause.Newer n u) = record no_cause { why = 4; node = n.0; txn = u.0 }
cause_form (cause.After u) = record no_cause { why = 5; txn = u.0 }
cause_form cause.Asked = record no_cause { why = 6 }
cause_form cause.Ended = record no_cause { why = 7 }

abbrev pub node_in : CauseForm → Node
node_in f = record { 0 = f.node }

abbrev pub txn_in : CauseForm → Txn
txn_in f = record { 0 = f.txn }

abbrev pub cell_in : CauseForm → Cell
cell_in f = record { table = record { 0 = f.table }; key = f.key }

abbrev pub cause_in : CauseForm → Option Cause
cause_in f =
    if f.why == 1 then Some (cause.Late (node_in f) (txn_in f) (cell_in f)) else
    if f.why == 2 then Some (cause.First (node_in f) (txn_in f) (cell_in f)) else
    if f.why == 3 then Some (cause.Pivot (node_in f) (txn_in f) (record { 0 = f.second }) (record { 0 = f.third }) (record { 0 = f.fourth })) else
    if f.why == 4 then Some (cause.Newer (node_in f) (txn_in f)) else
    if f.why == 5 then Some (cause.After (txn_in f)) else
    if f.why == 6 then Some cause.Asked else
    if f.why == 7 then Some cause.Ended else
    None
