-- Which request a form is.
use Rattle.std.specs.Prelude.{◌==◌, if◌then◌else◌, Option, Some, None}
use Rattle.teb_rules.specs.declared.names.Cell.{Cell}
use Rattle.teb_rules.specs.declared.names.Request.{Request}
use Rattle.teb_rules.specs.declared.names.Request.TheVariants as request
use Rattle.c_forms.specs.declared.requests.RequestForm.{RequestForm}

abbrev pub cell_in : RequestForm → Cell
cell_in f = record { table = record { 0 = f.table }; key = f.key }

-- by the verb
abbrev pub request_in : RequestForm → Option Request
request_in f =
    if f.verb == 1 then Some (request.Begin (record { kind = record { 0 = f.kind }; instance = f.instance })) else
    if f.verb == 2 then Some (request.Read (cell_in f)) else
    if f.verb == 3 then Some (request.Write (cell_in f) f.value) else
    if f.verb == 4 then Some (request.Add (cell_in f) f.value) else
    if f.verb == 5 then Some (request.Delete (cell_in f)) else
    if f.verb == 6 then Some (request.Scan (cell_in f) f.count) else
    if f.verb == 7 then Some request.Prepare else
    if f.verb == 8 then Some request.Commit else
    if f.verb == 9 then Some request.Abort else
    if f.verb == 10 then Some request.End else
    None
