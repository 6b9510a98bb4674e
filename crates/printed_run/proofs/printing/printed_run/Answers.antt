use Rattle.std.proofs.Common.{◌≡◌, ◌∙◌, List, reverse, rules, sym, ap, subst, subst₂}
use Rattle.std.specs.Prelude.{All}
use Rattle.teb_rules.specs.declared.names.naming.NameBook.{NameBook}
use Rattle.teb_rules.specs.names.Rows.{IsAscending}
use Rattle.teb_rules.specs.declared.history.Event.{Event}
use Rattle.teb_rules.specs.Setup.{Store}
use Rattle.script_text.specs.Named.{EventNamed}
use Rattle.script_text.specs.Ranges.{EventInRange, RowInRange}
use Rattle.store_setup.specs.SetupView.{setup_view}
use Rattle.printed_run.specs.Printed.{IsPrintedRun}
use Rattle.printed_run.proofs.Audited.{is_audited}
use Rattle.printed_run.proofs.Engines.{of_engine}
use Rattle.printed_run.proofs.Histories.{events_named, rows_named}
use Rattle.printed_run.proofs.printing.printed_run.Goals as goal

pub put_events-requires : goal.put_events-requires
put_events-requires g c =
    let s = c.setup-setup.result.now in
    let e = c.args.engine.now in
    let named = events_named (setup_view s) e.store e.names e.events
    (of_engine s e c.setup-setup.ensures.whole c.setup-setup.ensures.store c.setup-setup.ensures.names c.requires c.history.ensures.reached) in
    let same : c.events.result.now ≡ reverse e.events = c.events.ensures ∙ ap (λ (H : List Event). reverse H) c.history.ensures.events in
    subst₂ (λ (names : NameBook) (events : List Event). All (EventNamed names) events) (sym c.setup-setup.ensures.names) (sym same) named

pub put_ending-requires : goal.put_ending-requires
put_ending-requires g c =
    let s = c.setup-setup.result.now in
    let e = c.args.engine.now in
    rows_named (setup_view s) e.store e.names e.events (of_engine s e c.setup-setup.ensures.whole c.setup-setup.ensures.store c.setup-setup.ensures.names c.requires c.history.ensures.reached)

pub returns-clause-audited : goal.returns-clause-audited
returns-clause-audited g c =
    let s = c.setup-setup.result.now in
    let e = c.args.engine.now in
    let over = of_engine s e c.setup-setup.ensures.whole c.setup-setup.ensures.store c.setup-setup.ensures.names c.requires c.history.ensures.reached in
    let same : c.events.result.now ≡ reverse e.events = c.events.ensures ∙ ap (λ (H : List Event). reverse H) c.history.ensures.events in
    let text : IsPrintedRun e.store e.names e.events c.put_ending.new.out.items = search rules in
    is_audited (setup_view s) e.store e.names e.events over c.requires
    (subst (λ (X : Store). All RowInRange X.rows) c.setup-setup.ensures.store c.in_ok-put_starts.ensures.in_range)
    (subst (λ (X : Store). IsAscending X.rows) c.setup-setup.ensures.store c.in_ok-put_starts.ensures.ascending)
    (subst (All EventInRange) same c.in_ok-put_events.ensures.in_range) c.put_ending.new.out.items text
