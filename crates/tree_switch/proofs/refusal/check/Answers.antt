use Rattle.std.proofs.Common.{◌==◌, ℤ, List, length, subst, sym, ap, ◌∙◌}
use Rattle.std.proofs.lemmas.Bool.{both_ways}
use Rattle.teb_rules.specs.declared.names.Cell.{Cell}
use Rattle.teb_rules.specs.declared.names.naming.NameBook.{NameBook}
use Rattle.teb_rules.specs.declared.history.Event.{Event}
use Rattle.tree_switch.specs.Refusals.{AreNumbered, AreOfSessions, AllFinished, AllTold, IsLeast}
use Rattle.teb_rules.specs.Epochs.{IsDrained, IsUntold}
use Rattle.tree_switch.proofs.Refusing.{are_numbered, are_of_sessions, no_rows}
use Rattle.tree_switch.proofs.SameNames.{same_decides}
use Rattle.tree_switch.proofs.refusal.check.Goals as goal

pub first_unfinished-requires : goal.first_unfinished-requires
first_unfinished-requires g c = subst AreNumbered (sym c.history-history.ensures.events) (are_numbered c.args.present.now.store.setup c.args.present.now.events c.history-history.ensures.lawful)

pub first_untold-requires : goal.first_untold-requires
first_untold-requires g c = subst AreOfSessions (sym c.history-history.ensures.events) (are_of_sessions c.args.present.now.store.setup c.args.present.now.events c.history-history.ensures.lawful)

pub returns-in-Some-first_untold : goal.returns-in-Some-first_untold
returns-in-Some-first_untold g c =
    let s = c.in-Some-first_untold.s.0 in
    (subst AllFinished c.history-history.ensures.events c.in_default.ensures, subst (λ (H : List Event). IsLeast (IsUntold H) s) c.history-history.ensures.events c.in-Some-first_untold.ensures)

pub returns-then-not-same_names : goal.returns-then-not-same_names
returns-then-not-same_names g c =
    let drained : IsDrained c.args.present.now.events = record {
      finished = subst AllFinished c.history-history.ensures.events c.in_default.ensures;
      told = subst AllTold c.history-history.ensures.events c.in_default-first_untold.ensures;
    } in
    let a = c.args.setup.now.names.tables in
    let b = c.setup.result.now.names.tables in
    (drained, λ q. both_ways _ (sym c.same_names.ensures ∙ c.if-not-same_names.true) ((same_decides a b).1 (q ∙ sym (ap (λ (n : NameBook). n.tables) c.setup.ensures.names))))

pub returns-then-not-is_empty : goal.returns-then-not-is_empty
returns-then-not-is_empty g c =
    let drained : IsDrained c.args.present.now.events = record {
      finished = subst AllFinished c.history-history.ensures.events c.in_default.ensures;
      told = subst AllTold c.history-history.ensures.events c.in_default-first_untold.ensures;
    } in
    let a = c.args.setup.now.names.tables in
    let b = c.setup.result.now.names.tables in (
      drained,
      (same_decides a b).0 (sym c.same_names.ensures ∙ c.if-not-same_names.false) ∙ ap (λ (n : NameBook). n.tables) c.setup.ensures.names,
      λ q. both_ways _ (sym c.is_empty.ensures ∙ c.if-not-is_empty.true) (ap (λ (rs : List (Cell × ℤ)). length rs == 0) q),
    )

pub returns : goal.returns
returns g c =
    let a = c.args.setup.now.names.tables in
    let b = c.setup.result.now.names.tables in
    record {
      drained = record {
        finished = subst AllFinished c.history-history.ensures.events c.in_default.ensures;
        told = subst AllTold c.history-history.ensures.events c.in_default-first_untold.ensures;
      };
      tables = (same_decides a b).0 (sym c.same_names.ensures ∙ c.if-not-same_names.false) ∙ ap (λ (n : NameBook). n.tables) c.setup.ensures.names;
      rows = no_rows c.args.setup.now.rows (sym c.is_empty.ensures ∙ c.if-not-is_empty.false);
    }
