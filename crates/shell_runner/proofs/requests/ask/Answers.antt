use Rattle.std.proofs.Common.{◌≡◌, ap, inl, ◌∙◌, rules, subst, sym}
use Rattle.std.proofs.lemmas.Result.{MatchResult-at_err}
use Rattle.shell_runner.specs.Runs.{state_of}
use Rattle.shell_runner.specs.declared.store.EpochError.TheVariants as errors
use Rattle.shell_runner.proofs.Going.{once}
use Rattle.shell_runner.proofs.EpochEnds.{IsSomebodys, asked_now, hinders, told_later}
use Rattle.shell_runner.proofs.requests.ask.Goals as goal

pub returns-then-not-begins_at_end-clause-safe : goal.returns-then-not-begins_at_end-clause-safe
returns-then-not-begins_at_end-clause-safe g c = once g.T.ShellStore.safe c.args.shell c.ask_store.result.0 c.ask_store.ensures.safe

pub returns-then-not-begins_at_end-clause-asked : goal.returns-then-not-begins_at_end-clause-asked
returns-then-not-begins_at_end-clause-asked g c =
    asked_now (state_of g.T.ShellStore.stored c.args.shell) c.args.session c.args.request c.ask_store.new.out.items (state_of g.T.ShellStore.stored c.ask_store.result.0) c.ask_store.result.1
    (λ b. search (rules, c.begins_at_end.ensures.1 b)) c.ask_store.ensures.replied

pub returns-in-Ok-clause-safe : goal.returns-in-Ok-clause-safe
returns-in-Ok-clause-safe g c = record { mid = c.begin_next_epoch-shell.result.0; first = c.begin_next_epoch-shell.ensures.safe; second = c.ask_store-in-Ok.ensures.safe }

pub returns-in-Err-DiskFault-clause-safe : goal.returns-in-Err-DiskFault-clause-safe
returns-in-Err-DiskFault-clause-safe g c = once g.T.ShellStore.safe c.args.shell c.begin_next_epoch-shell.result.0 c.begin_next_epoch-shell.ensures.safe

pub returns-in-Err-OutOfMemory-clause-safe : goal.returns-in-Err-OutOfMemory-clause-safe
returns-in-Err-OutOfMemory-clause-safe g c = once g.T.ShellStore.safe c.args.shell c.begin_next_epoch-shell.result.0 c.begin_next_epoch-shell.ensures.safe

pub returns-in-Err-Unfinished-clause-safe : goal.returns-in-Err-Unfinished-clause-safe
returns-in-Err-Unfinished-clause-safe g c =
    let kept : c.begin_next_epoch-shell.result.0 ≡ c.args.shell = search rules in
    once g.T.ShellStore.safe c.args.shell c.answer_later.result.0 (inl (c.answer_later.ensures.same ∙ kept))

pub returns-in-Err-Unfinished-clause-asked : goal.returns-in-Err-Unfinished-clause-asked
returns-in-Err-Unfinished-clause-asked g c =
    let kept : c.begin_next_epoch-shell.result.0 ≡ c.args.shell = search rules in
    let why : c.in-Err-Unfinished.field-0 ≡ errors.Unfinished c.in-Err-Unfinished.field-0-0 = search (rules, c.in-Err-Unfinished.field-0-is) in
    told_later (state_of g.T.ShellStore.stored c.args.shell) c.args.session c.args.request c.answer_later.new.out.items (state_of g.T.ShellStore.stored c.answer_later.result.0)
    (g.T.ShellStore.stored c.begin_next_epoch-shell.result.0.store).names c.answer_later.result.1
    (c.begins_at_end.ensures.0 (search rules)) (hinders _ c.in-Err-Unfinished.field-0
    (MatchResult-at_err _ _ c.in-Err-Unfinished.field-0 c.in-Err-Unfinished.is c.begin_next_epoch-shell.ensures.refused)
    (subst IsSomebodys (sym why) tt)) (ap (state_of g.T.ShellStore.stored) (c.answer_later.ensures.same ∙ kept)) (ap (λ s. (g.T.ShellStore.stored s.store).names) kept) c.answer_later.ensures.said

pub returns-in-Err-Untold-clause-safe : goal.returns-in-Err-Untold-clause-safe
returns-in-Err-Untold-clause-safe g c =
    let kept : c.begin_next_epoch-shell.result.0 ≡ c.args.shell = search rules in
    once g.T.ShellStore.safe c.args.shell c.answer_later-in-Err-Untold.result.0 (inl (c.answer_later-in-Err-Untold.ensures.same ∙ kept))

pub returns-in-Err-Untold-clause-asked : goal.returns-in-Err-Untold-clause-asked
returns-in-Err-Untold-clause-asked g c =
    let kept : c.begin_next_epoch-shell.result.0 ≡ c.args.shell = search rules in
    let why : c.in-Err-Untold.field-0 ≡ errors.Untold c.in-Err-Untold.field-0-0 = search (rules, c.in-Err-Untold.field-0-is) in
    told_later (state_of g.T.ShellStore.stored c.args.shell) c.args.session c.args.request c.answer_later-in-Err-Untold.new.out.items
    (state_of g.T.ShellStore.stored c.answer_later-in-Err-Untold.result.0) (g.T.ShellStore.stored c.begin_next_epoch-shell.result.0.store).names c.answer_later-in-Err-Untold.result.1
    (c.begins_at_end.ensures.0 (search rules)) (hinders _ c.in-Err-Untold.field-0
    (MatchResult-at_err _ _ c.in-Err-Untold.field-0 c.in-Err-Untold.is c.begin_next_epoch-shell.ensures.refused)
    (subst IsSomebodys (sym why) tt)) (ap (state_of g.T.ShellStore.stored) (c.answer_later-in-Err-Untold.ensures.same ∙ kept)) (ap (λ s. (g.T.ShellStore.stored s.store).names) kept)
    c.answer_later-in-Err-Untold.ensures.said
