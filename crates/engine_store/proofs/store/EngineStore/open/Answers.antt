use Rattle.std.proofs.Common.{◌≡◌, ◌≤◌, List, ℕ, [], ◌∷◌, ◌++◌, length, ap, subst, sym, ◌∙◌}
use Rattle.teb_rules.specs.declared.names.Cell.{Cell}
use Rattle.teb_rules.specs.names.Rows.{row_of}
use Rattle.crash_disk.specs.Disk.{LeavesOnly}
use Rattle.record_journal.specs.Format.{Record}
use Rattle.engine_core.specs.EngineModel.{EngineModel}
use Rattle.commit_laws.specs.Commits.{commit_count, rows_after}
use Rattle.commit_laws.specs.Records.{records_of}
use Rattle.epoch_journal.specs.State.{JournalState}
use Rattle.epoch_journal.specs.Telling.{Tells, TellsOn}
use Rattle.epoch_journal.specs.Kept.{Keeps}
use Rattle.engine_store.specs.Label.{label_of}
use Rattle.engine_store.specs.Lives.{IsLife, epoch_with}
use Rattle.engine_store.specs.Opening.{layout_of}
use Rattle.engine_store.specs.Telling.{TellsCommits}
use Rattle.engine_store.proofs.Reopening.{reopens}
use Rattle.engine_store.proofs.Resuming.{found_commits, found_first, life_begun, life_reopened}
use Rattle.engine_store.proofs.Starting.{starts_with_none}
use Rattle.engine_store.proofs.store.EngineStore.open.Goals as goal

pub new-requires-clause-none : goal.new-requires-clause-none
new-requires-clause-none g c = starts_with_none c.in-Ok.engine c.in-Ok.ensures.engine.events

pub new-requires-clause-begun : goal.new-requires-clause-begun
new-requires-clause-begun g c =
    let d = g.D.Disk in
    let opened = c.in-Ok.ensures.opened in
    subst (λ (n : ℕ). Keeps d.seen d.may_leave (row_of c.in-Ok.engine.store.rows) [] n c.in-Ok.journal) (sym opened.acknowledged) opened.begins

pub invariant_of-result : goal.invariant_of-result
invariant_of-result g c =
    ap (λ (j : JournalState _). j.layout.label) c.new.ensures.1
    ∙ ap (λ (l : _). l.label) c.in-Ok.ensures.opened.layout
    ∙ sym (ap (λ (b : _). label_of b.tables) (ap (λ (r : _). r.engine.names) c.new.ensures.0 ∙ c.in-Ok.ensures.engine.names))

pub returns-in-Ok-clause-found : goal.returns-in-Ok-clause-found
returns-in-Ok-clause-found g c X H least sound lawful tell =
    let d = g.D.Disk in
    let e = c.in-Ok.engine in
    let same : e ≡ c.new.result.engine.engine = sym (ap (λ (r : _). r.engine) c.new.ensures.0) in
    subst (λ (f : EngineModel). (k : ℕ) × (least ≤ k) × (k ≤ commit_count H) × ((x : Cell) → row_of f.store.rows x ≡ rows_after X H k x)) same
    (found_commits d.seen d.may_leave c.in-Ok.journal e.store.rows least X H sound lawful (c.in-Ok.ensures.opened.found_on (row_of X.rows) (records_of X.setup H) least tell))

pub returns-in-Ok-clause-life : goal.returns-in-Ok-clause-life
returns-in-Ok-clause-life g c T past last least life tell =
    let d = g.D.Disk in
    let e = c.in-Ok.engine in
    let same : e ≡ c.new.result.engine.engine = sym (ap (λ (r : _). r.engine) c.new.ensures.0) in
    subst (λ (f : EngineModel). (k : ℕ) × (least ≤ k) × (k ≤ commit_count last.events) × IsLife T (record { past = past ++ epoch_with k last ∷ []; present = f })) same
    (life_reopened d.seen d.may_leave c.in-Ok.journal least T past last e c.in-Ok.ensures.engine.is life
    (c.in-Ok.ensures.opened.found_on (row_of last.store.rows) (records_of last.store.setup last.events) least tell))

pub returns-in-Ok-clause-first : goal.returns-in-Ok-clause-first
returns-in-Ok-clause-first g c tell =
    let d = g.D.Disk in
    let e = c.in-Ok.engine in
    let T = row_of c.args.setup.rows in
    let same : e ≡ c.new.result.engine.engine = sym (ap (λ (r : _). r.engine) c.new.ensures.0) in
    subst (λ (f : EngineModel). IsLife T (record { past = []; present = f })) same
    (life_begun T e c.in-Ok.ensures.engine.is (found_first d.seen d.may_leave c.in-Ok.journal e.store.rows 0 T (c.in-Ok.ensures.opened.found [] 0 tell)))

pub returns-in-Ok-clause-any_moment : goal.returns-in-Ok-clause-any_moment
returns-in-Ok-clause-any_moment g c X H least tell =
    let d = g.D.Disk in
    let l = layout_of (d.capacity c.args.disk) c.args.setup in
    subst (λ (j : JournalState _). LeavesOnly d.moment d.left_since c.args.disk j.disk (TellsCommits l X H least)) (sym c.new.ensures.1)
    (c.in-Ok.ensures.opened.any_moment_on (row_of X.rows) (records_of X.setup H) least tell)

pub returns-in-Ok-clause-any_moment_first : goal.returns-in-Ok-clause-any_moment_first
returns-in-Ok-clause-any_moment_first g c tell =
    let d = g.D.Disk in
    let l = layout_of (d.capacity c.args.disk) c.args.setup in
    subst (λ (j : JournalState _). LeavesOnly d.moment d.left_since c.args.disk j.disk (Tells l (row_of c.args.setup.rows) [] 0)) (sym c.new.ensures.1)
    (c.in-Ok.ensures.opened.any_moment [] 0 tell)

pub returns-in-Ok-clause-images : goal.returns-in-Ok-clause-images
returns-in-Ok-clause-images g c =
    let d = g.D.Disk in
    let e = c.in-Ok.engine in
    let opened = c.in-Ok.ensures.opened in
    let same : e ≡ c.new.result.engine.engine = sym (ap (λ (r : _). r.engine) c.new.ensures.0) in
    let none : [] ≡ records_of e.store.setup e.events = sym (starts_with_none e c.in-Ok.ensures.engine.events) in
    subst (λ (x : EngineModel × JournalState _). (image : List ℕ) → d.may_leave x.1.disk image → TellsCommits x.1.layout x.0.store x.0.events x.1.acknowledged image)
    (λ i. (same i, sym c.new.ensures.1 i))
    (subst (λ (x : List Record × ℕ). (image : List ℕ) → d.may_leave c.in-Ok.journal.disk image → TellsOn c.in-Ok.journal.layout (row_of e.store.rows) x.0 x.1 image)
    (λ i. (none i, sym opened.acknowledged i)) opened.begins.each)

pub returns-in-Err-clause-reopens : goal.returns-in-Err-clause-reopens
returns-in-Err-clause-reopens g c first all least tell inside =
    let d = g.D.Disk in
    reopens d.seen d.may_leave d.moment d.left_since d.faults d.capacity (layout_of (d.capacity c.args.disk) c.args.setup) (row_of c.args.setup.rows) (length c.args.setup.names.tables) c.args.disk
    c.in-Err.back.disk c.in-Err.back.why
    (g.met.D.Disk.read_is_left c.args.disk) c.in-Err.ensures.refused first all least tell inside
