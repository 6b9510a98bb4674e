use Rattle.std.proofs.Common.{◌∙◌, sym, ap, subst}
use Rattle.teb_rules.specs.declared.names.Session.{Session}
use Rattle.session_tasks.specs.Scripted.{place_in}
use Rattle.session_tasks.specs.Tasks.{IsTask}
use Rattle.session_tasks.specs.declared.task.Progress.{Progress}
use Rattle.session_tasks.proofs.TaskStages.{begun}
use Rattle.session_tasks.proofs.run.Run.begin.Goals as goal

pub returns-clause-task : goal.returns-clause-task
returns-clause-task g c =
    let h = c.args.self.now.hall.now in
    let x = c.args.self.now.scripts.now in
    subst (λ (q : Progress). IsTask h x (record { place = c.place_in-place.result; pass = c.args.pass; walker = c.new.result; progress = q })) (sym c.progress_at.ensures)
    (begun h x c.args.pass c.place_in-place.result c.new.result c.requires (c.place_in-place.ensures ∙ ap (λ (s : Session). place_in x s.0) c.session.ensures) c.new.ensures)
