-- A task when it begins, while it is served, and when it ends.
use Rattle.std.proofs.Common.{◌≡◌, ◌≢◌, ℕ, List, [], Option, Some, None, refl, sym, ◌∙◌, ap, subst}
use Rattle.std.specs.List.{slice_get}
use Rattle.teb_rules.specs.declared.names.Entry.{Entry}
use Rattle.teb_rules.specs.declared.names.Session.{Session}
use Rattle.teb_rules.specs.Run.{replies_of}
use Rattle.teb_rules.specs.Scripts.{IsWay, IsWalk, WayFrom, at_first, next, state_after, entries_of}
use Rattle.script_text.specs.declared.Line.{Line}
use Rattle.script_walk.specs.ScriptStates.{requests_on, state_of}
use Rattle.script_walk.specs.declared.walker.Walker.{Walker}
use Rattle.session_server.specs.Halls.{Ghosts, Hall, Pass}
use Rattle.session_server.specs.declared.error.AskError.TheVariants.{PassSpent}
use Rattle.session_server.specs.Passes.{IsNew, mine}
use Rattle.session_tasks.specs.Walks.{IsUnderWay}
use Rattle.session_tasks.specs.Scripted.{Scripted, AreDistinct, place_in, lines_at}
use Rattle.session_tasks.specs.Served.{IsServed, IsSpent}
use Rattle.session_tasks.specs.Tasks.{IsTask, progress_at}
use Rattle.session_tasks.specs.declared.task.Task.{Task}
use Rattle.session_tasks.specs.declared.task.Progress.TheVariants.{Open, Through, Failed}
use Rattle.session_tasks.proofs.Placing.{place_script, lines_there, script_lines}

-- a walker at the first line, before any reply
way_new : (lines : List Line) (E : List Entry) (w : Walker) → E ≡ [] → state_of lines w ≡ at_first (requests_on lines) → IsUnderWay lines E w
unfolding WayFrom state_after
way_new lines E w e s = record {
  way = subst (IsWay (requests_on lines)) (sym e) tt;
  stands = s ∙ sym (ap (λ (F : List Entry). state_after (at_first (requests_on lines)) (replies_of F)) e);
}

walk_none : (E : List Entry) → E ≡ [] → IsWalk [] E
unfolding WayFrom next state_after
walk_none E e = subst (IsWalk []) (sym e) (tt, refl)

module _ {C : Type 0} {g : Ghosts C} (h : Hall C g) (x : Scripted) where
  mine_none : (p : Pass C g) → IsNew h p → mine p ≡ []
  mine_none p n = ap (entries_of p.session.0) n.seen

  begun_open : (p : Pass C g) (i : ℕ) (w : Walker) → IsNew h p → Some i ≡ place_in x p.session.0 → ((lines : List Line) → state_of lines w ≡ at_first (requests_on lines))
      → IsTask h x (record { place = Some i; pass = p; walker = w; progress = Open })
  begun_open p i w n q s = record {
    place = q;
    hall = (n.seat, n.base);
    way = way_new (lines_at x (Some i)) (mine p) w (mine_none p n) (s (lines_at x (Some i)));
    through = λ e. absurd (cc);
    spent = λ e. absurd (cc);
    idle = λ e. absurd (cc);
  }

  begun_idle : (p : Pass C g) (w : Walker) → IsNew h p → None ≡ place_in x p.session.0 → ((lines : List Line) → state_of lines w ≡ at_first (requests_on lines))
      → IsTask h x (record { place = None; pass = p; walker = w; progress = Through })
  begun_idle p w n q s = record {
    place = q;
    hall = (n.seat, n.base);
    way = way_new [] (mine p) w (mine_none p n) (s []);
    through = λ e. walk_none (mine p) (mine_none p n);
    spent = λ e. absurd (cc);
    idle = λ e. (n, refl);
  }

  -- a session before its first request
  pub begun : (p : Pass C g) (o : Option ℕ) (w : Walker) → IsNew h p → o ≡ place_in x p.session.0 → ((lines : List Line) → state_of lines w ≡ at_first (requests_on lines))
      → IsTask h x (record { place = o; pass = p; walker = w; progress = progress_at o })
  begun p None w n q s = begun_idle p w n q s
  begun p (Some i) w n q s = begun_open p i w n q s

  no_place : (s : Session) (o : Option ℕ) → o ≡ place_in x s.0 → ((i : ℕ) (lines : List Line) → slice_get x i ≢ Some (s, lines)) → o ≡ None
  no_place s None q f = refl
  no_place s (Some j) q f = let z = place_script x s.0 j (sym q) in absurd (f j z.0 z.1)

  -- a session that has finished its script
  pub task_served : (t : Task C g) → AreDistinct x → IsTask h x t → t.progress ≡ Through → IsServed h x t.pass
  task_served t d a e = record {
    hall = a.hall;
    walk = λ i lines at. subst (λ (ls : List Line). IsWalk (requests_on ls) (mine t.pass)) (script_lines x d t.pass.session t.place a.place i lines at) (a.through e);
    idle = λ f. (a.idle (no_place t.pass.session t.place a.place f)).0;
  }

  spent_at : (t : Task C g) (o : Option ℕ) → t.place ≡ o → IsTask h x t → t.progress ≡ Failed PassSpent → IsSpent h x t.pass
  spent_at t None q a e = absurd (let z : Through ≡ Failed PassSpent = sym (a.idle q).1 ∙ e in cc)
  spent_at t (Some j) q a e = let f = place_script x t.pass.session.0 j (sym a.place ∙ q) in record {
    hall = a.hall;
    asks = a.spent e;
    place = j;
    lines = f.0;
    script = f.1;
    way = subst (λ (ls : List Line). IsWay (requests_on ls) (mine t.pass)) (ap (lines_at x) q ∙ lines_there x j t.pass.session f.0 f.1) a.way.way;
  }

  -- a session whose pass is used up
  pub task_spent : (t : Task C g) → IsTask h x t → t.progress ≡ Failed PassSpent → IsSpent h x t.pass
  task_spent t a e = spent_at t t.place refl a e
