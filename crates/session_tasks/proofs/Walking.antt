-- A walk advances by one entry.
use Rattle.std.proofs.Common.{◌≡◌, List, [], ◌∷◌, ◌++◌, Some, None, sym, ◌∙◌, ap, subst}
use mathlib.Core.List.{map-append}
use Rattle.teb_rules.specs.declared.names.Entry.{Entry}
use Rattle.teb_rules.specs.declared.names.Session.{Session}
use Rattle.session_server.specs.Halls.{Ghosts, Pass}
use Rattle.session_server.specs.Passes.{seen, mine}
use Rattle.teb_rules.specs.declared.names.Request.{Request}
use Rattle.teb_rules.specs.Run.{replies_of}
use Rattle.teb_rules.specs.Scripts.{ScriptState, IsWay, IsWalk, after_answer, asks, at_first, next, state_after, entries_of}
use Rattle.teb_rules.proofs.lemmas.laws.Runs.{state_push, way_push}
use Rattle.script_text.specs.declared.Line.{Line}
use Rattle.script_walk.specs.ScriptStates.{requests_on, state_of}
use Rattle.session_tasks.specs.Walks.{IsUnderWay}
use Rattle.script_walk.specs.declared.walker.Walker.{Walker}

next_is : (script : List Request) (E : List Entry) (p : ScriptState) → p ≡ state_after (at_first script) (replies_of E) → next script (replies_of E) ≡ asks p
unfolding next
next_is script E p e = ap asks (sym e)

pub walk_on : (lines : List Line) (E F : List Entry) (e : Entry) (w v : Walker) → IsUnderWay lines E w → asks (state_of lines w) ≡ Some e.request → F ≡ E ++ e ∷ []
    → state_of lines v ≡ after_answer (state_of lines w) e.reply → IsUnderWay lines F v
walk_on lines E F e w v u q is a = let script = requests_on lines in record {
  way = subst (IsWay script) (sym is) (way_push script E e u.way (next_is script E (state_of lines w) u.stands ∙ q));
  stands = a ∙ (ap (λ (p : ScriptState). after_answer p e.reply) u.stands ∙ (sym (state_push (at_first script) (replies_of E) e.reply)
      ∙ ap (state_after (at_first script)) (sym (ap replies_of is ∙ map-append (λ (d : Entry). d.reply) E (e ∷ [])))));
}

pub walk_same : (lines : List Line) (E F : List Entry) (w : Walker) → IsUnderWay lines E w → F ≡ E → IsUnderWay lines F w
walk_same lines E F w u e = subst (λ (G : List Entry). IsUnderWay lines G w) (sym e) u

pub walk_ends : (lines : List Line) (E : List Entry) (w : Walker) → IsUnderWay lines E w → asks (state_of lines w) ≡ None → IsWalk (requests_on lines) E
walk_ends lines E w u n = (u.way, next_is (requests_on lines) E (state_of lines w) u.stands ∙ n)

pub mine_same : {C : Type 0} {g : Ghosts C} (p q : Pass C g) → q.session ≡ p.session → seen q ≡ seen p → mine q ≡ mine p
mine_same p q s e = ap (λ (y : Session × List Entry). entries_of y.0.0 y.1) (λ i. (s i, e i))
