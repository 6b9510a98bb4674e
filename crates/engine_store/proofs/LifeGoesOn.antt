-- A life continues: the present epoch advances, or another one follows it.
use Rattle.std.proofs.Common.{◌≡◌, ◌≤◌, ℕ, List, [], ◌∷◌, ◌++◌, Option, Some, None, refl, sym, ◌∙◌, ap, subst, le_refl}
use Rattle.teb_rules.specs.declared.names.Cell.{Cell}
use Rattle.teb_rules.specs.declared.names.Session.{Session}
use Rattle.teb_rules.specs.declared.names.Request.{Request}
use Rattle.teb_rules.specs.declared.names.Reply.{Reply}
use Rattle.teb_rules.specs.names.Rows.{row_of}
use Rattle.teb_rules.specs.declared.history.Event.{Event}
use Rattle.teb_rules.specs.Setup.{Store}
use Rattle.teb_rules.specs.Accepted.{IsSound}
use Rattle.teb_rules.specs.Answer.{answer}
use Rattle.teb_rules.specs.Replay.{Values}
use Rattle.teb_rules.specs.Serializes.{final_table}
use Rattle.teb_rules.specs.laws.Lawful.{Lawful}
use Rattle.teb_rules.proofs.lemmas.laws.Reachable.{run_good, empty_good}
use Rattle.teb_rules.proofs.lemmas.laws.Sound.{tree_facts}
use Rattle.engine_core.specs.EngineModel.{EngineModel, IsOfEngine, IsReached}
use Rattle.engine_core.proofs.Reached.{law_of, reached_more}
use Rattle.commit_laws.specs.Commits.{commit_count, rows_after}
use Rattle.commit_journal.proofs.Asked.{reads_reached}
use Rattle.teb_rules.specs.Told.{events_after}
use Rattle.engine_store.specs.Lives.{Epoch, IsEpoch, IsLife, LivesOn, epoch_of, epoch_with, left_by}
use Rattle.engine_store.proofs.WholeLife.{all_kept}

pub lawful_of : (X : Store) (H : List Event) → IsSound X.setup → IsReached X H → Lawful X.setup H
lawful_of X H = law_of (λ Y G. Lawful Y.setup G) (λ Y sound asked. (run_good Y (tree_facts Y.setup sound) sound.profiles asked [] (empty_good Y.setup)).legal) X H

-- the epoch of an engine, with the commits that were kept
pub is_epoch : (k : ℕ) (e : EngineModel) → IsOfEngine e → k ≤ commit_count e.events → IsEpoch (epoch_with k e)
is_epoch k e i few = record { few = few; sound = i.sound; lawful = lawful_of e.store e.events i.sound i.reached; reads = reads_reached e.store e.events i.reached }

-- the last epoch may be replaced by one that started with the same store
another : (T : Values) (past : List Epoch) (e f : Epoch) → f.store ≡ e.store → IsEpoch f → LivesOn T (past ++ e ∷ []) → LivesOn T (past ++ f ∷ [])
another T [] e f same i l = (i, λ x. ap (λ (X : Store). row_of X.rows x) same ∙ l.1 x, tt)
another T (d ∷ past) e f same i l = (l.0, l.1, another (left_by d) past e f same i l.2)

-- one more epoch
one_more : (T : Values) (past : List Epoch) (e f : Epoch) → IsEpoch f → ((x : Cell) → row_of f.store.rows x ≡ left_by e x) → LivesOn T (past ++ e ∷ []) → LivesOn T ((past ++ e ∷ []) ++ f ∷ [])
one_more T [] e f i rows l = (l.0, l.1, (i, rows, tt))
one_more T (d ∷ past) e f i rows l = (l.0, l.1, one_more (left_by d) past e f i rows l.2)

-- the engine after a request, whether or not it was asked
pub asked_engine : (e f : EngineModel) (s : Session) (r : Request) (o : Option Reply) → f.store ≡ e.store → f.events ≡ events_after o e.events (answer e.store e.events s r).1 → IsOfEngine e
    → IsOfEngine f
asked_engine e f s r o store events i = record {
  sound = subst (λ (X : Store). IsSound X.setup) (sym store) i.sound;
  reached = subst (λ (X : Store). IsReached X f.events) (sym store) (reached o events);
}
  where
    reached : (o : Option Reply) → f.events ≡ events_after o e.events (answer e.store e.events s r).1 → IsReached e.store f.events
    reached None is = subst (IsReached e.store) (sym is) i.reached
    reached (Some reply) is = reached_more e.store e.events s r i.reached f.events is

pub lives_further : (T : Values) (past : List Epoch) (e f : EngineModel) (s : Session) (r : Request) (o : Option Reply) → f.store ≡ e.store
    → f.events ≡ events_after o e.events (answer e.store e.events s r).1
    → IsLife T (record { past = past; present = e }) → IsLife T (record { past = past; present = f })
lives_further T past e f s r o store events life =
    let i = asked_engine e f s r o store events life.engine in
    record { engine = i; on = another T past (epoch_of e) (epoch_of f) store (is_epoch (commit_count f.events) f i (le_refl _)) life.on }

-- an engine starts with the rows that the first k commits of the present one left
pub reopened : (T : Values) (past : List Epoch) (e f : EngineModel) (k : ℕ) → k ≤ commit_count e.events → IsOfEngine f → ((x : Cell) → row_of f.store.rows x ≡ rows_after e.store e.events k x)
    → IsLife T (record { past = past; present = e }) → IsLife T (record { past = past ++ epoch_with k e ∷ []; present = f })
reopened T past e f k few i rows life = record {
  engine = i;
  on = one_more T past (epoch_with k e) (epoch_of f) (is_epoch (commit_count f.events) f i (le_refl _)) rows
      (another T past (epoch_of e) (epoch_with k e) refl (is_epoch k e life.engine few) life.on);
}

-- or with all of its rows
pub followed : (T : Values) (past : List Epoch) (e f : EngineModel) → IsOfEngine f → ((x : Cell) → row_of f.store.rows x ≡ final_table e.store e.events x)
    → IsLife T (record { past = past; present = e }) → IsLife T (record { past = past ++ epoch_of e ∷ []; present = f })
followed T past e f i rows life =
    let o = life.engine in
    reopened T past e f (commit_count e.events) (le_refl _) i (λ x. rows x ∙ sym (all_kept e.store e.events o.sound (lawful_of e.store e.events o.sound o.reached) x)) life
