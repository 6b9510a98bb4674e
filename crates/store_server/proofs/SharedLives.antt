-- The life of a shared store continues as one serial run.
use Rattle.std.proofs.Common.{◌≡◌, ◌∙◌, ◌++◌, ◌∷◌, [], Some, List, sym, ap, refl, subst, append-nil, append_assoc}
use mathlib.Core.Logic.{∥∥₁_map}
use Rattle.teb_rules.specs.declared.names.Cell.{Cell}
use Rattle.teb_rules.specs.Accepted.{IsSound}
use Rattle.teb_rules.specs.Answer.{answer}
use Rattle.teb_rules.specs.Replay.{Values}
use Rattle.teb_rules.specs.Serializes.{final_table}
use Rattle.engine_core.specs.EngineModel.{EngineModel, IsOfEngine}
use Rattle.engine_core.proofs.Reached.{reached_none}
use Rattle.engine_store.specs.Lives.{Epoch, IsLife, epoch_of, epochs}
use Rattle.engine_store.proofs.LifeGoesOn.{followed, lives_further}
use Rattle.engine_store.proofs.WholeLife.{lives_are_serial}
use Rattle.shared_store.specs.declared.entry.LifeEntry.{LifeEntry}
use Rattle.shared_store.specs.declared.entry.LifeEntry.TheVariants.{Asked, LogFailed, CommitsTaken, EpochEnded}
use Rattle.shared_store.specs.Lives.{Runs}
use Rattle.shared_store.specs.Stages.{IsNextEpoch, Stage}
use Rattle.store_server.specs.Serial.{SharedLivesAreSerial, stage_at}

module _ (T : Values) where
  -- there are further epochs, the last of which is at this stage
  pub record Reaches (past : List Epoch) (h : Stage) : Type 0 where
    pub later : List Epoch
    pub present : EngineModel
    pub store : present.store ≡ h.standing.store
    pub events : present.events ≡ h.standing.events
    pub life : IsLife T (record { past = past ++ later; present = present })

  one_more : (past : List Epoch) (e : Epoch) (h : Stage) → Reaches (past ++ e ∷ []) h → Reaches past h
  one_more past e h r = record {
    later = e ∷ r.later;
    present = r.present;
    store = r.store;
    events = r.events;
    life = subst (λ (l : List Epoch). IsLife T (record { past = l; present = r.present })) (append_assoc past (e ∷ []) r.later) r.life;
  }

  next_engine : (g m : Stage) (e : EngineModel) → e.store ≡ g.standing.store → IsOfEngine e → IsNextEpoch g m
      → IsOfEngine (record { store = m.standing.store; names = e.names; events = []; ready = e.ready })
  next_engine g m e store of n = record {
    sound = subst IsSound (ap (λ x. x.setup) store ∙ sym n.begun.setup) of.sound;
    reached = reached_none m.standing.store [] refl;
  }

  reaches : (past : List Epoch) (e : EngineModel) (g h : Stage) (es : List LifeEntry) → e.store ≡ g.standing.store → e.events ≡ g.standing.events → IsLife T (record { past = past; present = e })
      → Runs g es h → Reaches past h
  reaches past e g h [] store events life r = record {
    later = [];
    present = e;
    store = store ∙ ap (λ (k : Stage). k.standing.store) (sym r);
    events = events ∙ ap (λ (k : Stage). k.standing.events) (sym r);
    life = subst (λ (l : List Epoch). IsLife T (record { past = l; present = e })) (sym (append-nil past)) life;
  }
  reaches past e g h (Asked by s q short ∷ es) store events life r =
      let f : EngineModel = record { store = e.store; names = e.names; events = (answer e.store e.events s q).1; ready = e.ready } in
      reaches past f r.0 h es (store ∙ ap (λ (k : Stage). k.standing.store) (sym r.1.next)) ((λ i. (answer (store i) (events i) s q).1) ∙ ap (λ (k : Stage). k.standing.events) (sym r.1.next))
      (lives_further T past e f s q (Some (answer e.store e.events s q).0) refl refl life) r.2
  reaches past e g h (CommitsTaken ∷ es) store events life r =
      reaches past e r.0 h es (store ∙ ap (λ (k : Stage). k.standing.store) (sym r.1)) (events ∙ ap (λ (k : Stage). k.standing.events) (sym r.1)) life r.2
  reaches past e g h (EpochEnded ∷ es) store events life r =
      let m = r.0 in
      let n = r.1 in
      let f : EngineModel = record { store = m.standing.store; names = e.names; events = []; ready = e.ready } in
      one_more past (epoch_of e) h (reaches (past ++ epoch_of e ∷ []) f m h es refl (sym n.begun.events)
      (followed T past e f (next_engine g m e store life.engine n) (λ (x : Cell). n.begun.rows.each x ∙ (λ i. final_table (sym store i) (sym events i) x)) life) r.2)
  reaches past e g h (LogFailed ∷ es) store events life r =
      reaches past e r.0 h es (store ∙ ap (λ (k : Stage). k.standing.store) (sym r.1)) (events ∙ ap (λ (k : Stage). k.standing.events) (sym r.1)) life r.2

pub shared_lives : SharedLivesAreSerial
shared_lives T past e entries h life leads = ∥∥₁_map leads (λ r. let x = reaches T past e (stage_at e) h entries refl refl life r in record {
  later = x.later;
  present = x.present;
  store = x.store;
  events = x.events;
  life = x.life;
  serial = lives_are_serial T (epochs (record { past = past ++ x.later; present = x.present })) x.life.on;
})
