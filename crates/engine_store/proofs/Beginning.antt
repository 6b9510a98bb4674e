-- The engine of a setup with other rows.
use Rattle.std.proofs.Common.{◌≡◌, false, [], length, Result, Ok, Err, sym, ◌∙◌, ap, subst}
use Rattle.std.specs.Prelude.{IfOk}
use Rattle.teb_rules.specs.declared.names.naming.NameBook.{NameBook}
use Rattle.teb_rules.specs.Setup.{Store}
use Rattle.teb_rules.specs.Accepted.{IsSound}
use Rattle.store_setup.specs.declared.Setup.{Setup}
use Rattle.store_setup.specs.SetupView.{setup_view}
use Rattle.store_setup.specs.Sound.{IsWhole}
use Rattle.store_setup.specs.Stores.{store_of}
use Rattle.engine_core.specs.EngineModel.{EngineModel}
use Rattle.engine_core.proofs.Reached.{reached_none}
use Rattle.engine_core.proofs.Setups.{sound_rules}
use Rattle.engine_store.specs.Opening.{IsBeginning}

module _ (s t : Setup) (whole : IsWhole (setup_view s)) (names : t.names ≡ s.names) (profiles : t.profiles.items ≡ s.profiles.items) (tree : t.tree ≡ s.tree) where
  same_rules : (store_of t).setup ≡ (store_of s).setup
  same_rules = λ i. record { types = (tree i).types; profiles = profiles i; tree = (tree i).rows }

  beginning : (e : EngineModel) → e.store ≡ store_of t → e.names ≡ t.names → e.events ≡ [] → e.ready ≡ false → IsBeginning s e
  beginning e store named events ready =
      let setup : e.store.setup ≡ (store_of s).setup = ap (λ (X : Store). X.setup) store ∙ same_rules in
      record {
        is = record { sound = subst IsSound (sym setup) (sound_rules s whole); reached = reached_none e.store e.events events };
        events = events;
        ready = ready;
        names = named ∙ names;
        setup = setup;
        tables = ap (λ (X : Store). X.tables) store ∙ ap (λ (b : NameBook). length b.tables) names;
      }

  pub begins : {E : Type 0} (r : Result EngineModel E) → IfOk r (λ e. e.store ≡ store_of t) → IfOk r (λ e. e.names ≡ t.names) → IfOk r (λ e. e.events ≡ []) → IfOk r (λ e. e.ready ≡ false)
      → IfOk r (λ e. IsBeginning s e)
  begins (Ok e) store named events ready = beginning e store named events ready
  begins (Err x) store named events ready = tt
