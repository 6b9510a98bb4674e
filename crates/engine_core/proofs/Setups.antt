-- A setup that a store can have, and the kept state for an empty history.
use Rattle.std.proofs.Common.{◌≡◌, ℕ, ◌≤◌, List, [], length, sym, ◌∙◌, subst, arith}
use Rattle.teb_rules.specs.declared.names.TheConstants.{MOST_TXNS}
use Rattle.teb_rules.specs.declared.names.Cell.{Cell}
use Rattle.teb_rules.specs.declared.names.Txn.{Txn}
use Rattle.teb_rules.specs.declared.history.Event.{Event}
use Rattle.teb_rules.specs.history.Phases.{begun_count}
use Rattle.teb_rules.specs.Setup.{Setup as Rules, above_profiles}
use Rattle.teb_rules.specs.Accepted.{IsSound}
use Rattle.teb_rules.specs.laws.Lawful.{Lawful}
use Rattle.teb_rules.proofs.lemmas.laws.Reachable.{empty_good}
use Rattle.version_chain.specs.Lists.{Version}
use Rattle.phase_api.specs.Standing.{StandAll}
use Rattle.candidate_reads.proofs.KeptVersions.{versions_none}
use Rattle.dependency_book.specs.Books.{Lists, BookOf}
use Rattle.cursor_book.proofs.Moves.{cursors_none}
use Rattle.store_setup.specs.declared.Setup.{Setup}
use Rattle.store_setup.specs.SetupView.{setup_view}
use Rattle.store_setup.specs.Sound as SetUp
use Rattle.engine_core.specs.Latest.{AreLatest}
use Rattle.store_setup.specs.Stores.{store_of}
use Rattle.engine_core.specs.declared.any_control.AnyControl.{AnyControl}
use Rattle.engine_core.specs.AnyControls.{any_node_number, any_stands}
use Rattle.engine_core.specs.Wholes.{IsWhole}

pub sound_rules : (s : Setup) → SetUp.IsWhole (setup_view s) → IsSound (store_of s).setup
sound_rules s w = subst (λ (n : ℕ). let R : Rules = record { types = n; profiles = s.profiles.items; tree = s.tree.rows } in IsSound R) (sym w.types) w.sound

pub enough_profiles : (s : Setup) (F : Rules) → F ≡ (store_of s).setup → SetUp.IsWhole (setup_view s) → F.types ≤ length F.profiles
enough_profiles s F q w = subst (λ (S : Rules). S.types ≤ length S.profiles) (sym q) (let a = w.profiles in let b = w.types in omega arith)

pub few_ranked : (s : Setup) (F : Rules) → F ≡ (store_of s).setup → SetUp.IsWhole (setup_view s) → above_profiles F.profiles ≤ 64
few_ranked s F q w = subst (λ (S : Rules). above_profiles S.profiles ≤ 64) (sym q)
    (let a : above_profiles s.profiles.items ≤ length s.names.tables = w.ranked in let b : length s.names.tables ≤ 64 = w.few_tables in omega arith)

none_begun : begun_count [] ≤ MOST_TXNS
unfolding begun_count
none_begun = omega arith

lawful_none : (S : Rules) → Lawful S []
lawful_none S = (empty_good S).legal

pub whole_from_nothing : (s : Setup) (H : List Event) (cs : List AnyControl) (L : Cell → List Version) (b : Lists) (steps : List ℕ) (latest : List Txn) → SetUp.IsWhole (setup_view s) → H ≡ [] →
    StandAll any_node_number any_stands cs (store_of s).setup H → ((x : Cell) → L x ≡ []) → BookOf b [] → steps ≡ [] → AreLatest latest [] → IsWhole (store_of s) H cs L b steps latest
whole_from_nothing s H cs L b steps latest w q sa l bo cu la =
    subst (λ (P : List Event). IsWhole (store_of s) P cs L b steps latest) (sym q)
    (subst (λ (ns : List ℕ). IsWhole (store_of s) [] cs L b ns latest) (sym cu) (record {
      sound = sound_rules s w;
      profiled = w.profiles ∙ sym w.types;
      nodes = w.few_nodes;
      lawful = lawful_none (store_of s).setup;
      few = none_begun;
      controls = subst (StandAll any_node_number any_stands cs (store_of s).setup) q sa;
      versions = versions_none (store_of s).setup L l;
      book = bo;
      cursors = cursors_none (store_of s).setup;
      latest = la;
    }))
