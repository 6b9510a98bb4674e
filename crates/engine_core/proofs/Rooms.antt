-- How much room is left; reserving room keeps the state whole.
use Rattle.std.proofs.Common.{◌≡◌, ℕ, ◌≤◌, true, false, List, sym, ◌∙◌, ap, subst, arith}
use Rattle.teb_rules.specs.declared.names.Cell.{Cell}
use Rattle.teb_rules.specs.declared.names.Txn.{Txn}
use Rattle.teb_rules.specs.declared.history.Event.{Event}
use Rattle.teb_rules.specs.Setup.{Setup, Store}
use Rattle.teb_rules.specs.Versions.{precedes}
use Rattle.teb_rules.specs.Serializes.{Pairs}
use Rattle.version_chain.specs.Lists.{Version, writers_of, is_writer}
use Rattle.phase_api.specs.Standing.{StandAll}
use Rattle.phase_api.specs.Versions.{HoldsVersions, HaveLastValues}
use Rattle.dependency_book.specs.Books.{Lists}
use Rattle.engine_core.specs.declared.any_control.AnyControl.{AnyControl}
use Rattle.engine_core.specs.AnyControls.{any_node_number, any_stands}
use Rattle.engine_core.specs.Wholes.{IsWhole, RoomFor, HaveRoom}

-- room for k is room for any smaller number
pub less_room : {K : Type 0} (spare : K → ℕ) (j k : ℕ) (cs : List K) → j ≤ k → RoomFor spare k cs → RoomFor spare j cs
less_room spare j k cs h r = record { each = λ n c e. let a : k ≤ spare c = r.each n c e in omega arith }

pub no_room : (events : ℕ) (cs : List AnyControl) (notes places steps : ℕ) → HaveRoom 0 events cs notes places steps
no_room events cs notes places steps = record {
  history = omega arith;
  controls = record { each = λ n k e. omega arith };
  book = omega arith;
  versions = omega arith;
  cursors = omega arith;
}

same_versions : (S : Setup) (H : List Event) (L M : Cell → List Version) → ((x : Cell) → M x ≡ L x) → HoldsVersions S H L → HoldsVersions S H M
same_versions S H L M m h = record {
  writers = λ x w. ap (λ (vs : List Version). is_writer vs w) (m x) ∙ h.writers x w;
  values = λ x. subst (HaveLastValues H x) (sym (m x)) (h.values x);
  order = λ x. subst (λ (vs : List Version). Pairs (λ u w. (precedes S H x u w ≡ true) × (precedes S H x w u ≡ false)) (writers_of vs)) (sym (m x)) (h.order x);
}

pub still_whole : (X : Store) (H G : List Event) (cs ds : List AnyControl) (L M : Cell → List Version) (b d : Lists) (steps more : List ℕ) (latest : List Txn) →
    IsWhole X H cs L b steps latest → G ≡ H → StandAll any_node_number any_stands ds X.setup H → ((x : Cell) → M x ≡ L x) → d ≡ b → more ≡ steps → IsWhole X G ds M d more latest
still_whole X H G cs ds L M b d steps more latest w q sa m k c =
    subst (λ (P : List Event). IsWhole X P ds M d more latest) (sym q)
    (subst (λ (l : Lists). IsWhole X H ds M l more latest) (sym k)
    (subst (λ (ns : List ℕ). IsWhole X H ds M b ns latest) (sym c) (record {
      sound = w.sound;
      profiled = w.profiled;
      nodes = w.nodes;
      lawful = w.lawful;
      few = w.few;
      controls = sa;
      versions = same_versions X.setup H L M m w.versions;
      book = w.book;
      cursors = w.cursors;
      latest = w.latest;
    })))
