-- What the engine keeps of the history, before and after one more event.
use Rattle.std.proofs.Common.{◌≡◌, ℕ, zero, suc, ◌≤◌, ◌<◌, refl, List, [], ◌∷◌, length, Option, ℤ, sym, subst, arith}
use Rattle.teb_rules.specs.declared.names.TheConstants.{MOST_TXNS}
use Rattle.teb_rules.specs.declared.names.Cell.{Cell}
use Rattle.teb_rules.specs.declared.names.Txn.{Txn}
use Rattle.teb_rules.specs.declared.history.Event.{Event}
use Rattle.teb_rules.specs.declared.history.Event.TheVariants.{Began, Got, Put, Ready, Done, Gone, Told}
use Rattle.teb_rules.specs.history.Phases.{begun_count}
use Rattle.teb_rules.specs.Setup.{Setup, Store}
use Rattle.teb_rules.specs.laws.Lawful.{Granted, Lawful}
use Rattle.teb_rules.proofs.lemmas.laws.Answers.{lawful_cons}
use Rattle.version_chain.specs.Lists.{Version, writers_of}
use Rattle.phase_api.specs.Standing.{StandAll}
use Rattle.phase_api.specs.Versions.{HoldsVersions}
use Rattle.candidate_reads.specs.declared.placing.Place.{Place}
use Rattle.dependency_book.specs.Books.{Lists, BookOf}
use Rattle.cursor_book.specs.Cursors.{CursorsOf, Kept}
use Rattle.engine_core.specs.Latest.{AreLatest}
use Rattle.engine_core.specs.declared.any_control.AnyControl.{AnyControl}
use Rattle.engine_core.specs.AnyControls.{any_node_number, any_stands}
use Rattle.engine_core.specs.Wholes.{IsWhole}
use Rattle.engine_core.specs.Keeping.{HasPlace, PutsAt, IsPlaced}
use Rattle.engine_core.specs.Appends.{AreBehind}
use Rattle.engine_core.specs.Decisions.{MayBegin}

within_chain : (vs : List Version) (i : ℕ) → i ≤ length (writers_of vs) → i ≤ length vs
within_chain [] i b = b
within_chain (w ∷ vs) zero b = omega arith
within_chain (w ∷ vs) (suc i) b = let r = within_chain vs i (let z : suc i ≤ suc (length (writers_of vs)) = b in omega arith) in omega arith

-- the place that was found for a Put is a valid place
pub put_placed : (S : Setup) (H : List Event) (L : Cell → List Version) (t : Txn) (y : Cell) (v : Option ℤ) (p : Place) → IsPlaced S H L t.0 y p → HasPlace L (Put t y v) p × PutsAt S H L (Put t y v) p
put_placed S H L t y v p i = ((within_chain (L y) p.at i.place.within, i.own, i.there), i.place)

-- at most MOST_TXNS transactions begin
begun_after : (S : Setup) (P : List Event) (e : Event) → begun_count P ≤ MOST_TXNS → MayBegin S P e → begun_count (e ∷ P) ≤ MOST_TXNS
unfolding begun_count
begun_after S P (Began t s k i) h b = b.0
begun_after S P (Got t y w v) h b = h
begun_after S P (Put t y v) h b = h
begun_after S P (Ready t) h b = h
begun_after S P (Done t) h b = h
begun_after S P (Gone t c) h b = h
begun_after S P (Told t) h b = h

-- the engine's state is whole after a granted event, if each kept structure is updated for it
pub whole_after : (X : Store) (H G : List Event) (e : Event) (cs ds : List AnyControl) (L M : Cell → List Version) (b d : Lists) (steps more : List ℕ) (latest next : List Txn) →
    IsWhole X H cs L b steps latest → Granted X.setup H e → MayBegin X.setup H e → G ≡ e ∷ H → StandAll any_node_number any_stands ds X.setup G → HoldsVersions X.setup (e ∷ H) M → BookOf d (e ∷ H)
    → CursorsOf more X.setup G → AreLatest next (e ∷ H)
    → IsWhole X G ds M d more next
whole_after X H G e cs ds L M b d steps more latest next w g m q sa hv bo cu la = record {
  sound = w.sound;
  profiled = w.profiled;
  nodes = w.nodes;
  lawful = subst (Lawful X.setup) (sym q) (lawful_cons X.setup e H g w.lawful);
  few = subst (λ (P : List Event). begun_count P ≤ MOST_TXNS) (sym q) (begun_after X.setup H e w.few m);
  controls = sa;
  versions = subst (λ (P : List Event). HoldsVersions X.setup P M) (sym q) hv;
  book = subst (BookOf d) (sym q) bo;
  cursors = cu;
  latest = subst (AreLatest next) (sym q) la;
}

-- cursors that hold for H are one event behind e ∷ H
pub one_behind : (S : Setup) (H G : List Event) (e : Event) (c : Kept) → G ≡ e ∷ H → Lawful S (e ∷ H) → length S.profiles ≡ S.types → CursorsOf c.cursors S H → 0 < c.spare → AreBehind S G e c
one_behind S H G e c q l p u r = subst (λ (P : List Event). AreBehind S P e c) (sym q) (record { newest = refl; lawful = l; profiled = p; cursors = u; room = r })
