-- The node at which a writer and another transaction meet, and what its control says about the two.
use Rattle.std.proofs.Common.{ℕ, ◌≡◌, ◌≢◌, ◌<◌, Bool, true, false, not, ◌&&◌, ltb, List, sym, subst, ◌∙◌, length, lt-ltb, ltb-true, ne_eqb, refl, inl, inr, arith}
use Rattle.std.proofs.lemmas.Bool.{both_ways, cases_Bool, ltb-false}
use Rattle.teb_rules.specs.declared.names.Cell.{Cell}
use Rattle.teb_rules.specs.declared.names.ControlKind.{ControlKind}
use Rattle.teb_rules.specs.declared.names.ControlKind.TheVariants.{Timestamp}
use Rattle.teb_rules.specs.declared.history.Event.{Event}
use Rattle.teb_rules.specs.history.Phases.{aborted, begun, began_at, spot_of}
use Rattle.teb_rules.specs.history.Accesses.{wrote, put_at}
use Rattle.teb_rules.specs.Setup.{Setup}
use Rattle.teb_rules.specs.Tree.{row, path, on_path, meet, meets, is_timestamp}
use Rattle.teb_rules.specs.Versions.{precedes, orders, sees, sees_by}
use Rattle.teb_rules.specs.laws.TreeFacts.{TreeFacts}
use Rattle.teb_rules.specs.laws.Lawful.{Lawful}
use Rattle.teb_rules.proofs.lemmas.laws.Meeting.{meets_exists}
use Rattle.teb_rules.proofs.lemmas.laws.Nodes.{meet_is, meets_parts, on-among}
use Rattle.teb_rules.proofs.lemmas.laws.Within.{path-below}
use Rattle.teb_rules.proofs.lemmas.laws.Timeline.{kind-lt}
use Rattle.teb_rules.proofs.lemmas.laws.VersionOrder.{precedes_at, orders_put, timestamp_is}
use Rattle.phase_api.specs.declared.facts.Facts.{Facts}
use Rattle.phase_api.specs.FactsView.{setup_of, events_of, IsTyped}
use Rattle.phase_api.specs.Calls.{IsPair}
use Rattle.phase_api.specs.Versions.{has_version}
use Rattle.candidate_reads.specs.Asked.{MeetsNoTimestamp}
use Rattle.candidate_reads.proofs.InOrder.{among_In}
use Rattle.candidate_reads.proofs.Shows.{version_parts}
use Rattle.candidate_reads.proofs.Sources.{writer_began, begun_place}

-- two different transactions that have begun meet at the node that `meet` gives
pub meets_there : (S : Setup) (a : TreeFacts S) (H : List Event) (n t u : ℕ) → Lawful S H → begun H t ≡ true → begun H u ≡ true → t ≢ u → meet S H t u ≡ n → meets S H n t u ≡ true
meets_there S a H n t u l bt bu ne e =
    let m = meets_exists S a H t u l (begun_place H t bt) (begun_place H u bu) ne in
    subst (λ (k : ℕ). meets S H k t u ≡ true) (sym (meet_is S a H m.node t u l (begun_place H t bt) (begun_place H u bu) m.meet) ∙ e) m.meet

-- in a tree of one node, two different transactions that have begun meet at node 0
pub meets_alone : (S : Setup) (a : TreeFacts S) (H : List Event) (t u : ℕ) → Lawful S H → length S.tree ≡ 1 → begun H t ≡ true → begun H u ≡ true → t ≢ u → meets S H 0 t u ≡ true
meets_alone S a H t u l one bt bu ne =
    let m = meets_exists S a H t u l (begun_place H t bt) (begun_place H u bu) ne in
    let on = on-among S H m.node t (meets_parts S H m.node t u m.meet).0 in
    let below = path-below S a (spot_of H t) m.node (among_In m.node (path S.tree (spot_of H t)) on) in
    subst (λ (n : ℕ). meets S H n t u ≡ true) (let e : m.node ≡ 0 = omega (arith, below, one) in e) m.meet

begun_from : (H : List Event) (t : ℕ) → began_at H t < length H → begun H t ≡ true
unfolding begun
begun_from H t h = lt-ltb _ _ h

-- a transaction with a version has begun and has a type of the tree
pub writer_typed : (f : Facts) (x : Cell) (w : ℕ) → Lawful (setup_of f) (events_of f) → has_version (events_of f) x w ≡ true → IsTyped f w
writer_typed f x w l v =
    let b = writer_began (setup_of f) (events_of f) w x l (version_parts (events_of f) x w v).0 in
    record { begun = begun_from (events_of f) w b; kind = kind-lt (setup_of f) (events_of f) w l b }

pub no_timestamp : (k : ControlKind) → (k ≡ Timestamp → ⊥) → is_timestamp k ≡ false
no_timestamp k h = elim (cases_Bool (is_timestamp k)) [ inl e ↦ absurd (h (timestamp_is k e)) | inr e ↦ e ]

unwritten : (b c : Bool) → (b && not c) ≡ false → c ≡ false → b ≡ false
unwritten true true h k = absurd (cc)
unwritten true false h k = absurd (cc)
unwritten false c h k = refl

-- a Put that has happened is earlier than one that has not
coming_later : (H : List Event) (w t : ℕ) (x : Cell) → wrote H w x ≡ true → wrote H t x ≡ false → ltb (put_at H w x) (put_at H t x) ≡ true
unfolding wrote
coming_later H w t x there absent = let a = ltb-true _ _ there in let b = ltb-false _ _ absent in lt-ltb _ _ (omega arith)

-- t and a writer w that meet at n
module _ (f : Facts) (x : Cell) (n w t : ℕ) (a : TreeFacts (setup_of f)) (l : Lawful (setup_of f) (events_of f)) (v : has_version (events_of f) x w ≡ true) (ty : IsTyped f t) where
  pub pair_before : aborted (events_of f) t ≡ false → meets (setup_of f) (events_of f) n w t ≡ true → IsPair f n w t
  pair_before na h = record { left = writer_typed f x w l v; right = ty; meet = h; left_stands = (version_parts (events_of f) x w v).1; right_stands = na }

  pub pair_behind : aborted (events_of f) t ≡ false → meets (setup_of f) (events_of f) n t w ≡ true → IsPair f n t w
  pair_behind na h = record { left = ty; right = writer_typed f x w l v; meet = h; left_stands = na; right_stands = (version_parts (events_of f) x w v).1 }

  -- the node's order of their versions is the version order
  pub order_there : meets (setup_of f) (events_of f) n w t ≡ true → orders (setup_of f) (events_of f) n x w t ≡ precedes (setup_of f) (events_of f) x w t
  order_there h = sym (precedes_at (setup_of f) a (events_of f) n x w t l (writer_began (setup_of f) (events_of f) w x l (version_parts (events_of f) x w v).0) (begun_place (events_of f) t ty.begun)
      h)

  -- if t has not put x and the node is not a timestamp node, t's version will be the later one
  pub later_there : is_timestamp (row (setup_of f).tree n).control ≡ false → has_version (events_of f) x t ≡ false → aborted (events_of f) t ≡ false → meets (setup_of f) (events_of f) n w t ≡ true
      → true ≡ precedes (setup_of f) (events_of f) x w t
  later_there k none na h =
      let not_put : wrote (events_of f) t x ≡ false = unwritten (wrote (events_of f) t x) (aborted (events_of f) t) none na in
      sym (orders_put (setup_of f) (events_of f) n x w t k ∙ coming_later (events_of f) w t x (version_parts (events_of f) x w v).0 not_put) ∙ order_there h

  -- t sees w if and only if the node's control says so
  pub sight_there : w ≢ t → meets (setup_of f) (events_of f) n t w ≡ true → sees_by (row (setup_of f).tree n).control (setup_of f) (events_of f) n x t w ≡ sees (setup_of f) (events_of f) x t w
  unfolding sees
  sight_there ne h =
      let e : meet (setup_of f) (events_of f) t w ≡ n = meet_is (setup_of f) a (events_of f) n t w l (begun_place (events_of f) t ty.begun)
      (writer_began (setup_of f) (events_of f) w x l (version_parts (events_of f) x w v).0) h in
      let p = version_parts (events_of f) x w v in
      rw (ne_eqb w t ne, p.0, p.1, e) refl

-- if no timestamp node is on t's path and t has not put x, t's version will be later than each existing one
pub later_than_all : (f : Facts) (x : Cell) (w t : ℕ) → TreeFacts (setup_of f) → Lawful (setup_of f) (events_of f) → has_version (events_of f) x w ≡ true → IsTyped f t →
    MeetsNoTimestamp (setup_of f) (events_of f) t → has_version (events_of f) x t ≡ false → aborted (events_of f) t ≡ false → true ≡ precedes (setup_of f) (events_of f) x w t
unfolding on_path
later_than_all f x w t a l v ty free none na =
    let S = setup_of f in
    let H = events_of f in
    let m = meets_exists S a H w t l (writer_began S H w x l (version_parts H x w v).0) (begun_place H t ty.begun) (λ e. both_ways _ none (subst (λ (z : ℕ). has_version H x z ≡ true) e v)) in
    later_there f x m.node w t a l v ty (free m.node (on-among S H m.node t (meets_parts S H m.node w t m.meet).1)) none na m.meet
