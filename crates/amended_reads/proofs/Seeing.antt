-- What the nodes of a path together show a reader is what it sees.
use Rattle.std.proofs.Common.{◌≡◌, ◌≢◌, ℕ, zero, suc, ◌<◌, Bool, true, false, eqb, List, [], ◌∷◌, length, Option, Some, None, slice_get, refl, sym, ◌∙◌, ap, subst, arith, ℤ}
use Rattle.std.specs.List.{list_any}
use Rattle.std.proofs.lemmas.Bool.{and_parts, and_from}
use Rattle.teb_rules.specs.declared.names.Cell.{Cell}
use Rattle.teb_rules.specs.declared.history.Event.{Event}
use Rattle.teb_rules.specs.history.Phases.{aborted, began_at, spot_of}
use Rattle.teb_rules.specs.Setup.{Setup}
use Rattle.teb_rules.specs.Serializes.{In}
use Rattle.teb_rules.specs.Tree.{row, path, meet, meets, side}
use Rattle.teb_rules.specs.Versions.{sees, sees_by}
use Rattle.teb_rules.specs.laws.TreeFacts.{TreeFacts}
use Rattle.teb_rules.specs.laws.Lawful.{Lawful}
use Rattle.teb_rules.proofs.lemmas.laws.Lists.{list_any_from, list_any_In}
use Rattle.teb_rules.proofs.lemmas.laws.Meeting.{meets_exists}
use Rattle.teb_rules.proofs.lemmas.laws.Nodes.{meet_is, meets_parts, on-among}
use Rattle.teb_rules.proofs.lemmas.laws.ReadRule.{sees_parts, sees_from}
use Rattle.version_chain.specs.Lists.{Version, writers_of, first_place, last_place}
use Rattle.phase_api.specs.Versions.{HoldsVersions, has_version}
use Rattle.candidate_reads.specs.Shown.{shows}
use Rattle.candidate_reads.proofs.InOrder.{among_In, In_among, is_last}
use Rattle.candidate_reads.proofs.Shows.{version_parts}
use Rattle.candidate_reads.proofs.Sources.{writer_began, begun_place, read_row, read_seen}
use Rattle.amended_reads.specs.Amended.{candidate_up, nodes_up}
use Rattle.amended_reads.specs.Laws.{AmendedIsLastSeen, AmendedIsRead, IsReadAt}
use Rattle.amended_reads.proofs.Amending.{candidate_any, last_same, any_reverse, first_nothing}

-- two tests of which each implies the other are equal
same_test : (b c : Bool) → (b ≡ true → c ≡ true) → (c ≡ true → b ≡ true) → b ≡ c
same_test true c f g = sym (f refl)
same_test false true f g = g refl
same_test false false f g = refl

shows_parts : (S : Setup) (H : List Event) (n : ℕ) (x : Cell) (t w : ℕ) → shows S H n x t w ≡ true → (meets S H n t w ≡ true) × (sees_by (row S.tree n).control S H n x t w ≡ true)
unfolding shows
shows_parts S H n x t w h = and_parts _ _ h

shows_from : (S : Setup) (H : List Event) (n : ℕ) (x : Cell) (t w : ℕ) → meets S H n t w ≡ true → sees_by (row S.tree n).control S H n x t w ≡ true → shows S H n x t w ≡ true
unfolding shows
shows_from S H n x t w h k = and_from _ _ h k

-- a writer w that has a version
module _ (S : Setup) (a : TreeFacts S) (H : List Event) (l : Lawful S H) (t w : ℕ) (x : Cell) (b : began_at H t < length H) (v : has_version H x w ≡ true) where
  writes : began_at H w < length H
  writes = writer_began S H w x l (version_parts H x w v).0

  -- a node that shows w is the node where the two meet, so t sees w
  shown_seen : (n : ℕ) → shows S H n x t w ≡ true → sees S H x t w ≡ true
  shown_seen n h =
      let p = shows_parts S H n x t w h in
      let e : meet S H t w ≡ n = meet_is S a H n t w l b writes p.0 in
      let other : w ≢ t = λ q. (meets_parts S H n t w p.0).2 (ap (side S H n) (sym q)) in
      sees_from S H x t w other (version_parts H x w v).0 (version_parts H x w v).1
      (subst (λ (m : ℕ). sees_by (row S.tree m).control S H m x t w ≡ true) (sym e) p.1)

  -- and if t sees w, that node shows it
  seen_shown : sees S H x t w ≡ true → list_any (λ n. shows S H n x t w) (nodes_up S H t) ≡ true
  seen_shown h =
      let p = sees_parts S H x t w h in
      let m = meets_exists S a H t w l b writes (λ q. p.0 (sym q)) in
      let e : meet S H t w ≡ m.node = meet_is S a H m.node t w l b writes m.meet in
      let nodes = path S.tree (spot_of H t) in
      let on : In m.node nodes = among_In m.node nodes (on-among S H m.node t (meets_parts S H m.node t w m.meet).0) in
      any_reverse (λ n. shows S H n x t w) nodes
      ∙ list_any_from (λ n. shows S H n x t w) nodes m.node on
      (shows_from S H m.node x t w m.meet (subst (λ (k : ℕ). sees_by (row S.tree k).control S H k x t w ≡ true) e p.3))

  pub shown_is_seen : list_any (λ n. shows S H n x t w) (nodes_up S H t) ≡ sees S H x t w
  shown_is_seen = same_test _ _
      (λ h. let m = list_any_In (λ n. shows S H n x t w) (nodes_up S H t) h in shown_seen m.0 m.2)
      seen_shown

pub amended_is_last_seen : AmendedIsLastSeen
amended_is_last_seen S H lists t x a l h b =
    let ws = writers_of (lists x) in
    candidate_any (λ n. shows S H n x t) ws (nodes_up S H t)
    ∙ last_same (λ w. list_any (λ n. shows S H n x t w) (nodes_up S H t)) (sees S H x t) ws
    (λ w i. shown_is_seen S a H l t w x (begun_place H t b) (sym (h.writers x w) ∙ In_among w ws i))

-- a pair is equal to the pair of its parts
both_parts : {q : ℕ × Option ℤ} {w : ℕ} {v : Option ℤ} → w ≡ q.0 → v ≡ q.1 → q ≡ (w, v)
both_parts e f = λ i. (sym e i, sym f i)

-- an index in a list of versions has a version
there_is : (vs : List Version) (i : ℕ) → i < length (writers_of vs) → (v : Version) × (slice_get vs i ≡ Some v)
there_is [] i h = absurd (omega arith)
there_is (v ∷ vs) zero h = (v, refl)
there_is (v ∷ vs) (suc i) h = there_is vs i (omega arith)

module _ (S : Setup) (R : List (Cell × ℤ)) (H : List Event) (lists : Cell → List Version) (t : ℕ) (x : Cell) (l : Lawful S H) (h : HoldsVersions S H lists) (na : aborted H t ≡ false)
    (none : has_version H x t ≡ false) where
  absent : None ≡ first_place (λ w. eqb w t) (writers_of (lists x))
  absent = first_nothing (λ w. eqb w t) (writers_of (lists x)) (h.writers x t ∙ none)

  read_at : (o : Option ℕ) → o ≡ last_place (sees S H x t) (writers_of (lists x)) → IsReadAt S R H lists t x o
  read_at None e = let r = read_row S R H t x lists l h na absent e in both_parts r.0 r.1
  read_at (Some i) e =
      let v = there_is (lists x) i (is_last (sees S H x t) (writers_of (lists x)) (Some i) e).0 in
      let r = read_seen S R H t x lists l h na absent i v.0 e v.1 in
      (v.0, v.1, both_parts r.0 r.1)

pub amended_is_read : AmendedIsRead
amended_is_read S H lists t x a l h b R na none = read_at S R H lists t x l h na none (candidate_up S H t x (writers_of (lists x))) (amended_is_last_seen S H lists t x a l h b)
