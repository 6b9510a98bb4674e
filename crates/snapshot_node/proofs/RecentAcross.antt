-- The transactions across from a given one are in the part of a list from its horizon on.
use Rattle.std.proofs.Common.{◌≡◌, ℕ, true, List, Option, leb, sym, ◌∙◌, ap, subst}
use Rattle.teb_rules.specs.declared.names.Txn.{Txn}
use Rattle.teb_rules.specs.history.Ascending.{IsAscendingBy}
use Rattle.teb_rules.specs.history.Live.{number_of}
use Rattle.teb_rules.proofs.lemmas.history.AscendingLists.{ascending-filter}
use Rattle.phase_api.specs.FactsView.{setup_of, events_of}
use Rattle.snapshot_node.specs.declared.asked.Asked.{Asked}
use Rattle.access_book.specs.Books.{is_among}
use Rattle.snapshot_node.specs.Asking.{AreLate, AreThere, there}
use Rattle.snapshot_node.specs.Pivots.{IsAcross, IsLeast, IsMateAmong, IsMiddleAmong, ComesInAmong}
use Rattle.snapshot_node.proofs.Among.{among_part}
use Rattle.snapshot_node.proofs.Edges.{across_later}
use Rattle.snapshot_node.proofs.FirstOf.{among_from}
use Rattle.snapshot_node.proofs.Least.{least_as}

-- the same fact, stated for an equal control, transaction and list
pub late_as : {a b : Asked} {t u : Txn} {those all us : List Txn} → b ≡ a → u ≡ t → all ≡ those → AreLate b u.0 all us → AreLate a t.0 those us
late_as {a} {b} {t} {u} {those} {all} {us} e k i h =
    subst (λ (xs : List Txn). AreLate a t.0 xs us) i (subst (λ (z : Asked). AreLate z t.0 all us) e (subst (λ (z : Txn). AreLate b z.0 all us) k h))

module _ (a : Asked) (t : ℕ) (all us : List Txn) (late : AreLate a t all us) where
  pub late_ascend : IsAscendingBy number_of all → IsAscendingBy number_of us
  late_ascend h = subst (IsAscendingBy number_of) (sym late.are) (ascending-filter number_of (λ u. leb late.from u.0) all h)

  among_all : (u : ℕ) → is_among u us ≡ true → is_among u all ≡ true
  among_all u h = among_part (λ u. leb late.from u.0) u all (sym (ap (is_among u) late.are) ∙ h)

  pub late_here : AreThere a all → AreThere a us
  late_here h u i = h u (among_all u i)

  -- w is the validating transaction
  module _ (here : AreThere a all) (w : ℕ) where
    pub across_recent : (u : ℕ) → there a IsAcross w t all u → there a IsAcross w t us u
    across_recent u h = record {
      listed = ap (is_among u) late.are
          ∙ among_from late.from u all (across_later (setup_of a.facts.now) (events_of a.facts.now) a.register.now.node.0 t late.from u late.below (here u h.listed).typed.begun h.across) h.listed;
      stake = h.stake;
      across = h.across;
    }

    across_all : (u : ℕ) → there a IsAcross w t us u → there a IsAcross w t all u
    across_all u h = record { listed = among_all u h.listed; stake = h.stake; across = h.across }

    -- so the least in that part is the least of all
    pub least_recent : (o : Option Txn) → IsLeast (there a IsAcross w t us) o → IsLeast (there a IsAcross w t all) o
    least_recent o h = least_as (there a IsAcross w t us) (there a IsAcross w t all) o across_all across_recent h

    pub middle_recent : (o : Option Txn) → IsLeast (there a IsMiddleAmong w t us) o → IsLeast (there a IsMiddleAmong w t all) o
    middle_recent o h =
        least_as (there a IsMiddleAmong w t us) (there a IsMiddleAmong w t all) o
        (λ u y. record { across = across_all u y.across; left = y.left })
        (λ u y. record { across = across_recent u y.across; left = y.left }) h

  pub mate_recent : AreThere a all → (b : ℕ) (o : Option Txn) → IsLeast (there a IsMateAmong t b us) o → IsLeast (there a IsMateAmong t b all) o
  mate_recent here b o h =
      least_as (there a IsMateAmong t b us) (there a IsMateAmong t b all) o (λ u y. (across_all here t u y.0, y.1)) (λ u y. (across_recent here t u y.0, y.1)) h

  pub comer_recent : AreThere a all → (o : Option Txn) → IsLeast (there a ComesInAmong t us) o → IsLeast (there a ComesInAmong t all) o
  comer_recent here o h =
      least_as (there a ComesInAmong t us) (there a ComesInAmong t all) o
      (λ u y. record { third = y.third; into = y.into; across = across_all here t y.third y.across })
      (λ u y. record { third = y.third; into = y.into; across = across_recent here t y.third y.across }) h
