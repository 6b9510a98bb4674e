-- A path on which every node keeps batches.
use Rattle.std.proofs.Common.{◌≡◌, ◌↔◌, ℕ, Bool, List, sym, ◌∙◌, ap, IsTrue}
use Rattle.std.specs.List.{list_all}
use Rattle.teb_rules.specs.declared.names.Spot.{Spot}
use Rattle.teb_rules.specs.declared.history.Event.{Event}
use Rattle.teb_rules.specs.history.Phases.{spot_of}
use Rattle.teb_rules.specs.Setup.{NodeRow, Store}
use Rattle.teb_rules.specs.Tree.{has_batches, on, on_path, path}
use Rattle.teb_rules.specs.laws.Laws.{OfEveryStore, reached}
use Rattle.guarantees.specs.Reading.{ReadsFreely, ReadsGoOn}
use Rattle.tree_guarantees.specs.Conditions.{Guarantees, ServesReads}
use Rattle.tree_guarantees.proofs.Members.{all_have, have_all}

of_its_path : (X : Store) (H : List Event) (t : ℕ) (r : Bool) → r ≡ list_all (has_batches X.setup.tree) (path X.setup.tree (spot_of H t)) → (IsTrue r ↔ ReadsFreely X H t)
unfolding on on_path
of_its_path X H t r e = (
  λ told n o. all_have (has_batches X.setup.tree) (path X.setup.tree (spot_of H t)) n (sym e ∙ told) o,
  λ free. e ∙ have_all (has_batches X.setup.tree) (path X.setup.tree (spot_of H t)) (λ n a. free n a),
)

pub reads_are_free : (X : Store) (H : List Event) (t : ℕ) (T : List NodeRow) (s : Spot) (r : Bool) → r ≡ list_all (has_batches T) (path T s) → X.setup.tree ≡ T → spot_of H t ≡ s
    → (IsTrue r ↔ ReadsFreely X H t)
reads_are_free X H t T s r e p q =
    of_its_path X H t r (e ∙ ap (λ (U : List NodeRow). list_all (has_batches U) (path U s)) (sym p) ∙ ap (λ (z : Spot). list_all (has_batches X.setup.tree) (path X.setup.tree z)) (sym q))

pub reads_are_served : OfEveryStore ReadsGoOn → (T : List NodeRow) (s : Spot) (r : Bool) → r ≡ list_all (has_batches T) (path T s) → IsTrue r → Guarantees T (ServesReads s)
reads_are_served law T s r e told X p sound asked c t holds runs q x =
    let free = (reads_are_free X (reached X asked) t T s r e p q).0 told in
    let law_here = law X sound asked in
    (law_here.reads c t x holds runs free, λ n. law_here.scans c t x n holds runs free)
