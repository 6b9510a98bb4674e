-- A node is drawn after the earlier ones.
use Rattle.std.proofs.Common.{◌≡◌, ℕ, zero, suc, ◌+◌, ◌-◌, ◌<◌, ◌≤◌, Bool, ◌==◌, List, [], ◌∷◌, ◌++◌, length, drop, take, refl, sym, ap, ◌∙◌, subst, append_assoc, arith}
use Rattle.std.proofs.lemmas.List.{append-nil, drop-map, length-drop, take_all}
use Rattle.teb_rules.specs.declared.names.Node.{Node}
use Rattle.teb_rules.specs.declared.names.naming.NameBook.{NameBook}
use Rattle.store_setup.specs.tree.Grown.{node_numbers}
use Rattle.teb_rules.specs.Setup.{NodeRow}
use Rattle.tree_report.specs.Drawing.{IsBranch, branch, branches, children, drawn, node_line, stem}

drop_next : (ns : List ℕ) (i n : ℕ) (rest : List ℕ) → drop i ns ≡ n ∷ rest → drop (i + 1) ns ≡ rest
drop_next [] zero n rest e = absurd (cc)
drop_next [] (suc i) n rest e = absurd (cc)
drop_next (m ∷ ns) zero n rest e = ap (drop 1) e
drop_next (m ∷ ns) (suc i) n rest e = ap (λ (k : ℕ). drop k (m ∷ ns)) (let z : suc i + 1 ≡ suc (i + 1) = omega arith in z) ∙ drop_next ns i n rest e

drop_nodes : (ns : List Node) (i : ℕ) → drop i (node_numbers ns) ≡ node_numbers (drop i ns)
drop_nodes ns i = drop-map (λ (m : Node). m.0) i ns

module _ (names : NameBook) (T : List NodeRow) (inner : List ℕ → ℕ → List ℕ) (prefix : List ℕ) where
  pub one_more : (ns : List Node) (i : ℕ) (left : List Node) (n : ℕ) (stemmed below out mid new whole : List ℕ) → left ≡ drop i ns → IsBranch names T (node_numbers left) prefix out mid n stemmed
      → below ≡ stemmed → new ≡ mid ++ inner below n
      → out ++ branches names T inner prefix (drop i (node_numbers ns)) ≡ whole → new ++ branches names T inner prefix (drop (i + 1) (node_numbers ns)) ≡ whole
  one_more ns i left n stemmed below out mid new whole left_is b same grown so_far =
      let here : drop i (node_numbers ns) ≡ n ∷ b.rest = drop_nodes ns i ∙ ap (λ (l : List Node). node_numbers l) (sym left_is) ∙ b.first in
      let next : drop (i + 1) (node_numbers ns) ≡ b.rest = drop_next (node_numbers ns) i n b.rest here in
      let is_last : Bool = length b.rest == 0 in
      let line : List ℕ = (prefix ++ branch is_last) ++ node_line names T n in
      let under : List ℕ = inner (prefix ++ stem is_last) n in
      let tail : List ℕ = branches names T inner prefix b.rest in
      let new_is : new ≡ (out ++ line) ++ under = grown ∙ ap (λ (l : List ℕ). l ++ inner below n) b.drawn ∙ ap (λ (s : List ℕ). (out ++ line) ++ inner s n) (same ∙ b.stemmed_is) in
      ap (λ (l : List ℕ). new ++ branches names T inner prefix l) next ∙ ap (λ (l : List ℕ). l ++ tail) (new_is ∙ append_assoc out line under) ∙ append_assoc out (line ++ under) tail
      ∙ ap (λ (l : List ℕ). out ++ branches names T inner prefix l) (sym here) ∙ so_far

-- the nodes from place i on
pub from_on : (s items : List Node) (i : ℕ) → s ≡ items → take (length s - i) (drop i s) ≡ drop i items
from_on s items i e = take_all (length s - i) (drop i s) (omega (arith, length-drop i s)) ∙ ap (drop i) e

-- with no levels left, nothing is drawn
pub none_drawn : (names : NameBook) (T : List NodeRow) (levels : ℕ) (prefix : List ℕ) (p : ℕ) (out : List ℕ) → levels ≡ 0 → out ≡ out ++ drawn names T levels prefix p
unfolding drawn
none_drawn names T zero prefix p out e = sym (append-nil out)
none_drawn names T (suc d) prefix p out e = absurd (omega (arith, e))

-- everything below a node was drawn
pub all_drawn : (names : NameBook) (T : List NodeRow) (levels : ℕ) (prefix : List ℕ) (p : ℕ) (ns : List ℕ) (i : ℕ) (old out : List ℕ) → 0 < levels → ns ≡ children T p → length ns ≤ i
    → out ++ branches names T (drawn names T (levels - 1)) prefix (drop i ns) ≡ old ++ branches names T (drawn names T (levels - 1)) prefix ns → out ≡ old ++ drawn names T levels prefix p
unfolding drawn
all_drawn names T zero prefix p ns i old out some are past so_far = absurd (omega (arith, some))
all_drawn names T (suc d) prefix p ns i old out some are past so_far =
    let less : suc d - 1 ≡ d = omega arith in
    let none : drop i ns ≡ [] = drop_past ns i past in
    let at : out ++ branches names T (drawn names T d) prefix (drop i ns) ≡ old ++ branches names T (drawn names T d) prefix ns = subst
    (λ (k : ℕ). out ++ branches names T (drawn names T k) prefix (drop i ns) ≡ old ++ branches names T (drawn names T k) prefix ns) less so_far in
    sym (append-nil out) ∙ ap (λ (l : List ℕ). out ++ branches names T (drawn names T d) prefix l) (sym none) ∙ at ∙ ap (λ (l : List ℕ). old ++ branches names T (drawn names T d) prefix l) are
  where
    drop_past : (ms : List ℕ) (j : ℕ) → length ms ≤ j → drop j ms ≡ []
    drop_past [] zero h = refl
    drop_past [] (suc j) h = refl
    drop_past (m ∷ ms) zero h = absurd (omega (arith, h))
    drop_past (m ∷ ms) (suc j) h = drop_past ms j (omega (arith, h))
