-- The stop along a list of nodes, as a loop over their verdicts finds it.
use Rattle.std.proofs.Common.{◌≡◌, ℕ, zero, suc, ◌<◌, ◌≤◌, ◌+◌, List, [], ◌∷◌, length, get_or, drop, arith, refl, sym, ap, ◌∙◌}
use Rattle.std.proofs.Math.Seq.{drop-cons}
use Rattle.teb_rules.specs.declared.names.Node.{Node}
use Rattle.teb_rules.specs.declared.Verdict.{Verdict}
use Rattle.teb_rules.specs.declared.Verdict.TheVariants.{Go, Wait, Break}
use Rattle.teb_rules.specs.declared.Stop.{Stop}
use Rattle.teb_rules.specs.declared.Stop.TheVariants as stop
use Rattle.teb_rules.specs.Stops.{stop_with, stop_of}
use Rattle.store_setup.specs.tree.Grown.{node_numbers}

-- if node i goes on, the nodes from i + 1 on decide
pub stop_next : (f : ℕ → Verdict) (ns : List Node) (i : ℕ) (d : Node) (v : Verdict) → i < length ns → v ≡ f (get_or ns i d).0 → v ≡ Go → stop_of f (node_numbers (drop i ns)) ≡ stop_of f
    (node_numbers ns) → stop_of f (node_numbers (drop (i + 1) ns)) ≡ stop_of f (node_numbers ns)
unfolding stop_of
stop_next f ns i d v l q e k =
    let n : suc i ≡ i + 1 = omega arith in
    ap (λ (j : ℕ). stop_of f (node_numbers (drop j ns))) (sym n)
    ∙ sym (ap (λ (ms : List Node). stop_of f (node_numbers ms)) (drop-cons ns i d l) ∙ ap (λ (w : Verdict). stop_with (get_or ns i d).0 w (stop_of f (node_numbers (drop (suc i) ns)))) (sym q ∙ e)) ∙ k

-- if node i does not go on, its verdict decides
pub stop_here : (f : ℕ → Verdict) (ns : List Node) (i : ℕ) (d : Node) (v : Verdict) → i < length ns → v ≡ f (get_or ns i d).0 → (v ≡ Go → ⊥) → stop_of f (node_numbers (drop i ns)) ≡ stop_of f
    (node_numbers ns) → stop_with (get_or ns i d).0 v stop.Go ≡ stop_of f (node_numbers ns)
unfolding stop_of
stop_here f ns i d v l q w k =
    let rest = stop_of f (node_numbers (drop (suc i) ns)) in
    ends (get_or ns i d).0 v rest w ∙ ap (λ (z : Verdict). stop_with (get_or ns i d).0 z rest) q ∙ sym (ap (λ (ms : List Node). stop_of f (node_numbers ms)) (drop-cons ns i d l)) ∙ k
  where
    ends : (n : ℕ) (z : Verdict) (rest : Stop) → (z ≡ Go → ⊥) → stop_with n z stop.Go ≡ stop_with n z rest
    ends n Go rest w = absurd (w refl)
    ends n (Wait u) rest w = refl
    ends n (Break b) rest w = refl

-- if no node is left, nothing stops
pub stop_end : (f : ℕ → Verdict) (ns : List Node) (i : ℕ) → length ns ≤ i → stop_of f (node_numbers (drop i ns)) ≡ stop_of f (node_numbers ns) → stop.Go ≡ stop_of f (node_numbers ns)
unfolding stop_of
stop_end f ns i l k = sym (ap (λ (ms : List Node). stop_of f (node_numbers ms)) (drop_end ns i l)) ∙ k
  where
    drop_end : (ms : List Node) (j : ℕ) → length ms ≤ j → drop j ms ≡ []
    drop_end [] zero l = refl
    drop_end [] (suc j) l = refl
    drop_end (m ∷ ms) zero l = absurd (omega arith)
    drop_end (m ∷ ms) (suc j) l = drop_end ms j (omega arith)
