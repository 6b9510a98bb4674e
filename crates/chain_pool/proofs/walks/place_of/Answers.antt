use Rattle.std.proofs.Common.{◌≡◌, ◌∙◌, ◌<◌, ◌-◌, ℕ, suc, ap, sym, subst, arith, List, IsSome}
use Rattle.chain_pool.specs.declared.places.Place.{Place}
use Rattle.chain_pool.specs.declared.places.Chain.{Chain}
use Rattle.chain_pool.specs.Threads.{steps}
use Rattle.chain_pool.specs.Places.{previous_at, slot_at}
use Rattle.chain_pool.proofs.Rings.{steps-first}
use Rattle.chain_pool.proofs.Sizes.{used_within}
use Rattle.chain_pool.proofs.walks.place_of.Goals as goal

-- n steps from the last place are n + 1 steps from the first
from_last : (ps : List Place) (chain : Chain) (i : ℕ) → i < chain.head.len → (0 < chain.head.len → chain.last ≡ previous_at ps chain.head.first) → (n : ℕ)
    → steps (previous_at ps) n chain.last ≡ steps (previous_at ps) (suc n) chain.head.first
from_last ps chain i within ends n = ap (steps (previous_at ps) n) (ends (omega (arith, within))) ∙ steps-first (previous_at ps) n chain.head.first

pub step_back-requires : goal.step_back-requires
step_back-requires c n lt =
    let ps = c.args.places.now in
    let is = from_last ps c.args.chain c.args.i c.requires.within c.requires.walk.last n in
    used_within ps _ (subst (λ p. IsSome (slot_at ps p).version) (sym is) (c.requires.walk.used (suc n) (omega (arith, c.requires.within))))

pub returns : goal.returns
returns c =
    let ps = c.args.places.now in
    let chain = c.args.chain in
    let n : suc (chain.head.len - 1 - c.args.i) ≡ chain.head.len - c.args.i = omega (arith, c.requires.within) in
    c.step_back.ensures ∙ (from_last ps chain c.args.i c.requires.within c.requires.walk.last (chain.head.len - 1 - c.args.i) ∙ ap (λ k. steps (previous_at ps) k chain.head.first) n)
