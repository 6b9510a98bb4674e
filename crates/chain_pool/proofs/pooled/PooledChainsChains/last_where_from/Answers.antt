use Rattle.std.proofs.Common.{◌∙◌, ◌<◌, ℕ, ap, sym, subst, length, List, Option, Some, None, IfSome, IsTrue}
use Rattle.std.specs.Option.{option_map}
use Rattle.version_chain.specs.Lists.{Version, is_writer, last_place, unless_below, writers_of}
use Rattle.version_chain.specs.declared.chains.Found.{Found}
use Rattle.chain_pool.specs.View.{list_in}
use Rattle.chain_pool.proofs.Seen.{seen}
use Rattle.chain_pool.proofs.pooled.PooledChainsChains.last_where_from.Goals as goal

pub last_accepted-requires : goal.last_accepted-requires
last_accepted-requires g c u there =
    let was = seen c.args.self.now c.self.inside.pool c.self.inside.spare c.self.view_is c.args.cell in
    c.requires u (subst (λ (l : List Version). IsTrue (is_writer l u.0)) (c.of.ensures ∙ was) there)

pub returns-clause-place : goal.returns-clause-place
returns-clause-place g c p agrees =
    let was = seen c.args.self.now c.self.inside.pool c.self.inside.spare c.self.view_is c.args.cell in
    c.place_of.ensures
    ∙ (c.last_accepted.ensures.place p (λ u b there answers. agrees u b (subst (λ (l : List Version). IsTrue (is_writer l u.0)) (c.of.ensures ∙ was) there) answers)
    ∙ ap (λ (l : List Version). unless_below c.args.from (last_place p (writers_of l))) (c.of.ensures ∙ was))

-- a property of the place of a version that was found
at_place : (P : ℕ → Type 0) (r : Option Found) → IfSome r (λ v. P v.at) → IfSome (option_map (λ v. v.at) r) P
at_place P None h = h
at_place P (Some v) h = h

pub returns-clause-within : goal.returns-clause-within
returns-clause-within g c =
    let was = seen c.args.self.now c.self.inside.pool c.self.inside.spare c.self.view_is c.args.cell in
    subst (λ (r : Option ℕ). IfSome r (λ i. i < length (list_in c.args.self.now c.args.cell))) (sym c.place_of.ensures)
    (at_place (λ i. i < length (list_in c.args.self.now c.args.cell)) c.last_accepted.result
    (subst (λ (l : List Version). IfSome c.last_accepted.result (λ v. v.at < length l)) (c.of.ensures ∙ was) c.last_accepted.ensures.within))
