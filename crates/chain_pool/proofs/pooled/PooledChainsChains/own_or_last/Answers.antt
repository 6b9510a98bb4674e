use Rattle.std.proofs.Common.{◌≡◌, ◌∙◌, ap, subst, false, List, Some, IsTrue, IfSome, slice_get}
use Rattle.std.specs.Option.{option_map}
use Rattle.version_chain.specs.Lists.{Version, writers_of, is_writer, own_or_last}
use Rattle.chain_pool.specs.CellChains.{list_of}
use Rattle.chain_pool.specs.Latest.{IsAbove}
use Rattle.chain_pool.proofs.Writers.{on_true}
use Rattle.chain_pool.proofs.Seen.{seen}
use Rattle.chain_pool.proofs.pooled.PooledChainsChains.own_or_last.Goals as goal

pub own_or_last-requires-clause-callable : goal.own_or_last-requires-clause-callable
own_or_last-requires-clause-callable g c off u there =
    let was = c.of.ensures ∙ seen c.args.self.now c.self.inside.pool c.self.inside.spare c.self.view_is c.args.cell in
    c.requires (subst (λ (l : List Version). is_writer l c.args.t.0 ≡ false) was off) u (subst (λ (l : List Version). IsTrue (is_writer l u.0)) was there)

pub own_or_last-requires-clause-absent : goal.own_or_last-requires-clause-absent
own_or_last-requires-clause-absent g c =
    on_true c.is_above-is_new.result (IsAbove c.self.inside.latest c.args.t.0 c.args.cell) (is_writer (list_of c.of.result) c.args.t.0 ≡ false) c.is_above-is_new.ensures
    (λ above. ap (λ (l : List Version). is_writer l c.args.t.0) c.of.ensures ∙ c.self.invariant.marked c.args.t.0 c.args.cell above)

pub returns-clause-place : goal.returns-clause-place
returns-clause-place g c p agrees =
    let was = c.of.ensures ∙ seen c.args.self.now c.self.inside.pool c.self.inside.spare c.self.view_is c.args.cell in
    subst (λ (l : List Version). option_map (λ v. v.at) c.own_or_last.result ≡ own_or_last c.args.t.0 p (writers_of l)) was
    (c.own_or_last.ensures.place p
    (λ off u b there. agrees (subst (λ (l : List Version). is_writer l c.args.t.0 ≡ false) was off) u b (subst (λ (l : List Version). IsTrue (is_writer l u.0)) was there)))

pub returns-clause-version : goal.returns-clause-version
returns-clause-version g c =
    let was = c.of.ensures ∙ seen c.args.self.now c.self.inside.pool c.self.inside.spare c.self.view_is c.args.cell in
    subst (λ (l : List Version). IfSome c.own_or_last.result (λ v. slice_get l v.at ≡ Some (v.writer, v.value))) was c.own_or_last.ensures.version
