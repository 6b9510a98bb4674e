use Rattle.std.proofs.Common.{◌∙◌, ap, sym, subst, arith, length, List, insert}
use Rattle.chain_pool.specs.View.{View}
use Rattle.chain_pool.specs.Pools.{chain_of}
use Rattle.chain_pool.specs.Latest.{IsAbove}
use Rattle.version_chain.specs.Lists.{Version, is_writer}
use Rattle.chain_pool.proofs.Seen.{seen, view_list, apart_from, less_room}
use Rattle.chain_pool.proofs.Writers.{absent-put}
use Rattle.chain_pool.proofs.Chains.{absent_from, versions_len}
use Rattle.chain_pool.proofs.pooled.PooledChainsChains.place.Goals as goal

pub place-requires-clause-within : goal.place-requires-clause-within
place-requires-clause-within c =
    let was = seen c.args.self.now c.self.inside.pool c.self.inside.spare c.self.view_is in
    let n = versions_len _ _ _ _ c.self.invariant.sound.linked c.args.cell in
    omega (arith, n, ap length (was c.args.cell), c.requires.within)

pub place-requires-clause-absent : goal.place-requires-clause-absent
place-requires-clause-absent c =
    let was = seen c.args.self.now c.self.inside.pool c.self.inside.spare c.self.view_is in
    absent_from _ _ _ _ c.self.invariant.sound.linked c.args.cell c.args.t (ap (λ (l : List Version). is_writer l c.args.t.0) (was c.args.cell) ∙ c.requires.absent)

pub invariant_of-self : goal.invariant_of-self
invariant_of-self c = record {
  sound = c.place.ensures.sound;
  room = c.place.ensures.room _ (less_room _ c.self.inside.spare _ (omega (arith, ap (λ (v : View). v.spare) c.self.view_is, c.requires.room)) c.self.invariant.room);
  marked = λ u x above. absent-put (chain_of c.self.inside.pool) (chain_of c.place.new.self) c.args.cell c.place.ensures.elsewhere u x (c.self.invariant.marked u x (c.mark.ensures.kept u x above))
      c.args.i (c.args.t, c.args.value) c.place.ensures.here
      (λ e same. c.mark.ensures.marked (subst (λ n. IsAbove c.mark.new.latest n c.args.cell) (sym same) (subst (IsAbove c.mark.new.latest u) (sym e) above)));
}

pub returns-clause-here : goal.returns-clause-here
returns-clause-here c =
    let was = seen c.args.self.now c.self.inside.pool c.self.inside.spare c.self.view_is in
    view_list c.place.new.self 0 c.args.cell ∙ (c.place.ensures.here ∙ ap (λ (l : List Version). insert l c.args.i (c.args.t, c.args.value)) (was c.args.cell))

pub returns-clause-elsewhere : goal.returns-clause-elsewhere
returns-clause-elsewhere c x differs =
    let was = seen c.args.self.now c.self.inside.pool c.self.inside.spare c.self.view_is in
    view_list c.place.new.self 0 x ∙ (c.place.ensures.elsewhere x (apart_from x c.args.cell differs) ∙ was x)
