use Rattle.std.proofs.Common.{◌≡◌, ◌≤◌, ◌∙◌, ℕ, arith, refl, Option, Some, None}
use Rattle.std.proofs.lemmas.Bool.{le-leb}
use Rattle.std.specs.Option.{option_map}
use Rattle.version_chain.specs.Lists.{writers_of, last_place, unless_below}
use Rattle.version_chain.proofs.Places.{is_writer-none, own_is, other_is}
use Rattle.chain_pool.specs.Pools.{chain_of}
use Rattle.chain_pool.proofs.cell_chain.CellChain.own_or_last.Goals as goal

pub last_accepted-requires : goal.last_accepted-requires
last_accepted-requires g c u there = c.requires.callable (is_writer-none (chain_of c.args.self.pool.now c.args.self.cell) c.args.t.0 c.in-None.ensures.place) u there

-- no place is below the first
from_front : (o : Option ℕ) → unless_below 0 o ≡ o
from_front None = refl
from_front (Some i) = let le : 0 ≤ i = omega arith in rw (le-leb 0 i le) refl

pub returns-in-Some-clause-place : goal.returns-in-Some-clause-place
returns-in-Some-clause-place g c p agrees = own_is (chain_of c.args.self.pool.now c.args.self.cell) c.args.t.0 c.in-Some.own.at p c.in-Some.ensures.place

pub returns-in-None-clause-place : goal.returns-in-None-clause-place
returns-in-None-clause-place g c p agrees =
    let vs = chain_of c.args.self.pool.now c.args.self.cell in
    other_is vs c.args.t.0 (option_map (λ v. v.at) c.last_accepted.result) p c.in-None.ensures.place
    (c.last_accepted.ensures.place p (λ u b there answers. agrees (is_writer-none vs c.args.t.0 c.in-None.ensures.place) u b there answers) ∙ from_front (last_place p (writers_of vs)))
