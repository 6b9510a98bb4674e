use Rattle.std.proofs.Common.{◌<◌, ◌∙◌, ℕ, sym, subst, length, Option, IfSome}
use Rattle.version_chain.proofs.Places.{is_writer-none, own_is, other_is, own_within}
use Rattle.version_chain.proofs.chains.Chains.own_or_last.Goals as goal
use Rattle.version_chain.proofs.chains.Chains.own_or_last.Goals.{in-Some, in-None}

pub last_where-place-requires : goal.last_where-place-requires
last_where-place-requires g c = c.requires (is_writer-none (g.Self.Chains.lists c.args.self.now c.args.cell) c.args.t.0 c.in-None.ensures)

pub at-value-requires : goal.at-value-requires
at-value-requires g c =
    let vs = g.Self.Chains.lists c.args.self.now c.args.cell in
    let within : IfSome c.match-find.place (λ i. i < length vs) = elim c.match-find.branch [
      | in-Some w ↦ subst (λ (r : Option ℕ). IfSome r (λ i. i < length vs)) (sym w.place-is) (own_within vs c.args.t.0 w.in-Some.own w.in-Some.ensures)
      | in-None w ↦ subst (λ (r : Option ℕ). IfSome r (λ i. i < length vs)) (sym w.place-is) w.last_where-place.ensures.within
    ] in
    subst (λ (r : Option ℕ). IfSome r (λ i. i < length vs)) c.in-Some-place.is within

pub returns-in-Some-place-clause-place : goal.returns-in-Some-place-clause-place
returns-in-Some-place-clause-place g c p agrees =
    let vs = g.Self.Chains.lists c.args.self.now c.args.cell in
    sym c.in-Some-place.is ∙ elim c.match-find.branch [
      | in-Some w ↦ w.place-is ∙ own_is vs c.args.t.0 w.in-Some.own p w.in-Some.ensures
      | in-None w ↦ w.place-is ∙ other_is vs c.args.t.0 _ p w.in-None.ensures (w.last_where-place.ensures.place p (agrees (is_writer-none vs c.args.t.0 w.in-None.ensures)))
    ]

pub returns-in-None-place-clause-place : goal.returns-in-None-place-clause-place
returns-in-None-place-clause-place g c p agrees =
    let vs = g.Self.Chains.lists c.args.self.now c.args.cell in
    sym c.in-None-place.is ∙ elim c.match-find.branch [
      | in-Some w ↦ w.place-is ∙ own_is vs c.args.t.0 w.in-Some.own p w.in-Some.ensures
      | in-None w ↦ w.place-is ∙ other_is vs c.args.t.0 _ p w.in-None.ensures (w.last_where-place.ensures.place p (agrees (is_writer-none vs c.args.t.0 w.in-None.ensures)))
    ]
