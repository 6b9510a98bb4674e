use Rattle.std.proofs.Common.{rules, ap, sym, ◌∙◌, subst}
use mathlib.Core.Option.{some-injective}
use Rattle.std.specs.Option.{IsSome}
use Rattle.turn_lock.specs.Calls.{AreOwned, Ends}
use Rattle.turn_lock.proofs.Lists.{Some_is}
use Rattle.turn_lock.proofs.Closing.{ends}
use Rattle.turn_lock.proofs.turn.Turn.end.Goals as goal

pub unwrap-requires : goal.unwrap-requires
unwrap-requires g c = let f = ends _ _ _ _ _ _ _ c.args.seat.seat.id c.args.seat.seat.me.0 _ _ c.requires.seat.1.2 c.args.seat.live c.requires.all c.close_with-closed.ensures.values.2 in
    subst IsSome (sym (some-injective _ _ (sym c.take-value.ensures.value ∙ f.there))) (search rules)

pub returns : goal.returns
returns g c = let f = ends _ _ _ _ _ _ _ c.args.seat.seat.id c.args.seat.seat.me.0 _ _ c.requires.seat.1.2 c.args.seat.live c.requires.all c.close_with-closed.ensures.values.2 in let m = g.T.Member in
    let is = Some_is (sym (some-injective _ _ (sym c.take-value.ensures.value ∙ f.there)) ∙ c.unwrap.ensures) in record {
      ends = subst (Ends m.entries m.owner m.note m.base c.args.seat.seat.me.0) is f.ends;
      base = ap m.base (sym is) ∙ f.has_base;
      owned = subst (λ x. AreOwned m.owner c.args.self.table.shared.key.owners (m.entries x)) is f.owned;
    }
