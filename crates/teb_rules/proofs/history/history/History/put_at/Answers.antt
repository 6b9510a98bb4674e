use Rattle.std.proofs.Common.{◌≡◌, ◌∙◌, ◌-◌, ◌<◌, ℕ, Bool, cond, is_some, length, reverse, get_or, vec_len, Option, ℤ, sym, ap, subst, arith, rules}
use Rattle.std.proofs.lemmas.List.{length-reverse}
use Rattle.std.proofs.lemmas.Grind.{get_or_default_zero}
use Rattle.teb_rules.specs.declared.history.standing.Standing.{Standing}
use Rattle.teb_rules.specs.history.Written.{Written}
use Rattle.teb_rules.specs.history.Accesses.{put_at}
use Rattle.teb_rules.specs.history.OwnEvents.{own_end, put_in}
use Rattle.teb_rules.proofs.lemmas.history.FirstPuts.{IsWalked, walk_begins, walk_ends, walk_in, walk_in_links, walk_falls, walk_steps}
use Rattle.teb_rules.proofs.history.history.History.put_at.Goals as goal
use Rattle.teb_rules.proofs.history.history.History.put_at.Goals.{then-is_some, else-is_some}

pub loop-end-init : goal.loop-end-init
loop-end-init c =
    let events = c.self.inside.events.items in
    let end : c.standing-end.result.end ≡ own_end (reverse events) c.args.t.0 = ap (λ (r : Standing). r.end) c.standing-end.ensures ∙ ap (λ (w : Written). own_end w.events c.args.t.0)
    (sym c.self.view_is) in
    let counted : vec_len c.self.inside.events ≡ length events = search rules in
    let len : c.len-first.result ≡ length (reverse events) = c.len-first.ensures ∙ counted ∙ sym (length-reverse events) in
    let begins = walk_begins c.args.t.0 c.args.cell (reverse events) in
    subst (λ (n : ℕ). IsWalked c.args.t.0 c.args.cell (reverse events) c.standing-end.result.end n) (sym len)
    (subst (λ (n : ℕ). IsWalked c.args.t.0 c.args.cell (reverse events) n (length (reverse events))) (sym end) begins)

pub index-requires : goal.index-requires
index-requires c =
    let counted : vec_len c.self.inside.events ≡ length c.self.inside.events.items = search rules in
    rw counted (walk_in c.args.t.0 c.args.cell c.self.inside.events.items _ c.self.invariant.kept.links _ c.loop-end-test.true _ c.loop-end.invariant)

pub index-end-requires : goal.index-end-requires
index-end-requires c =
    let counted : vec_len c.self.inside.previous ≡ length c.self.inside.previous.items = search rules in
    rw counted (walk_in_links c.args.t.0 c.args.cell c.self.inside.events.items _ c.self.invariant.kept.links _ c.loop-end-test.true _ c.loop-end.invariant)

pub loop-end-smaller : goal.loop-end-smaller
loop-end-smaller c =
    let there : c.loop-end.end - 1 < length c.self.inside.previous.items = walk_in_links c.args.t.0 c.args.cell c.self.inside.events.items _ c.self.invariant.kept.links _ c.loop-end-test.true _
    c.loop-end.invariant in
    let link : c.index-end.result.now ≡ get_or c.self.inside.previous.items (c.loop-end.end - 1) 0 = c.index-end.ensures ∙ get_or_default_zero _ _ _ there in
    let falls = walk_falls c.args.t.0 c.args.cell c.self.inside.events.items _ c.self.invariant.kept.links _ c.loop-end-test.true _ c.loop-end.invariant _ c.index.ensures in
    omega (arith, link, falls)

pub loop-end-preserved : goal.loop-end-preserved
loop-end-preserved c =
    let there : c.loop-end.end - 1 < length c.self.inside.previous.items = walk_in_links c.args.t.0 c.args.cell c.self.inside.events.items _ c.self.invariant.kept.links _ c.loop-end-test.true _
    c.loop-end.invariant in
    let link : c.index-end.result.now ≡ get_or c.self.inside.previous.items (c.loop-end.end - 1) 0 = c.index-end.ensures ∙ get_or_default_zero _ _ _ there in
    let tested = ap (λ (v : Option (Option ℤ)). is_some v) (sym c.put_in.ensures) ∙ sym c.is_some.ensures in
    let found : cond (is_some (put_in c.args.cell c.index.result.now)) (c.loop-end.end - 1) c.loop-end.first ≡ c.if-is_some.first =
    elim c.if-is_some.branch [
      | then-is_some w ↦ ap (λ (b : Bool). cond b (c.loop-end.end - 1) c.loop-end.first) (tested ∙ w.if-is_some.true) ∙ sym w.first-is
      | else-is_some w ↦ ap (λ (b : Bool). cond b (c.loop-end.end - 1) c.loop-end.first) (tested ∙ w.if-is_some.false) ∙ sym w.first-is
    ] in
    let steps = walk_steps c.args.t.0 c.args.cell c.self.inside.events.items _ c.self.invariant.kept.links _ c.loop-end-test.true _ c.loop-end.invariant _ c.index.ensures in
    subst (λ (n : ℕ). IsWalked c.args.t.0 c.args.cell (reverse c.self.inside.events.items) n c.if-is_some.first) (sym link)
    (subst (λ (n : ℕ). IsWalked c.args.t.0 c.args.cell (reverse c.self.inside.events.items) (get_or c.self.inside.previous.items (c.loop-end.end - 1) 0) n) found steps)

pub returns : goal.returns
returns c =
    let none : c.loop-end.end ≡ 0 = omega arith in
    sym (walk_ends c.args.t.0 c.args.cell _ _ _ none c.loop-end.invariant) ∙ ap (λ (w : Written). put_at w.events c.args.t.0 c.args.cell) c.self.view_is
