use Rattle.std.proofs.Common.{◌≡◌, ◌<◌, ◌∙◌, ap, [], length, get_or, arith}
use Rattle.std.proofs.lemmas.List.{length-replicate, get_or_read}
use Rattle.std.proofs.lemmas.List.Elements.{All-get_or}
use Rattle.teb_rules.specs.Steps.{arrow}
use Rattle.static_steps.proofs.AddedArrows.{profile_added, within_all, no_arrows}
use Rattle.static_steps.proofs.Written.{written_back}
use Rattle.static_steps.proofs.arrows.arrows.Goals as goal

pub loop-kind-init : goal.loop-kind-init
unfolding arrow
loop-kind-init c =
    let rows = c.in_ok-rows.ensures.items_if_clones_equal (λ y e. e) in
    rw rows (length-replicate c.from.result 0 ∙ c.from.ensures, λ a b. no_arrows _ a b)

pub add_steps-requires-clause-named : goal.add_steps-requires-clause-named
add_steps-requires-clause-named c =
    let kinds = c.args.under.now in
    let known : (get_or kinds c.loop-kind.kind-index (record { 0 = 0 })).0 < length c.args.profiles.now = All-get_or (λ k. k.0 < length c.args.profiles.now) kinds c.loop-kind.kind-index
    (record { 0 = 0 }) c.loop-kind-test.true c.requires.known in
    let read = get_or_read c.args.profiles.now c.from-in-loop-kind.result c.index-profiles-from.result (omega arith) c.index-profiles-from.is [] in
    let within = within_all c.args.profiles.now kinds c.loop-kind.kind-index (record { 0 = 0 }) c.loop-kind-test.true in
    rw (read, c.from-in-loop-kind.ensures) (omega (arith, within, c.requires.named, c.loop-kind.invariant.0, c.deref_mut.ensures.len, c.loop-kind.rows.ok))

pub loop-kind-preserved : goal.loop-kind-preserved
loop-kind-preserved c =
    let kinds = c.args.under.now in
    let known : (get_or kinds c.loop-kind.kind-index (record { 0 = 0 })).0 < length c.args.profiles.now = All-get_or (λ k. k.0 < length c.args.profiles.now) kinds c.loop-kind.kind-index
    (record { 0 = 0 }) c.loop-kind-test.true c.requires.known in
    let read = get_or_read c.args.profiles.now c.from-in-loop-kind.result c.index-profiles-from.result (omega arith) c.index-profiles-from.is [] in
    let profile : c.index-profiles-from.result ≡ get_or c.args.profiles.now (get_or kinds c.loop-kind.kind-index (record { 0 = 0 })).0 [] = rw c.from-in-loop-kind.ensures at read in
    let long : length c.add_steps.new.rows ≡ length c.loop-kind.rows.items = c.add_steps.auto.rows ∙ ap length c.deref_mut.ensures.value in
    let back = written_back c.loop-kind.rows.len c.add_steps.new.rows c.loop-kind.rows.items long (omega (arith, c.loop-kind.rows.ok.0)) in
    let added = rw (c.deref_mut.ensures.value, profile) at c.add_steps.ensures.rows in
    rw back (
      long ∙ c.loop-kind.invariant.0,
      profile_added c.args.profiles.now kinds c.loop-kind.kind-index (record { 0 = 0 }) c.loop-kind.rows.items c.add_steps.new.rows c.loop-kind-test.true
          c.loop-kind.invariant.1 added,
    )
