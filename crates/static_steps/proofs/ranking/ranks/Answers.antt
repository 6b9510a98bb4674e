use Rattle.std.proofs.Common.{◌≡◌, ◌∙◌, ap, length, arith}
use Rattle.static_steps.specs.Profiles.{profiles_of}
use Rattle.static_steps.proofs.TableRanks.{ranks_are}
use Rattle.static_steps.proofs.Written.{written_back}
use Rattle.static_steps.proofs.ranking.ranks.Goals as goal

pub returns : goal.returns
returns c =
    let rows = c.in_ok-rows.rows in
    let long : length c.close.new.rows ≡ length rows.items = c.close.auto.rows ∙ ap length c.deref_mut.ensures.value in
    let closed : c.deref.result.now ≡ c.close.new.rows = c.deref.ensures.value ∙ written_back rows.len c.close.new.rows rows.items long (omega (arith, rows.ok.0)) in
    let chains = rw closed at c.in_ok-ranks.ensures in
    rw c.new.ensures
    (ranks_are (profiles_of c.args.profiles.now c.args.under.now) c.args.tables rows.items c.close.new.rows c.in_ok-ranks.ranks.items c.in_ok-rows.ensures.0
    (long ∙ c.in_ok-rows.ensures.0) c.in_ok-rows.ensures.1 (rw c.deref_mut.ensures.value at c.close.ensures) chains.0 chains.1)
