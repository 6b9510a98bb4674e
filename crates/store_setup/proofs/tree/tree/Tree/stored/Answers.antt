use Rattle.std.proofs.Common.{rules, ℕ, ◌≡◌, ◌%◌, length, ap, ◌∙◌}
use Rattle.teb_rules.specs.Tree.{path}
use Rattle.store_setup.specs.tree.Grown.{Grown}
use Rattle.store_setup.proofs.lemmas.tree.Stored.{stored_path}
use Rattle.store_setup.proofs.tree.tree.Tree.stored.Goals as goal

pub returns-clause-nodes : goal.returns-clause-nodes
returns-clause-nodes c =
    let n : c.len.result ≡ length c.index-parts.result.now.items = c.len.ensures ∙ c.index-parts.result.now.ok.0 in
    stored_path c.self.inside c.self.invariant c.args.s (search rules) c.index-parts.result.now c.index.result.now c.from.result (c.args.s.instance % c.len.result)
    c.from.ensures c.index-parts.ensures (ap (λ (z : ℕ). c.args.s.instance % z) n) c.index.ensures
    ∙ ap (λ (T : Grown). path T.rows c.args.s) c.self.view_is
