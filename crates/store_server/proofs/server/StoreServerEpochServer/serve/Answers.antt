use Rattle.std.proofs.Common.{sym, subst}
use Rattle.teb_rules.specs.declared.names.naming.NameBook.{NameBook}
use Rattle.teb_rules.specs.Setup.{Store}
use Rattle.store_server.specs.Trees.{IsTreeOf, IsWellNamed}
use Rattle.store_server.proofs.server.StoreServerEpochServer.serve.Goals as goal

pub invariant_of-self : goal.invariant_of-self
invariant_of-self g c = record {
  under = subst (λ (p : Store × NameBook). IsTreeOf c.args.self.now.tree.items p.0 p.1) (λ i. (sym c.ask.ensures.store i, sym c.ask.ensures.names i)) c.args.self.now.under;
  named = subst (λ (p : Store × NameBook). IsWellNamed p.0 p.1) (λ i. (sym c.ask.ensures.store i, sym c.ask.ensures.names i)) c.args.self.now.named;
}

pub invariant_of-self-in-Err-Full : goal.invariant_of-self-in-Err-Full
invariant_of-self-in-Err-Full g c = record {
  under = subst (λ (p : Store × NameBook). IsTreeOf c.args.self.now.tree.items p.0 p.1) (λ i. (sym c.ask.ensures.store i, sym c.ask.ensures.names i)) c.args.self.now.under;
  named = subst (λ (p : Store × NameBook). IsWellNamed p.0 p.1) (λ i. (sym c.ask.ensures.store i, sym c.ask.ensures.names i)) c.args.self.now.named;
}

pub invariant_of-self-in-Err-OutOfMemory : goal.invariant_of-self-in-Err-OutOfMemory
invariant_of-self-in-Err-OutOfMemory g c = record {
  under = subst (λ (p : Store × NameBook). IsTreeOf c.args.self.now.tree.items p.0 p.1) (λ i. (sym c.ask.ensures.store i, sym c.ask.ensures.names i)) c.args.self.now.under;
  named = subst (λ (p : Store × NameBook). IsWellNamed p.0 p.1) (λ i. (sym c.ask.ensures.store i, sym c.ask.ensures.names i)) c.args.self.now.named;
}
