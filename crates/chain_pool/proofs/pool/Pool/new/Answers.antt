use Rattle.std.proofs.Common.{◌≡◌, ℕ, ◌<◌, List, [], length, refl, sym, ap, subst, arith}
use Rattle.teb_rules.specs.declared.names.Cell.{Cell}
use Rattle.teb_rules.specs.declared.names.Txn.{Txn}
use Rattle.chain_pool.specs.declared.places.Place.{Place}
use Rattle.chain_pool.specs.declared.places.Head.{Head}
use Rattle.chain_pool.specs.Threads.{Thread}
use Rattle.chain_pool.specs.Heads.{IsBusy, chain_head, last_of, writer_head}
use Rattle.chain_pool.specs.Linked.{Linked, HasLasts}
use Rattle.chain_pool.proofs.pool.Pool.new.Goals as goal

no_thread : (mine : ℕ → Type 0) (next : ℕ → ℕ) (first len : ℕ) → len ≡ 0 → ((p : ℕ) → mine p → ⊥) → Thread mine next first len
no_thread mine next first len none nowhere = record {
  places = [];
  count = sym none;
  head = λ some. absurd (omega (arith, some, none));
  link = λ j lt. absurd (omega (arith, lt, none));
  inside = λ j lt. absurd (omega (arith, lt, none));
  distinct = λ i j li lj e. absurd (omega (arith, li, none));
  complete = λ p m. absurd (nowhere p m);
}

no_places : (ps : List Place) (chain : Cell → Head) (own : Txn → Head) (unused : Head) → ps ≡ [] → ((x : Cell) → (chain x).len ≡ 0) → ((t : Txn) → (own t).len ≡ 0) → unused.len ≡ 0
    → Linked ps chain own unused
no_places ps chain own unused none chains owners frees = record {
  chains = λ x. record {
    thread = no_thread _ _ _ _ (chains x) (λ p m. nowhere p m.within);
    closes = λ some. absurd (omega (arith, some, chains x));
    back = λ p m. absurd (nowhere p m.within);
  };
  owners = λ t. no_thread _ _ _ _ (owners t) (λ p m. nowhere p m.within);
  frees = no_thread _ _ _ _ frees (λ p m. nowhere p m.within);
  short = omega (arith, ap length none);
  once = λ x t p q mp mq op oq. absurd (nowhere p mp.within);
}
  where
    nowhere : (p : ℕ) → p < length ps → ⊥
    nowhere p lt = omega (arith, lt, ap length none)

pub returns-clause-sound : goal.returns-clause-sound
returns-clause-sound c = record {
  linked = no_places _ _ _ _ c.new.ensures.items (λ x. ap (λ es. (chain_head es x).len) c.new-2.ensures) (λ t. ap (λ es. (writer_head es t).len) c.new-3.ensures.empty) refl;
  lasts = subst (λ es. HasLasts c.new.result.items (chain_head es) (last_of es)) (sym c.new-2.ensures) (λ x some. absurd (omega (arith, some)));
  busy = subst IsBusy (sym c.new-3.ensures.empty) (λ t. tt);
}
