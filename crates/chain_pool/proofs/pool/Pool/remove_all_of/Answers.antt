use Rattle.std.proofs.Common.{◌∙◌, ap, sym, subst, arith, Option, unwrap_or}
use Rattle.teb_rules.specs.declared.names.Txn.{Txn}
use Rattle.indexmap.specs.IndexMap.{IndexMap}
use Rattle.chain_pool.specs.declared.places.Head.{Head}
use Rattle.chain_pool.specs.Heads.{empty, IsBusy, chain_head, writer_head}
use Rattle.chain_pool.proofs.Chains.{none_left}
use Rattle.chain_pool.proofs.Emptied.{taken_out, emptied, no_entry, busy_without, none_there}
use Rattle.chain_pool.proofs.pool.Pool.remove_all_of.Goals as goal

pub take_all-requires : goal.take_all-requires
take_all-requires c =
    let p = c.args.self.now in
    record {
      linked = taken_out p.places.items (chain_head p.cells.entries) p.unused c.args.t p.writers.entries c.swap_remove.new.self.entries c.in-Some.own c.requires.sound.linked
          (sym c.in-Some.ensures.value) c.swap_remove.ensures.updates.0;
      lasts = c.requires.sound.lasts;
    }

pub returns-in-Some-clause-sound : goal.returns-in-Some-clause-sound
returns-in-Some-clause-sound c =
    let was = c.args.self.now.writers.entries in
    let now = c.swap_remove.new.self.entries in
    let p = c.take_all.new.self in
    let l = c.take_all.ensures.sound in
    let gone = c.swap_remove.ensures.updates.0 in
    let none = ap (λ (m : IndexMap Txn Head _). writer_head m.entries c.args.t) c.take_all.ensures.writers ∙ no_entry was now c.args.t gone in
    record {
      linked = emptied p.places.items (chain_head p.cells.entries) p.unused c.args.t (writer_head p.writers.entries) l.0 l.2.linked l.1 none;
      lasts = l.2.lasts;
      busy = subst (λ (m : IndexMap Txn Head _). IsBusy m.entries) (sym c.take_all.ensures.writers) (busy_without was now c.args.t gone c.requires.sound.busy);
    }

pub returns-in-Some-clause-room : goal.returns-in-Some-clause-room
returns-in-Some-clause-room c n r = c.take_all.ensures.room n (record { places = r.places; short = r.short; cells = r.cells; writers = omega (arith, r.writers, c.swap_remove.ensures.room.0) })

pub returns-in_default-clause-taken : goal.returns-in_default-clause-taken
returns-in_default-clause-taken c x =
    let none = sym c.swap_remove.ensures.value ∙ none_there c.swap_remove.result c.in_default.not-Some in
    let p = c.args.self.now in
    sym (none_left p.places.items _ (writer_head p.writers.entries) p.unused c.requires.sound.linked c.args.t (ap (λ (o : Option Head). (unwrap_or o empty).len) none) x)
