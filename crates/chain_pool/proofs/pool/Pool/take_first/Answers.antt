use Rattle.std.proofs.Common.{◌∙◌, ◌+◌, ◌-◌, ap, sym, subst, arith, length, List}
use Rattle.version_chain.specs.Lists.{without}
use Rattle.chain_pool.specs.declared.places.Place.{Place}
use Rattle.chain_pool.specs.Heads.{chain_head, last_of, with_head, writer_head}
use Rattle.chain_pool.specs.Places.{place_at}
use Rattle.chain_pool.specs.Linked.{Linked, HasLasts, versions}
use Rattle.chain_pool.proofs.Rewriting.{written}
use Rattle.chain_pool.proofs.Taken.{first_owned, first_used, first_freed}
use Rattle.chain_pool.proofs.pool.Pool.take_first.Goals as goal

pub at-taken-requires : goal.at-taken-requires
at-taken-requires c =
    let p = c.args.self.now in
    let owned = first_owned p.places.items _ (writer_head p.writers.entries) p.unused c.args.t c.args.own c.requires.sound.linked c.requires.some in
    omega (arith, owned.within, ap length c.deref.ensures.value)

pub unlink-requires : goal.unlink-requires
unlink-requires c =
    let p = c.args.self.now in
    let owned = first_owned p.places.items _ (writer_head p.writers.entries) p.unused c.args.t c.args.own c.requires.sound.linked c.requires.some in
    let read = c.at-taken.ensures ∙ ap (λ (l : List Place). place_at l c.args.own.first) c.deref.ensures.value in
    let used = first_used p.places.items _ (writer_head p.writers.entries) p.unused c.args.t c.args.own c.requires.sound.linked c.requires.some c.deref_mut.result.now c.deref_mut.ensures.value
    c.at-taken.result.now read in
    record {
      place_within = omega (arith, owned.within, ap length c.deref_mut.ensures.value);
      before_within = used.0;
      after_within = used.1;
    }

pub shorten-requires : goal.shorten-requires
shorten-requires c =
    let p = c.args.self.now in
    let read = c.at-taken.ensures ∙ ap (λ (l : List Place). place_at l c.args.own.first) c.deref.ensures.value in
    let used = first_used p.places.items _ (writer_head p.writers.entries) p.unused c.args.t c.args.own c.requires.sound.linked c.requires.some c.deref_mut.result.now c.deref_mut.ensures.value
    c.at-taken.result.now read in
    used.2

pub overflow_add-self : goal.overflow_add-self
overflow_add-self c =
    let p = c.args.self.now in
    let read = c.at-taken.ensures ∙ ap (λ (l : List Place). place_at l c.args.own.first) c.deref.ensures.value in
    let used = first_used p.places.items _ (writer_head p.writers.entries) p.unused c.args.t c.args.own c.requires.sound.linked c.requires.some c.deref_mut.result.now c.deref_mut.ensures.value
    c.at-taken.result.now read in
    omega (arith, used.3, ap length c.deref_mut.ensures.value, c.requires.sound.linked.short)

pub returns-clause-sound : goal.returns-clause-sound
returns-clause-sound c =
    let p = c.args.self.now in
    let read = c.at-taken.ensures ∙ ap (λ (l : List Place). place_at l c.args.own.first) c.deref.ensures.value in
    let freed = first_freed p.places.items _ (writer_head p.writers.entries) p.unused c.args.t c.args.own c.requires.sound.linked c.requires.some c.deref_mut.result.now c.deref_mut.ensures.value
    c.at-taken.result.now read
    c.unlink.new.places (chain_head c.shorten.new.self.entries) c.unlink.auto.places c.unlink.ensures.next c.unlink.ensures.previous c.unlink.ensures.slot c.shorten.ensures.heads in
    let new = written p.places.len c.unlink.new.places p.places.items (sym c.deref_mut.ensures.len ∙ sym c.unlink.auto.places) in
    record {
      linked = subst (λ (l : List Place). Linked l (chain_head c.shorten.new.self.entries)
          (with_head c.args.t (record { first = c.at-taken.result.now.sibling; len = c.args.own.len - 1 }) (writer_head p.writers.entries))
          (record { first = c.args.own.first; len = p.unused.len + 1 }))
          (sym new) freed.linked;
      lasts = subst (λ (l : List Place). HasLasts l (chain_head c.shorten.new.self.entries) (last_of c.shorten.new.self.entries))
          (sym new) (freed.lasts _ _ c.requires.sound.lasts c.shorten.ensures.lasts);
    }

pub returns-clause-kept : goal.returns-clause-kept
returns-clause-kept c x =
    let p = c.args.self.now in
    let read = c.at-taken.ensures ∙ ap (λ (l : List Place). place_at l c.args.own.first) c.deref.ensures.value in
    let freed = first_freed p.places.items _ (writer_head p.writers.entries) p.unused c.args.t c.args.own c.requires.sound.linked c.requires.some c.deref_mut.result.now c.deref_mut.ensures.value
    c.at-taken.result.now read
    c.unlink.new.places (chain_head c.shorten.new.self.entries) c.unlink.auto.places c.unlink.ensures.next c.unlink.ensures.previous c.unlink.ensures.slot c.shorten.ensures.heads in
    let new = written p.places.len c.unlink.new.places p.places.items (sym c.deref_mut.ensures.len ∙ sym c.unlink.auto.places) in
    ap (λ (l : List Place). without c.args.t.0 (versions l (chain_head c.shorten.new.self.entries x))) new ∙ freed.kept x
