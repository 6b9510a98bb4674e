use Rattle.std.proofs.Common.{◌≡◌, ℕ, ◌<◌, ◌-◌, sym, ap, subst, arith, List, length, get_or, map, Some, None, true, false}
use Rattle.std.proofs.lemmas.List.{length-map}
use Rattle.teb_rules.specs.declared.names.Txn.{Txn}
use Rattle.version_chain.specs.declared.sorted.Stored.{Stored}
use Rattle.version_chain.specs.Lists.{Version}
use Rattle.version_chain.specs.Stored.{version}
use Rattle.version_chain.proofs.Places.{last_where_is, is_writer-at}
use Rattle.version_chain.proofs.Ranges.{version_at}
use Rattle.version_chain.proofs.sorted.last_accepted.Goals as goal

blank : Version → Stored
blank d = record { cell = record { table = record { 0 = 0 }; key = 0 }; writer = d.0; value = d.1 }

writer_of : (ms : List Stored) (j : ℕ) (m : Stored) (d : Version) → j < length ms → (get_or (map version ms) j d).0 ≡ (get_or ms j m).writer
writer_of ms j m d lt = ap (λ (v : Version). v.0) (version_at ms j m d lt)

pub accepts-requires : goal.accepts-requires
accepts-requires g c =
    let ms = c.args.chain.now in
    let j = c.loop-end.end - 1 in
    let lt : j < length ms = omega (arith, c.loop-end.invariant.within, c.loop-end-test.true) in
    let n = length-map ms version in
    let d : Version = (record { 0 = 0 }, None) in
    let m : Stored = record { cell = record { table = record { 0 = 0 }; key = 0 }; writer = record { 0 = 0 }; value = None } in
    subst (λ (u : Txn). g.F.Fn.pre c.args.f.now (u, tt)) (writer_of ms j m d lt) (c.requires _ (is_writer-at (map version ms) j d (omega (arith, lt, n))))

pub returns-then-accepts-clause-place : goal.returns-then-accepts-clause-place
returns-then-accepts-clause-place g c p agrees =
    let ms = c.args.chain.now in
    let j = c.loop-end.end - 1 in
    let lt : j < length ms = omega (arith, c.loop-end.invariant.within, c.loop-end-test.true) in
    let n = length-map ms version in
    let m : Stored = record { cell = record { table = record { 0 = 0 }; key = 0 }; writer = record { 0 = 0 }; value = None } in
    last_where_is (map version ms) p (λ u b. g.F.Fn.post c.args.f.now (u, tt) b) agrees c.args.from (Some j) (
      omega (arith, c.loop-end-test.true),
      omega (arith, lt, n),
      λ d. subst (λ (u : Txn). g.F.Fn.post c.args.f.now (u, tt) true) (sym (writer_of ms j m d lt)) c.if-accepts.ensures,
      λ k d above low.
          let inside : k < length ms = omega (arith, low, n) in
          subst (λ (u : Txn). g.F.Fn.post c.args.f.now (u, tt) false) (sym (writer_of ms k (blank d) d inside))
          (c.loop-end.invariant.refused k (blank d) (omega (arith, above, c.loop-end-test.true)) inside),
    )

pub returns-clause-place : goal.returns-clause-place
returns-clause-place g c p agrees =
    let ms = c.args.chain.now in
    let n = length-map ms version in
    last_where_is (map version ms) p (λ u b. g.F.Fn.post c.args.f.now (u, tt) b) agrees c.args.from None (λ k d above low.
    let inside : k < length ms = omega (arith, low, n) in
    subst (λ (u : Txn). g.F.Fn.post c.args.f.now (u, tt) false) (sym (writer_of ms k (blank d) d inside))
    (c.loop-end.invariant.refused k (blank d) (omega (arith, above, c.loop-end-test.false)) inside))

pub returns-then-accepts-clause-within : goal.returns-then-accepts-clause-within
returns-then-accepts-clause-within g c = omega (arith, c.loop-end.invariant.within, c.loop-end-test.true, length-map c.args.chain.now version)
