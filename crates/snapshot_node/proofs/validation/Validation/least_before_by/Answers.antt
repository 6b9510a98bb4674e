use Rattle.std.proofs.Common.{◌≡◌, ◌∙◌, ◌+◌, ◌∷◌, Option, None, get_or, drop, refl, sym, subst, add-one, drop-cons}
use Rattle.std.proofs.lemmas.Bool.{both_ways}
use Rattle.std.proofs.lemmas.List.{drop_all}
use Rattle.teb_rules.specs.declared.names.Txn.{Txn}
use Rattle.phase_api.specs.FactsView.{setup_of, events_of}
use Rattle.snapshot_node.specs.Pivots.{Reaches, ComesInAmong}
use Rattle.snapshot_node.proofs.Listed.{at_among}
use Rattle.snapshot_node.proofs.Least.{Remains, least_as, remains_start, remains_next, remains_skip, remains_end}
use Rattle.snapshot_node.proofs.Comers.{ComesThrough, IsLast, last_first, last_next, remains_mate, through_comes, comes_through}
use Rattle.snapshot_node.proofs.validation.Validation.least_before_by.Goals as goal
use Rattle.snapshot_node.proofs.validation.Validation.least_before_by.Goals.{then-is_at_stake+then-are_across+then-not-are_one_batch, else-is_at_stake}
use Rattle.snapshot_node.proofs.validation.Validation.least_before_by.Goals.{else-is_at_stake-via-then-is_at_stake+then-are_across+else-not-are_one_batch}
use Rattle.snapshot_node.proofs.validation.Validation.least_before_by.Goals.{else-is_at_stake-via-then-is_at_stake+else-are_across, else-is_at_stake-via-else-is_at_stake}

pub loop-c-init : goal.loop-c-init
loop-c-init c =
    let S = setup_of c.args.self.now.asked.facts.now in
    let H = events_of c.args.self.now.asked.facts.now in
    let n = c.args.self.now.asked.register.now.node.0 in
    let t = c.args.self.now.t.0 in
    let cs = c.args.among.now in
    record {
      remains = remains_start (ComesThrough S H n t) (ComesInAmong S H n t cs) cs cs refl (through_comes S H n t cs) (comes_through S H n t cs);
      last = last_first S H n t c.args.self.now.t None c.args.self.now.here.typed.begun refl;
    }

pub are_across-requires-clause-right : goal.are_across-requires-clause-right
are_across-requires-clause-right c = c.requires.among_here _ (at_among c.args.among.now c.loop-c.c-index _ c.loop-c-test.true)

pub are_one_batch-requires-clause-begun_b : goal.are_one_batch-requires-clause-begun_b
are_one_batch-requires-clause-begun_b c = c.loop-c.invariant.last.there

pub are_one_batch-requires-clause-begun_c : goal.are_one_batch-requires-clause-begun_c
are_one_batch-requires-clause-begun_c c = (c.requires.among_here _ (at_among c.args.among.now c.loop-c.c-index _ c.loop-c-test.true)).typed.begun

pub least_into-requires-clause-here : goal.least_into-requires-clause-here
least_into-requires-clause-here c = c.requires.among_here _ (at_among c.args.among.now c.loop-c.c-index _ c.loop-c-test.true)

pub loop-c-preserved : goal.loop-c-preserved
loop-c-preserved c =
    let S = setup_of c.args.self.now.asked.facts.now in
    let H = events_of c.args.self.now.asked.facts.now in
    let n = c.args.self.now.asked.register.now.node.0 in
    let t = c.args.self.now.t.0 in
    let i = c.loop-c.c-index in
    let cs = c.args.among.now in
    let u : Txn = get_or cs i (record { 0 = 0 }) in
    let Q = ComesThrough S H n t in
    let P = ComesInAmong S H n t cs in
    let l = c.loop-c-test.true in
    let here = c.requires.among_here u.0 (at_among cs i (record { 0 = 0 }) l) in
    let next : drop i cs ≡ u ∷ drop (i + 1) cs = rw (add-one, drop-cons cs i (record { 0 = 0 })) refl in
    let R = λ (last : Txn) (best : Option Txn). record { remains : Remains Q P (drop (i + 1) cs) best; last : IsLast S H n t last best } in
    elim c.if-is_at_stake.branch [
      | then-is_at_stake+then-are_across+then-not-are_one_batch w ↦ subst (λ (z : Txn). R z c.if-is_at_stake.least) (sym w.last-is)
          (subst (λ (y : Option Txn). R u y) (sym (w.least-is ∙ w.lesser-least.ensures)) (record {
            remains = remains_next Q P u (drop i cs) (drop (i + 1) cs) c.loop-c.least w.least_into.result next c.loop-c.invariant.remains
                (least_as (Reaches S H n t u.0) (Q u) w.least_into.result (λ a r. (sym c.is_at_stake.ensures ∙ w.if-is_at_stake.true, sym w.are_across.ensures ∙ w.if-are_across.true, r))
                (λ a q. q.2) w.least_into.ensures);
            last = last_next S H n t u c.loop-c.least w.least_into.result here.typed.begun w.least_into.ensures;
          }))
      | else-is_at_stake w ↦ subst (λ (z : Txn). R z c.if-is_at_stake.least) (sym w.last-is) (subst (λ (y : Option Txn). R c.loop-c.last y) (sym w.least-is) (record {
        remains = elim w.else-is_at_stake.branch as (λ x. Remains Q P (drop (i + 1) cs) c.loop-c.least) [
          | else-is_at_stake-via-then-is_at_stake+then-are_across+else-not-are_one_batch v ↦ remains_mate S H n t P c.loop-c.last u c.loop-c.least (drop i cs)
              (drop (i + 1) cs) next c.loop-c.invariant.last (sym v.are_one_batch.ensures ∙ v.if-not-are_one_batch.false)
              (sym c.is_at_stake.ensures ∙ v.if-is_at_stake.true) (sym v.are_across.ensures ∙ v.if-are_across.true) c.loop-c.invariant.remains
          | else-is_at_stake-via-then-is_at_stake+else-are_across v ↦ remains_skip Q P u (drop i cs) (drop (i + 1) cs) c.loop-c.least next c.loop-c.invariant.remains
              (λ a q. both_ways _ (sym v.are_across.ensures ∙ v.if-are_across.false) q.1)
          | else-is_at_stake-via-else-is_at_stake v ↦ remains_skip Q P u (drop i cs) (drop (i + 1) cs) c.loop-c.least next c.loop-c.invariant.remains
              (λ a q. both_ways _ (sym c.is_at_stake.ensures ∙ v.if-is_at_stake.false) q.0)
        ];
        last = c.loop-c.invariant.last;
      }))
    ]

pub returns : goal.returns
returns c =
    let S = setup_of c.args.self.now.asked.facts.now in
    let H = events_of c.args.self.now.asked.facts.now in
    let n = c.args.self.now.asked.register.now.node.0 in
    let t = c.args.self.now.t.0 in
    let cs = c.args.among.now in
    remains_end (ComesThrough S H n t) (ComesInAmong S H n t cs) (drop c.loop-c.c-index cs) c.loop-c.least (drop_all c.loop-c.c-index cs c.loop-c-test.false) c.loop-c.invariant.remains
