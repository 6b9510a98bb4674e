use Rattle.std.proofs.Common.{◌+◌, ◌∷◌, [], List, ℕ, length, sym, ◌∙◌, ap, arith, drop, length-drop, Bor, Vec, Global, vec_capacity}
use Rattle.crash_disk.specs.Log.{Logged, contents, steps, total, after_steps}
use Rattle.crash_disk.proofs.Logged.{replayed, next_fits}
use Rattle.crash_disk.specs.declared.call.Call.{Call}
use Rattle.crash_disk.specs.declared.call.Call.TheVariants as call
use Rattle.std.proofs.lemmas.List.{drop_more}
use Rattle.crash_disk.proofs.log.Log.replay.Goals as goal
use Rattle.crash_disk.proofs.log.Log.replay.Goals.{in-Write+in-Ok, in_default}

pub loop-call-init : goal.loop-call-init
loop-call-init c =
    let m = c.self.inside in
    let calls = c.deref-call-items.ensures.value in
    let rest = c.deref-rest.ensures.value in
    record {
      told =
          ap (λ (l : List ℕ). after_steps l (steps c.deref-call-items.result.now c.deref-rest.result.now)) c.requires.empty
          ∙ ap (λ (cs : List Call). after_steps [] (steps cs c.deref-rest.result.now)) calls
          ∙ ap (λ (b : List ℕ). after_steps [] (steps m.calls.items b)) rest
          ∙ ap (λ (l : Logged). after_steps [] l.steps) c.self.view_is;
      counted = ap total calls ∙ c.self.invariant.counted ∙ ap length (sym rest);
      capacity = omega arith;
    }

pub split_at-requires : goal.split_at-requires
split_at-requires c =
    let items = c.deref-call-items.result.now in
    let at_hand = drop_more items c.loop-call.call-index (call.Write 0 0) c.loop-call-test.true ∙ ap (λ (z : Call). z ∷ drop (c.loop-call.call-index + 1) items) c.in-Write.is in
    omega (arith, ap total at_hand, c.loop-call.invariant.counted)

pub put-requires : goal.put-requires
put-requires c =
    let items = c.deref-call-items.result.now in
    let at_hand = drop_more items c.loop-call.call-index (call.Write 0 0) c.loop-call-test.true ∙ ap (λ (z : Call). z ∷ drop (c.loop-call.call-index + 1) items) c.in-Write.is in
    let image = c.loop-call.image in
    let told = ap (λ (cs : List Call). after_steps image.items (steps cs c.loop-call.rest.now)) (sym at_hand) ∙ c.loop-call.invariant.told in
    omega (
      arith,
      image.small,
      c.requires.room,
      c.loop-call.invariant.capacity,
      next_fits c.in-Write.at c.in-Write.len image.items c.loop-call.rest.now c.split_at.result.0.now
          (drop (c.loop-call.call-index + 1) items) (contents c.args.self.now.steps) told c.split_at.ensures.front,
    )

pub unreachable-requires : goal.unreachable-requires
unreachable-requires c =
    let items = c.deref-call-items.result.now in
    let at_hand = drop_more items c.loop-call.call-index (call.Write 0 0) c.loop-call-test.true ∙ ap (λ (z : Call). z ∷ drop (c.loop-call.call-index + 1) items) c.in-Write.is in
    let image = c.loop-call.image in
    let told = ap (λ (cs : List Call). after_steps image.items (steps cs c.loop-call.rest.now)) (sym at_hand) ∙ c.loop-call.invariant.told in
    let fits = next_fits c.in-Write.at c.in-Write.len image.items c.loop-call.rest.now c.split_at.result.0.now (drop (c.loop-call.call-index + 1) items) (contents c.args.self.now.steps) told
    c.split_at.ensures.front in
    absurd (cc (c.in_default-put.ensures.sure (omega (arith, fits, c.requires.room, c.loop-call.invariant.capacity))))

pub loop-call-preserved : goal.loop-call-preserved
loop-call-preserved c =
    let i = c.loop-call.call-index in
    let items = c.deref-call-items.result.now in
    let inv = c.loop-call.invariant in
    elim c.match-call.branch [
      | in_default w ↦ (let at_hand = drop_more items i (call.Write 0 0) c.loop-call-test.true ∙ ap (λ (z : Call). z ∷ drop (i + 1) items) w.in_default.is in record {
        told =
            ap (λ (v : Vec ℕ Global). after_steps v.items (steps (drop (i + 1) items) c.match-call.rest.now)) w.image-is
            ∙ ap (λ (b : Bor (List ℕ)). after_steps c.loop-call.image.items (steps (drop (i + 1) items) b.now)) w.rest-is
            ∙ ap (λ (cs : List Call). after_steps c.loop-call.image.items (steps cs c.loop-call.rest.now)) (sym at_hand)
            ∙ inv.told;
        counted = ap total (sym at_hand) ∙ inv.counted ∙ ap (λ (b : Bor (List ℕ)). length b.now) (sym w.rest-is);
        capacity = omega (arith, inv.capacity, ap (λ (v : Vec ℕ Global). vec_capacity v) w.image-is);
      })
      | in-Write+in-Ok w ↦ (let at_hand = drop_more items i (call.Write 0 0) c.loop-call-test.true ∙ ap (λ (z : Call). z ∷ drop (i + 1) items) w.in-Write.is in
          let counted = ap total (sym at_hand) ∙ inv.counted in
          let rest_is = ap (λ (b : Bor (List ℕ)). b.now) w.rest-is ∙ w.split_at.ensures.back in record {
            told = replayed w.in-Write.at w.in-Write.len c.loop-call.image.items c.loop-call.rest.now c.match-call.image.items c.match-call.rest.now w.split_at.result.0.now (drop (i + 1) items) _
                (ap (λ (cs : List Call). after_steps c.loop-call.image.items (steps cs c.loop-call.rest.now)) (sym at_hand) ∙ inv.told) w.split_at.ensures.front rest_is
                (ap (λ (v : Vec ℕ Global). v.items) w.image-is ∙ w.in-Ok.ensures.put);
            counted = omega (arith, counted, ap length rest_is, length-drop w.in-Write.len c.loop-call.rest.now);
            capacity = omega (arith, inv.capacity, ap (λ (v : Vec ℕ Global). vec_capacity v) w.image-is, w.put.ensures.capacity);
          })
    ]
