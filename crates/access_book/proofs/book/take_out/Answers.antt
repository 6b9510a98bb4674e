use Rattle.std.proofs.Common.{◌≡◌, ◌∙◌, ◌+◌, ◌∷◌, ℕ, suc, ◌<◌, length, drop, get_or, refl, sym, ap, subst, arith}
use Rattle.std.proofs.Math.Seq.{drop-cons}
use Rattle.access_book.specs.declared.accesses.Touch.{Touch}
use Rattle.access_book.specs.declared.accesses.Touch.TheVariants as touch
use Rattle.access_book.specs.Places.{touch_place, reads_here, puts_here, puts_held}
use Rattle.access_book.proofs.Places.{at_all}
use Rattle.access_book.proofs.Filing.{IsTaking, taking_skip, taking_one, held_more}
use Rattle.access_book.proofs.book.take_out.Goals as goal
use Rattle.access_book.proofs.book.take_out.Goals.{in-Read, in-Put}

pub loop-touch-preserved : goal.loop-touch-preserved
loop-touch-preserved c =
    let zs = c.args.touches.now in
    let i = c.loop-touch.touch-index in
    let t = c.args.t in
    let r0 = c.args.readers.now in
    let w0 = c.args.writers.now in
    let r = c.loop-touch.readers in
    let w = c.loop-touch.writers in
    let h = c.loop-touch.invariant in
    let left = drop i zs in
    let rest = drop (i + 1) zs in
    let none : Touch = touch.Read 0 in
    let one : suc i ≡ i + 1 = omega arith in
    let step : drop i zs ≡ get_or zs i none ∷ drop (i + 1) zs = drop-cons zs i none c.loop-touch-test.true ∙ ap (λ (n : ℕ). get_or zs i none ∷ drop n zs) one in
    elim c.match-touch.branch [
      | in-Read k ↦
          let p = k.in-Read.place in
          let q = step ∙ ap (λ z. z ∷ drop (i + 1) zs) k.in-Read.is in
          let lt = at_all (λ z. touch_place z < length r0.lists) zs i none c.requires.readers_known c.loop-touch-test.true in
          let within : p < length r0.lists = omega (arith, lt, ap touch_place k.in-Read.is) in
          let m = ap puts_held q ∙ held_more (touch.Read p) rest in (
            subst (λ b. IsTaking t.0 reads_here r0 b zs rest) (sym k.readers-is)
                (taking_one t reads_here r0 r k.take_by_number.new.self zs left rest (touch.Read p) p h.0 q (λ j. refl) k.take_by_number.ensures.lists k.take_by_number.ensures.spare within),
            subst (λ b. IsTaking t.0 puts_here w0 b zs rest) (sym k.writers-is) (taking_skip t puts_here w0 w w zs left rest (touch.Read p) p h.1 q (λ j. refl)),
            (let n = h.2 in let e = k.puts-is in omega (arith, m, n, e)),
          )
      | in-Put k ↦
          let p = k.in-Put.place in
          let q = step ∙ ap (λ z. z ∷ drop (i + 1) zs) k.in-Put.is in
          let lt = at_all (λ z. touch_place z < length w0.lists) zs i none c.requires.writers_known c.loop-touch-test.true in
          let within : p < length w0.lists = omega (arith, lt, ap touch_place k.in-Put.is) in
          let m = ap puts_held q ∙ held_more (touch.Put p) rest in (
            subst (λ b. IsTaking t.0 reads_here r0 b zs rest) (sym k.readers-is) (taking_skip t reads_here r0 r r zs left rest (touch.Put p) p h.0 q (λ j. refl)),
            subst (λ b. IsTaking t.0 puts_here w0 b zs rest) (sym k.writers-is)
                (taking_one t puts_here w0 w k.take_by_number-in-Put.new.self zs left rest (touch.Put p) p h.1 q (λ j. refl) k.take_by_number-in-Put.ensures.lists k.take_by_number-in-Put.ensures.spare
                within),
            (let n = h.2 in let e = k.puts-is in omega (arith, m, n, e)),
          )
    ]
