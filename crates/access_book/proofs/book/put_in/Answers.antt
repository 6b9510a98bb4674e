use Rattle.std.proofs.Common.{◌≡◌, ◌∙◌, ◌+◌, ◌∷◌, ℕ, suc, drop, get_or, sym, ap, subst, arith}
use Rattle.std.proofs.Math.Seq.{drop-cons}
use Rattle.access_book.specs.declared.accesses.Touch.{Touch}
use Rattle.access_book.specs.declared.accesses.Touch.TheVariants as touch
use Rattle.access_book.proofs.Filing.{IsFiling, filing_skip, filing_put}
use Rattle.access_book.proofs.book.put_in.Goals as goal
use Rattle.access_book.proofs.book.put_in.Goals.{in-Put, in_default}

pub loop-touch-preserved : goal.loop-touch-preserved
loop-touch-preserved c =
    let zs = c.args.touches.now in
    let i = c.loop-touch.touch-index in
    let a = c.args.committed.now in
    let b = c.loop-touch.committed in
    let one : suc i ≡ i + 1 = omega arith in
    let none : Touch = touch.Read 0 in
    let step : drop i zs ≡ get_or zs i none ∷ drop (i + 1) zs = drop-cons zs i none c.loop-touch-test.true ∙ ap (λ (n : ℕ). get_or zs i none ∷ drop n zs) one in
    elim c.match-touch.branch [
      | in-Put w ↦ subst (λ k. IsFiling c.args.t.0 a k zs (drop (i + 1) zs) c.match-touch.puts) (sym w.committed-is)
          (subst (λ (n : ℕ). IsFiling c.args.t.0 a w.put_by_number.new.self zs (drop (i + 1) zs) n) (sym w.puts-is)
          (filing_put c.args.t a b w.put_by_number.new.self zs (drop i zs) (drop (i + 1) zs) c.loop-touch.puts w.in-Put.place w.put_by_number.result c.loop-touch.invariant
          (step ∙ ap (λ z. z ∷ drop (i + 1) zs) w.in-Put.is) w.put_by_number.ensures.lists w.put_by_number.ensures.spare))
      | in_default w ↦ subst (λ k. IsFiling c.args.t.0 a k zs (drop (i + 1) zs) c.match-touch.puts) (sym w.committed-is)
          (subst (λ (n : ℕ). IsFiling c.args.t.0 a b zs (drop (i + 1) zs) n) (sym w.puts-is)
          (filing_skip c.args.t a b b zs (drop i zs) (drop (i + 1) zs) c.loop-touch.puts w.in_default.field-0 c.loop-touch.invariant (step ∙ ap (λ z. z ∷ drop (i + 1) zs) w.in_default.is)))
    ]
