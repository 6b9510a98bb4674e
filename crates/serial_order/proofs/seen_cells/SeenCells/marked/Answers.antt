use Rattle.std.proofs.Common.{◌≡◌, ◌++◌, ◌∷◌, [], ◌+◌, ◌-◌, true, false, List, Vec, Global, get_or, sym, ap, ◌∙◌, append_assoc, ◌<◌, length, arith}
use Rattle.std.proofs.lemmas.List.{get_or_read}
use Rattle.teb_rules.specs.declared.names.Cell.{Cell}
use Rattle.serial_order.specs.Seen.{cell_at, marked_cells}
use Rattle.serial_order.proofs.Seen.{more_marked, more_unmarked}
use Rattle.serial_order.proofs.seen_cells.SeenCells.marked.Goals as goal
use Rattle.serial_order.proofs.seen_cells.SeenCells.marked.Goals.{then-index+in_ok-push, else-index}

pub loop-place-preserved : goal.loop-place-preserved
loop-place-preserved c =
    let s = c.args.self.now in
    let i = c.loop-place.place in
    let low : i < length s.marks.items = (let z = c.requires.within in omega arith) in
    let rest = marked_cells s.width s.marks.items (i + 1) (s.end - (i + 1)) in
    elim c.if-index.branch [
      | then-index+in_ok-push w ↦ (
          let m : get_or s.marks.items i false ≡ true = sym (get_or_read s.marks.items i c.index.result.now low c.index.ensures false) ∙ w.if-index.true in
          ap (λ (v : Vec Cell Global). v.items ++ rest) w.cells-is
          ∙ ap (λ (xs : List Cell). xs ++ rest) (w.in_ok-push.ensures.items ∙ ap (λ (x : Cell). c.loop-place.cells.items ++ x ∷ []) w.cell_at.ensures)
          ∙ append_assoc c.loop-place.cells.items (cell_at s.width i ∷ []) rest
          ∙ ap (λ (xs : List Cell). c.loop-place.cells.items ++ xs) (sym (more_marked s.width s.marks.items i s.end c.loop-place-test.true m))
          ∙ c.loop-place.invariant)
      | else-index w ↦ (
          let m : get_or s.marks.items i false ≡ false = sym (get_or_read s.marks.items i c.index.result.now low c.index.ensures false) ∙ w.if-index.false in
          ap (λ (v : Vec Cell Global). v.items ++ rest) w.cells-is
          ∙ ap (λ (xs : List Cell). c.loop-place.cells.items ++ xs) (sym (more_unmarked s.width s.marks.items i s.end c.loop-place-test.true m))
          ∙ c.loop-place.invariant)
    ]
