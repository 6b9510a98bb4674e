use Rattle.std.proofs.Common.{◌≡◌, ℕ, ◌∙◌, Result, List, cond, eqb, sym, ap, arith}
use Rattle.teb_rules.specs.history.Ascending.{place_of}
use Rattle.teb_rules.proofs.lemmas.history.AscendingLists.{place_in, gap_in, put-set, put-insert}
use Rattle.arena_multimap.specs.Arenas.{list_at}
use Rattle.arena_multimap.proofs.Segments.{less_room}
use Rattle.arena_multimap.proofs.arena.Arena.put_by_number.Goals as goal

-- the place that was found is a place in L
found : {V : Type 0} (by : V → ℕ) (l L : List V) (m n : ℕ) (r : Result ℕ ℕ) → r ≡ place_of by l m → l ≡ L → m ≡ n → place_of by L n ≡ r
found by l L m n r e same number = sym (e ∙ ap (λ (l : List _). place_of by l m) same ∙ ap (place_of by L) number)

pub replace-requires-clause-at : goal.replace-requires-clause-at
replace-requires-clause-at g c =
    let by = g.V.Numbered.numbered_by in
    let L = list_at c.args.self.now c.args.i in
    place_in by L (by c.args.value) c.in-Ok.at (found by c.list.result.now L _ _ _ c.find_number.ensures c.list.ensures c.number.ensures ∙ c.in-Ok.is)

pub insert-requires-clause-at : goal.insert-requires-clause-at
insert-requires-clause-at g c =
    let by = g.V.Numbered.numbered_by in
    let L = list_at c.args.self.now c.args.i in
    gap_in by L (by c.args.value) c.in-Err.at (found by c.list.result.now L _ _ _ c.find_number.ensures c.list.ensures c.number.ensures ∙ c.in-Err.is)

pub returns-in-Ok-clause-values : goal.returns-in-Ok-clause-values
returns-in-Ok-clause-values g c j =
    let by = g.V.Numbered.numbered_by in
    let L = list_at c.args.self.now c.args.i in
    c.replace.ensures.values j
    ∙ ap (λ (l : List _). cond (eqb j c.args.i) l (list_at c.args.self.now j))
    (sym (put-set by c.args.value L c.in-Ok.at (found by c.list.result.now L _ _ _ c.find_number.ensures c.list.ensures c.number.ensures ∙ c.in-Ok.is)))

pub returns-in-Ok-clause-room : goal.returns-in-Ok-clause-room
returns-in-Ok-clause-room g c n room = c.replace.ensures.room n (less_room room n n (omega arith) (omega arith))

pub returns-in-Err-clause-values : goal.returns-in-Err-clause-values
returns-in-Err-clause-values g c j =
    let by = g.V.Numbered.numbered_by in
    let L = list_at c.args.self.now c.args.i in
    c.insert.ensures.values j
    ∙ ap (λ (l : List _). cond (eqb j c.args.i) l (list_at c.args.self.now j))
    (sym (put-insert by c.args.value L c.in-Err.at (found by c.list.result.now L _ _ _ c.find_number.ensures c.list.ensures c.number.ensures ∙ c.in-Err.is)))
