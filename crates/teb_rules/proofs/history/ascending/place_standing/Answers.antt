use Rattle.std.proofs.Common.{◌≡◌, ◌∙◌, get_or, set, Ok, Err, List, sym, ap, arith}
use Rattle.std.proofs.lemmas.List.{get_or_default}
use Rattle.std.proofs.lemmas.List.Edits.{get_or-insert_at}
use Rattle.teb_rules.specs.declared.history.standing.Standing.{Standing}
use Rattle.teb_rules.specs.history.Ascending.{place_of}
use Rattle.teb_rules.specs.history.Standings.{standing_number, standing_at, blank}
use Rattle.teb_rules.proofs.lemmas.history.AscendingLists.{place_in, gap_in, put-set, put-insert, set-insert}
use Rattle.teb_rules.proofs.history.ascending.place_standing.Goals as goal

pub put_in-requires-clause-within : goal.put_in-requires-clause-within
put_in-requires-clause-within c = omega (arith, c.deref.ensures.len, gap_in standing_number c.deref.result.now c.args.t.0 _ (sym c.find_standing.ensures ∙ c.in-Err.is))

pub returns-in-Ok-clause-within : goal.returns-in-Ok-clause-within
returns-in-Ok-clause-within c = omega (arith, c.deref.ensures.len, place_in standing_number c.deref.result.now c.args.t.0 _ (sym c.find_standing.ensures ∙ c.in-Ok.is))

pub returns-in-Ok-clause-found : goal.returns-in-Ok-clause-found
returns-in-Ok-clause-found c d =
    let kept = c.args.standings.now.items in
    let there : place_of standing_number kept c.args.t.0 ≡ Ok c.in-Ok.i = ap (λ (rs : List Standing). place_of standing_number rs c.args.t.0) (sym c.deref.ensures.value) ∙ sym c.find_standing.ensures
    ∙ c.in-Ok.is in
    get_or_default kept c.in-Ok.i d (blank c.args.t) (place_in standing_number kept c.args.t.0 c.in-Ok.i there) ∙ ap (standing_at kept c.args.t) (sym there)

pub returns-in-Ok-clause-over : goal.returns-in-Ok-clause-over
returns-in-Ok-clause-over c r own =
    let kept = c.args.standings.now.items in
    let there : place_of standing_number kept c.args.t.0 ≡ Ok c.in-Ok.i = ap (λ (rs : List Standing). place_of standing_number rs c.args.t.0) (sym c.deref.ensures.value) ∙ sym c.find_standing.ensures
    ∙ c.in-Ok.is in
    sym (put-set standing_number r kept c.in-Ok.i (ap (place_of standing_number kept) own ∙ there))

pub returns-in-Err-clause-within : goal.returns-in-Err-clause-within
returns-in-Err-clause-within c = omega (arith, c.deref.ensures.len, c.put_in.ensures.len, gap_in standing_number c.deref.result.now c.args.t.0 _ (sym c.find_standing.ensures ∙ c.in-Err.is))

pub returns-in-Err-clause-found : goal.returns-in-Err-clause-found
returns-in-Err-clause-found c d =
    let kept = c.args.standings.now.items in
    let gap : place_of standing_number kept c.args.t.0 ≡ Err c.in-Err.i = ap (λ (rs : List Standing). place_of standing_number rs c.args.t.0) (sym c.deref.ensures.value) ∙ sym c.find_standing.ensures
    ∙ c.in-Err.is in
    ap (λ (rs : List Standing). get_or rs c.in-Err.i d) c.put_in.ensures.items
    ∙ get_or-insert_at kept c.in-Err.i c.blank.result d (gap_in standing_number kept c.args.t.0 c.in-Err.i gap)
    ∙ c.blank.ensures ∙ ap (standing_at kept c.args.t) (sym gap)

pub returns-in-Err-clause-over : goal.returns-in-Err-clause-over
returns-in-Err-clause-over c r own =
    let kept = c.args.standings.now.items in
    let gap : place_of standing_number kept c.args.t.0 ≡ Err c.in-Err.i = ap (λ (rs : List Standing). place_of standing_number rs c.args.t.0) (sym c.deref.ensures.value) ∙ sym c.find_standing.ensures
    ∙ c.in-Err.is in
    ap (λ (rs : List Standing). set rs c.in-Err.i r) c.put_in.ensures.items
    ∙ set-insert standing_number kept c.in-Err.i c.blank.result r (gap_in standing_number kept c.args.t.0 c.in-Err.i gap)
    ∙ sym (put-insert standing_number r kept c.in-Err.i (ap (place_of standing_number kept) own ∙ gap))
