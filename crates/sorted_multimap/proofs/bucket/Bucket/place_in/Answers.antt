use Rattle.std.proofs.Common.{◌≡◌, ◌-◌, ◌+◌, ◌∙◌, ap, sym, arith, take, drop, List}
use Rattle.teb_rules.specs.history.Ascending.{place_of}
use Rattle.sorted_multimap.specs.Buckets.{bucket_values}
use Rattle.sorted_multimap.proofs.BucketEdits.{range_held, found_in, missing_in}
use Rattle.sorted_multimap.proofs.bucket.Bucket.place_in.Goals as goal

pub returns-in-Ok-clause-held : goal.returns-in-Ok-clause-held
returns-in-Ok-clause-held g c = let at = c.range_of-start.ensures in range_held g.K.Ord.cmp g.met.K.Ord.total c.args.self.now c.requires.sorted c.args.key _ _ at.start at.end

pub returns-in-Err-clause-held : goal.returns-in-Err-clause-held
returns-in-Err-clause-held g c = let at = c.range_of-start.ensures in range_held g.K.Ord.cmp g.met.K.Ord.total c.args.self.now c.requires.sorted c.args.key _ _ at.start at.end

pub returns-in-Ok-clause-place : goal.returns-in-Ok-clause-place
returns-in-Ok-clause-place g c =
    let by = g.V.Numbered.numbered_by in
    let at = c.range_of-start.ensures in
    let run : take (c.range_of-start.result.1 - c.range_of-start.result.0) (drop c.range_of-start.result.0 c.deref.result.now) ≡ bucket_values g.K.Ord.cmp c.args.self.now c.args.key =
    ap (λ (l : List _). take (c.range_of-start.result.1 - c.range_of-start.result.0) (drop c.range_of-start.result.0 l)) c.deref.ensures.value ∙ at.values in
    found_in g.K.Ord.cmp g.met.K.Ord.total c.args.self.now c.requires.sorted by c.args.key c.args.number c.in-Ok.i _ (ap (λ m. m + c.in-Ok.i) at.start)
    (ap (λ (l : List _). place_of by l c.args.number) (sym run) ∙ sym c.find_number.ensures ∙ c.in-Ok.is)

pub returns-in-Err-clause-place : goal.returns-in-Err-clause-place
returns-in-Err-clause-place g c =
    let by = g.V.Numbered.numbered_by in
    let at = c.range_of-start.ensures in
    let run : take (c.range_of-start.result.1 - c.range_of-start.result.0) (drop c.range_of-start.result.0 c.deref.result.now) ≡ bucket_values g.K.Ord.cmp c.args.self.now c.args.key =
    ap (λ (l : List _). take (c.range_of-start.result.1 - c.range_of-start.result.0) (drop c.range_of-start.result.0 l)) c.deref.ensures.value ∙ at.values in
    missing_in g.K.Ord.cmp g.met.K.Ord.total c.args.self.now c.requires.sorted by c.args.key c.args.number c.in-Err.i _ (ap (λ m. m + c.in-Err.i) at.start)
    (ap (λ (l : List _). place_of by l c.args.number) (sym run) ∙ sym c.find_number.ensures ∙ c.in-Err.is)

pub overflow_add-result : goal.overflow_add-result
overflow_add-result g c = let at = c.range_of-start.ensures in let f = returns-in-Ok-clause-place g c in omega (arith, f.top, at.end, at.within, c.deref.ensures.len, c.deref.type_inv.0)

pub overflow_add-result-in-Err : goal.overflow_add-result-in-Err
overflow_add-result-in-Err g c = let at = c.range_of-start.ensures in let f = returns-in-Err-clause-place g c in omega (arith, f.top, at.end, at.within, c.deref.ensures.len, c.deref.type_inv.0)
