use Rattle.std.proofs.Common.{◌≡◌, ℕ, ◌+◌, List, [], ◌∷◌, ◌++◌, get_or, take, vec_len, append_assoc, sym, ◌∙◌, ap, arith}
use Rattle.script_text.specs.declared.Line.{Line}
use Rattle.shop_load.specs.Loads.{asked_by, begin, numbered}
use Rattle.shop_load.proofs.Loading.{asked_more}
use Rattle.shop_load.proofs.lines.add_requests.Goals as goal

pub loop-request-preserved : goal.loop-request-preserved
loop-request-preserved c =
    let old = c.args.lines.now in
    let s = c.args.session in
    let rs = c.args.requests.now in
    let i = c.loop-request.request-index in
    let so_far = numbered (vec_len old + 1) (asked_by s (take i rs)) in
    let i' = c.loop-request.invariant.len in
    let n : c.len.result + 1 ≡ vec_len old + 1 + i = omega (arith, c.len.ensures) in
    record {
      lines = c.in_ok-push.ensures.items
          ∙ ap (λ (k : ℕ). c.loop-request.lines.items ++ record { number = k; session = s; request = get_or rs i (begin 0) } ∷ []) n
          ∙ ap (λ (ls : List Line). ls ++ record { number = vec_len old + 1 + i; session = s; request = get_or rs i (begin 0) } ∷ []) c.loop-request.invariant.lines
          ∙ append_assoc old.items so_far (record { number = vec_len old + 1 + i; session = s; request = get_or rs i (begin 0) } ∷ [])
          ∙ ap (λ (ls : List Line). old.items ++ ls) (sym (asked_more (vec_len old + 1) s rs i (begin 0) c.loop-request-test.true));
      len = omega (arith, c.in_ok-push.ensures.len);
    }
