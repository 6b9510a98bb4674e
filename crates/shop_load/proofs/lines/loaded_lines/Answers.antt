use Rattle.std.proofs.Common.{◌≡◌, ℕ, ◌+◌, List, ◌++◌, length, vec_len, sym, ◌∙◌, ap, ap₂, arith, length-append}
use Rattle.teb_rules.specs.declared.names.Session.{Session}
use Rattle.script_text.specs.declared.Line.{Line}
use Rattle.shop_load.specs.Loads.{asked_by, loaded_lines, next_state, numbered, requests_from, session_of}
use Rattle.shop_load.proofs.Loading.{loaded_more, loaded_none, state_more, state_none, few_lines}
use Rattle.shop_load.proofs.lines.loaded_lines.Goals as goal

pub loop-i-init : goal.loop-i-init
loop-i-init c = record {
  lines = c.in_ok-lines.ensures.items ∙ sym (loaded_none c.args.number);
  draws = sym (state_none c.args.number);
  few = omega (arith, c.in_ok-lines.ensures.len);
}

pub loop-i-preserved : goal.loop-i-preserved
loop-i-preserved c =
    let number = c.args.number in
    let i = c.loop-i.i in
    let s : Session = session_of i in
    let x = c.loop-i.draws.state in
    let old = c.loop-i.lines in
    let so_far = c.loop-i.invariant.lines in
    let added = c.in_ok-add_transaction.ensures.lines in
    let k = old.ok.0 in
    let z = ap length so_far in
    let n : vec_len old + 1 ≡ length (loaded_lines number i) + 1 = omega arith in
    record {
      lines = added ∙ ap (λ (ls : List Line). ls ++ numbered (vec_len old + 1) (asked_by s (requests_from x i))) so_far
          ∙ ap₂ (λ (m y : ℕ). loaded_lines number i ++ numbered m (asked_by s (requests_from y i))) n c.loop-i.invariant.draws
          ∙ sym (loaded_more number i);
      draws = c.add_transaction.ensures.state ∙ ap (λ (y : ℕ). next_state (next_state (next_state y))) c.loop-i.invariant.draws ∙ state_more number i;
      few = (
          let a = ap length added in
          let b = length-append old.items (numbered (vec_len old + 1) (asked_by s (requests_from x i))) in
          let d = few_lines (vec_len old + 1) s x i in
          let e = c.add_transaction.new.lines.ok.0 in
          let f = c.loop-i.invariant.few in omega arith);
    }

pub returns : goal.returns
returns c = c.loop-i.invariant.lines ∙ ap (loaded_lines c.args.number) (let e : c.loop-i.i ≡ c.args.size = omega arith in e)
