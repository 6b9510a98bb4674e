use Rattle.std.proofs.Common.{◌≡◌, ◌<◌, ◌≤◌, ℕ, List, [], false, Some, None, length, get_or, sym, ap, ◌∙◌, arith}
use Rattle.std.proofs.lemmas.Grind.{common_steps}
use Rattle.std.specs.Str.{bytes_eq}
use Rattle.std.specs.List.{position_or_len, slice_get}
use Rattle.std.proofs.lemmas.List.Sums.{position_or_len_is}
use Rattle.std.proofs.lemmas.Option.{get_or_from_slice_get}
use Rattle.teb_rules.specs.names.Names.{number_of}
use Rattle.tebaldi_c.proofs.naming.number_in.Goals as goal
use borrow.Author.Count.{below_more}

-- if a name differs from all n first ones, and there are no others, it is not in the list
none_has : (names : List (List ℕ)) (name : List ℕ) (n : ℕ) → length names ≤ n → ((k : ℕ) → k < n → bytes_eq name (get_or names k []) ≡ false) → number_of names name ≡ None
none_has names name n all differ =
    let at : position_or_len (bytes_eq name) names ≡ length names = position_or_len_is (bytes_eq name) names (length names) [] (omega arith) (λ k low. differ k (omega arith))
    (λ low. absurd (omega arith)) in
    grind (arith, common_steps, at)

differs : (names : List (List ℕ)) (name x : List ℕ) (n : ℕ) → slice_get names n ≡ Some x → bytes_eq name x ≡ false → bytes_eq name (get_or names n []) ≡ false
differs names name x n at other = ap (bytes_eq name) (get_or_from_slice_get names n x [] at) ∙ other

pub loop-number-preserved : goal.loop-number-preserved
loop-number-preserved c =
    below_more (λ (k : ℕ). bytes_eq c.args.name.now (get_or c.args.names.now k []) ≡ false) c.loop-number.number c.loop-number.invariant
    (differs c.args.names.now c.args.name.now c.name.result.now c.loop-number.number c.name.ensures.name
    (ap (bytes_eq c.args.name.now) (sym c.as_bytes.ensures.value) ∙ sym c.eq.ensures ∙ c.if-eq.false))

pub returns : goal.returns
returns c = sym (none_has c.args.names.now c.args.name.now c.loop-number.number (omega (arith, c.len-number-end.ensures.count)) c.loop-number.invariant)
