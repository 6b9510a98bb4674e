use Rattle.std.proofs.Common.{arith, ◌≡◌, ◌<◌, ap, List, ℕ, Some, length, slice_get, get_or, subst}
use Rattle.std.specs.List.{IsDistinct}
use Rattle.std.specs.Str.{bytes_eq}
use Rattle.teb_rules.proofs.lemmas.names.Texts.{number_of_itself, text_at}
use Rattle.teb_rules.specs.names.Names.{texts}
use Rattle.teb_rules.proofs.names.naming.Names.name.Goals as goal

pub returns-clause-number : goal.returns-clause-number
returns-clause-number c =
    let ks = c.self.inside.set.keys in
    let k = c.index-as_slice-from.result in
    let low : c.args.i < length (texts ks) = omega (arith, c.requires, ap length c.self.view_is) in
    let read : k ≡ get_or ks c.args.i k = cc in
    let name : slice_get c.args.self.now c.args.i ≡ Some c.as_str.result.now =
    subst (λ (l : List (List ℕ)). slice_get l c.args.i ≡ Some c.as_str.result.now) c.self.view_is (rw c.as_str.ensures.value (text_at ks c.args.i k low read)) in
    number_of_itself c.args.self.now c.args.i c.as_str.result.now (subst (IsDistinct bytes_eq) c.self.view_is c.self.invariant.1) name
